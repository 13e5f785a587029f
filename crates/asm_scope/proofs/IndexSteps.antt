-- An index of names that grows by one.
use Rattle.std.proofs.Common.{◌≡◌, ℕ, ◌+◌, ◌<◌, Bool, true, false, cond, List, [], ◌∷◌, ◌++◌, length, take, get_or, Option, Some, None, is_some, refl, sym, ap, ◌∙◌, if◌then◌else◌, bytes_eq, string_bytes, string_eq}
use Rattle.std.specs.HashMap.{HashMap, UpdatesBy, get_by_text}
use Rattle.std.specs.Map.{lookup}
use Rattle.std.proofs.lemmas.Map.Text.{hash_map_updates_text}
use Rattle.std.specs.declared.string.String.{String}
use Rattle.std.proofs.lemmas.List.{take_more}
use Rattle.std.proofs.lemmas.Slice.Eq.{bytes_eq-Decides}
use Rattle.asm_program.specs.declared.named.Named.{Named}
use Rattle.asm_program.specs.Signatures.{Names, find}
use Rattle.asm_scope.specs.Index.{IsIndexOf, or_this, found_in}

found_after : (n x : List ℕ × Named) (ms ns : Names) (q : List ℕ) (b : Bool) → find ms q ≡ or_this (find ns q) (found_in x q)
    → (if b then Some n.1 else find ms q) ≡ or_this (if b then Some n.1 else find ns q) (found_in x q)
found_after n x ms ns q true h = refl
found_after n x ms ns q false h = h

find-more : (ns : Names) (x : List ℕ × Named) (q : List ℕ) → find (ns ++ x ∷ []) q ≡ or_this (find ns q) (found_in x q)
find-more [] x q = refl
find-more (n ∷ ns) x q = found_after n x (ns ++ x ∷ []) ns q (bytes_eq n.0 q) (find-more ns x q)

or_this-known : (o other : Option Named) → is_some o ≡ true → o ≡ or_this o other
or_this-known (Some n) other h = refl
or_this-known None other h = absurd (cc h)

or_this-none : (o : Option Named) → o ≡ or_this o None
or_this-none (Some n) = refl
or_this-none None = refl

not_some : (o : Option Named) → is_some o ≡ false → o ≡ None
not_some (Some n) h = absurd (cc h)
not_some None h = refl

module _ {Y S : Type 0} (m : HashMap (String Y) Named S) (x : List ℕ × Named) where
  -- a name that is there already, and one that isn't
  pub keeps : true ≡ is_some (get_by_text m x.0) → (q : List ℕ) → get_by_text m q ≡ or_this (get_by_text m q) (found_in x q)
  keeps k q = by (bytes_eq x.0 q) refl
    where
      by : (b : Bool) → bytes_eq x.0 q ≡ b → get_by_text m q ≡ or_this (get_by_text m q) (if b then Some x.1 else None)
      by true e =
          let same : x.0 ≡ q = (bytes_eq-Decides x.0 q).0 e in
          or_this-known (get_by_text m q) (Some x.1) (ap (λ p. is_some (get_by_text m p)) (sym same) ∙ sym k)
      by false e = or_this-none (get_by_text m q)

  pub gains : (n : HashMap (String Y) Named S) → false ≡ is_some (get_by_text m x.0)
      → ((q : List ℕ) → get_by_text n q ≡ cond (bytes_eq x.0 q) (Some x.1) (get_by_text m q)) → (q : List ℕ) → get_by_text n q ≡ or_this (get_by_text m q) (found_in x q)
  gains n k u q = u q ∙ by (bytes_eq x.0 q) refl
    where
      by : (b : Bool) → bytes_eq x.0 q ≡ b → cond b (Some x.1) (get_by_text m q) ≡ or_this (get_by_text m q) (if b then Some x.1 else None)
      by true e =
          let same : x.0 ≡ q = (bytes_eq-Decides x.0 q).0 e in
          let none : get_by_text m q ≡ None = ap (get_by_text m) (sym same) ∙ not_some (get_by_text m x.0) (sym k) in
          ap (λ o. or_this o (Some x.1)) (sym none)
      by false e = or_this-none (get_by_text m q)

  pub gains_by : (n : HashMap (String Y) Named S) (k : String Y) → string_bytes k ≡ x.0 → false ≡ is_some (get_by_text m x.0)
      → UpdatesBy string_eq (λ j. bytes_eq (string_bytes k) (string_bytes j)) m n (Some x.1) → (q : List ℕ) → get_by_text n q ≡ or_this (get_by_text m q) (found_in x q)
  gains_by n k e f u =
      gains n f (λ q. hash_map_updates_text (string_bytes k) m n (Some x.1) u q ∙ ap (λ b. cond (bytes_eq b q) (Some x.1) (get_by_text m q)) e)

pub ruleset add_steps = (keeps, gains_by)

module _ {Y S : Type 0} where
  pub no_names : (m : HashMap (String Y) Named S) → m.entries ≡ [] → IsIndexOf m []
  unfolding IsIndexOf
  no_names m h q = ap (λ es. lookup (λ k. bytes_eq q (string_bytes k)) es) h

  pub one_more : (m n : HashMap (String Y) Named S) (ns : Names) (i : ℕ) (x : List ℕ × Named) → i < length ns → x ≡ get_or ns i x → IsIndexOf m (take i ns)
      → ((q : List ℕ) → get_by_text n q ≡ or_this (get_by_text m q) (found_in x q)) → IsIndexOf n (take (i + 1) ns)
  unfolding IsIndexOf
  one_more m n ns i x l e h u q =
      u q
      ∙ ap (λ o. or_this o (found_in x q)) (h q)
      ∙ sym (find-more (take i ns) x q)
      ∙ ap (λ y. find (take i ns ++ y ∷ []) q) e
      ∙ ap (λ ms. find ms q) (sym (take_more ns i x l))

  pub found_by : (m : HashMap (String Y) Named S) (ns all : Names) (q : List ℕ) (o : Option Named) → IsIndexOf m ns → ns ≡ all → o ≡ get_by_text m q → o ≡ find all q
  unfolding IsIndexOf
  found_by m ns all q o h e g = g ∙ h q ∙ ap (λ xs. find xs q) e

pub ruleset index_steps = (no_names, one_more)
