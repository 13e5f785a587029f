-- A definition calls those that its items name, and where a text refuses no call, none of its
-- definitions reaches itself.
use Rattle.std.proofs.Common.{◌≡◌, ℕ, zero, suc, ◌+◌, ◌<◌, ◌≤◌, ◌==◌, Bool, true, false, ◌⊎◌}
use Rattle.std.proofs.Common.{inl, inr, if◌then◌else◌, Option, Some, None, List, [], ◌∷◌, ◌++◌}
use Rattle.std.proofs.Common.{length, slice_get, option_map, position, refl, sym, ap, ◌∙◌, arith}
use Rattle.std.specs.Option.{option_map_or}
use Rattle.std.specs.List.{filter_map, cons_option}
use Rattle.std.proofs.lemmas.Bool.{or_left, or_right}
use Rattle.std.proofs.lemmas.List.Quantifiers.{position-Some}
use Rattle.std.proofs.lemmas.Option.{slice_get-map}
use Rattle.asm_syntax.specs.Marks.{text_of}
use Rattle.asm_program.specs.declared.type_refusal.TypeRefusal.{TypeRefusal}
use Rattle.asm_program.specs.declared.type_refusal.TypeRefusal.TheVariants.{Recursive}
use Rattle.asm_program.specs.Items.{Item, Items, NamesFunction, NamesMacro}
use Rattle.asm_program.specs.Calls.{CallGraph, Defined, is_called, callee, calls_of, call_graph}
use Rattle.asm_program.specs.Calls.{is_recursive, recursive_from, definitions}
use Rattle.asm_calls.specs.Orders.{calls}
use Rattle.asm_calls.specs.TextLaws.{CallsNamed, NoneRefused}
use Rattle.asm_calls.proofs.Reaching.{is_in, itself, outside}
use Rattle.asm_calls.proofs.TextRefusals.{length-call_graph}

-- ---- what is named is called

in_later : (o : Option ℕ) (ns : List ℕ) (j : ℕ) → is_in ns j ≡ true
    → is_in (cons_option o ns) j ≡ true
in_later None ns j h = h
in_later (Some n) ns j h = or_right (n == j) (is_in ns j) h

in_first : (o : Option ℕ) (ns : List ℕ) (j : ℕ) → o ≡ Some j → is_in (cons_option o ns) j ≡ true
in_first o ns j e =
    ap (λ p. is_in (cons_option p ns) j) e ∙ or_left (j == j) (is_in ns j) (itself j)

module _ (f : Item → Option ℕ) where
  in_mapped : (xs : Items) (k : ℕ) (x : Item) (j : ℕ) → slice_get xs k ≡ Some x → f x ≡ Some j
      → is_in (filter_map f xs) j ≡ true
  in_mapped [] k x j at e = absurd (cc)
  in_mapped (y ∷ ys) zero x j at e =
      let same : y ≡ x = cc in in_first (f y) (filter_map f ys) j (ap f same ∙ e)
  in_mapped (y ∷ ys) (suc k) x j at e =
      in_later (f y) (filter_map f ys) j (in_mapped ys k x j at e)

module _ (ds : List Defined) where
  abbrev called_by : Defined → List ℕ
  called_by d = filter_map (callee ds) d.items

  calls_at : (i : ℕ) (d : Defined) → slice_get ds i ≡ Some d
      → calls_of (call_graph ds) i ≡ called_by d
  calls_at i d at =
      ap (λ o. option_map_or (λ (js : List ℕ). js) o [])
      (slice_get-map called_by ds i ∙ ap (option_map called_by) at)

  named_calls : (i j k : ℕ) (d : Defined) (item : Item) → slice_get ds i ≡ Some d
      → slice_get d.items k ≡ Some item → callee ds item ≡ Some j
      → calls (call_graph ds) i j ≡ true
  named_calls i j k d item at named e =
      ap (λ ns. is_in ns j) (calls_at i d at)
      ∙ in_mapped (callee ds) d.items k item j named e

  numbered_low : (p : Defined → Bool) (j : ℕ) → position p ds ≡ Some j → j < length (call_graph ds)
  numbered_low p j e =
      let long : length (call_graph ds) ≡ length ds = length-call_graph ds (call_graph ds) refl in
      low ds p j e long
    where
      low : (es : List Defined) (q : Defined → Bool) (m : ℕ) → position q es ≡ Some m
          → length (call_graph ds) ≡ length es → m < length (call_graph ds)
      low [] q m f g = absurd (cc)
      low (x ∷ es) q m f g = let h = (position-Some q (x ∷ es) m x f).0 in omega (arith, h, g)

pub calls_named : CallsNamed
calls_named tree i j k d t at = (
  λ named e. (
    numbered_low (definitions tree) (is_called false (text_of t)) j e,
    named_calls (definitions tree) i j k d (NamesFunction t) at named e,
  ),
  λ named e. (
    numbered_low (definitions tree) (is_called true (text_of t)) j e,
    named_calls (definitions tree) i j k d (NamesMacro t) at named e,
  ),
)

-- ---- no refusal

module _ (graph : CallGraph) where
  head_none : (b : Bool) (d : Defined) (rest : List TypeRefusal)
      → ((if b then Recursive (text_of d.name) d.name.span ∷ [] else []) ++ rest) ≡ []
      → (b ≡ false) × (rest ≡ [])
  head_none true d rest h = absurd (cc)
  head_none false d rest h = (refl, h)

  none_by : (n k : ℕ) (ds : List Defined) → recursive_from graph n ds ≡ [] → k < length ds
      → is_recursive graph (n + k) ≡ false
  none_by n k [] h low = absurd (omega (arith, low))
  none_by n zero (d ∷ ds) h low =
      let e : n + 0 ≡ n = omega arith in
      ap (is_recursive graph) e
      ∙ (head_none (is_recursive graph n) d (recursive_from graph (n + 1) ds) h).0
  none_by n (suc k) (d ∷ ds) h low =
      let e : n + suc k ≡ n + 1 + k = omega arith in
      ap (is_recursive graph) e
      ∙ none_by (n + 1) k ds
      (head_none (is_recursive graph n) d (recursive_from graph (n + 1) ds) h).1
      (omega (arith, low))

low_or_high : (a b : ℕ) → (a < b) ⊎ (b ≤ a)
low_or_high a b = grind arith

pub none_refused_none : NoneRefused
none_refused_none tree h i =
    let ds = definitions tree in
    let long : length (call_graph ds) ≡ length ds = length-call_graph ds (call_graph ds) refl in
    elim (low_or_high i (length ds)) [
      | inl low ↦
          let e : 0 + i ≡ i = omega arith in
          ap (is_recursive (call_graph ds)) (sym e) ∙ none_by (call_graph ds) 0 i ds h low
      | inr high ↦
          outside (call_graph ds) (length (call_graph ds)) i i (omega (arith, long, high))
    ]
