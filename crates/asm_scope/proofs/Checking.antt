-- First refusals of lists that are put together.
use Rattle.std.proofs.Common.{◌≡◌, ℕ, ◌+◌, ◌<◌, ◌≤◌, List, [], ◌∷◌, ◌++◌, length, drop, get_or, Some, sym, ap, ◌∙◌, subst}
use Rattle.std.specs.List.{slice_get}
use Rattle.std.proofs.lemmas.List.{drop_all, drop_more}
use Rattle.asm_program.specs.declared.type_refusal.TypeRefusal.{TypeRefusal}
use Rattle.asm_program.specs.declared.type_refusal.TypeRefusal.TheVariants.{Duplicate, Unknown, Mismatch, Recursive, NotEnumerable, Missing, Limit, TooMuchWork, NoMemory}
use Rattle.asm_program.specs.Checks.{IsFirst}

get-append : (why : TypeRefusal) (xs ys : List TypeRefusal) → slice_get xs 0 ≡ Some why → slice_get (xs ++ ys) 0 ≡ Some why
get-append why [] ys h = absurd (cc h)
get-append why (x ∷ xs) ys h = h

pub is_first-append : (why : TypeRefusal) (xs ys : List TypeRefusal) → IsFirst why xs → IsFirst why (xs ++ ys)
is_first-append (Duplicate name span) xs ys h = get-append (Duplicate name span) xs ys h
is_first-append (Unknown name span) xs ys h = get-append (Unknown name span) xs ys h
is_first-append (Mismatch span) xs ys h = get-append (Mismatch span) xs ys h
is_first-append (Recursive name span) xs ys h = get-append (Recursive name span) xs ys h
is_first-append (NotEnumerable span) xs ys h = get-append (NotEnumerable span) xs ys h
is_first-append (Missing name span) xs ys h = get-append (Missing name span) xs ys h
is_first-append (Limit kind n span) xs ys h = get-append (Limit kind n span) xs ys h
is_first-append (TooMuchWork n span) xs ys h = get-append (TooMuchWork n span) xs ys h
is_first-append NoMemory xs ys h = tt

pub is_first-along : (why : TypeRefusal) (xs ys : List TypeRefusal) → xs ≡ ys → IsFirst why xs → IsFirst why ys
is_first-along why xs ys e h = subst (IsFirst why) e h

-- the first part has it, or the first part has none and the rest has it
pub first_of_two : (why : TypeRefusal) (xs ys all : List TypeRefusal) → all ≡ xs ++ ys → IsFirst why xs → IsFirst why all
first_of_two why xs ys all e h = subst (IsFirst why) (sym e) (is_first-append why xs ys h)

pub first_of_rest : (why : TypeRefusal) (xs ys all : List TypeRefusal) → all ≡ xs ++ ys → xs ≡ [] → IsFirst why ys → IsFirst why all
first_of_rest why xs ys all e none h = subst (IsFirst why) (sym (e ∙ ap (λ zs. zs ++ ys) none)) h

pub no_memory : (xs : List TypeRefusal) → IsFirst NoMemory xs
no_memory xs = tt

-- a pass that goes over a list with a state
module _ {S X : Type 0} (at : S → X → List TypeRefusal) (after : S → X → S) (from : S → List X → List TypeRefusal)
    (nil : (s : S) → from s [] ≡ []) (cons : (s : S) (x : X) (xs : List X) → from s (x ∷ xs) ≡ at s x ++ from (after s x) xs) where
  from-drop : (s : S) (xs : List X) (i : ℕ) (d : X) → i < length xs
      → from s (drop i xs) ≡ at s (get_or xs i d) ++ from (after s (get_or xs i d)) (drop (i + 1) xs)
  from-drop s xs i d h = ap (from s) (drop_more xs i d h) ∙ cons s (get_or xs i d) (drop (i + 1) xs)

  pub loop-err : (why : TypeRefusal) (s : S) (xs : List X) (i : ℕ) (d : X) (all : List TypeRefusal) → i < length xs → from s (drop i xs) ≡ all
      → IsFirst why (at s (get_or xs i d)) → IsFirst why all
  loop-err why s xs i d all h e f =
      first_of_two why (at s (get_or xs i d)) (from (after s (get_or xs i d)) (drop (i + 1) xs)) all (sym e ∙ from-drop s xs i d h) f

  pub loop-ok : (s t : S) (xs : List X) (i : ℕ) (d : X) (all : List TypeRefusal) → i < length xs → from s (drop i xs) ≡ all
      → at s (get_or xs i d) ≡ [] → t ≡ after s (get_or xs i d) → from t (drop (i + 1) xs) ≡ all
  loop-ok s t xs i d all h e none next =
      let rest = drop (i + 1) xs in
      ap (λ u. from u rest) next
      ∙ ap (λ zs. zs ++ from (after s (get_or xs i d)) rest) (sym none)
      ∙ sym (from-drop s xs i d h)
      ∙ e

  pub loop-end : (s : S) (xs : List X) (i : ℕ) (all : List TypeRefusal) → length xs ≤ i → from s (drop i xs) ≡ all → all ≡ []
  loop-end s xs i all h e = sym e ∙ ap (from s) (drop_all i xs h) ∙ nil s
