-- Items that grow at the end.
use Rattle.std.proofs.Common.{◌≡◌, ℕ, Bool, true, false, not, bytes_eq, List, [], ◌∷◌, ◌++◌, map, refl, sym, if◌then◌else◌}
use Rattle.std.proofs.lemmas.List.{append-nil, append_assoc, map-append}
use Rattle.std.specs.List.{list_any}
use Rattle.asm_syntax.specs.declared.token.Token.{Token}
use Rattle.asm_syntax.specs.Marks.{text_of}
use Rattle.asm_program.specs.Items.{Items, Repeats, repeated}
use Rattle.asm_items.specs.declared.item.Item.{Item}
use Rattle.asm_items.specs.Views.{item_of, with_items}

pub with_items-append : (w xs ys : Items) → with_items w (xs ++ ys) ≡ with_items (with_items w xs) ys
unfolding with_items
with_items-append w xs ys = sym (append_assoc w xs ys)

pub with_items-none : (w : Items) → with_items w [] ≡ w
unfolding with_items
with_items-none w = append-nil w

pub with_items-from_none : (xs : Items) → with_items [] xs ≡ xs
unfolding with_items
with_items-from_none xs = refl

pub pushed : (xs : List Item) (x : Item) → map item_of (xs ++ x ∷ []) ≡ with_items (map item_of xs) (item_of x ∷ [])
unfolding with_items
pushed xs x = map-append item_of xs (x ∷ [])

-- a variable that its list hasn't yet, and one that it has
pub not_known : (w : Items) (seen : List (List ℕ)) (t : Token) → true ≡ not (list_any (bytes_eq (text_of t)) seen) → w ≡ with_items w (repeated seen t)
not_known w seen t h = by (list_any (bytes_eq (text_of t)) seen) h
  where
    by : (b : Bool) → true ≡ not b → w ≡ with_items w (if b then Repeats t ∷ [] else [])
    by true e = absurd (cc e)
    by false e = sym (with_items-none w)

pub known : (w : Items) (seen : List (List ℕ)) (t : Token) → false ≡ not (list_any (bytes_eq (text_of t)) seen)
    → with_items w (Repeats t ∷ []) ≡ with_items w (repeated seen t)
known w seen t h = by (list_any (bytes_eq (text_of t)) seen) h
  where
    by : (b : Bool) → false ≡ not b → with_items w (Repeats t ∷ []) ≡ with_items w (if b then Repeats t ∷ [] else [])
    by true e = refl
    by false e = absurd (cc e)

pub ruleset push_steps = (pushed)

pub ruleset ninth_steps = (with_items-none)

pub ruleset repeated_steps = (not_known, known)
