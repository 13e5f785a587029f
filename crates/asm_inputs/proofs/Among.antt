-- The model of a name among those of some names, of which it is the first.
use Rattle.std.proofs.Common.{true, ◌≡◌, inl, ℕ, List, ◌∷◌, sym, ap, ◌∙◌}
use Rattle.std.specs.Str.{bytes_eq}
use Rattle.asm_board.specs.Slots.{Models, slot_in, only}
use Rattle.asm_board.proofs.Puts.{one_name, only_has}

pub slot_in-only_first : (models : Models) (n : List ℕ) (ns : List (List ℕ)) (name : List ℕ)
    → bytes_eq name n ≡ true → slot_in (only models (n ∷ ns)) name ≡ slot_in models n
slot_in-only_first models n ns name same =
    only_has models (n ∷ ns) name (inl (sym (one_name name n same)))
    ∙ ap (slot_in models) (one_name name n same)
