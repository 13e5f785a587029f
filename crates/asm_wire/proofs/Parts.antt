-- A text that is written piece by piece: what stands after a failure is a first part of the whole.
use Rattle.std.proofs.Common.{◌≡◌, ℕ, ◌+◌, ◌≤◌, List, [], ◌∷◌, ◌++◌, length, take, Option, Some, None, Result, Ok, Err, OnErr, sym, ap, subst, ◌∙◌, length-append, append-nil, append_assoc, codes, decimal, arith}
use Rattle.std.proofs.lemmas.List.{take-append-le}
use Rattle.std.proofs.Math.Seq.{take-append_seam, take-append-add}
use Rattle.std.proofs.KnownBytes.{Appends-trans}
use Rattle.std.specs.Io.KnownBytes.{Appends, Keeps}
use Rattle.asm_board.specs.declared.reply.Reply.{Reply}
use Rattle.asm_wire.specs.Lines.{line_of, reply_line, AppendsPart}

-- a part of the first piece
pub part_of_first : (old new : Option (List ℕ)) (xs ys : List ℕ) → AppendsPart old new xs → AppendsPart old new (xs ++ ys)
part_of_first old new xs ys h =
    let within : h.count ≤ length (xs ++ ys) = omega (arith, length-append xs ys, h.within) in
    let appends = subst (Appends old new) (sym (take-append-le h.count xs ys h.within)) h.appends in
    record { count = h.count; within = within; appends = appends }

-- the first piece, and a part of the second
pub part_of_second : (old between new : Option (List ℕ)) (xs ys : List ℕ) → Appends old between xs → AppendsPart between new ys → AppendsPart old new (xs ++ ys)
part_of_second old between new xs ys h k =
    let within : length xs + k.count ≤ length (xs ++ ys) = omega (arith, length-append xs ys, k.within) in
    let appends = subst (Appends old new) (sym (take-append-add xs ys k.count)) (Appends-trans old between new xs (take k.count ys) h k.appends) in
    record { count = length xs + k.count; within = within; appends = appends }

pub Appends-kept : (old between new : Option (List ℕ)) (xs : List ℕ) → Appends old between xs → Keeps between new → Appends old new xs
Appends-kept None between new xs h k = tt
Appends-kept (Some olds) None new xs h k = absurd h
Appends-kept (Some olds) (Some kept) None xs h k = absurd k
Appends-kept (Some olds) (Some kept) (Some news) xs h k = k ∙ h

-- all of it, where only the flush failed
pub part_at_end : (old between new : Option (List ℕ)) (xs : List ℕ) → Appends old between xs → Keeps between new → AppendsPart old new xs
part_at_end old between new xs h k =
    let whole : take (length xs) xs ≡ xs = ap (take (length xs)) (sym (append-nil xs)) ∙ take-append_seam xs [] in
    record { count = length xs; within = omega arith; appends = subst (Appends old new) (sym whole) (Appends-kept old between new xs h k) }

-- a reply's line is its front, up to the number, and the rest from the comma on
pub reply_line-pieces : (reply : Reply) → reply_line reply ≡ (codes "{\"at\":" ++ decimal reply.at) ++ line_of (44 ∷ reply.tail)
reply_line-pieces reply = simp append_assoc

pub on_err : {T E : Type 0} (r : Result T E) (P Q : Type 0) → (P → Q) → OnErr r P → OnErr r Q
on_err (Ok x) P Q f h = tt
on_err (Err e) P Q f h = f h

pub on_any : {T E : Type 0} (r : Result T E) (Q : Type 0) → Q → OnErr r Q
on_any (Ok x) Q h = tt
on_any (Err e) Q h = h

pub ruleset part_steps = (part_of_first, part_of_second, part_at_end, Appends-trans)
