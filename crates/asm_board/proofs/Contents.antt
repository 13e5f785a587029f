-- Where no invariant is the first broken one, all hold; and what is admitted is a content.
use Rattle.std.proofs.Common.{◌≡◌, Bool, true, false, cond, not, nat_le, List, [], ◌∷◌, Some, None, Option, IfOk, refl}
use Rattle.std.proofs.lemmas.Bool.{leb-true}
use Rattle.asm_value.specs.State.{StateMap, state_weight}
use Rattle.asm_program.specs.declared.program.Inv.{Inv}
use Rattle.asm_program.specs.declared.program.Program.{Program}
use Rattle.asm_program.specs.Invariants.{holds, first_broken, AllHold}
use Rattle.asm_board.specs.declared.refusal.RefusalName.{RefusalName}
use Rattle.asm_board.specs.declared.stepped.Stepped.{Stepped}
use Rattle.asm_board.specs.declared.stepped.Stepped.TheVariants as stepped
use Rattle.asm_board.specs.Contents.{Contents, IsContent, state_limit}
use Rattle.asm_board.specs.Stepping.{unless_broken, admitted}
use Rattle.asm_board.specs.Refusals.{Whose}
use Rattle.asm_board.specs.Changes.{content_after}

-- ---- the first broken invariant

all_hold_at : (p : Program) (s : StateMap) (i : Inv) (is : List Inv) (t : Bool) → holds p s i ≡ t → (first_broken p s is ≡ None → AllHold p s is)
    → cond (not t) (Some i) (first_broken p s is) ≡ None → AllHold p s (i ∷ is)
all_hold_at p s i is true test rest none = (test, rest none)
all_hold_at p s i is false test rest none = absurd (cc (none))

-- where none is the first broken one, all hold
pub all_hold : (p : Program) (s : StateMap) (is : List Inv) → first_broken p s is ≡ None → AllHold p s is
all_hold p s [] none = tt
all_hold p s (i ∷ is) none = all_hold_at p s i is (holds p s i) refl (all_hold p s is) none

none_broken_at : (i : Inv) (t : Bool) (rest : Option Inv) → t ≡ true → rest ≡ None → cond (not t) (Some i) rest ≡ None
none_broken_at i true rest test none = none
none_broken_at i false rest test none = absurd (cc (test))

-- where all hold, none is the first broken one
pub none_broken : (p : Program) (s : StateMap) (is : List Inv) → AllHold p s is → first_broken p s is ≡ None
none_broken p s [] all = refl
none_broken p s (i ∷ is) all = none_broken_at i (holds p s i) (first_broken p s is) all.0 (none_broken p s is all.1)

-- ---- what is admitted

-- of a start or a step that is done, this holds of the content
abbrev pub IfDone : Stepped → (Contents → Type 0) → Type 0
IfDone (stepped.Done content) P = P content
IfDone (stepped.Fault fault) P = Unit {0}
IfDone (stepped.Clash location first second) P = Unit {0}
IfDone (stepped.StateFull weight) P = Unit {0}
IfDone (stepped.Broken inv) P = Unit {0}

admitted_at : (c : Contents) (P : Contents → Type 0) (t : Bool) (o : Option Inv) → nat_le (state_weight c.state) state_limit ≡ t → first_broken c.program c.state c.invs ≡ o
    → (IsContent c → P c) → IfDone (cond t (unless_broken c o) (stepped.StateFull (state_weight c.state))) P
admitted_at c P false o light broken go = tt
admitted_at c P true (Some inv) light broken go = tt
admitted_at c P true None light broken go = go (record { light = leb-true _ _ light; holds = all_hold c.program c.state c.invs broken })

-- what is admitted is the content to be admitted, whose state is light and meets its invariants
pub admitted_is : (c : Contents) (P : Contents → Type 0) → (IsContent c → P c) → IfDone (admitted c) P
admitted_is c P go = admitted_at c P (nat_le (state_weight c.state) state_limit) (first_broken c.program c.state c.invs) refl refl go

-- what a start or a step that is done comes to
pub done_content : (P : Contents → Type 0) (name : RefusalName) (whose : Whose) (program : Program) (s : Stepped) → IfDone s P → IfOk (content_after name whose program s) P
done_content P name whose program (stepped.Done content) h = h
done_content P name whose program (stepped.Fault fault) h = tt
done_content P name whose program (stepped.Clash location first second) h = tt
done_content P name whose program (stepped.StateFull weight) h = tt
done_content P name whose program (stepped.Broken inv) h = tt
