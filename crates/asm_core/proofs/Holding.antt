-- Invariants that hold, with one more behind them and without some.
use Rattle.std.proofs.Common.{◌≡◌, ℕ, Bool, true, false, not, cond, List, [], ◌∷◌, ◌++◌, filter, sym, subst}
use Rattle.std.specs.List.{AllByRecursion}
use Rattle.std.specs.Str.{bytes_eq}
use Rattle.asm_value.specs.State.{StateMap}
use Rattle.asm_program.specs.declared.program.Inv.{Inv}
use Rattle.asm_program.specs.declared.program.Program.{Program}
use Rattle.asm_program.specs.Invariants.{holds, AllHold}
use Rattle.asm_board.specs.Contents.{Contents, IsContent}

pub all-append : {X : Type 0} (P : X → Type 0) (xs : List X) (x : X) → AllByRecursion P xs → P x → AllByRecursion P (xs ++ x ∷ [])
all-append P [] x all one = (one, tt)
all-append P (y ∷ ys) x all one = (all.0, all-append P ys x all.1 one)

kept : {X : Type 0} (P : X → Type 0) (x : X) (xs : List X) (t : Bool) → P x → AllByRecursion P xs → AllByRecursion P (cond t (x ∷ xs) xs)
kept P x xs true one others = (one, others)
kept P x xs false one others = others

pub all-filter : {X : Type 0} (P : X → Type 0) (test : X → Bool) (xs : List X) → AllByRecursion P xs → AllByRecursion P (filter test xs)
all-filter P test [] all = tt
all-filter P test (x ∷ xs) all = kept P x (filter test xs) (test x) all.0 (all-filter P test xs all.1)

-- without the invariants of a name it is a content
pub is_without : (content : Contents) (name : List ℕ) (program : Program) (invs : List Inv) (state : StateMap) → program ≡ content.program → state ≡ content.state
    → invs ≡ filter (λ inv. not (bytes_eq name inv.name)) content.invs → IsContent content → IsContent (record { program = program; invs = invs; state = state })
is_without content name program invs state p s i whole =
    subst (λ (c : Contents). IsContent c) (λ k. record { program = sym p k; invs = sym i k; state = sym s k })
    (record { light = whole.light; holds = all-filter (λ inv. holds content.program content.state inv ≡ true) (λ inv. not (bytes_eq name inv.name)) content.invs whole.holds })

-- with one more invariant that holds it is a content
pub is_with : (content : Contents) (inv : Inv) (program : Program) (invs : List Inv) (state : StateMap) → program ≡ content.program → state ≡ content.state
    → invs ≡ content.invs ++ inv ∷ [] → IsContent content → AllHold content.program content.state (inv ∷ []) → IsContent (record { program = program; invs = invs; state = state })
is_with content inv program invs state p s i whole one =
    subst (λ (c : Contents). IsContent c) (λ k. record { program = sym p k; invs = sym i k; state = sym s k })
    (record { light = whole.light; holds = all-append (λ j. holds content.program content.state j ≡ true) content.invs inv whole.holds one.0 })
