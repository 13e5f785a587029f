-- States in which the members of each domain are numbered from 0 on: the initial state, and the
-- state that a step leads to.
use Rattle.std.specs.Prelude.{◌≡◌, ℕ, Bool, true, ◌&&◌, Option, List}
use Rattle.std.specs.List.{list_all}
use Rattle.asm_value.specs.declared.domain.DomainInfo.{DomainInfo}
use Rattle.asm_value.specs.Living.{is_abstract}
use Rattle.asm_value.specs.State.{StateMap, IsConsistent, fire}
use Rattle.asm_value.specs.UpdateSet.{UpdateSet}
use Rattle.asm_program.specs.declared.trees.Term.{Term}
use Rattle.asm_program.specs.declared.trees.Rule.{Rule}
use Rattle.asm_program.specs.declared.trees.Rule.TheOpen.{Rule-F}
use Rattle.asm_program.specs.declared.program.Program.{Program}
use Rattle.asm_program.specs.Forms.{rule_parts, of_rule}
use Rattle.asm_program.specs.Initial.{Starts, initial}
use Rattle.asm_program.specs.Yields.{Yields, counts_in, main_yields}
use Rattle.asm_program.specs.BookYields.{AreBelow}

-- each `extend` in the rule is of an abstract domain
abbrev pub extends_level : List DomainInfo → (ℕ → Bool) → Rule-F Bool (Term × Bool) → Bool
extends_level domains calls (Rule-F.Extend d count body span) = is_abstract domains d && body
extends_level domains calls a = list_all (λ b. b) (rule_parts a)

abbrev pub extends_abstract : List DomainInfo → Rule → Bool
extends_abstract domains = of_rule (extends_level domains) (λ m. true)

-- each in the main rule and in the macro rules
abbrev pub extends_are_abstract : Program → Bool
extends_are_abstract p =
    extends_abstract p.domains p.main
    && list_all (λ info. extends_abstract p.domains info.body) p.macros

-- in a state, the members of each domain are numbered from 0 on
abbrev pub MembersAreNumbered : Program → StateMap → Type 0
MembersAreNumbered p state = AreBelow state (counts_in p state)

abbrev pub StartsNumbered : Program → Type 0
StartsNumbered p = (state : StateMap) → initial p ≡ Starts state → MembersAreNumbered p state

abbrev pub StepsLeaveNumbered : Program → Type 0
StepsLeaveNumbered p =
    (pick : Option ℕ) (state : StateMap) (u : UpdateSet) (after : List ℕ)
    → extends_are_abstract p ≡ true → MembersAreNumbered p state
    → main_yields p state pick ≡ Yields u after → IsConsistent u
    → MembersAreNumbered p (fire state u)
