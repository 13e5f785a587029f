-- The checker and the relation of typing say the same: of a term nothing is refused exactly where
-- it has a type, which is the one that the checker tells, and of a rule exactly where it is typed.
use Rattle.std.specs.Prelude.{◌≡◌, ◌↔◌, ℕ, Some, List, [], slice_get}
use Rattle.asm_value.specs.declared.domain.Domain.{Domain}
use Rattle.asm_syntax.specs.declared.tree.TermTree.{TermTree}
use Rattle.asm_syntax.specs.declared.tree.RuleTree.{RuleTree}
use Rattle.asm_typing.specs.declared.types.Type.{«Type» as TermType}
use Rattle.asm_program.specs.declared.named.Named.TheVariants as named
use Rattle.asm_program.specs.Signatures.{Header, find}
use Rattle.asm_program.specs.TypedTerms.{Scope, Variables, checked}
use Rattle.asm_program.specs.TypedRules.{checked_rule}
use Rattle.asm_program.specs.HasType.{HasType}
use Rattle.asm_program.specs.IsTypedRule.{IsTypedRule}

-- the scope has each function and macro rule of which it has the name
pub record IsWhole (scope : Scope) : Type 0 where
  pub functions : (name : List ℕ) (f : ℕ) → find scope.names name ≡ Some (named.Function f)
      → (h : Header) × (slice_get scope.functions f ≡ Some h)
  pub macros : (name : List ℕ) (m : ℕ) → find scope.names name ≡ Some (named.Macro m)
      → (params : List Domain) × (slice_get scope.macros m ≡ Some params)

module _ (scope : Scope) where
  abbrev pub UnrefusedWhereTyped : Type 0
  UnrefusedWhereTyped = (t : TermTree) (variables : Variables)
      → ((checked scope t variables).refused ≡ []) ↔ ((type : TermType)
      × HasType scope variables t type)

  abbrev pub TypesAreTold : Type 0
  TypesAreTold = (t : TermTree) (variables : Variables) (type : TermType)
      → HasType scope variables t type → type ≡ (checked scope t variables).type

  abbrev pub TypesAreUnique : Type 0
  TypesAreUnique = (t : TermTree) (variables : Variables) (type other : TermType)
      → HasType scope variables t type → HasType scope variables t other → type ≡ other

  abbrev pub RulesUnrefusedWhereTyped : Type 0
  RulesUnrefusedWhereTyped = (r : RuleTree) (variables : Variables)
      → ((checked_rule scope r variables).refused ≡ []) ↔ IsTypedRule scope variables r
