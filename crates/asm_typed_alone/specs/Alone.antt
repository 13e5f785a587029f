-- Terms alone, typed.
use Rattle.std.specs.Prelude.{◌≡◌}
use Rattle.asm_syntax.specs.declared.tree.TermTree.{TermTree}
use Rattle.asm_typing.specs.Domains.{domain_of}
use Rattle.asm_program.specs.declared.program.Program.{Program}
use Rattle.asm_program.specs.Counts.{term_work}
use Rattle.asm_program.specs.TypedAlone.{checked_alone}
use Rattle.asm_typed_alone.specs.declared.terms.TypedTerm.{TypedTerm}

-- the tree's term over what the program declares, with the domain of its type and its work
pub record IsTypedTerm (program : Program) (tree : TermTree) (typed : TypedTerm) : Type 0 where
  pub term : typed.term ≡ (checked_alone program tree).term
  pub domain : typed.domain ≡ domain_of (checked_alone program tree).type
  pub work : typed.work ≡ term_work program.domains program.functions typed.term
