-- What it is for a canonical text to be read as the tree that it is of.
use Rattle.std.specs.Prelude.{◌≡◌}
use Rattle.asm_syntax.specs.declared.tree.TermTree.{TermTree}
use Rattle.asm_syntax.specs.declared.tree.ModelTree.{ModelTree}
use Rattle.asm_syntax.specs.Texts.{IsTerm, IsModel}
use Rattle.asm_syntax.specs.Canonical.{canonical_term, canonical}
use Rattle.asm_print_theory.specs.Bare.{bare_term, bare_model}

-- the canonical text of the term is a term's text, of a tree that differs in spans alone
abbrev pub TermReadsBack : TermTree → Type 0
TermReadsBack t = (u : TermTree) × IsTerm (canonical_term t) u × (bare_term u ≡ bare_term t)

-- the canonical text of the model is a model's text, of a tree that differs in spans alone
abbrev pub ModelReadsBack : ModelTree → Type 0
ModelReadsBack m = (u : ModelTree) × IsModel (canonical m) u × (bare_model u ≡ bare_model m)
