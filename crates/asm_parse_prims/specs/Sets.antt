-- What is after the first item of a set.
use Rattle.std.specs.Prelude.{List, Option, Some, None}
use Rattle.asm_syntax.specs.declared.token.Span.{Span}
use Rattle.asm_syntax.specs.declared.tree.TermTree.{TermTree}
use Rattle.asm_syntax.specs.declared.tree.TermTree.TheVariants as terms
use Rattle.asm_syntax.specs.Forms.{Rest, To, And}
use Rattle.asm_syntax.specs.Terms.{terms_of}
use Rattle.asm_parse_prims.specs.declared.trees.Further.{Further}
use Rattle.asm_parse_prims.specs.declared.trees.Further.TheVariants as further_ones

abbrev pub rest_of : Further → Option (Rest TermTree)
rest_of further_ones.Nothing = None
rest_of (further_ones.To last) = Some (To last)
rest_of (further_ones.And others) = Some (And others)

abbrev pub items_of : Option (TermTree × Further) → Option (TermTree × Option (Rest TermTree))
items_of None = None
items_of (Some (first, further)) = Some (first, rest_of further)

-- the set of one term or more
abbrev pub listed_set : Span → TermTree → List TermTree → TermTree
listed_set span first others = terms.Set (Some (terms_of (first, others))) span
