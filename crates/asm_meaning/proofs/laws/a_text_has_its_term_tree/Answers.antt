-- Reading and parsing are exact for a term's text.
use Rattle.asm_meaning.proofs.Terms.{tree_sound, tree_complete}
use Rattle.asm_meaning.proofs.laws.a_text_has_its_term_tree.Goals as goal

pub returns : goal.returns
returns c text tree = (tree_sound text tree, tree_complete text tree)
