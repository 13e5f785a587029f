-- Lines of the grammar by their parts.
use Rattle.std.proofs.Common.{◌≡◌, ℕ, List, refl, codes}
use Rattle.asm_grammar.specs.Parser.{expect, mapped, both, optional}
use Rattle.asm_syntax.specs.declared.token.Token.{Token}
use Rattle.asm_syntax.specs.declared.tree.DefTree.TheVariants as defs
use Rattle.asm_syntax.specs.Marks.{is, id, keyword}
use Rattle.asm_syntax.specs.Forms.{second}
use Rattle.asm_syntax.specs.Models.{enum_of, integers_of}
use Rattle.asm_parse_theory.specs.Forms.{quoted, after_word, after_sign, formed}
use Rattle.asm_parse_theory.specs.Models.{enum, integers, literal_set, macro, macro_body}
use Rattle.asm_parse_definitions.specs.Sets.{equated_set, integer_members}

pub enum_is : (n : ℕ) (ts : List Token)
    → enum n ts
    ≡ formed enum_of (after_word (codes "enum") (after_word (codes "domain")
    (both (expect (is id)) (after_sign (codes "=") (literal_set n))))) ts
unfolding enum
enum_is n ts = refl

pub macro_is : (n : ℕ) (ts : List Token)
    → macro n ts
    ≡ formed (λ span p. defs.Rule p.0 p.1.0 p.1.1 span)
    (mapped second (both (optional (is (keyword (codes "macro"))) (quoted (codes "macro")))
    (after_word (codes "rule") (both (expect (is id)) (macro_body n))))) ts
unfolding macro
macro_is n ts = refl

pub integers_is : (n : ℕ) (ts : List Token)
    → integers n ts
    ≡ formed integers_of
    (after_word (codes "domain") (both (expect (is id)) (equated_set n))) ts
unfolding integers integer_members
integers_is n ts = refl
