-- What the definitions say of a few small texts.
use Rattle.std.proofs.Common.{◌≡◌, ℕ, List, [], ◌∷◌, codes, length, Some, Ok, Err, refl}
use Rattle.asm_formula.specs.declared.formula.Operator.TheVariants.{Pipe, Both, Half, Cross}
use Rattle.asm_formula.specs.declared.formula.Formula.{Formula}
use Rattle.asm_formula.specs.declared.formula.Formula.TheVariants.{Name, Join}
use Rattle.asm_formula.specs.declared.formula.FormulaRefusal.TheVariants.{Syntax, TooMany}
use Rattle.asm_formula.specs.Formulas.{names}
use Rattle.asm_formula.specs.Scan.{token_of, front_of, lexed_from}
use Rattle.asm_formula.specs.Parsing.{part, formula}
use Rattle.asm_formula.specs.Reading.{Read, on_read, tokens_of, tree_of, first_repeated, formula_of}

-- the tree of a text, whatever its names
abbrev tree : List ℕ → Read Formula
tree text = on_read (tokens_of text) (tree_of (length text))

one_name : tree (codes " if ") ≡ Ok (Name (codes "if"))
unfolding token_of front_of lexed_from part formula
one_name = refl

grouped_left : tree (codes "A|B |(C)") ≡ Ok (Join Pipe (Join Pipe (Name (codes "A")) (Name (codes "B"))) (Name (codes "C")))
unfolding token_of front_of lexed_from part formula
grouped_left = refl

two_operators : tree (codes "A <|> (B <||> C)") ≡ Ok (Join Half (Name (codes "A")) (Join Cross (Name (codes "B")) (Name (codes "C"))))
unfolding token_of front_of lexed_from part formula
two_operators = refl

both_twice : tree (codes "A||_b2||A") ≡ Ok (Join Both (Join Both (Name (codes "A")) (Name (codes "_b2"))) (Name (codes "A")))
unfolding token_of front_of lexed_from part formula
both_twice = refl

repeated : first_repeated (codes "A" ∷ codes "B" ∷ codes "C" ∷ codes "B" ∷ codes "A" ∷ []) ≡ Some (codes "B")
repeated = refl

operator_twice : formula_of (codes "A | | B") ≡ Err (Syntax 4)
unfolding formula_of names token_of front_of lexed_from part formula
operator_twice = refl

mixed : formula_of (codes "A | B || C") ≡ Err (Syntax 6)
unfolding formula_of names token_of front_of lexed_from part formula
mixed = refl

three_bars : formula_of (codes "A|||B") ≡ Err (Syntax 3)
unfolding formula_of names token_of front_of lexed_from part formula
three_bars = refl

half_a_sign : formula_of (codes "( <| B") ≡ Err (Syntax 2)
unfolding formula_of names token_of front_of lexed_from part formula
half_a_sign = refl

tab : formula_of (65 ∷ 9 ∷ []) ≡ Err (Syntax 1)
unfolding formula_of names token_of front_of lexed_from part formula
tab = refl

no_text : formula_of [] ≡ Err (Syntax 0)
unfolding formula_of names token_of front_of lexed_from part formula
no_text = refl

unclosed : formula_of (codes "(A ") ≡ Err (Syntax 3)
unfolding formula_of names token_of front_of lexed_from part formula
unclosed = refl

seventeen : formula_of (codes "a b c d e f g h i j k l m n o p q") ≡ Err TooMany
unfolding formula_of names token_of front_of lexed_from part formula
seventeen = refl

sixteen : formula_of (codes "a b c d e f g h i j k l m n o p ") ≡ Err (Syntax 2)
unfolding formula_of names token_of front_of lexed_from part formula
sixteen = refl
