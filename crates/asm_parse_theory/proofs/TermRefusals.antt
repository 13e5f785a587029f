-- What a list that is read as a term answers: its one tree, or its one refusal.
use Rattle.std.proofs.Common.{◌≡◌, List, [], ◌∷◌, true, false, ◌⊎◌, inl, inr, refl}
use Rattle.asm_grammar.specs.Parser.{Reply, Took, Refused}
use Rattle.asm_grammar.proofs.Fronts.{Fronts}
use Rattle.asm_grammar.proofs.Wider.{Wider}
use Rattle.asm_grammar.proofs.Whole.{AnswerIs}
use Rattle.asm_syntax.specs.declared.token.Token.{Token}
use Rattle.asm_syntax.specs.declared.tree.TermTree.{TermTree}
use Rattle.asm_syntax.specs.Grammar.{term, free_term}
use Rattle.asm_syntax.specs.Refusals.{Refusal, TooDeep, syntax_refusal, IsTermRefusal}
use Rattle.asm_parse_theory.specs.Terms as r
use Rattle.asm_parse_theory.proofs.TermFacts.{term_line}
use Rattle.asm_parse_theory.proofs.Whole.{fronts_within, wider_free, line_answer, line_complete, line_sound, line_unique, line_left, line_syntax, line_too_deep}
use Rattle.asm_parse_theory.proofs.OneRefusal.{one_refusal, not_both}

fronts_term : Fronts term
unfolding term
fronts_term = fronts_within term_line

wider_term : Wider term free_term
unfolding term free_term
wider_term = wider_free term_line

pub term_answer : (ts : List Token) → AnswerIs term free_term ts (r.term 64 ts)
unfolding term free_term
term_answer = line_answer term_line

-- what is spelled is taken to the end
pub term_complete : (ts : List Token) (t : TermTree) → term.Spells t ts → r.term 64 ts ≡ Took t []
unfolding term
term_complete = line_complete term_line

-- what is taken to the end is spelled
pub term_sound : (ts : List Token) (t : TermTree) → r.term 64 ts ≡ Took t [] → term.Spells t ts
unfolding term
term_sound = line_sound term_line

-- at most one is spelled
pub term_unique : (ts : List Token) (t u : TermTree) → term.Spells t ts → term.Spells u ts → t ≡ u
unfolding term
term_unique = line_unique term_line

-- ---- refusals

pub left_refusal : (ts : List Token) (v : TermTree) (t : Token) (rest : List Token) → r.term 64 ts ≡ Took v (t ∷ rest)
    → IsTermRefusal ts (syntax_refusal (t ∷ rest)) (t ∷ rest)
unfolding term free_term
left_refusal = line_left term_line

pub found_syntax : (ts rest : List Token) → r.term 64 ts ≡ Refused false rest → IsTermRefusal ts (syntax_refusal rest) rest
unfolding term free_term
found_syntax = line_syntax term_line

pub found_too_deep : (ts rest : List Token) → r.term 64 ts ≡ Refused true rest → IsTermRefusal ts TooDeep rest
unfolding term free_term
found_too_deep = line_too_deep term_line

pub one_term_refusal : (ts : List Token) (why why' : Refusal) (rest rest' : List Token) → IsTermRefusal ts why rest
    → IsTermRefusal ts why' rest' → (why ≡ why') × (rest ≡ rest')
one_term_refusal = one_refusal fronts_term wider_term

pub spelled_not_refused : (ts : List Token) (t : TermTree) (why : Refusal) (rest : List Token) → term.Spells t ts → IsTermRefusal ts why rest → ⊥
spelled_not_refused = not_both fronts_term wider_term

-- ---- one of the two

-- the term's tree, or the refusal
abbrev pub Outcome : List Token → Type 0
Outcome ts = ((t : TermTree) × term.Spells t ts) ⊎ ((why : Refusal) × (rest : List Token) × IsTermRefusal ts why rest)

parsed : (ts : List Token) (reply : Reply Token TermTree) → r.term 64 ts ≡ reply → Outcome ts
parsed ts (Took v []) e = inl (v, term_sound ts v e)
parsed ts (Took v (t ∷ rest)) e = inr (syntax_refusal (t ∷ rest), t ∷ rest, left_refusal ts v t rest e)
parsed ts (Refused false rest) e = inr (syntax_refusal rest, rest, found_syntax ts rest e)
parsed ts (Refused true rest) e = inr (TooDeep, rest, found_too_deep ts rest e)

pub tree_or_refusal : (ts : List Token) → Outcome ts
tree_or_refusal ts = parsed ts (r.term 64 ts) refl
