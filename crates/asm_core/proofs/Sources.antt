-- A text that has a term isn't too long; and what is reported of a term with too much work.
use Rattle.std.proofs.Common.{◌≡◌, ◌≤◌, ℕ, ◌+◌, ◌==◌, not, min, nat_le, Bool, true, false, cond, List, length, take, decimal, codes, Some, Result, Ok, Err, IfOk, refl, ap, ◌∙◌, subst}
use Rattle.std.specs.Prelude.{count_by}
use Rattle.std.specs.List.{suffix_len}
use Rattle.std.proofs.lemmas.Bool.{leb-true}
use Rattle.asm_value.specs.declared.domain.Domain.TheVariants.{Truth}
use Rattle.asm_syntax.specs.declared.tree.TermTree.{TermTree}
use Rattle.asm_syntax.specs.Texts.{most_bytes}
use Rattle.asm_program.specs.declared.bad_text.BadText.{BadText}
use Rattle.asm_program.specs.declared.checked.CheckedTerm.{CheckedTerm}
use Rattle.asm_program.specs.declared.program.Program.{Program}
use Rattle.asm_meaning.specs.Texts.{reported_long}
use Rattle.asm_meaning.specs.Terms.{term_tree_of, term_of_tree, meaning_of_term}
use Rattle.asm_board.specs.declared.refusal.Refusal.{Refusal}
use Rattle.asm_board.specs.Refusals.{bad_text}
use Rattle.asm_board.specs.Changes.{unless_bad, condition_in, most_work_told, too_much_work}
use Rattle.asm_core.specs.Language.{asmeta}

found : {A : Type 0} (r : Result A BadText) (x : A) → unless_bad r ≡ Ok x → r ≡ Ok x
found (Ok y) x is = let same : y ≡ x = cc (is) in (λ i. Ok (same i))
found (Err bad) x is = absurd (cc (is))

short_at : (program : Program) (text : List ℕ) (tree : Result TermTree BadText) (term : CheckedTerm) (t : Bool) → nat_le (length text) most_bytes ≡ t
    → term_of_tree program (Some Truth) text (cond t tree (Err (reported_long text))) ≡ Ok term → length text ≤ most_bytes
short_at program text tree term true short is = leb-true _ _ short
short_at program text tree term false short is = absurd (cc (is))

short_meaning : (program : Program) (text : List ℕ) (term : CheckedTerm) → meaning_of_term program (Some Truth) text ≡ Ok term → length text ≤ most_bytes
unfolding meaning_of_term term_tree_of
short_meaning program text term is = short_at program text _ term (nat_le (length text) most_bytes) refl is

pub short_condition : (program : Program) (text : List ℕ) (term : CheckedTerm) → condition_in asmeta program text ≡ Ok term → length text ≤ most_bytes
short_condition program text term is = short_meaning program text term (found (meaning_of_term program (Some Truth) text) term is)

-- ---- a term with too much work

-- reported at the same place of its text, with the work as it is told
pub reported : (source : List ℕ) (term : CheckedTerm) (work whole at line column : ℕ) (kind more : List ℕ) → kind ≡ codes "TooMuchWork" → more ≡ decimal work
    → work ≡ min whole most_work_told → take at source ≡ take term.start source → line ≡ 1 + count_by (λ b. b == 10) (take at source)
    → column ≡ 1 + suffix_len (λ b. not (b == 10)) (take at source) → record { kind = kind; more = more; line = line; column = column } ≡ too_much_work source term whole
reported source term work whole at line column kind more k m told same l c = λ i. record {
  kind = k i;
  more = (m ∙ ap decimal told) i;
  line = (l ∙ ap (λ t. 1 + count_by (λ b. b == 10) t) same) i;
  column = (c ∙ ap (λ t. 1 + suffix_len (λ b. not (b == 10)) t) same) i;
}

pub refused_for : {E : Type 0} (r : Result Refusal E) (bad is : BadText) → bad ≡ is → IfOk r (λ refusal. refusal ≡ bad_text bad) → IfOk r (λ refusal. refusal ≡ bad_text is)
refused_for r bad is e told = subst (λ b. IfOk r (λ refusal. refusal ≡ bad_text b)) e told
