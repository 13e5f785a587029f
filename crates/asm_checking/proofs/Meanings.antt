-- What is found of a tree is what the text means.
use Rattle.std.proofs.Common.{◌≡◌, ◌≢◌, ℕ, List, [], ◌∷◌, slice_get, Option, Some, Result, Ok, Err, IfOk, MatchResult, unwrap_or, refl, sym, ap, ◌∙◌, subst}
use Rattle.asm_value.specs.declared.domain.Domain.{Domain}
use Rattle.asm_syntax.specs.declared.tree.ModelTree.{ModelTree}
use Rattle.asm_syntax.specs.declared.tree.TermTree.{TermTree}
use Rattle.asm_syntax.specs.Extents.{extent}
use Rattle.asm_syntax.specs.Texts.{IsModel, IsTerm}
use Rattle.asm_program.specs.declared.bad_text.BadText.{BadText}
use Rattle.asm_program.specs.declared.checked.CheckedTerm.{CheckedTerm}
use Rattle.asm_program.specs.declared.program.Program.{Program}
use Rattle.asm_program.specs.declared.type_refusal.TypeRefusal.{TypeRefusal}
use Rattle.asm_program.specs.declared.type_refusal.TypeRefusal.TheVariants.{Duplicate, Unknown, Mismatch, Recursive, NotEnumerable, Missing, Limit, TooMuchWork, NoMemory}
use Rattle.asm_program.specs.Checks.{IsFirst}
use Rattle.asm_program.specs.Counts.{term_work}
use Rattle.asm_program.specs.Typed.{first_refusal}
use Rattle.asm_program.specs.TypedAlone.{term_refused}
use Rattle.asm_typed_alone.specs.declared.terms.TypedTerm.{TypedTerm}
use Rattle.asm_typed_alone.specs.Alone.{IsTypedTerm}
use Rattle.asm_meaning.specs.Texts as texts
use Rattle.asm_meaning.specs.Texts.{reported_type, IsProgram, IsBadText, meaning_of_text}
use Rattle.asm_meaning.specs.Terms as terms
use Rattle.asm_meaning.specs.Terms.{IsTypedText, IsBadTerm, meaning_of_term}
use Rattle.asm_meaning.proofs.Texts as model_laws
use Rattle.asm_meaning.proofs.Terms as term_laws

-- ---- models

pub model_untyped : (text : List ℕ) (tree : ModelTree) (why : TypeRefusal) (bad : BadText) → IsModel text tree → (why ≢ NoMemory → first_refusal text tree ≡ Some why)
    → why ≢ NoMemory → bad ≡ reported_type text why → IsBadText text bad
model_untyped text tree why bad m first some is = subst (IsBadText text) (sym is) (texts.untyped {tree = tree} {why = why} m (first some))

-- what was found is what the text means
pub program_found : {E : Type 0} (text : List ℕ) (r : Result (Result Program BadText) E) → IfOk r (λ found. MatchResult found (IsProgram text) (IsBadText text))
    → IfOk r (λ found. found ≡ meaning_of_text text)
program_found text (Ok (Ok program)) h = sym (model_laws.program_complete text program h)
program_found text (Ok (Err why)) h = sym (model_laws.bad_complete text why h)
program_found text (Err fault) h = h

-- ---- terms

head_is : (why : TypeRefusal) (refused : List TypeRefusal) → slice_get refused 0 ≡ Some why → (others : List TypeRefusal) × (refused ≡ why ∷ others)
head_is why [] e = absurd (cc e)
head_is why (x ∷ others) e = (others, ap (λ z. z ∷ others) (ap (λ o. unwrap_or o x) e))

first_is : (why : TypeRefusal) (refused : List TypeRefusal) → IsFirst why refused → why ≢ NoMemory → (others : List TypeRefusal) × (refused ≡ why ∷ others)
first_is (Duplicate name span) refused h some = head_is (Duplicate name span) refused h
first_is (Unknown name span) refused h some = head_is (Unknown name span) refused h
first_is (Mismatch span) refused h some = head_is (Mismatch span) refused h
first_is (Recursive name span) refused h some = head_is (Recursive name span) refused h
first_is (NotEnumerable span) refused h some = head_is (NotEnumerable span) refused h
first_is (Missing name span) refused h some = head_is (Missing name span) refused h
first_is (Limit kind n span) refused h some = head_is (Limit kind n span) refused h
first_is (TooMuchWork n span) refused h some = head_is (TooMuchWork n span) refused h
first_is NoMemory refused h some = absurd (some refl)

module _ (program : Program) (wanted : Option Domain) where
  module _ (text : List ℕ) (tree : TermTree) (spelled : IsTerm text tree) where
    pub term_typed : (typed : TypedTerm) → term_refused program wanted tree ≡ [] → IsTypedTerm program tree typed → (term : CheckedTerm) (start : ℕ)
        → start ≡ (extent tree).start → term ≡ record { term = typed.term; work = typed.work; start = start } → IsTypedText program wanted text term
    term_typed typed none t term start there e = record {
      tree = tree;
      spelled = spelled;
      unrefused = none;
      is = e ∙ (λ i. record {
        term = t.term i;
        work = (t.work ∙ ap (term_work program.domains program.functions) t.term) i;
        start = there i;
      });
    }

    pub term_untyped : (why : TypeRefusal) (bad : BadText) → IsFirst why (term_refused program wanted tree) → why ≢ NoMemory → bad ≡ reported_type text why
        → IsBadTerm program wanted text bad
    term_untyped why bad first some is =
        let found = first_is why (term_refused program wanted tree) first some in
        subst (IsBadTerm program wanted text) (sym is) (terms.untyped {tree = tree} {why = why} {others = found.0} spelled found.1)

  -- what was found is what the text means
  pub term_found : {E : Type 0} (text : List ℕ) (r : Result (Result CheckedTerm BadText) E)
      → IfOk r (λ found. MatchResult found (IsTypedText program wanted text) (IsBadTerm program wanted text))
      → IfOk r (λ found. found ≡ meaning_of_term program wanted text)
  term_found text (Ok (Ok term)) h = sym (term_laws.typed_complete program wanted text term h)
  term_found text (Ok (Err why)) h = sym (term_laws.bad_complete program wanted text why h)
  term_found text (Err fault) h = h
