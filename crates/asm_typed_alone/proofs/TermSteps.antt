-- The refusals of a term alone, pass by pass.
use Rattle.std.proofs.Common.{◌≡◌, ℕ, List, [], ◌∷◌, ◌++◌, Option, Some, refl, sym, ap, ◌∙◌}
use Rattle.std.specs.List.{slice_get}
use Rattle.std.proofs.lemmas.List.{append_assoc}
use Rattle.asm_value.specs.declared.domain.Domain.{Domain}
use Rattle.asm_syntax.specs.declared.token.Span.{Span}
use Rattle.asm_syntax.specs.declared.tree.TermTree.{TermTree}
use Rattle.asm_syntax.specs.Extents.{extent}
use Rattle.asm_typing.specs.Domains.{domain_of}
use Rattle.asm_program.specs.declared.program.Program.{Program}
use Rattle.asm_program.specs.declared.trees.Term.{Term}
use Rattle.asm_program.specs.declared.type_refusal.TypeRefusal.{TypeRefusal}
use Rattle.asm_program.specs.declared.type_refusal.TypeRefusal.TheVariants.{Duplicate, Unknown, Mismatch, Recursive, NotEnumerable, Missing, Limit, TooMuchWork, NoMemory}
use Rattle.asm_program.specs.Checks.{IsFirst}
use Rattle.asm_program.specs.Counts.{term_depth, term_work}
use Rattle.asm_program.specs.Items.{term_items}
use Rattle.asm_program.specs.NamesPass.{names_refused}
use Rattle.asm_program.specs.DomainsPass.{domains_refused}
use Rattle.asm_program.specs.TypedTerms.{Scope, Checked, or_else, checked}
use Rattle.asm_program.specs.TypedAlone.{is_wanted, checked_alone, scope_of_program, term_refused}
use Rattle.asm_program.specs.Typed.{depth_refused, work_refused}
use Rattle.asm_scope.proofs.Checking.{is_first-append, is_first-along, first_of_rest}
use Rattle.asm_typed.specs.declared.typed.Typed.{Typed}
use Rattle.asm_typed.specs.Answers.{IsTyped, done}
use Rattle.asm_typed_alone.specs.declared.terms.TypedTerm.{TypedTerm}
use Rattle.asm_typed_alone.specs.Alone.{IsTypedTerm}

-- ---- two lists

get-else : (why : TypeRefusal) (xs own : List TypeRefusal) → slice_get xs 0 ≡ Some why
    → slice_get (or_else xs own) 0 ≡ Some why
get-else why [] own h = absurd (cc h)
get-else why (x ∷ xs) own h = h

first-else : (why : TypeRefusal) (xs own : List TypeRefusal) → IsFirst why xs
    → IsFirst why (or_else xs own)
first-else (Duplicate name span) xs own h = get-else (Duplicate name span) xs own h
first-else (Unknown name span) xs own h = get-else (Unknown name span) xs own h
first-else (Mismatch span) xs own h = get-else (Mismatch span) xs own h
first-else (Recursive name span) xs own h = get-else (Recursive name span) xs own h
first-else (NotEnumerable span) xs own h = get-else (NotEnumerable span) xs own h
first-else (Missing name span) xs own h = get-else (Missing name span) xs own h
first-else (Limit kind n span) xs own h = get-else (Limit kind n span) xs own h
first-else (TooMuchWork n span) xs own h = get-else (TooMuchWork n span) xs own h
first-else NoMemory xs own h = tt

both_none : (xs ys : List TypeRefusal) → xs ≡ [] → ys ≡ [] → xs ++ ys ≡ []
both_none xs ys e f = (λ i. e i ++ f i)

-- ---- the domain that is wanted

module _ (wanted : Option Domain) (c : Checked) where
  pub wanted-first : (why : TypeRefusal) → IsFirst why c.refused
      → IsFirst why (or_else c.refused (is_wanted wanted c))
  wanted-first why f = first-else why c.refused (is_wanted wanted c) f

  pub wanted-second : (t : Typed) → c.refused ≡ [] → done t ≡ c → (why : TypeRefusal)
      → IsFirst why (is_wanted wanted (done t))
      → IsFirst why (or_else c.refused (is_wanted wanted c))
  wanted-second t none is why f =
      is_first-along why (is_wanted wanted (done t)) (or_else c.refused (is_wanted wanted c))
      (ap (is_wanted wanted) is ∙ ap (λ xs. or_else xs (is_wanted wanted c)) (sym none)) f

  pub wanted-none : (t : Typed) → c.refused ≡ [] → done t ≡ c → is_wanted wanted (done t) ≡ []
      → or_else c.refused (is_wanted wanted c) ≡ []
  wanted-none t none is fit =
      ap (λ xs. or_else xs (is_wanted wanted c)) none ∙ ap (is_wanted wanted) (sym is) ∙ fit

pub ruleset wanted_steps = (wanted-first, wanted-second, wanted-none)

-- ---- names, domains and types

module _ (scope all : Scope) (is : scope ≡ all) (tree : TermTree) (wanted : Option Domain) where
  abbrev early : Scope → List TypeRefusal
  early s = names_refused (term_items tree) ++ domains_refused [] s.names (term_items tree)

  abbrev typed : Scope → List TypeRefusal
  typed s = or_else (checked s tree []).refused (is_wanted wanted (checked s tree []))

  pub alone-first : (why : TypeRefusal) → IsFirst why (early scope)
      → IsFirst why (early all ++ typed all)
  alone-first why f =
      is_first-append why (early all) (typed all)
      (is_first-along why (early scope) (early all) (ap early is) f)

  pub alone-second : early scope ≡ [] → (why : TypeRefusal) → IsFirst why (typed scope)
      → IsFirst why (early all ++ typed all)
  alone-second none why f =
      first_of_rest why (early all) (typed all) (early all ++ typed all) refl
      (ap early (sym is) ∙ none)
      (is_first-along why (typed scope) (typed all) (ap typed is) f)

  pub alone-none : early scope ≡ [] → typed scope ≡ [] → early all ++ typed all ≡ []
  alone-none none more =
      both_none (early all) (typed all) (ap early (sym is) ∙ none) (ap typed (sym is) ∙ more)

  pub alone-typed : (t : Typed) → IsTyped t (checked scope tree [])
      → IsTyped t (checked all tree [])
  alone-typed t h = (
    h.0 ∙ ap (λ s. checked s tree []) is,
    h.1 ∙ ap (λ s. (checked s tree []).type) is,
    h.2 ∙ ap (λ s. (checked s tree []).term) is,
  )

pub ruleset alone_steps = (alone-first, alone-second, alone-none, alone-typed)

-- ---- and what counts

module _ (p : Program) (wanted : Option Domain) (tree : TermTree) where
  abbrev before : List TypeRefusal
  before =
      names_refused (term_items tree)
      ++ domains_refused [] (scope_of_program p).names (term_items tree)
      ++ or_else (checked_alone p tree).refused (is_wanted wanted (checked_alone p tree))

  abbrev counts : Term → Span → List TypeRefusal
  counts term place =
      depth_refused (term_depth p.functions term) place
      ++ work_refused (term_work p.domains p.functions term) place

  abbrev counted : Term
  counted = (checked_alone p tree).term

  whole : before ++ counts counted (extent tree) ≡ term_refused p wanted tree
  whole =
      sym (append_assoc before (depth_refused (term_depth p.functions counted) (extent tree))
      (work_refused (term_work p.domains p.functions counted) (extent tree)))

  pub term-first : (why : TypeRefusal) → IsFirst why before → IsFirst why (term_refused p wanted tree)
  term-first why f =
      is_first-along why (before ++ counts counted (extent tree)) (term_refused p wanted tree) whole
      (is_first-append why before (counts counted (extent tree)) f)

  module _ (t : Typed) (is : IsTyped t (checked_alone p tree)) (place : Span) (there : place ≡ extent tree) where
    same_counts : counts t.term place ≡ counts counted (extent tree)
    same_counts = (λ i. counts (is.2 i) (there i))

    pub term-second : before ≡ [] → (why : TypeRefusal) → IsFirst why (counts t.term place)
        → IsFirst why (term_refused p wanted tree)
    term-second none why f =
        first_of_rest why before (counts counted (extent tree)) (term_refused p wanted tree)
        (sym whole) none
        (is_first-along why (counts t.term place) (counts counted (extent tree)) same_counts f)

    pub term-none : before ≡ [] → counts t.term place ≡ [] → term_refused p wanted tree ≡ []
    term-none none few =
        sym whole ∙ both_none before (counts counted (extent tree)) none (sym same_counts ∙ few)

    pub term-typed : (result : TypedTerm) (domain : Domain) (work : ℕ) → result.term ≡ t.term
        → result.domain ≡ domain → result.work ≡ work → domain ≡ domain_of t.of
        → work ≡ term_work p.domains p.functions t.term → IsTypedTerm p tree result
    term-typed result domain work e f g d w = record {
      term = e ∙ is.2;
      domain = f ∙ d ∙ ap domain_of is.1;
      work = g ∙ w ∙ ap (term_work p.domains p.functions) (sym e);
    }

pub ruleset term_steps = (term-first, term-second, term-none, term-typed)
