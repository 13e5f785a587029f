-- Typing in its own words: the relation of variables in scope, a term and its type, by derivations.
-- Each form of the grammar has its rule, as in Pierce, Types and Programming Languages (2002),
-- chapter 9; which types there are, what fits and what joins is this language's own.
use Rattle.std.specs.Prelude.{◌≡◌, ◌≢◌, ◌⊎◌, ℕ, ◌≤◌, Bool, true, false, ◌||◌, Option, Some, List}
use Rattle.std.specs.Prelude.{[], ◌∷◌, ◌++◌, length, slice_get, codes}
use Rattle.std.specs.List.{AllByRecursion}
use Rattle.std.specs.Str.{bytes_eq}
use Rattle.asm_value.specs.declared.domain.Domain.{Domain}
use Rattle.asm_value.specs.Enumerable.{size}
use Rattle.asm_syntax.specs.declared.token.Span.{Span}
use Rattle.asm_syntax.specs.declared.token.Token.{Token}
use Rattle.asm_syntax.specs.declared.tree.RangeTree.{RangeTree}
use Rattle.asm_syntax.specs.declared.tree.RangesTree.{RangesTree}
use Rattle.asm_syntax.specs.declared.tree.BindTree.{BindTree}
use Rattle.asm_syntax.specs.declared.tree.BindsTree.{BindsTree}
use Rattle.asm_syntax.specs.declared.tree.CaseTree.{CaseTree}
use Rattle.asm_syntax.specs.declared.tree.TermsTree.{TermsTree}
use Rattle.asm_syntax.specs.declared.tree.TermTree.{TermTree}
use Rattle.asm_syntax.specs.declared.tree.TermTree.TheOpen.{TermTree-F}
use Rattle.asm_syntax.specs.declared.tree.TermTree.TheViews.{out-TermTree, out-CaseTree}
use Rattle.asm_syntax.specs.Marks.{text_of}
use Rattle.asm_typing.specs.declared.types.Type.{«Type» as TermType}
use Rattle.asm_typing.specs.declared.types.Type.TheVariants as type
use Rattle.asm_typing.specs.declared.operators.Operator.{Operator}
use Rattle.asm_typing.specs.Domains.{type_of}
use Rattle.asm_typing.specs.Fits.{fits}
use Rattle.asm_typing.specs.Joins.{join, join_all}
use Rattle.asm_typing.specs.Operators.{operator_type, is_operator}
use Rattle.asm_program.specs.declared.named.Named.{Named}
use Rattle.asm_program.specs.declared.named.Named.TheVariants as named
use Rattle.asm_program.specs.Forms.{optional}
use Rattle.asm_program.specs.Items.{bind_of, binds_of, listed_terms, terms_of, list_of_ranges}
use Rattle.asm_program.specs.Signatures.{Header, find, range_domain}
use Rattle.asm_program.specs.TypedTerms.{Scope, Variables, with_variable, with_ranges}

-- ---- types

abbrev pub Fits : TermType → TermType → Type 0
Fits s t = fits s t ≡ true

-- Boolean, or untyped
abbrev pub IsTruth : TermType → Type 0
IsTruth s = Fits s type.Truth

-- Integer, or untyped
abbrev pub IsInt : TermType → Type 0
IsInt s = Fits s type.Int

-- there is a join of both
abbrev pub HaveJoin : TermType → TermType → Type 0
HaveJoin s t = (u : TermType) × (join s t ≡ Some u)

-- the types fit the domains one by one, in number too
abbrev pub FitEach : List TermType → List Domain → Type 0
FitEach [] [] = Unit {0}
FitEach [] (d ∷ ds) = ⊥
FitEach (s ∷ ss) [] = ⊥
FitEach (s ∷ ss) (d ∷ ds) = Fits s (type_of d) × FitEach ss ds

-- ---- names

-- `and`, `or` and `implies`, which stand in no table
abbrev pub is_connective : List ℕ → Bool
is_connective op =
    bytes_eq op (codes "and") || bytes_eq op (codes "or") || bytes_eq op (codes "implies")

-- functions and literals have values; domains and macro rules have none
abbrev pub has_value : Option Named → Bool
has_value (Some (named.Function f)) = true
has_value (Some (named.Literal d i)) = true
has_value _ = false

-- no variable has the name
abbrev pub IsFree : Variables → List ℕ → Type 0
IsFree variables name = AllByRecursion (λ v. v.0 ≢ name) variables

-- the innermost variable of the name, which is the last, has the type
abbrev pub IsInScope : Variables → List ℕ → TermType → Type 0
IsInScope [] name type = ⊥
IsInScope (v ∷ inner) name type =
    IsInScope inner name type ⊎ ((v.0 ≡ name) × (v.1 ≡ type) × IsFree inner name)

module _ (scope : Scope) where
  abbrev pub NamesFunction : Token → Header → Type 0
  NamesFunction name h =
      (f : ℕ) × (find scope.names (text_of name) ≡ Some (named.Function f))
      × (slice_get scope.functions f ≡ Some h)

  -- a literal of an enum domain
  abbrev pub NamesLiteral : Token → ℕ → Type 0
  NamesLiteral name d =
      (i : ℕ) × (find scope.names (text_of name) ≡ Some (named.Literal d i))

  -- an operator's name, which neither a function nor a literal hides
  pub record NamesOperator (name : Token) : Type 0 where
    pub free : has_value (find scope.names (text_of name)) ≡ false
    pub operator : is_operator (text_of name) ≡ true

  -- the members of the range's domain can be taken one by one
  abbrev pub IsEnumerable : RangeTree → Type 0
  IsEnumerable r = (n : ℕ) × (size scope.domains (range_domain scope.names r) ≡ Some n)

  abbrev pub AreEnumerable : RangesTree → Type 0
  AreEnumerable ranges = AllByRecursion IsEnumerable (list_of_ranges ranges)

  -- the variables in scope within the ranges
  abbrev pub within : Variables → RangesTree → Variables
  within variables ranges = with_ranges scope variables (list_of_ranges ranges)

-- ---- terms

module _ (scope : Scope) where
  mutual
    -- over these variables, the term has the type
    pub data HasType : Variables → TermTree → TermType → Type 0 where
      Prefix : {variables : Variables} {t operand : TermTree} {op : List ℕ} {span : Span}
          {s : TermType} {operator : Operator}
          → out-TermTree t ≡ TermTree-F.Prefix op operand span
          → HasType variables operand s
          → operator_type op (s ∷ []) ≡ Some operator
          → HasType variables t operator.result
      Connective : {variables : Variables} {t left right : TermTree} {op : List ℕ} {span : Span}
          {s u : TermType}
          → out-TermTree t ≡ TermTree-F.Binary left op right span
          → is_connective op ≡ true
          → HasType variables left s
          → HasType variables right u
          → IsTruth s
          → IsTruth u
          → HasType variables t type.Truth
      Binary : {variables : Variables} {t left right : TermTree} {op : List ℕ} {span : Span}
          {s u : TermType} {operator : Operator}
          → out-TermTree t ≡ TermTree-F.Binary left op right span
          → is_connective op ≡ false
          → HasType variables left s
          → HasType variables right u
          → operator_type op (s ∷ u ∷ []) ≡ Some operator
          → HasType variables t operator.result
      Number : {variables : Variables} {t : TermTree} {number : Token} {span : Span}
          → out-TermTree t ≡ TermTree-F.Number number span
          → HasType variables t type.Int
      Chars : {variables : Variables} {t : TermTree} {chars : Token} {span : Span}
          → out-TermTree t ≡ TermTree-F.Chars chars span
          → length (text_of chars) ≤ 1024
          → HasType variables t type.Chars
      True : {variables : Variables} {t : TermTree} {span : Span}
          → out-TermTree t ≡ TermTree-F.True span
          → HasType variables t type.Truth
      False : {variables : Variables} {t : TermTree} {span : Span}
          → out-TermTree t ≡ TermTree-F.False span
          → HasType variables t type.Truth
      Undef : {variables : Variables} {t : TermTree} {span : Span}
          → out-TermTree t ≡ TermTree-F.Undef span
          → HasType variables t type.Untyped
      Var : {variables : Variables} {t : TermTree} {name : Token} {span : Span} {s : TermType}
          → out-TermTree t ≡ TermTree-F.Var name span
          → IsInScope variables (text_of name) s
          → HasType variables t s
      -- a name with its arguments: a function, a literal or an operator
      Function : {variables : Variables} {t : TermTree} {name : Token} {args : Option TermsTree}
          {span : Span} {h : Header} {ss : List TermType}
          → out-TermTree t ≡ TermTree-F.Name name args span
          → NamesFunction scope name h
          → HaveTypes variables (terms_of args) ss
          → FitEach ss h.args
          → HasType variables t (type_of h.result)
      Literal : {variables : Variables} {t : TermTree} {name : Token} {args : Option TermsTree}
          {span : Span} {d : ℕ}
          → out-TermTree t ≡ TermTree-F.Name name args span
          → NamesLiteral scope name d
          → terms_of args ≡ []
          → HasType variables t (type.Enum d)
      Operation : {variables : Variables} {t : TermTree} {name : Token} {args : Option TermsTree}
          {span : Span} {ss : List TermType} {operator : Operator}
          → out-TermTree t ≡ TermTree-F.Name name args span
          → NamesOperator scope name
          → HaveTypes variables (terms_of args) ss
          → operator_type (text_of name) ss ≡ Some operator
          → HasType variables t operator.result
      Tuple : {variables : Variables} {t : TermTree} {items : TermsTree} {span : Span}
          {ss : List TermType}
          → out-TermTree t ≡ TermTree-F.Tuple items span
          → HaveTypes variables (listed_terms items) ss
          → HasType variables t (type.Prod ss)
      Forall : {variables : Variables} {t body : TermTree} {ranges : RangesTree} {span : Span}
          {s : TermType}
          → out-TermTree t ≡ TermTree-F.Forall ranges body span
          → AreEnumerable scope ranges
          → HasType (within scope variables ranges) body s
          → IsTruth s
          → HasType variables t type.Truth
      Exist : {variables : Variables} {t body : TermTree} {unique : Bool} {ranges : RangesTree}
          {span : Span} {s : TermType}
          → out-TermTree t ≡ TermTree-F.Exist unique ranges body span
          → AreEnumerable scope ranges
          → HasType (within scope variables ranges) body s
          → IsTruth s
          → HasType variables t type.Truth
      Interval : {variables : Variables} {t from to : TermTree} {span : Span} {s u : TermType}
          → out-TermTree t ≡ TermTree-F.Interval from to span
          → HasType variables from s
          → HasType variables to u
          → IsInt s
          → IsInt u
          → HasType variables t (type.Set type.Int)
      Set : {variables : Variables} {t : TermTree} {items : Option TermsTree} {span : Span}
          {ss : List TermType} {item : TermType}
          → out-TermTree t ≡ TermTree-F.Set items span
          → HaveTypes variables (terms_of items) ss
          → join_all ss ≡ Some item
          → HasType variables t (type.Set item)
      Seq : {variables : Variables} {t : TermTree} {items : Option TermsTree} {span : Span}
          {ss : List TermType} {item : TermType}
          → out-TermTree t ≡ TermTree-F.Seq items span
          → HaveTypes variables (terms_of items) ss
          → join_all ss ≡ Some item
          → HasType variables t (type.Seq item)
      If : {variables : Variables} {t guard first : TermTree} {other : Option TermTree}
          {span : Span} {s u : TermType} {ss : List TermType}
          → out-TermTree t ≡ TermTree-F.If guard first other span
          → HasType variables guard s
          → HaveTypes variables (first ∷ optional other) ss
          → IsTruth s
          → join_all ss ≡ Some u
          → HasType variables t u
      Let : {variables inner : Variables} {t body : TermTree} {binds : BindsTree} {span : Span}
          {s : TermType}
          → out-TermTree t ≡ TermTree-F.Let binds body span
          → Bind variables (binds_of binds) inner
          → HasType inner body s
          → HasType variables t s
      -- each case joins with what it is compared with, and all that is given joins
      Switch : {variables : Variables} {t value : TermTree} {cases : List CaseTree}
          {other : Option TermTree} {span : Span} {s u : TermType} {ss ts us : List TermType}
          → out-TermTree t ≡ TermTree-F.Switch value cases other span
          → HasType variables value s
          → CasesHaveTypes variables cases ss ts
          → HaveTypes variables (optional other) us
          → AllByRecursion (HaveJoin s) ss
          → join_all (ts ++ us) ≡ Some u
          → HasType variables t u

    -- the terms have these types
    pub data HaveTypes : Variables → List TermTree → List TermType → Type 0 where
      no_term : {variables : Variables} → HaveTypes variables [] []
      one_term : {variables : Variables} {t : TermTree} {rest : List TermTree} {s : TermType}
          {ss : List TermType}
          → HasType variables t s
          → HaveTypes variables rest ss
          → HaveTypes variables (t ∷ rest) (s ∷ ss)

    -- Variables are bound one after the other, of which each sees those before it; then these are
    -- in scope.
    pub data Bind : Variables → List BindTree → Variables → Type 0 where
      no_bind : {variables : Variables} → Bind variables [] variables
      one_bind : {variables inner : Variables} {b : BindTree} {rest : List BindTree}
          {s : TermType}
          → HasType variables (bind_of b).1 s
          → Bind (with_variable variables (bind_of b).0 s) rest inner
          → Bind variables (b ∷ rest) inner

    -- what is compared has these types, and what is given those
    pub data CasesHaveTypes : Variables → List CaseTree → List TermType → List TermType → Type 0
      where
        no_case : {variables : Variables} → CasesHaveTypes variables [] [] []
        one_case : {variables : Variables} {c : CaseTree} {rest : List CaseTree} {s t : TermType}
            {ss ts : List TermType}
            → HasType variables (out-CaseTree c).value s
            → HasType variables (out-CaseTree c).term t
            → CasesHaveTypes variables rest ss ts
            → CasesHaveTypes variables (c ∷ rest) (s ∷ ss) (t ∷ ts)

  -- a guard has a type, which is Boolean
  abbrev pub IsGuard : Variables → TermTree → Type 0
  IsGuard variables t = (s : TermType) × HasType variables t s × IsTruth s
