-- Typing of terms: what is refused of a term, its type, and the term with numbers for its names.
use Rattle.std.specs.Prelude.{ℕ, ◌+◌, ◌==◌, ◌^◌, min, Bool, true, false, not, ◌&&◌, if◌then◌else◌, nat_lt, ℤ, pos, Option, Some, None, is_some, List, [], ◌∷◌, ◌++◌, map, length, take, slice_get, codes, count_by}
use Rattle.std.specs.Option.{option_map_or}
use Rattle.std.specs.List.{list_all}
use Rattle.std.specs.Str.{bytes_eq}
use Rattle.asm_value.specs.declared.value.Value.{Value}
use Rattle.asm_value.specs.declared.value.Value.TheVariants as values
use Rattle.asm_value.specs.declared.domain.Domain.{Domain}
use Rattle.asm_value.specs.declared.domain.Domain.TheOpen.{Domain-F}
use Rattle.asm_value.specs.declared.domain.Domain.TheViews.{out-Domain}
use Rattle.asm_value.specs.declared.domain.DomainInfo.{DomainInfo}
use Rattle.asm_value.specs.Domain.{each_passes}
use Rattle.asm_value.specs.Enumerable.{size, times}
use Rattle.asm_syntax.specs.declared.token.Span.{Span}
use Rattle.asm_syntax.specs.declared.token.Token.{Token}
use Rattle.asm_syntax.specs.declared.tree.RangeTree.{RangeTree}
use Rattle.asm_syntax.specs.declared.tree.RangesTree.{RangesTree}
use Rattle.asm_syntax.specs.declared.tree.TermTree.{TermTree}
use Rattle.asm_syntax.specs.declared.tree.TermTree.TheOpen.{TermTree-F}
use Rattle.asm_syntax.specs.declared.tree.TermTree.TheFolds.{fold-TermTree}
use Rattle.asm_syntax.specs.Marks.{text_of}
use Rattle.asm_syntax.specs.Extents.{domain_extent}
use Rattle.asm_tables.specs.declared.rows.Operation.{Operation}
use Rattle.asm_typing.specs.declared.types.Type.{«Type» as TermType}
use Rattle.asm_typing.specs.declared.types.Type.TheVariants as type
use Rattle.asm_typing.specs.declared.operators.Operator.{Operator}
use Rattle.asm_typing.specs.Domains.{type_of}
use Rattle.asm_typing.specs.Fits.{fits}
use Rattle.asm_typing.specs.Joins.{join, join_all}
use Rattle.asm_typing.specs.Operators.{operator_type, is_operator}
use Rattle.asm_program.specs.declared.named.Named.{Named}
use Rattle.asm_program.specs.declared.named.Named.TheVariants as named
use Rattle.asm_program.specs.declared.program.FunctionKind.{FunctionKind}
use Rattle.asm_program.specs.declared.program.FunctionKind.TheVariants as kinds
use Rattle.asm_program.specs.declared.trees.Term.{Term}
use Rattle.asm_program.specs.declared.trees.Case.{Case}
use Rattle.asm_program.specs.declared.trees.Term.TheVariants as terms
use Rattle.asm_program.specs.declared.trees.Term.TheViews.{roll-Case}
use Rattle.asm_program.specs.declared.type_refusal.Limited.TheVariants.{Chars, Product, Powerset}
use Rattle.asm_program.specs.declared.type_refusal.TypeRefusal.{TypeRefusal}
use Rattle.asm_program.specs.declared.type_refusal.TypeRefusal.TheVariants.{Unknown, Mismatch, NotEnumerable, Limit}
use Rattle.asm_program.specs.Items.{bind_level, binds_level, case_level, terms_level, list_of_ranges}
use Rattle.asm_program.specs.Signatures.{Names, Header, find, range_domain}
use Rattle.asm_program.specs.DomainsPass.{number_in}

-- what a text declares, as far as terms and rules see it
pub record Scope : Type 0 where
  pub names : Names
  pub domains : List DomainInfo
  pub functions : List Header
  -- the parameters of the macro rules
  pub macros : List (List Domain)

-- ---- refusals

-- what is refused of the parts; where that is nothing, what is refused of the whole
abbrev pub or_else : List TypeRefusal → List TypeRefusal → List TypeRefusal
or_else [] own = own
or_else (r ∷ rs) own = r ∷ rs

abbrev pub unless : Bool → TypeRefusal → List TypeRefusal
unless true r = []
unless false r = r ∷ []

abbrev pub unknown : Token → TypeRefusal
unknown t = Unknown (text_of t) t.span

-- ---- variables

-- the variables in scope with their types, the outermost first
abbrev pub Variables : Type 0
Variables = List (List ℕ × TermType)

abbrev pub variable_from : ℕ → Variables → List ℕ → Option (ℕ × TermType) → Option (ℕ × TermType)
variable_from i [] name found = found
variable_from i (v ∷ vs) name found =
    variable_from (i + 1) vs name (if bytes_eq v.0 name then Some (i, v.1) else found)

-- the position and type of a variable: an inner one hides an outer one of its name
abbrev pub variable_at : Variables → List ℕ → Option (ℕ × TermType)
variable_at variables name = variable_from 0 variables name None

abbrev pub with_variable : Variables → Token → TermType → Variables
with_variable variables t type = variables ++ (text_of t, type) ∷ []

-- ---- ranges

-- a domain whose members can't be taken one by one: too many of them where its parts are enumerable
abbrev pub all_sizes : List (Option ℕ) → Option ℕ
all_sizes [] = Some 1
all_sizes (s ∷ ss) = times s (all_sizes ss)

abbrev pub or_not_enumerable : (ℕ → TypeRefusal) → Span → Option ℕ → TypeRefusal
or_not_enumerable limit span None = NotEnumerable span
or_not_enumerable limit span (Some n) = limit (min n (2 ^ 64))

abbrev pub innumerable : List DomainInfo → Span → Domain-F Domain → TypeRefusal
innumerable domains span (Domain-F.Prod parts) =
    or_not_enumerable (λ n. Limit Product n span) span (all_sizes (map (size domains) parts))
innumerable domains span (Domain-F.Power part) =
    or_not_enumerable (λ n. Limit Powerset n span) span (size domains part)
innumerable domains span _ = NotEnumerable span

abbrev pub enumerable_refused : List DomainInfo → Domain → Span → List TypeRefusal
enumerable_refused domains d span =
    unless (is_some (size domains d)) (innumerable domains span (out-Domain d))

module _ (scope : Scope) where
  abbrev pub range_refused : RangeTree → List TypeRefusal
  range_refused r =
      enumerable_refused scope.domains (range_domain scope.names r) (domain_extent r.domain)

  abbrev pub ranges_refused : List RangeTree → List TypeRefusal
  ranges_refused [] = []
  ranges_refused (r ∷ rs) = range_refused r ++ ranges_refused rs

  abbrev pub with_ranges : Variables → List RangeTree → Variables
  with_ranges variables [] = variables
  with_ranges variables (r ∷ rs) =
      with_ranges (with_variable variables r.variable (type_of (range_domain scope.names r))) rs

-- ---- terms

-- what is refused of a term; where that is nothing, its type and its program's term
pub record Checked : Type 0 where
  pub refused : List TypeRefusal
  pub type : TermType
  pub term : Term
  pub span : Span

abbrev pub Typing : Type 0
Typing = Variables → Checked

abbrev pub all_refused : List Checked → List TypeRefusal
all_refused [] = []
all_refused (c ∷ cs) = c.refused ++ all_refused cs

abbrev pub types : List Checked → List TermType
types = map (λ c. c.type)

abbrev pub checked_terms : List Checked → List Term
checked_terms = map (λ c. c.term)

abbrev pub at : {A : Type 0} → Variables → List (Variables → A) → List A
at variables = map (λ t. t variables)

abbrev pub listed : Option (List Typing) → List Typing
listed None = []
listed (Some ts) = ts

-- Boolean, or untyped
abbrev pub is_truth : TermType → Bool
is_truth t = fits t type.Truth

abbrev pub is_int : TermType → Bool
is_int t = fits t type.Int

-- a part that has to be Boolean, and isn't, is refused at its own place
abbrev pub truth_refused : Checked → List TypeRefusal
truth_refused c = unless (is_truth c.type) (Mismatch c.span)

abbrev pub literal : Span → Value → TermType → Checked
literal span v t = record { refused = []; type = t; term = terms.Constant v; span = span }

abbrev pub type_or : Option TermType → TermType
type_or None = type.Untyped
type_or (Some t) = t

-- ---- operators

abbrev pub operation_of : Option Operator → Option Operation
operation_of None = None
operation_of (Some o) = o.operation

abbrev pub operator_checked : List ℕ → List Checked → Span → Checked
operator_checked name args span =
    let operator = operator_type name (types args) in
    record {
      refused = or_else (all_refused args) (unless (is_some operator) (Mismatch span));
      type = option_map_or (λ o. o.result) operator type.Untyped;
      term = terms.Operator (operation_of operator) (checked_terms args) span;
      span = span;
    }

abbrev pub connected : (Term → Term → Term) → Checked → Checked → Span → Checked
connected form left right span = record {
  refused = or_else (left.refused ++ right.refused) (truth_refused left ++ truth_refused right);
  type = type.Truth;
  term = form left.term right.term;
  span = span;
}

-- `and`, `or` and `implies` have forms of their own
abbrev pub binary_checked : List ℕ → Checked → Checked → Span → Checked
binary_checked op left right span =
    if bytes_eq op (codes "and") then connected terms.And left right span
    else (if bytes_eq op (codes "or") then connected terms.Or left right span
    else (if bytes_eq op (codes "implies") then connected terms.Implies left right span
    else operator_checked op (left ∷ right ∷ []) span))

-- ---- names

abbrev pub args_fit : List TermType → List Domain → Bool
args_fit ts ds = each_passes (map fits ts) (map type_of ds)

-- the number of an abstract domain
abbrev pub abstract_level : {A : Type 0} → Domain-F A → Option ℕ
abstract_level (Domain-F.Abstract d) = Some d
abstract_level _ = None

abbrev pub abstract_number : Domain → Option ℕ
abstract_number d = abstract_level (out-Domain d)

abbrev pub is_constant_kind : FunctionKind → Bool
is_constant_kind kinds.Constant = true
is_constant_kind _ = false

-- a constant of the domain with this number
abbrev pub is_constant_of : ℕ → Header → Bool
is_constant_of d h =
    is_constant_kind h.kind && option_map_or (λ e. e == d) (abstract_number h.result) false

-- the constants of a domain are its members 0, 1, .. in text order
abbrev pub constant_value : List Header → ℕ → Option ℕ → Value
constant_value functions f None = values.Undef
constant_value functions f (Some d) =
    values.Member d (count_by (is_constant_of d) (take f functions))

abbrev pub function_term : List Header → ℕ → Header → FunctionKind → List Term → Term
function_term functions f h kinds.Static args = terms.Call f args
function_term functions f h kinds.Derived args = terms.Call f args
function_term functions f h kinds.Controlled args = terms.Read f args
function_term functions f h kinds.Monitored args = terms.Read f args
function_term functions f h kinds.Shared args = terms.Read f args
function_term functions f h kinds.Out args = terms.Read f args
function_term functions f h kinds.Constant args =
    terms.Constant (constant_value functions f (abstract_number h.result))

-- the arguments fit the domains, in number too; else the whole is refused
abbrev pub call_refused : List Checked → List Domain → Span → List TypeRefusal
call_refused args domains span =
    or_else (all_refused args) (unless (args_fit (types args) domains) (Mismatch span))

module _ (scope : Scope) where
  abbrev pub function_checked : ℕ → Option Header → List Checked → Span → Checked
  function_checked f None args span = literal span values.Undef type.Untyped
  function_checked f (Some h) args span = record {
    refused = call_refused args h.args span;
    type = type_of h.result;
    term = function_term scope.functions f h h.kind (checked_terms args);
    span = span;
  }

  -- a literal takes no arguments
  abbrev pub literal_checked : ℕ → ℕ → List Checked → Span → Checked
  literal_checked d i args span = record {
    refused = call_refused args [] span;
    type = type.Enum d;
    term = terms.Constant (values.Member d i);
    span = span;
  }

  -- the name of an operator is never unknown
  abbrev pub other_checked : Token → List Checked → Span → Checked
  other_checked name args span =
      if is_operator (text_of name) then operator_checked (text_of name) args span
      else record {
        refused = unknown name ∷ all_refused args;
        type = type.Untyped;
        term = terms.Constant values.Undef;
        span = span;
      }

  -- functions and literals hide operators of their names; domains and macro rules are no terms
  abbrev pub named_checked : Option Named → Token → List Checked → Span → Checked
  named_checked (Some (named.Function f)) name args span =
      function_checked f (slice_get scope.functions f) args span
  named_checked (Some (named.Literal d i)) name args span = literal_checked d i args span
  named_checked _ name args span = other_checked name args span

  abbrev pub name_checked : Token → List Checked → Span → Checked
  name_checked name args span = named_checked (find scope.names (text_of name)) name args span

-- ---- the other forms

abbrev pub variable_checked : Token → Span → Option (ℕ × TermType) → Checked
variable_checked t span None = record {
  refused = unknown t ∷ [];
  type = type.Untyped;
  term = terms.Constant values.Undef;
  span = span;
}
variable_checked t span (Some found) = record {
  refused = [];
  type = found.1;
  term = terms.Variable found.0;
  span = span;
}

abbrev pub chars_checked : Token → Span → Checked
chars_checked t span = record {
  refused =
      unless (not (nat_lt 1024 (length (text_of t)))) (Limit Chars (length (text_of t)) t.span);
  type = type.Chars;
  term = terms.Constant (values.Chars (text_of t));
  span = span;
}

abbrev pub tuple_checked : List Checked → Span → Checked
tuple_checked items span = record {
  refused = all_refused items;
  type = type.Prod (types items);
  term = terms.Tuple (checked_terms items) span;
  span = span;
}

-- the items of a set or a sequence have to join
abbrev pub items_checked : (TermType → TermType) → (List Term → Span → Term) → List Checked → Span
    → Checked
items_checked of_type form items span = record {
  refused = or_else (all_refused items) (unless (is_some (join_all (types items))) (Mismatch span));
  type = of_type (type_or (join_all (types items)));
  term = form (checked_terms items) span;
  span = span;
}

abbrev pub interval_checked : Checked → Checked → Span → Checked
interval_checked from to span = record {
  refused = or_else (from.refused ++ to.refused)
      (unless (is_int from.type && is_int to.type) (Mismatch span));
  type = type.Set type.Int;
  term = terms.Interval from.term to.term span;
  span = span;
}

-- the body has to be Boolean
abbrev pub quantified : (List Domain → Term → Term) → List TypeRefusal → List Domain → Checked
    → Span → Checked
quantified form ranges_refused domains body span = record {
  refused = or_else (ranges_refused ++ body.refused) (truth_refused body);
  type = type.Truth;
  term = form domains body.term;
  span = span;
}

abbrev pub exists_form : Bool → List Domain → Term → Term
exists_form true = terms.ExistUnique
exists_form false = terms.Exist

abbrev pub some_checked : Option Checked → List Checked
some_checked None = []
some_checked (Some c) = c ∷ []

abbrev pub some_term : Option Checked → Option Term
some_term None = None
some_term (Some c) = Some c.term

-- the parts have to join, and the guard has to be Boolean
abbrev pub if_checked : Checked → Checked → Option Checked → Span → Checked
if_checked guard first other span =
    let parts = first ∷ some_checked other in
    record {
      refused = or_else (guard.refused ++ all_refused parts)
          (unless (is_some (join_all (types parts))) (Mismatch span) ++ truth_refused guard);
      type = type_or (join_all (types parts));
      term = terms.If guard.term first.term (some_term other);
      span = span;
    }

-- bound variables, one after the other: what is refused, the terms, and the variables then in scope
pub record Bound : Type 0 where
  pub refused : List TypeRefusal
  pub terms : List Term
  pub variables : Variables

abbrev pub bound_first : Checked → Bound → Bound
bound_first c b = record {
  refused = c.refused ++ b.refused;
  terms = c.term ∷ b.terms;
  variables = b.variables;
}

abbrev pub bound : Variables → List (Token × Typing) → Bound
bound variables [] = record { refused = []; terms = []; variables = variables }
bound variables (b ∷ bs) =
    let c = b.1 variables in
    bound_first c (bound (with_variable variables b.0 c.type) bs)

abbrev pub let_checked : Bound → Checked → Span → Checked
let_checked b body span = record {
  refused = b.refused ++ body.refused;
  type = body.type;
  term = terms.Let b.terms body.term;
  span = span;
}

abbrev pub case_refused : List (Checked × Checked) → List TypeRefusal
case_refused [] = []
case_refused (c ∷ cs) = c.0.refused ++ c.1.refused ++ case_refused cs

abbrev pub join_with : TermType → List TermType → Bool
join_with t ts = list_all (λ u. is_some (join t u)) ts

abbrev pub case_of : Checked × Checked → Case
case_of c = roll-Case (record { value = c.0.term; term = c.1.term })

-- each case joins with the term after `switch`, and the parts have to join
abbrev pub switch_checked : Checked → List (Checked × Checked) → Option Checked → Span → Checked
switch_checked value cases other span =
    let parts = map (λ c. c.1) cases ++ some_checked other in
    record {
      refused = or_else (value.refused ++ case_refused cases ++ all_refused (some_checked other))
          (unless
          (join_with value.type (map (λ c. c.0.type) cases) && is_some (join_all (types parts)))
          (Mismatch span));
      type = type_or (join_all (types parts));
      term = terms.Switch value.term (map case_of cases) (some_term other);
      span = span;
    }

-- ---- terms

abbrev pub TermLevel : Type 0
TermLevel =
    TermTree-F Typing (Token × Typing) (List (Token × Typing)) (Typing × Typing) (List Typing)

abbrev pub both_at : Variables → List (Typing × Typing) → List (Checked × Checked)
both_at variables = map (λ c. (c.0 variables, c.1 variables))

abbrev pub option_at : {A : Type 0} → Variables → Option (Variables → A) → Option A
option_at variables None = None
option_at variables (Some t) = Some (t variables)

module _ (scope : Scope) where
  abbrev pub range_domains : List RangeTree → List Domain
  range_domains = map (range_domain scope.names)

  abbrev pub check_level : TermLevel → Typing
  check_level (TermTree-F.Prefix op t span) variables = operator_checked op (t variables ∷ []) span
  check_level (TermTree-F.Binary left op right span) variables =
      binary_checked op (left variables) (right variables) span
  check_level (TermTree-F.Number t span) variables =
      literal span (values.Int (number_in t.kind)) type.Int
  check_level (TermTree-F.Chars t span) variables = chars_checked t span
  check_level (TermTree-F.True span) variables = literal span (values.Truth true) type.Truth
  check_level (TermTree-F.False span) variables = literal span (values.Truth false) type.Truth
  check_level (TermTree-F.Undef span) variables = literal span values.Undef type.Untyped
  check_level (TermTree-F.Var t span) variables =
      variable_checked t span (variable_at variables (text_of t))
  check_level (TermTree-F.Name t args span) variables =
      name_checked scope t (at variables (listed args)) span
  check_level (TermTree-F.Tuple items span) variables = tuple_checked (at variables items) span
  check_level (TermTree-F.Forall ranges body span) variables =
      let all = list_of_ranges ranges in
      quantified terms.Forall (ranges_refused scope all) (range_domains all)
      (body (with_ranges scope variables all)) span
  check_level (TermTree-F.Exist unique ranges body span) variables =
      let all = list_of_ranges ranges in
      quantified (exists_form unique) (ranges_refused scope all) (range_domains all)
      (body (with_ranges scope variables all)) span
  check_level (TermTree-F.Interval from to span) variables =
      interval_checked (from variables) (to variables) span
  check_level (TermTree-F.Set items span) variables =
      items_checked type.Set terms.Set (at variables (listed items)) span
  check_level (TermTree-F.Seq items span) variables =
      items_checked type.Seq terms.Seq (at variables (listed items)) span
  check_level (TermTree-F.If guard first other span) variables =
      if_checked (guard variables) (first variables) (option_at variables other) span
  check_level (TermTree-F.Let binds body span) variables =
      let b = bound variables binds in
      let_checked b (body b.variables) span
  check_level (TermTree-F.Switch t cases other span) variables =
      switch_checked (t variables) (both_at variables cases) (option_at variables other) span

  -- a term over some variables
  unfoldable pub checked : TermTree → Typing
  checked =
      fold-TermTree Typing (Token × Typing) (List (Token × Typing)) (Typing × Typing) (List Typing)
      check_level bind_level binds_level case_level terms_level
