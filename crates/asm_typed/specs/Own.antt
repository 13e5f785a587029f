-- What is left to test, and what is made, where the parts are typed.
use Rattle.std.specs.Prelude.{ℕ, Bool, not, ◌&&◌, if◌then◌else◌, Option, Some, None, is_some, List, [], ◌∷◌, ◌++◌, map}
use Rattle.std.specs.Option.{option_map_or, option_map}
use Rattle.asm_value.specs.declared.domain.Domain.{Domain}
use Rattle.asm_value.specs.declared.value.Value.TheVariants as values
use Rattle.asm_syntax.specs.declared.token.Span.{Span}
use Rattle.asm_typing.specs.declared.types.Type.{«Type» as TermType}
use Rattle.asm_typing.specs.declared.types.Type.TheVariants as type
use Rattle.asm_typing.specs.Domains.{type_of}
use Rattle.asm_typing.specs.Joins.{join_all}
use Rattle.asm_typing.specs.Operators.{operator_type}
use Rattle.asm_program.specs.declared.trees.Term.{Term}
use Rattle.asm_program.specs.declared.trees.Case.{Case}
use Rattle.asm_program.specs.declared.trees.Term.TheVariants as terms
use Rattle.asm_program.specs.declared.type_refusal.TypeRefusal.{TypeRefusal}
use Rattle.asm_program.specs.declared.type_refusal.TypeRefusal.TheVariants.{Mismatch}
use Rattle.asm_program.specs.Signatures.{Header}
use Rattle.asm_program.specs.TypedTerms.{Checked, unless, types, type_or, operation_of, args_fit, function_term, join_with, some_checked, some_term, truth_refused}
use Rattle.asm_typed.specs.Answers.{finished}

-- the arguments fit the domains, in number too
unfoldable pub args_refused : List TermType → List Domain → Span → List TypeRefusal
args_refused ts ds span = unless (args_fit ts ds) (Mismatch span)

-- an operator with operands of these types
unfoldable pub operator_own : List ℕ → List TermType → List Term → Span → Checked
operator_own name ts args span =
    let operator = operator_type name ts in
    record {
      refused = unless (is_some operator) (Mismatch span);
      type = option_map_or (λ o. o.result) operator type.Untyped;
      term = terms.Operator (operation_of operator) args span;
      span = span;
    }

-- a function with arguments of these types
unfoldable pub function_own : List Header → ℕ → Header → List TermType → List Term → Span → Checked
function_own functions f h ts args span = record {
  refused = args_refused ts h.args span;
  type = type_of h.result;
  term = function_term functions f h h.kind args;
  span = span;
}

-- a literal with arguments of these types, of which there may be none
unfoldable pub literal_own : ℕ → ℕ → List TermType → Span → Checked
literal_own d i ts span = record {
  refused = args_refused ts [] span;
  type = type.Enum d;
  term = terms.Constant (values.Member d i);
  span = span;
}

-- the types join
unfoldable pub join_refused : List TermType → Span → List TypeRefusal
join_refused ts span = unless (is_some (join_all ts)) (Mismatch span)

unfoldable pub joined : List TermType → TermType
joined ts = type_or (join_all ts)

-- a set or a sequence of items of these types
abbrev pub items_own : (TermType → TermType) → (List Term → Span → Term) → List TermType → List Term
    → Span → Checked
items_own of_type form ts items span = record {
  refused = join_refused ts span;
  type = of_type (joined ts);
  term = form items span;
  span = span;
}

unfoldable pub set_own : List TermType → List Term → Span → Checked
set_own ts items span = items_own type.Set terms.Set ts items span

unfoldable pub sequence_own : List TermType → List Term → Span → Checked
sequence_own ts items span = items_own type.Seq terms.Seq ts items span

unfoldable pub tuple_own : List TermType → List Term → Span → Checked
tuple_own ts items span = finished (type.Prod ts) (terms.Tuple items span) span

-- each type of a case's value joins with that of the term after `switch`
unfoldable pub joins_refused : TermType → List TermType → Span → List TypeRefusal
joins_refused t ts span = unless (join_with t ts) (Mismatch span)

unfoldable pub both_refused : TermType → List TermType → List TermType → Span → List TypeRefusal
both_refused t values ts span =
    unless (join_with t values && is_some (join_all ts)) (Mismatch span)

-- the types of the parts of a conditional term, or of a switch
abbrev pub with_other : List TermType → Option Checked → List TermType
with_other ts other = ts ++ types (some_checked other)

unfoldable pub conditional_own : Checked → Checked → Option Checked → Span → Checked
conditional_own guard first other span = record {
  refused = join_refused (first.type ∷ types (some_checked other)) span ++ truth_refused guard;
  type = joined (first.type ∷ types (some_checked other));
  term = terms.If guard.term first.term (some_term other);
  span = span;
}

unfoldable pub switch_own : Checked → List TermType → List TermType → List Case → Option Checked
    → Span → Checked
switch_own value values ts cases other span = record {
  refused = both_refused value.type values (with_other ts other) span;
  type = joined (with_other ts other);
  term = terms.Switch value.term cases (some_term other);
  span = span;
}
