-- What an operator gives to arguments of some types.
use Rattle.std.specs.Prelude.{ℕ, Bool, Option, Some, None, List, map, cond, nat_eq, slice_get}
use Rattle.std.specs.Option.{option_map, option_and_then}
use Rattle.std.specs.List.{list_any}
use Rattle.std.specs.Cmp.Lexicographic.{pointwise}
use Rattle.asm_tables.specs.declared.rows.TheConstants.{OPERATORS}
use Rattle.asm_tables.specs.declared.rows.Operation.{Operation}
use Rattle.asm_tables.specs.declared.rows.ResultRule.{ResultRule}
use Rattle.asm_tables.specs.declared.rows.ResultRule.TheVariants as rule
use Rattle.asm_tables.specs.declared.table.Row.{Row}
use Rattle.asm_tables.specs.Names.{text_of}
use Rattle.asm_tables.specs.Table.{row_of, admits}
use Rattle.asm_typing.specs.declared.types.Type.{«Type» as TermType}
use Rattle.asm_typing.specs.declared.types.Type.TheOpen.{Type-F}
use Rattle.asm_typing.specs.declared.types.Type.TheVariants as type
use Rattle.asm_typing.specs.declared.types.Type.TheViews.{out-Type}
use Rattle.asm_typing.specs.declared.operators.Operator.{Operator}
use Rattle.asm_typing.specs.Types.{kind_of, item_of, parts_of}
use Rattle.asm_typing.specs.Joins.{join}

-- of the first argument's type, and of those of the first two
abbrev pub of_one : List TermType → (TermType → Option TermType) → Option TermType
of_one types f = option_and_then f (slice_get types 0)

abbrev pub of_two : List TermType → (TermType → TermType → Option TermType) → Option TermType
of_two types f = of_one types (λ s. option_and_then (λ t. f s t) (slice_get types 1))

-- a truth value, where there is a join
abbrev pub truth_where : Option TermType → Option TermType
truth_where o = option_map (λ t. type.Truth) o

-- sequences or sets whose items are of the join of their type with another
abbrev pub widened_level : Type-F TermType → TermType → Option TermType
widened_level (Type-F.Seq item) t = option_map (λ u. type.Seq u) (join item t)
widened_level (Type-F.Set item) t = option_map (λ u. type.Set u) (join item t)
widened_level _ t = None

abbrev pub widened : TermType → TermType → Option TermType
widened s t = widened_level (out-Type s) t

-- the results by the rules of rows, each in the table's order
abbrev pub join_type : List TermType → Option TermType
join_type types = of_two types join

abbrev pub truth_of_join : List TermType → Option TermType
truth_of_join types = truth_where (join_type types)

abbrev pub truth_of_item : List TermType → Option TermType
truth_of_item types =
    of_two types (λ s t. option_and_then (λ item. truth_where (join s item)) (item_of t))

abbrev pub item_type : List TermType → Option TermType
item_type types = of_one types item_of

abbrev pub join_first : List TermType → Option TermType
join_first types = of_two types (λ s t. widened t s)

abbrev pub join_last : List TermType → Option TermType
join_last types = of_two types (λ s t. widened s t)

abbrev pub part_type : List TermType → ℕ → Option TermType
part_type types i = of_one types (λ s. slice_get (parts_of s) i)

-- the type of the result by the rule of a row that matches; none where types that have to join
-- don't, or where the tuple has no such part
abbrev pub result_type : ResultRule → List TermType → Option TermType
result_type rule.Truth types = Some type.Truth
result_type rule.TruthOfJoin types = truth_of_join types
result_type rule.TruthOfItem types = truth_of_item types
result_type rule.Int types = Some type.Int
result_type rule.Chars types = Some type.Chars
result_type rule.Argument types = slice_get types 0
result_type rule.Item types = item_type types
result_type rule.Join types = join_type types
result_type rule.JoinFirst types = join_first types
result_type rule.JoinLast types = join_last types
result_type rule.SetOfItems types = option_map (λ t. type.Set t) (item_type types)
result_type rule.SeqOfItems types = option_map (λ t. type.Seq t) (item_type types)
result_type rule.FirstPart types = part_type types 0
result_type rule.SecondPart types = part_type types 1
result_type rule.ThirdPart types = part_type types 2

-- the operation with the type of its result, where there is one
abbrev pub with_result : Operation → Option TermType → Option Operator
with_result operation o = option_map (λ t. record { operation = Some operation; result = t }) o

-- what the row of this number gives to arguments of these types
abbrev pub applied : Row → List TermType → Option Operator
applied row types = with_result row.operation (result_type row.result types)

abbrev pub applied_at : List Row → ℕ → List TermType → Option Operator
applied_at rows i types = option_and_then (λ row. applied row types) (slice_get rows i)

-- an operator that no row matches computes nothing, and its result is untyped; it has to be admitted
abbrev pub without_row : Operator
without_row = record { operation = None; result = type.Untyped }

abbrev pub unmatched : Bool → Option Operator
unmatched admitted = cond admitted (Some without_row) None

-- by the row that matches the name with the types' kinds; where none does, by what is admitted
abbrev pub by_rows : List Row → List ℕ → List TermType → Option Operator
by_rows rows name types =
    let kinds = map kind_of types in
    elim (row_of rows name kinds) as (λ _. Option Operator)
    [ None ↦ unmatched (admits rows name kinds) | Some i ↦ applied_at rows i types ]

-- some row has the name
abbrev pub has_name : List Row → List ℕ → Bool
has_name rows name = list_any (λ row. pointwise nat_eq (text_of row.name) name) rows

-- by the rows of the language's operators
abbrev pub operator_type : List ℕ → List TermType → Option Operator
operator_type name types = by_rows OPERATORS name types

abbrev pub is_operator : List ℕ → Bool
is_operator name = has_name OPERATORS name
