-- What the operators give in the examples: the kinds choose a row, and its rule gives the type.
use Rattle.std.proofs.Common.{◌≡◌, ℕ, Option, Some, None, List, [], ◌∷◌, map, refl, ap, ◌∙◌}
use Rattle.std.proofs.Common.{codes, slice_get}
use Rattle.std.specs.Option.{option_map, option_and_then}
use Rattle.asm_tables.specs.declared.rows.TheConstants.{OPERATORS}
use Rattle.asm_tables.specs.declared.rows.Operation.{Operation}
use Rattle.asm_tables.specs.declared.rows.Operation.TheVariants as operation
use Rattle.asm_tables.specs.declared.table.Kind.{Kind}
use Rattle.asm_tables.specs.declared.table.Kind.TheVariants as kind
use Rattle.asm_tables.specs.Table.{row_of, admits}
use Rattle.asm_typing.specs.declared.types.Type.{«Type» as TermType}
use Rattle.asm_typing.specs.declared.types.Type.TheOpen.{Type-F}
use Rattle.asm_typing.specs.declared.types.Type.TheVariants as type
use Rattle.asm_typing.specs.declared.types.Type.TheViews.{out-Type}
use Rattle.asm_typing.specs.declared.operators.Operator.{Operator}
use Rattle.asm_typing.specs.Types.{kind_of, kind_level, item_level, parts_level}
use Rattle.asm_typing.specs.Joins.{join, join_from, join_all, before}
use Rattle.asm_typing.specs.Operators.{with_result, applied_at, unmatched, truth_where}
use Rattle.asm_typing.specs.Operators.{widened_level}
use Rattle.asm_typing.specs.Examples.{Gives, IsRefused, empty_seq, empty_set, pair}
use Rattle.asm_typing.specs.Examples.{TruthRow, TruthOfJoinRow, TruthOfItemRow, IntRow, CharsRow}
use Rattle.asm_typing.specs.Examples.{ArgumentRow, ItemRow, JoinRow, JoinFirstRow, JoinLastRow}
use Rattle.asm_typing.specs.Examples.{SetOfItemsRow, SeqOfItemsRow, FirstPartRow, SecondPartRow}
use Rattle.asm_typing.specs.Examples.{ThirdPartRow, UntypedRows, JoinsOfThree}
use Rattle.asm_typing.proofs.TypeSteps.{roll_out, out_untyped, out_truth, out_int, out_chars}
use Rattle.asm_typing.proofs.TypeSteps.{out_enum, out_abstract, out_prod, out_seq, out_set}
use Rattle.asm_typing.proofs.JoinLaws.{join-as, joins_either_way}

-- ---- the kinds choose

abbrev by_kinds : List ℕ → List TermType → List Kind → Option Operator
by_kinds name types kinds =
    elim (row_of OPERATORS name kinds) as (λ _. Option Operator)
    [ None ↦ unmatched (admits OPERATORS name kinds) | Some i ↦ applied_at OPERATORS i types ]

gives : (name : List ℕ) (types : List TermType) (kinds : List Kind) (does : Operation)
    (t : TermType) (o : Option TermType)
    → map kind_of types ≡ kinds → by_kinds name types kinds ≡ with_result does o → o ≡ Some t
    → Gives name types does t
gives name types kinds does t o k r e =
    ap (by_kinds name types) k ∙ r ∙ ap (with_result does) e

refused : (name : List ℕ) (types : List TermType) (kinds : List Kind) (does : Operation)
    (o : Option TermType)
    → map kind_of types ≡ kinds → by_kinds name types kinds ≡ with_result does o → o ≡ None
    → IsRefused name types
refused name types kinds does o k r e = ap (by_kinds name types) k ∙ r ∙ ap (with_result does) e

abbrev kinds_1 : (t : TermType) (a : Type-F TermType) → out-Type t ≡ a
    → map kind_of (t ∷ []) ≡ kind_level a ∷ []
kinds_1 t a e = λ i. kind_level (e i) ∷ []

abbrev kinds_2 : (s t : TermType) (a b : Type-F TermType) → out-Type s ≡ a → out-Type t ≡ b
    → map kind_of (s ∷ t ∷ []) ≡ kind_level a ∷ kind_level b ∷ []
kinds_2 s t a b e f = λ i. kind_level (e i) ∷ kind_level (f i) ∷ []

-- ---- joins

untyped_first : (t : TermType) → join type.Untyped t ≡ Some t
untyped_first t =
    join-as type.Untyped t Type-F.Untyped (out-Type t) out_untyped refl
    ∙ ap (λ u. Some u) (roll_out t)

untyped_second : (t : TermType) → join t type.Untyped ≡ Some t
untyped_second t = joins_either_way t type.Untyped ∙ untyped_first t

of_seqs : (s t : TermType)
    → join (type.Seq s) (type.Seq t) ≡ option_map (λ u. type.Seq u) (join s t)
of_seqs s t =
    join-as (type.Seq s) (type.Seq t) (Type-F.Seq s) (Type-F.Seq t) (out_seq s) (out_seq t)

of_sets : (s t : TermType)
    → join (type.Set s) (type.Set t) ≡ option_map (λ u. type.Set u) (join s t)
of_sets s t =
    join-as (type.Set s) (type.Set t) (Type-F.Set s) (Type-F.Set t) (out_set s) (out_set t)

of_pairs : (s t u v : TermType)
    → join (pair s t) (pair u v)
    ≡ option_map (λ us. type.Prod us) (before (join s u) (before (join t v) (Some [])))
of_pairs s t u v =
    join-as (pair s t) (pair u v) (Type-F.Prod (s ∷ t ∷ [])) (Type-F.Prod (u ∷ v ∷ []))
    (out_prod (s ∷ t ∷ [])) (out_prod (u ∷ v ∷ []))

int_and_chars : join type.Int type.Chars ≡ None
int_and_chars = join-as type.Int type.Chars Type-F.Int Type-F.Chars out_int out_chars

int_and_truth : join type.Int type.Truth ≡ None
int_and_truth = join-as type.Int type.Truth Type-F.Int Type-F.Truth out_int out_truth

truth_and_int : join type.Truth type.Int ≡ None
truth_and_int = join-as type.Truth type.Int Type-F.Truth Type-F.Int out_truth out_int

-- ---- the rows

pub truth_row : TruthRow
truth_row =
    gives (codes "<") (type.Int ∷ type.Int ∷ []) (kind.Int ∷ kind.Int ∷ []) operation.LessInt
    type.Truth (Some type.Truth) (kinds_2 type.Int type.Int _ _ out_int out_int) refl refl

abbrev seqs : TermType → TermType → List TermType
seqs s t = type.Seq s ∷ type.Seq t ∷ []

pub truth_of_join_row : TruthOfJoinRow
truth_of_join_row = (
  gives (codes "=") (seqs type.Int type.Untyped) (kind.Seq ∷ kind.Seq ∷ []) operation.Equal
      type.Truth (truth_where (join (type.Seq type.Int) empty_seq))
      (kinds_2 _ _ _ _ (out_seq type.Int) (out_seq type.Untyped)) refl
      (ap truth_where (of_seqs type.Int type.Untyped)
      ∙ ap (λ o. truth_where (option_map (λ u. type.Seq u) o)) (untyped_second type.Int)),
  refused (codes "=") (seqs type.Int type.Chars) (kind.Seq ∷ kind.Seq ∷ []) operation.Equal
      (truth_where (join (type.Seq type.Int) (type.Seq type.Chars)))
      (kinds_2 _ _ _ _ (out_seq type.Int) (out_seq type.Chars)) refl
      (ap truth_where (of_seqs type.Int type.Chars)
      ∙ ap (λ o. truth_where (option_map (λ u. type.Seq u) o)) int_and_chars),
)

abbrev found : TermType → Type-F TermType → Option TermType
found s a = option_and_then (λ item. truth_where (join s item)) (item_level a)

pub truth_of_item_row : TruthOfItemRow
truth_of_item_row =
    let same = join-as _ _ _ _ (out_enum 2) (out_enum 2) in
    let other = join-as _ _ _ _ (out_enum 2) (out_enum 3) in (
      gives (codes "in") (type.Enum 2 ∷ type.Set (type.Enum 2) ∷ [])
          (kind.Member ∷ kind.Set ∷ []) operation.In type.Truth
          (found (type.Enum 2) (out-Type (type.Set (type.Enum 2))))
          (kinds_2 _ _ _ _ (out_enum 2) (out_set (type.Enum 2))) refl
          (ap (found (type.Enum 2)) (out_set (type.Enum 2)) ∙ ap truth_where same),
      refused (codes "in") (type.Enum 2 ∷ type.Set (type.Enum 3) ∷ [])
          (kind.Member ∷ kind.Set ∷ []) operation.In
          (found (type.Enum 2) (out-Type (type.Set (type.Enum 3))))
          (kinds_2 _ _ _ _ (out_enum 2) (out_set (type.Enum 3))) refl
          (ap (found (type.Enum 2)) (out_set (type.Enum 3)) ∙ ap truth_where other),
    )

pub int_row : IntRow
int_row =
    gives (codes "length") (type.Chars ∷ []) (kind.Chars ∷ []) operation.CharsLength type.Int
    (Some type.Int) (kinds_1 type.Chars _ out_chars) refl refl

pub chars_row : CharsRow
chars_row =
    gives (codes "toString") (type.Truth ∷ []) (kind.Truth ∷ []) operation.TruthToChars type.Chars
    (Some type.Chars) (kinds_1 type.Truth _ out_truth) refl refl

pub argument_row : ArgumentRow
argument_row =
    gives (codes "tail") (type.Seq (type.Enum 2) ∷ []) (kind.Seq ∷ []) operation.Tail
    (type.Seq (type.Enum 2)) (Some (type.Seq (type.Enum 2)))
    (kinds_1 _ _ (out_seq (type.Enum 2))) refl refl

pub item_row : ItemRow
item_row =
    gives (codes "at") (type.Seq type.Chars ∷ type.Int ∷ []) (kind.Seq ∷ kind.Int ∷ [])
    operation.At type.Chars (item_level (out-Type (type.Seq type.Chars)))
    (kinds_2 _ _ _ _ (out_seq type.Chars) out_int) refl (ap item_level (out_seq type.Chars))

abbrev sets : TermType → TermType → List TermType
sets s t = type.Set s ∷ type.Set t ∷ []

joined_pairs : join (pair type.Int empty_set) (pair type.Untyped (type.Set type.Chars))
    ≡ Some (pair type.Int (type.Set type.Chars))
joined_pairs =
    of_pairs type.Int empty_set type.Untyped (type.Set type.Chars)
    ∙ (λ i. option_map (λ us. type.Prod us) (before (untyped_second type.Int i)
    (before ((of_sets type.Untyped type.Chars
    ∙ ap (option_map (λ u. type.Set u)) (untyped_first type.Chars)) i) (Some []))))

pub join_row : JoinRow
join_row =
    let left = pair type.Int empty_set in
    let right = pair type.Untyped (type.Set type.Chars) in (
      gives (codes "union") (sets left right) (kind.Set ∷ kind.Set ∷ []) operation.Union
          (type.Set (pair type.Int (type.Set type.Chars)))
          (join (type.Set left) (type.Set right))
          (kinds_2 _ _ _ _ (out_set left) (out_set right)) refl
          (of_sets left right ∙ ap (option_map (λ u. type.Set u)) joined_pairs),
      refused (codes "union") (sets type.Int type.Truth) (kind.Set ∷ kind.Set ∷ []) operation.Union
          (join (type.Set type.Int) (type.Set type.Truth))
          (kinds_2 _ _ _ _ (out_set type.Int) (out_set type.Truth)) refl
          (of_sets type.Int type.Truth ∙ ap (option_map (λ u. type.Set u)) int_and_truth),
    )

pub join_first_row : JoinFirstRow
join_first_row = (
  gives (codes "prepend") (type.Int ∷ empty_seq ∷ []) (kind.Int ∷ kind.Seq ∷ [])
      operation.Prepend (type.Seq type.Int) (widened_level (out-Type empty_seq) type.Int)
      (kinds_2 _ _ _ _ out_int (out_seq type.Untyped)) refl
      (ap (λ a. widened_level a type.Int) (out_seq type.Untyped)
      ∙ ap (option_map (λ u. type.Seq u)) (untyped_first type.Int)),
  refused (codes "prepend") (type.Int ∷ type.Seq type.Truth ∷ []) (kind.Int ∷ kind.Seq ∷ [])
      operation.Prepend (widened_level (out-Type (type.Seq type.Truth)) type.Int)
      (kinds_2 _ _ _ _ out_int (out_seq type.Truth)) refl
      (ap (λ a. widened_level a type.Int) (out_seq type.Truth)
      ∙ ap (option_map (λ u. type.Seq u)) truth_and_int),
)

pub join_last_row : JoinLastRow
join_last_row =
    let other = join-as _ _ _ _ (out_abstract 1) (out_abstract 0) in (
      gives (codes "including") (empty_set ∷ type.Abstract 0 ∷ []) (kind.Set ∷ kind.Member ∷ [])
          operation.Including (type.Set (type.Abstract 0))
          (widened_level (out-Type empty_set) (type.Abstract 0))
          (kinds_2 _ _ _ _ (out_set type.Untyped) (out_abstract 0)) refl
          (ap (λ a. widened_level a (type.Abstract 0)) (out_set type.Untyped)
          ∙ ap (option_map (λ u. type.Set u)) (untyped_first (type.Abstract 0))),
      refused (codes "including") (type.Set (type.Abstract 1) ∷ type.Abstract 0 ∷ [])
          (kind.Set ∷ kind.Member ∷ []) operation.Including
          (widened_level (out-Type (type.Set (type.Abstract 1))) (type.Abstract 0))
          (kinds_2 _ _ _ _ (out_set (type.Abstract 1)) (out_abstract 0)) refl
          (ap (λ a. widened_level a (type.Abstract 0)) (out_set (type.Abstract 1))
          ∙ ap (option_map (λ u. type.Set u)) other),
    )

pub set_of_items_row : SetOfItemsRow
set_of_items_row =
    gives (codes "asSet") (type.Seq type.Int ∷ []) (kind.Seq ∷ []) operation.AsSet
    (type.Set type.Int)
    (option_map (λ t. type.Set t) (item_level (out-Type (type.Seq type.Int))))
    (kinds_1 _ _ (out_seq type.Int)) refl
    (ap (λ a. option_map (λ t. type.Set t) (item_level a)) (out_seq type.Int))

pub seq_of_items_row : SeqOfItemsRow
seq_of_items_row =
    gives (codes "asSequence") (type.Set type.Int ∷ []) (kind.Set ∷ []) operation.AsSeq
    (type.Seq type.Int)
    (option_map (λ t. type.Seq t) (item_level (out-Type (type.Set type.Int))))
    (kinds_1 _ _ (out_set type.Int)) refl
    (ap (λ a. option_map (λ t. type.Seq t) (item_level a)) (out_set type.Int))

abbrev two : List TermType
two = type.Int ∷ type.Chars ∷ []

abbrev three : List TermType
three = type.Int ∷ type.Chars ∷ type.Truth ∷ []

abbrev part : ℕ → Type-F TermType → Option TermType
part i a = slice_get (parts_level a) i

pub first_part_row : FirstPartRow
first_part_row =
    gives (codes "first") (type.Prod two ∷ []) (kind.Tuple ∷ []) operation.FirstPart type.Int
    (part 0 (out-Type (type.Prod two))) (kinds_1 _ _ (out_prod two)) refl
    (ap (part 0) (out_prod two))

pub second_part_row : SecondPartRow
second_part_row =
    gives (codes "second") (type.Prod two ∷ []) (kind.Tuple ∷ []) operation.SecondPart type.Chars
    (part 1 (out-Type (type.Prod two))) (kinds_1 _ _ (out_prod two)) refl
    (ap (part 1) (out_prod two))

pub third_part_row : ThirdPartRow
third_part_row = (
  gives (codes "third") (type.Prod three ∷ []) (kind.Tuple ∷ []) operation.ThirdPart type.Truth
      (part 2 (out-Type (type.Prod three))) (kinds_1 _ _ (out_prod three)) refl
      (ap (part 2) (out_prod three)),
  refused (codes "third") (type.Prod two ∷ []) (kind.Tuple ∷ []) operation.ThirdPart
      (part 2 (out-Type (type.Prod two))) (kinds_1 _ _ (out_prod two)) refl
      (ap (part 2) (out_prod two)),
)

pub untyped_rows : UntypedRows
untyped_rows = (
  ap (by_kinds (codes "+") (type.Untyped ∷ type.Int ∷ []))
      (kinds_2 type.Untyped type.Int _ _ out_untyped out_int),
  ap (by_kinds (codes "+") (type.Untyped ∷ type.Truth ∷ []))
      (kinds_2 type.Untyped type.Truth _ _ out_untyped out_truth),
  gives (codes "!=") (type.Untyped ∷ type.Int ∷ []) (kind.Untyped ∷ kind.Int ∷ [])
      operation.NotEqual type.Truth (truth_where (join type.Untyped type.Int))
      (kinds_2 type.Untyped type.Int _ _ out_untyped out_int) refl
      (ap truth_where (untyped_first type.Int)),
  gives (codes "append") (type.Seq type.Int ∷ type.Untyped ∷ []) (kind.Seq ∷ kind.Untyped ∷ [])
      operation.Append (type.Seq type.Int)
      (widened_level (out-Type (type.Seq type.Int)) type.Untyped)
      (kinds_2 _ _ _ _ (out_seq type.Int) out_untyped) refl
      (ap (λ a. widened_level a type.Untyped) (out_seq type.Int)
      ∙ ap (option_map (λ u. type.Seq u)) (untyped_second type.Int)),
)

-- ---- joins of several types

-- the first two types joined, and then a third
abbrev then_join : TermType → Option TermType → Option TermType
then_join u o = option_and_then (λ t. join t u) o

abbrev then_joined : List TermType → Option TermType → Option TermType
then_joined ts o = option_and_then (λ s. join_from s ts) o

only : (o : Option TermType) → then_joined [] o ≡ o
only None = refl
only (Some t) = refl

then_only : (u : TermType) (o : Option TermType) → then_joined (u ∷ []) o ≡ then_join u o
then_only u None = refl
then_only u (Some t) = only (join t u)

of_two_types : (s t : TermType) → join_all (s ∷ t ∷ []) ≡ join s t
of_two_types s t =
    ap (then_joined (t ∷ [])) (untyped_first s) ∙ only (join s t)

of_three_types : (s t u : TermType) → join_all (s ∷ t ∷ u ∷ []) ≡ then_join u (join s t)
of_three_types s t u =
    ap (then_joined (t ∷ u ∷ [])) (untyped_first s)
    ∙ then_only u (join s t)

ints : join empty_seq (type.Seq type.Int) ≡ Some (type.Seq type.Int)
ints =
    of_seqs type.Untyped type.Int ∙ ap (option_map (λ u. type.Seq u)) (untyped_first type.Int)

truths : join empty_seq (type.Seq type.Truth) ≡ Some (type.Seq type.Truth)
truths =
    of_seqs type.Untyped type.Truth ∙ ap (option_map (λ u. type.Seq u)) (untyped_first type.Truth)

pub joins_of_three : JoinsOfThree
joins_of_three = (
  of_two_types empty_seq (type.Seq type.Int) ∙ ints,
  of_two_types empty_seq (type.Seq type.Truth) ∙ truths,
  of_three_types empty_seq (type.Seq type.Int) (type.Seq type.Truth)
      ∙ ap (then_join (type.Seq type.Truth)) ints ∙ of_seqs type.Int type.Truth
      ∙ ap (option_map (λ u. type.Seq u)) int_and_truth,
)
