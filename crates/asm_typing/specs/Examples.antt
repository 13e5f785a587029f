-- One row of each rule of results, and what is refused, worked out by hand.
use Rattle.std.specs.Prelude.{◌≡◌, ℕ, List, [], ◌∷◌, Some, None}
use Rattle.std.proofs.Common.{codes}
use Rattle.asm_tables.specs.declared.rows.Operation.{Operation}
use Rattle.asm_tables.specs.declared.rows.Operation.TheVariants as operation
use Rattle.asm_typing.specs.declared.types.Type.{«Type» as TermType}
use Rattle.asm_typing.specs.declared.types.Type.TheVariants as type
use Rattle.asm_typing.specs.Joins.{join_all}
use Rattle.asm_typing.specs.Operators.{operator_type}

-- the operator of this name computes this, and its result has this type
abbrev pub Gives : List ℕ → List TermType → Operation → TermType → Type 0
Gives name types does t =
    operator_type name types ≡ Some (record { operation = Some does; result = t })

-- the operator is only admitted
abbrev pub GivesNothing : List ℕ → List TermType → Type 0
GivesNothing name types =
    operator_type name types ≡ Some (record { operation = None; result = type.Untyped })

abbrev pub IsRefused : List ℕ → List TermType → Type 0
IsRefused name types = operator_type name types ≡ None

-- sequences and sets of what is untyped, as `[]` and `{}` are
abbrev pub empty_seq : TermType
empty_seq = type.Seq type.Untyped

abbrev pub empty_set : TermType
empty_set = type.Set type.Untyped

abbrev pub pair : TermType → TermType → TermType
pair s t = type.Prod (s ∷ t ∷ [])

abbrev pub TruthRow : Type 0
TruthRow = Gives (codes "<") (type.Int ∷ type.Int ∷ []) operation.LessInt type.Truth

abbrev pub TruthOfJoinRow : Type 0
TruthOfJoinRow =
    Gives (codes "=") (type.Seq type.Int ∷ empty_seq ∷ []) operation.Equal type.Truth
    × IsRefused (codes "=") (type.Seq type.Int ∷ type.Seq type.Chars ∷ [])

abbrev pub TruthOfItemRow : Type 0
TruthOfItemRow =
    Gives (codes "in") (type.Enum 2 ∷ type.Set (type.Enum 2) ∷ []) operation.In type.Truth
    × IsRefused (codes "in") (type.Enum 2 ∷ type.Set (type.Enum 3) ∷ [])

abbrev pub IntRow : Type 0
IntRow = Gives (codes "length") (type.Chars ∷ []) operation.CharsLength type.Int

abbrev pub CharsRow : Type 0
CharsRow = Gives (codes "toString") (type.Truth ∷ []) operation.TruthToChars type.Chars

abbrev pub ArgumentRow : Type 0
ArgumentRow =
    Gives (codes "tail") (type.Seq (type.Enum 2) ∷ []) operation.Tail (type.Seq (type.Enum 2))

abbrev pub ItemRow : Type 0
ItemRow = Gives (codes "at") (type.Seq type.Chars ∷ type.Int ∷ []) operation.At type.Chars

abbrev pub JoinRow : Type 0
JoinRow =
    Gives (codes "union")
    (type.Set (pair type.Int empty_set) ∷ type.Set (pair type.Untyped (type.Set type.Chars)) ∷ [])
    operation.Union (type.Set (pair type.Int (type.Set type.Chars)))
    × IsRefused (codes "union") (type.Set type.Int ∷ type.Set type.Truth ∷ [])

abbrev pub JoinFirstRow : Type 0
JoinFirstRow =
    Gives (codes "prepend") (type.Int ∷ empty_seq ∷ []) operation.Prepend (type.Seq type.Int)
    × IsRefused (codes "prepend") (type.Int ∷ type.Seq type.Truth ∷ [])

abbrev pub JoinLastRow : Type 0
JoinLastRow =
    Gives (codes "including") (empty_set ∷ type.Abstract 0 ∷ []) operation.Including
    (type.Set (type.Abstract 0))
    × IsRefused (codes "including") (type.Set (type.Abstract 1) ∷ type.Abstract 0 ∷ [])

abbrev pub SetOfItemsRow : Type 0
SetOfItemsRow = Gives (codes "asSet") (type.Seq type.Int ∷ []) operation.AsSet (type.Set type.Int)

abbrev pub SeqOfItemsRow : Type 0
SeqOfItemsRow =
    Gives (codes "asSequence") (type.Set type.Int ∷ []) operation.AsSeq (type.Seq type.Int)

abbrev pub FirstPartRow : Type 0
FirstPartRow = Gives (codes "first") (pair type.Int type.Chars ∷ []) operation.FirstPart type.Int

abbrev pub SecondPartRow : Type 0
SecondPartRow =
    Gives (codes "second") (pair type.Int type.Chars ∷ []) operation.SecondPart type.Chars

abbrev pub ThirdPartRow : Type 0
ThirdPartRow =
    Gives (codes "third") (type.Prod (type.Int ∷ type.Chars ∷ type.Truth ∷ []) ∷ [])
    operation.ThirdPart type.Truth
    × IsRefused (codes "third") (pair type.Int type.Chars ∷ [])

-- an untyped argument where a row asks for another kind, and where it takes all
abbrev pub UntypedRows : Type 0
UntypedRows =
    GivesNothing (codes "+") (type.Untyped ∷ type.Int ∷ [])
    × IsRefused (codes "+") (type.Untyped ∷ type.Truth ∷ [])
    × Gives (codes "!=") (type.Untyped ∷ type.Int ∷ []) operation.NotEqual type.Truth
    × Gives (codes "append") (type.Seq type.Int ∷ type.Untyped ∷ []) operation.Append
    (type.Seq type.Int)

-- the items of `[[], [1], [true]]`: each pair with the first has a join, and all have none
abbrev pub JoinsOfThree : Type 0
JoinsOfThree =
    (join_all (empty_seq ∷ type.Seq type.Int ∷ []) ≡ Some (type.Seq type.Int))
    × (join_all (empty_seq ∷ type.Seq type.Truth ∷ []) ≡ Some (type.Seq type.Truth))
    × (join_all (empty_seq ∷ type.Seq type.Int ∷ type.Seq type.Truth ∷ []) ≡ None)
