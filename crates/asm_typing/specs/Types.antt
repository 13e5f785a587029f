-- Types of terms: their kinds and what they are made of.
use Rattle.std.specs.Prelude.{List, [], Option, Some, None}
use Rattle.asm_tables.specs.declared.table.Kind.{Kind}
use Rattle.asm_tables.specs.declared.table.Kind.TheVariants as kind
use Rattle.asm_typing.specs.declared.types.Type.{«Type» as TermType}
use Rattle.asm_typing.specs.declared.types.Type.TheOpen.{Type-F}
use Rattle.asm_typing.specs.declared.types.Type.TheViews.{out-Type}

-- one level of a type, with an A in place of each part
module _ {A : Type 0} where
  -- the kind of a term of the type
  abbrev pub kind_level : Type-F A → Kind
  kind_level Type-F.Untyped = kind.Untyped
  kind_level Type-F.Truth = kind.Truth
  kind_level Type-F.Int = kind.Int
  kind_level Type-F.Chars = kind.Chars
  kind_level (Type-F.Enum d) = kind.Member
  kind_level (Type-F.Abstract d) = kind.Member
  kind_level (Type-F.Prod ts) = kind.Tuple
  kind_level (Type-F.Seq t) = kind.Seq
  kind_level (Type-F.Set t) = kind.Set

  -- the type of a sequence's or a set's items
  abbrev pub item_level : Type-F A → Option A
  item_level (Type-F.Seq t) = Some t
  item_level (Type-F.Set t) = Some t
  item_level _ = None

  -- the types of a tuple's parts
  abbrev pub parts_level : Type-F A → List A
  parts_level (Type-F.Prod ts) = ts
  parts_level _ = []

-- the same of a whole type
abbrev pub kind_of : TermType → Kind
kind_of t = kind_level (out-Type t)

abbrev pub item_of : TermType → Option TermType
item_of t = item_level (out-Type t)

abbrev pub parts_of : TermType → List TermType
parts_of t = parts_level (out-Type t)
