-- What types join to: of two the one that the other fits, part by part.
use Rattle.std.specs.Prelude.{◌==◌, Option, Some, None, List, [], ◌∷◌, map, cond}
use Rattle.std.specs.Option.{option_map, option_and_then}
use Rattle.asm_typing.specs.declared.types.Type.{«Type» as TermType}
use Rattle.asm_typing.specs.declared.types.Type.TheOpen.{Type-F}
use Rattle.asm_typing.specs.declared.types.Type.TheVariants as type
use Rattle.asm_typing.specs.declared.types.Type.TheFolds.{fold-Type, map-Type}
use Rattle.asm_typing.specs.declared.types.Type.TheViews.{out-Type, roll-Type}

-- a type, and what it joins to with another
pub record Joining : Type 0 where
  pub itself : TermType
  pub with : TermType → Option TermType

-- the item before the items, where all are there
abbrev pub before : {A : Type 0} → Option A → Option (List A) → Option (List A)
before (Some x) (Some xs) = Some (x ∷ xs)
before _ _ = None

-- the joins of two lists item by item, where they are equally long and each pair has one
abbrev pub parts_join : List Joining → List TermType → Option (List TermType)
parts_join [] [] = Some []
parts_join (j ∷ js) (t ∷ ts) = before (j.with t) (parts_join js ts)
parts_join _ _ = None

-- the type of this level
abbrev pub whole : Type-F Joining → TermType
whole a = roll-Type (map-Type Joining TermType (λ j. j.itself) a)

-- one level of a type, with what each part joins to in its place, joined with one level of another
abbrev pub join_level : Type-F Joining → Type-F TermType → Option TermType
join_level Type-F.Untyped b = Some (roll-Type b)
join_level a Type-F.Untyped = Some (whole a)
join_level Type-F.Truth Type-F.Truth = Some type.Truth
join_level Type-F.Int Type-F.Int = Some type.Int
join_level Type-F.Chars Type-F.Chars = Some type.Chars
join_level (Type-F.Enum d) (Type-F.Enum e) = cond (d == e) (Some (type.Enum d)) None
join_level (Type-F.Abstract d) (Type-F.Abstract e) = cond (d == e) (Some (type.Abstract d)) None
join_level (Type-F.Prod js) (Type-F.Prod ts) = option_map (λ us. type.Prod us) (parts_join js ts)
join_level (Type-F.Seq j) (Type-F.Seq t) = option_map (λ u. type.Seq u) (j.with t)
join_level (Type-F.Set j) (Type-F.Set t) = option_map (λ u. type.Set u) (j.with t)
join_level _ _ = None

unfoldable pub joining : TermType → Joining
joining =
    fold-Type Joining (λ a. record { itself = whole a; with = λ t. join_level a (out-Type t) })

-- what two types join to; none where they have no join
abbrev pub join : TermType → TermType → Option TermType
join s t = (joining s).with t

-- what two lists of types join to item by item
abbrev pub joins : List TermType → List TermType → Option (List TermType)
joins ss ts = parts_join (map joining ss) ts

-- the types joined from left to right to a first one
abbrev pub join_from : TermType → List TermType → Option TermType
join_from t [] = Some t
join_from t (u ∷ us) = option_and_then (λ v. join_from v us) (join t u)

-- the join of all, from left to right; untyped where there are none
abbrev pub join_all : List TermType → Option TermType
join_all ts = join_from type.Untyped ts

-- the join of two types once more, by one level of each
abbrev pub join_of : Type-F TermType → Type-F TermType → Option TermType
join_of Type-F.Untyped b = Some (roll-Type b)
join_of a Type-F.Untyped = Some (roll-Type a)
join_of Type-F.Truth Type-F.Truth = Some type.Truth
join_of Type-F.Int Type-F.Int = Some type.Int
join_of Type-F.Chars Type-F.Chars = Some type.Chars
join_of (Type-F.Enum d) (Type-F.Enum e) = cond (d == e) (Some (type.Enum d)) None
join_of (Type-F.Abstract d) (Type-F.Abstract e) = cond (d == e) (Some (type.Abstract d)) None
join_of (Type-F.Prod ss) (Type-F.Prod ts) = option_map (λ us. type.Prod us) (joins ss ts)
join_of (Type-F.Seq s) (Type-F.Seq t) = option_map (λ u. type.Seq u) (join s t)
join_of (Type-F.Set s) (Type-F.Set t) = option_map (λ u. type.Set u) (join s t)
join_of _ _ = None
