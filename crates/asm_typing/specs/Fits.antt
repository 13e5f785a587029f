-- Which type fits which.
use Rattle.std.specs.Prelude.{Bool, true, false, ◌==◌}
use Rattle.asm_value.specs.Domain.{each_passes}
use Rattle.asm_typing.specs.declared.types.Type.{«Type» as TermType}
use Rattle.asm_typing.specs.declared.types.Type.TheOpen.{Type-F}
use Rattle.asm_typing.specs.declared.types.Type.TheFolds.{fold-Type}
use Rattle.asm_typing.specs.declared.types.Type.TheViews.{out-Type}

-- one level of the type, with the test of each part in its place, against one level of another:
-- what is untyped fits every type, and all else fits what is equal or has parts that its own fit
abbrev pub fits_level : Type-F (TermType → Bool) → Type-F TermType → Bool
fits_level Type-F.Untyped b = true
fits_level Type-F.Truth Type-F.Truth = true
fits_level Type-F.Int Type-F.Int = true
fits_level Type-F.Chars Type-F.Chars = true
fits_level (Type-F.Enum d) (Type-F.Enum e) = d == e
fits_level (Type-F.Abstract d) (Type-F.Abstract e) = d == e
fits_level (Type-F.Prod tests) (Type-F.Prod ts) = each_passes tests ts
fits_level (Type-F.Seq test) (Type-F.Seq t) = test t
fits_level (Type-F.Set test) (Type-F.Set t) = test t
fits_level _ _ = false

-- the first type fits the second
unfoldable pub fits : TermType → TermType → Bool
fits = fold-Type (TermType → Bool) (λ a t. fits_level a (out-Type t))
