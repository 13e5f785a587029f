-- Sizes as refusals tell them.
use Rattle.std.specs.Prelude.{ℕ, ◌^◌, min, Option, Some, None, List, [], ◌∷◌, ◌++◌}
use Rattle.std.specs.Option.{option_map}
use Rattle.asm_value.specs.declared.domain.Domain.{Domain}
use Rattle.asm_syntax.specs.declared.token.Span.{Span}
use Rattle.asm_syntax.specs.declared.tree.RangeTree.{RangeTree}
use Rattle.asm_program.specs.declared.type_refusal.Limited.{Limited}
use Rattle.asm_program.specs.declared.type_refusal.TypeRefusal.{TypeRefusal}
use Rattle.asm_program.specs.declared.type_refusal.TypeRefusal.TheVariants.{NotEnumerable, Limit}
use Rattle.asm_program.specs.TypedTerms as typed
use Rattle.asm_program.specs.TypedTerms.{Scope, Variables}

-- the size, 2^64 where it is more
unfoldable pub told : Option ℕ → Option ℕ
told None = None
told (Some n) = Some (min n (2 ^ 64))

-- there are too many where the number is known
unfoldable pub limited : Limited → Span → Option ℕ → TypeRefusal
limited kind span None = NotEnumerable span
limited kind span (Some n) = Limit kind n span

-- ---- ranges

unfoldable pub range_refused : Scope → RangeTree → List TypeRefusal
range_refused scope r = typed.range_refused scope r

unfoldable pub ranges_refused : Scope → List RangeTree → List TypeRefusal
ranges_refused scope rs = typed.ranges_refused scope rs

unfoldable pub with_ranges : Scope → Variables → List RangeTree → Variables
with_ranges scope variables rs = typed.with_ranges scope variables rs

unfoldable pub range_domains : Scope → List RangeTree → List Domain
range_domains scope rs = typed.range_domains scope rs
