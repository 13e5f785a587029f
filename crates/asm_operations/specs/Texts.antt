-- Operations on strings, and those that give one.
use Rattle.std.specs.Prelude.{ℕ, List, ◌++◌, length, if◌then◌else◌, codes, chars}
use Rattle.std.specs.Fmt.{signed_decimal}
use Rattle.std.specs.Ordering.{nat_cmp, is_lt, is_le, is_gt, is_ge}
use Rattle.std.specs.declared.cmp.Ordering.{Ordering}
use Rattle.std.specs.Cmp.Lexicographic.{slice_cmp}
use Rattle.asm_value.specs.declared.value.Value.{Value}
use Rattle.asm_value.specs.declared.value.Value.TheVariants.{Chars}
use Rattle.asm_operations.specs.declared.applied.Applied.{Applied}
use Rattle.asm_operations.specs.declared.applied.Applied.TheVariants as applied
use Rattle.asm_operations.specs.Results.{truth, count}
use Rattle.asm_operations.specs.Readers.{of_int, of_truth, of_chars, of_two_chars}

abbrev pub text : List ℕ → Applied
text bytes = applied.Value (Chars bytes)

-- by bytes, a prefix first
abbrev pub text_order : List ℕ → List ℕ → Ordering
text_order = slice_cmp nat_cmp

abbrev pub is_less : Value → Value → Applied
is_less = of_two_chars (λ s t. truth (is_lt (text_order s t)))

abbrev pub is_at_most : Value → Value → Applied
is_at_most = of_two_chars (λ s t. truth (is_le (text_order s t)))

abbrev pub is_greater : Value → Value → Applied
is_greater = of_two_chars (λ s t. truth (is_gt (text_order s t)))

abbrev pub is_at_least : Value → Value → Applied
is_at_least = of_two_chars (λ s t. truth (is_ge (text_order s t)))

abbrev pub joined : Value → Value → Applied
joined = of_two_chars (λ s t. text (s ++ t))

-- the number of Unicode characters
abbrev pub chars_length : Value → Applied
chars_length = of_chars (λ s. count (length (chars s)))

abbrev pub int_text : Value → Applied
int_text = of_int (λ x. text (signed_decimal x))

abbrev pub truth_text : Value → Applied
truth_text = of_truth (λ b. text (if b then codes "true" else codes "false"))
