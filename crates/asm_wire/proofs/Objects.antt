-- The text of a reply is the compact JSON of an object.
use Rattle.std.proofs.Common.{◌≡◌, ℕ, ◌<◌, ◌^◌, nat_lt, pos, List, [], ◌∷◌, ◌++◌, Bool, true, false, cond, decimal, codes, drop, refl, sym, ap, ◌∙◌, arith, rules}
use Rattle.std.specs.Fmt.{signed_decimal}
use Rattle.std.proofs.lemmas.Bool.Decides.{nat_tests}
use Rattle.json.specs.Print.{escape_byte}
use Rattle.serde_json.specs.Data as json
use Rattle.serde_json.specs.Data.{Members, no_members, member}
use Rattle.serde_json.specs.Find.{of_integer}
use Rattle.serde_json.specs.Written.{compact_text, members_text}
use Rattle.asm_portable.specs.declared.port.Port.TheVariants as ports
use Rattle.asm_portable.specs.declared.port.Port.TheViews.{the_lemmas}
use Rattle.asm_portable.specs.Json.{data_of, integer_data, json_text}
use Rattle.asm_portable.specs.Ports.{text, number, field, fields}
use Rattle.asm_portable.proofs.JsonLaws.{data_of-out, json_text-Fields}
use Rattle.asm_board.specs.declared.reply.Body.{Body}
use Rattle.asm_board.specs.declared.reply.Body.TheVariants as bodies
use Rattle.asm_board.specs.Refusals.{name_of, why_of}
use Rattle.asm_board.specs.Replies.{body_fields, reply_of, reply_text}

data_of-number : (n : ℕ) → data_of (number n) ≡ integer_data (pos n)
data_of-number n = search (rules, data_of-out (ports.Int (pos n)), the_lemmas)

is_less : (n : ℕ) → n < 2 ^ 64 → nat_lt n (2 ^ 64) ≡ true
is_less n h = grind (arith, nat_tests)

number_text : (n : ℕ) → n < 2 ^ 64 → compact_text (data_of (number n)) ≡ decimal n
number_text n h =
    ap compact_text (data_of-number n)
    ∙ ap (λ t. compact_text (cond t (json.number (of_integer (pos n))) (json.string (signed_decimal (pos n))))) (is_less n h)

-- a number and more members
abbrev text_at : ℕ → Members → List ℕ
text_at at ms = codes "{\"at\":" ++ (decimal at ++ 44 ∷ members_text false ms)

pub reply_object : (at : ℕ) (body : Body) → at < 2 ^ 64 → reply_text (reply_of at body) ≡ json_text (fields (field (codes "at") (number at) ∷ body_fields body))
unfolding escape_byte
reply_object at (bodies.Ok tree) h =
    ap (λ w. codes "{\"at\":" ++ (decimal at ++ 44 ∷ drop 1 w)) (json_text-Fields (field (codes "ok") tree ∷ []))
    ∙ ap (λ w. codes "{\"at\":" ++ (w ++ 44 ∷ members_text false (member (codes "ok") (data_of tree) no_members))) (sym (number_text at h))
    ∙ sym (json_text-Fields (field (codes "at") (number at) ∷ field (codes "ok") tree ∷ []))
reply_object at (bodies.No why) h =
    ap (λ w. codes "{\"at\":" ++ (decimal at ++ 44 ∷ drop 1 w)) (json_text-Fields (field (codes "no") (text (name_of why)) ∷ field (codes "why") (why_of why) ∷ []))
    ∙ ap (λ w. codes "{\"at\":" ++ (w ++ 44 ∷ members_text false (member (codes "no") (data_of (text (name_of why))) (member (codes "why") (data_of (why_of why)) no_members))))
    (sym (number_text at h))
    ∙ sym (json_text-Fields (field (codes "at") (number at) ∷ field (codes "no") (text (name_of why)) ∷ field (codes "why") (why_of why) ∷ []))
