-- The bytes of a reply.
use Rattle.std.specs.Prelude.{ℕ, List, [], ◌∷◌, ◌++◌, drop, codes}
use Rattle.std.specs.Fmt.{decimal}
use Rattle.asm_portable.specs.declared.port.Field.{Field}
use Rattle.asm_portable.specs.declared.port.Port.{Port}
use Rattle.asm_portable.specs.Ports.{text, number, field, fields}
use Rattle.asm_portable.specs.Json.{json_text}
use Rattle.asm_board.specs.declared.reply.Body.{Body}
use Rattle.asm_board.specs.declared.reply.Body.TheVariants as bodies
use Rattle.asm_board.specs.declared.reply.Reply.{Reply}
use Rattle.asm_board.specs.declared.refusal.Refusal.{Refusal}
use Rattle.asm_board.specs.Refusals.{name_of, why_of}

-- the name and the reason of a refusal, as a reply has them
abbrev pub refusal_fields : Refusal → List Field
refusal_fields refusal =
    field (codes "no") (text (name_of refusal)) ∷ field (codes "why") (why_of refusal) ∷ []

-- the fields of a reply besides its number
abbrev pub body_fields : Body → List Field
body_fields (bodies.Ok tree) = field (codes "ok") tree ∷ []
body_fields (bodies.No refusal) = refusal_fields refusal

-- the reply as a tree, with its number
abbrev pub reply_port : ℕ → Body → Port
reply_port at body = fields (field (codes "at") (number at) ∷ body_fields body)

-- their JSON text after its first brace
abbrev pub tail_of : Body → List ℕ
tail_of body = drop 1 (json_text (fields (body_fields body)))

-- the reply that tells a body after this many entries
abbrev pub reply_of : ℕ → Body → Reply
reply_of at body = record { at = at; body = body; tail = tail_of body }

-- The line of a reply: `{"at":`, the number, a comma, and the other fields.
abbrev pub reply_text : Reply → List ℕ
reply_text reply = codes "{\"at\":" ++ (decimal reply.at ++ 44 ∷ reply.tail)

-- the line for which memory was wanting
abbrev pub no_memory_text : List ℕ
no_memory_text = codes "{\"no\":\"NoMemory\"}"
