-- A line asks for one thing, so what it asks for is what is reported.
use Rattle.std.proofs.Common.{◌≡◌, ℕ, List, Result, Ok, Err, IfOk, IfErr, IfSome, inl, inr, sym, ap, subst, ◌∙◌}
use Rattle.serde_json.specs.Data.{Data}
use Rattle.asm_board.specs.declared.call.Call.{Call}
use Rattle.asm_board.specs.Refusals.{Tried}
use Rattle.asm_wire.specs.Refused.{refusal_in, IsRefused, Reports}
use Rattle.asm_wire.specs.Requests.{IsJson, Asks, call_in}
use Rattle.asm_wire.specs.declared.refusal.WireRefusal.{WireRefusal}

one_tree : (line : List ℕ) (a b : Data) → IsJson line a → IsJson line b → a ≡ b
one_tree line a b p q = cc (p.reads, q.reads)

pub asks_one : (line : List ℕ) (a b : Tried Call) → Asks line a → Asks line b → a ≡ b
asks_one line a b (inl p) (inl q) = p.asks ∙ ap call_in (one_tree line p.tree q.tree p.is_json q.is_json) ∙ sym q.asks
asks_one line a b (inl p) (inr q) = absurd (q.none p.tree p.is_json)
asks_one line a b (inr p) (inl q) = absurd (p.none q.tree q.is_json)
asks_one line a b (inr p) (inr q) = p.refused ∙ sym q.refused

pub reports_one : (line : List ℕ) (asked : Tried Call) (result : Result Call WireRefusal)
    → IfOk result (λ call. Asks line (Ok call)) → IfErr result (λ why. IsRefused line (refusal_in why)) → Asks line asked → Reports asked result
reports_one line asked (Ok call) ok err asks = asks_one line asked (Ok call) asks ok
reports_one line asked (Err why) ok err asks = λ refusal is. asks_one line asked (Err refusal) asks (subst (λ o. IsRefused line o) is err)
