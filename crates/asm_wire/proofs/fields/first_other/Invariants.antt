use Rattle.std.proofs.Common.{◌≡◌, map}
use Rattle.serde_json.specs.View.{members_view}
use Rattle.asm_wire.specs.Requests.{first_other}
use Rattle.asm_wire.proofs.fields.first_other.Given as goal

abbrev pub invariant-loop-key : goal.invariant-loop-key
invariant-loop-key l = first_other (map (λ k. k.now) l.keys) (members_view l.key-iterator) ≡ first_other (map (λ k. k.now) l.keys) (members_view l.members.entries)
