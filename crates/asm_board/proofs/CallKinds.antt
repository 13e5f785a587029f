-- What each call is: a log is no change, and a read speaks of no model and makes none.
use Rattle.std.proofs.Common.{◌≡◌, ◌≤◌, ℕ, nat_lt, Bool, true, false, List, [], refl, arith}
use Rattle.std.proofs.lemmas.Bool.Decides.{nat_tests}
use Rattle.asm_board.specs.declared.call.Call.{Call}
use Rattle.asm_board.specs.declared.call.Call.TheVariants as call
use Rattle.asm_board.specs.Calls.{is_change, is_log, since_of, footprint}
use Rattle.asm_board.specs.Slots.{Models}
use Rattle.asm_board.specs.Boards.{is_new_model}

pub no_log : (c : Call) → is_change c ≡ true → is_log c ≡ false
no_log (call.Log from count since) is = absurd (cc (is))
no_log _ is = refl

pub speaks_of_none : (c : Call) → is_change c ≡ false → footprint c ≡ []
speaks_of_none (call.Load name source) is = absurd (cc (is))
speaks_of_none (call.Unload name) is = absurd (cc (is))
speaks_of_none (call.Step formula inputs pick) is = absurd (cc (is))
speaks_of_none (call.AddInvariant name inv term) is = absurd (cc (is))
speaks_of_none (call.DropInvariant name inv) is = absurd (cc (is))
speaks_of_none (call.Rollback name to) is = absurd (cc (is))
speaks_of_none _ is = refl

pub makes_none : (c : Call) (models : Models) → is_change c ≡ false → is_new_model models c ≡ false
makes_none (call.Load name source) models is = absurd (cc (is))
makes_none _ models is = refl

pub not_ahead : (front n since : ℕ) → front ≡ n → since ≤ n → nat_lt front since ≡ false
not_ahead front n since is h = grind (arith, nat_tests)
