-- A copy of a value that is not undef is not undef.
use Rattle.std.proofs.Common.{sym, ◌∙◌}
use Rattle.asm_state.proofs.state.State.insert_copy.Goals as goal

pub insert-requires : goal.insert-requires
insert-requires c e = c.requires (sym c.in_ok-copy.ensures ∙ e)
