use Rattle.std.proofs.Common.{length, le_refl}
use Rattle.asm_book.proofs.Rising.{rises}
use Rattle.asm_book.proofs.published.SeatReader.enter.Goals as goal

pub enter_as-requires : goal.enter_as-requires
enter_as-requires g c x = rises _ _ _ _ _ x x (le_refl (length x.log)) (λ of. of)
