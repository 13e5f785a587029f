use Rattle.asm_book.proofs.Rising.{admits}
use Rattle.asm_book.proofs.opened.read_all.Goals as goal

pub reader-requires : goal.reader-requires
reader-requires g c = admits g.L.Opening.meanings g.L.Opening.history g.L.Opening.room
