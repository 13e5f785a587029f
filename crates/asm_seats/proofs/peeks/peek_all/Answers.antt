use denote.Exit.{yes}
use denote.Struct.Field.{u32-field}
use denote.Param.Send.{IsSend, IsSync, param_send, arg_send, shr_send, shr_sync, sendable}
use Rattle.std.proofs.Crossing.{crosses, sync}
use Rattle.std.specs.contracts.sync.atomic.AtomicU64 as atomic
use Rattle.asm_book.specs.contracts.token.Token as token
use Rattle.asm_seats.specs.contracts.peeks.peek_all.{L-row, R-row}
use Rattle.asm_seats.proofs.Crossing.{token_send, book_sync, call_sync}
use Rattle.asm_seats.proofs.Closures.{seven_sync}
use Rattle.asm_seats.proofs.peeks.peek_all.Goals as goal

pub for_each_mut-requires-send-T : goal.for_each_mut-requires-send-T
for_each_mut-requires-send-T g c κs within =
    let L = L-row g.row.L g.row.R in
    let own : IsSend (token.the_row L g.L.Opening g.L.Ledger) = token_send L g.L.Opening g.L.Ledger c.type_bounds.send-L in
    param_send 1 _ (arg_send _ yes _ own)

pub for_each_mut-requires-sync-F : goal.for_each_mut-requires-sync-F
for_each_mut-requires-sync-F g c κs within =
    let L = L-row g.row.L g.row.R in
    let R = R-row g.row.L g.row.R in
    let runtime : IsSync R = c.type_bounds.sync-R in
    let number : IsSync u32-field.row = search sendable in
    let word : IsSync atomic.the_row = search crosses in
    seven_sync _ _ _ _ _ _ _
    (shr_sync _ _ R runtime)
    (shr_sync _ _ _ sync)
    (shr_sync _ _ _ (book_sync L _ g.L.Opening g.L.Ledger c.type_bounds.send-L (shr_send _ _ R runtime)))
    (shr_sync _ _ _ call_sync)
    (shr_sync _ _ _ call_sync)
    (shr_sync _ _ _ number)
    (shr_sync _ _ _ word)
    _ _
