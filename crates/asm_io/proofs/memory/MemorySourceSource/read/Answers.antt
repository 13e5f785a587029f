-- The bytes that are given are the first of those left.
use Rattle.std.proofs.Common.{◌≡◌, ◌+◌, ◌≤◌, ◌++◌, length, drop, sym, ap, ◌∙◌, arith}
use Rattle.std.specs.List.{slice_range}
use Rattle.std.proofs.lemmas.List.{take_at, drop_all}
use Rattle.std.proofs.lemmas.List.Edits.{length-between}
use Rattle.std.proofs.lemmas.List.Folds.{drop_split}
use Rattle.asm_io.specs.Memory.{Feed}
use Rattle.asm_io.proofs.memory.MemorySourceSource.read.Goals as goal

pub returns-clause-bytes : goal.returns-clause-bytes
returns-clause-bytes c =
    let s = c.self.inside in
    let bytes = s.bytes.items in
    let count = c.min-count.result in
    let into = c.args.into.now in
    let end = s.at + count in
    let given = c.copy_from_slice.new.self in
    let size = s.bytes.ok.0 in
    let least = c.min-count.ensures in
    let left = c.len.ensures in
    let within : end ≤ length bytes = omega (arith, c.self.invariant, size, least, left) in
    let some = c.requires in
    let is : given ≡ slice_range bytes s.at end = c.copy_from_slice.ensures.after ∙ ap (λ w. slice_range w s.at end) c.deref-2.ensures.value in
    let long : length given ≡ count = omega (arith, ap length is, length-between bytes s.at end within) in (
      ap (λ (f : Feed). f.left) (sym c.self.view_is)
          ∙ drop_split bytes s.at end (omega arith)
          ∙ ap (λ w. w ++ drop end bytes) (sym is)
          ∙ ap (λ w. w ++ drop end bytes) (sym (take_at given (drop count into) count long)),
      λ none _. drop_all end bytes (omega (arith, c.self.invariant, size, least, left, some, none)),
    )
