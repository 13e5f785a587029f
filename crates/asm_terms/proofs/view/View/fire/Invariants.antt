-- The updates so far were fired.
use Rattle.std.proofs.Common.{◌≡◌, take}
use Rattle.asm_value.specs.State.{fire_all}
use Rattle.asm_terms.specs.Views.{program_of, map_of}
use Rattle.asm_terms.proofs.view.View.fire.Given as goal

abbrev pub invariant-loop-update : goal.invariant-loop-update
invariant-loop-update l = record {
  program : program_of l.self ≡ program_of l.fn.self;
  map : map_of l.self ≡ fire_all (map_of l.fn.self) (take l.update-index l.update-items);
}
