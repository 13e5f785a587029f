-- The updates passed are taken back, in a state without undef.
use Rattle.std.proofs.Common.{◌≡◌, ◌<◌, map, take}
use Rattle.asm_value.specs.State.{IsState}
use Rattle.asm_value.specs.UpdateSet.{empty, add_all}
use Rattle.asm_fire.specs.Inverses.{was}
use Rattle.asm_fire.proofs.inverses.inverse.Given as goal

abbrev pub invariant-loop-update : goal.invariant-loop-update
invariant-loop-update l = record {
  back : l.back ≡ add_all empty (map (was l.state) (take l.update-index l.update-items));
  whole : 0 < l.update-index → IsState l.state;
}
