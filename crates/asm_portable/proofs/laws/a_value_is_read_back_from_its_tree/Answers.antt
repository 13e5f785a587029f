use Rattle.asm_portable.proofs.Back.{reads_back}
use Rattle.asm_portable.proofs.laws.a_value_is_read_back_from_its_tree.Goals as goal

pub returns : goal.returns
returns c domains live domain value apart fit proper integers limits =
    reads_back domains live apart value domain fit
    (record { proper = proper; integers = integers; limits = limits })
