use Rattle.asm_typing.proofs.Examples.{truth_row, truth_of_join_row, truth_of_item_row, int_row}
use Rattle.asm_typing.proofs.Examples.{chars_row, argument_row, item_row, join_row, join_first_row}
use Rattle.asm_typing.proofs.Examples.{join_last_row, set_of_items_row, seq_of_items_row}
use Rattle.asm_typing.proofs.Examples.{first_part_row, second_part_row, third_part_row}
use Rattle.asm_typing.proofs.Examples.{untyped_rows}
use Rattle.asm_typing.proofs.laws.each_rule_has_a_row.Goals as goal

pub returns-clause-truth : goal.returns-clause-truth
returns-clause-truth c = truth_row

pub returns-clause-truth_of_join : goal.returns-clause-truth_of_join
returns-clause-truth_of_join c = truth_of_join_row

pub returns-clause-truth_of_item : goal.returns-clause-truth_of_item
returns-clause-truth_of_item c = truth_of_item_row

pub returns-clause-int : goal.returns-clause-int
returns-clause-int c = int_row

pub returns-clause-chars : goal.returns-clause-chars
returns-clause-chars c = chars_row

pub returns-clause-argument : goal.returns-clause-argument
returns-clause-argument c = argument_row

pub returns-clause-item : goal.returns-clause-item
returns-clause-item c = item_row

pub returns-clause-join : goal.returns-clause-join
returns-clause-join c = join_row

pub returns-clause-join_first : goal.returns-clause-join_first
returns-clause-join_first c = join_first_row

pub returns-clause-join_last : goal.returns-clause-join_last
returns-clause-join_last c = join_last_row

pub returns-clause-set_of_items : goal.returns-clause-set_of_items
returns-clause-set_of_items c = set_of_items_row

pub returns-clause-seq_of_items : goal.returns-clause-seq_of_items
returns-clause-seq_of_items c = seq_of_items_row

pub returns-clause-first_part : goal.returns-clause-first_part
returns-clause-first_part c = first_part_row

pub returns-clause-second_part : goal.returns-clause-second_part
returns-clause-second_part c = second_part_row

pub returns-clause-third_part : goal.returns-clause-third_part
returns-clause-third_part c = third_part_row

pub returns-clause-untyped : goal.returns-clause-untyped
returns-clause-untyped c = untyped_rows
