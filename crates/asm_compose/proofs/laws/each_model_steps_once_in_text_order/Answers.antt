use Rattle.std.proofs.Common.{[]}
use Rattle.asm_compose.proofs.EndLaws.{course-steps}
use Rattle.asm_compose.proofs.RunLaws.{run_at-leaves}
use Rattle.asm_compose.proofs.laws.each_model_steps_once_in_text_order.Goals as goal

pub returns : goal.returns
returns g c = record {
  leaves = λ formula begins. run_at-leaves begins.held begins.step formula [];
  steps = λ formula begins. course-steps begins formula [];
}
