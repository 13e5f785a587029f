-- What a session has done, by how it ended.
use Rattle.std.specs.Prelude.{ℕ, Option, List}
use Rattle.asm_io.specs.declared.stream.SessionEnd.{SessionEnd}
use Rattle.asm_io.specs.declared.stream.SessionEnd.TheVariants.{Ended, ReadFault, WriteFault, Budget}
use Rattle.asm_io.specs.Causes.{Rose}
use Rattle.asm_stdio.specs.Headline.{AnsweredAll, AnsweredEnded, AnsweredBudget, AnsweredPart}

-- what the source reports before and after, and the sink, and their counts of faults
pub record Ends : Type 0 where
  pub left : Option (List ℕ)
  pub rest : Option (List ℕ)
  pub held : Option (List ℕ)
  pub now : Option (List ℕ)
  pub source_faults : ℕ
  pub source_faults_now : ℕ
  pub sink_faults : ℕ
  pub sink_faults_now : ℕ

abbrev pub Served : SessionEnd → Ends → Type 0
Served Ended t = AnsweredAll t.left t.rest t.held t.now
Served ReadFault t =
    AnsweredEnded t.left t.rest t.held t.now × Rose t.source_faults t.source_faults_now
Served WriteFault t = AnsweredPart t.left t.rest t.held t.now × Rose t.sink_faults t.sink_faults_now
Served Budget t = AnsweredBudget t.left t.rest t.held t.now
