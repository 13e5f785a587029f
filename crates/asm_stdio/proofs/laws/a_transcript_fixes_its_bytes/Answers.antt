use Rattle.asm_stdio.proofs.Fixed.{full, fixed}
use Rattle.asm_stdio.proofs.laws.a_transcript_fixes_its_bytes.Goals as goal

pub returns-clause-fixed : goal.returns-clause-fixed
returns-clause-fixed c journal lines written other last end first second none never =
    fixed journal lines written other last end
    (full journal lines written last first none) (full journal lines other end second never)

pub returns-clause-full : goal.returns-clause-full
returns-clause-full c = full
