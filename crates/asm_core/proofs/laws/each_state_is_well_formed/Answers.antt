use Rattle.asm_core.proofs.WellFormed.{each_well}
use Rattle.asm_core.proofs.laws.each_state_is_well_formed.Goals as goal

pub returns : goal.returns
returns c journal = each_well c.what_is_read_is_a_value_of_the_domain.ensures.fits journal
