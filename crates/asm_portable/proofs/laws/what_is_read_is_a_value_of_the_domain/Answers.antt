use Rattle.asm_portable.proofs.Back.{reads_back}
use Rattle.asm_portable.proofs.Found.{finds_good}
use Rattle.asm_portable.proofs.laws.what_is_read_is_a_value_of_the_domain.Goals as goal

pub returns-clause-fits : goal.returns-clause-fits
returns-clause-fits c domains live domain tree value read =
    (finds_good domains live domain tree value read).fits_it

pub returns-clause-proper : goal.returns-clause-proper
returns-clause-proper c domains live domain tree value read =
    (finds_good domains live domain tree value read).proper

pub returns-clause-limits : goal.returns-clause-limits
returns-clause-limits c domains live domain tree value read =
    (finds_good domains live domain tree value read).limits

pub returns-clause-again : goal.returns-clause-again
returns-clause-again c domains live domain tree value apart read integers =
    let good = finds_good domains live domain tree value read in
    reads_back domains live apart value domain good.fits_it
    (record { proper = good.proper; integers = integers; limits = good.limits })
