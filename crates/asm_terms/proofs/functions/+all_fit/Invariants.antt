-- There are fewer domains left.
use Rattle.std.proofs.Common.{length}
use Rattle.asm_terms.proofs.functions.+all_fit.Given as goal

abbrev pub decreases-all_fit : goal.decreases-all_fit
decreases-all_fit l = length l.domains.now
