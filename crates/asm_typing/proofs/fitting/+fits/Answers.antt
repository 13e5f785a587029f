-- Lists of unlike lengths do not fit type by type.
use Rattle.asm_value.proofs.DomainLaws.{each_passes-lengths}
use Rattle.asm_typing.specs.Fits.{fits}
use Rattle.asm_typing.proofs.fitting.+fits.Goals as goal

pub each_fits-returns-then-wanted-types : goal.each_fits-returns-then-wanted-types
each_fits-returns-then-wanted-types t c =
    each_passes-lengths fits c.args.types.now c.args.wanted.now c.if-wanted-types.true
