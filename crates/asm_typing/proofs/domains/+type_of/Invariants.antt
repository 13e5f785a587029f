-- The types so far are those of the domains that were passed.
use Rattle.std.proofs.Common.{◌≡◌, map, take}
use Rattle.asm_typing.specs.Domains.{type_of}
use Rattle.asm_typing.proofs.domains.+type_of.Given as goal

abbrev pub invariant-types_of-loop-domain : goal.invariant-types_of-loop-domain
invariant-types_of-loop-domain l = l.all ≡ map type_of (take l.domain-index l.domains)
