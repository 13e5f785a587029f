-- The domains so far are those of the types that were passed.
use Rattle.std.proofs.Common.{◌≡◌, map, take}
use Rattle.asm_typing.specs.Domains.{domain_of}
use Rattle.asm_typing.proofs.domains.+domain_of.Given as goal

abbrev pub invariant-domains_of-loop-one : goal.invariant-domains_of-loop-one
invariant-domains_of-loop-one l = l.all ≡ map domain_of (take l.one-index l.types)
