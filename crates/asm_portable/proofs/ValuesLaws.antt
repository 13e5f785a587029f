-- The tree of a value, level by level.
use Rattle.std.proofs.Common.{◌≡◌, List}
use Rattle.asm_value.specs.declared.value.Value.{Value}
use Rattle.asm_value.specs.declared.value.Value.TheFolds.{fold_out-Value, map-Value}
use Rattle.asm_value.specs.declared.value.Value.TheViews.{out-Value, the_lemmas}
use Rattle.asm_value.specs.declared.domain.DomainInfo.{DomainInfo}
use Rattle.asm_portable.specs.declared.port.Port.{Port}
use Rattle.asm_portable.specs.declared.port.Port.TheViews as ports
use Rattle.asm_portable.specs.Values.{port_of, port_level}

-- what one level has, from the trees of its parts
pub port_of-out : (domains : List DomainInfo) (v : Value) → port_of domains v ≡ port_level domains (map-Value Value Port (port_of domains) (out-Value v))
unfolding port_of
port_of-out domains v = fold_out-Value Port (port_level domains) v

pub ruleset value_steps = (port_of-out, the_lemmas, ports.the_lemmas)
