-- The product so far is that of the parts that were passed.
use Rattle.std.proofs.Common.{◌≡◌, map, take}
use Rattle.asm_value.specs.Enumerable.{size, product}
use Rattle.asm_typed.specs.Sizes.{told}
use Rattle.asm_typed.proofs.sizes.+size.Given as goal

abbrev pub invariant-product-loop-part : goal.invariant-product-loop-part
invariant-product-loop-part l = l.count ≡ told (product (map (size l.domains) (take l.part-index l.parts)))
