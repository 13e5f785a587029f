-- The first literal that goes by a name, one index on.
use Rattle.std.proofs.Common.{◌≡◌, ℕ, suc, ◌+◌, ◌-◌, ◌<◌, cond, Some, List, ap, arith}
use Rattle.std.specs.List.{range_with_len}
use Rattle.std.specs.Str.{bytes_eq}
use Rattle.asm_value.specs.declared.domain.DomainInfo.{DomainInfo}
use Rattle.asm_portable.specs.Values.{member_name}
use Rattle.asm_portable.specs.Reading.{first_named}

pub first_named_more : (domains : List DomainInfo) (d : ℕ) (name : List ℕ) (i n : ℕ) → i < n
    → first_named domains d (range_with_len i (n - i)) name
    ≡ cond (bytes_eq name (member_name domains d i)) (Some i)
    (first_named domains d (range_with_len (i + 1) (n - (i + 1))) name)
first_named_more domains d name i n h =
    let more : n - i ≡ suc (n - (i + 1)) = omega arith in
    ap (λ k. first_named domains d (range_with_len i k) name) more
