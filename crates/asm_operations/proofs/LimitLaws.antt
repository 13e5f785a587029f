-- Whatever is given went through the limits.
use Rattle.std.proofs.Common.{◌≡◌}
use Rattle.std.proofs.Common.{Bool, true, false}
use Rattle.std.proofs.Common.{not, cond, ◌&&◌, Option, Some, None, List}
use Rattle.std.proofs.Common.{length, ◌==◌}
use Rattle.std.proofs.Common.{nat_le, refl, ap, ◌∙◌, rules}
use Rattle.std.specs.Option.{option_map_or}
use Rattle.asm_value.specs.declared.value.Value.{Value}
use Rattle.asm_value.specs.declared.value.Value.TheVariants.{Undef, Tuple, Seq}
use Rattle.asm_value.specs.declared.value.Value.TheVariants.{Set}
use Rattle.asm_value.specs.declared.value.Value.TheViews.{the_lemmas}
use Rattle.asm_value.specs.Value.{whole_weight}
use Rattle.asm_value.proofs.MemberLists.{out_undef}
use Rattle.asm_value.proofs.ValueLaws.{whole_weight-out}
use Rattle.asm_operations.specs.declared.applied.Applied.{Applied}
use Rattle.asm_operations.specs.declared.applied.Applied.TheVariants as applied
use Rattle.asm_operations.specs.Limits.{is_short, is_short_level, keeps_limits, limited}
use Rattle.asm_operations.specs.Limits.{within_limits}
use Rattle.asm_operations.specs.Results.{undefined}
use Rattle.asm_operations.specs.Readers.{any_undef, two_ints}
use Rattle.asm_operations.specs.Operations as spec
use Rattle.asm_operations.specs.Terms as terms
use Rattle.asm_operations.specs.Laws.{IsLimited}

pub limited_cond : (b : Bool) (v : Value) → keeps_limits v ≡ b
    → IsLimited (cond b (applied.Value v) applied.TooLarge)
limited_cond true v e = e
limited_cond false v e = tt

pub limited_value : (v : Value) → IsLimited (limited v)
limited_value v = limited_cond (keeps_limits v) v refl

pub limited_within : (a : Applied) → IsLimited (within_limits a)
limited_within (applied.Value v) = limited_value v
limited_within applied.Overflow = tt
limited_within applied.TooLarge = tt

pub undef_limits : keeps_limits Undef ≡ true
undef_limits =
    let short : is_short Undef ≡ true = ap (λ a. is_short_level a) out_undef in
    let light : whole_weight Undef ≡ 1 =
    whole_weight-out Undef ∙ search (rules, the_lemmas) in
    λ i. short i && nat_le (light i) 4096

pub limited_undef : IsLimited undefined
limited_undef = undef_limits

pub chosen : (P : Applied → Type 0) (b : Bool) (x y : Applied) → P x → P y → P (cond b x y)
chosen P true x y p q = p
chosen P false x y p q = q

pub optional : {A : Type 0} (P : Applied → Type 0) (o : Option A) (f : A → Applied) (y : Applied)
    → ((x : A) → P (f x)) → P y → P (option_map_or f o y)
optional P None f y h k = k
optional P (Some x) f y h k = h x

pub limited_apply : (operation : _) (args : List Value) → IsLimited (spec.apply operation args)
limited_apply operation args =
    chosen IsLimited
    (length args == spec.arity operation && not (spec.is_strict operation && any_undef args))
    _ _ (limited_within (spec.meaning operation _ _)) limited_undef

pub limited_defined : (vs : List Value) (v : Value) → IsLimited (terms.of_defined vs (limited v))
limited_defined vs v = chosen IsLimited (any_undef vs) _ _ limited_undef (limited_value v)

pub limited_tuple : (vs : List Value) → IsLimited (terms.tuple_of vs)
limited_tuple vs = limited_defined vs (Tuple vs)

pub limited_sequence : (vs : List Value) → IsLimited (terms.sequence_of vs)
limited_sequence vs = limited_defined vs (Seq vs)

pub limited_set : (vs : List Value) → IsLimited (terms.set_of vs)
limited_set vs = limited_defined vs _

pub limited_interval : (v w : Value) → IsLimited (terms.interval_of v w)
limited_interval v w =
    optional IsLimited (two_ints v w) (λ p. terms.limited_interval p.0 p.1) undefined
    (λ p. limited_value (Set (terms.interval p.0 p.1))) limited_undef
