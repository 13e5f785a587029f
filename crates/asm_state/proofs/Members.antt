-- One entry, or one declared domain, more.
use Rattle.std.proofs.Common.{◌≡◌, ℕ, ◌+◌, Option, List, [], ◌∷◌, ◌++◌, length, sym, ap, ◌∙◌, arith}
use Rattle.std.specs.List.{filter_map, cons_option}
use Rattle.std.proofs.lemmas.List.Elements.{filter_map-append}
use Rattle.asm_value.specs.declared.domain.DomainInfo.{DomainInfo}
use Rattle.asm_value.specs.State.{StateMap}
use Rattle.asm_value.specs.Living.{members_of_kind, members_from}

pub filter_map-push : {X Y : Type 0} (f : X → Option Y) (xs : List X) (x : X) (o : Option Y)
    → o ≡ f x → filter_map f xs ++ cons_option o [] ≡ filter_map f (xs ++ x ∷ [])
filter_map-push f xs x o e =
    ap (λ p. filter_map f xs ++ cons_option p []) e ∙ sym (filter_map-append f xs (x ∷ []))

pub members_from-push : (state : StateMap) (d : ℕ) (infos : List DomainInfo) (info : DomainInfo)
    (n : ℕ)
    → n ≡ d + length infos
    → members_from state d (infos ++ info ∷ []) ≡ members_from state d infos
    ++ members_of_kind state n info.kind ∷ []
members_from-push state d [] info n e =
    ap (λ k. members_of_kind state k info.kind ∷ []) (omega (arith, e))
members_from-push state d (first ∷ infos) info n e =
    ap (λ lists. members_of_kind state d first.kind ∷ lists)
    (members_from-push state (d + 1) infos info n (omega (arith, e)))
