-- The members of abstract domains after one update, from those before it.
use Rattle.std.specs.Prelude.{ℕ, ◌+◌, Bool, true, if◌then◌else◌, nat_lt, Option, Some, None, List}
use Rattle.std.specs.Prelude.{[]}
use Rattle.std.specs.Prelude.{◌∷◌, ◌++◌, filter}
use Rattle.asm_value.specs.declared.domain.DomainInfo.{DomainInfo}
use Rattle.asm_value.specs.declared.domain.DomainKind.{DomainKind}
use Rattle.asm_value.specs.declared.domain.Live.{Live}
use Rattle.asm_value.specs.declared.location.Update.{Update}
use Rattle.asm_value.specs.Living.{is_true, said_at, is_abstract_kind}
pub use Rattle.asm_value.specs.Members.{live_indexes}

-- ascending indexes with this one in its place, or without it
abbrev pub placed : ℕ → Bool → List ℕ → List ℕ
placed i present is =
    filter (λ j. nat_lt j i) is ++ (if present then i ∷ [] else []) ++ filter (λ j. nat_lt i j) is

abbrev pub placed_at : Option ℕ → Bool → List ℕ → List ℕ
placed_at None present is = is
placed_at (Some i) present is = placed i present is

-- the indexes of a domain's members after the update
abbrev pub after : Update → ℕ → DomainKind → List ℕ → List ℕ
after u d kind is =
    if is_abstract_kind kind
    then placed_at (said_at d u.location.subject true u.location.args) (is_true u.value) is
    else is

-- those of the declared domains from number d on
abbrev pub lists_after : Update → Live → ℕ → List DomainInfo → List (List ℕ)
lists_after u live d [] = []
lists_after u live d (info ∷ infos) =
    after u d info.kind (live_indexes live d) ∷ lists_after u live (d + 1) infos

abbrev pub live_after : Update → List DomainInfo → Live → Live
live_after u domains live = record { members = lists_after u live 0 domains }
