-- The members that the abstract domains have in a state.
use Rattle.std.specs.Prelude.{◌≡◌, ◌↔◌, ℕ, ◌+◌, ◌==◌, ◌&&◌, Bool, true, false, cond}
use Rattle.std.specs.Prelude.{Option, Some, None, unwrap_or, List, [], ◌∷◌, length, slice_get}
use Rattle.std.specs.List.{filter_map}
use Rattle.std.specs.List.Sorted.{IsStrictlySortedBy}
use Rattle.std.specs.Ordering.{nat_cmp}
use Rattle.std.specs.FinMap as finite
use Rattle.asm_value.specs.declared.value.Value.{Value}
use Rattle.asm_value.specs.declared.value.Value.TheVariants.{Truth, Member}
use Rattle.asm_value.specs.declared.location.Subject.{Subject}
use Rattle.asm_value.specs.declared.location.Subject.TheVariants.{Function, Domain}
use Rattle.asm_value.specs.declared.location.Location.{Location}
use Rattle.asm_value.specs.declared.domain.DomainInfo.{DomainInfo}
use Rattle.asm_value.specs.declared.domain.DomainKind.{DomainKind}
use Rattle.asm_value.specs.declared.domain.DomainKind.TheVariants as kind
use Rattle.asm_value.specs.declared.domain.Live.{Live}
use Rattle.asm_value.specs.Value.{as_truth, as_member}
use Rattle.asm_value.specs.Ranges.{Mem}
use Rattle.asm_value.specs.Members.{live_indexes}
use Rattle.asm_value.specs.State.{StateMap, value_at}

-- the location whose value is true where the member is in the domain
abbrev pub member_location : ℕ → ℕ → Location
member_location d i = record { subject = Domain d; args = Member d i ∷ [] }

-- the state has the member
abbrev pub HasMember : StateMap → ℕ → ℕ → Type 0
HasMember state d i = value_at state (member_location d i) ≡ Truth true

-- whether the declared domain with this number, from 0 in text order, is abstract
abbrev pub is_abstract_kind : DomainKind → Bool
is_abstract_kind (kind.Enum names) = false
is_abstract_kind (kind.Abstract names) = true
is_abstract_kind (kind.Subset numbers) = false

abbrev pub is_abstract : List DomainInfo → ℕ → Bool
is_abstract domains d =
    elim (slice_get domains d) as (λ _. Bool)
    [ None ↦ false | Some info ↦ is_abstract_kind info.kind ]

-- for each declared domain a list: of an abstract one exactly its members in the state, ascending
pub record ListsMembers (state : StateMap) (domains : List DomainInfo) (live : Live) : Type 0 where
  pub one_each : length live.members ≡ length domains
  pub ascends : (d : ℕ) → IsStrictlySortedBy nat_cmp (live_indexes live d)
  pub members : (d i : ℕ)
      → Mem i (live_indexes live d) ↔ ((is_abstract domains d ≡ true) × HasMember state d i)

-- the index of a member of the domain with this number
abbrev pub index_in : ℕ → Option (ℕ × ℕ) → Option ℕ
index_in d None = None
index_in d (Some m) = cond (m.0 == d) (Some m.1) None

abbrev pub only_index : ℕ → List Value → Option ℕ
only_index d [] = None
only_index d (v ∷ []) = index_in d (as_member v)
only_index d (v ∷ w ∷ vs) = None

-- whether the value is the truth value true
abbrev pub is_true : Value → Bool
is_true v = unwrap_or (as_truth v) false

abbrev pub said_at : ℕ → Subject → Bool → List Value → Option ℕ
said_at d (Function f) holds args = None
said_at d (Domain e) holds args = cond ((e == d) && holds) (only_index d args) None

-- the member that an entry of a state says to be in the domain
abbrev pub member_said : ℕ → Location × Value → Option ℕ
member_said d e = said_at d e.0.subject (is_true e.1) e.0.args

-- the indexes of the domain's members, ascending
abbrev pub members_in : StateMap → ℕ → List ℕ
members_in state d = filter_map (member_said d) (finite.entries state)

-- those of a declared domain; none where it is not abstract
abbrev pub members_of_kind : StateMap → ℕ → DomainKind → List ℕ
members_of_kind state d (kind.Enum names) = []
members_of_kind state d (kind.Abstract names) = members_in state d
members_of_kind state d (kind.Subset numbers) = []

-- those of declared domains from number d on
abbrev pub members_from : StateMap → ℕ → List DomainInfo → List (List ℕ)
members_from state d [] = []
members_from state d (info ∷ infos) =
    members_of_kind state d info.kind ∷ members_from state (d + 1) infos

abbrev pub live_of : StateMap → List DomainInfo → Live
live_of state domains = record { members = members_from state 0 domains }
