-- The values and ranges of a well-formed state are made of literals and of members that it has.
use Rattle.std.proofs.Common.{◌≡◌, ℕ, ◌<◌, ◌==◌, Bool, true, false, ◌||◌, Option, Some, None, List}
use Rattle.std.proofs.Common.{map, slice_get, refl, sym, ap, subst, ◌∙◌}
use Rattle.std.specs.Prelude.{nat_lt}
use Rattle.std.specs.Option.{option_map_or}
use Rattle.std.proofs.lemmas.Bool.Decides.{Decides-eqb, Decides-ltb}
use Rattle.asm_value.specs.declared.value.Value.{Value}
use Rattle.asm_value.specs.declared.domain.Domain.{Domain as DomainOf}
use Rattle.asm_value.specs.declared.domain.DomainInfo.{DomainInfo}
use Rattle.asm_value.specs.declared.domain.DomainKind.{DomainKind}
use Rattle.asm_value.specs.declared.domain.DomainKind.TheVariants as kind
use Rattle.asm_value.specs.declared.location.Subject.{Subject}
use Rattle.asm_value.specs.declared.location.Subject.TheVariants.{Function, Domain}
use Rattle.asm_value.specs.Domain.{fits, each_passes, has_literal, is_literal, is_live}
use Rattle.asm_value.specs.Living.{is_abstract, is_abstract_kind, HasMember, live_of}
use Rattle.asm_value.specs.Members.{live_indexes}
use Rattle.asm_value.specs.Ranges.{Mem}
use Rattle.asm_value.specs.State.{StateMap}
use Rattle.asm_value.proofs.Listing.{mem-found}
use Rattle.asm_value.proofs.LivingLaws.{live_of-ListsMembers}
use Rattle.asm_value.proofs.MemberLists.{live_is}
use Rattle.asm_value.proofs.RangeLaws.{all_mem}
use Rattle.asm_value.proofs.StateLaws.{or_left, or_right}
use Rattle.asm_program.specs.declared.program.Program.{Program}
use Rattle.asm_program.specs.Members.{constants_of, combinations}
use Rattle.asm_soundness.specs.WellFormed.{Belongs, IsWellFormed}
use Rattle.asm_soundness.specs.Sorted.{is_named, members_pass, IsSorted}
use Rattle.asm_soundness.proofs.Values.{AllPass, members_pass-Truth}
use Rattle.asm_soundness.proofs.Fits.{fitting_passes, fitting_args_pass}
use Rattle.asm_soundness.proofs.Combinations.{combination_passes}
use Rattle.asm_soundness.proofs.Terms.{Covers, eval_passes}
use Rattle.asm_soundness.proofs.MembersFit.{EachFits, combinations_fit}
use Rattle.asm_soundness.proofs.Updates.{Passes}
use Rattle.asm_soundness.proofs.Rules.{TermsPass, RangesPass}

-- ---- literals and constants

-- what a declared domain names
abbrev named_in : Option DomainInfo → ℕ → Bool
named_in o i =
    option_map_or (λ info. has_literal info.kind i || nat_lt i (constants_of info.kind)) o false

literal_in : (o : Option DomainInfo) (i : ℕ)
    → elim o as (λ _. Bool) [ None ↦ false | Some info ↦ has_literal info.kind i ] ≡ true
    → named_in o i ≡ true
literal_in None i h = absurd (cc)
literal_in (Some info) i h = or_left (has_literal info.kind i) _ h

pub literal_named : (domains : List DomainInfo) (d i : ℕ) → is_literal domains d i ≡ true
    → is_named domains d i ≡ true
literal_named domains d i h = literal_in (slice_get domains d) i h

constant_in : (o : Option DomainInfo) (info : DomainInfo) (i : ℕ) → o ≡ Some info
    → i < constants_of info.kind → named_in o i ≡ true
constant_in o info i e h =
    ap (λ x. named_in x i) e
    ∙ or_right (has_literal info.kind i) _ ((Decides-ltb i (constants_of info.kind)).1 h)

pub constant_named : (domains : List DomainInfo) (d i : ℕ) (info : DomainInfo)
    → slice_get domains d ≡ Some info → i < constants_of info.kind → is_named domains d i ≡ true
constant_named domains d i info e h = constant_in (slice_get domains d) info i e h

-- a member of an abstract domain that is named is a constant
kind_constant : (k : DomainKind) (i : ℕ) → is_abstract_kind k ≡ true
    → (has_literal k i || nat_lt i (constants_of k)) ≡ true → i < constants_of k
kind_constant (kind.Enum names) i is h = absurd (cc)
kind_constant (kind.Abstract names) i is h =
    (Decides-ltb i (constants_of (kind.Abstract names))).0 h
kind_constant (kind.Subset numbers) i is h = absurd (cc)

abbrev abstract_in : Option DomainInfo → Bool
abstract_in o = elim o as (λ _. Bool) [ None ↦ false | Some info ↦ is_abstract_kind info.kind ]

named_constant : (o : Option DomainInfo) (i : ℕ) → abstract_in o ≡ true → named_in o i ≡ true
    → (info : DomainInfo) × (o ≡ Some info) × (i < constants_of info.kind)
named_constant None i is h = absurd (cc)
named_constant (Some info) i is h = (info, refl, kind_constant info.kind i is h)

pub constant_of : (domains : List DomainInfo) (d i : ℕ) → is_abstract domains d ≡ true
    → is_named domains d i ≡ true
    → (info : DomainInfo) × (slice_get domains d ≡ Some info) × (i < constants_of info.kind)
constant_of domains d i is h = named_constant (slice_get domains d) i is h

-- ---- the members of a state

module _ (state : StateMap) (domains : List DomainInfo) where
  pub live_has : (d i : ℕ) → is_live (live_of state domains) d i ≡ true
      → (is_abstract domains d ≡ true) × HasMember state d i
  live_has d i h =
      ((live_of-ListsMembers state domains).members d i).0
      (mem-found (λ j k. j == k) Decides-eqb i (live_indexes (live_of state domains) d)
      (sym (live_is (slice_get (live_of state domains).members d) i) ∙ h))

  pub has_live : (d i : ℕ) → is_abstract domains d ≡ true → HasMember state d i
      → Mem i (live_indexes (live_of state domains) d)
  has_live d i is h = ((live_of-ListsMembers state domains).members d i).1 (is, h)

module _ (p : Program) (has : ℕ → ℕ → Bool) where
  -- literals and constants pass
  abbrev pub NamedPass : Type 0
  NamedPass = (d i : ℕ) → is_named p.domains d i ≡ true → has d i ≡ true

  -- the members of a state pass
  abbrev pub MembersPass : StateMap → Type 0
  MembersPass state = (d i : ℕ) → HasMember state d i → has d i ≡ true

  module _ (named : NamedPass) (state : StateMap) (there : MembersPass state) where
    literals_pass : (d i : ℕ) → is_literal p.domains d i ≡ true → has d i ≡ true
    literals_pass d i h = named d i (literal_named p.domains d i h)

    lives_pass : (d i : ℕ) → is_live (live_of state p.domains) d i ≡ true → has d i ≡ true
    lives_pass d i h = there d i (live_has state p.domains d i h).1

    -- a value in a domain passes, and so do arguments
    pub fit_passes : (d : DomainOf) (v : Value)
        → fits p.domains (live_of state p.domains) d v ≡ true → members_pass has v ≡ true
    fit_passes = fitting_passes p.domains (live_of state p.domains) has literals_pass lives_pass

    pub fit_args_pass : (ds : List DomainOf) (vs : List Value)
        → each_passes (map (fits p.domains (live_of state p.domains)) ds) vs ≡ true
        → AllPass has vs
    fit_args_pass =
        fitting_args_pass p.domains (live_of state p.domains) has literals_pass lives_pass

    belongs_passes : (s : Subject) (args : List Value) (v : Value)
        → Belongs p (live_of state p.domains) s args v → members_pass has v ≡ true
    belongs_passes (Function f) args v b = fit_passes b.info.result v b.value
    belongs_passes (Domain d) args v b =
        subst (λ w. members_pass has w ≡ true) (sym b.holds) (members_pass-Truth has true)

    pub state_passes : IsWellFormed p state → Passes p has state
    state_passes well = record {
      values = λ l v e. belongs_passes l.subject l.args v (well.locations l v e);
      members = there;
    }

  -- the combinations of members fit
  pub range_fits : (state : StateMap) (ranges : List DomainOf) (c : List Value)
      → Mem c (combinations p.domains state ranges)
      → EachFits p.domains (live_of state p.domains) ranges c
  range_fits state ranges c m =
      all_mem (EachFits p.domains (live_of state p.domains) ranges)
      (combinations p.domains state ranges) c
      (combinations_fit p.domains (live_of state p.domains) ranges) m

  lists_pass : (state : StateMap) → Passes p has state → (d i : ℕ)
      → Mem i (live_indexes (live_of state p.domains) d) → has d i ≡ true
  lists_pass state ok d i m =
      ok.members d i (((live_of-ListsMembers state p.domains).members d i).0 m).1

  pub ranges_pass : NamedPass → RangesPass p has
  ranges_pass named state ok ranges c m =
      combination_passes has p.domains state named (lists_pass state ok) ranges c m

  -- so does what terms give
  pub terms_pass : IsSorted p → NamedPass → TermsPass p has
  terms_pass is named state ok t env v sorted pass e =
      let covers : Covers p state has =
      record { named = named; stored = ok.values; there = lists_pass state ok } in
      eval_passes p state has covers is.bodies t env v sorted pass e
