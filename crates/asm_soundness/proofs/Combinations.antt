-- The members of a domain that is finite are made of literals, members that are there, truth values
-- and integers: so are the combinations that a range goes through.
use Rattle.std.proofs.Common.{◌≡◌, ℕ, ◌+◌, ◌<◌, min, Bool, true, false, ◌||◌, Option, Some, None}
use Rattle.std.proofs.Common.{List, [], ◌∷◌, map, slice_get, sym, ap, subst, ◌∙◌, arith}
use Rattle.std.specs.Prelude.{nat_lt}
use Rattle.std.specs.List.{AllByRecursion, range_with_len}
use Rattle.std.specs.Option.{option_map_or}
use Rattle.asm_value.specs.declared.value.Value.{Value}
use Rattle.asm_value.specs.declared.value.Value.TheVariants.{Int, Member, Tuple, Set}
use Rattle.asm_value.specs.declared.domain.Domain.{Domain}
use Rattle.asm_value.specs.declared.domain.Domain.TheOpen.{Domain-F}
use Rattle.asm_value.specs.declared.domain.Domain.TheFolds.{ind-Domain, map-Domain}
use Rattle.asm_value.specs.declared.domain.Domain.TheViews.{roll-Domain}
use Rattle.asm_value.specs.declared.domain.DomainInfo.{DomainInfo}
use Rattle.asm_value.specs.declared.domain.Live.{Live}
use Rattle.asm_value.specs.Domain.{has_literal}
use Rattle.asm_value.specs.Living.{live_of}
use Rattle.asm_value.specs.Members.{literals_of, literal_count, subset_numbers, live_indexes}
use Rattle.asm_value.specs.Members.{members, members_level}
use Rattle.asm_value.specs.Ranges.{Mem, tuples, sets_of}
use Rattle.asm_value.specs.State.{StateMap}
use Rattle.asm_value.proofs.Listing.{all_each_first, all_of, all_sets, numbers_below}
use Rattle.asm_value.proofs.MemberLists.{kind_has}
use Rattle.asm_value.proofs.MembersLaws.{members-out, out_roll_domain}
use Rattle.asm_value.proofs.RangeLaws.{all_map, all_mem, all_weaker, every}
use Rattle.asm_value.proofs.StateLaws.{or_left}
use Rattle.asm_program.specs.Members.{constants_of, range, combinations}
use Rattle.asm_soundness.specs.Sorted.{members_pass, is_named}
use Rattle.asm_soundness.proofs.Values.{AllPass, members_pass-Truth, members_pass-Int}
use Rattle.asm_soundness.proofs.Values.{members_pass-Member, tuple_passes, set_passes}

-- a literal is named
literal_named : (o : Option DomainInfo) (i : ℕ)
    → i < elim o as (λ _. ℕ) [ None ↦ 0 | Some info ↦ literals_of info.kind ]
    → option_map_or (λ info. has_literal info.kind i || nat_lt i (constants_of info.kind)) o false
    ≡ true
literal_named None i h = absurd (omega (arith, h))
literal_named (Some info) i h = or_left (has_literal info.kind i) _ (kind_has info.kind i h)

module _ (has : ℕ → ℕ → Bool) where
  abbrev Passes : Value → Type 0
  Passes v = members_pass has v ≡ true

  tuples_pass : (rs : List (List Value)) → AllByRecursion (AllPass has) rs
      → AllByRecursion (AllPass has) (tuples rs)
  tuples_pass [] h = (tt, tt)
  tuples_pass (r ∷ rs) h =
      all_each_first Passes (AllPass has) (AllPass has) (λ x zs q s. (q, s)) r (tuples rs) h.0
      (tuples_pass rs h.1)

  module _ (domains : List DomainInfo) (live : Live)
      (named : (d i : ℕ) → is_named domains d i ≡ true → has d i ≡ true)
      (there : (d i : ℕ) → Mem i (live_indexes live d) → has d i ≡ true) where
    abbrev AreListed : Domain → Type 0
    AreListed d = AllPass has (members domains live d)

    abbrev Held : Type 0
    Held = (d : Domain) × AreListed d

    abbrev opened : Domain-F Held → Domain-F Domain
    opened y = map-Domain Held Domain (λ e. e.0) y

    abbrev lists_of : Domain-F Domain → List Value
    lists_of a =
        members_level domains live (map-Domain Domain (List Value) (members domains live) a)

    each_listed : (es : List Held)
        → AllByRecursion (AllPass has) (map (members domains live) (map (λ e. e.0) es))
    each_listed [] = tt
    each_listed (e ∷ es) = (e.1, each_listed es)

    literal_passes : (d i : ℕ) → i < 0 + min (literal_count domains d) 65535 → Passes (Member d i)
    literal_passes d i h =
        members_pass-Member has d i
        ∙ named d i (literal_named (slice_get domains d) i (below (literal_count domains d) h))
      where
        below : (n : ℕ) → i < 0 + min n 65535 → i < n
        below n k = omega (arith, k)

    level_listed : (y : Domain-F Held) → AllPass has (lists_of (opened y))
    level_listed Domain-F.Truth = (members_pass-Truth has false, (members_pass-Truth has true, tt))
    level_listed Domain-F.Int = tt
    level_listed Domain-F.Nat = tt
    level_listed Domain-F.Chars = tt
    level_listed (Domain-F.Enum d) =
        let n = min (literal_count domains d) 65535 in
        all_map (λ i. Member d i) Passes (range_with_len 0 n)
        (all_weaker (λ i. i < 0 + n) (λ i. Passes (Member d i)) (literal_passes d)
        (range_with_len 0 n) (numbers_below 0 n))
    level_listed (Domain-F.Abstract d) =
        all_map (λ i. Member d i) Passes (live_indexes live d)
        (all_of (λ i. Passes (Member d i)) (live_indexes live d)
        (λ i m. members_pass-Member has d i ∙ there d i m))
    level_listed (Domain-F.Subset d) =
        all_map (λ n. Int n) Passes (subset_numbers domains d)
        (every (λ n. Passes (Int n)) (members_pass-Int has) (subset_numbers domains d))
    level_listed (Domain-F.Prod es) =
        let rs = map (members domains live) (map (λ (e : Held). e.0) es) in
        all_map (λ xs. Tuple xs) Passes (tuples rs)
        (all_weaker (AllPass has) (λ xs. Passes (Tuple xs)) (tuple_passes has) (tuples rs)
        (tuples_pass rs (each_listed es)))
    level_listed (Domain-F.Seq e) = tt
    level_listed (Domain-F.Power e) =
        let vs = members domains live e.0 in
        all_map (λ xs. Set xs) Passes (sets_of vs)
        (all_weaker (AllPass has) (λ xs. Passes (Set xs)) (set_passes has) (sets_of vs)
        (all_sets Passes vs e.1))

    -- what is listed of a domain passes
    pub listed_pass : (d : Domain) → AllPass has (members domains live d)
    listed_pass =
        ind-Domain AreListed (λ x y is. subst (AllPass has) (sym (members-out domains live
        (roll-Domain x)
        ∙ ap lists_of (out_roll_domain x ∙ sym is))) (level_listed y))

  -- each value of each combination of members of domains passes
  pub combinations_pass : (domains : List DomainInfo) (state : StateMap)
      → ((d i : ℕ) → is_named domains d i ≡ true → has d i ≡ true)
      → ((d i : ℕ) → Mem i (live_indexes (live_of state domains) d) → has d i ≡ true)
      → (ranges : List Domain) → AllByRecursion (AllPass has) (combinations domains state ranges)
  combinations_pass domains state named there ranges =
      tuples_pass (map (range domains state) ranges)
      (all_map (range domains state) (AllPass has) ranges
      (every (λ d. AllPass has (range domains state d))
      (listed_pass domains (live_of state domains) named there) ranges))

  pub combination_passes : (domains : List DomainInfo) (state : StateMap)
      → ((d i : ℕ) → is_named domains d i ≡ true → has d i ≡ true)
      → ((d i : ℕ) → Mem i (live_indexes (live_of state domains) d) → has d i ≡ true)
      → (ranges : List Domain) (c : List Value) → Mem c (combinations domains state ranges)
      → AllPass has c
  combination_passes domains state named there ranges c m =
      all_mem (AllPass has) (combinations domains state ranges) c
      (combinations_pass domains state named there ranges) m
