-- Where a value that fits a domain fits it at other members of the abstract domains.
use Rattle.std.proofs.Common.{◌≡◌, ℕ, zero, suc, ◌==◌, Bool, true, ◌&&◌, List, []}
use Rattle.std.proofs.Common.{◌∷◌, map, slice_get, refl, sym, ap, subst, ◌∙◌}
use Rattle.std.specs.List.{AllByRecursion, list_any, list_all}
use Rattle.std.proofs.lemmas.Bool.Decides.{Decides-eqb}
use Rattle.asm_value.specs.declared.value.Value.{Value}
use Rattle.asm_value.specs.declared.value.Value.TheOpen.{Value-F}
use Rattle.asm_value.specs.declared.value.Value.TheViews.{out-Value}
use Rattle.asm_value.specs.declared.domain.Domain.{Domain}
use Rattle.asm_value.specs.declared.domain.Domain.TheOpen.{Domain-F}
use Rattle.asm_value.specs.declared.domain.Domain.TheFolds.{ind-Domain, map-Domain}
use Rattle.asm_value.specs.declared.domain.Domain.TheViews.{roll-Domain}
use Rattle.asm_value.specs.declared.domain.DomainInfo.{DomainInfo}
use Rattle.asm_value.specs.declared.domain.DomainKind.{DomainKind}
use Rattle.asm_value.specs.declared.domain.DomainKind.TheVariants as kind
use Rattle.asm_value.specs.declared.domain.Live.{Live}
use Rattle.asm_value.specs.Value.{items}
use Rattle.asm_value.specs.TotalOrders.{by_parts}
use Rattle.asm_value.specs.Domain.{fits, fits_level, each_passes, is_literal, is_live}
use Rattle.asm_value.specs.Living.{is_abstract, is_abstract_kind}
use Rattle.asm_value.specs.Members.{live_indexes}
use Rattle.asm_value.specs.Ranges.{Mem}
use Rattle.asm_value.proofs.DomainLaws.{fits-out}
use Rattle.asm_value.proofs.Listing.{first_true, second_true, both_true, found-mem}
use Rattle.asm_value.proofs.MemberLists.{live_is}
use Rattle.asm_value.proofs.MembersLaws.{out_roll_domain}
use Rattle.asm_program.specs.declared.program.Program.{Program}
use Rattle.asm_program.specs.Members.{indexes_of, everyone_of}
use Rattle.asm_soundness.specs.Sorted.{members_pass}
use Rattle.asm_soundness.proofs.Values.{AllPass, all-from_list, list-from_all, level_passes}
use Rattle.asm_soundness.proofs.Values.{members_pass-out}

-- one level of a domain, with the test of each part in its place
abbrev pub tests_of : List DomainInfo → Live → Domain-F Domain → Domain-F (Value → Bool)
tests_of domains live a = map-Domain Domain (Value → Bool) (fits domains live) a

pub fits-roll : (domains : List DomainInfo) (live : Live) (a x : Domain-F Domain) (v : Value)
    → a ≡ x → fits domains live (roll-Domain x) v
    ≡ fits_level domains live (tests_of domains live a) (out-Value v)
fits-roll domains live a x v is =
    fits-out domains live (roll-Domain x) v
    ∙ ap (λ b. fits_level domains live (tests_of domains live b) (out-Value v))
    (out_roll_domain x ∙ sym is)

same_domain : (P : ℕ → Type 0) (e d : ℕ) → (e == d) ≡ true → P e → P d
same_domain P e d h k = subst P ((Decides-eqb e d).0 h) k

-- ---- at other members

-- where the members of a value that passes are members there
module _ (domains : List DomainInfo) (live other : Live) (has : ℕ → ℕ → Bool)
    (there : (d i : ℕ) → is_live live d i ≡ true → has d i ≡ true → is_live other d i ≡ true) where
  abbrev Kept : Domain → Type 0
  Kept d = (v : Value) → fits domains live d v ≡ true → members_pass has v ≡ true
      → fits domains other d v ≡ true

  abbrev Held : Type 0
  Held = (d : Domain) × Kept d

  abbrev opened : Domain-F Held → Domain-F Domain
  opened y = map-Domain Held Domain (λ e. e.0) y

  each_kept : (es : List Held) (vs : List Value)
      → each_passes (map (fits domains live) (map (λ e. e.0) es)) vs ≡ true → AllPass has vs
      → each_passes (map (fits domains other) (map (λ e. e.0) es)) vs ≡ true
  each_kept [] [] h k = refl
  each_kept [] (v ∷ vs) h k = absurd (cc)
  each_kept (e ∷ es) [] h k = absurd (cc)
  each_kept (e ∷ es) (v ∷ vs) h k =
      both_true (fits domains other e.0 v) _
      (e.1 v (first_true (fits domains live e.0 v) _ h) k.0)
      (each_kept es vs (second_true (fits domains live e.0 v) _ h) k.1)

  all_kept : (e : Held) (vs : List Value) → list_all (fits domains live e.0) vs ≡ true
      → AllPass has vs → list_all (fits domains other e.0) vs ≡ true
  all_kept e [] h k = refl
  all_kept e (v ∷ vs) h k =
      both_true (fits domains other e.0 v) _
      (e.1 v (first_true (fits domains live e.0 v) _ h) k.0)
      (all_kept e vs (second_true (fits domains live e.0 v) _ h) k.1)

  member_kept : (d e i : ℕ) → ((e == d) && is_live live d i) ≡ true → has e i ≡ true
      → ((e == d) && is_live other d i) ≡ true
  member_kept d e i h k =
      both_true (e == d) _ (first_true (e == d) _ h)
      (there d i (second_true (e == d) _ h)
      (same_domain (λ n. has n i ≡ true) e d (first_true (e == d) _ h) k))

  abbrev fits_here_of : Live → Domain-F Domain → Value-F Value → Bool
  fits_here_of at a w = fits_level domains at (tests_of domains at a) w

  -- of one form of domain, at each form of value
  abbrev FormKept : Domain-F Held → Value-F Value → Type 0
  FormKept y w =
      fits_here_of live (opened y) w ≡ true → level_passes has w ≡ true
      → fits_here_of other (opened y) w ≡ true

  abstract_kept : (d : ℕ) (w : Value-F Value) → FormKept (Domain-F.Abstract d) w
  abstract_kept d (Value-F.Member e i) h k = member_kept d e i h k
  abstract_kept d w h k = absurd (cc)

  prod_kept : (es : List Held) (w : Value-F Value) → FormKept (Domain-F.Prod es) w
  prod_kept es (Value-F.Tuple vs) h k = each_kept es vs h (all-from_list has vs k)
  prod_kept es w h k = absurd (cc)

  seq_kept : (e : Held) (w : Value-F Value) → FormKept (Domain-F.Seq e) w
  seq_kept e (Value-F.Seq vs) h k = all_kept e vs h (all-from_list has vs k)
  seq_kept e w h k = absurd (cc)

  power_kept : (e : Held) (w : Value-F Value) → FormKept (Domain-F.Power e) w
  power_kept e (Value-F.Set vs) h k = all_kept e vs h (all-from_list has vs k)
  power_kept e w h k = absurd (cc)

  truth_kept : (w : Value-F Value) → FormKept Domain-F.Truth w
  truth_kept (Value-F.Truth b) h k = refl
  truth_kept w h k = absurd (cc)

  int_kept : (w : Value-F Value) → FormKept Domain-F.Int w
  int_kept (Value-F.Int n) h k = refl
  int_kept w h k = absurd (cc)

  nat_kept : (w : Value-F Value) → FormKept Domain-F.Nat w
  nat_kept (Value-F.Int n) h k = h
  nat_kept w h k = absurd (cc)

  chars_kept : (w : Value-F Value) → FormKept Domain-F.Chars w
  chars_kept (Value-F.Chars t) h k = refl
  chars_kept w h k = absurd (cc)

  enum_kept : (d : ℕ) (w : Value-F Value) → FormKept (Domain-F.Enum d) w
  enum_kept d (Value-F.Member e i) h k = h
  enum_kept d w h k = absurd (cc)

  subset_kept : (d : ℕ) (w : Value-F Value) → FormKept (Domain-F.Subset d) w
  subset_kept d (Value-F.Int n) h k = h
  subset_kept d w h k = absurd (cc)

  form_kept : (y : Domain-F Held) (w : Value-F Value) → FormKept y w
  form_kept Domain-F.Truth w h k = truth_kept w h k
  form_kept Domain-F.Int w h k = int_kept w h k
  form_kept Domain-F.Nat w h k = nat_kept w h k
  form_kept Domain-F.Chars w h k = chars_kept w h k
  form_kept (Domain-F.Enum d) w h k = enum_kept d w h k
  form_kept (Domain-F.Abstract d) w h k = abstract_kept d w h k
  form_kept (Domain-F.Subset d) w h k = subset_kept d w h k
  form_kept (Domain-F.Prod es) w h k = prod_kept es w h k
  form_kept (Domain-F.Seq e) w h k = seq_kept e w h k
  form_kept (Domain-F.Power e) w h k = power_kept e w h k

  pub fits_kept : (d : Domain) (v : Value) → fits domains live d v ≡ true
      → members_pass has v ≡ true → fits domains other d v ≡ true
  fits_kept =
      ind-Domain Kept (λ x y is v h k.
      fits-roll domains other (opened y) x v is
      ∙ form_kept y (out-Value v) (sym (fits-roll domains live (opened y) x v is) ∙ h)
      (sym (members_pass-out has v) ∙ k))

  pub args_kept : (ds : List Domain) (vs : List Value)
      → each_passes (map (fits domains live) ds) vs ≡ true → AllPass has vs
      → each_passes (map (fits domains other) ds) vs ≡ true
  args_kept [] [] h k = refl
  args_kept [] (v ∷ vs) h k = absurd (cc)
  args_kept (d ∷ ds) [] h k = absurd (cc)
  args_kept (d ∷ ds) (v ∷ vs) h k =
      both_true (fits domains other d v) _
      (fits_kept d v (first_true (fits domains live d v) _ h) k.0)
      (args_kept ds vs (second_true (fits domains live d v) _ h) k.1)

-- ---- where there are more members

abbrev anything : ℕ → ℕ → Bool
anything d i = true

all_anything : (vs : List Value) → AllByRecursion (λ v. members_pass anything v ≡ true) vs
    → list_all (λ b. b) (map (members_pass anything) vs) ≡ true
all_anything vs h = list-from_all anything vs h

level_anything : (a : Value-F Value)
    → AllByRecursion (λ v. members_pass anything v ≡ true) (items a) → level_passes anything a ≡ true
level_anything (Value-F.Tuple vs) h = all_anything vs h
level_anything (Value-F.Seq vs) h = all_anything vs h
level_anything (Value-F.Set vs) h = all_anything vs h
level_anything a h = refl

pub passes_anything : (v : Value) → members_pass (λ d i. true) v ≡ true
passes_anything =
    by_parts (λ v. members_pass anything v ≡ true)
    (λ v h. members_pass-out anything v ∙ level_anything (out-Value v) h)

all_pass_anything : (vs : List Value) → AllPass anything vs
all_pass_anything [] = tt
all_pass_anything (v ∷ vs) = (passes_anything v, all_pass_anything vs)

module _ (domains : List DomainInfo) (live more : Live)
    (grows : (d i : ℕ) → is_live live d i ≡ true → is_live more d i ≡ true) where
  pub fits_more : (d : Domain) (v : Value) → fits domains live d v ≡ true
      → fits domains more d v ≡ true
  fits_more d v h =
      fits_kept domains live more anything (λ e i m n. grows e i m) d v h (passes_anything v)

  pub args_more : (ds : List Domain) (vs : List Value)
      → each_passes (map (fits domains live) ds) vs ≡ true
      → each_passes (map (fits domains more) ds) vs ≡ true
  args_more ds vs h =
      args_kept domains live more anything (λ e i m n. grows e i m) ds vs h (all_pass_anything vs)

-- ---- at the members of a state, of what fits where each index is a member

pub is_live-mem : (live : Live) (d i : ℕ) → Mem i (live_indexes live d) → is_live live d i ≡ true
is_live-mem live d i m =
    live_is (slice_get live.members d) i
    ∙ found-mem (λ j k. j == k) Decides-eqb i (live_indexes live d) m

kind_has_index : (k : DomainKind) (i : ℕ) → list_any (λ j. j == i) (indexes_of k) ≡ true
    → is_abstract_kind k ≡ true
kind_has_index (kind.Enum names) i h = absurd (cc)
kind_has_index (kind.Abstract names) i h = refl
kind_has_index (kind.Subset numbers) i h = absurd (cc)

everyone_is_abstract : (domains : List DomainInfo) (d i : ℕ)
    → is_live (everyone_of domains) d i ≡ true → is_abstract domains d ≡ true
everyone_is_abstract [] d i h = absurd (cc)
everyone_is_abstract (info ∷ infos) zero i h = kind_has_index info.kind i h
everyone_is_abstract (info ∷ infos) (suc d) i h = everyone_is_abstract infos d i h

module _ (p : Program) (live : Live) (has : ℕ → ℕ → Bool)
    (there : (d i : ℕ) → is_abstract p.domains d ≡ true → has d i ≡ true
    → Mem i (live_indexes live d)) where
  of_everyone : (d i : ℕ) → is_live p.everyone d i ≡ true → has d i ≡ true
      → is_live live d i ≡ true
  of_everyone d i h k =
      is_live-mem live d i
      (there d i (everyone_is_abstract p.domains d i
      (subst (λ (l : Live). is_live l d i ≡ true) p.every h)) k)

  pub fits_here : (d : Domain) (v : Value) → fits p.domains p.everyone d v ≡ true
      → members_pass has v ≡ true → fits p.domains live d v ≡ true
  fits_here d v h k = fits_kept p.domains p.everyone live has of_everyone d v h k

  pub args_here : (ds : List Domain) (vs : List Value)
      → each_passes (map (fits p.domains p.everyone) ds) vs ≡ true → AllPass has vs
      → each_passes (map (fits p.domains live) ds) vs ≡ true
  args_here ds vs h k = args_kept p.domains p.everyone live has of_everyone ds vs h k

-- ---- what fits is made of literals and of members that are there

module _ (domains : List DomainInfo) (live : Live) (has : ℕ → ℕ → Bool)
    (literals : (d i : ℕ) → is_literal domains d i ≡ true → has d i ≡ true)
    (there : (d i : ℕ) → is_live live d i ≡ true → has d i ≡ true) where
  abbrev Made : Domain → Type 0
  Made d = (v : Value) → fits domains live d v ≡ true → members_pass has v ≡ true

  abbrev MadeOf : Type 0
  MadeOf = (d : Domain) × Made d

  abbrev shown : Domain-F MadeOf → Domain-F Domain
  shown y = map-Domain MadeOf Domain (λ e. e.0) y

  each_made : (es : List MadeOf) (vs : List Value)
      → each_passes (map (fits domains live) (map (λ e. e.0) es)) vs ≡ true → AllPass has vs
  each_made [] [] h = tt
  each_made [] (v ∷ vs) h = absurd (cc)
  each_made (e ∷ es) [] h = absurd (cc)
  each_made (e ∷ es) (v ∷ vs) h = (
    e.1 v (first_true (fits domains live e.0 v) _ h),
    each_made es vs (second_true (fits domains live e.0 v) _ h),
  )

  all_made : (e : MadeOf) (vs : List Value) → list_all (fits domains live e.0) vs ≡ true
      → AllPass has vs
  all_made e [] h = tt
  all_made e (v ∷ vs) h = (
    e.1 v (first_true (fits domains live e.0 v) _ h),
    all_made e vs (second_true (fits domains live e.0 v) _ h),
  )

  member_made : (test : ℕ → ℕ → Bool) → ((d i : ℕ) → test d i ≡ true → has d i ≡ true)
      → (d e i : ℕ) → ((e == d) && test d i) ≡ true → has e i ≡ true
  member_made test made d e i h =
      subst (λ n. has n i ≡ true) (sym ((Decides-eqb e d).0 (first_true (e == d) _ h)))
      (made d i (second_true (e == d) _ h))

  -- of one form of domain, at each form of value
  abbrev FormMade : Domain-F MadeOf → Value-F Value → Type 0
  FormMade y w =
      fits_level domains live (tests_of domains live (shown y)) w ≡ true
      → level_passes has w ≡ true

  truth_made : (w : Value-F Value) → FormMade Domain-F.Truth w
  truth_made (Value-F.Truth b) h = refl
  truth_made w h = absurd (cc)

  int_made : (w : Value-F Value) → FormMade Domain-F.Int w
  int_made (Value-F.Int n) h = refl
  int_made w h = absurd (cc)

  nat_made : (w : Value-F Value) → FormMade Domain-F.Nat w
  nat_made (Value-F.Int n) h = refl
  nat_made w h = absurd (cc)

  chars_made : (w : Value-F Value) → FormMade Domain-F.Chars w
  chars_made (Value-F.Chars t) h = refl
  chars_made w h = absurd (cc)

  enum_made : (d : ℕ) (w : Value-F Value) → FormMade (Domain-F.Enum d) w
  enum_made d (Value-F.Member e i) h = member_made (is_literal domains) literals d e i h
  enum_made d w h = absurd (cc)

  abstract_made : (d : ℕ) (w : Value-F Value) → FormMade (Domain-F.Abstract d) w
  abstract_made d (Value-F.Member e i) h = member_made (is_live live) there d e i h
  abstract_made d w h = absurd (cc)

  subset_made : (d : ℕ) (w : Value-F Value) → FormMade (Domain-F.Subset d) w
  subset_made d (Value-F.Int n) h = refl
  subset_made d w h = absurd (cc)

  prod_made : (es : List MadeOf) (w : Value-F Value) → FormMade (Domain-F.Prod es) w
  prod_made es (Value-F.Tuple vs) h = list-from_all has vs (each_made es vs h)
  prod_made es w h = absurd (cc)

  seq_made : (e : MadeOf) (w : Value-F Value) → FormMade (Domain-F.Seq e) w
  seq_made e (Value-F.Seq vs) h = list-from_all has vs (all_made e vs h)
  seq_made e w h = absurd (cc)

  power_made : (e : MadeOf) (w : Value-F Value) → FormMade (Domain-F.Power e) w
  power_made e (Value-F.Set vs) h = list-from_all has vs (all_made e vs h)
  power_made e w h = absurd (cc)

  form_made : (y : Domain-F MadeOf) (w : Value-F Value) → FormMade y w
  form_made Domain-F.Truth w h = truth_made w h
  form_made Domain-F.Int w h = int_made w h
  form_made Domain-F.Nat w h = nat_made w h
  form_made Domain-F.Chars w h = chars_made w h
  form_made (Domain-F.Enum d) w h = enum_made d w h
  form_made (Domain-F.Abstract d) w h = abstract_made d w h
  form_made (Domain-F.Subset d) w h = subset_made d w h
  form_made (Domain-F.Prod es) w h = prod_made es w h
  form_made (Domain-F.Seq e) w h = seq_made e w h
  form_made (Domain-F.Power e) w h = power_made e w h

  pub fitting_passes : (d : Domain) (v : Value) → fits domains live d v ≡ true
      → members_pass has v ≡ true
  fitting_passes =
      ind-Domain Made (λ x y is v h.
      members_pass-out has v
      ∙ form_made y (out-Value v) (sym (fits-roll domains live (shown y) x v is) ∙ h))

  pub fitting_args_pass : (ds : List Domain) (vs : List Value)
      → each_passes (map (fits domains live) ds) vs ≡ true → AllPass has vs
  fitting_args_pass [] [] h = tt
  fitting_args_pass [] (v ∷ vs) h = absurd (cc)
  fitting_args_pass (d ∷ ds) [] h = absurd (cc)
  fitting_args_pass (d ∷ ds) (v ∷ vs) h = (
    fitting_passes d v (first_true (fits domains live d v) _ h),
    fitting_args_pass ds vs (second_true (fits domains live d v) _ h),
  )
