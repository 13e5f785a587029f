-- What a state may take belongs to it, where its members are all those that pass. What belongs to a
-- state belongs to one with more members too.
use Rattle.std.proofs.Common.{◌≡◌, ℕ, ◌+◌, inl, inr, Bool, true, false, List, [], ◌∷◌}
use Rattle.std.proofs.Common.{refl, sym, ap, subst}
use Rattle.asm_value.specs.declared.value.Value.{Value}
use Rattle.asm_value.specs.declared.domain.DomainInfo.{DomainInfo}
use Rattle.asm_value.specs.declared.domain.DomainKind.{DomainKind}
use Rattle.asm_value.specs.declared.domain.DomainKind.TheVariants as kind
use Rattle.asm_value.specs.declared.domain.Live.{Live}
use Rattle.asm_value.specs.declared.location.Location.{Location}
use Rattle.asm_value.specs.declared.location.Subject.{Subject}
use Rattle.asm_value.specs.declared.location.Subject.TheVariants.{Function, Domain}
use Rattle.asm_value.specs.Domain.{is_live}
use Rattle.asm_value.specs.Living.{is_abstract, HasMember, live_of, members_in, members_of_kind}
use Rattle.asm_value.specs.Living.{members_from}
use Rattle.asm_value.specs.Members.{live_indexes}
use Rattle.asm_value.specs.Ranges.{Mem}
use Rattle.asm_value.specs.State.{StateMap, is_undef}
use Rattle.asm_value.proofs.LivingLaws.{members_in_ascend, members_in-has, has-members_in}
use Rattle.asm_program.specs.declared.program.Program.{Program}
use Rattle.asm_program.proofs.Counting.{same_ascending}
use Rattle.asm_soundness.specs.WellFormed.{IsOfFunction, IsMembership, Belongs}
use Rattle.asm_soundness.proofs.Fits.{fits_here, args_here, fits_more, args_more}
use Rattle.asm_soundness.proofs.Updates.{IsOfDynamic, IsOfMember, MayTake}

-- ---- members that pass, and more members

-- all members of abstract domains that pass are there
abbrev pub HasPassing : Program → (ℕ → ℕ → Bool) → Live → Type 0
HasPassing p has live =
    (d i : ℕ) → is_abstract p.domains d ≡ true → has d i ≡ true → Mem i (live_indexes live d)

module _ (p : Program) (has : ℕ → ℕ → Bool) (live : Live) (there : HasPassing p has live) where
  function_belongs : (l : Location) (v : Value) → is_undef v ≡ false → IsOfDynamic p has l v
      → Belongs p live l.subject l.args v
  function_belongs l v defined s =
      let b : IsOfFunction p live s.function l.args v = record {
        info = s.info;
        declared = s.declared;
        dynamic = s.dynamic;
        arguments = args_here p live has there s.info.args l.args s.arguments s.args_pass;
        value = fits_here p live has there s.info.result v (s.value defined) s.value_passes;
      } in
      subst (λ k. Belongs p live k l.args v) (sym s.subject) b

  member_belongs : (l : Location) (v : Value) → IsOfMember p has l v
      → Belongs p live l.subject l.args v
  member_belongs l v m =
      let b : IsMembership p live m.domain l.args v = record {
        index = m.index;
        abstract = m.abstract;
        member = ap (λ k. k.args) m.at;
        holds = m.holds;
      } in
      subst (λ k. Belongs p live k l.args v) (sym (ap (λ k. k.subject) m.at)) b

  pub taken_belongs : (l : Location) (v : Value) → is_undef v ≡ false → MayTake p has l v
      → Belongs p live l.subject l.args v
  taken_belongs l v defined t = elim t [
    | inl s ↦ function_belongs l v defined s
    | inr m ↦ member_belongs l v m
  ]

-- each member of the one is of the other
abbrev pub HasMore : Live → Live → Type 0
HasMore fewer more = (d i : ℕ) → is_live fewer d i ≡ true → is_live more d i ≡ true

module _ (p : Program) (fewer more : Live) (grows : HasMore fewer more) where
  pub belongs_more : (s : Subject) (args : List Value) (v : Value) → Belongs p fewer s args v
      → Belongs p more s args v
  belongs_more (Function f) args v b = record {
    info = b.info;
    declared = b.declared;
    dynamic = b.dynamic;
    arguments = args_more p.domains fewer more grows b.info.args args b.arguments;
    value = fits_more p.domains fewer more grows b.info.result v b.value;
  }
  belongs_more (Domain d) args v b = record {
    index = b.index;
    abstract = b.abstract;
    member = b.member;
    holds = b.holds;
  }

-- ---- states with the same members

module _ (a b : StateMap) (there : (d i : ℕ) → HasMember a d i → HasMember b d i)
    (back : (d i : ℕ) → HasMember b d i → HasMember a d i) where
  members_same : (d : ℕ) → members_in a d ≡ members_in b d
  members_same d =
      same_ascending (members_in a d) (members_in b d) (members_in_ascend a d)
      (members_in_ascend b d)
      (λ i m. has-members_in b d i (there d i (members_in-has a d i m)))
      (λ i m. has-members_in a d i (back d i (members_in-has b d i m)))

  kind_same : (d : ℕ) (k : DomainKind) → members_of_kind a d k ≡ members_of_kind b d k
  kind_same d (kind.Enum names) = refl
  kind_same d (kind.Abstract names) = members_same d
  kind_same d (kind.Subset numbers) = refl

  all_same : (d : ℕ) (infos : List DomainInfo) → members_from a d infos ≡ members_from b d infos
  all_same d [] = refl
  all_same d (info ∷ infos) = λ k. kind_same d info.kind k ∷ all_same (d + 1) infos k

  pub same_live : (domains : List DomainInfo) → live_of a domains ≡ live_of b domains
  same_live domains = λ k. record { members = all_same 0 domains k }
