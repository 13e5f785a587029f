-- What each form of rule yields, in the textbook's words (Börger and Stärk, Abstract State
-- Machines,
-- 2003, chapter 2).
use Rattle.std.specs.Prelude.{◌≡◌, ◌↔◌, ℕ, ◌≤◌, true, ◌||◌, if◌then◌else◌, Option, List, [], ◌∷◌}
use Rattle.std.specs.Prelude.{◌++◌, map}
use Rattle.std.specs.Option.{option_map}
use Rattle.std.specs.List.{list_any, AllByRecursion}
use Rattle.std.specs.List.Sorted.{IsPermutation}
use Rattle.asm_value.specs.declared.value.Value.{Value}
use Rattle.asm_value.specs.declared.value.Value.TheVariants.{Truth}
use Rattle.asm_value.specs.declared.domain.Domain.{Domain}
use Rattle.asm_value.specs.declared.location.Location.{Location}
use Rattle.asm_value.specs.declared.location.Update.{Update as LocationUpdate}
use Rattle.asm_value.specs.declared.location.Subject.TheVariants as subjects
use Rattle.asm_value.specs.Living.{is_true, member_location}
use Rattle.asm_value.specs.Ranges.{Mem}
use Rattle.asm_value.specs.State.{StateMap, IsConsistent, is_undef, fire, overlaid, set_weight}
use Rattle.asm_value.specs.UpdateSet as set
use Rattle.asm_value.specs.UpdateSet.{UpdateSet}
use Rattle.asm_syntax.specs.declared.token.Span.{Span}
use Rattle.asm_program.specs.declared.trees.Term.{Term}
use Rattle.asm_program.specs.declared.trees.Rule.{Rule}
use Rattle.asm_program.specs.declared.trees.Rule.TheVariants.{Skip, Update, Par, Seq, If, Forall}
use Rattle.asm_program.specs.declared.program.Program.{Program}
use Rattle.asm_program.specs.Initial.{in_codomain}
use Rattle.asm_program.specs.Members.{combinations}
use Rattle.asm_program.specs.Meaning.{function_takes, location_of}
use Rattle.asm_program.specs.Yields.{Yielded, Yields, union_of, guard_of, guarded, otherwise}
use Rattle.asm_program.specs.Yields.{yields}
use Rattle.asm_program.specs.BookYields.{Book, Gives, GiveAll, AreDistinct, IsOutside}

-- ---- words

-- the set isn't too heavy to be yielded
abbrev pub IsLight : UpdateSet → Type 0
IsLight u = set_weight u ≤ 131072

-- each yields one of the sets, from the next indexes that the one before it leaves
abbrev pub EachYields : List (List ℕ → Yielded) → List ℕ → List UpdateSet → List ℕ → Type 0
EachYields [] next [] after = next ≡ after
EachYields [] next (u ∷ us) after = ⊥
EachYields (r ∷ rs) next [] after = ⊥
EachYields (r ∷ rs) next (u ∷ us) after =
    (later : List ℕ) × (r next ≡ Yields u later) × EachYields rs later us after

-- an update is in the union where it is in one of the sets
abbrev pub IsUnion : UpdateSet → List UpdateSet → Type 0
IsUnion u sets = (x : LocationUpdate) → set.has u x ≡ list_any (λ s. set.has s x) sets

-- the set is the union of what each yields
pub record YieldsUnion (rs : List (List ℕ → Yielded)) (next : List ℕ) (u : UpdateSet)
    (after : List ℕ) : Type 0 where
  pub sets : List UpdateSet
  pub each : EachYields rs next sets after
  pub union : IsUnion u sets

-- the update of a function's location
abbrev pub update_to : ℕ → List Value → Value → LocationUpdate
update_to f vs v = record { location = location_of f vs; value = v }

module _ (p : Program) (pick : Option ℕ) where
  -- ---- what each form yields

  abbrev pub SkipYields : Type 0
  SkipYields = (state : StateMap) (env : List Value) (next : List ℕ)
      → yields p pick Skip state env next ≡ Yields set.empty next

  -- where the arguments are in their domains, and the value is undef or in the codomain
  abbrev pub UpdateYields : Type 0
  UpdateYields = (f : ℕ) (args : List Term) (value : Term) (span : Span) (state : StateMap)
      (env : List Value) (next : List ℕ) (vs : List Value) (v : Value)
      → GiveAll p state env args vs → Gives p state env value v
      → function_takes p f vs ≡ true → (is_undef v || in_codomain p f v) ≡ true
      → yields p pick (Update f args value span) state env next
      ≡ Yields (set.add set.empty (update_to f vs v)) next

  abbrev pub UpdateYieldsAlone : Type 0
  UpdateYieldsAlone = (f : ℕ) (args : List Term) (value : Term) (span : Span) (state : StateMap)
      (env : List Value) (next : List ℕ) (vs : List Value) (v : Value)
      → GiveAll p state env args vs → Gives p state env value v
      → (u : UpdateSet) (after : List ℕ)
      → yields p pick (Update f args value span) state env next ≡ Yields u after
      → (x : LocationUpdate) → (set.has u x ≡ true) ↔ (x ≡ update_to f vs v)

  abbrev pub ParYields : Type 0
  ParYields = (parts : List Rule) (span : Span) (state : StateMap) (env : List Value)
      (next : List ℕ)
      → yields p pick (Par parts span) state env next
      ≡ union_of span set.empty (map (λ r. yields p pick r state env) parts) next

  abbrev pub ParYieldsOfParts : Type 0
  ParYieldsOfParts = (parts : List Rule) (span : Span) (state : StateMap) (env : List Value)
      (next after : List ℕ) (u : UpdateSet)
      → yields p pick (Par parts span) state env next ≡ Yields u after
      → YieldsUnion (map (λ r. yields p pick r state env) parts) next u after

  abbrev pub IfYields : Type 0
  IfYields = (guard : Term) (first : Rule) (other : Option Rule) (state : StateMap)
      (env : List Value) (next : List ℕ) (v : Value) → Gives p state env guard v
      → yields p pick (If guard first other) state env next
      ≡ (if is_true v then yields p pick first state env next
      else otherwise (option_map (yields p pick) other) state env next)

  -- the body where the guard is true, with the values of one combination
  abbrev pub at_combination : StateMap → List Value → Option Term → Rule → List Value → List ℕ
      → Yielded
  at_combination state env guard body c =
      guarded (guard_of p state guard (env ++ c)) (yields p pick body state (env ++ c))

  abbrev pub ForallYields : Type 0
  ForallYields = (ranges : List Domain) (guard : Option Term) (body : Rule) (span : Span)
      (state : StateMap) (env : List Value) (next after : List ℕ) (u : UpdateSet)
      → yields p pick (Forall ranges guard body span) state env next ≡ Yields u after
      → YieldsUnion
      (map (at_combination state env guard body) (combinations p.domains state ranges))
      next u after

  -- ---- one after another

  -- the second in the state that the first leads to
  abbrev pub SeqYields : Type 0
  SeqYields = (first second : Rule) (span : Span) (state : StateMap) (env : List Value)
      (next later after : List ℕ) (u v : UpdateSet)
      → yields p pick first state env next ≡ Yields u later → IsConsistent u → IsLight u
      → yields p pick second (fire state u) env later ≡ Yields v after → IsLight (overlaid u v)
      → yields p pick (Seq (first ∷ second ∷ []) span) state env next
      ≡ Yields (overlaid u v) after

  abbrev pub SeqStops : Type 0
  SeqStops = (first : Rule) (rest : List Rule) (span : Span) (state : StateMap)
      (env : List Value) (next after : List ℕ) (u : UpdateSet)
      → yields p pick first state env next ≡ Yields u after → (IsConsistent u → ⊥) → IsLight u
      → yields p pick (Seq (first ∷ rest) span) state env next ≡ Yields u after

  abbrev pub SeqSkips : Type 0
  SeqSkips = (before after : List Rule) (span : Span) (state : StateMap) (env : List Value)
      (next : List ℕ)
      → yields p pick (Seq (before ++ Skip ∷ after) span) state env next
      ≡ yields p pick (Seq (before ++ after) span) state env next

  -- ---- no order

  -- the rule yields a set, and takes no new member
  abbrev pub TakesNone : StateMap → List Value → List ℕ → Rule → Type 0
  TakesNone state env next r =
      (u : UpdateSet) × (yields p pick r state env next ≡ Yields u next)

  abbrev pub AnyOrderYields : Type 0
  AnyOrderYields = (parts others : List Rule) (span : Span) (state : StateMap)
      (env : List Value) (next : List ℕ) → IsPermutation parts others
      → AllByRecursion (TakesNone state env next) parts
      → yields p pick (Par parts span) state env next ≡ yields p pick
      (Par others span) state env next

-- the rule may yield the updates, with the new members in some order
pub record MayYield (p : Program) (start state : StateMap) (env : List Value) (r : Rule)
    (u : UpdateSet) (new : List Location) : Type 0 where
  pub members : List Location
  pub order : IsPermutation new members
  pub book : Book p start state env r u members

-- of the textbook's relation, without exception
abbrev pub AnyOrderOfTheBook : Program → Type 0
AnyOrderOfTheBook p =
    (start state : StateMap) (env : List Value) (parts others : List Rule) (span : Span)
    (u : UpdateSet) (new : List Location) → IsPermutation parts others
    → Book p start state env (Par parts span) u new
    → MayYield p start state env (Par others span) u new

-- ---- new members

-- the location of a member that the first state of the step hasn't
abbrev pub IsNewMember : StateMap → Location → Type 0
IsNewMember start l = (d : ℕ) × (i : ℕ) × (l ≡ member_location d i) × IsOutside start d i

abbrev pub NewMembersDiffer : Program → Type 0
NewMembersDiffer p =
    (start state : StateMap) (env : List Value) (r : Rule) (u : UpdateSet) (new : List Location)
    → Book p start state env r u new
    → AreDistinct new × AllByRecursion (IsNewMember start) new

-- of all locations of domains, the updates write just those of the new members, which become true
pub record AddsExactly (u : UpdateSet) (new : List Location) : Type 0 where
  pub members : (l : Location) → Mem l new → (d : ℕ) × (i : ℕ) × (l ≡ member_location d i)
  pub added : (l : Location) → Mem l new
      → set.has u (record { location = l; value = Truth true }) ≡ true
  pub no_others : (x : LocationUpdate) (d : ℕ) → set.has u x ≡ true
      → x.location.subject ≡ subjects.Domain d
      → Mem x.location new × (x.value ≡ Truth true)

abbrev pub NewMembersAreAdded : Program → Type 0
NewMembersAreAdded p =
    (start state : StateMap) (env : List Value) (r : Rule) (u : UpdateSet) (new : List Location)
    → Book p start state env r u new → AddsExactly u new

-- ---- truth

-- undef, numbers and all other values aren't true
abbrev pub OnlyTruthIsTrue : Type 0
OnlyTruthIsTrue = (value : Value) → (is_true value ≡ true) ↔ (value ≡ Truth true)
