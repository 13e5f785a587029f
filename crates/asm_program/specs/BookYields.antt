-- What the textbook's rules yield (Börger and Stärk, Abstract State Machines, 2003, section 2.4.4):
-- a relation, by its derivations. It knows no faults, no pick and no indexes of next members.
-- `switch`, `ifnone`, macro calls with values and `extend`, which takes its members outside the
-- state in which the step begins, are this language's own.
use Rattle.std.specs.Prelude.{◌≡◌, ℕ, ◌<◌, ◌≤◌, true, false, Option, Some, None, List, [], ◌∷◌}
use Rattle.std.specs.Prelude.{◌++◌, length, map, slice_index}
use Rattle.std.specs.List.{AllByRecursion}
use Rattle.asm_value.specs.declared.value.Value.{Value}
use Rattle.asm_value.specs.declared.domain.Domain.{Domain}
use Rattle.asm_value.specs.declared.location.Location.{Location}
use Rattle.asm_value.specs.Ranges.{Mem}
use Rattle.asm_value.specs.Living.{is_true, member_location, HasMember}
use Rattle.asm_value.specs.State.{StateMap, IsConsistent, fire, overlaid}
use Rattle.asm_value.specs.UpdateSet as set
use Rattle.asm_value.specs.UpdateSet.{UpdateSet}
use Rattle.asm_syntax.specs.declared.token.Span.{Span}
use Rattle.asm_program.specs.declared.outcome.Outcome.TheVariants as outcome
use Rattle.asm_program.specs.declared.outcome.Parts.TheVariants as parts
use Rattle.asm_program.specs.declared.trees.Term.{Term}
use Rattle.asm_program.specs.declared.trees.Rule.{Rule}
use Rattle.asm_program.specs.declared.trees.Rule.TheOpen.{Rule-F}
use Rattle.asm_program.specs.declared.trees.Rule.TheViews.{out-Rule, out-RuleCase}
use Rattle.asm_program.specs.declared.trees.RuleCase.{RuleCase}
use Rattle.asm_program.specs.declared.program.Program.{Program}
use Rattle.asm_program.specs.Forms.{rule_of}
use Rattle.asm_program.specs.Members.{combinations}
use Rattle.asm_program.specs.Meaning.{eval, all_of, is_same, location_of}
use Rattle.asm_program.specs.Yields.{Yields, guard_of, new_members, memberships, yields, counts_in}
use Rattle.asm_program.specs.Yields.{main_yields}

-- ---- words

-- nothing is in both
abbrev pub AreDisjoint : List Location → List Location → Type 0
AreDisjoint ms ns = (l : Location) → Mem l ms → Mem l ns → ⊥

-- no two of them are the same
abbrev pub AreDistinct : {X : Type 0} → List X → Type 0
AreDistinct [] = Unit {0}
AreDistinct (x ∷ xs) = (Mem x xs → ⊥) × AreDistinct xs

-- a member that a domain may have, and that the state hasn't
abbrev pub IsOutside : StateMap → ℕ → ℕ → Type 0
IsOutside start d i = (i < 256) × (HasMember start d i → ⊥)

-- whose locations become true
abbrev pub member_locations : ℕ → List ℕ → List Location
member_locations d indexes = map (member_location d) indexes

module _ (p : Program) (state : StateMap) where
  -- the term has this value
  abbrev pub Gives : List Value → Term → Value → Type 0
  Gives env t v = eval p state t env ≡ outcome.Value v

  -- the terms have these values
  abbrev pub GiveAll : List Value → List Term → List Value → Type 0
  GiveAll env ts vs = all_of (map (eval p state) ts) env ≡ parts.Values vs

  -- the guard has this value, `true` where there is none
  abbrev pub GuardGives : Option Term → List Value → Value → Type 0
  GuardGives guard env v = guard_of p state guard env ≡ outcome.Value v

  -- the terms are bound one after another, and a later one sees the earlier values
  abbrev pub Binds : List Term → List Value → List Value → Type 0
  Binds [] env inner = env ≡ inner
  Binds (t ∷ ts) env inner = (v : Value) × Gives env t v × Binds ts (env ++ v ∷ []) inner

-- ---- rules

module _ (p : Program) (start : StateMap) where
  mutual
    -- In a state, with these values of variables, the rule may yield these updates and take these
    -- new members, the step having begun in `start`.
    pub data Book : StateMap → List Value → Rule → UpdateSet → List Location → Type 0 where
      skips : {state : StateMap} {env : List Value} {r : Rule}
          → out-Rule r ≡ Rule-F.Skip
          → Book state env r set.empty []
      -- the body of a macro rule sees the values of its parameters alone
      calls : {state : StateMap} {env : List Value} {r : Rule} {m : ℕ} {args : List Term}
          {vs : List Value} {body : Rule} {u : UpdateSet} {new : List Location}
          → out-Rule r ≡ Rule-F.Call m args
          → GiveAll p state env args vs
          → rule_of p.macros m ≡ Some body
          → Book state vs body u new
          → Book state env r u new
      -- a number that no macro rule has, which no typed program calls
      calls_none : {state : StateMap} {env : List Value} {r : Rule} {m : ℕ} {args : List Term}
          {vs : List Value}
          → out-Rule r ≡ Rule-F.Call m args
          → GiveAll p state env args vs
          → rule_of p.macros m ≡ None
          → Book state env r set.empty []
      updates : {state : StateMap} {env : List Value} {r : Rule} {f : ℕ} {args : List Term}
          {value : Term} {span : Span} {vs : List Value} {v : Value}
          → out-Rule r ≡ Rule-F.Update f args value span
          → GiveAll p state env args vs
          → Gives p state env value v
          → Book state env r
          (set.add set.empty (record { location = location_of f vs; value = v })) []
      pars : {state : StateMap} {env : List Value} {r : Rule} {rules : List Rule} {span : Span}
          {u : UpdateSet} {new : List Location}
          → out-Rule r ≡ Rule-F.Par rules span
          → BookAll state env rules u new
          → Book state env r u new
      seqs : {state : StateMap} {env : List Value} {r : Rule} {rules : List Rule} {span : Span}
          {u : UpdateSet} {new : List Location}
          → out-Rule r ≡ Rule-F.Seq rules span
          → BookInTurn state env set.empty rules u new
          → Book state env r u new
      thens : {state : StateMap} {env : List Value} {r first : Rule} {other : Option Rule}
          {guard : Term} {v : Value} {u : UpdateSet} {new : List Location}
          → out-Rule r ≡ Rule-F.If guard first other
          → Gives p state env guard v
          → is_true v ≡ true
          → Book state env first u new
          → Book state env r u new
      elses : {state : StateMap} {env : List Value} {r first : Rule} {other : Option Rule}
          {guard : Term} {v : Value} {u : UpdateSet} {new : List Location}
          → out-Rule r ≡ Rule-F.If guard first other
          → Gives p state env guard v
          → is_true v ≡ false
          → BookElse state env other u new
          → Book state env r u new
      foralls : {state : StateMap} {env : List Value} {r body : Rule} {ranges : List Domain}
          {guard : Option Term} {span : Span} {u : UpdateSet} {new : List Location}
          → out-Rule r ≡ Rule-F.Forall ranges guard body span
          → BookEach state env guard body (combinations p.domains state ranges) u new
          → Book state env r u new
      -- any combination at which the guard is true
      chooses : {state : StateMap} {env : List Value} {r body : Rule} {other : Option Rule}
          {ranges : List Domain} {guard : Option Term} {place : ℕ} {w : Value}
          {u : UpdateSet} {new : List Location}
          → out-Rule r ≡ Rule-F.Choose ranges guard body other place
          → (c : List Value)
          → Mem c (combinations p.domains state ranges)
          → GuardGives p state guard (env ++ c) w
          → is_true w ≡ true
          → Book state (env ++ c) body u new
          → Book state env r u new
      -- the guard has a value at each, and is true at none
      chooses_none : {state : StateMap} {env : List Value} {r body : Rule} {other : Option Rule}
          {ranges : List Domain} {guard : Option Term} {place : ℕ}
          {u : UpdateSet} {new : List Location}
          → out-Rule r ≡ Rule-F.Choose ranges guard body other place
          → ((c : List Value) → Mem c (combinations p.domains state ranges)
          → (w : Value) × GuardGives p state guard (env ++ c) w × (is_true w ≡ false))
          → BookElse state env other u new
          → Book state env r u new
      lets : {state : StateMap} {env inner : List Value} {r body : Rule} {values : List Term}
          {u : UpdateSet} {new : List Location}
          → out-Rule r ≡ Rule-F.Let values body
          → Binds p state values env inner
          → Book state inner body u new
          → Book state env r u new
      switches : {state : StateMap} {env : List Value} {r : Rule} {value : Term}
          {cases : List RuleCase} {other : Option Rule} {v : Value}
          {u : UpdateSet} {new : List Location}
          → out-Rule r ≡ Rule-F.Switch value cases other
          → Gives p state env value v
          → BookCases state env v cases other u new
          → Book state env r u new
      -- any members that the step's first state hasn't, and that the body doesn't take too
      extends : {state : StateMap} {env : List Value} {r body : Rule} {d count : ℕ} {span : Span}
          {u : UpdateSet} {new : List Location}
          → out-Rule r ≡ Rule-F.Extend d count body span
          → (indexes : List ℕ)
          → length indexes ≡ count
          → AllByRecursion (IsOutside start d) indexes
          → AreDistinct (member_locations d indexes)
          → Book state (env ++ new_members d indexes) body u new
          → AreDisjoint (member_locations d indexes) new
          → Book state env r (set.union (memberships d indexes) u)
          (member_locations d indexes ++ new)

    -- the rules side by side
    pub data BookAll : StateMap → List Value → List Rule → UpdateSet → List Location → Type 0 where
      no_rule : {state : StateMap} {env : List Value} → BookAll state env [] set.empty []
      one_rule : {state : StateMap} {env : List Value} {r : Rule} {rules : List Rule}
          {u v : UpdateSet} {new more : List Location}
          → Book state env r u new
          → BookAll state env rules v more
          → AreDisjoint new more
          → BookAll state env (r ∷ rules) (set.union u v) (new ++ more)

    -- The rules one after the other, each in the state that the updates so far lead to. Where these
    -- clash, no further rule is looked at.
    pub data BookInTurn : StateMap → List Value → UpdateSet → List Rule → UpdateSet → List Location
        → Type 0 where
      none_left : {state : StateMap} {env : List Value} {u : UpdateSet}
          → BookInTurn state env u [] u []
      clash : {state : StateMap} {env : List Value} {u : UpdateSet} {rules : List Rule}
          → (IsConsistent u → ⊥)
          → BookInTurn state env u rules u []
      in_turn : {state : StateMap} {env : List Value} {u v w : UpdateSet} {r : Rule}
          {rules : List Rule} {new more : List Location}
          → IsConsistent u
          → Book (fire state u) env r v new
          → BookInTurn state env (overlaid u v) rules w more
          → AreDisjoint new more
          → BookInTurn state env u (r ∷ rules) w (new ++ more)

    -- the rule where there is one, else nothing
    pub data BookElse : StateMap → List Value → Option Rule → UpdateSet → List Location → Type 0
      where
        no_other : {state : StateMap} {env : List Value} → BookElse state env None set.empty []
        the_other : {state : StateMap} {env : List Value} {r : Rule}
            {u : UpdateSet} {new : List Location}
            → Book state env r u new
            → BookElse state env (Some r) u new

    -- the body at each of the combinations at which the guard is true
    pub data BookEach : StateMap → List Value → Option Term → Rule → List (List Value) → UpdateSet
        → List Location → Type 0 where
      no_combination : {state : StateMap} {env : List Value} {guard : Option Term} {body : Rule}
          → BookEach state env guard body [] set.empty []
      passed_over : {state : StateMap} {env : List Value} {guard : Option Term} {body : Rule}
          {c : List Value} {cs : List (List Value)} {w : Value}
          {u : UpdateSet} {new : List Location}
          → GuardGives p state guard (env ++ c) w
          → is_true w ≡ false
          → BookEach state env guard body cs u new
          → BookEach state env guard body (c ∷ cs) u new
      one_combination : {state : StateMap} {env : List Value} {guard : Option Term} {body : Rule}
          {c : List Value} {cs : List (List Value)} {w : Value}
          {u v : UpdateSet} {new more : List Location}
          → GuardGives p state guard (env ++ c) w
          → is_true w ≡ true
          → Book state (env ++ c) body u new
          → BookEach state env guard body cs v more
          → AreDisjoint new more
          → BookEach state env guard body (c ∷ cs) (set.union u v) (new ++ more)

    -- the rule of the first case with this value, else the other rule
    pub data BookCases : StateMap → List Value → Value → List RuleCase → Option Rule → UpdateSet
        → List Location → Type 0 where
      no_case : {state : StateMap} {env : List Value} {v : Value} {other : Option Rule}
          {u : UpdateSet} {new : List Location}
          → BookElse state env other u new
          → BookCases state env v [] other u new
      this_case : {state : StateMap} {env : List Value} {v w : Value} {c : RuleCase}
          {cases : List RuleCase} {other : Option Rule} {u : UpdateSet} {new : List Location}
          → Gives p state env (out-RuleCase c).value w
          → is_same v w ≡ true
          → Book state env (out-RuleCase c).rule u new
          → BookCases state env v (c ∷ cases) other u new
      a_later_case : {state : StateMap} {env : List Value} {v w : Value} {c : RuleCase}
          {cases : List RuleCase} {other : Option Rule} {u : UpdateSet} {new : List Location}
          → Gives p state env (out-RuleCase c).value w
          → is_same v w ≡ false
          → BookCases state env v cases other u new
          → BookCases state env v (c ∷ cases) other u new

-- ---- new members by their indexes

-- each member that the state has is below the next index of its domain
abbrev pub AreBelow : StateMap → List ℕ → Type 0
AreBelow state next = (d i : ℕ) → HasMember state d i → i < slice_index next d

-- no index falls
abbrev pub Rises : List ℕ → List ℕ → Type 0
Rises next after = (d : ℕ) → slice_index next d ≤ slice_index after d

-- the location of a member with an index from one list on, below the other
abbrev pub IsBetween : List ℕ → List ℕ → Location → Type 0
IsBetween next after l =
    (d : ℕ) × (i : ℕ) × (l ≡ member_location d i)
    × (slice_index next d ≤ i) × (i < slice_index after d)

-- these are the locations of the members with indexes from one list on, below the other
pub record AreNumbered (new : List Location) (next after : List ℕ) : Type 0 where
  pub rises : Rises next after
  pub between : (l : Location) → Mem l new → IsBetween next after l
  pub complete : (d i : ℕ) → slice_index next d ≤ i → i < slice_index after d
      → Mem (member_location d i) new

-- the updates are one of the textbook's sets, with the new members of these indexes
pub record IsOfTheBook (p : Program) (start state : StateMap) (env : List Value) (r : Rule)
    (u : UpdateSet) (next after : List ℕ) : Type 0 where
  pub new : List Location
  pub book : Book p start state env r u new
  pub numbered : AreNumbered new next after

-- What a rule yields, from next indexes above the members of the step's first state, is of the
-- book.
abbrev pub YieldsAreOfTheBook : Program → Type 0
YieldsAreOfTheBook p =
    (pick : Option ℕ) (r : Rule) (start state : StateMap) (env : List Value) (next after : List ℕ)
    (u : UpdateSet) → AreBelow start next → yields p pick r state env next ≡ Yields u after
    → IsOfTheBook p start state env r u next after

-- What a step yields is of the book, where the members of each domain have the indexes from 0 on.
abbrev pub StepsAreOfTheBook : Program → Type 0
StepsAreOfTheBook p =
    (pick : Option ℕ) (state : StateMap) (u : UpdateSet) (after : List ℕ)
    → AreBelow state (counts_in p state) → main_yields p state pick ≡ Yields u after
    → IsOfTheBook p state state [] p.main u (counts_in p state) after
