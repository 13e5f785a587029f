-- What a rule yields in a state: updates (Börger and Stärk, Abstract State Machines, section 2.4.4),
-- and the indexes of the next new members. Faults, the pick of a choice, `ifnone`, `switch`, macro
-- calls and `extend` are this language's own.
use Rattle.std.specs.Prelude.{ℕ, ◌+◌, ◌%◌, Bool, true, false, not, ◌||◌, ◌&&◌, if◌then◌else◌, Option, Some, None, List, [], ◌∷◌, ◌++◌, length, map, slice_get, slice_set, slice_index, nat_lt, nat_le}
use Rattle.std.specs.Option.{option_map_or}
use Rattle.std.specs.List.{list_any, range_with_len}
use Rattle.std.specs.Ordering.{eq_by_cmp}
use Rattle.asm_value.specs.declared.value.Value.{Value}
use Rattle.asm_value.specs.declared.value.Value.TheVariants.{Truth, Member}
use Rattle.asm_value.specs.declared.location.Update.{Update}
use Rattle.asm_value.specs.Location.{location_cmp, update_cmp}
use Rattle.asm_value.specs.Living.{is_true, member_location, live_of}
use Rattle.asm_value.specs.State.{StateMap, is_undef, fire, overlaid, set_weight}
use Rattle.asm_value.specs.UpdateSet as set
use Rattle.asm_value.specs.UpdateSet.{UpdateSet}
use Rattle.asm_syntax.specs.declared.token.Span.{Span}
use Rattle.asm_program.specs.declared.outcome.Fault.{Fault}
use Rattle.asm_program.specs.declared.outcome.FaultKind.{FaultKind}
use Rattle.asm_program.specs.declared.outcome.FaultKind.TheVariants as kind
use Rattle.asm_program.specs.declared.outcome.Outcome.{Outcome}
use Rattle.asm_program.specs.declared.outcome.Outcome.TheVariants as outcome
use Rattle.asm_program.specs.declared.outcome.Parts.{Parts}
use Rattle.asm_program.specs.declared.outcome.Parts.TheVariants as parts
use Rattle.asm_program.specs.declared.trees.Term.{Term}
use Rattle.asm_program.specs.declared.trees.Rule.{Rule}
use Rattle.asm_program.specs.declared.trees.Rule.TheOpen.{Rule-F}
use Rattle.asm_program.specs.declared.program.Program.{Program}
use Rattle.asm_program.specs.Forms.{of_rule, of_macro}
use Rattle.asm_program.specs.Members.{combinations}
use Rattle.asm_program.specs.Meaning.{eval, all_of, is_same, function_takes, location_of}
use Rattle.asm_program.specs.Initial.{in_codomain}

-- an update set with the index of each domain's next new member, or a fault
pub data Yielded : Type 0 where
  Yields : (updates : UpdateSet) (next : List ℕ) → Yielded
  Stops : (fault : Fault) → Yielded

-- a rule in a state, with the values of the variables in scope and the indexes of the next members
abbrev pub RuleMeaning : Type 0
RuleMeaning = StateMap → List Value → List ℕ → Yielded

-- ---- one part after another

abbrev pub on_set : Yielded → (UpdateSet → List ℕ → Yielded) → Yielded
on_set (Yields updates next) go = go updates next
on_set (Stops fault) go = Stops fault

abbrev pub on_term : Outcome → (Value → Yielded) → Yielded
on_term (outcome.Value v) go = go v
on_term (outcome.Fault e) go = Stops e

abbrev pub on_terms : Parts → (List Value → Yielded) → Yielded
on_terms (parts.Values vs) go = go vs
on_terms (parts.Fault e) go = Stops e

abbrev pub nothing : List ℕ → Yielded
nothing next = Yields set.empty next

abbrev pub stop : FaultKind → Span → Yielded
stop kind span = Stops (record { kind = kind; span = span })

-- the set, unless it is too heavy
abbrev pub limited : Span → UpdateSet → List ℕ → Yielded
limited span updates next =
    if nat_le (set_weight updates) 131072 then Yields updates next
    else stop kind.UpdatesTooLarge span

-- ---- updates

-- the one update, after the tests of its arguments and of its value
abbrev pub update_of : Program → ℕ → Span → List Value → Value → List ℕ → Yielded
update_of p f span args v next =
    if not (function_takes p f args) then stop kind.OutOfDomain span
    else (if is_undef v || in_codomain p f v
    then Yields (set.add set.empty (record { location = location_of f args; value = v })) next
    else stop kind.OutOfCodomain span)

-- ---- side by side, and one after the other

-- the union of what each yields, new members being handed on from left to right
abbrev pub union_of : Span → UpdateSet → List (List ℕ → Yielded) → List ℕ → Yielded
union_of span sofar [] next = Yields sofar next
union_of span sofar (r ∷ rs) next =
    on_set (r next) (λ updates later.
    on_set (limited span (set.union sofar updates) later) (λ all after. union_of span all rs after))

-- some location has two values
abbrev pub clashes : UpdateSet → Bool
clashes updates =
    list_any (λ u. list_any (λ v.
    eq_by_cmp location_cmp u.location v.location && not (eq_by_cmp update_cmp u v))
    (set.items updates)) (set.items updates)

-- each part in the state that the updates so far lead to, unless these clash
abbrev pub one_by_one : Span → UpdateSet → List RuleMeaning → RuleMeaning
one_by_one span sofar [] state env next = Yields sofar next
one_by_one span sofar (r ∷ rs) state env next =
    if clashes sofar then Yields sofar next
    else on_set (r (fire state sofar) env next) (λ updates later.
    on_set (limited span (overlaid sofar updates) later) (λ all after.
    one_by_one span all rs state env after))

-- ---- combinations

-- the guard is true where there is none
abbrev pub guard_of : Program → StateMap → Option Term → List Value → Outcome
guard_of p state None env = outcome.Value (Truth true)
guard_of p state (Some guard) env = eval p state guard env

-- the body where the guard is true, else nothing
abbrev pub guarded : Outcome → (List ℕ → Yielded) → List ℕ → Yielded
guarded guard body next = on_term guard (λ v. if is_true v then body next else nothing next)

-- the combinations at which the guard is true, or the first fault
pub data Satisfying : Type 0 where
  Found : List (List Value) → Satisfying
  Faulted : Fault → Satisfying

abbrev pub add_found : Value → List Value → Satisfying → Satisfying
add_found v c (Found cs) = Found (if is_true v then c ∷ cs else cs)
add_found v c (Faulted e) = Faulted e

abbrev pub then_found : Outcome → List Value → Satisfying → Satisfying
then_found (outcome.Value v) c rest = add_found v c rest
then_found (outcome.Fault e) c rest = Faulted e

abbrev pub satisfying : (List Value → Outcome) → List (List Value) → Satisfying
satisfying guard [] = Found []
satisfying guard (c ∷ cs) = then_found (guard c) c (satisfying guard cs)

abbrev pub on_found : Satisfying → (List (List Value) → Yielded) → Yielded
on_found (Found cs) go = go cs
on_found (Faulted e) go = Stops e

-- of so many: the first without a pick, else number `(s + p) mod k`
abbrev pub picked : Option ℕ → ℕ → ℕ → ℕ
picked None place count = 0
picked (Some s) place count = (s + place) % count

abbrev pub otherwise : Option RuleMeaning → RuleMeaning
otherwise None state env next = nothing next
otherwise (Some other) state env next = other state env next

-- the one picked, or the other rule where there is none
abbrev pub choice : Option ℕ → ℕ → (List Value → Yielded) → Yielded → List (List Value) → Yielded
choice pick place body other cs =
    option_map_or body (slice_get cs (picked pick place (length cs))) other

-- ---- cases, variables, new members

abbrev pub first_case : Program → Value → List (Term × RuleMeaning) → Option RuleMeaning
    → RuleMeaning
first_case p v [] other state env next = otherwise other state env next
first_case p v (c ∷ cs) other state env next =
    on_term (eval p state c.0 env) (λ w.
    if is_same v w then c.1 state env next else first_case p v cs other state env next)

abbrev pub bind_all : (Term → List Value → Outcome) → List Term → List Value → (List Value
    → Yielded) → Yielded
bind_all gives [] env go = go env
bind_all gives (t ∷ ts) env go = on_term (gives t env) (λ v. bind_all gives ts (env ++ v ∷ []) go)

-- the members of a domain with these indexes
abbrev pub new_members : ℕ → List ℕ → List Value
new_members d indexes = map (λ i. Member d i) indexes

-- each of the members is in the domain from now on
abbrev pub memberships : ℕ → List ℕ → UpdateSet
memberships d indexes =
    set.add_all set.empty (map (λ i. record {
      location =
          member_location d i;
      value = Truth true;
    }) indexes)

-- the domain has room for so many members more: it has 256 at most, and none where the program
-- doesn't declare it
abbrev pub has_room : List ℕ → ℕ → ℕ → Bool
has_room next d count = nat_lt d (length next) && nat_le (slice_index next d + count) 256

-- the next members of the domain, and what the body yields with them
abbrev pub extended : ℕ → ℕ → Span → RuleMeaning → RuleMeaning
extended d count span body state env next =
    let indexes = range_with_len (slice_index next d) count in
    if not (has_room next d count) then stop kind.DomainFull span
    else on_set
    (body state (env ++ new_members d indexes) (slice_set next d (slice_index next d + count)))
    (λ updates later. limited span (set.union (memberships d indexes) updates) later)

-- ---- rules

-- what the macro rules yield with values for their parameters
abbrev pub RuleCalls : Type 0
RuleCalls = ℕ → RuleMeaning

module _ (p : Program) (pick : Option ℕ) where
  -- one level of a rule, with the meaning of each part in its place
  abbrev pub yields_level : RuleCalls → Rule-F RuleMeaning (Term × RuleMeaning) → RuleMeaning
  yields_level calls Rule-F.Skip state env next = nothing next
  yields_level calls (Rule-F.Call m args) state env next =
      on_terms (all_of (map (eval p state) args) env) (λ vs. calls m state vs next)
  yields_level calls (Rule-F.Update f args value span) state env next =
      on_terms (all_of (map (eval p state) args) env) (λ vs.
      on_term (eval p state value env) (λ v. update_of p f span vs v next))
  yields_level calls (Rule-F.Par rules span) state env next =
      union_of span set.empty (map (λ r. r state env) rules) next
  yields_level calls (Rule-F.Seq rules span) state env next =
      one_by_one span set.empty rules state env next
  yields_level calls (Rule-F.If guard first other) state env next =
      on_term (eval p state guard env) (λ v.
      if is_true v then first state env next else otherwise other state env next)
  yields_level calls (Rule-F.Forall ranges guard body span) state env next =
      union_of span set.empty
      (map (λ c. guarded (guard_of p state guard (env ++ c)) (body state (env ++ c)))
      (combinations p.domains state ranges))
      next
  yields_level calls (Rule-F.Choose ranges guard body other place) state env next =
      on_found
      (satisfying (λ c. guard_of p state guard (env ++ c)) (combinations p.domains state ranges))
      (choice pick place (λ c. body state (env ++ c) next) (otherwise other state env next))
  yields_level calls (Rule-F.Let values body) state env next =
      bind_all (eval p state) values env (λ inner. body state inner next)
  yields_level calls (Rule-F.Switch value cases other) state env next =
      on_term (eval p state value env) (λ v. first_case p v cases other state env next)
  yields_level calls (Rule-F.Extend d count body span) state env next =
      extended d count span body state env next

  -- what macro rules yield where calls are followed n deep
  unfoldable pub rule_values : ℕ → RuleCalls
  rule_values = of_macro yields_level (λ state vs next. nothing next) p.macros

  -- The meaning of a rule. No macro rule reaches itself, so with at most 256 of them no call is
  -- deeper.
  unfoldable pub yields : Rule → RuleMeaning
  yields = of_rule yields_level (rule_values 512)

-- the number of members that each declared domain has in a state
abbrev pub counts_in : Program → StateMap → List ℕ
counts_in p state = map length (live_of state p.domains).members

-- what a step of the program yields in a state
abbrev pub main_yields : Program → StateMap → Option ℕ → Yielded
main_yields p state pick = yields p pick p.main state [] (counts_in p state)
