-- What a term gives in a state (Börger and Stärk, Abstract State Machines, section 2.4.2, in this
-- language's own forms).
use Rattle.std.specs.Prelude.{ℕ, Bool, true, false, ◌&&◌, if◌then◌else◌, Option, Some, None, List, [], ◌∷◌, ◌++◌, map, slice_get, unwrap_or}
use Rattle.std.specs.Option.{option_map_or}
use Rattle.std.specs.Ordering.{eq_by_cmp}
use Rattle.asm_value.specs.declared.value.Value.{Value}
use Rattle.asm_value.specs.declared.value.Value.TheVariants.{Undef, Truth}
use Rattle.asm_value.specs.declared.domain.Domain.{Domain}
use Rattle.asm_value.specs.declared.location.Location.{Location}
use Rattle.asm_value.specs.declared.location.Subject.TheVariants as subjects
use Rattle.asm_value.specs.Value.{compare, as_truth}
use Rattle.asm_value.specs.Domain.{fits, each_passes}
use Rattle.asm_value.specs.Living.{is_true}
use Rattle.asm_value.specs.State.{StateMap, value_at}
use Rattle.asm_syntax.specs.declared.token.Span.{Span}
use Rattle.asm_operations.specs.declared.applied.Applied.{Applied}
use Rattle.asm_operations.specs.declared.applied.Applied.TheVariants as applied
use Rattle.asm_operations.specs.Operations.{apply, tuple_of, sequence_of, set_of, interval_of}
use Rattle.asm_program.specs.declared.outcome.FaultKind.TheVariants.{Overflow, ValueTooLarge}
use Rattle.asm_program.specs.declared.outcome.Outcome.{Outcome}
use Rattle.asm_program.specs.declared.outcome.Outcome.TheVariants.{Value as Gives, Fault as Faults}
use Rattle.asm_program.specs.declared.outcome.Parts.{Parts}
use Rattle.asm_program.specs.declared.outcome.Parts.TheVariants.{Values, Fault as Stops}
use Rattle.asm_program.specs.declared.trees.Term.{Term}
use Rattle.asm_program.specs.declared.trees.Term.TheOpen.{Term-F}
use Rattle.asm_program.specs.declared.program.FunctionInfo.{FunctionInfo}
use Rattle.asm_program.specs.declared.program.Program.{Program}
use Rattle.asm_program.specs.Forms.{of_term, of_function}
use Rattle.asm_program.specs.Members.{combinations}

-- what a term gives, with the values of the variables in scope, the outermost first
abbrev pub Meaning : Type 0
Meaning = List Value → Outcome

-- ---- one part after another

-- goes on with the value; a fault is the outcome
abbrev pub on_value : Outcome → (Value → Outcome) → Outcome
on_value (Gives v) go = go v
on_value (Faults e) go = Faults e

abbrev pub add_value : Value → Parts → Parts
add_value v (Values vs) = Values (v ∷ vs)
add_value v (Stops e) = Stops e

abbrev pub then_parts : Outcome → Parts → Parts
then_parts (Gives v) rest = add_value v rest
then_parts (Faults e) rest = Stops e

-- the parts from left to right; the first fault is the outcome
abbrev pub all_of : List Meaning → List Value → Parts
all_of [] env = Values []
all_of (p ∷ ps) env = then_parts (p env) (all_of ps env)

abbrev pub on_parts : Parts → (List Value → Outcome) → Outcome
on_parts (Values vs) go = go vs
on_parts (Stops e) go = Faults e

-- binds one value after another; a later part sees the earlier values
abbrev pub bind_all : List Meaning → List Value → (List Value → Outcome) → Outcome
bind_all [] env go = go env
bind_all (p ∷ ps) env go = on_value (p env) (λ v. bind_all ps (env ++ v ∷ []) go)

-- ---- words

abbrev pub truth : Bool → Outcome
truth b = Gives (Truth b)

abbrev pub undefined : Outcome
undefined = Gives Undef

abbrev pub is_false : Value → Bool
is_false v = option_map_or (λ b. if b then false else true) (as_truth v) false

abbrev pub is_same : Value → Value → Bool
is_same v w = eq_by_cmp compare v w

-- what an operation gives at its place in the text
abbrev pub of_applied : Span → Applied → Outcome
of_applied span (applied.Value v) = Gives v
of_applied span applied.Overflow = Faults (record { kind = Overflow; span = span })
of_applied span applied.TooLarge = Faults (record { kind = ValueTooLarge; span = span })

-- `and` where the left side isn't false
abbrev pub conjunction : Value → Value → Outcome
conjunction v w =
    if is_false w then truth false
    else (if is_true v && is_true w then truth true else undefined)

-- `or` where the left side isn't true
abbrev pub disjunction : Value → Value → Outcome
disjunction v w =
    if is_true w then truth true
    else (if is_false v && is_false w then truth false else undefined)

-- `implies` where the left side isn't false
abbrev pub implication : Value → Value → Outcome
implication v w =
    if is_true w then truth true
    else (if is_true v && is_false w then truth false else undefined)

-- stops with false at the first that isn't true
abbrev pub for_all : List (List Value) → (List Value → Outcome) → Outcome
for_all [] body = truth true
for_all (c ∷ cs) body = on_value (body c) (λ v. if is_true v then for_all cs body else truth false)

-- stops with true at the first that is true
abbrev pub for_some : List (List Value) → (List Value → Outcome) → Outcome
for_some [] body = truth false
for_some (c ∷ cs) body = on_value (body c) (λ v. if is_true v then truth true else for_some cs body)

-- stops with false at the second that is true
abbrev pub for_one : Bool → List (List Value) → (List Value → Outcome) → Outcome
for_one found [] body = truth found
for_one found (c ∷ cs) body =
    on_value (body c) (λ v.
    if is_true v then (if found then truth false else for_one true cs body)
    else for_one found cs body)

abbrev pub otherwise : Option Meaning → Meaning
otherwise None env = undefined
otherwise (Some other) env = other env

-- the term of the first case with this value, cases being evaluated one by one
abbrev pub first_case : Value → List (Meaning × Meaning) → Option Meaning → Meaning
first_case v [] other env = otherwise other env
first_case v (c ∷ cs) other env =
    on_value (c.0 env) (λ w. if is_same v w then c.1 env else first_case v cs other env)

-- ---- functions of the state

-- the arguments are in these domains, each index counting as a member
abbrev pub args_fit : Program → List Domain → List Value → Bool
args_fit p args vs = each_passes (map (fits p.domains p.everyone) args) vs

abbrev pub function_takes : Program → ℕ → List Value → Bool
function_takes p f vs =
    option_map_or (λ info. args_fit p info.args vs) (slice_get p.functions f) false

abbrev pub location_of : ℕ → List Value → Location
location_of f vs = record { subject = subjects.Function f; args = vs }

-- the value of a function; undef where an argument isn't in its domain
abbrev pub read : Program → StateMap → ℕ → List Value → Value
read p state f vs =
    if function_takes p f vs then value_at state (location_of f vs) else Undef

-- ---- terms

-- what the functions that are defined by terms give for arguments
abbrev pub Calls : Type 0
Calls = ℕ → List Value → Outcome

module _ (p : Program) (state : StateMap) where
  abbrev pub over : List Domain → List (List Value)
  over ranges = combinations p.domains state ranges

  -- one level of a term, with the meaning of each part in its place
  abbrev pub eval_level : Calls → Term-F Meaning (Meaning × Meaning) → Meaning
  eval_level calls (Term-F.Operator None args span) env =
      on_parts (all_of args env) (λ vs. undefined)
  eval_level calls (Term-F.Operator (Some operation) args span) env =
      on_parts (all_of args env) (λ vs. of_applied span (apply operation vs))
  eval_level calls (Term-F.And left right) env =
      on_value (left env) (λ v.
      if is_false v then truth false else on_value (right env) (conjunction v))
  eval_level calls (Term-F.Or left right) env =
      on_value (left env) (λ v.
      if is_true v then truth true else on_value (right env) (disjunction v))
  eval_level calls (Term-F.Implies left right) env =
      on_value (left env) (λ v.
      if is_false v then truth true else on_value (right env) (implication v))
  eval_level calls (Term-F.Constant v) env = Gives v
  eval_level calls (Term-F.Variable i) env = Gives (unwrap_or (slice_get env i) Undef)
  eval_level calls (Term-F.Read f args) env =
      on_parts (all_of args env) (λ vs. Gives (read p state f vs))
  eval_level calls (Term-F.Call f args) env = on_parts (all_of args env) (calls f)
  eval_level calls (Term-F.Tuple items span) env =
      on_parts (all_of items env) (λ vs. of_applied span (tuple_of vs))
  eval_level calls (Term-F.Forall ranges body) env = for_all (over ranges) (λ c. body (env ++ c))
  eval_level calls (Term-F.Exist ranges body) env = for_some (over ranges) (λ c. body (env ++ c))
  eval_level calls (Term-F.ExistUnique ranges body) env =
      for_one false (over ranges) (λ c. body (env ++ c))
  eval_level calls (Term-F.Interval from to span) env =
      on_value (from env) (λ v. on_value (to env) (λ w. of_applied span (interval_of v w)))
  eval_level calls (Term-F.Set items span) env =
      on_parts (all_of items env) (λ vs. of_applied span (set_of vs))
  eval_level calls (Term-F.Seq items span) env =
      on_parts (all_of items env) (λ vs. of_applied span (sequence_of vs))
  eval_level calls (Term-F.If guard first other) env =
      on_value (guard env) (λ v. if is_true v then first env else otherwise other env)
  eval_level calls (Term-F.Let values body) env = bind_all values env body
  eval_level calls (Term-F.Switch value cases other) env =
      on_value (value env) (λ v. first_case v cases other env)

  -- what the functions give where calls are followed n deep
  abbrev pub values : ℕ → Calls
  values = of_function eval_level (λ vs. undefined) p.functions

  -- The meaning of a term. No function reaches itself, so with at most 256 functions no call is
  -- deeper.
  abbrev pub eval : Term → Meaning
  eval = of_term eval_level (values 512)
