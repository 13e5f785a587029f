-- Combinations that are found one after another.
use Rattle.std.proofs.Common.{◌≡◌, ℕ, ◌+◌, ◌<◌, Bool, true, false, cond, Option, Some, None, slice_get, List, [], ◌∷◌, ◌++◌, drop, length, get_or, refl, sym, ap, ◌∙◌, append_assoc}
use Rattle.std.specs.Option.{option_map_or}
use Rattle.std.proofs.lemmas.List.{drop_more}
use Rattle.asm_value.specs.declared.value.Value.{Value}
use Rattle.asm_value.specs.Living.{is_true}
use Rattle.asm_program.specs.declared.outcome.Fault.{Fault}
use Rattle.asm_program.specs.declared.outcome.Outcome.{Outcome}
use Rattle.asm_program.specs.declared.outcome.Outcome.TheVariants as outcome
use Rattle.asm_program.specs.Yields.{Yielded, Stops, Satisfying, Found, Faulted, add_found, then_found, satisfying, on_found, picked, choice}
use Rattle.asm_rules.specs.declared.guards.Guard.{Guard}
use Rattle.asm_rules.specs.declared.guards.Guard.TheVariants.{Holds, Fails, Fault as Faults}
use Rattle.asm_rules.specs.Outcomes.{judged, found_before}

pub found_before-none : (s : Satisfying) → found_before [] s ≡ s
found_before-none (Found cs) = refl
found_before-none (Faulted e) = refl

said : Bool → Guard
said b = cond b Holds Fails

pub true_by : (b : Bool) → Holds ≡ cond b Holds Fails → b ≡ true
true_by true h = refl
true_by false h = absurd (cc)

pub false_by : (b : Bool) → Fails ≡ cond b Holds Fails → b ≡ false
false_by true h = absurd (cc)
false_by false h = refl

pub no_fault : (b : Bool) (e : Fault) → Faults e ≡ cond b Holds Fails → ⊥
no_fault true e h = cc
no_fault false e h = cc

one_more : (found : List (List Value)) (c : List Value) (b : Bool) (rest : Satisfying) (v : Value) → is_true v ≡ true
    → found_before found (add_found v c rest) ≡ found_before (found ++ c ∷ []) rest
one_more found c b (Found cs) v h =
    ap (λ t. Found (found ++ cond t (c ∷ cs) cs)) h ∙ ap Found (sym (append_assoc found (c ∷ []) cs))
one_more found c b (Faulted e) v h = refl

none_more : (c : List Value) (rest : Satisfying) (v : Value) → is_true v ≡ false → add_found v c rest ≡ rest
none_more c (Found cs) v h = ap (λ t. Found (cond t (c ∷ cs) cs)) h
none_more c (Faulted e) v h = refl

pub then_holds : (o : Outcome) (found : List (List Value)) (c : List Value) (rest : Satisfying) → Holds ≡ judged o
    → found_before found (then_found o c rest) ≡ found_before (found ++ c ∷ []) rest
then_holds (outcome.Value v) found c rest h = one_more found c true rest v (true_by (is_true v) h)
then_holds (outcome.Fault e) found c rest h = absurd (cc)

pub then_fails : (o : Outcome) (c : List Value) (rest : Satisfying) → Fails ≡ judged o → then_found o c rest ≡ rest
then_fails (outcome.Value v) c rest h = none_more c rest v (false_by (is_true v) h)
then_fails (outcome.Fault e) c rest h = absurd (cc)

pub then_faults : (o : Outcome) (c : List Value) (rest : Satisfying) (e : Fault) → Faults e ≡ judged o
    → then_found o c rest ≡ Faulted e
then_faults (outcome.Value v) c rest e h = absurd (no_fault (is_true v) e h)
then_faults (outcome.Fault f) c rest e h = let is : f ≡ e = cc in ap Faulted is

-- one more combination
pub satisfying-drop : (g : List Value → Outcome) (cs : List (List Value)) (i : ℕ) (d : List Value) → i < length cs
    → satisfying g (drop i cs) ≡ then_found (g (get_or cs i d)) (get_or cs i d) (satisfying g (drop (i + 1) cs))
satisfying-drop g cs i d h = ap (satisfying g) (drop_more cs i d h)

-- one combination is taken
pub taken_is : (pick : Option ℕ) (place : ℕ) (body : List Value → Yielded) (other : Yielded) (s : Satisfying) (cs : List (List Value)) (c : List Value)
    → Found cs ≡ s → slice_get cs (picked pick place (length cs)) ≡ Some c
    → on_found s (choice pick place body other) ≡ body c
taken_is pick place body other s cs c e h =
    ap (λ t. on_found t (choice pick place body other)) (sym e) ∙ ap (λ o. option_map_or body o other) h

-- there is none to take
pub taken_none : (pick : Option ℕ) (place : ℕ) (body : List Value → Yielded) (other : Yielded) (s : Satisfying) (cs : List (List Value))
    → Found cs ≡ s → slice_get cs (picked pick place (length cs)) ≡ None
    → on_found s (choice pick place body other) ≡ other
taken_none pick place body other s cs e h =
    ap (λ t. on_found t (choice pick place body other)) (sym e) ∙ ap (λ o. option_map_or body o other) h

pub taken_faults : (pick : Option ℕ) (place : ℕ) (body : List Value → Yielded) (other : Yielded) (s : Satisfying) (e : Fault)
    → Faulted e ≡ s → on_found s (choice pick place body other) ≡ Stops e
taken_faults pick place body other s e is = ap (λ t. on_found t (choice pick place body other)) (sym is)

pub ruleset found_steps = (then_holds, then_fails, then_faults)

pub ruleset choice_steps = (found_before-none)
