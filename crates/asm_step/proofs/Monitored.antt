-- Marks of monitored functions, and what stays where no function is monitored.
use Rattle.std.proofs.Common.{◌≡◌, ℕ, zero, suc, Bool, true, false, not, cond, ◌||◌, List, [], ◌∷◌, map, Option, Some, None, slice_get, option_map, unwrap_or, refl, sym, ap, ◌∙◌}
use Rattle.std.specs.List.{list_any}
use Rattle.std.specs.Option.{option_map_or}
use Rattle.std.specs.FinMap as finite
use Rattle.std.proofs.lemmas.Option.{slice_get-map}
use Rattle.asm_value.specs.declared.location.Location.{Location}
use Rattle.asm_value.specs.declared.location.Subject.{Subject}
use Rattle.asm_value.specs.declared.location.Subject.TheVariants.{Function, Domain}
use Rattle.asm_value.specs.declared.location.Update.{Update}
use Rattle.asm_value.specs.State.{StateMap}
use Rattle.asm_value.proofs.StateLaws.{same_state}
use Rattle.asm_program.specs.declared.program.FunctionInfo.{FunctionInfo}
use Rattle.asm_program.specs.declared.program.Program.{Program}
use Rattle.asm_state.specs.Functions.{is_marked}
use Rattle.asm_board.specs.Kinds.{is_monitored, is_monitored_subject}
use Rattle.asm_board.specs.Stepping.{with_inputs}

-- the environment gives the function its values
abbrev pub monitors : FunctionInfo → Bool
monitors info = is_monitored info.kind

-- ---- marks

unwrapped : {A : Type 0} (test : A → Bool) (o : Option A)
    → unwrap_or (option_map test o) false ≡ option_map_or test o false
unwrapped test None = refl
unwrapped test (Some x) = refl

marks_are : (p : Program) (s : Subject)
    → is_marked (map monitors p.functions) s ≡ is_monitored_subject p s
marks_are p (Function f) =
    ap (λ o. unwrap_or o false) (slice_get-map monitors p.functions f)
    ∙ unwrapped monitors (slice_get p.functions f)
marks_are p (Domain d) = refl

-- what isn't marked is what isn't monitored
pub kept_by_marks : (p : Program) (state : StateMap) (marks : List Bool) → marks ≡ map monitors p.functions
    → finite.retain_keys state (λ l. not (is_marked marks l.subject))
    ≡ finite.retain_keys state (λ l. not (is_monitored_subject p l.subject))
kept_by_marks p state marks are =
    ap (λ ms. finite.retain_keys state (λ (l : Location). not (is_marked ms l.subject))) are
    ∙ (λ i. finite.retain_keys state (λ (l : Location). not (marks_are p l.subject i)))

-- ---- no function is monitored

none_first : (a b : Bool) → (a || b) ≡ false → a ≡ false
none_first true b none = none
none_first false b none = refl

none_later : (a b : Bool) → (a || b) ≡ false → b ≡ false
none_later true b none = absurd (cc (none))
none_later false b none = none

none_at : {A : Type 0} (test : A → Bool) (xs : List A) (i : ℕ) → list_any test xs ≡ false
    → option_map_or test (slice_get xs i) false ≡ false
none_at test [] i none = refl
none_at test (x ∷ xs) zero none = none_first (test x) (list_any test xs) none
none_at test (x ∷ xs) (suc i) none = none_at test xs i (none_later (test x) (list_any test xs) none)

not_monitored : (p : Program) → list_any monitors p.functions ≡ false → (s : Subject)
    → is_monitored_subject p s ≡ false
not_monitored p none (Function f) = none_at monitors p.functions f none
not_monitored p none (Domain d) = refl

-- a test that every key passes leaves the map as it is
all_kept : (state : StateMap) (test : Location → Bool) → ((l : Location) → test l ≡ true)
    → finite.retain_keys state test ≡ state
all_kept state test all = same_state _ _ (λ l.
    finite.get-retain_keys state test l (λ m _. all m ∙ sym (all l))
    ∙ ap (λ b. cond b (finite.get state l) None) (all l))

pub nothing_changes : (p : Program) (inputs : List Update) → inputs ≡ []
    → list_any monitors p.functions ≡ false → (state : StateMap) → with_inputs p state inputs ≡ state
nothing_changes p inputs empty none state =
    ap (with_inputs p state) empty
    ∙ all_kept state (λ l. not (is_monitored_subject p l.subject))
    (λ l. ap not (not_monitored p none l.subject))
