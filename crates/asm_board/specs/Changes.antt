-- What each change comes to at the models of its footprint: its refusals in their order, or its Ok
-- tree and the new contents.
use Rattle.std.specs.Prelude.{ℕ, ◌+◌, ◌^◌, min, Bool, true, false, not, ◌&&◌, ◌||◌, ◌==◌, nat_lt, nat_le, length, List, [], ◌∷◌, ◌++◌, filter, find, sum_by, Option, Some, None, is_none, option_map, map, codes, Result, Ok, Err}
use Rattle.std.specs.List.{list_all, list_any, last_or}
use Rattle.std.specs.Str.{bytes_eq}
use Rattle.std.specs.Fmt.{decimal}
use Rattle.std.specs.Option.{option_map_or}
use Rattle.asm_value.specs.declared.domain.Domain.TheVariants.{Truth}
use Rattle.asm_value.specs.declared.location.Update.{Update}
use Rattle.asm_program.specs.declared.program.Inv.{Inv}
use Rattle.asm_program.specs.declared.program.Program.{Program}
use Rattle.asm_program.specs.declared.bad_text.BadText.{BadText}
use Rattle.asm_program.specs.declared.checked.CheckedTerm.{CheckedTerm}
use Rattle.asm_program.specs.Counts.{term_work}
use Rattle.asm_program.specs.Invariants.{first_broken}
use Rattle.asm_formula.specs.declared.formula.Formula.{Formula}
use Rattle.asm_formula.specs.declared.formula.FormulaRefusal.{FormulaRefusal}
use Rattle.asm_formula.specs.Formulas.{names}
use Rattle.asm_formula.specs.Reading.{formula_of}
use Rattle.asm_compose.specs.Offers.{Offer}
use Rattle.asm_compose.specs.Runs.{Leaf, Steps, Refuses, Ran, Done, Stopped, JoinClash, run}
use Rattle.asm_portable.specs.declared.port.Port.{Port}
use Rattle.asm_portable.specs.Ports.{text, fields_of}
use Rattle.asm_board.specs.declared.call.Call.{Call}
use Rattle.asm_board.specs.declared.call.Call.TheVariants as call
use Rattle.asm_board.specs.declared.board.Slot.{Slot}
use Rattle.asm_board.specs.declared.trail.TrailPair.{TrailPair}
use Rattle.asm_board.specs.declared.prepared.Accepted.{Accepted}
use Rattle.asm_board.specs.declared.prepared.News.{News}
use Rattle.asm_board.specs.declared.refusal.Refusal.{Refusal}
use Rattle.asm_board.specs.declared.refusal.RefusalName.{RefusalName}
use Rattle.asm_board.specs.declared.refusal.RefusalName.TheVariants as no
use Rattle.asm_board.specs.Meanings.{Meanings}
use Rattle.asm_board.specs.declared.stepped.Stepped.{Stepped}
use Rattle.asm_board.specs.declared.stepped.Stepped.TheVariants as stepped
use Rattle.asm_board.specs.Contents.{Contents}
use Rattle.asm_board.specs.Stepping.{start, step}
use Rattle.asm_board.specs.Inputs.{given_for, all_given, inputs_of}
use Rattle.asm_board.specs.Refusals.{Tried, after, needs, is_there, Whose, of_model, bad_name, name_taken, bad_text, bad_formula, unknown_model, join_clash, state_full, broken, inv_taken, invs_full, unknown_inv, not_in_trail}
use Rattle.asm_board.specs.Slots.{Models, slot_in, only, version_in, pairs_of}
use Rattle.asm_board.specs.Shown.{line_at, column_at, steps_shown, offer_of, fault_shown, clash_shown}

abbrev pub Change : Type 0
Change = Tried Accepted

abbrev pub becomes : List ℕ → Contents → List News
becomes name content = record { name = name; content = Some content } ∷ []

-- the model goes
abbrev pub goes : List ℕ → List News
goes name = record { name = name; content = None } ∷ []

abbrev pub accepted : Port → List News → Change
accepted ok news = Ok (record { ok = ok; news = news })

-- the change is told by a word
abbrev pub done : List ℕ → List News → Change
done word news = accepted (text word) news

-- ---- names

abbrev pub is_letter : ℕ → Bool
is_letter c = (nat_le 65 c && nat_le c 90) || ((nat_le 97 c && nat_le c 122) || c == 95)

abbrev pub is_digit : ℕ → Bool
is_digit c = nat_le 48 c && nat_le c 57

-- a letter or `_`, and then letters, digits and `_`
abbrev pub is_identifier : List ℕ → Bool
is_identifier [] = false
is_identifier (c ∷ cs) = is_letter c && list_all (λ d. is_letter d || is_digit d) cs

-- the most bytes of a model's name
abbrev pub most_name_bytes : ℕ
most_name_bytes = 64

-- an identifier of at most that many bytes
abbrev pub is_right_name : List ℕ → Bool
is_right_name name = is_identifier name && nat_le (length name) most_name_bytes

-- ---- texts

abbrev pub unless_bad : {A : Type 0} → Result A BadText → Tried A
unless_bad (Ok x) = Ok x
unless_bad (Err bad) = Err (bad_text bad)

-- ---- formulas

abbrev pub unless_unread : {A : Type 0} → Result A FormulaRefusal → Tried A
unless_unread (Ok x) = Ok x
unless_unread (Err why) = Err (bad_formula why)

-- what the models of a formula leave, or the first refusal
abbrev pub leaves_of : Ran Refusal Contents → Tried (List (List ℕ × Contents))
leaves_of (Done gives leaves) = Ok leaves
leaves_of (Stopped why) = Err why
leaves_of (JoinClash first second) = Err (join_clash first second)

-- each model's new content
abbrev pub news_of : List (List ℕ × Contents) → List News
news_of leaves = map (λ l. record { name = l.0; content = Some l.1 }) leaves

-- ---- contents

-- the content, or why there is none; a fault is refused under this name
abbrev pub content_after : RefusalName → Whose → Program → Stepped → Tried Contents
content_after name whose program (stepped.Done content) = Ok content
content_after name whose program (stepped.Fault fault) = Err (fault_shown name whose program fault)
content_after name whose program (stepped.Clash location first second) =
    Err (clash_shown whose program location first second)
content_after name whose program (stepped.StateFull weight) = Err (state_full whose weight)
content_after name whose program (stepped.Broken inv) = Err (broken whose inv)

-- ---- invariants

-- the most invariants of a model
abbrev pub invariant_limit : ℕ
invariant_limit = 64

-- the most work of a text and of the invariants that were added to it
abbrev pub work_limit : ℕ
work_limit = 2 ^ 24

-- no greater work is told
abbrev pub most_work_told : ℕ
most_work_told = 2 ^ 32

abbrev pub has_invariant : Contents → List ℕ → Bool
has_invariant content name = list_any (λ inv. bytes_eq name inv.name) content.invs

abbrev pub invariant_work : Program → Inv → ℕ
invariant_work program inv = term_work program.domains program.functions inv.term

abbrev pub added_to : Contents → List Inv
added_to content = filter (λ inv. inv.added) content.invs

-- the work of the text and of the invariants that were added to it
abbrev pub whole_work : Contents → ℕ
whole_work content =
    content.program.work + sum_by (invariant_work content.program) (added_to content)

-- with this work of an invariant it would be too much; the place is that of its term
abbrev pub too_much_work : List ℕ → CheckedTerm → ℕ → BadText
too_much_work source term work = record {
  kind = codes "TooMuchWork";
  more = decimal (min work most_work_told);
  line = line_at source term.start;
  column = column_at source term.start;
}

abbrev pub added_invariant : List ℕ → List ℕ → CheckedTerm → Inv
added_invariant name source term =
    record { name = name; added = true; source = source; term = term.term }

abbrev pub with_invariant : Contents → Inv → Contents
with_invariant content inv = record content { invs = content.invs ++ inv ∷ [] }

abbrev pub without_invariant : Contents → List ℕ → Contents
without_invariant content name =
    record content { invs = filter (λ inv. not (bytes_eq name inv.name)) content.invs }

-- ---- earlier contents

abbrev pub version_of_pair : Option TrailPair → ℕ
version_of_pair None = 0
version_of_pair (Some pair) = pair.version

abbrev pub oldest : List TrailPair → Option TrailPair
oldest [] = None
oldest (p ∷ ps) = Some p

-- the trail lacks a version: its newest and its oldest are told
abbrev pub lacks_version : List ℕ → Slot → Refusal
lacks_version name slot =
    not_in_trail name (version_of_pair (last_or None (pairs_of slot)))
    (version_of_pair (oldest (pairs_of slot)))

-- the content that the model had at this version, as far as it is kept
abbrev pub content_at : Slot → ℕ → Option Contents
content_at slot version =
    option_map (λ p. p.content) (find (λ p. p.version == version) (pairs_of slot))

-- the formula of a text
abbrev pub formula_in : List ℕ → Tried Formula
formula_in source = unless_unread (formula_of source)

-- what the out functions of a model held before the step
abbrev pub held : Models → List ℕ → Offer
held models name = option_map_or (λ slot. offer_of slot.content) (slot_in models name) []

abbrev pub leaf_of : Tried Contents → Leaf Refusal Contents
leaf_of (Ok content) = Steps (offer_of content) content
leaf_of (Err why) = Refuses why

module _ (m : Meanings) where
  -- the program of a text
  abbrev pub program_in : List ℕ → Tried Program
  program_in source = unless_bad (m.program_of source)

  -- a model of the program, in its initial state
  abbrev pub started : Whose → Program → Tried Contents
  started whose program = content_after no.InitFault whose program (start m program)

  -- a content after one step
  abbrev pub stepped_from : Whose → Option ℕ → Contents → List Update → Tried Contents
  stepped_from whose pick content inputs =
      content_after no.Fault whose content.program (step m content inputs pick)

  -- ---- models that come and go

  abbrev pub not_taken : Models → List ℕ → Tried (Unit {0})
  not_taken models name =
      needs (is_none (slot_in models name)) (name_taken name (version_in models name))

  -- the content of a new model, in its initial state
  abbrev pub loaded : List ℕ → List ℕ → Tried Contents
  loaded name source =
      after (program_in source) (λ program. started (of_model name) program)

  abbrev pub load : Models → List ℕ → List ℕ → Change
  load models name source =
      after (needs (is_right_name name) bad_name) (λ _.
      after (not_taken models name) (λ _.
      after (loaded name source) (λ content.
      done (codes "loaded") (becomes name content))))

  abbrev pub found : Models → List ℕ → Tried Slot
  found models name = is_there (slot_in models name) (unknown_model name)

  abbrev pub unload : Models → List ℕ → Change
  unload models name =
      after (found models name) (λ _.
      done (codes "unloaded") (goes name))

  -- ---- steps

  abbrev pub all_found : Models → List (List ℕ) → Tried (Unit {0})
  all_found models [] = Ok tt
  all_found models (name ∷ names) = after (found models name) (λ _. all_found models names)

  -- one step of a model, with what the environment gives and what it is offered
  abbrev pub leaf_stepped : Models → Port → Option ℕ → List ℕ → Offer → Tried Contents
  leaf_stepped models inputs pick name offer =
      after (found models name) (λ slot.
      after (inputs_of slot.content name (given_for (fields_of inputs) name) offer) (λ updates.
      stepped_from (of_model name) pick slot.content updates))

  abbrev pub leaf : Models → Port → Option ℕ → List ℕ → Offer → Leaf Refusal Contents
  leaf models inputs pick name offer = leaf_of (leaf_stepped models inputs pick name offer)

  -- the run of a formula over these models
  abbrev pub ran : Models → Port → Option ℕ → Formula → Ran Refusal Contents
  ran models inputs pick formula = run (held models) (leaf models inputs pick) formula

  -- each model of the formula steps, or none of them
  abbrev pub step_formula : Models → Port → Option ℕ → Formula → Change
  step_formula models inputs pick formula = let stepping = only models (names formula) in
      after (all_found stepping (names formula)) (λ _.
      after (all_given stepping (fields_of inputs)) (λ _.
      after (leaves_of (ran stepping inputs pick formula)) (λ leaves.
      accepted (steps_shown leaves) (news_of leaves))))

  abbrev pub step_models : Models → List ℕ → Port → Option ℕ → Change
  step_models models source inputs pick =
      after (formula_in source) (λ formula. step_formula models inputs pick formula)

  -- ---- invariants

  -- the Boolean term of a text, over what the program declares
  abbrev pub condition_in : Program → List ℕ → Tried CheckedTerm
  condition_in program source = unless_bad (m.term_of program (Some Truth) source)

  -- with one more invariant, which holds in the present state
  abbrev pub with_held : List ℕ → Contents → Inv → Tried Contents
  with_held name content inv =
      after (needs (is_none (first_broken content.program content.state (inv ∷ [])))
      (broken (of_model name) inv.name)) (λ _.
      Ok (with_invariant content inv))

  -- the content with one more invariant of a text
  abbrev pub added : List ℕ → Contents → List ℕ → List ℕ → Tried Contents
  added name content inv source =
      after (condition_in content.program source) (λ term.
      let work = whole_work content + term.work in
      after (needs (nat_le work work_limit) (bad_text (too_much_work source term work))) (λ _.
      with_held name content (added_invariant inv source term)))

  abbrev pub add_invariant : Models → List ℕ → List ℕ → List ℕ → Change
  add_invariant models name inv source =
      after (found models name) (λ slot. let content = slot.content in
      after (needs (not (has_invariant content inv)) (inv_taken inv name)) (λ _.
      after (needs (nat_lt (length content.invs) invariant_limit) (invs_full invariant_limit name))
      (λ _.
      after (added name content inv source) (λ new.
      done (codes "added") (becomes name new)))))

  abbrev pub drop_invariant : Models → List ℕ → List ℕ → Change
  drop_invariant models name inv =
      after (found models name) (λ slot.
      after (needs (has_invariant slot.content inv) (unknown_inv inv name)) (λ _.
      done (codes "dropped") (becomes name (without_invariant slot.content inv))))

  -- ---- earlier contents

  -- the whole content of an earlier version again
  abbrev pub rollback : Models → List ℕ → ℕ → Change
  rollback models name to =
      after (found models name) (λ slot.
      after (is_there (content_at slot to) (lacks_version name slot)) (λ content.
      done (codes "rolled") (becomes name content)))

  -- what a change comes to, where the journal has room; a read changes nothing
  abbrev pub change : Models → Call → Change
  change models (call.Load name source) = load models name source
  change models (call.Unload name) = unload models name
  change models (call.Step formula inputs pick) = step_models models formula inputs pick
  change models (call.AddInvariant name inv term) = add_invariant models name inv term
  change models (call.DropInvariant name inv) = drop_invariant models name inv
  change models (call.Rollback name to) = rollback models name to
  change models _ = accepted (text []) []
