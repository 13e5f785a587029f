-- The parts of a text together.
use Rattle.std.proofs.Common.{◌≡◌, ℕ, ◌+◌, None, Result, Ok, Err, List, [], ◌++◌, refl, ap, ◌∙◌, subst, arith}
use Rattle.asm_syntax.specs.declared.tree.ModelTree.{ModelTree}
use Rattle.asm_program.specs.declared.trees.Rule.{Rule}
use Rattle.asm_program.specs.declared.type_refusal.TypeRefusal.{TypeRefusal}
use Rattle.asm_program.specs.Checks.{Checks}
use Rattle.asm_program.specs.Items.{starts_of}
use Rattle.asm_program.specs.TypedTerms.{Scope}
use Rattle.asm_program.specs.TypedModels.{scope_of, macro_checked, types_refused}
use Rattle.asm_program.specs.Typed as typed
use Rattle.asm_program.specs.Typed.{macros_of, main_of, inits_of, invariants_from}
use Rattle.asm_typed_calls.specs.CalledNames.{declared_refused}
use Rattle.asm_typed.specs.Answers.{settled, Gives}
use Rattle.asm_typed.proofs.Refusals.{settled-memory, settled-first, settled-rest, none-append, is_first}
use Rattle.asm_typed_models.specs.declared.definitions.Definitions.{Definitions}
use Rattle.asm_typed_models.specs.Defined.{AreDefinitions}
use Rattle.asm_typed_models.specs.Forms.{rule_at, defs_refused, macros_with, chooses_with, invariants_with, starts_refused, init_of, inits_at, main_rule, all_refused, AreDefined}
use Rattle.asm_typed_models.proofs.BodySteps.{bodies-are}

-- ---- what is refused

module _ (scope : Scope) (tree : ModelTree) where
  abbrev of_rules : List TypeRefusal
  of_rules = defs_refused scope tree.defs ++ (rule_at scope None tree.rule).refused

  abbrev of_starts : List TypeRefusal
  of_starts = starts_refused scope (starts_of tree.init)

  all-parts : all_refused scope tree ≡ of_rules ++ of_starts
  unfolding all_refused
  all-parts = refl

  pub all-rules : (why : TypeRefusal) → settled why of_rules ≡ why → settled why (all_refused scope tree) ≡ why
  all-rules why h = ap (settled why) all-parts ∙ settled-first why of_rules of_starts h

  pub all-starts : (why : TypeRefusal) → of_rules ≡ [] → settled why of_starts ≡ why → settled why (all_refused scope tree) ≡ why
  all-starts why e h = ap (settled why) all-parts ∙ settled-rest why of_rules of_starts e h

  pub all-none : of_rules ≡ [] → of_starts ≡ [] → all_refused scope tree ≡ []
  all-none e h = all-parts ∙ none-append of_rules of_starts e h

  pub main-made : (r : Rule) (n : ℕ) → r ≡ (rule_at scope None tree.rule).rule n → n ≡ chooses_with scope 0 tree.defs → r ≡ main_rule scope tree
  unfolding main_rule
  main-made r n e h = e ∙ ap (rule_at scope None tree.rule).rule h

pub ruleset all_steps = (settled-memory, all-rules, all-starts, all-none)

pub ruleset rules_steps = (settled-memory, settled-first, settled-rest, none-append, main-made)

-- ---- what is defined

module _ (scope : Scope) (tree : ModelTree) where
  macros-are : macros_with scope [] 0 tree.defs ≡ macros_of scope tree
  unfolding macros_with
  macros-are = refl

  main-is : main_rule scope tree ≡ main_of scope tree
  unfolding main_rule rule_at chooses_with
  main-is =
      let e : 0 + typed.chooses_in scope tree.defs ≡ typed.chooses_in scope tree.defs = omega arith in
      ap (macro_checked scope None tree.rule).rule e

  inits-are : inits_at scope (starts_of tree.init) ≡ inits_of scope tree
  unfolding inits_at init_of
  inits-are = refl

  invariants-are : (text : List ℕ) → invariants_with text scope [] tree.defs ≡ invariants_from text scope 1 tree.defs
  unfolding invariants_with
  invariants-are text = refl

module _ (text : List ℕ) (tree : ModelTree) (declared : declared_refused tree ≡ []) where
  refused-are : types_refused tree ≡ all_refused (scope_of tree) tree
  unfolding all_refused defs_refused rule_at starts_refused
  refused-are = refl

  are-definitions : (d : Definitions) → AreDefined text (scope_of tree) tree d → AreDefinitions text tree d
  are-definitions d h = record {
    bodies = h.0 ∙ bodies-are tree declared;
    macros = h.1 ∙ macros-are (scope_of tree) tree;
    main = h.2 ∙ main-is (scope_of tree) tree;
    inits = h.3 ∙ inits-are (scope_of tree) tree;
    invariants = h.4 ∙ invariants-are (scope_of tree) tree text;
  }

  in-scope : (result : Result Definitions TypeRefusal) → Gives result (all_refused (scope_of tree) tree) (AreDefined text (scope_of tree) tree)
      → Checks result (types_refused tree) (AreDefinitions text tree)
  in-scope (Ok d) h = (refused-are ∙ h.0, are-definitions d h.1)
  in-scope (Err why) h = is_first why (types_refused tree) (ap (settled why) refused-are ∙ h)

  pub all-checked : (result : Result Definitions TypeRefusal) (scope : Scope) → scope ≡ scope_of tree → Gives result (all_refused scope tree) (AreDefined text scope tree)
      → Checks result (types_refused tree) (AreDefinitions text tree)
  all-checked result scope e h = in-scope result (subst (λ (s : Scope). Gives result (all_refused s tree) (AreDefined text s tree)) e h)
