-- After 512 rounds the counts of functions and macro rules tell their depth and their work.
use Rattle.std.proofs.Common.{◌≡◌, ℕ, zero, suc, Option, Some, None, List, [], ◌∷◌, map, slice_get, Result, Ok, Err, IfOk}
use Rattle.std.proofs.Common.{refl, sym, subst, ◌∙◌}
use Rattle.std.specs.Option.{option_map_or}
use Rattle.asm_value.specs.declared.domain.DomainInfo.{DomainInfo}
use Rattle.asm_syntax.specs.declared.tree.ModelTree.{ModelTree}
use Rattle.asm_program.specs.declared.trees.Term.{Term}
use Rattle.asm_program.specs.declared.program.FunctionInfo.{FunctionInfo}
use Rattle.asm_program.specs.declared.program.MacroInfo.{MacroInfo}
use Rattle.asm_program.specs.Forms.{of_term, of_function, body_of, of_rule, of_macro, rule_in}
use Rattle.asm_program.specs.Counts.{depth_level, work_level, function_depth, function_work, term_depth, term_work, rule_depth_level, rule_work_level, macro_depth, macro_work}
use Rattle.asm_program.specs.TypedModels.{scope_of}
use Rattle.asm_counts.specs.declared.counts.Counts.{Counts}
use Rattle.asm_counts.specs.CountLevels.{nothing, known, term_counts}
use Rattle.asm_counts.specs.CountLaws.{Tells, AllTell}
use Rattle.asm_counts.proofs.Told.{nothing-tells}
use Rattle.asm_counts.proofs.TermLaw.{terms-told}
use Rattle.asm_counts.proofs.RuleLaw.{rules-told}
use Rattle.asm_typed_calls.specs.CalledNames.{functions_in, macros_in}
use Rattle.asm_typed_models.specs.declared.definitions.Definitions.{Definitions}
use Rattle.asm_typed_models.specs.Defined.{AreDefinitions}
use Rattle.asm_limits.specs.declared.limits.Counted.{Counted}
use Rattle.asm_limits.specs.Counted.{AreCounted}
use Rattle.asm_limits.specs.Rounds.{none, body_counts, macro_counts, function_round, macro_round, iterated}

-- ---- one round

nothing-none : nothing ≡ none
unfolding nothing
nothing-none = refl

none-tells : Tells none 0 0
none-tells = subst (λ c. Tells c 0 0) nothing-none nothing-tells

-- what is known of a function by its number is what was counted of its term
known-bodies : (g : Option Term → Counts) → g None ≡ none → (fs : List FunctionInfo) (f : ℕ)
    → known (map g (map (λ info. info.body) fs)) f ≡ g (body_of fs f)
unfolding known nothing
known-bodies g e [] f = sym e
known-bodies g e (x ∷ xs) zero = refl
known-bodies g e (x ∷ xs) (suc f) = known-bodies g e xs f

abbrev of_info : (MacroInfo → Counts) → Option MacroInfo → Counts
of_info g None = none
of_info g (Some info) = g info

known-infos : (g : MacroInfo → Counts) (ms : List MacroInfo) (m : ℕ)
    → known (map g ms) m ≡ of_info g (slice_get ms m)
unfolding known nothing
known-infos g [] m = refl
known-infos g (x ∷ xs) zero = refl
known-infos g (x ∷ xs) (suc m) = known-infos g xs m

-- ---- functions

module _ (domains : List DomainInfo) (functions : List FunctionInfo) where
  abbrev bodies : List (Option Term)
  bodies = map (λ info. info.body) functions

  abbrev depths : ℕ → ℕ → ℕ
  depths = of_function depth_level 0 functions

  abbrev works : ℕ → ℕ → ℕ
  works = of_function (work_level domains) 0 functions

  body-tells : (counts : List Counts) (n : ℕ) → AllTell (known counts) (depths n) (works n)
      → (o : Option Term)
      → Tells (body_counts domains counts o) (option_map_or (of_term depth_level (depths n)) o 0)
      (option_map_or (of_term (work_level domains) (works n)) o 0)
  unfolding body_counts
  body-tells counts n all None = none-tells
  body-tells counts n all (Some t) = terms-told domains (known counts) (depths n) (works n) all t

  none-at : (counts : List Counts) → body_counts domains counts None ≡ none
  unfolding body_counts
  none-at counts = refl

  known-round : (counts : List Counts) (f : ℕ)
      → known (function_round domains bodies counts) f
      ≡ body_counts domains counts (body_of functions f)
  unfolding function_round
  known-round counts f = known-bodies (body_counts domains counts) (none-at counts) functions f

  pub functions-tell : (n : ℕ)
      → AllTell (known (iterated n (function_round domains bodies) [])) (depths n) (works n)
  unfolding iterated of_function known nothing
  functions-tell zero f = none-tells
  functions-tell (suc n) f =
      let counts = iterated n (function_round domains bodies) [] in
      subst (λ c. Tells c (depths (suc n) f) (works (suc n) f)) (sym (known-round counts f))
      (body-tells counts n (functions-tell n) (body_of functions f))

-- ---- macro rules

module _ (domains : List DomainInfo) (functions : List Counts) (depth work : Term → ℕ)
    (told : (t : Term) → Tells (term_counts domains (known functions) t) (depth t) (work t))
    (macros : List MacroInfo) where
  abbrev rule_depths : ℕ → ℕ → ℕ
  rule_depths = of_macro (rule_depth_level depth) 0 macros

  abbrev rule_works : ℕ → ℕ → ℕ
  rule_works = of_macro (rule_work_level domains work) 0 macros

  rule-tells : (counts : List Counts) (n : ℕ)
      → AllTell (known counts) (rule_depths n) (rule_works n) → (o : Option MacroInfo)
      → Tells (of_info (macro_counts domains functions counts) o)
      (option_map_or (of_rule (rule_depth_level depth) (rule_depths n)) (rule_in o) 0)
      (option_map_or (of_rule (rule_work_level domains work) (rule_works n)) (rule_in o) 0)
  unfolding macro_counts
  rule-tells counts n all None = none-tells
  rule-tells counts n all (Some info) =
      rules-told domains (term_counts domains (known functions)) depth work told (known counts)
      (rule_depths n) (rule_works n) all info.body

  known-macros : (counts : List Counts) (m : ℕ)
      → known (macro_round domains functions macros counts) m
      ≡ of_info (macro_counts domains functions counts) (slice_get macros m)
  unfolding macro_round
  known-macros counts m = known-infos (macro_counts domains functions counts) macros m

  pub macros-tell : (n : ℕ)
      → AllTell (known (iterated n (macro_round domains functions macros) [])) (rule_depths n)
      (rule_works n)
  unfolding iterated of_macro known nothing
  macros-tell zero m = none-tells
  macros-tell (suc n) m =
      let counts = iterated n (macro_round domains functions macros) [] in
      subst (λ c. Tells c (rule_depths (suc n) m) (rule_works (suc n) m))
      (sym (known-macros counts m))
      (rule-tells counts n (macros-tell n) (slice_get macros m))

-- ---- a term and a rule, where all functions and macro rules tell

module _ (domains : List DomainInfo) (counts : List Counts) (functions : List FunctionInfo)
    (all : AllTell (known counts) (function_depth functions) (function_work domains functions)) where
  pub term-tells : (t : Term) → Tells (term_counts domains (known counts) t)
      (term_depth functions t) (term_work domains functions t)
  unfolding term_counts
  term-tells t =
      terms-told domains (known counts) (function_depth functions)
      (function_work domains functions) all t

-- ---- a text

pub counted : (tree : ModelTree) (d : Definitions) (domains : List DomainInfo) (c : Counted)
    → domains ≡ (scope_of tree).domains → ((text : List ℕ) × AreDefinitions text tree d)
    → c.functions.items ≡ iterated 512 (function_round domains d.bodies.items) []
    → c.macros.items ≡ iterated 512 (macro_round domains c.functions.items d.macros) []
    → AreCounted tree c
counted tree d domains c e defined f m = record {
  functions = all;
  macros =
      subst (λ cs. AllTell (known cs) (macro_depth functions macros)
      (macro_work scoped functions macros)) (sym its_macros)
      (macros-tell scoped c.functions.items (term_depth functions) (term_work scoped functions)
      (term-tells scoped c.functions.items functions all) macros 512);
}
  where
    scoped : List DomainInfo
    scoped = (scope_of tree).domains

    functions : List FunctionInfo
    functions = functions_in tree

    macros : List MacroInfo
    macros = macros_in tree

    its_functions : c.functions.items ≡ iterated 512 (function_round scoped (map (λ info. info.body) functions)) []
    its_functions = f ∙ (λ i. iterated 512 (function_round (e i) (defined.1.bodies i)) [])

    its_macros : c.macros.items ≡ iterated 512 (macro_round scoped c.functions.items macros) []
    its_macros = m ∙ (λ i. iterated 512 (macro_round (e i) c.functions.items (defined.1.macros i)) [])

    all : AllTell (known c.functions.items) (function_depth functions) (function_work scoped functions)
    all =
        subst (λ cs. AllTell (known cs) (function_depth functions)
        (function_work scoped functions)) (sym its_functions) (functions-tell scoped functions 512)

-- where there is memory for them
pub counted-result : {E : Type 0} (tree : ModelTree) (d : Definitions) (domains : List DomainInfo)
    → domains ≡ (scope_of tree).domains → ((text : List ℕ) × AreDefinitions text tree d)
    → (result : Result Counted E)
    → IfOk result (λ c. (c.functions.items ≡ iterated 512 (function_round domains d.bodies.items) [])
    × (c.macros.items ≡ iterated 512 (macro_round domains c.functions.items d.macros) []))
    → IfOk result (AreCounted tree)
counted-result tree d domains e defined (Ok c) h = counted tree d domains c e defined h.0 h.1
counted-result tree d domains e defined (Err why) h = h
