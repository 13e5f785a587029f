-- The words of the fifth pass, one part of a text after the other.
use Rattle.std.specs.Prelude.{◌≡◌, ℕ, ◌+◌, Bool, true, false, ◌&&◌, Option, Some, None, List, [], ◌∷◌, ◌++◌, map, length, slice_set}
use Rattle.std.specs.Option.{option_map_or}
use Rattle.asm_syntax.specs.declared.token.Token.{Token}
use Rattle.asm_syntax.specs.declared.tree.ParamsTree.{ParamsTree}
use Rattle.asm_syntax.specs.declared.tree.TermTree.{TermTree}
use Rattle.asm_syntax.specs.declared.tree.RuleTree.{RuleTree}
use Rattle.asm_syntax.specs.declared.tree.DefTree.{DefTree}
use Rattle.asm_syntax.specs.declared.tree.DefTree.TheVariants as def
use Rattle.asm_syntax.specs.declared.tree.StartTree.{StartTree}
use Rattle.asm_syntax.specs.declared.tree.ModelTree.{ModelTree}
use Rattle.asm_syntax.specs.Marks.{text_of}
use Rattle.asm_typing.specs.Domains.{type_of}
use Rattle.asm_typing.specs.Fits.{fits}
use Rattle.asm_program.specs.declared.named.Named.{Named}
use Rattle.asm_program.specs.declared.named.Named.TheVariants as named
use Rattle.asm_program.specs.declared.program.MacroInfo.{MacroInfo}
use Rattle.asm_program.specs.declared.program.InitInfo.{InitInfo}
use Rattle.asm_program.specs.declared.program.Inv.{Inv}
use Rattle.asm_program.specs.declared.trees.Term.{Term}
use Rattle.asm_program.specs.declared.trees.Rule.{Rule}
use Rattle.asm_program.specs.declared.type_refusal.TypeRefusal.{TypeRefusal}
use Rattle.asm_program.specs.declared.type_refusal.TypeRefusal.TheVariants.{Mismatch}
use Rattle.asm_program.specs.Items.{list_of_params, invariant_name, starts_of}
use Rattle.asm_program.specs.Signatures.{Header, find, param_domains}
use Rattle.asm_program.specs.FunctionsPass.{function_at, same_domains}
use Rattle.asm_program.specs.TypedTerms.{Scope, Checked, or_else, unless, unknown, truth_refused, ranges_refused}
use Rattle.asm_program.specs.TypedRules.{CheckedRule}
use Rattle.asm_program.specs.TypedModels as models
use Rattle.asm_program.specs.Typed as typed
use Rattle.asm_program.specs.Typed.{number_in}
use Rattle.asm_typed_models.specs.declared.definitions.Definitions.{Definitions}
use Rattle.asm_typed_models.specs.declared.gathering.Gathered.{Gathered}

-- ---- terms and rules over parameters

unfoldable pub params_refused : Scope → Option ParamsTree → List TypeRefusal
params_refused scope params = ranges_refused scope (list_of_params params)

unfoldable pub body_at : Scope → Option ParamsTree → TermTree → Checked
body_at scope params t = models.body_checked scope params t

unfoldable pub rule_at : Scope → Option ParamsTree → RuleTree → CheckedRule
rule_at scope params rule = models.macro_checked scope params rule

-- ---- functions

-- the function that a token names
unfoldable pub named_by : Scope → Token → Option Named
named_by scope t = find scope.names (text_of t)

-- the term fits the function's codomain
unfoldable pub fits_function : Scope → Option Named → Checked → Bool
fits_function scope meant c =
    option_map_or (λ h. fits c.type (type_of h.result)) (function_at scope.functions meant) true

unfoldable pub codomain_refused : Scope → Option Named → Checked → List TypeRefusal
codomain_refused scope meant c = unless (fits_function scope meant c) (Mismatch c.span)

unfoldable pub function_refused : Scope → Token → Checked → List TypeRefusal
function_refused scope name c = models.function_refused scope name c

-- ---- macro rules

abbrev pub macro_of : Scope → Token → Option ParamsTree → CheckedRule → ℕ → MacroInfo
macro_of scope name params c n = record {
  name = text_of name;
  params = param_domains scope.names params;
  body = c.rule n;
}

-- ---- invariants

unfoldable pub subject_refused : Token → Option Named → List TypeRefusal
subject_refused t None = unknown t ∷ []
subject_refused t (Some (named.Literal d i)) = Mismatch t.span ∷ []
subject_refused t (Some _) = []

unfoldable pub subjects_refused : Scope → List Token → List TypeRefusal
subjects_refused scope ts = models.subjects_refused scope ts

unfoldable pub invariant_refused : Checked → List TypeRefusal
invariant_refused c = or_else c.refused (truth_refused c)

abbrev pub invariant_of : List ℕ → Option Token → Checked → ℕ → Inv
invariant_of text name c k = record {
  name = invariant_name k name;
  added = false;
  source = typed.slice_of text c.span;
  term = c.term;
}

-- ---- definitions

unfoldable pub def_refused : Scope → DefTree → List TypeRefusal
def_refused scope d = models.def_refused scope d

unfoldable pub defs_refused : Scope → List DefTree → List TypeRefusal
defs_refused scope ds = models.defs_refused scope ds

-- the terms of functions by their numbers, with those of the definitions
abbrev pub bodies_after : Scope → List (Option Term) → List DefTree → List (Option Term)
bodies_after scope bodies [] = bodies
bodies_after scope bodies (def.Function t params term span ∷ rest) =
    bodies_after scope
    (slice_set bodies (number_in (named_by scope t)) (Some (body_at scope params term).term)) rest
bodies_after scope bodies (_ ∷ rest) = bodies_after scope bodies rest

unfoldable pub bodies_with : Scope → List (Option Term) → List DefTree → List (Option Term)
bodies_with scope bodies ds = bodies_after scope bodies ds

unfoldable pub macros_with : Scope → List MacroInfo → ℕ → List DefTree → List MacroInfo
macros_with scope macros n ds = macros ++ typed.macros_from scope n ds

unfoldable pub chooses_with : Scope → ℕ → List DefTree → ℕ
chooses_with scope n ds = n + typed.chooses_in scope ds

-- the invariants, with those of the definitions
unfoldable pub invariants_with : List ℕ → Scope → List Inv → List DefTree → List Inv
invariants_with text scope invariants ds =
    invariants ++ typed.invariants_from text scope (length invariants + 1) ds

-- no function has a term yet
unfoldable pub no_bodies : List Header → List (Option Term)
no_bodies functions = map (λ h. None) functions

-- ---- the initial state

-- the parameters are in the argument domains
unfoldable pub takes_args : Scope → Option Named → Option ParamsTree → Bool
takes_args scope meant params =
    option_map_or (λ h. same_domains (param_domains scope.names params) h.args)
    (function_at scope.functions meant) true

-- what is said of an initial term of which nothing is refused
unfoldable pub start_own : Scope → StartTree → Checked → List TypeRefusal
start_own scope s c =
    unless (models.has_args scope s.function s.params && models.fits_codomain scope s.function c)
    (Mismatch c.span)

unfoldable pub start_refused : Scope → StartTree → List TypeRefusal
start_refused scope s = models.start_refused scope s

unfoldable pub starts_refused : Scope → List StartTree → List TypeRefusal
starts_refused scope ss = models.starts_refused scope ss

unfoldable pub init_of : Scope → StartTree → InitInfo
init_of scope s = typed.init_of scope s

unfoldable pub inits_at : Scope → List StartTree → List InitInfo
inits_at scope ss = map (init_of scope) ss

-- ---- all

-- what the definitions of a text define
abbrev pub IsGathered : List ℕ → Scope → List DefTree → Gathered → Type 0
IsGathered text scope defs g =
    (g.bodies.items ≡ bodies_with scope (no_bodies scope.functions) defs)
    × (g.macros ≡ macros_with scope [] 0 defs)
    × (g.chooses ≡ chooses_with scope 0 defs)
    × (g.invariants ≡ invariants_with text scope [] defs)

unfoldable pub main_rule : Scope → ModelTree → Rule
main_rule scope tree = (rule_at scope None tree.rule).rule (chooses_with scope 0 tree.defs)

unfoldable pub all_refused : Scope → ModelTree → List TypeRefusal
all_refused scope tree =
    defs_refused scope tree.defs ++ (rule_at scope None tree.rule).refused
    ++ starts_refused scope (starts_of tree.init)

-- what a text defines in a scope
abbrev pub AreDefined : List ℕ → Scope → ModelTree → Definitions → Type 0
AreDefined text scope tree d =
    (d.bodies.items ≡ bodies_with scope (no_bodies scope.functions) tree.defs)
    × (d.macros ≡ macros_with scope [] 0 tree.defs)
    × (d.main ≡ main_rule scope tree)
    × (d.inits ≡ inits_at scope (starts_of tree.init))
    × (d.invariants ≡ invariants_with text scope [] tree.defs)
