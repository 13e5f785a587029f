-- What the definitions of a text call lies in its call graph, and none of its functions and macro
-- rules reaches itself.
use Rattle.std.proofs.Common.{◌≡◌, ℕ, true, false, Some, List, [], ◌∷◌, ◌++◌}
use Rattle.std.proofs.Common.{position, slice_get, sym, ap, ◌∙◌}
use Rattle.std.specs.Prelude.{unwrap_or}
use Rattle.asm_syntax.specs.declared.tree.ModelTree.{ModelTree}
use Rattle.asm_syntax.specs.Marks.{text_of}
use Rattle.asm_program.specs.declared.trees.Term.{Term}
use Rattle.asm_program.specs.declared.trees.Rule.{Rule}
use Rattle.asm_program.specs.Forms.{body_of}
use Rattle.asm_program.specs.Items.{model_items, rule_items}
use Rattle.asm_program.specs.Items.{starts_of}
use Rattle.asm_program.specs.NamesPass.{names_refused}
use Rattle.asm_program.specs.DomainsPass.{domains_refused}
use Rattle.asm_program.specs.FunctionsPass.{functions_refused}
use Rattle.asm_program.specs.Signatures.{names_of}
use Rattle.asm_program.specs.Calls.{is_called, definitions}
use Rattle.asm_program.specs.TypedModels.{scope_of}
use Rattle.asm_program.proofs.Refusals.{both_nil}
use Rattle.asm_calls.specs.Nested.{functions_called, macros_called, has_number}
use Rattle.asm_calls.specs.TextLaws.{CalledAreNamed, CalledMacrosAreNamed}
use Rattle.asm_calls.proofs.CallLaws.{calls_named}
use Rattle.asm_calls.proofs.TextNested.{text_functions_ranked, text_macros_ranked}
use Rattle.asm_typed_calls.specs.CalledNames.{IsSound, functions_in, macros_in, definition_named}
use Rattle.asm_typed_calls.specs.CalledNames.{function_definition, macro_definition}
use Rattle.asm_typed_calls.specs.CalledNames.{FunctionsLie, MacrosLie, FunctionsRanked, MacrosRanked}
use Rattle.asm_typed_calls.proofs.Places.{first_position}
use Rattle.asm_typed_calls.proofs.TermNames.{term_named}
use Rattle.asm_typed_calls.proofs.RuleNames.{rule_named}
use Rattle.asm_typed_calls.proofs.FunctionDefinitions.{HasTerm, has_term, DefinedBy, defined_by}
use Rattle.asm_typed_calls.proofs.FunctionDefinitions.{name_of_function}
use Rattle.asm_typed_calls.proofs.MacroDefinitions.{RuleDefined, rule_defined, name_of_macro}

some_same : {A : Type 0} (a b : A) → Some a ≡ Some b → a ≡ b
some_same a b e = cc

-- ---- functions

-- a function with a term: its name, its term and its definition
pub record Written (tree : ModelTree) (f : ℕ) (body : Term) : Type 0 where
  pub term : HasTerm (scope_of tree) tree.defs (functions_in tree) f body
  pub definition : DefinedBy (scope_of tree) (definitions tree) term.name body

pub written : (tree : ModelTree) (f : ℕ) (body : Term) → body_of (functions_in tree) f ≡ Some body
    → Written tree f body
written tree f body e =
    let t = has_term (scope_of tree) tree.defs tree.decls f body e in record {
      term = t;
      definition = defined_by (scope_of tree)
          (record { name = tree.rule_name; is_rule = true; items = rule_items tree.rule } ∷ [])
          t.name body tree.defs t.defined;
    }

pub first_written : (tree : ModelTree) (f : ℕ) (body : Term) (w : Written tree f body)
    → position (is_called false w.term.name) (definitions tree) ≡ Some w.definition.place
first_written tree f body w =
    first_position (is_called false w.term.name) (definitions tree) w.definition.place
    w.definition.definition w.definition.first

pub place_written : (tree : ModelTree) (f : ℕ) (body : Term) (w : Written tree f body)
    → function_definition tree f ≡ w.definition.place
place_written tree f body w =
    ap (definition_named false tree) w.term.is
    ∙ ap (λ o. unwrap_or o 0) (first_written tree f body w)

pub called_are_named : (tree : ModelTree)
    → CalledAreNamed tree (function_definition tree) (functions_in tree)
called_are_named tree f g body other e d t =
    let w = written tree f body e in
    let v = written tree g other d in
    let n = term_named (scope_of tree) w.definition.term w.definition.variables g
    (ap (λ x. has_number (functions_called x) g) w.definition.body_is ∙ t) in
    let same : v.term.name ≡ text_of n.token =
    some_same v.term.name (text_of n.token)
    (sym v.term.is ∙ name_of_function tree (text_of n.token) g n.is) in
    record {
      definition = w.definition.definition;
      place = n.place;
      token = n.token;
      is_there = ap (slice_get (definitions tree)) (place_written tree f body w)
          ∙ w.definition.first.0;
      named = ap (λ is. slice_get is n.place) w.definition.items ∙ n.at;
      first = ap (λ q. position (is_called false q) (definitions tree)) (sym same)
          ∙ first_written tree g other v
          ∙ ap (λ i. Some i) (sym (place_written tree g other v));
    }

pub functions_lie : FunctionsLie
functions_lie tree sound f g body other e d t =
    let n = called_are_named tree f g body other e d t in
    (calls_named tree (function_definition tree f) (function_definition tree g) n.place
    n.definition n.token n.is_there).0 n.named n.first

pub functions_ranked : FunctionsRanked
functions_ranked tree sound =
    text_functions_ranked tree (function_definition tree) (functions_in tree) sound.calls
    (called_are_named tree)

-- ---- macro rules

pub names_unrefused : (tree : ModelTree) → IsSound tree → names_refused (model_items tree) ≡ []
names_unrefused tree sound =
    let names = names_refused (model_items tree) in
    let domains = domains_refused tree.decls (names_of tree) (model_items tree) in
    let functions_ =
    functions_refused tree.defs (names_of tree) (scope_of tree).functions tree.decls
    (starts_of tree.init) in
    (both_nil names domains (both_nil (names ++ domains) functions_ sound.declared).0).0

-- a macro rule with its name
abbrev pub Ruled : ModelTree → ℕ → Rule → List ℕ → Type 0
Ruled tree m body name =
    RuleDefined (scope_of tree) (definitions tree) (macros_in tree) m body name

pub first_ruled : (tree : ModelTree) (m : ℕ) (body : Rule) (name : List ℕ)
    (r : Ruled tree m body name)
    → position (is_called true name) (definitions tree) ≡ Some r.place
first_ruled tree m body name r =
    first_position (is_called true name) (definitions tree) r.place r.definition r.first

pub place_ruled : (tree : ModelTree) (m : ℕ) (body : Rule) (name : List ℕ)
    (r : Ruled tree m body name) → macro_definition tree m ≡ r.place
place_ruled tree m body name r =
    ap (definition_named true tree) r.is
    ∙ ap (λ o. unwrap_or o 0) (first_ruled tree m body name r)

pub called_macros_are_named : (tree : ModelTree) → IsSound tree
    → CalledMacrosAreNamed tree (macro_definition tree) (macros_in tree)
called_macros_are_named tree sound m k body other e d t =
    let none = names_unrefused tree sound in
    let r = rule_defined tree none m body e in
    let q = rule_defined tree none k other d in
    let n = rule_named (scope_of tree) r.1.rule r.1.variables r.1.count k
    (ap (λ x. has_number (macros_called x) k) r.1.body_is ∙ t) in
    let same : q.0 ≡ text_of n.token =
    some_same q.0 (text_of n.token)
    (sym q.1.is ∙ name_of_macro tree (text_of n.token) k n.is) in
    record {
      definition = r.1.definition;
      place = n.place;
      token = n.token;
      is_there = ap (slice_get (definitions tree)) (place_ruled tree m body r.0 r.1) ∙ r.1.first.0;
      named = ap (λ is. slice_get is n.place) r.1.items ∙ n.at;
      first = ap (λ x. position (is_called true x) (definitions tree)) (sym same)
          ∙ first_ruled tree k other q.0 q.1
          ∙ ap (λ i. Some i) (sym (place_ruled tree k other q.0 q.1));
    }

pub macros_lie : MacrosLie
macros_lie tree sound m k body other e d t =
    let n = called_macros_are_named tree sound m k body other e d t in
    (calls_named tree (macro_definition tree m) (macro_definition tree k) n.place n.definition
    n.token n.is_there).1 n.named n.first

pub macros_ranked : MacrosRanked
macros_ranked tree sound =
    text_macros_ranked tree (macro_definition tree) (macros_in tree) sound.calls
    (called_macros_are_named tree sound)
