-- Which trees are programs, which program a tree is, and the first refusal of a tree that is none.
use Rattle.std.specs.Prelude.{◌≡◌, ℕ, ◌+◌, ◌-◌, ◌^◌, min, nat_lt, nat_le, Bool, true, false, not, ◌&&◌, if◌then◌else◌, Option, Some, None, List, [], ◌∷◌, ◌++◌, map, length, sum, take, drop, get_or, slice_get, IsTrue, codes}
use Rattle.std.specs.Option.{option_map_or}
use Rattle.std.specs.List.{filter_map}
use Rattle.std.specs.Str.{bytes_eq}
use Rattle.std.proofs.Common.{refl}
use Rattle.std.proofs.lemmas.Bool.{leb-true}
use Rattle.asm_value.specs.declared.domain.Domain.{Domain}
use Rattle.asm_value.specs.declared.domain.DomainInfo.{DomainInfo}
use Rattle.asm_syntax.specs.declared.token.Span.{Span}
use Rattle.asm_syntax.specs.declared.token.Token.{Token}
use Rattle.asm_syntax.specs.declared.tree.ParamsTree.{ParamsTree}
use Rattle.asm_syntax.specs.declared.tree.TermTree.{TermTree}
use Rattle.asm_syntax.specs.declared.tree.DeclTree.{DeclTree}
use Rattle.asm_syntax.specs.declared.tree.DefTree.{DefTree}
use Rattle.asm_syntax.specs.declared.tree.DefTree.TheVariants as def
use Rattle.asm_syntax.specs.declared.tree.StartTree.{StartTree}
use Rattle.asm_syntax.specs.declared.tree.ModelTree.{ModelTree}
use Rattle.asm_syntax.specs.Marks.{text_of}
use Rattle.asm_program.specs.declared.named.Named.{Named}
use Rattle.asm_program.specs.declared.named.Named.TheVariants as named
use Rattle.asm_program.specs.declared.type_refusal.Limited.TheVariants.{Depth}
use Rattle.asm_program.specs.declared.type_refusal.TypeRefusal.{TypeRefusal}
use Rattle.asm_program.specs.declared.type_refusal.TypeRefusal.TheVariants.{Limit, TooMuchWork}
use Rattle.asm_program.specs.declared.trees.Term.{Term}
use Rattle.asm_program.specs.declared.trees.Rule.{Rule}
use Rattle.asm_program.specs.declared.program.FunctionInfo.{FunctionInfo}
use Rattle.asm_program.specs.declared.program.MacroInfo.{MacroInfo}
use Rattle.asm_program.specs.declared.program.InitInfo.{InitInfo}
use Rattle.asm_program.specs.declared.program.Inv.{Inv}
use Rattle.asm_program.specs.declared.program.Program.{Program}
use Rattle.asm_program.specs.Members.{everyone_of}
use Rattle.asm_program.specs.Nesting.{functions_are_ranked, macros_are_ranked}
use Rattle.asm_program.specs.Counts.{function_depth, term_depth, rule_depth, function_work, term_work, rule_work, start_work, most_count}
use Rattle.asm_program.specs.Items.{model_items, invariant_name, starts_of}
use Rattle.asm_program.specs.Signatures.{Header, names_of, find, param_domains, declared_header}
use Rattle.asm_program.specs.NamesPass.{names_refused}
use Rattle.asm_program.specs.DomainsPass.{domains_refused}
use Rattle.asm_program.specs.FunctionsPass.{functions_refused, is_defined}
use Rattle.asm_program.specs.Calls.{calls_refused}
use Rattle.asm_program.specs.TypedTerms.{Scope, checked}
use Rattle.asm_program.specs.TypedRules.{CheckedRule}
use Rattle.asm_program.specs.TypedModels.{scope_of, declared_name, body_checked, macro_checked, types_refused}

-- ---- functions

-- the term of the first definition of a function
abbrev pub definition_of : Scope → List ℕ → List DefTree → Option Term
definition_of scope name [] = None
definition_of scope name (def.Function t params term span ∷ rest) =
    if bytes_eq (text_of t) name then Some (body_checked scope params term).term
    else definition_of scope name rest
definition_of scope name (_ ∷ rest) = definition_of scope name rest

abbrev pub body_if : Bool → Option Term → Option Term
body_if true body = body
body_if false body = None

-- a static or derived function has a term
abbrev pub function_info : Scope → List DefTree → DeclTree → Header → FunctionInfo
function_info scope defs decl h = record {
  name = declared_name decl;
  kind = h.kind;
  args = h.args;
  result = h.result;
  body = body_if (is_defined h.kind) (definition_of scope (declared_name decl) defs);
  depth = 0;
  work = 0;
}

abbrev pub function_in : Scope → List DefTree → DeclTree → Option FunctionInfo
function_in scope defs decl =
    option_map_or (λ h. Some (function_info scope defs decl h))
    (declared_header defs scope.names decl) None

-- with their depth and work still to be counted
abbrev pub uncounted : Scope → ModelTree → List FunctionInfo
uncounted scope tree = filter_map (function_in scope tree.defs) tree.decls

abbrev pub counted_from : List DomainInfo → List FunctionInfo → ℕ → List FunctionInfo
    → List FunctionInfo
counted_from domains all f [] = []
counted_from domains all f (info ∷ infos) =
    record info {
      depth = function_depth all f;
      work = min (function_work domains all f) most_count;
    }
    ∷ counted_from domains all (f + 1) infos

abbrev pub functions_of : Scope → ModelTree → List FunctionInfo
functions_of scope tree =
    let all = uncounted scope tree in counted_from scope.domains all 0 all

-- ---- macro rules and the main rule

-- the macro rules, with so many `choose` words before them
abbrev pub macros_from : Scope → ℕ → List DefTree → List MacroInfo
macros_from scope n [] = []
macros_from scope n (def.Rule name params body span ∷ rest) =
    let c = macro_checked scope params body in
    record {
      name = text_of name;
      params = param_domains scope.names params;
      body = c.rule n;
    }
    ∷ macros_from scope (n + c.chooses) rest
macros_from scope n (_ ∷ rest) = macros_from scope n rest

abbrev pub macros_of : Scope → ModelTree → List MacroInfo
macros_of scope tree = macros_from scope 0 tree.defs

abbrev pub chooses_in : Scope → List DefTree → ℕ
chooses_in scope [] = 0
chooses_in scope (def.Rule name params body span ∷ rest) =
    (macro_checked scope params body).chooses + chooses_in scope rest
chooses_in scope (_ ∷ rest) = chooses_in scope rest

abbrev pub main_of : Scope → ModelTree → Rule
main_of scope tree = (macro_checked scope None tree.rule).rule (chooses_in scope tree.defs)

-- ---- the initial state and the invariants

abbrev pub number_in : Option Named → ℕ
number_in (Some (named.Function f)) = f
number_in _ = 0

abbrev pub init_of : Scope → StartTree → InitInfo
init_of scope s =
    let c = body_checked scope s.params s.term in
    record {
      function = number_in (find scope.names (text_of s.function));
      body = c.term;
      span = c.span;
    }

abbrev pub inits_of : Scope → ModelTree → List InitInfo
inits_of scope tree = map (init_of scope) (starts_of tree.init)

-- no character is cut before this byte of the text
abbrev pub is_boundary : List ℕ → ℕ → Bool
is_boundary text at =
    let byte = get_or text at 0 in
    nat_le at (length text) && not (nat_le 128 byte && nat_lt byte 192)

-- the bytes of a part of the text; none where the span isn't a part that cuts no character
abbrev pub slice_of : List ℕ → Span → List ℕ
slice_of text span =
    if nat_le span.start span.end && is_boundary text span.start && is_boundary text span.end then
    take (span.end - span.start) (drop span.start text)
    else []

-- the invariants, of which the k-th comes next
abbrev pub invariants_from : List ℕ → Scope → ℕ → List DefTree → List Inv
invariants_from text scope k [] = []
invariants_from text scope k (def.Invariant name first others term span ∷ rest) =
    let c = checked scope term [] in
    record {
      name = invariant_name k name;
      added = false;
      source = slice_of text c.span;
      term = c.term;
    }
    ∷ invariants_from text scope (k + 1) rest
invariants_from text scope k (_ ∷ rest) = invariants_from text scope k rest

-- ---- depth and work

-- a definition of this depth, which is at most 512
abbrev pub depth_refused : ℕ → Span → List TypeRefusal
depth_refused depth span =
    if nat_lt 512 depth then Limit Depth (min depth most_count) span ∷ [] else []

abbrev pub name_span : Option Token → Span → Span
name_span None span =
    record {
      start = span.start;
      end = min (span.start + length (codes "invariant")) (2 ^ 32 - 1);
    }
name_span (Some name) span = name.span

module _ (scope : Scope) (functions : List FunctionInfo) (macros : List MacroInfo) where
  abbrev pub def_depth_refused : DefTree → List TypeRefusal
  def_depth_refused (def.Interval name from to span) = []
  def_depth_refused (def.Integers name first others span) = []
  def_depth_refused (def.Function name params term span) =
      depth_refused (term_depth functions (body_checked scope params term).term) name.span
  def_depth_refused (def.Rule name params body span) =
      depth_refused (rule_depth functions macros ((macro_checked scope params body).rule 0))
      name.span
  def_depth_refused (def.Invariant name first others term span) =
      depth_refused (term_depth functions (checked scope term []).term) (name_span name span)

  abbrev pub depths_refused : List DefTree → List TypeRefusal
  depths_refused [] = []
  depths_refused (d ∷ ds) = def_depth_refused d ++ depths_refused ds

  abbrev pub start_depths_refused : List StartTree → List TypeRefusal
  start_depths_refused [] = []
  start_depths_refused (s ∷ ss) =
      depth_refused (term_depth functions (body_checked scope s.params s.term).term) s.function.span
      ++ start_depths_refused ss

-- that of the main rule, of the invariants, and of the initial terms for each list of arguments
abbrev pub text_work : List DomainInfo → List FunctionInfo → List MacroInfo → Rule → List InitInfo
    → List Inv → ℕ
text_work domains functions macros main inits invariants =
    rule_work domains functions macros main
    + sum (map (λ inv. term_work domains functions inv.term) invariants)
    + sum (map (λ init. start_work domains functions init.function init.body) inits)

-- the most work of a program
abbrev pub work_limit : ℕ
work_limit = 2 ^ 24

abbrev pub work_refused : ℕ → Span → List TypeRefusal
work_refused work span =
    if nat_le work work_limit then [] else TooMuchWork (min work most_count) span ∷ []

-- what a tree is made of once its names are numbers
pub record Numbered : Type 0 where
  pub scope : Scope
  pub functions : List FunctionInfo
  pub macros : List MacroInfo
  pub main : Rule
  pub inits : List InitInfo
  pub invariants : List Inv
  pub work : ℕ

abbrev pub numbered_in : Scope → List ℕ → ModelTree → Numbered
numbered_in scope text tree =
    let functions = functions_of scope tree in
    let macros = macros_of scope tree in
    let main = main_of scope tree in
    let inits = inits_of scope tree in
    let invariants = invariants_from text scope 1 tree.defs in
    record {
      scope = scope;
      functions = functions;
      macros = macros;
      main = main;
      inits = inits;
      invariants = invariants;
      work = text_work scope.domains functions macros main inits invariants;
    }

abbrev pub numbered : List ℕ → ModelTree → Numbered
numbered text tree = numbered_in (scope_of tree) text tree

abbrev pub counts_refused : Numbered → ModelTree → List TypeRefusal
counts_refused n tree =
    depths_refused n.scope n.functions n.macros tree.defs
    ++ depth_refused (rule_depth n.functions n.macros n.main) tree.rule_name.span
    ++ start_depths_refused n.scope n.functions n.macros (starts_of tree.init)
    ++ work_refused n.work tree.main

-- ---- texts

-- All refusals of a tree, pass by pass, each pass in text order: names, domains, functions, calls,
-- types, and what counts. Where a pass refuses nothing, the next one is looked at.
abbrev pub refused : List ℕ → ModelTree → List TypeRefusal
refused text tree =
    let names = names_of tree in
    let items = model_items tree in
    names_refused items
    ++ domains_refused tree.decls names items
    ++ functions_refused tree.defs names (scope_of tree).functions tree.decls (starts_of tree.init)
    ++ calls_refused tree
    ++ types_refused tree
    ++ counts_refused (numbered text tree) tree

-- the first of them
abbrev pub first_refusal : List ℕ → ModelTree → Option TypeRefusal
first_refusal text tree = slice_get (refused text tree) 0

-- the tree has no refusal, and this is its program
pub record IsTyped (text : List ℕ) (tree : ModelTree) (program : Program) : Type 0 where
  pub unrefused : refused text tree ≡ []
  pub name : program.name ≡ text_of tree.name
  pub domains : program.domains ≡ (numbered text tree).scope.domains
  pub functions : program.functions ≡ (numbered text tree).functions
  pub macros : program.macros ≡ (numbered text tree).macros
  pub main : program.main ≡ (numbered text tree).main
  pub inits : program.inits ≡ (numbered text tree).inits
  pub invariants : program.invariants ≡ (numbered text tree).invariants
  pub work : program.work ≡ (numbered text tree).work
  pub text_kept : program.text ≡ text
