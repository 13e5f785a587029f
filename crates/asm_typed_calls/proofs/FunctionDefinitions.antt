-- The definition of each function that has a term.
use Rattle.std.proofs.Common.{◌≡◌, ℕ, zero, suc, ◌+◌, Bool, true, false, if◌then◌else◌, Option, Some}
use Rattle.std.proofs.Common.{List, [], ◌∷◌, ◌++◌, slice_get, option_map, refl, ap, ◌∙◌, arith}
use Rattle.std.specs.List.{AllByRecursion, filter_map}
use Rattle.std.specs.Str.{bytes_eq}
use Rattle.asm_value.proofs.RangeLaws.{all_append}
use Rattle.asm_syntax.specs.declared.token.Token.{Token}
use Rattle.asm_syntax.specs.declared.tree.TermTree.{TermTree}
use Rattle.asm_syntax.specs.declared.tree.DeclTree.{DeclTree}
use Rattle.asm_syntax.specs.declared.tree.DeclTree.TheVariants as decls
use Rattle.asm_syntax.specs.declared.tree.DefTree.{DefTree}
use Rattle.asm_syntax.specs.declared.tree.DefTree.TheVariants as defs
use Rattle.asm_syntax.specs.declared.tree.ModelTree.{ModelTree}
use Rattle.asm_syntax.specs.Marks.{text_of}
use Rattle.asm_program.specs.declared.named.Named.{Named}
use Rattle.asm_program.specs.declared.named.Named.TheVariants as named
use Rattle.asm_program.specs.declared.trees.Term.{Term}
use Rattle.asm_program.specs.declared.program.FunctionInfo.{FunctionInfo}
use Rattle.asm_program.specs.Forms.{body_of}
use Rattle.asm_program.specs.Items.{term_items, rule_items}
use Rattle.asm_program.specs.Signatures.{Names, find, literals_from, decl_names, macro_names}
use Rattle.asm_program.specs.Signatures.{names_of, named_as, header, defined_kind, dynamic_kind}
use Rattle.asm_program.specs.Signatures.{is_constant, with_constant}
use Rattle.asm_program.specs.FunctionsPass.{is_defined}
use Rattle.asm_program.specs.Calls.{Defined, defined_in, is_called}
use Rattle.asm_program.specs.TypedTerms.{Scope, Variables, checked}
use Rattle.asm_program.specs.TypedModels.{scope_of, with_params, body_checked}
use Rattle.asm_program.specs.Typed.{definition_of, body_if, function_in}
use Rattle.asm_typed_calls.specs.CalledNames.{functions_in}
use Rattle.asm_typed_calls.proofs.Named.{found_is}
use Rattle.asm_typed_calls.proofs.Places.{IsFirstOf, here, later}

-- ---- the name and the term of a function

abbrev pub name_at : List FunctionInfo → ℕ → Option (List ℕ)
name_at functions f = option_map (λ (info : FunctionInfo). info.name) (slice_get functions f)

-- the function's name, and that its term is of the first definition of this name
pub record HasTerm (scope : Scope) (all : List DefTree) (functions : List FunctionInfo) (f : ℕ)
    (body : Term) : Type 0 where
  pub name : List ℕ
  pub is : name_at functions f ≡ Some name
  pub defined : definition_of scope name all ≡ Some body

body_if_some : (b : Bool) (o : Option Term) (body : Term) → body_if b o ≡ Some body
    → o ≡ Some body
body_if_some true o body e = e
body_if_some false o body e = absurd (cc)

module _ (scope : Scope) (all : List DefTree) where
  abbrev infos : List DeclTree → List FunctionInfo
  infos ds = filter_map (function_in scope all) ds

  pub has_term : (ds : List DeclTree) (f : ℕ) (body : Term) → body_of (infos ds) f ≡ Some body
      → HasTerm scope all (infos ds) f body
  has_term [] f body e = absurd (cc)
  has_term (decls.Enum name first others span ∷ ds) f body e = has_term ds f body e
  has_term (decls.Abstract name span ∷ ds) f body e = has_term ds f body e
  has_term (decls.Subset name base span ∷ ds) f body e = has_term ds f body e
  has_term (decls.Defined kind name first next span ∷ ds) zero body e =
      let h = header scope.names (defined_kind kind) first next in record {
        name = text_of name;
        is = refl;
        defined = body_if_some (is_defined (with_constant (is_constant all name h) h).kind)
            (definition_of scope (text_of name) all) body e;
      }
  has_term (decls.Defined kind name first next span ∷ ds) (suc f) body e =
      let rest = has_term ds f body e in
      record { name = rest.name; is = rest.is; defined = rest.defined }
  has_term (decls.Dynamic kind name first next span ∷ ds) zero body e =
      let h = header scope.names (dynamic_kind kind) first next in record {
        name = text_of name;
        is = refl;
        defined = body_if_some (is_defined h.kind) (definition_of scope (text_of name) all) body e;
      }
  has_term (decls.Dynamic kind name first next span ∷ ds) (suc f) body e =
      let rest = has_term ds f body e in
      record { name = rest.name; is = rest.is; defined = rest.defined }

-- ---- the definition of a name

-- the first definition of a function of this name, and its term
pub record DefinedBy (scope : Scope) (ds : List Defined) (name : List ℕ)
    (body : Term) : Type 0 where
  pub place : ℕ
  pub definition : Defined
  pub term : TermTree
  pub variables : Variables
  pub first : IsFirstOf (is_called false name) ds place definition
  pub items : definition.items ≡ term_items term
  pub body_is : (checked scope term variables).term ≡ body

one_more : (scope : Scope) (ds : List Defined) (name : List ℕ) (body : Term) (d : Defined)
    → is_called false name d ≡ false → DefinedBy scope ds name body
    → DefinedBy scope (d ∷ ds) name body
one_more scope ds name body d differs h = record {
  place = suc h.place;
  definition = h.definition;
  term = h.term;
  variables = h.variables;
  first = later (is_called false name) d h.definition ds h.place differs h.first;
  items = h.items;
  body_is = h.body_is;
}

some_same : {A : Type 0} (a b : A) → Some a ≡ Some b → a ≡ b
some_same a b e = cc

module _ (scope : Scope) (tail : List Defined) (name : List ℕ) (body : Term) where
  pub defined_by : (all : List DefTree) → definition_of scope name all ≡ Some body
      → DefinedBy scope (defined_in all ++ tail) name body
  defined_by [] e = absurd (cc)
  defined_by (defs.Interval t low high span ∷ rest) e = defined_by rest e
  defined_by (defs.Integers t first others span ∷ rest) e = defined_by rest e
  defined_by (defs.Invariant t first others term span ∷ rest) e = defined_by rest e
  defined_by (defs.Rule t params rule span ∷ rest) e =
      one_more scope (defined_in rest ++ tail) name body
      (record { name = t; is_rule = true; items = rule_items rule }) refl (defined_by rest e)
  defined_by (defs.Function t params term span ∷ rest) e =
      by_test (bytes_eq (text_of t) name) refl e (λ h. defined_by rest h)
    where
      by_test : (b : Bool) → bytes_eq (text_of t) name ≡ b
          → (if b then Some (body_checked scope params term).term
          else definition_of scope name rest) ≡ Some body
          → (definition_of scope name rest ≡ Some body
          → DefinedBy scope (defined_in rest ++ tail) name body)
          → DefinedBy scope (defined_in (defs.Function t params term span ∷ rest) ++ tail) name body
      by_test true same h go = record {
        place = 0;
        definition = record { name = t; is_rule = false; items = term_items term };
        term = term;
        variables = with_params scope params;
        first = here (is_called false name)
            (record { name = t; is_rule = false; items = term_items term })
            (defined_in rest ++ tail) same;
        items = refl;
        body_is = some_same (body_checked scope params term).term body h;
      }
      by_test false same h go =
          one_more scope (defined_in rest ++ tail) name body
          (record { name = t; is_rule = false; items = term_items term }) same (go h)

-- ---- the number that a name has

-- a name that stands for a function's number is the name of that function
abbrev IsNameOf : List FunctionInfo → List ℕ → Named → Type 0
IsNameOf functions q (named.Function f) = name_at functions f ≡ Some q
IsNameOf functions q (named.Macro m) = Unit {0}
IsNameOf functions q (named.Enum d) = Unit {0}
IsNameOf functions q (named.Abstract d) = Unit {0}
IsNameOf functions q (named.Subset d) = Unit {0}
IsNameOf functions q (named.Literal d i) = Unit {0}
IsNameOf functions q named.Main = Unit {0}

abbrev AreNamesOf : List FunctionInfo → Names → Type 0
AreNamesOf functions ns = AllByRecursion (λ (x : List ℕ × Named). IsNameOf functions x.0 x.1) ns

names_both : (functions : List FunctionInfo) (ns ms : Names) → AreNamesOf functions ns
    → AreNamesOf functions ms → AreNamesOf functions (ns ++ ms)
names_both functions ns ms h k =
    all_append (λ (x : List ℕ × Named). IsNameOf functions x.0 x.1) ns ms h k

literals_are : (functions : List FunctionInfo) (d i : ℕ) (ts : List Token)
    → AreNamesOf functions (literals_from d i ts)
literals_are functions d i [] = tt
literals_are functions d i (t ∷ ts) = (tt, literals_are functions d (i + 1) ts)

macros_are : (functions : List FunctionInfo) (m : ℕ) (ds : List DefTree)
    → AreNamesOf functions (macro_names m ds)
macros_are functions m [] = tt
macros_are functions m (defs.Interval t low high span ∷ ds) = macros_are functions m ds
macros_are functions m (defs.Integers t first others span ∷ ds) = macros_are functions m ds
macros_are functions m (defs.Function t params term span ∷ ds) = macros_are functions m ds
macros_are functions m (defs.Rule t params rule span ∷ ds) = (tt, macros_are functions (m + 1) ds)
macros_are functions m (defs.Invariant t first others term span ∷ ds) = macros_are functions m ds

-- the functions from this number on are these
abbrev GoOn : List FunctionInfo → ℕ → List FunctionInfo → Type 0
GoOn functions f rest = (k : ℕ) → slice_get functions (f + k) ≡ slice_get rest k

first_name : (functions rest : List FunctionInfo) (f : ℕ) (info : FunctionInfo)
    → GoOn functions f (info ∷ rest) → name_at functions f ≡ Some info.name
first_name functions rest f info h =
    let same : f ≡ f + 0 = omega arith in
    ap (name_at functions) same
    ∙ ap (option_map (λ (x : FunctionInfo). x.name)) (h 0)

next_on : (functions rest : List FunctionInfo) (f : ℕ) (info : FunctionInfo)
    → GoOn functions f (info ∷ rest) → GoOn functions (f + 1) rest
next_on functions rest f info h k =
    let same : f + 1 + k ≡ f + suc k = omega arith in
    ap (slice_get functions) same ∙ h (suc k)

module _ (functions : List FunctionInfo) (scope : Scope) (all : List DefTree) where
  decls_are : (d f : ℕ) (ds : List DeclTree)
      → GoOn functions f (filter_map (function_in scope all) ds)
      → AreNamesOf functions (decl_names d f ds)
  decls_are d f [] h = tt
  decls_are d f (decls.Enum name first others span ∷ ds) h = (
    tt,
    names_both functions (literals_from d 0 (first ∷ others)) (decl_names (d + 1) f ds)
        (literals_are functions d 0 (first ∷ others)) (decls_are (d + 1) f ds h),
  )
  decls_are d f (decls.Abstract name span ∷ ds) h = (tt, decls_are (d + 1) f ds h)
  decls_are d f (decls.Subset name base span ∷ ds) h = (tt, decls_are (d + 1) f ds h)
  decls_are d f (decls.Defined kind name first next span ∷ ds) h = (
    first_name functions (filter_map (function_in scope all) ds) f _ h,
    decls_are d (f + 1) ds (next_on functions (filter_map (function_in scope all) ds) f _ h),
  )
  decls_are d f (decls.Dynamic kind name first next span ∷ ds) h = (
    first_name functions (filter_map (function_in scope all) ds) f _ h,
    decls_are d (f + 1) ds (next_on functions (filter_map (function_in scope all) ds) f _ h),
  )

from_start : (functions : List FunctionInfo) → GoOn functions 0 functions
from_start functions k = let same : 0 + k ≡ k = omega arith in ap (slice_get functions) same

pub name_of_function : (tree : ModelTree) (q : List ℕ) (f : ℕ)
    → find (names_of tree) q ≡ Some (named.Function f) → name_at (functions_in tree) f ≡ Some q
name_of_function tree q f e =
    let functions = functions_in tree in
    found_is (IsNameOf functions) (names_of tree)
    (names_both functions (decl_names 0 0 tree.decls ++ macro_names 0 tree.defs)
    (named_as tree.rule_name named.Main ∷ [])
    (names_both functions (decl_names 0 0 tree.decls) (macro_names 0 tree.defs)
    (decls_are functions (scope_of tree) tree.defs 0 0 tree.decls (from_start functions))
    (macros_are functions 0 tree.defs))
    (tt, tt))
    q (named.Function f) e
