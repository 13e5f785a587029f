-- The definition of each macro rule.
use Rattle.std.proofs.Common.{◌≡◌, ℕ, zero, suc, ◌+◌, true, false, Option, Some, List}
use Rattle.std.proofs.Common.{[], ◌∷◌, ◌++◌, map, slice_get, option_map, refl, ap, ◌∙◌, arith}
use Rattle.std.specs.List.{AllByRecursion}
use Rattle.std.proofs.lemmas.Slice.Eq.{bytes_eq-Decides}
use Rattle.asm_value.proofs.RangeLaws.{all_append}
use Rattle.asm_syntax.specs.declared.token.Span.{Span}
use Rattle.asm_syntax.specs.declared.token.Token.{Token}
use Rattle.asm_syntax.specs.declared.tree.ParamsTree.{ParamsTree}
use Rattle.asm_syntax.specs.declared.tree.RuleTree.{RuleTree}
use Rattle.asm_syntax.specs.declared.tree.DeclTree.{DeclTree}
use Rattle.asm_syntax.specs.declared.tree.DeclTree.TheVariants as decls
use Rattle.asm_syntax.specs.declared.tree.DefTree.{DefTree}
use Rattle.asm_syntax.specs.declared.tree.DefTree.TheVariants as defs
use Rattle.asm_syntax.specs.declared.tree.ModelTree.{ModelTree}
use Rattle.asm_syntax.specs.Marks.{text_of}
use Rattle.asm_program.specs.declared.named.Named.{Named}
use Rattle.asm_program.specs.declared.named.Named.TheVariants as named
use Rattle.asm_program.specs.declared.trees.Rule.{Rule}
use Rattle.asm_program.specs.declared.program.MacroInfo.{MacroInfo}
use Rattle.asm_program.specs.declared.type_refusal.Limited.TheVariants as limited
use Rattle.asm_program.specs.Forms.{rule_of}
use Rattle.asm_program.specs.Items.{Items, Counts, declares, params_items, term_items, rule_items}
use Rattle.asm_program.specs.Items.{decl_items, joined, defs_items, invariant_items, start_items}
use Rattle.asm_program.specs.Items.{starts_of, model_items}
use Rattle.asm_program.specs.NamesPass.{Seen, nothing_seen, refused_at}
use Rattle.asm_program.specs.NamesPass.{seen_after, names_refused_from, names_refused}
use Rattle.asm_program.specs.Signatures.{Names, find, literals_from, decl_names, macro_names}
use Rattle.asm_program.specs.Signatures.{names_of, named_as}
use Rattle.asm_program.specs.Calls.{Defined, defined_in, definitions, is_called}
use Rattle.asm_program.specs.TypedTerms.{Scope, Variables}
use Rattle.asm_program.specs.TypedRules.{checked_rule}
use Rattle.asm_program.specs.TypedModels.{scope_of, with_params, macro_checked}
use Rattle.asm_program.specs.Typed.{macros_from}
use Rattle.asm_program.proofs.Refusals.{both_nil}
use Rattle.asm_typed_calls.specs.CalledNames.{macros_in}
use Rattle.asm_typed_calls.proofs.Named.{found_is}
use Rattle.asm_typed_calls.proofs.Places.{IsFirstOf, here, later}
use Rattle.asm_typed_calls.proofs.UsedNames.{IsNew, new_unused, new_first, new_rest, after}
use Rattle.asm_typed_calls.proofs.UsedNames.{unrefused_before, unrefused_after, new_before}

abbrev pub name_at : List MacroInfo → ℕ → Option (List ℕ)
name_at macros m = option_map (λ (info : MacroInfo). info.name) (slice_get macros m)

-- ---- the definition of a macro rule

-- the definition of this macro rule, which is the first of its name, and its rule
pub record RuleDefined (scope : Scope) (ds : List Defined) (macros : List MacroInfo) (m : ℕ)
    (body : Rule) (name : List ℕ) : Type 0 where
  pub place : ℕ
  pub definition : Defined
  pub rule : RuleTree
  pub variables : Variables
  pub count : ℕ
  pub is : name_at macros m ≡ Some name
  pub first : IsFirstOf (is_called true name) ds place definition
  pub items : definition.items ≡ rule_items rule
  pub body_is : (checked_rule scope rule variables).rule count ≡ body

-- its name is none of those before
record NewlyDefined (scope : Scope) (ds : List Defined) (macros : List MacroInfo) (m : ℕ)
    (body : Rule) (seen : Seen) : Type 0 where
  pub name : List ℕ
  pub found : RuleDefined scope ds macros m body name
  pub new : IsNew name seen.names

module _ (scope : Scope) where
  -- a definition before, which has another name, and which has no macro rule or the one before
  one_more : (ds : List Defined) (macros others : List MacroInfo) (m k : ℕ) (body : Rule)
      (name : List ℕ) (d : Defined) → RuleDefined scope ds macros m body name
      → slice_get others k ≡ slice_get macros m → is_called true name d ≡ false
      → RuleDefined scope (d ∷ ds) others k body name
  one_more ds macros others m k body name d h same differs = record {
    place = suc h.place;
    definition = h.definition;
    rule = h.rule;
    variables = h.variables;
    count = h.count;
    is = ap (option_map (λ (info : MacroInfo). info.name)) same ∙ h.is;
    first = later (is_called true name) d h.definition ds h.place differs h.first;
    items = h.items;
    body_is = h.body_is;
  }

  -- items before
  passed : (ds : List Defined) (macros : List MacroInfo) (m : ℕ) (body : Rule) (seen : Seen)
      (xs : Items) → NewlyDefined scope ds macros m body (after seen xs)
      → NewlyDefined scope ds macros m body seen
  passed ds macros m body seen xs h =
      record { name = h.name; found = h.found; new = new_before xs h.name seen h.new }

some_same : {A : Type 0} (a b : A) → Some a ≡ Some b → a ≡ b
some_same a b e = cc

module _ (scope : Scope) (tail : List Defined) where
  abbrev Found : ℕ → List DefTree → ℕ → Rule → Seen → Type 0
  Found n ds m body seen =
      NewlyDefined scope (defined_in ds ++ tail) (macros_from scope n ds) m body seen

  function_passed : (n m : ℕ) (body : Rule) (seen : Seen) (t : Token) (xs : Items)
      (ds : List DefTree) → Found n ds m body (after seen xs)
      → (items : Items) → NewlyDefined scope
      (record { name = t; is_rule = false; items = items } ∷ defined_in ds ++ tail)
      (macros_from scope n ds) m body seen
  function_passed n m body seen t xs ds h items = record {
    name = h.name;
    found = one_more scope (defined_in ds ++ tail) (macros_from scope n ds)
        (macros_from scope n ds) m m body h.name
        (record { name = t; is_rule = false; items = items }) h.found refl refl;
    new = new_before xs h.name seen h.new;
  }

  -- what is seen behind the name of a macro rule
  abbrev named_after : Seen → Token → Span → Seen
  named_after seen t span = seen_after (seen_after seen (Counts limited.Macros span)) (declares t)

  rest_unrefused : (seen : Seen) (t : Token) (span : Span) (xs ys : Items)
      → names_refused_from seen (Counts limited.Macros span ∷ declares t ∷ (xs ++ ys)) ≡ []
      → (IsNew (text_of t) seen.names)
      × (names_refused_from (after (named_after seen t span) xs) ys ≡ [])
  rest_unrefused seen t span xs ys e =
      let one = seen_after seen (Counts limited.Macros span) in
      let first = both_nil (refused_at seen (Counts limited.Macros span))
      (names_refused_from one (declares t ∷ (xs ++ ys))) e in
      let second = both_nil (refused_at one (declares t))
      (names_refused_from (named_after seen t span) (xs ++ ys)) first.1 in (
        new_unused (text_of t) t.span seen.names second.0,
        unrefused_after xs ys (named_after seen t span) second.1,
      )

  rule_first : (n : ℕ) (seen : Seen) (t : Token) (params : Option ParamsTree) (rule : RuleTree)
      (span : Span) (ds : List DefTree) (body : Rule) → IsNew (text_of t) seen.names
      → (macro_checked scope params rule).rule n ≡ body
      → Found n (defs.Rule t params rule span ∷ ds) zero body seen
  rule_first n seen t params rule span ds body new e = record {
    name = text_of t;
    found = record {
      place = 0;
      definition = record { name = t; is_rule = true; items = rule_items rule };
      rule = rule;
      variables = with_params scope params;
      count = n;
      is = refl;
      first = here (is_called true (text_of t))
          (record { name = t; is_rule = true; items = rule_items rule }) (defined_in ds ++ tail)
          ((bytes_eq-Decides (text_of t) (text_of t)).1 refl);
      items = refl;
      body_is = e;
    };
    new = new;
  }

  rule_passed : (n : ℕ) (seen : Seen) (t : Token) (params : Option ParamsTree) (rule : RuleTree)
      (span : Span) (ds : List DefTree) (m : ℕ) (body : Rule) (xs : Items)
      → Found (n + (macro_checked scope params rule).chooses) ds m body
      (after (named_after seen t span) xs)
      → Found n (defs.Rule t params rule span ∷ ds) (suc m) body seen
  rule_passed n seen t params rule span ds m body xs h =
      let q = h.name in
      let behind : IsNew q (text_of t ∷ seen.names) =
      new_before xs q (named_after seen t span) h.new in
      record {
        name = q;
        found = one_more scope (defined_in ds ++ tail)
            (macros_from scope (n + (macro_checked scope params rule).chooses) ds)
            (macros_from scope n (defs.Rule t params rule span ∷ ds)) m (suc m) body q
            (record { name = t; is_rule = true; items = rule_items rule }) h.found refl
            (new_first q (text_of t) seen.names behind);
        new = new_rest q (text_of t) seen.names behind;
      }

  newly_defined : (k n : ℕ) (seen : Seen) (ds : List DefTree) (m : ℕ) (body : Rule)
      → names_refused_from seen (defs_items k ds) ≡ []
      → rule_of (macros_from scope n ds) m ≡ Some body → Found n ds m body seen
  newly_defined k n seen [] m body none e = absurd (cc)
  newly_defined k n seen (defs.Interval t low high span ∷ ds) m body none e =
      newly_defined k n seen ds m body none e
  newly_defined k n seen (defs.Integers t first others span ∷ ds) m body none e =
      newly_defined k n seen ds m body none e
  newly_defined k n seen (defs.Function t params term span ∷ ds) m body none e =
      let xs = params_items params ++ term_items term in
      function_passed n m body seen t xs ds
      (newly_defined k n (after seen xs) ds m body
      (unrefused_after xs (defs_items k ds) seen none) e) (term_items term)
  newly_defined k n seen (defs.Invariant t first others term span ∷ ds) m body none e =
      let xs = invariant_items k t span ++ term_items term in
      passed scope (defined_in ds ++ tail) (macros_from scope n ds) m body seen xs
      (newly_defined (k + 1) n (after seen xs) ds m body
      (unrefused_after xs (defs_items (k + 1) ds) seen none) e)
  newly_defined k n seen (defs.Rule t params rule span ∷ ds) zero body none e =
      let xs = params_items params ++ rule_items rule in
      rule_first n seen t params rule span ds body
      (rest_unrefused seen t span xs (defs_items k ds) none).0
      (some_same ((macro_checked scope params rule).rule n) body e)
  newly_defined k n seen (defs.Rule t params rule span ∷ ds) (suc m) body none e =
      let xs = params_items params ++ rule_items rule in
      let c = macro_checked scope params rule in
      rule_passed n seen t params rule span ds m body xs
      (newly_defined k (n + c.chooses) (after (named_after seen t span) xs) ds m body
      (rest_unrefused seen t span xs (defs_items k ds) none).1 e)

-- those of a text in which no name is refused
pub rule_defined : (tree : ModelTree) → names_refused (model_items tree) ≡ [] → (m : ℕ)
    (body : Rule) → rule_of (macros_in tree) m ≡ Some body
    → (name : List ℕ) × RuleDefined (scope_of tree) (definitions tree) (macros_in tree) m body name
rule_defined tree none m body e =
    let before = joined (map decl_items tree.decls) in
    let ds = defs_items 1 tree.defs in
    let main = Counts limited.Macros tree.main ∷ declares tree.rule_name ∷ rule_items tree.rule in
    let starts = start_items (starts_of tree.init) in
    let found =
    newly_defined (scope_of tree)
    (record { name = tree.rule_name; is_rule = true; items = rule_items tree.rule } ∷ []) 1 0
    (after nothing_seen before) tree.defs m body
    (unrefused_after before ds nothing_seen
    (unrefused_before (before ++ ds) main nothing_seen
    (unrefused_before (before ++ ds ++ main) starts nothing_seen none))) e in
    (found.name, found.found)

-- ---- the number that a name has

-- a name that stands for a macro rule's number is the name of that macro rule
abbrev IsNameOf : List MacroInfo → List ℕ → Named → Type 0
IsNameOf macros q (named.Macro m) = name_at macros m ≡ Some q
IsNameOf macros q (named.Function f) = Unit {0}
IsNameOf macros q (named.Enum d) = Unit {0}
IsNameOf macros q (named.Abstract d) = Unit {0}
IsNameOf macros q (named.Subset d) = Unit {0}
IsNameOf macros q (named.Literal d i) = Unit {0}
IsNameOf macros q named.Main = Unit {0}

abbrev AreNamesOf : List MacroInfo → Names → Type 0
AreNamesOf macros ns = AllByRecursion (λ (x : List ℕ × Named). IsNameOf macros x.0 x.1) ns

names_both : (macros : List MacroInfo) (ns ms : Names) → AreNamesOf macros ns
    → AreNamesOf macros ms → AreNamesOf macros (ns ++ ms)
names_both macros ns ms h k =
    all_append (λ (x : List ℕ × Named). IsNameOf macros x.0 x.1) ns ms h k

literals_are : (macros : List MacroInfo) (d i : ℕ) (ts : List Token)
    → AreNamesOf macros (literals_from d i ts)
literals_are macros d i [] = tt
literals_are macros d i (t ∷ ts) = (tt, literals_are macros d (i + 1) ts)

decls_are : (macros : List MacroInfo) (d f : ℕ) (ds : List DeclTree)
    → AreNamesOf macros (decl_names d f ds)
decls_are macros d f [] = tt
decls_are macros d f (decls.Enum name first others span ∷ ds) = (
  tt,
  names_both macros (literals_from d 0 (first ∷ others)) (decl_names (d + 1) f ds)
      (literals_are macros d 0 (first ∷ others)) (decls_are macros (d + 1) f ds),
)
decls_are macros d f (decls.Abstract name span ∷ ds) = (tt, decls_are macros (d + 1) f ds)
decls_are macros d f (decls.Subset name base span ∷ ds) = (tt, decls_are macros (d + 1) f ds)
decls_are macros d f (decls.Defined kind name first next span ∷ ds) =
    (tt, decls_are macros d (f + 1) ds)
decls_are macros d f (decls.Dynamic kind name first next span ∷ ds) =
    (tt, decls_are macros d (f + 1) ds)

-- the macro rules from this number on are these
abbrev GoOn : List MacroInfo → ℕ → List MacroInfo → Type 0
GoOn macros m rest = (k : ℕ) → slice_get macros (m + k) ≡ slice_get rest k

first_name : (macros rest : List MacroInfo) (m : ℕ) (info : MacroInfo)
    → GoOn macros m (info ∷ rest) → name_at macros m ≡ Some info.name
first_name macros rest m info h =
    let same : m ≡ m + 0 = omega arith in
    ap (name_at macros) same ∙ ap (option_map (λ (x : MacroInfo). x.name)) (h 0)

next_on : (macros rest : List MacroInfo) (m : ℕ) (info : MacroInfo)
    → GoOn macros m (info ∷ rest) → GoOn macros (m + 1) rest
next_on macros rest m info h k =
    let same : m + 1 + k ≡ m + suc k = omega arith in
    ap (slice_get macros) same ∙ h (suc k)

module _ (macros : List MacroInfo) (scope : Scope) where
  macros_are : (m n : ℕ) (ds : List DefTree) → GoOn macros m (macros_from scope n ds)
      → AreNamesOf macros (macro_names m ds)
  macros_are m n [] h = tt
  macros_are m n (defs.Interval t low high span ∷ ds) h = macros_are m n ds h
  macros_are m n (defs.Integers t first others span ∷ ds) h = macros_are m n ds h
  macros_are m n (defs.Function t params term span ∷ ds) h = macros_are m n ds h
  macros_are m n (defs.Invariant t first others term span ∷ ds) h = macros_are m n ds h
  macros_are m n (defs.Rule t params rule span ∷ ds) h =
      let later_ = n + (macro_checked scope params rule).chooses in (
        first_name macros (macros_from scope later_ ds) m _ h,
        macros_are (m + 1) later_ ds (next_on macros (macros_from scope later_ ds) m _ h),
      )

from_start : (macros : List MacroInfo) → GoOn macros 0 macros
from_start macros k = let same : 0 + k ≡ k = omega arith in ap (slice_get macros) same

pub name_of_macro : (tree : ModelTree) (q : List ℕ) (m : ℕ)
    → find (names_of tree) q ≡ Some (named.Macro m) → name_at (macros_in tree) m ≡ Some q
name_of_macro tree q m e =
    let macros = macros_in tree in
    found_is (IsNameOf macros) (names_of tree)
    (names_both macros (decl_names 0 0 tree.decls ++ macro_names 0 tree.defs)
    (named_as tree.rule_name named.Main ∷ [])
    (names_both macros (decl_names 0 0 tree.decls) (macro_names 0 tree.defs)
    (decls_are macros 0 0 tree.decls)
    (macros_are macros (scope_of tree) 0 0 tree.defs (from_start macros)))
    (tt, tt))
    q (named.Macro m) e
