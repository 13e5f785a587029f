-- The definitions of a text, their numbers and their calls, one more at each turn of a loop.
use Rattle.std.proofs.Common.{◌≡◌, ℕ, ◌+◌, ◌<◌, ◌≤◌, Bool, true, false, cond}
use Rattle.std.proofs.Common.{if◌then◌else◌, Option, Some, None, List, [], ◌∷◌, ◌++◌, map, length, drop}
use Rattle.std.proofs.Common.{get_or, filter_map, append_assoc, append-nil, refl, sym, ap, subst}
use Rattle.std.proofs.Common.{◌∙◌, arith}
use Rattle.std.specs.List.{position_from, cons_option}
use Rattle.std.specs.HashMap.{HashMap}
use Rattle.std.specs.declared.string.String.{String}
use Rattle.std.proofs.lemmas.Map.Text.{text_keys}
use Rattle.std.specs.Map.{lookup}
use Rattle.std.specs.String.{string_bytes}
use Rattle.std.specs.Str.{bytes_eq}
use Rattle.std.proofs.lemmas.List.{drop_all, drop_more, length-map, get_or-map}
use Rattle.std.proofs.lemmas.Iterator.Adapters.{position_from-zero}
use Rattle.asm_syntax.specs.declared.tree.DefTree.{DefTree}
use Rattle.asm_syntax.specs.declared.tree.DefTree.TheVariants as defs
use Rattle.asm_syntax.specs.declared.tree.ModelTree.{ModelTree}
use Rattle.asm_syntax.specs.Marks.{text_of}
use Rattle.asm_program.specs.Items.{Item, Items, NamesFunction, NamesMacro, Counts, Declares}
use Rattle.asm_program.specs.Items.{DeclaresInvariant, Exceeds, Repeats, NamesDomain, NeedsIntegers}
use Rattle.asm_program.specs.Items.{GivesInterval, GivesIntegers}
use Rattle.asm_program.specs.Calls.{CallGraph, Defined, defined_in, definitions, is_called, callee}
use Rattle.asm_program.specs.Calls.{call_graph}
use Rattle.asm_calls.specs.declared.texts.Definition.{Definition}
use Rattle.asm_calls.specs.declared.texts.Index.{Index}
use Rattle.asm_calls.specs.Texts.{defined_as, all_defined, rule_of, defined_from, Numbers, Adds}
use Rattle.asm_calls.specs.Texts.{callee_in, with_call, calls_from, calls_in, graph_in, IsIndex}

-- ---- definitions

one_defined : (tree : DefTree) (rest : List DefTree)
    → defined_in (tree ∷ []) ++ defined_in rest ≡ defined_in (tree ∷ rest)
one_defined (defs.Interval name from to span) rest = refl
one_defined (defs.Integers name first others span) rest = refl
one_defined (defs.Function name params term span) rest = refl
one_defined (defs.Rule name params body span) rest = refl
one_defined (defs.Invariant name first others term span) rest = refl

defined_from-is : (ds : List Defined) (trees : List DefTree)
    → defined_from ds trees ≡ ds ++ defined_in trees
unfolding defined_from
defined_from-is ds [] = sym (append-nil ds)
defined_from-is ds (tree ∷ rest) =
    defined_from-is (ds ++ defined_in (tree ∷ [])) rest
    ∙ append_assoc ds (defined_in (tree ∷ [])) (defined_in rest)
    ∙ ap (λ xs. ds ++ xs) (one_defined tree rest)

pub all_definitions : (tree : ModelTree) (before all : List Defined) (d : Defined)
    → before ≡ defined_from [] tree.defs → d ≡ rule_of tree.rule_name tree.rule
    → all ≡ before ++ d ∷ [] → all ≡ definitions tree
all_definitions tree before all d e f g =
    g ∙ (λ i. e i ++ f i ∷ [])
    ∙ ap (λ xs. xs ++ rule_of tree.rule_name tree.rule ∷ []) (defined_from-is [] tree.defs)

pub ruleset definitions_steps = (all_definitions)

-- ---- numbers

pub ruleset numbering = (text_keys)

module _ {Y S : Type 0} (rules_ : Bool) where
  pub numbers_first : (n : ℕ) (ds : List Defined) (m : HashMap (String Y) ℕ S)
      → m.entries ≡ [] → length ds ≤ n → Numbers rules_ n (drop n ds) m
  unfolding Numbers
  numbers_first n ds m h long q =
      ap (lookup (λ k. bytes_eq q (string_bytes k))) h
      ∙ ap (position_from (is_called rules_ q) n) (sym (drop_all n ds long))

  more : (at next : ℕ) (ds : List Defined) (d : Defined) (old new : HashMap (String Y) ℕ S)
      → at < length ds → next ≡ at + 1 → d ≡ get_or ds at d
      → Numbers rules_ next (drop next ds) old → Adds rules_ at d old new
      → Numbers rules_ at (drop at ds) new
  unfolding Numbers Adds
  more at next ds d old new low e is h k q =
      k q
      ∙ ap (λ o. if is_called rules_ q d then Some at else o)
      (h q ∙ ap (λ n. position_from (is_called rules_ q) n (drop n ds)) e)
      ∙ ap (λ x. cond (is_called rules_ q x) (Some at)
      (position_from (is_called rules_ q) (at + 1) (drop (at + 1) ds))) is
      ∙ ap (position_from (is_called rules_ q) at) (sym (drop_more ds at d low))

  -- with one more of these definitions
  pub numbers_more : (at next last : ℕ) (all : List Definition) (d : Definition)
      (old new : HashMap (String Y) ℕ S)
      → at < length all → next ≡ at + 1 → last ≡ at → d ≡ get_or all at d
      → Numbers rules_ next (drop next (all_defined all)) old
      → Adds rules_ at (defined_as d) old new
      → Numbers rules_ last (drop last (all_defined all)) new
  numbers_more at next last all d old new low e f is h k =
      let long = length-map all defined_as in
      subst (λ n. Numbers rules_ n (drop n (all_defined all)) new) (sym f)
      (more at next (all_defined all) (defined_as d) old new (omega (arith, low, long)) e
      (ap defined_as is ∙ sym (get_or-map defined_as all at d (defined_as d) low)) h k)

  pub numbers_all : (n : ℕ) (ds : List Defined) (m : HashMap (String Y) ℕ S) → n ≡ 0
      → Numbers rules_ n (drop n ds) m → Numbers rules_ 0 ds m
  numbers_all n ds m e h = subst (λ k. Numbers rules_ k (drop k ds) m) e h

-- ---- calls

module _ (index : Index) (ds : List Defined) (has : IsIndex index ds) where
  same_callee : (item : Item) → callee_in index item ≡ callee ds item
  unfolding Numbers
  same_callee (NamesFunction t) =
      has.0 (text_of t) ∙ sym (position_from-zero (is_called false (text_of t)) ds)
  same_callee (NamesMacro t) =
      has.1 (text_of t) ∙ sym (position_from-zero (is_called true (text_of t)) ds)
  same_callee (Counts kind span) = refl
  same_callee (Declares name span) = refl
  same_callee (DeclaresInvariant name span) = refl
  same_callee (Exceeds kind n span) = refl
  same_callee (Repeats t) = refl
  same_callee (NamesDomain t) = refl
  same_callee (NeedsIntegers t span) = refl
  same_callee (GivesInterval t from to) = refl
  same_callee (GivesIntegers t integers) = refl

  one_call : (calls : List ℕ) (o : Option ℕ) (item : Item) (rest : Items) → o ≡ callee ds item
      → with_call calls o ++ filter_map (callee ds) rest
      ≡ calls ++ filter_map (callee ds) (item ∷ rest)
  one_call calls None item rest e =
      ap (λ o. calls ++ cons_option o (filter_map (callee ds) rest)) e
  one_call calls (Some n) item rest e =
      append_assoc calls (n ∷ []) (filter_map (callee ds) rest)
      ∙ ap (λ o. calls ++ cons_option o (filter_map (callee ds) rest)) e

  calls_from-is : (calls : List ℕ) (items : Items)
      → calls_from index calls items ≡ calls ++ filter_map (callee ds) items
  unfolding calls_from
  calls_from-is calls [] = sym (append-nil calls)
  calls_from-is calls (item ∷ rest) =
      calls_from-is (with_call calls (callee_in index item)) rest
      ∙ one_call calls (callee_in index item) item rest (same_callee item)

  calls_in-is : (items : Items) → calls_in index items ≡ filter_map (callee ds) items
  unfolding calls_in
  calls_in-is items = calls_from-is [] items

  graph_in-is : (some : List Defined)
      → graph_in index some ≡ map (λ (d : Defined). filter_map (callee ds) d.items) some
  graph_in-is [] = refl
  graph_in-is (d ∷ rest) = (λ i. calls_in-is d.items i ∷ graph_in-is rest i)

pub graph_is : (index : Index) (ds : List Defined) (graph : CallGraph) → IsIndex index ds
    → graph ≡ graph_in index ds → graph ≡ call_graph ds
graph_is index ds graph has e = e ∙ graph_in-is index ds has ds
