-- The first definition that reaches itself is the first that is refused.
use Rattle.std.proofs.Common.{◌≡◌, ℕ, zero, suc, ◌+◌, ◌<◌, Bool, true, false, if◌then◌else◌}
use Rattle.std.proofs.Common.{Some, Result, List, [], ◌∷◌, ◌++◌, length, slice_get}
use Rattle.std.proofs.Common.{refl, sym, ap, subst, ◌∙◌, arith}
use Rattle.std.proofs.lemmas.List.{length-map}
use Rattle.asm_syntax.specs.declared.tree.ModelTree.{ModelTree}
use Rattle.asm_syntax.specs.Marks.{text_of}
use Rattle.asm_program.specs.declared.type_refusal.TypeRefusal.{TypeRefusal}
use Rattle.asm_program.specs.declared.type_refusal.TypeRefusal.TheVariants.{Duplicate, Unknown, Mismatch}
use Rattle.asm_program.specs.declared.type_refusal.TypeRefusal.TheVariants.{Recursive, NotEnumerable}
use Rattle.asm_program.specs.declared.type_refusal.TypeRefusal.TheVariants.{Missing, Limit, TooMuchWork}
use Rattle.asm_program.specs.declared.type_refusal.TypeRefusal.TheVariants.{NoMemory}
use Rattle.asm_program.specs.Checks.{IsFirst, Checks}
use Rattle.asm_program.specs.Calls.{CallGraph, Defined, is_recursive, recursive_from, call_graph}
use Rattle.asm_program.specs.Calls.{definitions, calls_refused, callee}
use Rattle.asm_calls.specs.Orders.{NoneRecursive, IsFirstRecursive, IsOrder}
use Rattle.asm_calls.specs.TextRefusals.{refused_in, IsRefusalAt}
use Rattle.std.specs.List.{filter_map}

same_first : (why : TypeRefusal) (xs ys : List TypeRefusal) → slice_get xs 0 ≡ slice_get ys 0
    → IsFirst why xs → IsFirst why ys
same_first (Duplicate name span) xs ys e h = sym e ∙ h
same_first (Unknown name span) xs ys e h = sym e ∙ h
same_first (Mismatch span) xs ys e h = sym e ∙ h
same_first (Recursive name span) xs ys e h = sym e ∙ h
same_first (NotEnumerable span) xs ys e h = sym e ∙ h
same_first (Missing name span) xs ys e h = sym e ∙ h
same_first (Limit kind n span) xs ys e h = sym e ∙ h
same_first (TooMuchWork n span) xs ys e h = sym e ∙ h
same_first NoMemory xs ys e h = tt

module _ (graph : CallGraph) where
  -- what is refused of one definition
  abbrev here : Bool → Defined → List TypeRefusal → List TypeRefusal
  here b d rest = (if b then Recursive (text_of d.name) d.name.span ∷ [] else []) ++ rest

  none_from : (n : ℕ) (ds : List Defined) → NoneRecursive graph → recursive_from graph n ds ≡ []
  none_from n [] none = refl
  none_from n (d ∷ ds) none =
      ap (λ b. here b d (recursive_from graph (n + 1) ds)) (none n) ∙ none_from (n + 1) ds none

  first_from : (n at : ℕ) (ds : List Defined)
      → ((k : ℕ) → k < at → is_recursive graph (n + k) ≡ false)
      → is_recursive graph (n + at) ≡ true → at < length ds
      → slice_get (refused_in (slice_get ds at)) 0 ≡ slice_get (recursive_from graph n ds) 0
  first_from n at [] before so low = absurd (omega (arith, low))
  first_from n zero (d ∷ ds) before so low =
      let e : n + 0 ≡ n = omega arith in
      ap (λ b. slice_get (here b d (recursive_from graph (n + 1) ds)) 0)
      (sym (ap (is_recursive graph) (sym e) ∙ so))
  first_from n (suc at) (d ∷ ds) before so low =
      let e : n + 0 ≡ n = omega arith in
      let next : n + suc at ≡ n + 1 + at = omega arith in
      first_from (n + 1) at ds
      (λ k l. moved k (before (suc k) (omega (arith, l))))
      (ap (is_recursive graph) (sym next) ∙ so) (omega (arith, low))
      ∙ ap (λ b. slice_get (here b d (recursive_from graph (n + 1) ds)) 0)
      (sym (ap (is_recursive graph) (sym e) ∙ before 0 (omega arith)))
    where
      moved : (k : ℕ) → is_recursive graph (n + suc k) ≡ false
          → is_recursive graph (n + 1 + k) ≡ false
      moved k h = let e : n + 1 + k ≡ n + suc k = omega arith in ap (is_recursive graph) e ∙ h

pub none_refused : (graph : CallGraph) (ds : List Defined) → NoneRecursive graph
    → recursive_from graph 0 ds ≡ []
none_refused graph ds none = none_from graph 0 ds none

pub first_refused : (graph : CallGraph) (ds : List Defined) (at : ℕ) (why : TypeRefusal)
    → IsFirstRecursive graph (Some at) → at < length ds → IsRefusalAt ds at why
    → IsFirst why (recursive_from graph 0 ds)
first_refused graph ds at why first low h =
    same_first why (refused_in (slice_get ds at)) (recursive_from graph 0 ds)
    (first_from graph 0 at ds (λ k l. from_zero k (first.2 k l)) so low) h
  where
    from_zero : (k : ℕ) → is_recursive graph k ≡ false → is_recursive graph (0 + k) ≡ false
    from_zero k e = let z : 0 + k ≡ k = omega arith in ap (is_recursive graph) z ∙ e

    so : is_recursive graph (0 + at) ≡ true
    so = let z : 0 + at ≡ at = omega arith in ap (is_recursive graph) z ∙ first.1

pub length-call_graph : (ds : List Defined) (graph : CallGraph) → graph ≡ call_graph ds
    → length graph ≡ length ds
length-call_graph ds graph e =
    ap length e ∙ length-map ds (λ (d : Defined). filter_map (callee ds) d.items)

-- a text is refused by its definitions
pub of_definitions : (tree : ModelTree) (ds : List Defined) (graph : CallGraph)
    (result : Result (List ℕ) TypeRefusal) → ds ≡ definitions tree → graph ≡ call_graph ds
    → Checks result (recursive_from graph 0 ds) (IsOrder graph)
    → Checks result (calls_refused tree) (IsOrder (call_graph (definitions tree)))
of_definitions tree ds graph result e f h =
    subst (λ es. Checks result (recursive_from (call_graph es) 0 es) (IsOrder (call_graph es))) e
    (subst (λ g. Checks result (recursive_from g 0 ds) (IsOrder g)) f h)
