-- What is shown of a state is its defined functions with their values, ascending by name.
use Rattle.std.proofs.Common.{◌≡◌, ◌≢◌, ⊎_elim, ℕ, zero, suc, ◌+◌, List, [], ◌∷◌, Option, None, Some, slice_get, refl, sym, subst, ◌∙◌, arith}
use Rattle.std.specs.List.{Contains}
use Rattle.asm_value.specs.declared.domain.DomainInfo.{DomainInfo}
use Rattle.asm_value.specs.State.{StateMap}
use Rattle.asm_program.specs.declared.program.FunctionInfo.{FunctionInfo}
use Rattle.asm_program.specs.declared.program.Program.{Program}
use Rattle.asm_portable.specs.declared.port.Port.{Port}
use Rattle.asm_portable.specs.declared.port.Field.{Field}
use Rattle.asm_portable.specs.Ports.{field, ascending, AscendByKey}
use Rattle.asm_portable.proofs.Ascending.{Has, Has-from_Contains, Contains-from_Has, Has-put_by, put_by-itself, put_by-other, put_by-ascends, none_ascends}
use Rattle.asm_board.specs.Shown.{function_shown, shown_field, defined, every_kind, functions_listed, IsDefinedFunction, NamesDiffer}

-- ---- the fields ascend by key

pub ascending_ascends : (fs : List Field) → AscendByKey (ascending fs)
ascending_ascends [] = none_ascends (λ (f : Field). f.key)
ascending_ascends (f ∷ fs) = put_by-ascends (λ (g : Field). g.key) f (ascending fs) (ascending_ascends fs)

-- ---- what is shown is defined

module _ (domains : List DomainInfo) (state : StateMap) where
  abbrev tree_of : ℕ → FunctionInfo → Option Port
  tree_of number info = function_shown domains state number info.args

  abbrev listed_from : ℕ → List FunctionInfo → List Field
  listed_from first fs = ascending (defined every_kind domains state first fs)

  -- the field is that of a defined function among these, of which this is the number of the first
  record IsAmong (first : ℕ) (fs : List FunctionInfo) (shown : Field) : Type 0 where
    at : ℕ
    info : FunctionInfo
    tree : Port
    found : slice_get fs at ≡ Some info
    defined : tree_of (first + at) info ≡ Some tree
    is : shown ≡ field info.name tree

  later : (first : ℕ) (f : FunctionInfo) (fs : List FunctionInfo) (shown : Field) → IsAmong (first + 1) fs shown → IsAmong first (f ∷ fs) shown
  later first f fs shown h =
      let same : first + 1 + h.at ≡ first + suc h.at = omega arith in
      record {
        at = suc h.at;
        info = h.info;
        tree = h.tree;
        found = h.found;
        defined = subst (λ n. tree_of n h.info ≡ Some h.tree) same h.defined;
        is = h.is;
      }

  here : (first : ℕ) (f : FunctionInfo) (fs : List FunctionInfo) (shown : Field) (tree : Port) → tree_of first f ≡ Some tree → field f.name tree ≡ shown
      → IsAmong first (f ∷ fs) shown
  here first f fs shown tree some is =
      let same : first ≡ first + 0 = omega arith in
      record {
        at = 0;
        info = f;
        tree = tree;
        found = refl;
        defined = subst (λ n. tree_of n f ≡ Some tree) same some;
        is = sym is;
      }

  among_at : (first : ℕ) (f : FunctionInfo) (fs : List FunctionInfo) (shown : Field) (o : Option Port) → tree_of first f ≡ o
      → (Has (listed_from (first + 1) fs) shown → IsAmong (first + 1) fs shown)
      → Has (ascending (shown_field f.name o (defined every_kind domains state (first + 1) fs))) shown → IsAmong first (f ∷ fs) shown
  among_at first f fs shown None is rest h = later first f fs shown (rest h)
  among_at first f fs shown (Some tree) is rest h =
      ⊎_elim (λ e. here first f fs shown tree is e) (λ i. later first f fs shown (rest i)) (Has-put_by (λ (g : Field). g.key) (field f.name tree) (listed_from (first + 1) fs) shown h)

  among : (first : ℕ) (fs : List FunctionInfo) (shown : Field) → Has (listed_from first fs) shown → IsAmong first fs shown
  among first [] shown h = absurd h
  among first (f ∷ fs) shown h = among_at first f fs shown (tree_of first f) refl (among (first + 1) fs shown) h

pub shown_is_defined : (program : Program) (state : StateMap) (shown : Field) → Contains (functions_listed program state) shown → IsDefinedFunction program state shown
shown_is_defined program state shown h =
    let a = among program.domains state 0 program.functions shown (Has-from_Contains (functions_listed program state) shown h) in
    let same : 0 + a.at ≡ a.at = omega arith in
    record {
      number = a.at;
      info = a.info;
      tree = a.tree;
      found = a.found;
      defined = subst (λ n. tree_of program.domains state n a.info ≡ Some a.tree) same a.defined;
      is = a.is;
    }

-- ---- what is defined is shown, where names differ

abbrev Differ : List FunctionInfo → Type 0
Differ fs = (i j : ℕ) (f g : FunctionInfo) → slice_get fs i ≡ Some f → slice_get fs j ≡ Some g → f.name ≡ g.name → i ≡ j

differ_tail : (f : FunctionInfo) (fs : List FunctionInfo) → Differ (f ∷ fs) → Differ fs
differ_tail f fs differ i j g h found other same = let one : suc i ≡ suc j = differ (suc i) (suc j) g h found other same in omega (arith, one)

head_differs : (f : FunctionInfo) (fs : List FunctionInfo) (i : ℕ) (g : FunctionInfo) → Differ (f ∷ fs) → slice_get fs i ≡ Some g → g.name ≢ f.name
head_differs f fs i g differ found same = let one : suc i ≡ 0 = differ (suc i) 0 g f found refl same in omega (arith, one)

module _ (domains : List DomainInfo) (state : StateMap) where
  itself_at : (first : ℕ) (f : FunctionInfo) (fs : List FunctionInfo) (tree : Port) (o : Option Port) → o ≡ Some tree
      → Has (ascending (shown_field f.name o (defined every_kind domains state (first + 1) fs))) (field f.name tree)
  itself_at first f fs tree None is = absurd (cc (is))
  itself_at first f fs tree (Some other) is =
      let same : other ≡ tree = cc (is) in
      subst (λ (t : Port). Has (ascending (shown_field f.name (Some other) (defined every_kind domains state (first + 1) fs))) (field f.name t)) same
      (put_by-itself (λ (g : Field). g.key) (field f.name other) (listed_from domains state (first + 1) fs))

  other_at : (first : ℕ) (f : FunctionInfo) (fs : List FunctionInfo) (shown : Field) (o : Option Port) → shown.key ≢ f.name
      → Has (listed_from domains state (first + 1) fs) shown
      → Has (ascending (shown_field f.name o (defined every_kind domains state (first + 1) fs))) shown
  other_at first f fs shown None differs rest = rest
  other_at first f fs shown (Some tree) differs rest = put_by-other (λ (g : Field). g.key) (field f.name tree) (listed_from domains state (first + 1) fs) shown differs rest

  listed : (first : ℕ) (fs : List FunctionInfo) (at : ℕ) (info : FunctionInfo) (tree : Port) → Differ fs → slice_get fs at ≡ Some info → tree_of domains state (first + at) info ≡ Some tree
      → Has (listed_from domains state first fs) (field info.name tree)
  listed first [] at info tree differ found some = absurd (cc (found))
  listed first (f ∷ fs) zero info tree differ found some =
      let same : first + 0 ≡ first = omega arith in
      let is : f ≡ info = cc (found) in
      let there : tree_of domains state first f ≡ Some tree = (λ i. tree_of domains state (sym same i) (is i)) ∙ some in
      subst (λ (x : FunctionInfo). Has (listed_from domains state first (f ∷ fs)) (field x.name tree)) is
      (itself_at first f fs tree (tree_of domains state first f) there)
  listed first (f ∷ fs) (suc at) info tree differ found some =
      let same : first + suc at ≡ first + 1 + at = omega arith in
      let rest = listed (first + 1) fs at info tree (differ_tail f fs differ) found (subst (λ n. tree_of domains state n info ≡ Some tree) same some) in
      other_at first f fs (field info.name tree) (tree_of domains state first f) (head_differs f fs at info differ found) rest

pub defined_is_shown : (program : Program) (state : StateMap) (shown : Field) → NamesDiffer program → IsDefinedFunction program state shown → Contains (functions_listed program state) shown
defined_is_shown program state shown differ h =
    let same : h.number ≡ 0 + h.number = omega arith in
    let there = listed program.domains state 0 program.functions h.number h.info h.tree differ h.found (subst (λ n. tree_of program.domains state n h.info ≡ Some h.tree) same h.defined) in
    Contains-from_Has (functions_listed program state) shown (subst (λ (x : Field). Has (functions_listed program state) x) (sym h.is) there)
