-- The order of portable trees is total, and only equal trees tie. Trees and fields are taken as the
-- nodes of one tree.
use Rattle.std.proofs.Common.{◌≡◌, ◌⊎◌, inl, inr, ℕ, ℤ, pos, true, false, List, [], ◌∷◌, map, refl, sym, ap, subst, ◌∙◌, rules, arith}
use Rattle.std.specs.List.{AllByRecursion}
use Rattle.std.specs.declared.cmp.Ordering.{Ordering}
use Rattle.std.specs.declared.cmp.Ordering.TheVariants.{Less, Equal, Greater}
use Rattle.std.specs.Ordering.{ordering_then, nat_cmp, int_cmp}
use Rattle.std.specs.Cmp.{IsTotalOrder, nat_cmp_total, int_cmp_total, then_total, on_total}
use Rattle.std.specs.Cmp.Lexicographic.{slice_cmp, nat_list_cmp_total}
use Rattle.std.specs.FinMap.{IsAntisymmetric, nat_cmp-IsAntisymmetric, int_cmp-IsAntisymmetric, slice_cmp-IsAntisymmetric}
use Rattle.asm_base.proofs.TreeOrder.{Inducts, GoesByParts, tree_ties, tree_total, then_equal}
use Rattle.asm_portable.specs.declared.port.Port.{Port}
use Rattle.asm_portable.specs.declared.port.Port.TheOpen.{Port-F, Field-F}
use Rattle.asm_portable.specs.declared.port.Port.TheFolds.{fold-Field, fold_out-Port, fold_out-Field, ind-Port, map-Port}
use Rattle.asm_portable.specs.declared.port.Port.TheViews.{out-Port, roll-Port, out-Field, roll-Field, the_lemmas}
use Rattle.asm_portable.specs.declared.port.Field.{Field}
use Rattle.asm_portable.specs.Ports.{fields_level}
use Rattle.asm_portable.specs.Order.{kind, number, bytes, items, head_cmp, parts_cmp, compare_head, port_cmp, field_cmp}

-- ---- what `port_cmp` computes

slice_cmp-map : {A C : Type 0} (f : A → C → Ordering) (xs : List A) (ys : List C)
    → slice_cmp (λ g. g) (map f xs) ys ≡ slice_cmp f xs ys
slice_cmp-map f [] [] = refl
slice_cmp-map f [] (y ∷ ys) = refl
slice_cmp-map f (x ∷ xs) [] = refl
slice_cmp-map f (x ∷ xs) (y ∷ ys) = ap (ordering_then (f x y)) (slice_cmp-map f xs ys)

-- the items or the fields of one level
abbrev pub level_cmp : Port-F Port Field → Port-F Port Field → Ordering
level_cmp (Port-F.List trees) b = slice_cmp port_cmp trees (items b)
level_cmp (Port-F.Fields fs) b = slice_cmp field_cmp fs (fields_level b)
level_cmp _ b = Equal

folded : Field → Field → Ordering
folded =
    fold-Field (Port → Ordering) (Field → Ordering)
    (λ a other. ordering_then (head_cmp a (out-Port other)) (parts_cmp a other))
    (λ f other. ordering_then (slice_cmp nat_cmp f.key other.key) (f.tree other.tree))

folded-is : (f g : Field) → folded f g ≡ field_cmp f g
unfolding folded port_cmp
folded-is f g =
    ap (λ h. h g) (fold_out-Field (Port → Ordering) (Field → Ordering)
    (λ a other. ordering_then (head_cmp a (out-Port other)) (parts_cmp a other))
    (λ h other. ordering_then (slice_cmp nat_cmp h.key other.key) (h.tree other.tree)) f)

level_is : (a : Port-F Port Field) (other : Port)
    → ordering_then (head_cmp (map-Port Port Field (Port → Ordering) (Field → Ordering) port_cmp folded a) (out-Port other))
    (parts_cmp (map-Port Port Field (Port → Ordering) (Field → Ordering) port_cmp folded a) other)
    ≡ ordering_then (head_cmp a (out-Port other)) (level_cmp a (out-Port other))
level_is Port-F.Null other = refl
level_is (Port-F.Bool b) other = refl
level_is (Port-F.Int n) other = refl
level_is (Port-F.Text t) other = refl
level_is (Port-F.List trees) other =
    let b = out-Port other in
    ap (ordering_then (head_cmp {A = Port} {B = Field} (Port-F.List trees) b)) (slice_cmp-map port_cmp trees (items b))
level_is (Port-F.Fields fs) other =
    let b = out-Port other in
    ap (ordering_then (head_cmp {A = Port} {B = Field} (Port-F.Fields fs) b)) (slice_cmp-map folded fs (fields_level b)
    ∙ (λ i. slice_cmp (λ f g. folded-is f g i) fs (fields_level b)))

-- what `port_cmp` computes at two trees
pub port_cmp-out : (tree other : Port)
    → port_cmp tree other ≡ ordering_then (compare_head tree other) (level_cmp (out-Port tree) (out-Port other))
unfolding port_cmp folded
port_cmp-out tree other =
    ap (λ f. f other) (fold_out-Port (Port → Ordering) (Field → Ordering)
    (λ a w. ordering_then (head_cmp a (out-Port w)) (parts_cmp a w))
    (λ f w. ordering_then (slice_cmp nat_cmp f.key w.key) (f.tree w.tree)) tree)
    ∙ level_is (out-Port tree) other

pub ruleset order_steps = (port_cmp-out, the_lemmas)

-- ---- trees and fields as nodes

abbrev Node : Type 0
Node = Port ⊎ Field

abbrev level_parts : Port-F Port Field → List Node
level_parts (Port-F.List trees) = map (λ t. inl t) trees
level_parts (Port-F.Fields fs) = map (λ f. inr f) fs
level_parts _ = []

abbrev parts : Node → List Node
parts (inl tree) = level_parts (out-Port tree)
parts (inr f) = inl f.tree ∷ []

abbrev side : Node → ℕ
side (inl tree) = 0
side (inr f) = 1

abbrev node_kind : Node → ℕ
node_kind (inl tree) = kind (out-Port tree)
node_kind (inr f) = 0

abbrev node_number : Node → ℤ
node_number (inl tree) = number (out-Port tree)
node_number (inr f) = pos 0

abbrev node_bytes : Node → List ℕ
node_bytes (inl tree) = bytes (out-Port tree)
node_bytes (inr f) = f.key

abbrev head : Node → Node → Ordering
head x y =
    ordering_then (nat_cmp (side x) (side y))
    (ordering_then (nat_cmp (node_kind x) (node_kind y))
    (ordering_then (int_cmp (node_number x) (node_number y)) (slice_cmp nat_cmp (node_bytes x) (node_bytes y))))

abbrev node_cmp : Node → Node → Ordering
node_cmp (inl tree) (inl other) = port_cmp tree other
node_cmp (inl tree) (inr g) = Less
node_cmp (inr f) (inl other) = Greater
node_cmp (inr f) (inr g) = field_cmp f g

then_last : (o : Ordering) → ordering_then o Equal ≡ o
then_last Less = refl
then_last Equal = refl
then_last Greater = refl

trees_alike : (ts us : List Port)
    → slice_cmp port_cmp ts us ≡ slice_cmp node_cmp (map (λ t. inl t) ts) (map (λ t. inl t) us)
trees_alike [] [] = refl
trees_alike [] (u ∷ us) = refl
trees_alike (t ∷ ts) [] = refl
trees_alike (t ∷ ts) (u ∷ us) = ap (ordering_then (port_cmp t u)) (trees_alike ts us)

fields_alike : (fs gs : List Field)
    → slice_cmp field_cmp fs gs ≡ slice_cmp node_cmp (map (λ f. inr f) fs) (map (λ f. inr f) gs)
fields_alike [] [] = refl
fields_alike [] (g ∷ gs) = refl
fields_alike (f ∷ fs) [] = refl
fields_alike (f ∷ fs) (g ∷ gs) = ap (ordering_then (field_cmp f g)) (fields_alike fs gs)

levels_alike : (a b : Port-F Port Field) → ordering_then (head_cmp a b) (level_cmp a b)
    ≡ ordering_then (head_cmp a b) (slice_cmp node_cmp (level_parts a) (level_parts b))
levels_alike Port-F.Null (Port-F.List us) = refl
levels_alike Port-F.Null (Port-F.Fields gs) = refl
levels_alike Port-F.Null b = refl
levels_alike (Port-F.Bool v) (Port-F.List us) = refl
levels_alike (Port-F.Bool v) (Port-F.Fields gs) = refl
levels_alike (Port-F.Bool v) b = refl
levels_alike (Port-F.Int n) (Port-F.List us) = refl
levels_alike (Port-F.Int n) (Port-F.Fields gs) = refl
levels_alike (Port-F.Int n) b = refl
levels_alike (Port-F.Text t) (Port-F.List us) = refl
levels_alike (Port-F.Text t) (Port-F.Fields gs) = refl
levels_alike (Port-F.Text t) b = refl
levels_alike (Port-F.List ts) (Port-F.List us) = trees_alike ts us
levels_alike (Port-F.List ts) b = refl
levels_alike (Port-F.Fields fs) (Port-F.Fields gs) = fields_alike fs gs
levels_alike (Port-F.Fields fs) b = refl

goes : GoesByParts parts head node_cmp
goes (inl tree) (inl other) = port_cmp-out tree other ∙ levels_alike (out-Port tree) (out-Port other)
goes (inl tree) (inr g) = refl
goes (inr f) (inl other) = refl
goes (inr f) (inr g) = ap (ordering_then (slice_cmp nat_cmp f.key g.key)) (sym (then_last (port_cmp f.tree g.tree)))

-- ---- induction

pub out_roll : (a : Port-F Port Field) → out-Port (roll-Port a) ≡ a
out_roll a = search (rules, the_lemmas)

pub roll_out : (tree : Port) → roll-Port (out-Port tree) ≡ tree
roll_out tree = search (rules, the_lemmas)

out_roll_field : (a : Field-F Port Field) → out-Field (roll-Field a) ≡ a
out_roll_field a = search (rules, the_lemmas)

module _ (P : Node → Type 0) (step : (x : Node) → AllByRecursion P (parts x) → P x) where
  abbrev OfTree : Port → Type 0
  OfTree tree = P (inl tree)

  abbrev OfField : Field → Type 0
  OfField f = P (inr f)

  abbrev HeldTree : Type 0
  HeldTree = (tree : Port) × OfTree tree

  abbrev HeldField : Type 0
  HeldField = (f : Field) × OfField f

  trees_held : (hs : List HeldTree) → AllByRecursion P (map (λ t. inl t) (map (λ h. h.0) hs))
  trees_held [] = tt
  trees_held (h ∷ hs) = (h.1, trees_held hs)

  fields_held : (hs : List HeldField) → AllByRecursion P (map (λ f. inr f) (map (λ h. h.0) hs))
  fields_held [] = tt
  fields_held (h ∷ hs) = (h.1, fields_held hs)

  parts_held : (y : Port-F HeldTree HeldField)
      → AllByRecursion P (level_parts (map-Port HeldTree HeldField Port Field (λ h. h.0) (λ h. h.0) y))
  parts_held Port-F.Null = tt
  parts_held (Port-F.Bool b) = tt
  parts_held (Port-F.Int n) = tt
  parts_held (Port-F.Text t) = tt
  parts_held (Port-F.List hs) = trees_held hs
  parts_held (Port-F.Fields hs) = fields_held hs

  of_trees : (tree : Port) → OfTree tree
  of_trees tree = ind-Port OfTree OfField
      (λ x y is. step (inl (roll-Port x))
      (subst (λ z. AllByRecursion P (level_parts z)) (is ∙ sym (out_roll x)) (parts_held y)))
      (λ x y is. step (inr (roll-Field x))
      (subst (λ z. P (inl z.tree)) (is ∙ sym (out_roll_field x)) y.tree.1, tt))
      tree

  by_node : (x : Node) → P x
  by_node (inl tree) = of_trees tree
  by_node (inr f) = step (inr f) (of_trees f.tree, tt)

by_parts : Inducts parts
by_parts P step x = by_node P step x

-- ---- the laws

head_total : IsTotalOrder head
head_total = then_total (on_total side nat_cmp_total)
    (then_total (on_total node_kind nat_cmp_total)
    (then_total (on_total node_number int_cmp_total) (on_total node_bytes nat_list_cmp_total)))

same_trees : (ts us : List Port) → ◌≡◌ {A = List Node} (map (λ t. inl t) ts) (map (λ t. inl t) us) → ts ≡ us
same_trees [] [] e = refl
same_trees [] (u ∷ us) e = absurd (cc)
same_trees (t ∷ ts) [] e = absurd (cc)
same_trees (t ∷ ts) (u ∷ us) e =
    let rest : ◌≡◌ {A = List Node} (map (λ z. inl z) ts) (map (λ z. inl z) us) = cc in
    let first : t ≡ u = cc in
    let others = same_trees ts us rest in
    λ i. first i ∷ others i

same_fields : (fs gs : List Field) → ◌≡◌ {A = List Node} (map (λ f. inr f) fs) (map (λ f. inr f) gs) → fs ≡ gs
same_fields [] [] e = refl
same_fields [] (g ∷ gs) e = absurd (cc)
same_fields (f ∷ fs) [] e = absurd (cc)
same_fields (f ∷ fs) (g ∷ gs) e =
    let rest : ◌≡◌ {A = List Node} (map (λ z. inr z) fs) (map (λ z. inr z) gs) = cc in
    let first : f ≡ g = cc in
    let others = same_fields fs gs rest in
    λ i. first i ∷ others i

alike : (a b : Port-F Port Field) → kind a ≡ kind b → number a ≡ number b → bytes a ≡ bytes b
    → level_parts a ≡ level_parts b → a ≡ b
alike Port-F.Null Port-F.Null k n t xs = refl
alike (Port-F.Bool true) (Port-F.Bool true) k n t xs = refl
alike (Port-F.Bool false) (Port-F.Bool false) k n t xs = refl
alike (Port-F.Bool true) (Port-F.Bool false) k n t xs = absurd (cc)
alike (Port-F.Bool false) (Port-F.Bool true) k n t xs = absurd (cc)
alike (Port-F.Int m) (Port-F.Int m') k n t xs = ap (λ z. Port-F.Int z) n
alike (Port-F.Text a) (Port-F.Text b) k n t xs = ap (λ z. Port-F.Text z) t
alike (Port-F.List ts) (Port-F.List us) k n t xs = ap (λ z. Port-F.List z) (same_trees ts us xs)
alike (Port-F.Fields fs) (Port-F.Fields gs) k n t xs = ap (λ z. Port-F.Fields z) (same_fields fs gs xs)
alike a b k n t xs = absurd (omega arith)

tree_alone : (tree other : Port) → head_cmp (out-Port tree) (out-Port other) ≡ Equal
    → level_parts (out-Port tree) ≡ level_parts (out-Port other) → tree ≡ other
tree_alone tree other e xs =
    let a = out-Port tree in
    let b = out-Port other in
    let first = then_equal (nat_cmp (kind a) (kind b)) _ e in
    let second = then_equal (int_cmp (number a) (number b)) _ first.1 in
    let same = alike a b (nat_cmp-IsAntisymmetric _ _ first.0) (int_cmp-IsAntisymmetric _ _ second.0)
    (slice_cmp-IsAntisymmetric nat_cmp-IsAntisymmetric _ _ second.1) xs in
    sym (roll_out tree) ∙ ap roll-Port same ∙ roll_out other

field_alone : (f g : Field) → slice_cmp nat_cmp f.key g.key ≡ Equal
    → ◌≡◌ {A = List Node} (inl f.tree ∷ []) (inl g.tree ∷ []) → f ≡ g
field_alone f g e xs =
    let key = slice_cmp-IsAntisymmetric nat_cmp-IsAntisymmetric f.key g.key e in
    let tree : f.tree ≡ g.tree = cc in
    λ i. record { key = key i; tree = tree i }

head_alone : (x y : Node) → head x y ≡ Equal → parts x ≡ parts y → x ≡ y
head_alone (inl tree) (inl other) e xs = ap (λ t. inl t) (tree_alone tree other e xs)
head_alone (inl tree) (inr g) e xs = absurd (cc)
head_alone (inr f) (inl other) e xs = absurd (cc)
head_alone (inr f) (inr g) e xs = ap (λ h. inr h) (field_alone f g e xs)

node_ties : (x y : Node) → node_cmp x y ≡ Equal → x ≡ y
node_ties = tree_ties parts head node_cmp by_parts goes head_total head_alone

node_total : IsTotalOrder node_cmp
node_total = tree_total parts head node_cmp by_parts goes head_total head_alone

-- the order is total
pub port_cmp_total : IsTotalOrder port_cmp
port_cmp_total = record {
  antisymm = λ x y. node_total.antisymm (inl x) (inl y);
  trans = λ x y z e f. node_total.trans (inl x) (inl y) (inl z) e f;
  congr = λ x y z e. node_total.congr (inl x) (inl y) (inl z) e;
}

-- only equal trees tie
pub port_cmp-IsAntisymmetric : IsAntisymmetric port_cmp
port_cmp-IsAntisymmetric x y e =
    let same = node_ties (inl x) (inl y) e in
    let out : Node → Port = elim [ inl t ↦ t | inr f ↦ x ] in
    ap out same
