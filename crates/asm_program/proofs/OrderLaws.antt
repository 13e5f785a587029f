-- The parts of a `par` have no order, and `skip` is neutral in a `seq`.
use Rattle.std.proofs.Common.{◌≡◌, ℕ, ◌-◌, ◌^◌, min, inl, inr, Bool, true, false, ◌||◌}
use Rattle.std.proofs.Common.{if◌then◌else◌, Option, List, [], ◌∷◌, ◌++◌, map, refl, sym, ap, subst}
use Rattle.std.proofs.Common.{◌∙◌, arith, rules}
use Rattle.std.specs.Prelude.{nat_le, sum_by}
use Rattle.std.proofs.lemmas.Bool.{true≢false}
use Rattle.std.specs.List.{AllByRecursion, list_any}
use Rattle.std.specs.List.Sorted.{IsPermutation, IsStrictlySortedBy}
use Rattle.std.proofs.lemmas.List.Sorted.{list_any-IsPermutation}
use Rattle.std.proofs.lemmas.Bool.Decides.{nat_tests}
use Rattle.asm_value.specs.declared.value.Value.{Value}
use Rattle.asm_value.specs.declared.location.Location.{Location}
use Rattle.asm_value.specs.declared.location.Update.{Update}
use Rattle.asm_value.specs.State.{StateMap, fire, overlaid, set_weight, update_weight}
use Rattle.asm_value.specs.UpdateSet as set
use Rattle.asm_value.specs.UpdateSet.{UpdateSet, has}
use Rattle.asm_value.proofs.StateLaws.{or_left}
use Rattle.asm_value.proofs.UpdateSetLaws.{has-union, items-add_all, same_updates}
use Rattle.asm_syntax.specs.declared.token.Span.{Span}
use Rattle.asm_program.specs.declared.outcome.FaultKind.TheVariants as kind
use Rattle.asm_program.specs.declared.trees.Rule.{Rule}
use Rattle.asm_program.specs.declared.trees.RuleCase.{RuleCase}
use Rattle.asm_program.specs.declared.trees.Rule.TheOpen.{Rule-F}
use Rattle.asm_program.specs.declared.trees.Rule.TheVariants as form
use Rattle.asm_program.specs.declared.trees.Rule.TheViews.{out-Rule, the_lemmas}
use Rattle.asm_program.specs.declared.program.Program.{Program}
use Rattle.asm_program.specs.Yields.{Yielded, Yields, Stops, RuleMeaning, on_set, limited, stop}
use Rattle.asm_program.specs.Yields.{union_of, clashes, one_by_one, yields}
use Rattle.asm_program.specs.BookYields as book
use Rattle.asm_program.specs.BookYields.{Book, BookAll, AreDisjoint}
use Rattle.asm_program.specs.RuleLaws.{IsLight, SeqSkips, TakesNone, AnyOrderYields}
use Rattle.asm_program.specs.RuleLaws.{AnyOrderOfTheBook}
use Rattle.asm_program.proofs.FormLaws.{yields-Skip, yields-Par, yields-Seq, limited-light, turn}
use Rattle.asm_program.proofs.FormLaws.{stopped}
use Rattle.asm_value.proofs.RangeLaws.{mem_left, mem_right}
use Rattle.asm_program.proofs.Numbering.{mem_append}
use Rattle.asm_program.proofs.Orders.{Reordered, ends, keeps, exchanges, follows, same_order}
use Rattle.asm_program.proofs.Orders.{from_permutation, to_permutation, mem_reordered}
use Rattle.asm_program.proofs.Orders.{all_reordered, after_same, lists_exchange}
use Rattle.asm_program.proofs.Sets.{or_assoc, or_false, overlaid-empty, union-swap}
use Rattle.asm_program.proofs.Weights.{weight_rises}

-- ---- sets that aren't too heavy

is_light : (s : UpdateSet) → nat_le (set_weight s) 131072 ≡ true → IsLight s
is_light s h = grind (arith, nat_tests, h)

-- what goes on with a limited set may be told of light sets alone
limited_alike : (span : Span) (s : UpdateSet) (next : List ℕ) (f g : UpdateSet → List ℕ → Yielded)
    → (IsLight s → f s next ≡ g s next) → on_set (limited span s next) f
    ≡ on_set (limited span s next) g
limited_alike span s next f g same = by_test (nat_le (set_weight s) 131072) refl
  where
    by_test : (b : Bool) → nat_le (set_weight s) 131072 ≡ b
        → on_set (if b then Yields s next else stop kind.UpdatesTooLarge span) f
        ≡ on_set (if b then Yields s next else stop kind.UpdatesTooLarge span) g
    by_test true e = same (is_light s e)
    by_test false e = refl

set_alike : (y : Yielded) (f g : UpdateSet → List ℕ → Yielded)
    → ((u : UpdateSet) (n : List ℕ) → f u n ≡ g u n) → on_set y f ≡ on_set y g
set_alike (Yields u n) f g same = same u n
set_alike (Stops e) f g same = refl

-- ---- `skip` in a `seq`

module _ (span : Span) (state : StateMap) (env : List Value) (skips : RuleMeaning)
    (skips_is : (s : StateMap) (next : List ℕ) → skips s env next ≡ Yields set.empty next) where
  skip_now : (sofar : UpdateSet) (ms : List RuleMeaning) (next : List ℕ) → IsLight sofar
      → one_by_one span sofar (skips ∷ ms) state env next ≡ one_by_one span sofar ms state env next
  skip_now sofar ms next light = by_test (clashes sofar) refl
    where
      by_test : (b : Bool) → clashes sofar ≡ b → one_by_one span sofar (skips ∷ ms) state env next
          ≡ one_by_one span sofar ms state env next
      by_test true e =
          stopped span state env sofar (skips ∷ ms) next e
          ∙ sym (stopped span state env sofar ms next e)
      by_test false e =
          turn span state env sofar set.empty skips ms next next e
          (skips_is (fire state sofar) next)
          (subst IsLight (sym (overlaid-empty sofar)) light)
          ∙ ap (λ s. one_by_one span s ms state env next) (overlaid-empty sofar)

  skip_inside : (before after : List RuleMeaning) (sofar : UpdateSet) (next : List ℕ)
      → IsLight sofar
      → one_by_one span sofar (before ++ skips ∷ after) state env next
      ≡ one_by_one span sofar (before ++ after) state env next
  skip_inside [] after sofar next light = skip_now sofar after next light
  skip_inside (m ∷ before) after sofar next light =
      by_test (clashes sofar) (λ s n l. skip_inside before after s n l)
    where
      by_test : (b : Bool) → ((s : UpdateSet) (n : List ℕ) → IsLight s
          → one_by_one span s (before ++ skips ∷ after) state env n
          ≡ one_by_one span s (before ++ after) state env n)
          → (if b then Yields sofar next else on_set (m (fire state sofar) env next) (λ updates l.
          on_set (limited span (overlaid sofar updates) l)
          (λ all n. one_by_one span all (before ++ skips ∷ after) state env n)))
          ≡ (if b then Yields sofar next else on_set (m (fire state sofar) env next) (λ updates l.
          on_set (limited span (overlaid sofar updates) l)
          (λ all n. one_by_one span all (before ++ after) state env n)))
      by_test true later = refl
      by_test false later =
          set_alike (m (fire state sofar) env next) _ _ (λ u l.
          limited_alike span (overlaid sofar u) l _ _ (λ h. later (overlaid sofar u) l h))

map_append : {A B : Type 0} (f : A → B) (xs ys : List A) → map f (xs ++ ys) ≡ map f xs ++ map f ys
map_append f [] ys = refl
map_append f (x ∷ xs) ys = ap (λ zs. f x ∷ zs) (map_append f xs ys)

light_empty : IsLight set.empty
unfolding IsStrictlySortedBy
light_empty =
    let none : set_weight set.empty ≡ 0 = ap (λ us. min (sum_by update_weight us) (2 ^ 64 - 1))
    (items-add_all [] tt) in
    omega (arith, none)

pub yields-Seq-skips : (p : Program) (pick : Option ℕ) → SeqSkips p pick
yields-Seq-skips p pick before after span state env next =
    yields-Seq p pick (before ++ form.Skip ∷ after) span state env next
    ∙ ap (λ ms. one_by_one span set.empty ms state env next)
    (map_append (yields p pick) before (form.Skip ∷ after))
    ∙ skip_inside span state env (yields p pick form.Skip) (λ s n. yields-Skip p pick s env n)
    (map (yields p pick) before) (map (yields p pick) after) set.empty next light_empty
    ∙ ap (λ ms. one_by_one span set.empty ms state env next)
    (sym (map_append (yields p pick) before after))
    ∙ sym (yields-Seq p pick (before ++ after) span state env next)

-- ---- a `par` whose parts yield sets and take no new members

union_all : UpdateSet → List UpdateSet → UpdateSet
union_all sofar [] = sofar
union_all sofar (s ∷ ss) = union_all (set.union sofar s) ss

has_all : (sofar : UpdateSet) (ss : List UpdateSet) (x : Update)
    → has (union_all sofar ss) x ≡ (has sofar x || list_any (λ s. has s x) ss)
unfolding union_all
has_all sofar [] x = sym (or_false (has sofar x))
has_all sofar (s ∷ ss) x =
    has_all (set.union sofar s) ss x ∙ ap (λ b. b || list_any (λ t. has t x) ss)
    (has-union sofar s x)
    ∙ or_assoc (has sofar x) (has s x) (list_any (λ t. has t x) ss)

-- a part is no heavier than the union
heavier : (sofar : UpdateSet) (ss : List UpdateSet) → nat_le (set_weight sofar) 131072 ≡ false
    → nat_le (set_weight (union_all sofar ss)) 131072 ≡ false
heavier sofar ss h =
    let rises = weight_rises sofar (union_all sofar ss) (λ x m. has_all sofar ss x
    ∙ or_left (has sofar x) _ m) in
    grind (arith, nat_tests, h, rises)

module _ (p : Program) (pick : Option ℕ) (state : StateMap) (env : List Value) (next : List ℕ) where
  set_in : Yielded → UpdateSet
  set_in (Yields u n) = u
  set_in (Stops e) = set.empty

  gives : Rule → UpdateSet
  gives r = set_in (yields p pick r state env next)

  takes_none : (r : Rule) → TakesNone p pick state env next r
      → yields p pick r state env next ≡ Yields (gives r) next
  unfolding set_in gives
  takes_none r h = h.1 ∙ ap (λ y. Yields (set_in y) next) (sym h.1)

  all_at_once : (span : Span) (rs : List Rule) (sofar : UpdateSet) → IsLight sofar
      → AllByRecursion (TakesNone p pick state env next) rs
      → union_of span sofar (map (λ r. yields p pick r state env) rs) next
      ≡ limited span (union_all sofar (map gives rs)) next
  unfolding union_all
  all_at_once span [] sofar light h = sym (limited-light span sofar next light)
  all_at_once span (r ∷ rs) sofar light h =
      ap (λ y. on_set y (λ updates later. on_set (limited span (set.union sofar updates) later)
      (λ all after.
      union_of span all (map (λ q. yields p pick q state env) rs) after))) (takes_none r h.0)
      ∙ by_test (nat_le (set_weight (set.union sofar (gives r))) 131072) refl
      (λ l. all_at_once span rs (set.union sofar (gives r)) l h.1)
    where
      by_test : (b : Bool) → nat_le (set_weight (set.union sofar (gives r))) 131072 ≡ b
          → (IsLight (set.union sofar (gives r)) → union_of span (set.union sofar (gives r))
          (map (λ q. yields p pick q state env) rs) next
          ≡ limited span (union_all (set.union sofar (gives r)) (map gives rs)) next)
          → on_set (if b then Yields (set.union sofar (gives r)) next
          else stop kind.UpdatesTooLarge span) (λ all after.
          union_of span all (map (λ q. yields p pick q state env) rs) after)
          ≡ limited span (union_all (set.union sofar (gives r)) (map gives rs)) next
      by_test true e go = go (is_light (set.union sofar (gives r)) e)
      by_test false e go =
          ap (λ b. if b then Yields (union_all (set.union sofar (gives r)) (map gives rs)) next
          else stop kind.UpdatesTooLarge span)
          (sym (heavier (set.union sofar (gives r)) (map gives rs) e))

  any_mapped : (x : Update) (rs : List Rule) → list_any (λ s. has s x) (map gives rs)
      ≡ list_any (λ r. has (gives r) x) rs
  any_mapped x [] = refl
  any_mapped x (r ∷ rs) = ap (λ b. has (gives r) x || b) (any_mapped x rs)

  same_union : (parts others : List Rule) → IsPermutation parts others
      → union_all set.empty (map gives parts) ≡ union_all set.empty (map gives others)
  same_union parts others same = same_updates _ _ (λ x.
      has_all set.empty (map gives parts) x
      ∙ ap (λ b. has set.empty x || b)
      (any_mapped x parts ∙ list_any-IsPermutation (λ r. has (gives r) x) parts others same
      ∙ sym (any_mapped x others))
      ∙ sym (has_all set.empty (map gives others) x))

pub yields-Par-order : (p : Program) (pick : Option ℕ) → AnyOrderYields p pick
yields-Par-order p pick parts others span state env next same h =
    yields-Par p pick parts span state env next
    ∙ all_at_once p pick state env next span parts set.empty light_empty h
    ∙ ap (λ s. limited span s next) (same_union p pick state env next parts others same)
    ∙ sym (all_at_once p pick state env next span others set.empty light_empty
    (all_reordered (TakesNone p pick state env next) (from_permutation parts others same) h))
    ∙ sym (yields-Par p pick others span state env next)

-- ---- the textbook's relation

module _ (p : Program) (start state : StateMap) (env : List Value) where
  -- the first of rules side by side, and the others
  record FirstOf (r : Rule) (rs : List Rule) (w : UpdateSet) (all : List Location) : Type 0 where
    pub u : UpdateSet
    pub v : UpdateSet
    pub new : List Location
    pub more : List Location
    pub first : Book p start state env r u new
    pub rest : BookAll p start state env rs v more
    pub apart : AreDisjoint new more
    pub whole : set.union u v ≡ w
    pub members : new ++ more ≡ all

  first_of : {r : Rule} {rs : List Rule} {w : UpdateSet} {all : List Location}
      → BookAll p start state env (r ∷ rs) w all → FirstOf r rs w all
  first_of (book.one_rule b bs apart) = record {
    first = b;
    rest = bs;
    apart = apart;
    whole = refl;
    members = refl;
    u = _;
    v = _;
    new = _;
    more = _;
  }

  record InOrder (rs : List Rule) (w : UpdateSet) (all : List Location) : Type 0 where
    pub new : List Location
    pub order : Reordered all new
    pub book : BookAll p start state env rs w new

  joined : (r : Rule) (rs : List Rule) (u v w : UpdateSet) (new more : List Location)
      → Book p start state env r u new → BookAll p start state env rs v more → AreDisjoint new more
      → set.union u v ≡ w → BookAll p start state env (r ∷ rs) w (new ++ more)
  joined r rs u v w new more b bs apart e =
      subst (λ s. BookAll p start state env (r ∷ rs) s (new ++ more)) e (book.one_rule b bs apart)

  in_order : {rs qs : List Rule} → Reordered rs qs → (w : UpdateSet) (all : List Location)
      → BookAll p start state env rs w all → InOrder qs w all
  in_order ends w all b = record { new = all; order = same_order all; book = b }
  in_order (keeps {x = r} {xs = rs} {ys = qs} same) w all b =
      let f = first_of b in
      let rest = in_order same f.v f.more f.rest in
      record {
        new = f.new ++ rest.new;
        order = subst (λ ls. Reordered ls (f.new ++ rest.new)) f.members
            (after_same f.new rest.order);
        book = joined r qs f.u f.v w f.new rest.new f.first rest.book
            (λ l m k. f.apart l m (mem_reordered l rest.order k)) f.whole;
      }
  in_order (exchanges {x = r} {y = q} {xs = rs}) w all b =
      let f = first_of b in
      let g = first_of f.rest in
      let both : f.new ++ (g.new ++ g.more) ≡ all = ap (λ ls. f.new ++ ls) g.members ∙ f.members in
      let apart_from : AreDisjoint f.new (g.new ++ g.more) =
      subst (AreDisjoint f.new) (sym g.members) f.apart in
      record {
        new = g.new ++ (f.new ++ g.more);
        order = subst (λ ls. Reordered ls (g.new ++ (f.new ++ g.more))) both
            (lists_exchange f.new g.new g.more);
        book = joined q (r ∷ rs) g.u (set.union f.u g.v) w g.new (f.new ++ g.more) g.first
            (book.one_rule f.first g.rest (λ l m k. apart_from l m (mem_right l g.new g.more k)))
            (λ l m k. elim (mem_append l f.new g.more k) [
              | inl a ↦ apart_from l a (mem_left l g.new g.more m)
              | inr c ↦ g.apart l m c
            ])
            (union-swap g.u f.u g.v ∙ ap (set.union f.u) g.whole ∙ f.whole);
      }
  in_order (follows qs same then_same) w all b =
      let first = in_order same w all b in
      let second = in_order then_same w first.new first.book in
      record {
        new = second.new;
        order = follows first.new first.order second.order;
        book =
            second.book;
      }

  is_par : Rule-F Rule RuleCase → Bool
  is_par (Rule-F.Par rs span) = true
  is_par a = false

  unlike : {A : Type 0} → false ≡ true → A
  unlike e = absurd (true≢false (sym e))

  same_parts : (a rs : List Rule) (s span : Span) → ◌≡◌ {A = Rule-F Rule RuleCase} (Rule-F.Par a s)
      (Rule-F.Par rs span) → a ≡ rs
  same_parts a rs s span h = cc

  -- what is of the book for a `par` is so for its parts side by side
  parts_of_par : {r : Rule} {u : UpdateSet} {new : List Location} (rs : List Rule) (span : Span)
      → out-Rule r ≡ Rule-F.Par rs span
      → Book p start state env r u new → BookAll p start state env rs u new
  unfolding is_par
  parts_of_par rs span is (book.pars {rules = a} {span = s} {u = u} {new = new} e b) =
      subst (λ qs. BookAll p start state env qs u new) (same_parts a rs s span (sym e ∙ is)) b
  parts_of_par rs span is (book.skips e) = unlike (ap is_par (sym e ∙ is))
  parts_of_par rs span is (book.calls e _ _ _) = unlike (ap is_par (sym e ∙ is))
  parts_of_par rs span is (book.calls_none e _ _) = unlike (ap is_par (sym e ∙ is))
  parts_of_par rs span is (book.updates e _ _) = unlike (ap is_par (sym e ∙ is))
  parts_of_par rs span is (book.seqs e _) = unlike (ap is_par (sym e ∙ is))
  parts_of_par rs span is (book.thens e _ _ _) = unlike (ap is_par (sym e ∙ is))
  parts_of_par rs span is (book.elses e _ _ _) = unlike (ap is_par (sym e ∙ is))
  parts_of_par rs span is (book.foralls e _) = unlike (ap is_par (sym e ∙ is))
  parts_of_par rs span is (book.chooses e _ _ _ _ _) = unlike (ap is_par (sym e ∙ is))
  parts_of_par rs span is (book.chooses_none e _ _) = unlike (ap is_par (sym e ∙ is))
  parts_of_par rs span is (book.lets e _ _) = unlike (ap is_par (sym e ∙ is))
  parts_of_par rs span is (book.switches e _ _) = unlike (ap is_par (sym e ∙ is))
  parts_of_par rs span is (book.extends e _ _ _ _ _ _) = unlike (ap is_par (sym e ∙ is))

pub book_order : (p : Program) → AnyOrderOfTheBook p
book_order p start state env parts others span u new same b =
    let h = in_order p start state env (from_permutation parts others same) u new
    (parts_of_par p start state env parts span (search (rules, the_lemmas)) b) in
    record {
      members = h.new;
      order = to_permutation h.order;
      book = book.pars {rules = others} {span = span} (search (rules, the_lemmas)) h.book;
    }

pub ruleset orders = (yields-Seq-skips, yields-Par-order, book_order)
