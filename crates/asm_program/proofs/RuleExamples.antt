-- Rules with their sets, worked out by hand.
use Rattle.std.proofs.Common.{◌≡◌, ℕ, ℤ, pos, ◌+◌, ◌-◌, ◌^◌, ◌≤◌, min, Bool, true, false, not, ◌||◌}
use Rattle.std.proofs.Common.{◌&&◌, if◌then◌else◌, Option, Some, None, List, [], ◌∷◌, ◌++◌, refl}
use Rattle.std.proofs.Common.{sym, ap, subst, ◌∙◌, arith}
use Rattle.std.specs.Prelude.{sum_by, nat_le}
use Rattle.std.proofs.lemmas.Cmp.{tied_itself}
use Rattle.std.specs.declared.cmp.Ordering.TheVariants.{Less, Equal}
use Rattle.std.specs.Ordering.{eq_by_cmp, ordering_then, nat_cmp}
use Rattle.std.specs.List.Sorted.{IsStrictlySortedBy}
use Rattle.asm_value.specs.declared.value.Value.{Value}
use Rattle.asm_value.specs.declared.value.Value.TheVariants.{Undef, Truth, Int, Member}
use Rattle.asm_value.specs.declared.location.Update.{Update}
use Rattle.asm_value.specs.declared.location.Location.{Location}
use Rattle.asm_value.specs.Value.{compare, own_weight, whole_weight, items}
use Rattle.asm_value.specs.Location.{location_cmp, update_cmp}
use Rattle.asm_value.specs.TotalOrders.{compare_total}
use Rattle.asm_value.specs.Living.{member_location}
use Rattle.asm_value.specs.State.{StateMap, IsConsistent, is_undef, value_at, fire, overlaid}
use Rattle.asm_value.specs.State.{updates_at, set_weight, update_weight}
use Rattle.asm_value.specs.UpdateSet as set
use Rattle.asm_value.specs.UpdateSet.{UpdateSet, same}
use Rattle.asm_value.proofs.MemberLists.{out_truth, out_int, out_member, int_less, member_less}
use Rattle.asm_value.proofs.UpdateSetLaws.{items-add_all, has-add, has-empty, same_updates}
use Rattle.asm_value.proofs.StateLaws.{or_right, same_is, same_itself, has-overlaid}
use Rattle.asm_value.proofs.FiringLaws.{value_at-fire-member}
use Rattle.asm_value.proofs.LivingLaws.{is_true-Truth}
use Rattle.asm_value.specs.declared.domain.Domain.TheVariants as domains
use Rattle.std.specs.List.{list_any}
use Rattle.asm_program.specs.declared.outcome.FaultKind.TheVariants as kind
use Rattle.asm_program.proofs.Examples.{booleans}
use Rattle.asm_program.specs.declared.outcome.Outcome.TheVariants as outcome
use Rattle.asm_value.proofs.ValueLaws.{whole_weight-out}
use Rattle.asm_syntax.specs.declared.token.Span.{Span}
use Rattle.asm_program.specs.declared.trees.Term.{Term}
use Rattle.asm_program.specs.declared.trees.Term.TheVariants as term
use Rattle.asm_program.specs.declared.trees.Rule.{Rule}
use Rattle.asm_program.specs.declared.trees.Rule.TheVariants as rule
use Rattle.asm_program.specs.declared.program.Program.{Program}
use Rattle.asm_program.specs.Initial.{in_codomain}
use Rattle.asm_program.specs.Meaning.{function_takes, location_of}
use Rattle.asm_program.specs.Yields.{Yields, Stops, Found, satisfying, on_found, on_set, limited}
use Rattle.asm_program.specs.Yields.{stop, choice, guard_of, nothing, yields}
use Rattle.asm_program.specs.BookYields.{Gives}
use Rattle.asm_program.specs.RuleLaws.{IsLight, update_to}
use Rattle.asm_program.proofs.FormLaws.{yields-Skip, yields-Update, yields-Par, yields-Extend}
use Rattle.asm_program.proofs.FormLaws.{yields-Choose, yields-Seq-two, yields-Seq-stops, beside}
use Rattle.asm_program.proofs.FormLaws.{limited-light}
use Rattle.asm_program.proofs.TermForms.{eval-Constant, eval-Variable, eval-Read}
use Rattle.asm_program.proofs.Sets.{empty-union, union-empty, or_false}

-- ---- sets of one and of two updates

abbrev alone : Update → UpdateSet
alone u = set.add set.empty u

abbrev both : Update → Update → UpdateSet
both u v = set.add (set.add set.empty u) v

module _ (u : Update) where
  items_alone : set.items (alone u) ≡ u ∷ []
  unfolding IsStrictlySortedBy
  items_alone = items-add_all (u ∷ []) (tt, tt)

  pub union_alone : (s : UpdateSet) → set.union s (alone u) ≡ set.add s u
  union_alone s = ap (set.add_all s) items_alone

  light_alone : update_weight u ≤ 10 → IsLight (alone u)
  light_alone h =
      let weight : set_weight (alone u) ≡ min (sum_by update_weight (u ∷ [])) (2 ^ 64 - 1) =
      ap (λ us. min (sum_by update_weight us) (2 ^ 64 - 1)) items_alone in
      omega (arith, weight, h)

module _ (u v : Update) (less : update_cmp u v ≡ Less) where
  items_both : set.items (both u v) ≡ u ∷ v ∷ []
  unfolding IsStrictlySortedBy
  items_both = items-add_all (u ∷ v ∷ []) ((less, tt), (tt, tt))

  light_both : update_weight u ≤ 10 → update_weight v ≤ 10 → IsLight (both u v)
  light_both h k =
      let weight : set_weight (both u v) ≡ min (sum_by update_weight (u ∷ v ∷ [])) (2 ^ 64 - 1) =
      ap (λ us. min (sum_by update_weight us) (2 ^ 64 - 1)) items_both in
      omega (arith, weight, h, k)

has_first : (u v : Update) → set.has (both u v) u ≡ true
has_first u v =
    has-add (alone u) v u ∙ ap (λ b. same u v || b) (has-add set.empty u u
    ∙ ap (λ b. b || set.has set.empty u) (same_itself u u refl))
    ∙ or_right (same u v) true refl

has_second : (u v : Update) → set.has (both u v) v ≡ true
has_second u v = has-add (alone u) v v ∙ ap (λ b. b || set.has (alone u) v) (same_itself v v refl)

has_alone : (u : Update) → set.has (alone u) u ≡ true
has_alone u = has-add set.empty u u ∙ ap (λ b. b || set.has set.empty u) (same_itself u u refl)

only_alone : (u a : Update) → set.has (alone u) a ≡ true → a ≡ u
only_alone u a h =
    same_is a u (sym (has-add set.empty u a ∙ ap (λ b. same a u || b) (has-empty a)
    ∙ or_false (same a u)) ∙ h)

alone_consistent : (u : Update) → IsConsistent (alone u)
alone_consistent u a b h k e = only_alone u a h ∙ sym (only_alone u b k)

updates_alone : (l : Location) (u : Update) → updates_at (alone u) l
    ≡ eq_by_cmp location_cmp l u.location
updates_alone l u =
    ap (list_any (λ x. eq_by_cmp location_cmp l x.location)) (items_alone u)
    ∙ or_false (eq_by_cmp location_cmp l u.location)

kept_apart : (t b c : Bool) → (b ≡ true → c ≡ false) → (t || (b && not c)) ≡ (t || b)
kept_apart t true c h = ap (λ d. t || not d) (h refl)
kept_apart t false c h = refl

dropped : (t b c : Bool) → (b ≡ true → c ≡ true) → (t || (b && not c)) ≡ t
dropped t true c h = ap (λ d. t || not d) (h refl) ∙ or_false t
dropped t false c h = or_false t

-- the overlay of updates of two locations, and of one
apart_overlaid : (u v : Update) → eq_by_cmp location_cmp u.location v.location ≡ false
    → overlaid (alone u) (alone v) ≡ both u v
apart_overlaid u v apart = same_updates _ _ (λ a.
    has-overlaid (alone u) (alone v) a
    ∙ kept_apart (set.has (alone v) a) (set.has (alone u) a) (updates_at (alone v) a.location)
    (λ h. ap (λ x. updates_at (alone v) x.location) (only_alone u a h) ∙ updates_alone u.location v
    ∙ apart)
    ∙ ap (λ b. b || set.has (alone u) a) (has-add set.empty v a
    ∙ ap (λ b. same a v || b) (has-empty a) ∙ or_false (same a v))
    ∙ sym (has-add (alone u) v a))

same_overlaid : (u v : Update) → eq_by_cmp location_cmp u.location v.location ≡ true
    → overlaid (alone u) (alone v) ≡ alone v
same_overlaid u v here = same_updates _ _ (λ a.
    has-overlaid (alone u) (alone v) a
    ∙ dropped (set.has (alone v) a) (set.has (alone u) a) (updates_at (alone v) a.location)
    (λ h. ap (λ x. updates_at (alone v) x.location) (only_alone u a h) ∙ updates_alone u.location v
    ∙ here))

int_weight : (n : ℤ) → whole_weight (Int n) ≡ 1
int_weight n =
    whole_weight-out (Int n) ∙ ap (λ a. own_weight a + sum_by whole_weight (items a)) (out_int n)

truth_weight : (b : Bool) → whole_weight (Truth b) ≡ 1
truth_weight b =
    whole_weight-out (Truth b) ∙ ap (λ a. own_weight a + sum_by whole_weight (items a))
    (out_truth b)

member_weight : (d i : ℕ) → whole_weight (Member d i) ≡ 1
member_weight d i =
    whole_weight-out (Member d i) ∙ ap (λ a. own_weight a + sum_by whole_weight (items a))
    (out_member d i)

-- ---- updates of functions without arguments

abbrev one : Value
one = Int (pos 1)

abbrev two : Value
two = Int (pos 2)

one_less : compare one two ≡ Less
one_less = int_less (pos 1) (pos 2) refl

update_light : (f : ℕ) (n : ℤ) → update_weight (update_to f [] (Int n)) ≤ 10
update_light f n = let w = int_weight n in omega (arith, w)

-- 0 is f, and 1 is g
module _ (p : Program) (pick : Option ℕ) (span : Span)
    (takes : (f : ℕ) → function_takes p f [] ≡ true) (fits : (f : ℕ) (v : Value)
    → in_codomain p f v ≡ true) where
  abbrev sets : ℕ → Term → Rule
  sets f t = rule.Update f [] t span

  any_value : (f : ℕ) (v : Value) → (is_undef v || in_codomain p f v) ≡ true
  any_value f v = or_right (is_undef v) (in_codomain p f v) (fits f v)

  set_yields : (f : ℕ) (t : Term) (v : Value) (state : StateMap) (env : List Value) (next : List ℕ)
      → Gives p state env t v
      → yields p pick (sets f t) state env next ≡ Yields (alone (update_to f [] v)) next
  set_yields f t v state env next g =
      yields-Update p pick f [] t span state env next [] v refl g (takes f) (any_value f v)

  read_gives : (f : ℕ) (v : Value) (state : StateMap) (env : List Value)
      → value_at state (location_of f []) ≡ v
      → Gives p state env (term.Read f []) v
  read_gives f v state env h =
      eval-Read p state f env ∙ ap (λ b. outcome.Value (if b then value_at state (location_of f [])
      else Undef)) (takes f)
      ∙ ap (λ w. outcome.Value w) h

  -- two updates side by side
  pair_yields : (f g : ℕ) (s t : Term) (v w : Value) (state : StateMap) (next : List ℕ)
      → Gives p state [] s v → Gives p state [] t w
      → IsLight (alone (update_to f [] v)) → IsLight (both (update_to f [] v) (update_to g [] w))
      → yields p pick (rule.Par (sets f s ∷ sets g t ∷ []) span) state [] next
      ≡ Yields (both (update_to f [] v) (update_to g [] w)) next
  pair_yields f g s t v w state next a b light light_too =
      let u = update_to f [] v in
      let x = update_to g [] w in
      yields-Par p pick (sets f s ∷ sets g t ∷ []) span state [] next
      ∙ beside span set.empty (alone u) (yields p pick (sets f s) state [])
      (yields p pick (sets g t) state [] ∷ []) next next
      (set_yields f s v state [] next a) (subst IsLight (sym (empty-union (alone u))) light)
      ∙ beside span (set.union set.empty (alone u)) (alone x)
      (yields p pick (sets g t) state []) [] next next
      (set_yields g t w state [] next b)
      (subst IsLight (sym (ap (λ s. set.union s (alone x)) (empty-union (alone u))
      ∙ union_alone x (alone u))) light_too)
      ∙ ap (λ s. Yields s next) (ap (λ s. set.union s (alone x)) (empty-union (alone u))
      ∙ union_alone x (alone u))

  -- `par f := g, g := f endpar` swaps the two: where f is 1 and g is 2, it yields f = 2 and g = 1
  pub a_par_swaps : (state : StateMap) (next : List ℕ) → value_at state (location_of 0 []) ≡ one
      → value_at state (location_of 1 []) ≡ two
      → yields p pick (rule.Par (sets 0 (term.Read 1 []) ∷ sets 1 (term.Read 0 []) ∷ []) span) state
      [] next
      ≡ Yields (both (update_to 0 [] two) (update_to 1 [] one)) next
  a_par_swaps state next f_is g_is =
      pair_yields 0 1 (term.Read 1 []) (term.Read 0 []) two one state next
      (read_gives 1 two state [] g_is) (read_gives 0 one state [] f_is)
      (light_alone (update_to 0 [] two) (update_light 0 (pos 2)))
      (light_both (update_to 0 [] two) (update_to 1 [] one) refl (update_light 0 (pos 2))
      (update_light 1 (pos 1)))

  -- `par f := 1, f := 2 endpar` yields both updates
  same_function : update_cmp (update_to 0 [] one) (update_to 0 [] two) ≡ Less
  same_function = one_less

  pub a_par_clashes : (state : StateMap) (next : List ℕ)
      → yields p pick (rule.Par (sets 0 (term.Constant one) ∷ sets 0 (term.Constant two) ∷ []) span)
      state [] next
      ≡ Yields (both (update_to 0 [] one) (update_to 0 [] two)) next
  a_par_clashes state next =
      pair_yields 0 0 (term.Constant one) (term.Constant two) one two state next
      (eval-Constant p state one []) (eval-Constant p state two [])
      (light_alone (update_to 0 [] one) (update_light 0 (pos 1)))
      (light_both (update_to 0 [] one) (update_to 0 [] two) same_function (update_light 0 (pos 1))
      (update_light 0 (pos 2)))

  one_not_two : one ≡ two → ⊥
  one_not_two e =
      less_not_equal (sym one_less ∙ ap (λ v. compare v two) e ∙ tied_itself compare_total two)
    where
      less_not_equal : Less ≡ Equal → ⊥
      less_not_equal h = absurd (cc)

  both_inconsistent : IsConsistent (both (update_to 0 [] one) (update_to 0 [] two)) → ⊥
  both_inconsistent h =
      one_not_two (ap (λ u. u.value) (h (update_to 0 [] one) (update_to 0 [] two)
      (has_first (update_to 0 [] one) (update_to 0 [] two))
      (has_second (update_to 0 [] one) (update_to 0 [] two)) refl))

  -- `seq par f := 1, f := 2 endpar, g := f endseq` stops at the clash: it yields f = 1 and f = 2
  pub a_seq_stops : (state : StateMap) (next : List ℕ)
      → yields p pick (rule.Seq (rule.Par (sets 0 (term.Constant one) ∷ sets 0
      (term.Constant two) ∷ []) span ∷ sets 1 (term.Read 0 []) ∷ []) span) state [] next
      ≡ Yields (both (update_to 0 [] one) (update_to 0 [] two)) next
  a_seq_stops state next =
      yields-Seq-stops p pick (rule.Par (sets 0 (term.Constant one) ∷ sets 0
      (term.Constant two) ∷ []) span) (sets 1 (term.Read 0 []) ∷ []) span state [] next next
      (both (update_to 0 [] one) (update_to 0 [] two)) (a_par_clashes state next) both_inconsistent
      (light_both (update_to 0 [] one) (update_to 0 [] two) same_function (update_light 0 (pos 1))
      (update_light 0 (pos 2)))

  -- `seq f := 1, g := f endseq` yields f = 1 and g = 1, whatever f was
  pub a_seq_reads_what_it_wrote : (state : StateMap) (next : List ℕ)
      → yields p pick (rule.Seq (sets 0 (term.Constant one) ∷ sets 1 (term.Read 0 []) ∷ []) span)
      state [] next
      ≡ Yields (both (update_to 0 [] one) (update_to 1 [] one)) next
  a_seq_reads_what_it_wrote state next =
      let u = update_to 0 [] one in
      let v = update_to 1 [] one in
      let after = fire state (alone u) in
      yields-Seq-two p pick (sets 0 (term.Constant one))
      (sets 1 (term.Read 0 [])) span state [] next next next (alone u) (alone v)
      (set_yields 0 (term.Constant one) one state [] next (eval-Constant p state one []))
      (alone_consistent u) (light_alone u (update_light 0 (pos 1)))
      (set_yields 1 (term.Read 0 []) one after [] next (read_gives 0 one after []
      (value_at-fire-member state (alone u) u (alone_consistent u) (has_alone u))))
      (subst IsLight (sym (apart_overlaid u v refl)) (light_both u v refl (update_light 0 (pos 1))
      (update_light 1 (pos 1))))
      ∙ ap (λ s. Yields s next) (apart_overlaid u v refl)

  -- `seq f := 1, f := 2 endseq` yields f = 2 alone
  pub a_seq_overwrites : (state : StateMap) (next : List ℕ)
      → yields p pick (rule.Seq (sets 0 (term.Constant one) ∷ sets 0 (term.Constant two) ∷ []) span)
      state [] next
      ≡ Yields (alone (update_to 0 [] two)) next
  a_seq_overwrites state next =
      let u = update_to 0 [] one in
      let v = update_to 0 [] two in
      let after = fire state (alone u) in
      yields-Seq-two p pick (sets 0 (term.Constant one))
      (sets 0 (term.Constant two)) span state [] next next next (alone u) (alone v)
      (set_yields 0 (term.Constant one) one state [] next (eval-Constant p state one []))
      (alone_consistent u) (light_alone u (update_light 0 (pos 1)))
      (set_yields 0 (term.Constant two) two after [] next (eval-Constant p after two []))
      (subst IsLight (sym (same_overlaid u v refl)) (light_alone v (update_light 0 (pos 2))))
      ∙ ap (λ s. Yields s next) (same_overlaid u v refl)

-- ---- choices

module _ (p : Program) (span : Span)
    (takes : (f : ℕ) → function_takes p f [] ≡ true) (fits : (f : ℕ) (v : Value)
    → in_codomain p f v ≡ true) where
  abbrev a_choice : Rule
  a_choice = rule.Choose (domains.Truth ∷ []) None (rule.Update 0 [] (term.Variable 0) span) None 0

  both_found : (state : StateMap) → satisfying (λ c. guard_of p state None ([] ++ c))
      ((Truth false ∷ []) ∷ (Truth true ∷ []) ∷ [])
      ≡ Found ((Truth false ∷ []) ∷ (Truth true ∷ []) ∷ [])
  both_found state = simp (is_true-Truth)

  chosen : (pick : Option ℕ) (state : StateMap) (next : List ℕ)
      → yields p pick a_choice state [] next
      ≡ choice pick 0 (λ c. yields p pick (rule.Update 0 [] (term.Variable 0) span) state
      ([] ++ c) next) (nothing next) ((Truth false ∷ []) ∷ (Truth true ∷ []) ∷ [])
  chosen pick state next =
      yields-Choose p pick (domains.Truth ∷ []) None (rule.Update 0 []
      (term.Variable 0) span) 0 state [] next
      ∙ ap (λ cs. on_found (satisfying (λ c. guard_of p state None ([] ++ c)) cs)
      (choice pick 0 (λ c. yields p pick (rule.Update 0 [] (term.Variable 0) span) state
      ([] ++ c) next) (nothing next))) (booleans p state)
      ∙ ap (λ o. on_found o (choice pick 0 (λ c. yields p pick
      (rule.Update 0 [] (term.Variable 0) span) state ([] ++ c) next) (nothing next)))
      (both_found state)

  -- `choose b in Boolean do f := b endchoose` takes false without a pick
  pub a_choice_takes_the_first : (state : StateMap) (next : List ℕ)
      → yields p None a_choice state [] next ≡ Yields (alone (update_to 0 [] (Truth false))) next
  a_choice_takes_the_first state next =
      chosen None state next
      ∙ set_yields p None span takes fits 0 (term.Variable 0) (Truth false) state
      (Truth false ∷ []) next (eval-Variable p state 0 (Truth false ∷ []))

  -- and true with the pick 1
  pub a_pick_takes_the_second : (state : StateMap) (next : List ℕ)
      → yields p (Some 1) a_choice state [] next ≡ Yields (alone (update_to 0 [] (Truth true))) next
  a_pick_takes_the_second state next =
      chosen (Some 1) state next
      ∙ set_yields p (Some 1) span takes fits 0 (term.Variable 0) (Truth true) state
      (Truth true ∷ []) next (eval-Variable p state 0 (Truth true ∷ []))

-- ---- new members

module _ (p : Program) (pick : Option ℕ) (span : Span) (state : StateMap) where
  -- member i of the first domain is there from now on
  abbrev is_there : ℕ → Update
  is_there i = record { location = member_location 0 i; value = Truth true }

  there_light : (i : ℕ) → update_weight (is_there i) ≤ 10
  there_light i = let w = member_weight 0 i in let v = truth_weight true in omega (arith, w, v)

  there_less : (i j : ℕ) → nat_cmp i j ≡ Less → update_cmp (is_there i) (is_there j) ≡ Less
  there_less i j h =
      ap (λ o. ordering_then (ordering_then o Equal) (compare (Truth true) (Truth true)))
      (member_less 0 i j h)

  -- `extend D with a, b do skip endextend` where D's next index is 3 takes the members 3 and 4
  pub an_extend_takes_the_next_members :
      yields p pick (rule.Extend 0 2 rule.Skip span) state [] (3 ∷ [])
      ≡ Yields (both (is_there 3) (is_there 4)) (5 ∷ [])
  an_extend_takes_the_next_members =
      let members = both (is_there 3) (is_there 4) in
      yields-Extend p pick 0 2 rule.Skip span state [] (3 ∷ [])
      ∙ ap (λ y. on_set y (λ updates later. limited span (set.union members updates) later))
      (yields-Skip p pick state (Member 0 3 ∷ Member 0 4 ∷ []) (5 ∷ []))
      ∙ ap (λ s. limited span s (5 ∷ [])) (union-empty members)
      ∙ limited-light span members (5 ∷ []) (light_both (is_there 3) (is_there 4)
      (there_less 3 4 refl) (there_light 3) (there_light 4))

  -- where the next index is 255, there is no room for two
  pub a_full_domain_takes_none :
      yields p pick (rule.Extend 0 2 rule.Skip span) state [] (255 ∷ [])
      ≡ Stops (record { kind = kind.DomainFull; span = span })
  a_full_domain_takes_none = yields-Extend p pick 0 2 rule.Skip span state [] (255 ∷ [])

  abbrev extends : Rule
  extends = rule.Extend 0 1 rule.Skip span

  one_extend : (i : ℕ) → nat_le (i + 1) 256 ≡ true → yields p pick extends state [] (i ∷ [])
      ≡ Yields (alone (is_there i)) ((i + 1) ∷ [])
  one_extend i room =
      yields-Extend p pick 0 1 rule.Skip span state [] (i ∷ [])
      ∙ ap (λ b. if not b then stop kind.DomainFull span
      else on_set (yields p pick rule.Skip state (Member 0 i ∷ []) ((i + 1) ∷ []))
      (λ updates later. limited span (set.union (alone (is_there i)) updates) later)) room
      ∙ ap (λ y. on_set y (λ updates later. limited span
      (set.union (alone (is_there i)) updates) later)) (yields-Skip p pick state (Member 0 i ∷ [])
      ((i + 1) ∷ []))
      ∙ ap (λ s. limited span s ((i + 1) ∷ [])) (union-empty (alone (is_there i)))
      ∙ limited-light span (alone (is_there i)) ((i + 1) ∷ [])
      (light_alone (is_there i) (there_light i))

  -- `par extend D with a do skip, extend D with b do skip endpar` takes two members, 0 and 1
  pub two_extends_take_two_members :
      yields p pick (rule.Par (extends ∷ extends ∷ []) span) state [] (0 ∷ [])
      ≡ Yields (both (is_there 0) (is_there 1)) (2 ∷ [])
  two_extends_take_two_members =
      let u = is_there 0 in
      let v = is_there 1 in
      let run = yields p pick extends state [] in
      let whole : set.union (set.union set.empty (alone u)) (alone v) ≡ both u v =
      ap (λ s. set.union s (alone v)) (empty-union (alone u)) ∙ union_alone v (alone u) in
      yields-Par p pick (extends ∷ extends ∷ []) span state [] (0 ∷ [])
      ∙ beside span set.empty (alone u) run (run ∷ []) (0 ∷ []) (1 ∷ []) (one_extend 0 refl)
      (subst IsLight (sym (empty-union (alone u))) (light_alone u (there_light 0)))
      ∙ beside span (set.union set.empty (alone u)) (alone v) run [] (1 ∷ []) (2 ∷ [])
      (one_extend 1 refl)
      (subst IsLight (sym whole) (light_both u v (there_less 0 1 refl) (there_light 0)
      (there_light 1)))
      ∙ ap (λ s. Yields s (2 ∷ [])) whole
