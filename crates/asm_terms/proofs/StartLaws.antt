-- One more member, declared domain, list of arguments or initial term.
use Rattle.std.proofs.Common.{◌≡◌, ℕ, zero, suc, ◌+◌, ◌<◌, ◌≤◌, Bool, true, false, ◌&&◌, nat_le}
use Rattle.std.proofs.Common.{if◌then◌else◌, List, [], ◌∷◌, ◌++◌, map, drop}
use Rattle.std.proofs.Common.{length, get_or, slice_get, refl, sym, ap, subst, ◌∙◌, arith}
use Rattle.std.proofs.Common.{append_assoc}
use Rattle.std.specs.List.{range_with_len, list_all}
use Rattle.std.specs.FinMap as finite
use Rattle.std.specs.Cmp.{Equal-is}
use Rattle.std.proofs.lemmas.Bool.Decides.{nat_tests}
use Rattle.std.proofs.lemmas.List.{append-nil, drop_more, map-append}
use Rattle.asm_value.specs.declared.value.Value.{Value}
use Rattle.asm_value.specs.declared.value.Value.TheOpen.{Value-F}
use Rattle.asm_value.specs.declared.value.Value.TheVariants.{Undef, Truth}
use Rattle.asm_value.specs.declared.value.Value.TheViews.{out-Value}
use Rattle.asm_value.specs.declared.domain.DomainInfo.{DomainInfo}
use Rattle.asm_value.specs.Value.{compare}
use Rattle.asm_value.specs.TotalOrders.{compare-IsAntisymmetric}
use Rattle.asm_value.specs.Ranges.{tuples, put_first, each_first}
use Rattle.asm_value.specs.Living.{member_location}
use Rattle.asm_value.specs.State.{StateMap, is_undef, fire_one}
use Rattle.asm_value.proofs.StateLaws.{false_by}
use Rattle.asm_value.proofs.MemberLists.{out_undef, out_truth}
use Rattle.asm_program.specs.declared.outcome.Fault.{Fault}
use Rattle.asm_program.specs.declared.program.InitInfo.{InitInfo}
use Rattle.asm_program.specs.declared.program.Program.{Program}
use Rattle.asm_program.specs.Members.{constants_of, domains_are_few, combinations}
use Rattle.asm_program.specs.Meaning.{eval}
use Rattle.asm_program.specs.Initial.{Started, Starts, StartFaults, with_members, with_constants}
use Rattle.asm_program.specs.Initial.{bare_state, on_start, at_each, args_of, with_start}
use Rattle.asm_program.specs.Initial.{with_starts, with_outcome}
use Rattle.asm_terms.specs.declared.view.View.{View}
use Rattle.asm_terms.specs.Views.{program_of, map_of}
use Rattle.asm_terms.specs.Evaluation.{gives, ranges_in}
use Rattle.asm_terms.specs.Starts.{membership, start_at, starts_at, starts_after}

-- ---- constants

truth_is_defined : is_undef (Truth true) ≡ false
truth_is_defined = false_by _ (λ tie.
    let e = compare-IsAntisymmetric (Truth true) Undef
    ((Equal-is (compare (Truth true) Undef)).0 tie) in
    let unlike : Value-F.Truth true ≡ Value-F.Undef =
    sym (out_truth true) ∙ ap out-Value e ∙ out_undef in
    absurd (cc))

fire-membership : (state : StateMap) (d i : ℕ)
    → fire_one state (membership d i) ≡ finite.insert state (member_location d i) (Truth true)
fire-membership state d i =
    ap (λ b. if b then finite.remove state (member_location d i)
    else finite.insert state (member_location d i) (Truth true)) truth_is_defined

with_members-push : (d : ℕ) (is : List ℕ) (i : ℕ) (state : StateMap)
    → with_members d (is ++ i ∷ []) state
    ≡ finite.insert (with_members d is state) (member_location d i) (Truth true)
with_members-push d [] i state = refl
with_members-push d (j ∷ is) i state =
    with_members-push d is i (finite.insert state (member_location d j) (Truth true))

range-more : (a n : ℕ) → range_with_len a (suc n) ≡ range_with_len a n ++ (a + n) ∷ []
range-more a zero = let e : a ≡ a + 0 = omega arith in ap (λ k. k ∷ []) e
range-more a (suc n) =
    let e : a + 1 + n ≡ a + suc n = omega arith in
    ap (λ ks. a ∷ ks) (range-more (a + 1) n)
    ∙ ap (λ k. a ∷ range_with_len (a + 1) n ++ k ∷ []) e

-- one more member
pub with_members-more : (d n : ℕ) (state : StateMap)
    → with_members d (range_with_len 0 (n + 1)) state
    ≡ fire_one (with_members d (range_with_len 0 n) state) (membership d n)
with_members-more d n state =
    let more : n + 1 ≡ suc n = omega arith in
    let last : 0 + n ≡ n = omega arith in
    ap (λ k. with_members d (range_with_len 0 k) state) more
    ∙ ap (λ is. with_members d is state) (range-more 0 n)
    ∙ ap (λ k. with_members d (range_with_len 0 n ++ k ∷ []) state) last
    ∙ with_members-push d (range_with_len 0 n) n state
    ∙ sym (fire-membership (with_members d (range_with_len 0 n) state) d n)

-- one more declared domain
pub with_constants-push : (d : ℕ) (infos : List DomainInfo) (info : DomainInfo) (n : ℕ)
    (state : StateMap)
    → n ≡ d + length infos
    → with_constants d (infos ++ info ∷ []) state
    ≡ with_members n (range_with_len 0 (constants_of info.kind)) (with_constants d infos state)
with_constants-push d [] info n state e =
    ap (λ k. with_members k (range_with_len 0 (constants_of info.kind)) state) (omega (arith, e))
with_constants-push d (first ∷ infos) info n state e =
    with_constants-push (d + 1) infos info n
    (with_members d (range_with_len 0 (constants_of first.kind)) state) (omega (arith, e))

both_left : (a b : Bool) → (a && b) ≡ true → a ≡ true
both_left true b h = refl
both_left false b h = h

both_right : (a b : Bool) → (a && b) ≡ true → b ≡ true
both_right true b h = h
both_right false b h = absurd (cc)

at_most : (m n : ℕ) → nat_le m n ≡ true → m ≤ n
at_most m n h = grind (arith, nat_tests)

-- at most 256 declared domains
pub domains-few : (domains : List DomainInfo) → domains_are_few domains ≡ true
    → length domains ≤ 256
domains-few domains h = at_most (length domains) 256 (both_left _ _ h)

each_few : (domains : List DomainInfo) (i : ℕ) (d : DomainInfo) → i < length domains
    → list_all (λ info. nat_le (constants_of info.kind) 256) domains ≡ true
    → constants_of (get_or domains i d).kind ≤ 256
each_few [] i d h all = absurd (omega (arith, h))
each_few (info ∷ infos) zero d h all = at_most _ 256 (both_left _ _ all)
each_few (info ∷ infos) (suc i) d h all =
    each_few infos i d (omega (arith, h)) (both_right _ _ all)

-- each with at most 256 constants
pub constants-few : (domains : List DomainInfo) (i : ℕ) (d : DomainInfo) → i < length domains
    → d ≡ get_or domains i d → domains_are_few domains ≡ true → constants_of d.kind ≤ 256
constants-few domains i d h is few =
    subst (λ info. constants_of info.kind ≤ 256) (sym is)
    (each_few domains i d h (both_right _ _ few))

-- ---- lists of arguments

on_start-twice : (s : Started) (f g : StateMap → Started)
    → on_start (on_start s f) g ≡ on_start s (λ m. on_start (f m) g)
on_start-twice (Starts state) f g = refl
on_start-twice (StartFaults e) f g = refl

on_start-only : (s : Started) → on_start s (λ m. Starts m) ≡ s
on_start-only (Starts state) = refl
on_start-only (StartFaults e) = refl

module _ (view : View) (init : InitInfo) where
  starts-append : (xs ys : List (List Value)) (state : StateMap)
      → starts_at view init (xs ++ ys) state
      ≡ on_start (starts_at view init xs state) (starts_at view init ys)
  starts-append [] ys state = refl
  starts-append (x ∷ xs) ys state =
      (λ i. on_start (start_at view init x state) (λ m. starts-append xs ys m i))
      ∙ sym (on_start-twice (start_at view init x state) (starts_at view init xs)
      (starts_at view init ys))

  after-append : (env : List Value) (xs ys : List (List Value)) (state : StateMap)
      → starts_after view init env (xs ++ ys) state
      ≡ on_start (starts_after view init env xs state) (starts_after view init env ys)
  after-append env xs ys state =
      ap (λ zs. starts_at view init zs state) (map-append (λ c. env ++ c) xs ys)
      ∙ starts-append (map (λ c. env ++ c) xs) (map (λ c. env ++ c) ys) state

  after-member : (env xs : List Value) (i : ℕ) (x : Value) (cs : List (List Value))
      (state : StateMap)
      → i < length xs → x ≡ get_or xs i x
      → starts_after view init env (each_first (drop i xs) cs) state
      ≡ on_start (starts_after view init env (put_first x cs) state)
      (starts_after view init env (each_first (drop (i + 1) xs) cs))
  after-member env xs i x cs state h is =
      ap (λ us. starts_after view init env (each_first us cs) state) (drop_more xs i x h)
      ∙ after-append env (put_first (get_or xs i x) cs) (each_first (drop (i + 1) xs) cs) state
      ∙ ap (λ y. on_start (starts_after view init env (put_first y cs) state)
      (starts_after view init env (each_first (drop (i + 1) xs) cs))) (sym is)

  pub after-on : (env xs : List Value) (i : ℕ) (x : Value) (cs : List (List Value))
      (state later : StateMap)
      → i < length xs → x ≡ get_or xs i x
      → Starts later ≡ starts_after view init env (put_first x cs) state
      → starts_after view init env (each_first (drop (i + 1) xs) cs) later
      ≡ starts_after view init env (each_first (drop i xs) cs) state
  after-on env xs i x cs state later h is at =
      sym (after-member env xs i x cs state h is
      ∙ ap (λ s. on_start s (starts_after view init env (each_first (drop (i + 1) xs) cs)))
      (sym at))

  pub after-end : (env xs : List Value) (i : ℕ) (x : Value) (cs : List (List Value))
      (state : StateMap) (e : Fault)
      → i < length xs → x ≡ get_or xs i x
      → StartFaults e ≡ starts_after view init env (put_first x cs) state
      → StartFaults e ≡ starts_after view init env (each_first (drop i xs) cs) state
  after-end env xs i x cs state e h is at =
      sym (after-member env xs i x cs state h is
      ∙ ap (λ s. on_start s (starts_after view init env (each_first (drop (i + 1) xs) cs)))
      (sym at))

  put-after : (env : List Value) (x : Value) (cs : List (List Value))
      → map (λ c. (env ++ x ∷ []) ++ c) cs ≡ map (λ c. env ++ c) (put_first x cs)
  put-after env x [] = refl
  put-after env x (c ∷ cs) = λ i. append_assoc env (x ∷ []) c i ∷ put-after env x cs i

  pub after-with : (env : List Value) (x : Value) (cs : List (List Value)) (state : StateMap)
      → starts_after view init (env ++ x ∷ []) cs state
      ≡ starts_after view init env (put_first x cs) state
  after-with env x cs state = ap (λ zs. starts_at view init zs state) (put-after env x cs)

  pub after-none : (env : List Value) (state : StateMap)
      → starts_after view init env (tuples []) state ≡ start_at view init env state
  after-none env state =
      on_start-only (start_at view init (env ++ []) state)
      ∙ ap (λ args. start_at view init args state) (append-nil env)

  all_of_nothing : (cs : List (List Value)) → map (λ c. [] ++ c) cs ≡ cs
  all_of_nothing [] = refl
  all_of_nothing (c ∷ cs) = ap (λ zs. c ∷ zs) (all_of_nothing cs)

  each-at : map_of view ≡ bare_state (program_of view).domains → (cs : List (List Value))
      (state : StateMap)
      → starts_at view init cs state ≡ at_each (program_of view) init cs state
  unfolding gives
  each-at bare [] state = refl
  each-at bare (c ∷ cs) state =
      (λ i. on_start (with_outcome (program_of view) init.function init.span c state
      (eval (program_of view) (bare i) init.body c)) (λ m. each-at bare cs m i))

  -- the function has its initial values
  pub starts-function : map_of view ≡ bare_state (program_of view).domains → (state : StateMap)
      → starts_after view init []
      (tuples (ranges_in view (args_of (slice_get (program_of view).functions init.function))))
      state
      ≡ with_start (program_of view) init state
  starts-function bare state =
      let domains = args_of (slice_get (program_of view).functions init.function) in
      ap (λ zs. starts_at view init zs state) (all_of_nothing (tuples (ranges_in view domains)))
      ∙ each-at bare (tuples (ranges_in view domains)) state
      ∙ ap (λ m. at_each (program_of view) init
      (combinations (program_of view).domains m domains) state) bare

-- ---- initial terms

module _ (p : Program) where
  one_more : (inits : List InitInfo) (i : ℕ) (d : InitInfo) (state : StateMap)
      → i < length inits → d ≡ get_or inits i d
      → with_starts p (drop i inits) state
      ≡ on_start (with_start p d state) (with_starts p (drop (i + 1) inits))
  one_more inits i d state h is =
      ap (λ us. with_starts p us state) (drop_more inits i d h)
      ∙ ap (λ x. on_start (with_start p x state) (with_starts p (drop (i + 1) inits))) (sym is)

  pub with_starts-on : (inits : List InitInfo) (i : ℕ) (d : InitInfo) (state later : StateMap)
      → i < length inits → d ≡ get_or inits i d → Starts later ≡ with_start p d state
      → with_starts p (drop (i + 1) inits) later ≡ with_starts p (drop i inits) state
  with_starts-on inits i d state later h is at =
      sym (one_more inits i d state h is
      ∙ ap (λ s. on_start s (with_starts p (drop (i + 1) inits))) (sym at))

  pub with_starts-end : (inits : List InitInfo) (i : ℕ) (d : InitInfo) (state : StateMap)
      (e : Fault)
      → i < length inits → d ≡ get_or inits i d → StartFaults e ≡ with_start p d state
      → StartFaults e ≡ with_starts p (drop i inits) state
  with_starts-end inits i d state e h is at =
      sym (one_more inits i d state h is
      ∙ ap (λ s. on_start s (with_starts p (drop (i + 1) inits))) (sym at))
