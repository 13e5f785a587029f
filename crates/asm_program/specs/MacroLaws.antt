-- What is said of macro rules where calls are followed deep enough: the same at each depth past that
-- to which their calls nest, and the same of a macro rule as of its body.
use Rattle.std.proofs.Common.{◌≡◌, ℕ, zero, suc, ◌+◌, ◌<◌, ◌≤◌, max, Bool, true, false, ◌&&◌, ◌==◌, IsTrue, Option, Some, None, List, [], ◌∷◌, ◌++◌, map, length, slice_get, get_or, nat_lt, refl, sym, ap, subst, ◌∙◌, arith, rules}
use Rattle.std.specs.Option.{option_map_or}
use Rattle.std.specs.List.{list_all, range_with_len}
use Rattle.std.proofs.lemmas.Bool.Decides.{nat_tests}
use Rattle.std.proofs.lemmas.List.FromFn.{length-range_with_len, get_or-range_with_len}
use Rattle.asm_program.specs.declared.trees.Term.{Term}
use Rattle.asm_program.specs.declared.trees.Rule.{Rule}
use Rattle.asm_program.specs.declared.trees.RuleCase.{RuleCase}
use Rattle.asm_program.specs.declared.trees.Rule.TheOpen.{Rule-F, RuleCase-F}
use Rattle.asm_program.specs.declared.trees.Rule.TheFolds.{fold-RuleCase, fold_out-Rule, fold_out-RuleCase, ind-Rule, map-Rule, map-RuleCase}
use Rattle.asm_program.specs.declared.trees.Rule.TheViews.{out-Rule, roll-Rule, out-RuleCase, roll-RuleCase, the_lemmas}
use Rattle.asm_program.specs.declared.program.MacroInfo.{MacroInfo}
use Rattle.asm_program.specs.Forms.{rule_parts, rule_called, rule_case_pair, of_rule, rule_in, rule_of, of_macro}
use Rattle.asm_program.specs.Nesting.{greatest, rule_nesting_level, rule_nesting, macros_are_ranked}

-- ---- one level

-- what is said of a case's rule, with its term
unfoldable pub of_case : {X : Type 0} → ((ℕ → X) → Rule-F X (Term × X) → X) → (ℕ → X) → RuleCase
    → Term × X
of_case {X} level calls = fold-RuleCase X (Term × X) (level calls) rule_case_pair

-- a level with what is said of its parts in their place
abbrev pub said : {X : Type 0} → ((ℕ → X) → Rule-F X (Term × X) → X) → (ℕ → X)
    → Rule-F Rule RuleCase → Rule-F X (Term × X)
said {X} level calls a = map-Rule Rule RuleCase X (Term
    × X) (of_rule level calls) (of_case level calls) a

pub of_rule-out : {X : Type 0} (level : (ℕ → X) → Rule-F X (Term × X) → X) (calls : ℕ
    → X) (r : Rule)
    → of_rule level calls r ≡ level calls (said level calls (out-Rule r))
unfolding of_rule of_case
of_rule-out {X} level calls r = fold_out-Rule X (Term × X) (level calls) rule_case_pair r

pub of_case-out : {X : Type 0} (level : (ℕ → X) → Rule-F X (Term × X) → X) (calls : ℕ
    → X) (c : RuleCase)
    → of_case level calls c ≡ rule_case_pair (map-RuleCase Rule RuleCase X (Term
    × X) (of_rule level calls) (of_case level calls) (out-RuleCase c))
unfolding of_rule of_case
of_case-out {X} level calls c = fold_out-RuleCase X (Term × X) (level calls) rule_case_pair c

pub out_roll : (a : Rule-F Rule RuleCase) → out-Rule (roll-Rule a) ≡ a
out_roll a = search (rules, the_lemmas)

pub case_out_roll : (a : RuleCase-F Rule RuleCase) → out-RuleCase (roll-RuleCase a) ≡ a
case_out_roll a = search (rules, the_lemmas)

-- the level looks at calls only where the rule calls a macro rule, and there at this one
abbrev pub LooksAtCalled : {X : Type 0} → ((ℕ → X) → Rule-F X (Term × X) → X) → Type 0
LooksAtCalled {X} level =
    (c d : ℕ → X) (a : Rule-F X (Term × X)) → ((m : ℕ) → rule_called a ≡ Some m → c m ≡ d m)
    → level c a ≡ level d a

-- how deep calls nest in a rule, where those of each macro rule nest so deep
abbrev pub nested : (ℕ → ℕ) → Rule → ℕ
nested ranks = of_rule rule_nesting_level ranks

abbrev pub case_nested : (ℕ → ℕ) → RuleCase → Term × ℕ
case_nested ranks = of_case rule_nesting_level ranks

max_left : (a b n : ℕ) → max a b ≤ n → a ≤ n
max_left a b n h = omega arith

max_right : (a b n : ℕ) → max a b ≤ n → b ≤ n
max_right a b n h = omega arith

pub greatest-append : (ms ns : List ℕ) → greatest (ms ++ ns) ≡ max (greatest ms) (greatest ns)
greatest-append [] ns = omega arith
greatest-append (m ∷ ms) ns = let e = greatest-append ms ns in omega arith

-- ---- what is said of a rule depends on macro rules of lower nesting alone

module _ {X : Type 0} (level : (ℕ → X) → Rule-F X (Term × X)
    → X) (local : LooksAtCalled level) (ranks : ℕ → ℕ) (c d : ℕ → X) (n : ℕ) (same : (m : ℕ)
    → ranks m < n → c m ≡ d m) where
  Agree : Rule → Type 0
  Agree r = nested ranks r ≤ n → of_rule level c r ≡ of_rule level d r

  AgreeCase : RuleCase → Type 0
  AgreeCase k = (case_nested ranks k).1 ≤ n → of_case level c k ≡ of_case level d k

  abbrev Held : Type 0
  Held = (r : Rule) × Agree r

  abbrev HeldCase : Type 0
  HeldCase = (k : RuleCase) × AgreeCase k

  abbrev of : Held → Rule
  of h = h.0

  abbrev of_held : HeldCase → RuleCase
  of_held h = h.0

  agree_all : (hs : List Held) → greatest (map (nested ranks) (map of hs)) ≤ n
      → map (of_rule level c) (map of hs) ≡ map (of_rule level d) (map of hs)
  unfolding Agree
  agree_all [] h = refl
  agree_all (r ∷ rs) h = λ i. r.1 (omega arith) i ∷ agree_all rs (omega arith) i

  agree_cases : (hs : List HeldCase) → greatest (map (λ k. k.1) (map (case_nested ranks)
      (map of_held hs))) ≤ n
      → map (of_case level c) (map of_held hs) ≡ map (of_case level d) (map of_held hs)
  unfolding AgreeCase
  agree_cases [] h = refl
  agree_cases (k ∷ ks) h = λ i. k.1 (omega arith) i ∷ agree_cases ks (omega arith) i

  -- the parts of one level
  agree_parts : (y : Rule-F Held HeldCase)
      → greatest (rule_parts (said rule_nesting_level ranks
      (map-Rule Held HeldCase Rule RuleCase of of_held y))) ≤ n
      → said level c (map-Rule Held HeldCase Rule RuleCase of of_held y)
      ≡ said level d (map-Rule Held HeldCase Rule RuleCase of of_held y)
  unfolding Agree
  agree_parts Rule-F.Skip h = refl
  agree_parts (Rule-F.Call m args) h = refl
  agree_parts (Rule-F.Update f args value span) h = refl
  agree_parts (Rule-F.Par rules span) h = λ i. Rule-F.Par (agree_all rules h i) span
  agree_parts (Rule-F.Seq rules span) h = λ i. Rule-F.Seq (agree_all rules h i) span
  agree_parts (Rule-F.If guard first None) h = λ i. Rule-F.If guard (first.1 (omega arith) i) None
  agree_parts (Rule-F.If guard first (Some other)) h =
      λ i. Rule-F.If guard (first.1 (omega arith) i) (Some (other.1 (omega arith) i))
  agree_parts (Rule-F.Forall ranges guard body span) h = λ i. Rule-F.Forall ranges guard (body.1
      (omega arith) i) span
  agree_parts (Rule-F.Choose ranges guard body None place) h =
      λ i. Rule-F.Choose ranges guard (body.1 (omega arith) i) None place
  agree_parts (Rule-F.Choose ranges guard body (Some other) place) h =
      λ i. Rule-F.Choose ranges guard (body.1 (omega arith) i) (Some (other.1
      (omega arith) i)) place
  agree_parts (Rule-F.Let values body) h = λ i. Rule-F.Let values (body.1 (omega arith) i)
  agree_parts (Rule-F.Switch v cases None) h =
      λ i. Rule-F.Switch v (agree_cases cases (omega (arith, greatest-append)) i) None
  agree_parts (Rule-F.Switch v cases (Some other)) h =
      λ i. Rule-F.Switch v (agree_cases cases (omega (arith, greatest-append)) i) (Some (other.1
      (omega (arith, greatest-append)) i))
  agree_parts (Rule-F.Extend domain count body span) h = λ i. Rule-F.Extend domain count (body.1
      (omega arith) i) span

  -- the macro rule that one level calls
  agree_called : (x : Rule-F Rule RuleCase) → rule_nesting_level ranks
      (said rule_nesting_level ranks x) ≤ n
      → (m : ℕ) → rule_called (said level d x) ≡ Some m → c m ≡ d m
  agree_called Rule-F.Skip h m e = absurd (cc)
  agree_called (Rule-F.Call f args) h m e = let is : f ≡ m = cc in subst (λ k. c k
      ≡ d k) is (same f (omega arith))
  agree_called (Rule-F.Update f args value span) h m e = absurd (cc)
  agree_called (Rule-F.Par rules span) h m e = absurd (cc)
  agree_called (Rule-F.Seq rules span) h m e = absurd (cc)
  agree_called (Rule-F.If guard first other) h m e = absurd (cc)
  agree_called (Rule-F.Forall ranges guard body span) h m e = absurd (cc)
  agree_called (Rule-F.Choose ranges guard body other place) h m e = absurd (cc)
  agree_called (Rule-F.Let values body) h m e = absurd (cc)
  agree_called (Rule-F.Switch v cases other) h m e = absurd (cc)
  agree_called (Rule-F.Extend domain count body span) h m e = absurd (cc)

  agree_step : (x : Rule-F Rule RuleCase) (y : Rule-F Held HeldCase)
      → map-Rule Held HeldCase Rule RuleCase of of_held y ≡ x → Agree (roll-Rule x)
  unfolding Agree
  agree_step x y is h =
      let low : rule_nesting_level ranks (said rule_nesting_level ranks x) ≤ n =
      subst (λ k. k ≤ n) (of_rule-out rule_nesting_level ranks (roll-Rule x)
      ∙ ap (λ a. rule_nesting_level ranks (said rule_nesting_level ranks a)) (out_roll x)) h in
      let parts : said level c x ≡ said level d x =
      subst (λ z. said level c z ≡ said level d z) is
      (agree_parts y (max_left _ _ n (subst (λ z. rule_nesting_level ranks
      (said rule_nesting_level ranks z) ≤ n) (sym is) low))) in
      of_rule-out level c (roll-Rule x) ∙ ap (λ a. level c (said level c a)) (out_roll x)
      ∙ ap (level c) parts
      ∙ local c d (said level d x) (agree_called x low)
      ∙ sym (of_rule-out level d (roll-Rule x) ∙ ap (λ a. level d (said level d a)) (out_roll x))

  agree_case_step : (x : RuleCase-F Rule RuleCase) (y : RuleCase-F Held HeldCase)
      → map-RuleCase Held HeldCase Rule RuleCase of of_held y ≡ x → AgreeCase (roll-RuleCase x)
  unfolding AgreeCase Agree
  agree_case_step x y is h =
      let low : of_rule rule_nesting_level ranks y.rule.0 ≤ n =
      subst (λ k. k ≤ n) (ap (λ p. p.1) (of_case-out rule_nesting_level ranks (roll-RuleCase x)
      ∙ ap (λ a. rule_case_pair (map-RuleCase Rule RuleCase ℕ (Term
      × ℕ) (of_rule rule_nesting_level ranks) (of_case rule_nesting_level ranks) a))
      (case_out_roll x ∙ sym is))) h in
      of_case-out level c (roll-RuleCase x)
      ∙ ap (λ a. rule_case_pair (map-RuleCase Rule RuleCase X (Term
      × X) (of_rule level c) (of_case level c) a)) (case_out_roll x ∙ sym is)
      ∙ (λ i. (y.value, y.rule.1 low i))
      ∙ sym (of_case-out level d (roll-RuleCase x)
      ∙ ap (λ a. rule_case_pair (map-RuleCase Rule RuleCase X (Term
      × X) (of_rule level d) (of_case level d) a)) (case_out_roll x ∙ sym is))

  pub agree : (r : Rule) → nested ranks r ≤ n → of_rule level c r ≡ of_rule level d r
  unfolding Agree
  agree r = ind-Rule Agree AgreeCase agree_step agree_case_step r

-- ---- calls nest no deeper than they are followed

module _ (ranks : ℕ → ℕ) (n : ℕ) (low : (m : ℕ) → ranks m ≤ n) where
  Below : Rule → Type 0
  Below r = nested ranks r ≤ n + 1

  BelowCase : RuleCase → Type 0
  BelowCase k = (case_nested ranks k).1 ≤ n + 1

  abbrev Lower : Type 0
  Lower = (r : Rule) × Below r

  abbrev LowerCase : Type 0
  LowerCase = (k : RuleCase) × BelowCase k

  abbrev part : Lower → Rule
  part h = h.0

  abbrev case_part : LowerCase → RuleCase
  case_part h = h.0

  below_all : (hs : List Lower) → greatest (map (nested ranks) (map part hs)) ≤ n + 1
  unfolding Below
  below_all [] = omega arith
  below_all (r ∷ rs) = let first = r.1 in let rest = below_all rs in omega arith

  below_cases : (hs : List LowerCase) → greatest (map (λ k. k.1) (map (case_nested ranks)
      (map case_part hs))) ≤ n + 1
  unfolding BelowCase
  below_cases [] = omega arith
  below_cases (k ∷ ks) = let first = k.1 in let rest = below_cases ks in omega arith

  below_level : (y : Rule-F Lower LowerCase)
      → rule_nesting_level ranks (said rule_nesting_level ranks
      (map-Rule Lower LowerCase Rule RuleCase part case_part y)) ≤ n + 1
  unfolding Below
  below_level Rule-F.Skip = omega arith
  below_level (Rule-F.Call m args) = let l = low m in omega arith
  below_level (Rule-F.Update f args value span) = omega arith
  below_level (Rule-F.Par rules span) = let l = below_all rules in omega arith
  below_level (Rule-F.Seq rules span) = let l = below_all rules in omega arith
  below_level (Rule-F.If guard first None) = let l = first.1 in omega arith
  below_level (Rule-F.If guard first (Some other)) = let l = first.1 in let k = other.1 in omega
      arith
  below_level (Rule-F.Forall ranges guard body span) = let l = body.1 in omega arith
  below_level (Rule-F.Choose ranges guard body None place) = let l = body.1 in omega arith
  below_level (Rule-F.Choose ranges guard body
      (Some other) place) = let l = body.1 in let k = other.1 in omega arith
  below_level (Rule-F.Let values body) = let l = body.1 in omega arith
  below_level (Rule-F.Switch v cases None) = let l = below_cases cases in omega
      (arith, greatest-append)
  below_level (Rule-F.Switch v cases (Some other)) = let l = below_cases cases in let k = other.1
      in omega (arith, greatest-append)
  below_level (Rule-F.Extend domain count body span) = let l = body.1 in omega arith

  below_step : (x : Rule-F Rule RuleCase) (y : Rule-F Lower LowerCase)
      → map-Rule Lower LowerCase Rule RuleCase part case_part y ≡ x → Below (roll-Rule x)
  unfolding Below
  below_step x y is =
      subst (λ k. k ≤ n + 1) (sym (of_rule-out rule_nesting_level ranks (roll-Rule x)
      ∙ ap (λ a. rule_nesting_level ranks (said rule_nesting_level ranks a)) (out_roll x
      ∙ sym is))) (below_level y)

  below_case_step : (x : RuleCase-F Rule RuleCase) (y : RuleCase-F Lower LowerCase)
      → map-RuleCase Lower LowerCase Rule RuleCase part case_part y ≡ x
      → BelowCase (roll-RuleCase x)
  unfolding BelowCase Below
  below_case_step x y is =
      subst (λ k. k ≤ n + 1) (sym (ap (λ p. p.1) (of_case-out rule_nesting_level ranks
      (roll-RuleCase x)
      ∙ ap (λ a. rule_case_pair (map-RuleCase Rule RuleCase ℕ (Term
      × ℕ) (of_rule rule_nesting_level ranks) (of_case rule_nesting_level ranks) a))
      (case_out_roll x ∙ sym is)))) y.rule.1

  below : (r : Rule) → nested ranks r ≤ n + 1
  unfolding Below
  below r = ind-Rule Below BelowCase below_step below_case_step r

below_option : (o : Option Rule) (ranks : ℕ → ℕ) (n : ℕ) → ((m : ℕ) → ranks m ≤ n)
    → option_map_or (nested ranks) o 0 ≤ n + 1
below_option None ranks n low = omega arith
below_option (Some r) ranks n low = below ranks n low r

rule_nesting-below : (macros : List MacroInfo) (n m : ℕ) → rule_nesting macros n m ≤ n
unfolding of_macro
rule_nesting-below macros zero m = omega arith
rule_nesting-below macros (suc n) m =
    let b = below_option (rule_of macros m) (rule_nesting macros n) n
    (rule_nesting-below macros n) in omega arith

-- ---- no macro rule reaches itself

both_left : (a b : Bool) → (a && b) ≡ true → a ≡ true
both_left true b h = refl
both_left false b h = h

both_right : (a b : Bool) → (a && b) ≡ true → b ≡ true
both_right true b h = h
both_right false b h = absurd (cc)

from_test : (m n : ℕ) → (m == n) ≡ true → m ≡ n
from_test m n h = grind (arith, nat_tests)

passes_at : (q : ℕ → Bool) (xs : List ℕ) (i : ℕ) → list_all q xs ≡ true → i < length xs
    → q (get_or xs i 0) ≡ true
passes_at q [] i h l = absurd (omega arith)
passes_at q (x ∷ xs) zero h l = both_left _ _ h
passes_at q (x ∷ xs) (suc i) h l = passes_at q xs i (both_right _ _ h) (omega arith)

passes_below : (q : ℕ → Bool) (n i : ℕ) → list_all q (range_with_len 0 n) ≡ true → i < n → q i
    ≡ true
passes_below q n i h l =
    let at : get_or (range_with_len 0 n) i 0 ≡ i = omega (arith, get_or-range_with_len 0 n i 0 l) in
    subst (λ k. q k ≡ true) at (passes_at q (range_with_len 0 n) i h (omega
    (arith, length-range_with_len 0 n)))

none_past : (macros : List MacroInfo) (m : ℕ) → length macros ≤ m → slice_get macros m ≡ None
none_past [] m l = refl
none_past (x ∷ xs) zero l = absurd (omega arith)
none_past (x ∷ xs) (suc m) l = none_past xs m (omega arith)

-- how deep the calls of a macro rule's body nest
abbrev pub rank : List MacroInfo → ℕ → ℕ
rank macros = rule_nesting macros (length macros)

rank-none : (macros : List MacroInfo) (n m : ℕ) → rule_of macros m ≡ None → rule_nesting macros n m
    ≡ 0
unfolding of_macro
rank-none macros zero m e = refl
rank-none macros (suc n) m e = ap (λ o. option_map_or (of_rule rule_nesting_level
    (rule_nesting macros n)) o 0) e

module _ (macros : List MacroInfo) (ranked : IsTrue (macros_are_ranked macros)) where
  -- one call further on no call is deeper
  rank-more : (m : ℕ) → rank macros m ≡ rule_nesting macros (suc (length macros)) m
  rank-more m =
      elim (nat_lt m (length macros)) as
      (λ b. nat_lt m (length macros) ≡ b → rank macros m
      ≡ rule_nesting macros (suc (length macros)) m) [
        | true ↦ λ is. from_test _ _ (passes_below
            (λ k. rule_nesting macros (length macros) k == rule_nesting macros (suc
            (length macros)) k)
            (length macros) m ranked (grind (arith, nat_tests)))
        | false ↦ λ is.
            let none : rule_of macros m ≡ None = ap rule_in (none_past macros m (grind
            (arith, nat_tests))) in
            rank-none macros (length macros) m none
            ∙ sym (rank-none macros (suc (length macros)) m none)
      ] refl

  -- that of the body
  pub rank-body : (m : ℕ) (body : Rule) → rule_of macros m ≡ Some body → rank macros m
      ≡ nested (rank macros) body
  unfolding of_macro
  rank-body m body e =
      rank-more m ∙ ap (λ o. option_map_or (of_rule rule_nesting_level (rank macros)) o 0) e

  module _ {X : Type 0} (level : (ℕ → X) → Rule-F X (Term × X)
      → X) (local : LooksAtCalled level) (none : X) where
    map_or_same : (o : Option Rule) (c d : Rule → X) → ((body : Rule) → o ≡ Some body → c body
        ≡ d body)
        → option_map_or c o none ≡ option_map_or d o none
    map_or_same None c d h = refl
    map_or_same (Some body) c d h = h body refl

    -- calls followed deeper than those of a macro rule nest give it the same
    pub settled : (k l m : ℕ) → rank macros m < k → rank macros m < l
        → of_macro level none macros k m ≡ of_macro level none macros l m
    unfolding of_macro
    settled zero l m h j = absurd (omega arith)
    settled (suc k) zero m h j = absurd (omega arith)
    settled (suc k) (suc l) m h j =
        map_or_same (rule_of macros m) (of_rule level (of_macro level none macros k))
        (of_rule level (of_macro level none macros l))
        (λ body e. agree level local (rank macros) (of_macro level none macros k)
        (of_macro level none macros l) (rank macros m)
        (λ q low. settled k l q (omega arith) (omega arith)) body (omega
        (arith, rank-body m body e)))

    -- what is said of a macro rule is said of its body
    pub of_macro-body : (k m : ℕ) (body : Rule) → rank macros m < k → rule_of macros m ≡ Some body
        → of_macro level none macros (suc k) m ≡ of_rule level (of_macro level none macros
        (suc k)) body
    unfolding of_macro
    of_macro-body k m body h e =
        ap (λ o. option_map_or (of_rule level (of_macro level none macros k)) o none) e
        ∙ agree level local (rank macros) (of_macro level none macros k)
        (of_macro level none macros (suc k)) (rank macros m)
        (λ q low. settled k (suc k) q (omega arith) (omega arith)) body (omega
        (arith, rank-body m body e))

pub of_macro-none : {X : Type 0} (level : (ℕ → X) → Rule-F X (Term × X)
    → X) (none : X) (macros : List MacroInfo) (k m : ℕ)
    → rule_of macros m ≡ None → of_macro level none macros (suc k) m ≡ none
unfolding of_macro
of_macro-none level none macros k m e = ap (λ o. option_map_or (of_rule level
    (of_macro level none macros k)) o none) e

-- with so few macro rules calls nest less than 512 deep
pub rank-low : (macros : List MacroInfo) (m : ℕ) → length macros ≤ 256 → rank macros m < 511
rank-low macros m few = let b = rule_nesting-below macros (length macros) m in omega arith
