-- The steps of the loops that count in rounds.
use Rattle.std.proofs.Common.{◌≡◌, ℕ, zero, suc, ◌+◌, ◌<◌, ◌≤◌, ◌-◌, Option, List, [], ◌∷◌, ◌++◌, map, take, length, get_or}
use Rattle.std.proofs.Common.{refl, sym, ap, ◌∙◌, arith}
use Rattle.std.proofs.lemmas.List.{take_more, take_all}
use Rattle.asm_value.specs.declared.domain.DomainInfo.{DomainInfo}
use Rattle.asm_program.specs.declared.trees.Term.{Term}
use Rattle.asm_program.specs.declared.program.MacroInfo.{MacroInfo}
use Rattle.asm_counts.specs.declared.counts.Counts.{Counts}
use Rattle.asm_limits.specs.Rounds.{body_counts, macro_counts, function_round, macro_round, iterated}

-- ---- equal lists

pub same-none : (xs ys : List Counts) → take 0 xs ≡ take 0 ys
same-none xs ys = refl

pub same-more : (xs ys : List Counts) (i : ℕ) (d : Counts) → i < length xs → length xs ≡ length ys
    → take i xs ≡ take i ys → get_or xs i d ≡ get_or ys i d → take (i + 1) xs ≡ take (i + 1) ys
same-more xs ys i d h l e f =
    take_more xs i d h ∙ (λ k. e k ++ f k ∷ []) ∙ sym (take_more ys i d (omega (arith, h, l)))

pub same-all : (xs ys : List Counts) (i : ℕ) → length xs ≤ i → length xs ≡ length ys
    → take i xs ≡ take i ys → xs ≡ ys
same-all xs ys i h l e =
    sym (take_all i xs h) ∙ e ∙ take_all i ys (omega (arith, h, l))

pub ruleset same_steps = (same-none, same-more, same-all)

-- ---- one round

mapped-more : {A B : Type 0} (f : A → B) (xs : List A) (x : A)
    → map f xs ++ f x ∷ [] ≡ map f (xs ++ x ∷ [])
mapped-more f [] x = refl
mapped-more f (y ∷ ys) x = ap (λ zs. f y ∷ zs) (mapped-more f ys x)

module _ (domains : List DomainInfo) (functions : List Counts) where
  pub function-none : [] ≡ function_round domains [] functions
  unfolding function_round
  function-none = refl

  pub function-more : (bodies : List (Option Term)) (i : ℕ) (d : Option Term) → i < length bodies
      → function_round domains (take i bodies) functions
      ++ body_counts domains functions (get_or bodies i d) ∷ []
      ≡ function_round domains (take (i + 1) bodies) functions
  unfolding function_round
  function-more bodies i d h =
      mapped-more (body_counts domains functions) (take i bodies) (get_or bodies i d)
      ∙ ap (map (body_counts domains functions)) (sym (take_more bodies i d h))

  pub macro-none : (macros : List Counts) → [] ≡ macro_round domains functions [] macros
  unfolding macro_round
  macro-none macros = refl

  pub macro-more : (macros : List Counts) (infos : List MacroInfo) (i : ℕ) (d : MacroInfo)
      → i < length infos
      → macro_round domains functions (take i infos) macros
      ++ macro_counts domains functions macros (get_or infos i d) ∷ []
      ≡ macro_round domains functions (take (i + 1) infos) macros
  unfolding macro_round
  macro-more macros infos i d h =
      mapped-more (macro_counts domains functions macros) (take i infos) (get_or infos i d)
      ∙ ap (map (macro_counts domains functions macros)) (sym (take_more infos i d h))

pub ruleset function_steps = (function-none, function-more)

pub ruleset macro_steps = (macro-none, macro-more)

-- ---- all rounds

module _ (round : List Counts → List Counts) (first : List Counts) where
  later : (n m i : ℕ) → m ≡ n + i → round (iterated i round first) ≡ iterated i round first
      → iterated m round first ≡ iterated i round first
  unfolding iterated
  later zero m i h e =
      let same : m ≡ i = omega (arith, h) in ap (λ k. iterated k round first) same
  later (suc n) m i h e =
      let next : m ≡ suc (n + i) = omega (arith, h) in
      ap (λ k. iterated k round first) next ∙ ap round (later n (n + i) i refl e) ∙ e

  none-yet : first ≡ iterated 0 round first
  unfolding iterated
  none-yet = refl

  one-more : (i : ℕ) (counts next : List Counts) → counts ≡ iterated i round first
      → next ≡ round counts → next ≡ iterated (i + 1) round first
  unfolding iterated
  one-more i counts next e f =
      let same : suc i ≡ i + 1 = omega arith in
      f ∙ ap round e ∙ ap (λ n. iterated n round first) same

  early : (i : ℕ) (counts next : List Counts) → i < 512 → counts ≡ iterated i round first
      → next ≡ round counts → counts ≡ next → next ≡ iterated 512 round first
  early i counts next low e f s =
      let all : 512 ≡ 512 - i + i = omega (arith, low) in
      sym s ∙ e ∙ sym (later (512 - i) 512 i all (ap round (sym e) ∙ sym f ∙ sym s ∙ e))

module _ (domains : List DomainInfo) (bodies : List (Option Term)) (first : List Counts) where
  pub functions-none : first ≡ iterated 0 (function_round domains bodies) first
  functions-none = none-yet (function_round domains bodies) first

  pub functions-more : (i : ℕ) (counts next : List Counts)
      → counts ≡ iterated i (function_round domains bodies) first
      → next ≡ function_round domains bodies counts
      → next ≡ iterated (i + 1) (function_round domains bodies) first
  functions-more = one-more (function_round domains bodies) first

  pub functions-early : (i : ℕ) (counts next : List Counts) → i < 512
      → counts ≡ iterated i (function_round domains bodies) first
      → next ≡ function_round domains bodies counts → counts ≡ next
      → next ≡ iterated 512 (function_round domains bodies) first
  functions-early = early (function_round domains bodies) first

module _ (domains : List DomainInfo) (functions : List Counts) (infos : List MacroInfo)
    (first : List Counts) where
  pub macros-none : first ≡ iterated 0 (macro_round domains functions infos) first
  macros-none = none-yet (macro_round domains functions infos) first

  pub macros-more : (i : ℕ) (counts next : List Counts)
      → counts ≡ iterated i (macro_round domains functions infos) first
      → next ≡ macro_round domains functions infos counts
      → next ≡ iterated (i + 1) (macro_round domains functions infos) first
  macros-more = one-more (macro_round domains functions infos) first

  pub macros-early : (i : ℕ) (counts next : List Counts) → i < 512
      → counts ≡ iterated i (macro_round domains functions infos) first
      → next ≡ macro_round domains functions infos counts → counts ≡ next
      → next ≡ iterated 512 (macro_round domains functions infos) first
  macros-early = early (macro_round domains functions infos) first

pub ruleset functions_steps = (functions-none, functions-more, functions-early)

pub ruleset macros_steps = (macros-none, macros-more, macros-early)
