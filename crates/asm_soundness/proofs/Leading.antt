-- What a set that a rule yields leads to: indexes of next members don't fall, and each update may
-- be taken where the members below them pass. Sets side by side lead there together.
use Rattle.std.proofs.Common.{◌≡◌, ◌≢◌, ℕ, ◌+◌, ◌<◌, ◌≤◌, ◌⊎◌, inl, inr, Bool, true, List, [], ◌∷◌}
use Rattle.std.proofs.Common.{length, sym, subst, arith}
use Rattle.std.specs.Prelude.{slice_index, slice_set}
use Rattle.std.proofs.lemmas.List.{get_or-set_same, get_or-set_other}
use Rattle.std.specs.List.{AllByRecursion}
use Rattle.asm_value.specs.Living.{is_abstract}
use Rattle.asm_value.specs.UpdateSet as set
use Rattle.asm_value.specs.UpdateSet.{UpdateSet}
use Rattle.asm_syntax.specs.declared.token.Span.{Span}
use Rattle.asm_program.specs.declared.program.Program.{Program}
use Rattle.asm_program.specs.Yields.{Yielded, Yields, union_of}
use Rattle.asm_program.specs.BookYields.{Rises}
use Rattle.asm_program.proofs.Outcomes.{same_set, same_next, set_of, limited_on}
use Rattle.asm_soundness.proofs.Updates.{EachMayTake, both_taken}

-- ---- indexes of next members

-- no domain has over 256
abbrev pub AreFew : List ℕ → Type 0
AreFew next = (d : ℕ) → slice_index next d ≤ 256

-- where so many of one domain are taken
module _ (next : List ℕ) (d count : ℕ) (declared : d < length next) where
  abbrev passed : List ℕ
  passed = slice_set next d (slice_index next d + count)

  pub passed_here : slice_index passed d ≡ slice_index next d + count
  passed_here = get_or-set_same next d (slice_index next d + count) 0 declared

  passed_else : (e : ℕ) → e ≢ d → slice_index passed e ≡ slice_index next e
  passed_else e h = get_or-set_other next d e (slice_index next d + count) 0 h

  same_or_not : (e : ℕ) → (e ≡ d) ⊎ (e ≢ d)
  same_or_not e = grind (arith)

  few_at : slice_index next d + count ≤ 256 → AreFew next → (e : ℕ) → (e ≡ d) ⊎ (e ≢ d)
      → slice_index passed e ≤ 256
  few_at room few e (inl is) =
      subst (λ k. slice_index passed k ≤ 256) (sym is) (omega (arith, passed_here, room))
  few_at room few e (inr other) = omega (arith, passed_else e other, few e)

  pub few_passed : slice_index next d + count ≤ 256 → AreFew next → AreFew passed
  few_passed room few e = few_at room few e (same_or_not e)

module _ (p : Program) (has : ℕ → ℕ → Bool) where
  -- all members below the next indexes pass
  abbrev pub AllWithin : List ℕ → Type 0
  AllWithin next =
      (d i : ℕ) → is_abstract p.domains d ≡ true → i < slice_index next d → has d i ≡ true

  pub within_lower : (next after : List ℕ) → Rises next after → AllWithin after
      → AllWithin next
  within_lower next after r w d i is h = w d i is (omega (arith, h, r d))

  -- under a premise, each update may be taken where all members below the last indexes pass
  pub record Leads (Q : Type 0) (next after : List ℕ) (u : UpdateSet) : Type 0 where
    pub rises : Rises next after
    pub few : AreFew next → AreFew after
    pub takes : AllWithin after → Q → EachMayTake p has u

  -- the same under another premise
  pub premise : (Q R : Type 0) (next after : List ℕ) (u : UpdateSet) → (R → Q)
      → Leads Q next after u → Leads R next after u
  premise Q R next after u f l = record {
    rises = l.rises;
    few = l.few;
    takes = λ w r. l.takes w (f r);
  }

  pub moved : (Q : Type 0) (v u : UpdateSet) (next later after : List ℕ)
      → Yields v later ≡ Yields u after → Leads Q next later v → Leads Q next after u
  moved Q v u next later after e l =
      subst (λ z. Leads Q next after z) (same_set v u later after e)
      (subst (λ z. Leads Q next z v) (same_next v u later after e) l)

  -- a set alone
  pub stays : (Q : Type 0) (s u : UpdateSet) (next after : List ℕ)
      → Yields s next ≡ Yields u after → (Q → EachMayTake p has s) → Leads Q next after u
  stays Q s u next after e f = moved Q s u next next after e (record {
    rises = λ d. omega arith;
    few = λ h. h;
    takes = λ w q. f q;
  })

  -- one after another
  pub chained : (Q R : Type 0) (s v u : UpdateSet) (next later after : List ℕ)
      → Leads Q next later v → Leads (R × EachMayTake p has s) later after u → (R → Q)
      → (R → EachMayTake p has v → EachMayTake p has s) → Leads R next after u
  chained Q R s v u next later after first rest f g = record {
    rises = λ d. omega (arith, first.rises d, rest.rises d);
    few = λ h. rest.few (first.few h);
    takes = λ w r.
        let before = first.takes (within_lower later after rest.rises w) (f r) in
        rest.takes w (r, g r before);
  }

  -- ---- side by side

  abbrev pub Led : Type 0 → (List ℕ → Yielded) → Type 0
  Led Q r = (next after : List ℕ) (u : UpdateSet) → r next ≡ Yields u after
      → Leads Q next after u

  pub side_by_side : (Q : Type 0) (span : Span) (rs : List (List ℕ → Yielded))
      → AllByRecursion (Led Q) rs → (sofar u : UpdateSet) (next after : List ℕ)
      → union_of span sofar rs next ≡ Yields u after
      → Leads (Q × EachMayTake p has sofar) next after u
  side_by_side Q span [] led sofar u next after e =
      stays (Q × EachMayTake p has sofar) sofar u next after e (λ q. q.1)
  side_by_side Q span (r ∷ rs) led sofar u next after e =
      let a = set_of u after (r next) _ e in
      let b = limited_on u after span (set.union sofar a.0) a.1
      (λ all later. union_of span all rs later) a.3 in
      let first = led.0 next a.1 a.0 a.2 in
      let rest = side_by_side Q span rs led.1 (set.union sofar a.0) u a.1 after b in
      chained Q (Q × EachMayTake p has sofar) (set.union sofar a.0) a.0 u next a.1 after first
      (premise (Q × EachMayTake p has (set.union sofar a.0))
      ((Q × EachMayTake p has sofar) × EachMayTake p has (set.union sofar a.0)) a.1 after u
      (λ q. (q.0.0, q.1)) rest)
      (λ q. q.0) (λ q v. both_taken p has sofar a.0 q.1 v)
