-- The counts of a term tell its depth and its work.
use Rattle.std.proofs.Common.{◌≡◌, ℕ, ◌+◌, ◌*◌, max, Some, None, List, [], ◌∷◌, ◌++◌, map, sum}
use Rattle.std.proofs.Common.{refl, sym, ◌∙◌, subst, rules}
use Rattle.asm_value.specs.declared.domain.Domain.{Domain}
use Rattle.asm_value.specs.declared.domain.DomainInfo.{DomainInfo}
use Rattle.asm_program.specs.declared.trees.Term.{Term}
use Rattle.asm_program.specs.declared.trees.Case.{Case}
use Rattle.asm_program.specs.declared.trees.Term.TheOpen.{Term-F, Case-F}
use Rattle.asm_program.specs.declared.trees.Term.TheFolds.{fold-Case, fold_out-Term, fold_out-Case}
use Rattle.asm_program.specs.declared.trees.Term.TheFolds.{ind-Term, map-Term}
use Rattle.asm_program.specs.declared.trees.Term.TheViews.{out-Term, out-Case, roll-Term, roll-Case}
use Rattle.asm_program.specs.declared.trees.Term.TheViews.{the_lemmas}
use Rattle.asm_program.specs.Forms.{of_term, case_pair, of_cases}
use Rattle.asm_program.specs.Counts.{sizes, depth_level, work_level}
use Rattle.asm_program.specs.Nesting.{greatest}
use Rattle.asm_counts.specs.declared.counts.Counts.{Counts}
use Rattle.asm_counts.specs.CountLevels.{nothing, node, both, times, together, pair_counts}
use Rattle.asm_counts.specs.CountLevels.{combinations, counts_level}
use Rattle.asm_counts.specs.CountLaws.{Tells, AllTell, TermsAreTold}
use Rattle.asm_counts.proofs.Told.{two-deep, two-work, one-deep, three-deep, three-work, none-deep}
use Rattle.asm_counts.proofs.Told.{none-work, case-deep, case-work, last-deep, last-work}
use Rattle.asm_counts.proofs.Told.{switch-deep, switch-work, bare-deep, bare-work}
use Rattle.asm_counts.proofs.Told.{nothing-tells, node-tells, both-tells, times-tells, tells-as}
use Rattle.asm_counts.proofs.Told.{tells-of, greatest-append, sum-append, sum-cons}

out_roll : (a : Term-F Term Case) → out-Term (roll-Term a) ≡ a
out_roll a = search (rules, the_lemmas)

out_roll_case : (a : Case-F Term Case) → out-Case (roll-Case a) ≡ a
out_roll_case a = search (rules, the_lemmas)

-- ---- what is said of a term, by its form

module _ {X : Type 0} (level : (ℕ → X) → Term-F X (X × X) → X) (calls : ℕ → X) where
  abbrev both_of : Case → X × X
  both_of c = (of_term level calls (out-Case c).value, of_term level calls (out-Case c).term)

  abbrev said : Term-F Term Case → Term-F X (X × X)
  said a = map-Term Term Case X (X × X) (of_term level calls) both_of a

  case_out : (c : Case) → fold-Case X (X × X) (level calls) case_pair c ≡ both_of c
  unfolding of_term
  case_out c = fold_out-Case X (X × X) (level calls) case_pair c

  said-out : (t : Term) (a : Term-F Term Case) → out-Term t ≡ a
      → of_term level calls t ≡ level calls (said a)
  unfolding of_term
  said-out t a e =
      fold_out-Term X (X × X) (level calls) case_pair t
      ∙ (λ i. level calls (map-Term Term Case X (X × X) (of_term level calls) (λ c. case_out c i)
      (e i)))

-- ---- the law

module _ (domains : List DomainInfo) (calls : ℕ → Counts) (depths works : ℕ → ℕ)
    (all : AllTell calls depths works) where
  abbrev counts : Term → Counts
  counts = of_term (counts_level domains) calls

  abbrev depth : Term → ℕ
  depth = of_term depth_level depths

  abbrev work : Term → ℕ
  work = of_term (work_level domains) works

  abbrev IsTold : Term → Type 0
  IsTold t = Tells (counts t) (depth t) (work t)

  abbrev OfCase : Case → Type 0
  OfCase c = IsTold (out-Case c).value × IsTold (out-Case c).term

  abbrev Held : Type 0
  Held = (t : Term) × IsTold t

  abbrev HeldCase : Type 0
  HeldCase = (c : Case) × OfCase c

  abbrev terms : List Held → List Term
  terms hs = map (λ h. h.0) hs

  abbrev cases : List HeldCase → List Case
  cases hs = map (λ h. h.0) hs

  terms-tell : (hs : List Held) → Tells (together (map counts (terms hs)))
      (greatest (map depth (terms hs))) (sum (map work (terms hs)))
  terms-tell [] = nothing-tells
  terms-tell (h ∷ hs) =
      let c = together (map counts (terms hs)) in
      let d = greatest (map depth (terms hs)) in
      let ws = map work (terms hs) in
      tells-as (both (counts h.0) c) (max (depth h.0) d) (max (depth h.0) d) (work h.0 + sum ws)
      (sum (work h.0 ∷ ws))
      (both-tells (counts h.0) c (depth h.0) (work h.0) d (sum ws) h.1 (terms-tell hs)) refl
      (sym (sum-cons (work h.0) ws))

  list-tells : (hs : List Held) → Tells (node (together (map counts (terms hs))))
      (1 + greatest (map depth (terms hs))) (1 + sum (map work (terms hs)))
  list-tells hs =
      node-tells (together (map counts (terms hs))) (greatest (map depth (terms hs)))
      (sum (map work (terms hs))) (terms-tell hs)

  abbrev case_counts : List HeldCase → Counts
  case_counts hs =
      together (map pair_counts (map (both_of (counts_level domains) calls) (cases hs)))

  abbrev case_depths : List HeldCase → List ℕ
  case_depths hs = of_cases (map (both_of depth_level depths) (cases hs))

  abbrev case_works : List HeldCase → List ℕ
  case_works hs = of_cases (map (both_of (work_level domains) works) (cases hs))

  cases-tell : (hs : List HeldCase) → Tells (case_counts hs) (greatest (case_depths hs))
      (sum (case_works hs))
  cases-tell [] = nothing-tells
  cases-tell (h ∷ hs) =
      let v = (out-Case h.0).value in
      let t = (out-Case h.0).term in
      let first = both-tells (counts v) (counts t) (depth v) (work v) (depth t) (work t) h.1.0 h.1.1
      in
      let whole = both-tells (both (counts v) (counts t)) (case_counts hs) (max (depth v) (depth t))
      (work v + work t)
      (greatest (case_depths hs)) (sum (case_works hs)) first (cases-tell hs) in
      tells-as (both (both (counts v) (counts t)) (case_counts hs))
      (max (max (depth v) (depth t)) (greatest (case_depths hs)))
      (max (depth v) (max (depth t) (greatest (case_depths hs))))
      (work v + work t + sum (case_works hs)) (sum (work v ∷ work t ∷ case_works hs))
      whole (case-deep (depth v) (depth t) (greatest (case_depths hs)))
      (case-work (work v) (work t) (sum (case_works hs)) (sum (work t ∷ case_works hs))
      (sum (work v ∷ work t ∷ case_works hs))
      (sum-cons (work t) (case_works hs)) (sum-cons (work v) (work t ∷ case_works hs)))

  two : (a b : Held) → Tells (both (counts a.0) (counts b.0)) (max (depth a.0) (depth b.0))
      (work a.0 + work b.0)
  two a b =
      both-tells (counts a.0) (counts b.0) (depth a.0) (work a.0) (depth b.0) (work b.0) a.1 b.1

  pair-tells : (a b : Held) → Tells (node (both (counts a.0) (counts b.0)))
      (1 + max (depth a.0) (max (depth b.0) 0)) (1 + (0 + work a.0 + work b.0))
  pair-tells a b =
      let c = both (counts a.0) (counts b.0) in
      let d = max (depth a.0) (depth b.0) in
      let w = work a.0 + work b.0 in
      tells-as (node c) (1 + d) (1 + max (depth a.0) (max (depth b.0) 0)) (1 + w)
      (1 + (0 + work a.0 + work b.0))
      (node-tells c d w (two a b)) (two-deep (depth a.0) (depth b.0))
      (two-work (work a.0) (work b.0))

  each-tells : (ranges : List Domain) (b : Held) → Tells
      (node (times (combinations domains ranges) (counts b.0))) (1 + max (depth b.0) 0)
      (1 + sizes domains ranges * work b.0)
  each-tells ranges b =
      let c = times (combinations domains ranges) (counts b.0) in
      let w = sizes domains ranges * work b.0 in
      tells-as (node c) (1 + depth b.0) (1 + max (depth b.0) 0) (1 + w) (1 + w)
      (node-tells c (depth b.0) w (times-tells domains ranges (counts b.0) (depth b.0) (work b.0)
      b.1)) (one-deep (depth b.0)) refl

  abbrev FormTold : Term-F Held HeldCase → Type 0
  FormTold y =
      Tells (counts_level domains calls (said (counts_level domains) calls
      (map-Term Held HeldCase Term Case (λ h. h.0) (λ h. h.0) y)))
      (depth_level depths (said depth_level depths (map-Term Held HeldCase Term Case (λ h. h.0)
      (λ h. h.0) y)))
      (work_level domains works (said (work_level domains) works
      (map-Term Held HeldCase Term Case (λ h. h.0) (λ h. h.0) y)))

  form-told : (y : Term-F Held HeldCase) → FormTold y
  form-told (Term-F.Operator operation args span) = list-tells args
  form-told (Term-F.And left right) = pair-tells left right
  form-told (Term-F.Or left right) = pair-tells left right
  form-told (Term-F.Implies left right) = pair-tells left right
  form-told (Term-F.Constant v) = node-tells nothing 0 0 nothing-tells
  form-told (Term-F.Variable i) = node-tells nothing 0 0 nothing-tells
  form-told (Term-F.Read f args) = list-tells args
  form-told (Term-F.Call f args) =
      both-tells (node (together (map counts (terms args)))) (calls f)
      (1 + greatest (map depth (terms args))) (1 + sum (map work (terms args))) (depths f) (works f)
      (list-tells args) (all f)
  form-told (Term-F.Tuple items span) = list-tells items
  form-told (Term-F.Forall ranges body) = each-tells ranges body
  form-told (Term-F.Exist ranges body) = each-tells ranges body
  form-told (Term-F.ExistUnique ranges body) = each-tells ranges body
  form-told (Term-F.Interval from to span) = pair-tells from to
  form-told (Term-F.Set items span) = list-tells items
  form-told (Term-F.Seq items span) = list-tells items
  form-told (Term-F.If guard first None) =
      let c = both (counts guard.0) (counts first.0) in
      let d = max (depth guard.0) (depth first.0) in
      let w = work guard.0 + work first.0 in
      tells-as (node (both c nothing)) (1 + max d 0) (1 + max (depth guard.0)
      (max (depth first.0) 0)) (1 + (w + 0)) (1 + (0 + work guard.0 + work first.0))
      (node-tells (both c nothing) (max d 0) (w + 0) (both-tells c nothing d w 0 0 (two guard first)
      nothing-tells))
      (none-deep (depth guard.0) (depth first.0)) (none-work (work guard.0) (work first.0))
  form-told (Term-F.If guard first (Some other)) =
      let c = both (counts guard.0) (counts first.0) in
      let d = max (depth guard.0) (depth first.0) in
      let w = work guard.0 + work first.0 in
      tells-as (node (both c (counts other.0))) (1 + max d (depth other.0))
      (1 + max (depth guard.0) (max (depth first.0) (max (depth other.0) 0)))
      (1 + (w + work other.0)) (1 + (0 + work guard.0 + work first.0 + work other.0))
      (node-tells (both c (counts other.0)) (max d (depth other.0)) (w + work other.0)
      (both-tells c (counts other.0) d w (depth other.0) (work other.0) (two guard first) other.1))
      (three-deep (depth guard.0) (depth first.0) (depth other.0))
      (three-work (work guard.0) (work first.0) (work other.0))
  form-told (Term-F.Let values body) =
      let c = together (map counts (terms values)) in
      let d = greatest (map depth (terms values)) in
      let w = sum (map work (terms values)) in
      let ds = map depth (terms values) ++ depth body.0 ∷ [] in
      let ws = map work (terms values) ++ work body.0 ∷ [] in
      tells-as (node (both c (counts body.0))) (1 + max d (depth body.0)) (1 + greatest ds)
      (1 + (w + work body.0)) (1 + sum ws)
      (node-tells (both c (counts body.0)) (max d (depth body.0)) (w + work body.0)
      (both-tells c (counts body.0) d w (depth body.0) (work body.0) (terms-tell values) body.1))
      (last-deep d (depth body.0) (greatest ds) (greatest-append (map depth (terms values))
      (depth body.0 ∷ [])))
      (last-work w (work body.0) (sum ws) (sum-append (map work (terms values)) (work body.0 ∷ [])))
  form-told (Term-F.Switch v cs None) =
      let c = both (counts v.0) (case_counts cs) in
      let e = greatest (case_depths cs) in
      let u = sum (case_works cs) in
      let d = max (depth v.0) e in
      let w = work v.0 + u in
      let ds = case_depths cs ++ [] in
      let ws = case_works cs ++ [] in
      tells-as (node (both c nothing)) (1 + max d 0) (1 + max (depth v.0) (greatest ds))
      (1 + (w + 0)) (1 + sum (work v.0 ∷ ws))
      (node-tells (both c nothing) (max d 0) (w + 0) (both-tells c nothing d w 0 0
      (both-tells (counts v.0) (case_counts cs) (depth v.0) (work v.0) e u v.1 (cases-tell cs))
      nothing-tells))
      (bare-deep (depth v.0) e (greatest ds) (greatest-append (case_depths cs) []))
      (bare-work (work v.0) u (sum ws) (sum (work v.0 ∷ ws)) (sum-append (case_works cs) [])
      (sum-cons (work v.0) ws))
  form-told (Term-F.Switch v cs (Some other)) =
      let c = both (counts v.0) (case_counts cs) in
      let e = greatest (case_depths cs) in
      let u = sum (case_works cs) in
      let d = max (depth v.0) e in
      let w = work v.0 + u in
      let ds = case_depths cs ++ depth other.0 ∷ [] in
      let ws = case_works cs ++ work other.0 ∷ [] in
      tells-as (node (both c (counts other.0))) (1 + max d (depth other.0))
      (1 + max (depth v.0) (greatest ds)) (1 + (w + work other.0)) (1 + sum (work v.0 ∷ ws))
      (node-tells (both c (counts other.0)) (max d (depth other.0)) (w + work other.0)
      (both-tells c (counts other.0) d w (depth other.0) (work other.0)
      (both-tells (counts v.0) (case_counts cs) (depth v.0) (work v.0) e u v.1 (cases-tell cs))
      other.1))
      (switch-deep (depth v.0) e (depth other.0) (greatest ds)
      (greatest-append (case_depths cs) (depth other.0 ∷ [])))
      (switch-work (work v.0) u (work other.0) (sum ws) (sum (work v.0 ∷ ws))
      (sum-append (case_works cs) (work other.0 ∷ [])) (sum-cons (work v.0) ws))

  rolled : (x : Term-F Term Case) (y : Term-F Held HeldCase) → map-Term Held HeldCase Term Case
      (λ h. h.0) (λ h. h.0) y ≡ x → IsTold (roll-Term x)
  rolled x y is =
      let a = map-Term Held HeldCase Term Case (λ h. h.0) (λ h. h.0) y in
      let t = roll-Term x in
      let e = out_roll x ∙ sym is in
      tells-of (counts_level domains calls (said (counts_level domains) calls a)) (counts t)
      (depth_level depths (said depth_level depths a)) (depth t)
      (work_level domains works (said (work_level domains) works a)) (work t)
      (sym (said-out (counts_level domains) calls t a e)) (sym (said-out depth_level depths t a e))
      (sym (said-out (work_level domains) works t a e))
      (form-told y)

  told : (t : Term) → IsTold t
  told t =
      ind-Term IsTold OfCase (λ x y is. rolled x y is)
      (λ x y is. (
        subst (λ z. IsTold z.value) (is ∙ sym (out_roll_case x)) y.value.1,
        subst (λ z. IsTold z.term) (is ∙ sym (out_roll_case x)) y.term.1,
      ))
      t

pub terms-told : TermsAreTold
terms-told domains calls depths works all t = told domains calls depths works all t
