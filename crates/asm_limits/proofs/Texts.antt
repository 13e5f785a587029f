-- What the walk over a text refuses, and the work that it finds, are the text's.
use Rattle.std.proofs.Common.{◌≡◌, ℕ, ◌+◌, ◌*◌, ◌^◌, ◌<◌, ◌≤◌, min, nat_lt, nat_le, Bool, true, false, if◌then◌else◌, Option, Some, None, Result, Ok, Err, List, [], ◌∷◌, ◌++◌, map, sum, slice_get, refl, sym, ap, subst, ◌∙◌, arith}
use Rattle.std.specs.List.{AllByRecursion}
use Rattle.std.proofs.lemmas.Bool.Decides.{nat_tests}
use Rattle.asm_value.specs.declared.domain.DomainInfo.{DomainInfo}
use Rattle.asm_syntax.specs.declared.token.Span.{Span}
use Rattle.asm_syntax.specs.declared.tree.DefTree.{DefTree}
use Rattle.asm_syntax.specs.declared.tree.DefTree.TheVariants as def
use Rattle.asm_syntax.specs.declared.tree.StartTree.{StartTree}
use Rattle.asm_syntax.specs.declared.tree.ModelTree.{ModelTree}
use Rattle.asm_syntax.specs.Marks.{text_of}
use Rattle.asm_program.specs.declared.type_refusal.Limited.TheVariants.{Depth}
use Rattle.asm_program.specs.declared.type_refusal.TypeRefusal.{TypeRefusal}
use Rattle.asm_program.specs.declared.type_refusal.TypeRefusal.TheVariants.{Limit, TooMuchWork}
use Rattle.asm_program.specs.declared.trees.Term.{Term}
use Rattle.asm_program.specs.declared.trees.Rule.{Rule}
use Rattle.asm_program.specs.declared.program.FunctionInfo.{FunctionInfo}
use Rattle.asm_program.specs.declared.program.MacroInfo.{MacroInfo}
use Rattle.asm_program.specs.declared.program.InitInfo.{InitInfo}
use Rattle.asm_program.specs.declared.program.Inv.{Inv}
use Rattle.asm_program.specs.Items.{starts_of}
use Rattle.asm_program.specs.Signatures.{Header, find, param_domains}
use Rattle.asm_program.specs.TypedTerms.{Scope, checked}
use Rattle.asm_program.specs.TypedModels.{scope_of, body_checked, macro_checked, with_params}
use Rattle.asm_program.specs.Typed.{numbered, counts_refused, depth_refused, work_refused, name_span, number_in, depths_refused, start_depths_refused, macros_from, macros_of, main_of, invariants_from, init_of, inits_of, functions_of}
use Rattle.asm_program.specs.Counts.{function_depth, function_work, macro_depth, macro_work, term_depth, term_work, rule_depth, rule_work, start_work, sizes, args_of}
use Rattle.asm_program.specs.Checks.{Checks}
use Rattle.asm_counts.specs.declared.counts.Counts.{Counts}
use Rattle.asm_counts.specs.CountLevels.{known, term_counts, combinations, times}
use Rattle.asm_counts.specs.CountLaws.{Tells, AllTell}
use Rattle.asm_counts.proofs.Told.{sum-cons, times-tells}
use Rattle.asm_counts.proofs.Sums.{combinations-none}
use Rattle.asm_counts.proofs.RuleLaw.{rules-told}
use Rattle.asm_typed_calls.specs.CalledNames.{IsSound, functions_in}
use Rattle.asm_typed_models.specs.declared.definitions.Definitions.{Definitions}
use Rattle.asm_typed_models.specs.Defined.{AreDefinitions}
use Rattle.asm_limits.specs.declared.limits.Counted.{Counted}
use Rattle.asm_limits.specs.Counted.{AreCounted}
use Rattle.asm_limits.specs.Rounds.{counted, rule_counted, body_counts, macro_counts}
use Rattle.asm_limits.specs.Walks.{Rest, StartsRest, with_work, of_body, combinations_of, of_start, defs_limited, defs_work, starts_limited, starts_work, walk_work, walk_refused}
use Rattle.asm_limits.proofs.Bodies.{HasBody, bodies-stand}
use Rattle.asm_limits.proofs.RuleDepth.{rule-steady}
use Rattle.asm_limits.proofs.Tables.{functions-tell, macros-tell, args-stored, header_args}
use Rattle.asm_limits.proofs.Tells.{term-tells}

-- ---- numbers

below : (a b : ℕ) → nat_lt a b ≡ true → a < b
below a b h = grind (arith, nat_tests)

not_below : (a b : ℕ) → nat_lt a b ≡ false → b ≤ a
not_below a b h = grind (arith, nat_tests)

within : (a b : ℕ) → nat_le a b ≡ true → a ≤ b
within a b h = grind (arith, nat_tests)

not_within : (a b : ℕ) → nat_le a b ≡ false → b < a
not_within a b h = grind (arith, nat_tests)

capped-test : (d k : ℕ) → 512 < k → nat_lt 512 (min d k) ≡ nat_lt 512 d
capped-test d k h = by (nat_lt 512 (min d k)) (nat_lt 512 d) refl refl
  where
    by : (a b : Bool) → nat_lt 512 (min d k) ≡ a → nat_lt 512 d ≡ b → a ≡ b
    by true true s t = refl
    by false false s t = refl
    by true false s t =
        absurd (omega (arith, below 512 (min d k) s, not_below 512 d t, h))
    by false true s t =
        absurd (omega (arith, not_below 512 (min d k) s, below 512 d t, h))

capped-twice : (d k : ℕ) → min (min d k) k ≡ min d k
capped-twice d k = omega arith

low_enough : 512 < 2 ^ 32
low_enough = omega arith

deep-told : (c d : ℕ) (span : Span) → c ≡ min d (2 ^ 32) → depth_refused c span ≡ depth_refused d span
deep-told c d span e =
    ap (λ n. depth_refused n span) e
    ∙ (λ i. if capped-test d (2 ^ 32) low_enough i
    then Limit Depth (capped-twice d (2 ^ 32) i) span ∷ [] else [])

capped-work : (w k l : ℕ) → l < k → nat_le (min w k) l ≡ nat_le w l
capped-work w k l h = by (nat_le (min w k) l) (nat_le w l) refl refl
  where
    by : (a b : Bool) → nat_le (min w k) l ≡ a → nat_le w l ≡ b → a ≡ b
    by true true s t = refl
    by false false s t = refl
    by true false s t = absurd (omega (arith, within (min w k) l s, not_within w l t, h))
    by false true s t = absurd (omega (arith, not_within (min w k) l s, within w l t, h))

work_low : 2 ^ 24 < 2 ^ 32
work_low = omega arith

work-told : (w : ℕ) (span : Span) → work_refused (min w (2 ^ 32)) span ≡ work_refused w span
work-told w span =
    λ i. if capped-work w (2 ^ 32) (2 ^ 24) work_low i then []
    else TooMuchWork (capped-twice w (2 ^ 32) i) span ∷ []

uncapped : (w l k : ℕ) → l < k → w ≤ l → min w k ≡ w
uncapped w l k h t = omega (arith, h, t)

allowed-work : (w : ℕ) (span : Span) → work_refused w span ≡ [] → min w (2 ^ 32) ≡ w
allowed-work w span e = by (nat_le w (2 ^ 24)) refl e
  where
    by : (b : Bool) → nat_le w (2 ^ 24) ≡ b
        → (if b then [] else TooMuchWork (min w (2 ^ 32)) span ∷ []) ≡ [] → min w (2 ^ 32) ≡ w
    by true t e = uncapped w (2 ^ 24) (2 ^ 32) work_low (within w (2 ^ 24) t)
    by false t e = absurd (cc e)

add-capped : (v a w k : ℕ) → a ≡ min w k → min (min v k + a) k ≡ min (v + w) k
add-capped v a w k e = omega (arith, e)

plus_assoc : (a b c : ℕ) → a + b + c ≡ a + (b + c)
plus_assoc a b c = omega arith

plus_zero : (a : ℕ) → a ≡ a + 0
plus_zero a = omega arith

none-first : (k : ℕ) → 0 ≡ min 0 k
none-first k = omega arith

no_more : (a k : ℕ) → min (0 + a) k ≡ min a k
no_more a k = omega arith

three-capped : (a b c m i s k : ℕ) → a ≡ min m k → b ≡ min i k → c ≡ min s k
    → min (min (a + b) k + c) k ≡ min (m + i + s) k
three-capped a b c m i s k e f g = omega (arith, e, f, g)

last_none : (xs ys : List TypeRefusal) → xs ++ ys ≡ [] → ys ≡ []
last_none [] ys h = h
last_none (x ∷ xs) ys h = absurd (cc h)

-- ---- a text

module _ (tree : ModelTree) (fs ms : List Counts) (functions : List FunctionInfo)
    (macros : List MacroInfo) where
  abbrev scope : Scope
  scope = scope_of tree

  abbrev ds : List DomainInfo
  ds = (scope_of tree).domains

  abbrev bodies : List (Option Term)
  bodies = map (λ info. info.body) (functions_in tree)

  module _ (told : AllTell (known fs) (function_depth functions) (function_work ds functions))
      (rules_told : AllTell (known ms) (macro_depth functions macros)
      (macro_work ds functions macros)) where
    one : (t : Term) → Tells (counted ds fs t) (term_depth functions t) (term_work ds functions t)
    unfolding term_counts
    one t = term-tells ds fs functions told t

    rule : (r : Rule) → Tells (rule_counted ds fs ms r) (rule_depth functions macros r)
        (rule_work ds functions macros r)
    rule r =
        rules-told ds (term_counts ds (known fs)) (term_depth functions) (term_work ds functions)
        (term-tells ds fs functions told) (known ms) (macro_depth functions macros)
        (macro_work ds functions macros) rules_told r

    -- ---- definitions

    module _ (text : List ℕ) where
      abbrev rest : ℕ → ℕ → ℕ → List DefTree → Rest
      rest n k w defs = record {
        macros = macros_from scope n defs;
        invariants = invariants_from text scope k defs;
        work = w;
      }

      function_deep : (o : Option (Option Term)) (t : Term) (span : Span) → o ≡ Some (Some t)
          → depth_refused (of_body ds fs ms o).depth span
          ≡ depth_refused (term_depth functions t) span
      unfolding body_counts
      function_deep o t span e =
          ap (λ o. depth_refused (of_body ds fs ms o).depth span) e
          ∙ deep-told (counted ds fs t).depth (term_depth functions t) span (one t).0

      macro_deep : (info : MacroInfo) (r : Rule) (span : Span)
          → rule_depth functions macros info.body ≡ rule_depth functions macros r
          → depth_refused (macro_counts ds fs ms info).depth span
          ≡ depth_refused (rule_depth functions macros r) span
      unfolding macro_counts
      macro_deep info r span e =
          deep-told (rule_counted ds fs ms info.body).depth (rule_depth functions macros info.body)
          span (rule info.body).0
          ∙ ap (λ n. depth_refused n span) e

      pub defs-same : (n k w : ℕ) (defs : List DefTree) → AllByRecursion (HasBody tree) defs
          → defs_limited ds fs ms scope bodies (rest n k w defs) defs
          ≡ depths_refused scope functions macros defs
      unfolding defs_limited
      defs-same n k w [] h = refl
      defs-same n k w (def.Interval name from to span ∷ defs) h = defs-same n k w defs h.1
      defs-same n k w (def.Integers name first others span ∷ defs) h = defs-same n k w defs h.1
      defs-same n k w (def.Function name params term span ∷ defs) h =
          λ i.
          function_deep (slice_get bodies (number_in (find scope.names (text_of name))))
          (body_checked scope params term).term name.span h.0 i
          ++ defs-same n k w defs h.1 i
      defs-same n k w (def.Rule name params body span ∷ defs) h =
          let c = macro_checked scope params body in
          let info : MacroInfo = record {
            name = text_of name;
            params = param_domains scope.names params;
            body = c.rule n;
          } in
          λ i.
          macro_deep info (c.rule 0) name.span
          (rule-steady scope (term_depth functions) (macro_depth functions macros) body
          (with_params scope params) n 0) i
          ++ defs-same (n + c.chooses) k w defs h.1 i
      defs-same n k w (def.Invariant name first others term span ∷ defs) h =
          let t = (checked scope term []).term in
          λ i.
          deep-told (counted ds fs t).depth (term_depth functions t) (name_span name span) (one t).0 i
          ++ defs-same n (k + 1) (with_work w (counted ds fs t).work) defs h.1 i

      abbrev work_of : Inv → ℕ
      work_of inv = term_work ds functions inv.term

      pub work-same : (n k v w : ℕ) (defs : List DefTree) → w ≡ min v (2 ^ 32)
          → defs_work ds fs ms scope bodies (rest n k w defs) defs
          ≡ min (v + sum (map work_of (invariants_from text scope k defs))) (2 ^ 32)
      unfolding defs_work
      work-same n k v w [] e = e ∙ ap (λ m. min m (2 ^ 32)) (plus_zero v)
      work-same n k v w (def.Interval name from to span ∷ defs) e = work-same n k v w defs e
      work-same n k v w (def.Integers name first others span ∷ defs) e = work-same n k v w defs e
      work-same n k v w (def.Function name params term span ∷ defs) e = work-same n k v w defs e
      work-same n k v w (def.Rule name params body span ∷ defs) e =
          work-same (n + (macro_checked scope params body).chooses) k v w defs e
      work-same n k v w (def.Invariant name first others term span ∷ defs) e =
          let t = (checked scope term []).term in
          let more = term_work ds functions t in
          let others = map work_of (invariants_from text scope (k + 1) defs) in
          work-same n (k + 1) (v + more) (with_work w (counted ds fs t).work) defs
          (ap (λ m. min (m + (counted ds fs t).work) (2 ^ 32)) e
          ∙ add-capped v (counted ds fs t).work more (2 ^ 32) (one t).1)
          ∙ ap (λ m. min m (2 ^ 32))
          (plus_assoc v more (sum others) ∙ ap (λ m. v + m) (sym (sum-cons more others)))

    -- ---- the initial state

    start_tells : (headers : List Header) (init : InitInfo)
        → args_of ds (slice_get functions init.function)
        ≡ header_args (slice_get headers init.function)
        → Tells (of_start ds fs ms headers init) (term_depth functions init.body)
        (start_work ds functions init.function init.body)
    start_tells headers init e =
        subst (λ args. Tells (of_start ds fs ms headers init) (term_depth functions init.body)
        (sizes ds args * term_work ds functions init.body)) (sym e)
        (subst (λ n. Tells (times n (counted ds fs init.body)) (term_depth functions init.body)
        (sizes ds (header_args (slice_get headers init.function))
        * term_work ds functions init.body)) (by (slice_get headers init.function))
        (times-tells ds (header_args (slice_get headers init.function)) (counted ds fs init.body)
        (term_depth functions init.body) (term_work ds functions init.body) (one init.body)))
      where
        by : (o : Option Header) → combinations ds (header_args o) ≡ combinations_of ds fs ms o
        by None = combinations-none ds
        by (Some h) = refl

    module _ (args_same : (f : ℕ) → args_of ds (slice_get functions f)
        ≡ header_args (slice_get (scope_of tree).functions f)) where
      abbrev starts_rest : ℕ → List StartTree → StartsRest
      starts_rest w ss = record { inits = map (init_of scope) ss; work = w }

      pub starts-same : (w : ℕ) (ss : List StartTree)
          → starts_limited ds fs ms scope (starts_rest w ss) ss
          ≡ start_depths_refused scope functions macros ss
      unfolding starts_limited
      starts-same w [] = refl
      starts-same w (s ∷ ss) =
          let init = init_of scope s in
          let c = of_start ds fs ms scope.functions init in
          λ i.
          deep-told c.depth (term_depth functions init.body) s.function.span
          (start_tells scope.functions init (args_same init.function)).0 i
          ++ starts-same (with_work w c.work) ss i

      abbrev start_of : InitInfo → ℕ
      start_of init = start_work ds functions init.function init.body

      pub starts-work : (v w : ℕ) (ss : List StartTree) → w ≡ min v (2 ^ 32)
          → starts_work ds fs ms scope (starts_rest w ss) ss
          ≡ min (v + sum (map start_of (map (init_of scope) ss))) (2 ^ 32)
      unfolding starts_work
      starts-work v w [] e = e ∙ ap (λ m. min m (2 ^ 32)) (plus_zero v)
      starts-work v w (s ∷ ss) e =
          let init = init_of scope s in
          let c = of_start ds fs ms scope.functions init in
          let others = map start_of (map (init_of scope) ss) in
          starts-work (v + start_of init) (with_work w c.work) ss
          (ap (λ m. min (m + c.work) (2 ^ 32)) e
          ∙ add-capped v c.work (start_of init) (2 ^ 32)
          (start_tells scope.functions init (args_same init.function)).1)
          ∙ ap (λ m. min m (2 ^ 32))
          (plus_assoc v (start_of init) (sum others)
          ∙ ap (λ m. v + m) (sym (sum-cons (start_of init) others)))

-- the invariants' terms are the same whatever the text is
terms-same : (work : Term → ℕ) (s : Scope) (text other : List ℕ) (k : ℕ) (defs : List DefTree)
    → map (λ (inv : Inv). work inv.term) (invariants_from text s k defs)
    ≡ map (λ (inv : Inv). work inv.term) (invariants_from other s k defs)
terms-same work s text other k [] = refl
terms-same work s text other k (def.Interval name from to span ∷ defs) =
    terms-same work s text other k defs
terms-same work s text other k (def.Integers name first others span ∷ defs) =
    terms-same work s text other k defs
terms-same work s text other k (def.Function name params term span ∷ defs) =
    terms-same work s text other k defs
terms-same work s text other k (def.Rule name params body span ∷ defs) =
    terms-same work s text other k defs
terms-same work s text other k (def.Invariant name first others term span ∷ defs) =
    ap (λ ns. work (checked s term []).term ∷ ns)
    (terms-same work s text other (k + 1) defs)

pub text-walk : (tree : ModelTree) (scope : Scope) (d : Definitions) (c : Counted)
    (ds : List DomainInfo) (fs ms : List Counts) (result : Result ℕ TypeRefusal)
    → scope ≡ scope_of tree → IsSound tree → ((text : List ℕ) × AreDefinitions text tree d)
    → AreCounted tree c → ds ≡ scope.domains → fs ≡ c.functions.items → ms ≡ c.macros.items
    → Checks result
    (walk_refused ds fs ms scope d.bodies.items d.macros d.main d.inits d.invariants tree)
    (λ work. work ≡ walk_work ds fs ms scope d.bodies.items d.macros d.main d.inits d.invariants tree)
    → (text : List ℕ) → Checks result (counts_refused (numbered text tree) tree)
    (λ work. work ≡ (numbered text tree).work)
text-walk tree scope d c ds fs ms result s sound defined counts e f m checks text =
    by result
    (subst (λ w. Checks result all (λ work. work ≡ w)) work-is
    (subst (λ rs. Checks result rs (λ work. work ≡ walked)) refusals checks))
  where
    functions : List FunctionInfo
    functions = functions_of (scope_of tree) tree

    macros : List MacroInfo
    macros = macros_of (scope_of tree) tree

    doms : List DomainInfo
    doms = (scope_of tree).domains

    main : Rule
    main = main_of (scope_of tree) tree

    written : List ℕ
    written = defined.0

    walked : ℕ
    walked = walk_work ds fs ms scope d.bodies.items d.macros d.main d.inits d.invariants tree

    all : List TypeRefusal
    all = counts_refused (numbered text tree) tree

    whole : ℕ
    whole = (numbered text tree).work

    told : AllTell (known c.functions.items) (function_depth functions) (function_work doms functions)
    told = functions-tell tree (known c.functions.items) counts.functions

    rules : AllTell (known c.macros.items) (macro_depth functions macros)
        (macro_work doms functions macros)
    rules = macros-tell tree (known c.macros.items) macros counts.macros

    main_told : Tells (rule_counted doms c.functions.items c.macros.items main)
        (rule_depth functions macros main) (rule_work doms functions macros main)
    main_told = rule tree c.functions.items c.macros.items functions macros told rules main

    invariants_work : List ℕ → ℕ
    invariants_work t =
        sum (map (λ (inv : Inv). term_work doms functions inv.term)
        (invariants_from t (scope_of tree) 1 tree.defs))

    starts_sum : ℕ
    starts_sum =
        sum (map (λ (init : InitInfo). start_work doms functions init.function init.body)
        (inits_of (scope_of tree) tree))

    defs_found : defs_work doms c.functions.items c.macros.items (scope_of tree)
        (map (λ info. info.body) (functions_in tree))
        (record {
          macros = macros;
          invariants = invariants_from written (scope_of tree) 1 tree.defs;
          work = 0;
        }) tree.defs
        ≡ min (invariants_work text) (2 ^ 32)
    defs_found =
        work-same tree c.functions.items c.macros.items functions macros told rules written 0 1 0 0 tree.defs
        (none-first (2 ^ 32))
        ∙ no_more (invariants_work written) (2 ^ 32)
        ∙ ap (λ ns. min (sum ns) (2 ^ 32))
        (terms-same (term_work doms functions) (scope_of tree) written text 1 tree.defs)

    starts_found : starts_work doms c.functions.items c.macros.items (scope_of tree)
        (record { inits = inits_of (scope_of tree) tree; work = 0 }) (starts_of tree.init)
        ≡ min starts_sum (2 ^ 32)
    starts_found =
        starts-work tree c.functions.items c.macros.items functions macros told rules (args-stored tree) 0 0
        (starts_of tree.init) (none-first (2 ^ 32))
        ∙ no_more starts_sum (2 ^ 32)

    in_words : walked
        ≡ walk_work doms c.functions.items c.macros.items (scope_of tree)
        (map (λ info. info.body) (functions_in tree)) macros main (inits_of (scope_of tree) tree)
        (invariants_from written (scope_of tree) 1 tree.defs) tree
    in_words =
        λ i. walk_work ((e ∙ ap (λ (z : Scope). z.domains) s) i) (f i) (m i) (s i)
        (defined.1.bodies i) (defined.1.macros i) (defined.1.main i) (defined.1.inits i)
        (defined.1.invariants i) tree

    work-is : walked ≡ min whole (2 ^ 32)
    work-is =
        in_words
        ∙ three-capped (rule_counted doms c.functions.items c.macros.items main).work
        (defs_work doms c.functions.items c.macros.items (scope_of tree)
        (map (λ info. info.body) (functions_in tree))
        (record {
          macros = macros;
          invariants = invariants_from written (scope_of tree) 1 tree.defs;
          work = 0;
        }) tree.defs)
        (starts_work doms c.functions.items c.macros.items (scope_of tree)
        (record { inits = inits_of (scope_of tree) tree; work = 0 }) (starts_of tree.init))
        (rule_work doms functions macros main) (invariants_work text) starts_sum (2 ^ 32)
        main_told.1 defs_found starts_found

    refusals : walk_refused ds fs ms scope d.bodies.items d.macros d.main d.inits d.invariants tree ≡ all
    refusals =
        (λ i. walk_refused ((e ∙ ap (λ (z : Scope). z.domains) s) i) (f i) (m i) (s i)
        (defined.1.bodies i) (defined.1.macros i) (defined.1.main i) (defined.1.inits i)
        (defined.1.invariants i) tree)
        ∙ (λ i.
        defs-same tree c.functions.items c.macros.items functions macros told rules written 0 1 0 tree.defs
        (bodies-stand tree sound) i
        ++ deep-told (rule_counted doms c.functions.items c.macros.items main).depth
        (rule_depth functions macros main) tree.rule_name.span main_told.0 i
        ++ starts-same tree c.functions.items c.macros.items functions macros told rules (args-stored tree) 0
        (starts_of tree.init) i
        ++ work_refused ((sym in_words ∙ work-is) i) tree.main)
        ∙ (λ i.
        depths_refused (scope_of tree) functions macros tree.defs
        ++ depth_refused (rule_depth functions macros main) tree.rule_name.span
        ++ start_depths_refused (scope_of tree) functions macros (starts_of tree.init)
        ++ work-told whole tree.main i)

    by : (r : Result ℕ TypeRefusal) → Checks r all (λ work. work ≡ min whole (2 ^ 32))
        → Checks r all (λ work. work ≡ whole)
    by (Ok w) h = (
      h.0,
      h.1 ∙ allowed-work whole tree.main (last_none
          (depths_refused (scope_of tree) functions macros tree.defs
          ++ depth_refused (rule_depth functions macros main) tree.rule_name.span
          ++ start_depths_refused (scope_of tree) functions macros (starts_of tree.init))
          (work_refused whole tree.main) h.0),
    )
    by (Err why) h = h

pub ruleset text_steps = (text-walk)
