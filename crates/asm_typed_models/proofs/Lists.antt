-- Definitions, initial terms and functions one after the other.
use Rattle.std.proofs.Common.{◌≡◌, ℕ, ◌+◌, ◌<◌, ◌≤◌, Option, None, List, [], ◌∷◌, ◌++◌, length, map, drop, get_or, refl, sym, ap, ◌∙◌, arith}
use Rattle.std.proofs.lemmas.List.{append-nil, append_assoc, drop_all, drop_more, length-append}
use Rattle.asm_syntax.specs.declared.tree.DefTree.{DefTree}
use Rattle.asm_syntax.specs.declared.tree.DefTree.TheVariants as def
use Rattle.asm_syntax.specs.declared.tree.StartTree.{StartTree}
use Rattle.asm_syntax.specs.Marks.{text_of}
use Rattle.asm_program.specs.declared.trees.Term.{Term}
use Rattle.asm_program.specs.declared.program.MacroInfo.{MacroInfo}
use Rattle.asm_program.specs.declared.program.InitInfo.{InitInfo}
use Rattle.asm_program.specs.declared.program.Inv.{Inv}
use Rattle.asm_program.specs.declared.type_refusal.TypeRefusal.{TypeRefusal}
use Rattle.asm_program.specs.Signatures.{Header, param_domains}
use Rattle.asm_program.specs.TypedTerms.{Scope, checked}
use Rattle.asm_program.specs.TypedModels as models
use Rattle.asm_program.specs.Typed as typed
use Rattle.asm_typed.specs.Answers.{settled}
use Rattle.asm_typed.proofs.Refusals.{settled-first, settled-memory}
use Rattle.asm_typed_models.specs.Forms.{def_refused, defs_refused, bodies_with, macros_with, chooses_with, invariants_with, invariant_of, no_bodies, start_refused, starts_refused, init_of, inits_at}

-- ---- functions without a term

pub none-drop : (bs : List (Option Term)) (hs : List Header) (i : ℕ) (d : Header) → i < length hs
    → bs ++ no_bodies (drop i hs) ≡ (bs ++ None ∷ []) ++ no_bodies (drop (i + 1) hs)
unfolding no_bodies
none-drop bs hs i d l =
    ap (λ xs. bs ++ map (λ h. None) xs) (drop_more hs i d l) ∙ sym (append_assoc bs (None ∷ []) (map (λ h. None) (drop (i + 1) hs)))

pub none-end : (bs : List (Option Term)) (hs : List Header) (i : ℕ) → length hs ≤ i → bs ++ no_bodies (drop i hs) ≡ bs
unfolding no_bodies
none-end bs hs i l = ap (λ xs. bs ++ map (λ h. None) xs) (drop_all i hs l) ∙ append-nil bs

pub ruleset none_steps = (none-drop, none-end)

-- ---- definitions

module _ (scope : Scope) where
  defs-cons : (d : DefTree) (ds : List DefTree) → defs_refused scope (d ∷ ds) ≡ def_refused scope d ++ defs_refused scope ds
  unfolding defs_refused def_refused
  defs-cons d ds = refl

  bodies-cons : (bs : List (Option Term)) (d : DefTree) (ds : List DefTree) → bodies_with scope bs (d ∷ ds) ≡ bodies_with scope (bodies_with scope bs (d ∷ [])) ds
  unfolding bodies_with
  bodies-cons bs (def.Interval name from to span) ds = refl
  bodies-cons bs (def.Integers name first others span) ds = refl
  bodies-cons bs (def.Function name params term span) ds = refl
  bodies-cons bs (def.Rule name params body span) ds = refl
  bodies-cons bs (def.Invariant name first others term span) ds = refl

  chooses-cons : (n : ℕ) (d : DefTree) (ds : List DefTree) → chooses_with scope n (d ∷ ds) ≡ chooses_with scope (chooses_with scope n (d ∷ [])) ds
  unfolding chooses_with
  chooses-cons n (def.Interval name from to span) ds = omega arith
  chooses-cons n (def.Integers name first others span) ds = omega arith
  chooses-cons n (def.Function name params term span) ds = omega arith
  chooses-cons n (def.Rule name params body span) ds = omega arith
  chooses-cons n (def.Invariant name first others term span) ds = omega arith

  no_more : (ms : List MacroInfo) (n : ℕ) (ds : List DefTree) → ms ++ typed.macros_from scope n ds ≡ (ms ++ []) ++ typed.macros_from scope (n + 0) ds
  no_more ms n ds =
      let e : n ≡ n + 0 = omega arith in
      ap (λ xs. xs ++ typed.macros_from scope n ds) (sym (append-nil ms)) ∙ ap (λ k. (ms ++ []) ++ typed.macros_from scope k ds) e

  macros-cons : (ms : List MacroInfo) (n : ℕ) (d : DefTree) (ds : List DefTree)
      → macros_with scope ms n (d ∷ ds) ≡ macros_with scope (macros_with scope ms n (d ∷ [])) (chooses_with scope n (d ∷ [])) ds
  unfolding macros_with chooses_with
  macros-cons ms n (def.Interval name from to span) ds = no_more ms n ds
  macros-cons ms n (def.Integers name first others span) ds = no_more ms n ds
  macros-cons ms n (def.Function name params term span) ds = no_more ms n ds
  macros-cons ms n (def.Rule name params body span) ds =
      let c = models.macro_checked scope params body in
      let m : MacroInfo = record { name = text_of name; params = param_domains scope.names params; body = c.rule n } in
      let e : n + c.chooses ≡ n + (c.chooses + 0) = omega arith in
      ap (λ k. ms ++ m ∷ typed.macros_from scope k ds) e
      ∙ sym (append_assoc ms (m ∷ []) (typed.macros_from scope (n + (c.chooses + 0)) ds))
  macros-cons ms n (def.Invariant name first others term span) ds = no_more ms n ds

  module _ (ds : List DefTree) (i : ℕ) (x : DefTree) where
    abbrev this : DefTree
    this = get_or ds i x

    pub defs-next : i < length ds → def_refused scope this ≡ [] → defs_refused scope (drop (i + 1) ds) ≡ defs_refused scope (drop i ds)
    defs-next l h =
        let rest = drop (i + 1) ds in
        sym (ap (defs_refused scope) (drop_more ds i x l) ∙ defs-cons this rest ∙ ap (λ rs. rs ++ defs_refused scope rest) h)

    pub defs-stop : (why : TypeRefusal) → i < length ds → settled why (def_refused scope this) ≡ why → settled why (defs_refused scope (drop i ds)) ≡ why
    defs-stop why l h =
        let rest = drop (i + 1) ds in
        ap (settled why) (ap (defs_refused scope) (drop_more ds i x l) ∙ defs-cons this rest)
        ∙ settled-first why (def_refused scope this) (defs_refused scope rest) h

    pub bodies-drop : (bs : List (Option Term)) → i < length ds
        → bodies_with scope bs (drop i ds) ≡ bodies_with scope (bodies_with scope bs (this ∷ [])) (drop (i + 1) ds)
    bodies-drop bs l = ap (bodies_with scope bs) (drop_more ds i x l) ∙ bodies-cons bs this (drop (i + 1) ds)

    pub chooses-drop : (n : ℕ) → i < length ds
        → chooses_with scope n (drop i ds) ≡ chooses_with scope (chooses_with scope n (this ∷ [])) (drop (i + 1) ds)
    chooses-drop n l = ap (chooses_with scope n) (drop_more ds i x l) ∙ chooses-cons n this (drop (i + 1) ds)

    pub macros-drop : (ms : List MacroInfo) (n : ℕ) → i < length ds
        → macros_with scope ms n (drop i ds) ≡ macros_with scope (macros_with scope ms n (this ∷ [])) (chooses_with scope n (this ∷ [])) (drop (i + 1) ds)
    macros-drop ms n l = ap (macros_with scope ms n) (drop_more ds i x l) ∙ macros-cons ms n this (drop (i + 1) ds)

  module _ (ds : List DefTree) (i : ℕ) where
    pub defs-end : length ds ≤ i → defs_refused scope (drop i ds) ≡ []
    unfolding defs_refused
    defs-end l = ap (models.defs_refused scope) (drop_all i ds l)

    pub bodies-end : (bs : List (Option Term)) → length ds ≤ i → bodies_with scope bs (drop i ds) ≡ bs
    unfolding bodies_with
    bodies-end bs l = ap (bodies_with scope bs) (drop_all i ds l)

    pub chooses-end : (n : ℕ) → length ds ≤ i → chooses_with scope n (drop i ds) ≡ n
    unfolding chooses_with
    chooses-end n l =
        let e : n + 0 ≡ n = omega arith in
        ap (λ xs. n + typed.chooses_in scope xs) (drop_all i ds l) ∙ e

    pub macros-end : (ms : List MacroInfo) (n : ℕ) → length ds ≤ i → macros_with scope ms n (drop i ds) ≡ ms
    unfolding macros_with
    macros-end ms n l = ap (λ xs. ms ++ typed.macros_from scope n xs) (drop_all i ds l) ∙ append-nil ms

module _ (text : List ℕ) (scope : Scope) where
  none_more : (is : List Inv) (ds : List DefTree)
      → is ++ typed.invariants_from text scope (length is + 1) ds ≡ (is ++ []) ++ typed.invariants_from text scope (length (is ++ []) + 1) ds
  none_more is ds = ap (λ js. js ++ typed.invariants_from text scope (length js + 1) ds) (sym (append-nil is))

  invariants-cons : (is : List Inv) (d : DefTree) (ds : List DefTree)
      → invariants_with text scope is (d ∷ ds) ≡ invariants_with text scope (invariants_with text scope is (d ∷ [])) ds
  unfolding invariants_with
  invariants-cons is (def.Interval name from to span) ds = none_more is ds
  invariants-cons is (def.Integers name first others span) ds = none_more is ds
  invariants-cons is (def.Function name params term span) ds = none_more is ds
  invariants-cons is (def.Rule name params body span) ds = none_more is ds
  invariants-cons is (def.Invariant name first others term span) ds =
      let one : Inv = invariant_of text name (checked scope term []) (length is + 1) in
      let e : length is + 1 + 1 ≡ length (is ++ one ∷ []) + 1 = ap (λ k. k + 1) (sym (length-append is (one ∷ []))) in
      ap (λ k. is ++ one ∷ typed.invariants_from text scope k ds) e
      ∙ sym (append_assoc is (one ∷ []) (typed.invariants_from text scope (length (is ++ one ∷ []) + 1) ds))

  pub invariants-drop : (ds : List DefTree) (i : ℕ) (x : DefTree) (is : List Inv) → i < length ds
      → invariants_with text scope is (drop i ds) ≡ invariants_with text scope (invariants_with text scope is (get_or ds i x ∷ [])) (drop (i + 1) ds)
  invariants-drop ds i x is l = ap (invariants_with text scope is) (drop_more ds i x l) ∙ invariants-cons is (get_or ds i x) (drop (i + 1) ds)

  pub invariants-end : (ds : List DefTree) (i : ℕ) (is : List Inv) → length ds ≤ i → invariants_with text scope is (drop i ds) ≡ is
  unfolding invariants_with
  invariants-end ds i is l = ap (λ xs. is ++ typed.invariants_from text scope (length is + 1) xs) (drop_all i ds l) ∙ append-nil is

pub ruleset defs_steps =
    (settled-memory, defs-next, defs-stop, bodies-drop, chooses-drop, macros-drop, invariants-drop, defs-end, bodies-end, chooses-end, macros-end, invariants-end)

-- ---- the initial state

module _ (scope : Scope) (ss : List StartTree) (i : ℕ) where
  module _ (x : StartTree) where
    abbrev start : StartTree
    start = get_or ss i x

    starts-cons : i < length ss → starts_refused scope (drop i ss) ≡ start_refused scope start ++ starts_refused scope (drop (i + 1) ss)
    unfolding starts_refused start_refused
    starts-cons l = ap (models.starts_refused scope) (drop_more ss i x l)

    pub starts-next : i < length ss → start_refused scope start ≡ [] → starts_refused scope (drop (i + 1) ss) ≡ starts_refused scope (drop i ss)
    starts-next l h = sym (starts-cons l ∙ ap (λ rs. rs ++ starts_refused scope (drop (i + 1) ss)) h)

    pub starts-stop : (why : TypeRefusal) → i < length ss → settled why (start_refused scope start) ≡ why → settled why (starts_refused scope (drop i ss)) ≡ why
    starts-stop why l h = ap (settled why) (starts-cons l) ∙ settled-first why (start_refused scope start) (starts_refused scope (drop (i + 1) ss)) h

    pub inits-drop : (is : List InitInfo) → i < length ss → is ++ inits_at scope (drop i ss) ≡ (is ++ init_of scope start ∷ []) ++ inits_at scope (drop (i + 1) ss)
    unfolding inits_at
    inits-drop is l =
        ap (λ xs. is ++ map (init_of scope) xs) (drop_more ss i x l)
        ∙ sym (append_assoc is (init_of scope start ∷ []) (map (init_of scope) (drop (i + 1) ss)))

  pub starts-end : length ss ≤ i → starts_refused scope (drop i ss) ≡ []
  unfolding starts_refused
  starts-end l = ap (models.starts_refused scope) (drop_all i ss l)

  pub inits-end : (is : List InitInfo) → length ss ≤ i → is ++ inits_at scope (drop i ss) ≡ is
  unfolding inits_at
  inits-end is l = ap (λ xs. is ++ map (init_of scope) xs) (drop_all i ss l) ∙ append-nil is

pub ruleset starts_steps = (settled-memory, starts-next, starts-stop, inits-drop, starts-end, inits-end)

pub none-starts : (scope : Scope) → starts_refused scope [] ≡ []
unfolding starts_refused
none-starts scope = refl

pub none-inits : (scope : Scope) → inits_at scope [] ≡ []
unfolding inits_at
none-inits scope = refl

pub ruleset no_starts_steps = (none-starts, none-inits)
