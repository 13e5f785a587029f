-- The term of each function that a text defines is that of its definition, under the number that
-- the function's name stands for.
use Rattle.std.proofs.Common.{◌≡◌, ℕ, suc, ◌+◌, Bool, true, false, ◌&&◌, ◌||◌, if◌then◌else◌, Option, Some, None, unwrap_or, List, [], ◌∷◌, ◌++◌, map, slice_get, refl, sym, ap, subst, ◌∙◌, arith}
use Rattle.std.specs.Option.{option_map, option_map_or}
use Rattle.std.specs.List.{AllByRecursion, list_any, filter_map}
use Rattle.std.specs.Str.{bytes_eq}
use Rattle.std.proofs.lemmas.Bool.{true≢false}
use Rattle.std.proofs.lemmas.List.{append_assoc}
use Rattle.std.proofs.lemmas.Option.{slice_get-map}
use Rattle.std.proofs.lemmas.Slice.Eq.{bytes_eq-Decides}
use Rattle.asm_syntax.specs.declared.token.Token.{Token}
use Rattle.asm_syntax.specs.declared.tree.DeclTree.{DeclTree}
use Rattle.asm_syntax.specs.declared.tree.DeclTree.TheVariants as decls
use Rattle.asm_syntax.specs.declared.tree.DefTree.{DefTree}
use Rattle.asm_syntax.specs.declared.tree.DefTree.TheVariants as def
use Rattle.asm_syntax.specs.declared.tree.ModelTree.{ModelTree}
use Rattle.asm_syntax.specs.Marks.{text_of}
use Rattle.asm_program.specs.declared.named.Named.{Named}
use Rattle.asm_program.specs.declared.named.Named.TheVariants as named
use Rattle.asm_program.specs.declared.type_refusal.TypeRefusal.{TypeRefusal}
use Rattle.asm_program.specs.declared.type_refusal.TypeRefusal.TheVariants.{Duplicate, Unknown, Mismatch}
use Rattle.asm_program.specs.declared.trees.Term.{Term}
use Rattle.asm_program.specs.declared.program.FunctionInfo.{FunctionInfo}
use Rattle.asm_program.specs.Items.{model_items, starts_of}
use Rattle.asm_program.specs.Signatures.{Names, Header, names_of, named_as, literals_from, decl_names, macro_names, find, param_domains, header, defined_kind, dynamic_kind, is_constant, with_constant, declared_header}
use Rattle.asm_program.specs.NamesPass.{names_refused}
use Rattle.asm_program.specs.DomainsPass.{domains_refused}
use Rattle.asm_program.specs.FunctionsPass.{function_at, is_defined, header_of, missing_among, definition_refused, takes_params, definitions_refused, starts_refused, functions_refused, same_domains}
use Rattle.asm_program.specs.TypedTerms.{Scope}
use Rattle.asm_program.specs.TypedModels.{scope_of, declared_name, body_checked}
use Rattle.asm_program.specs.Typed.{definition_of, body_if, function_info, number_in}
use Rattle.asm_typed_calls.specs.CalledNames.{IsSound, functions_in}

-- ---- what a name stands for

some_is : {A : Type 0} (a b : A) → Some a ≡ Some b → a ≡ b
some_is a b e = ap (λ o. unwrap_or o a) e

abbrev is_function : Named → Bool
is_function (named.Function f) = true
is_function _ = false

-- a name that stands for something else isn't the one that is found
passed : (b : Bool) (n : Named) (o : Option Named) (g : ℕ) → is_function n ≡ false
    → (if b then Some n else o) ≡ Some (named.Function g) → o ≡ Some (named.Function g)
passed true n o g f e =
    absurd (true≢false (sym (ap is_function (some_is n (named.Function g) e)) ∙ f))
passed false n o g f e = e

module _ (q : List ℕ) (g : ℕ) where
  -- the name is found to be the function with this number
  abbrev Finds : Names → Type 0
  Finds ns = find ns q ≡ Some (named.Function g)

  literals-pass : (d i : ℕ) (ts : List Token) (rest : Names) → Finds (literals_from d i ts ++ rest)
      → Finds rest
  literals-pass d i [] rest e = e
  literals-pass d i (t ∷ ts) rest e =
      literals-pass d (i + 1) ts rest
      (passed (bytes_eq (text_of t) q) (named.Literal d i)
      (find (literals_from d (i + 1) ts ++ rest) q) g refl e)

  macros-pass : (m : ℕ) (ds : List DefTree) (rest : Names) → Finds (macro_names m ds ++ rest)
      → Finds rest
  macros-pass m [] rest e = e
  macros-pass m (def.Interval name from to span ∷ ds) rest e = macros-pass m ds rest e
  macros-pass m (def.Integers name first others span ∷ ds) rest e = macros-pass m ds rest e
  macros-pass m (def.Function name params term span ∷ ds) rest e = macros-pass m ds rest e
  macros-pass m (def.Rule name params body span ∷ ds) rest e =
      macros-pass (m + 1) ds rest
      (passed (bytes_eq (text_of name) q) (named.Macro m)
      (find (macro_names (m + 1) ds ++ rest) q) g refl e)
  macros-pass m (def.Invariant name first others term span ∷ ds) rest e = macros-pass m ds rest e

  main-passes : (name : Token) (P : Type 0) → Finds (named_as name named.Main ∷ []) → P
  main-passes name P e =
      let none : None ≡ Some (named.Function g) =
      passed (bytes_eq (text_of name) q) named.Main None g refl e in
      absurd (cc none)

-- ---- declarations

module _ (scope : Scope) (defs : List DefTree) (names : Names) where
  abbrev heads : List DeclTree → List Header
  heads = filter_map (declared_header defs names)

  abbrev infos : List DeclTree → List FunctionInfo
  infos = filter_map (λ decl. option_map_or (λ h. Some (function_info scope defs decl h))
      (declared_header defs names decl) None)

  -- the k-th function of the declarations has this name
  record IsDeclared (q : List ℕ) (ds : List DeclTree) (k : ℕ) : Type 0 where
    decl : DeclTree
    header : Header
    name : declared_name decl ≡ q
    listed : slice_get (heads ds) k ≡ Some header
    told : slice_get (infos ds) k ≡ Some (function_info scope defs decl header)

  module _ (q : List ℕ) (g : ℕ) (more : Names)
      (none : (P : Type 0) → Finds q g more → P) where
    abbrev Declared : ℕ → List DeclTree → Type 0
    Declared f ds = (k : ℕ) × (g ≡ f + k) × IsDeclared q ds k

    decl-found : (d f : ℕ) (ds : List DeclTree) → Finds q g (decl_names d f ds ++ more)
        → Declared f ds
    decl-found d f [] e = none (Declared f []) e
    decl-found d f (decls.Enum name first others span ∷ ds) e =
        let rest = decl_names (d + 1) f ds in
        let literals = literals_from d 0 (first ∷ others) in
        let past = passed (bytes_eq (text_of name) q) (named.Enum d)
        (find ((literals ++ rest) ++ more) q) g refl e in
        let found = decl-found (d + 1) f ds (literals-pass q g d 0 (first ∷ others) (rest ++ more)
        (sym (ap (λ ns. find ns q) (append_assoc literals rest more)) ∙ past)) in
        let r = found.2 in (
          found.0,
          found.1,
          record {
            decl = r.decl;
            header = r.header;
            name = r.name;
            listed = r.listed;
            told = r.told;
          },
        )
    decl-found d f (decls.Abstract name span ∷ ds) e =
        let found = decl-found (d + 1) f ds (passed (bytes_eq (text_of name) q) (named.Abstract d)
        (find (decl_names (d + 1) f ds ++ more) q) g refl e) in
        let r = found.2 in (
          found.0,
          found.1,
          record {
            decl = r.decl;
            header = r.header;
            name = r.name;
            listed = r.listed;
            told = r.told;
          },
        )
    decl-found d f (decls.Subset name base span ∷ ds) e =
        let found = decl-found (d + 1) f ds (passed (bytes_eq (text_of name) q) (named.Subset d)
        (find (decl_names (d + 1) f ds ++ more) q) g refl e) in
        let r = found.2 in (
          found.0,
          found.1,
          record {
            decl = r.decl;
            header = r.header;
            name = r.name;
            listed = r.listed;
            told = r.told;
          },
        )
    decl-found d f (decls.Defined kind name first next span ∷ ds) e =
        by (bytes_eq (text_of name) q) refl e (λ h. decl-found d (f + 1) ds h)
      where
        by : (b : Bool) → bytes_eq (text_of name) q ≡ b
            → (if b then Some (named.Function f) else find (decl_names d (f + 1) ds ++ more) q)
            ≡ Some (named.Function g)
            → (Finds q g (decl_names d (f + 1) ds ++ more) → Declared (f + 1) ds)
            → Declared f (decls.Defined kind name first next span ∷ ds)
        by true t e later = (
          0,
          sym (ap number_in e) ∙ omega arith,
          record {
            decl = decls.Defined kind name first next span;
            header =
                let h = header names (defined_kind kind) first next in
                with_constant (is_constant defs name h) h;
            name = (bytes_eq-Decides (text_of name) q).0 t;
            listed = refl;
            told = refl;
          },
        )
        by false t e later =
            let found = later e in
            let r = found.2 in (
              suc found.0,
              found.1 ∙ omega arith,
              record {
                decl = r.decl;
                header = r.header;
                name = r.name;
                listed = r.listed;
                told = r.told;
              },
            )
    decl-found d f (decls.Dynamic kind name first next span ∷ ds) e =
        by (bytes_eq (text_of name) q) refl e (λ h. decl-found d (f + 1) ds h)
      where
        by : (b : Bool) → bytes_eq (text_of name) q ≡ b
            → (if b then Some (named.Function f) else find (decl_names d (f + 1) ds ++ more) q)
            ≡ Some (named.Function g)
            → (Finds q g (decl_names d (f + 1) ds ++ more) → Declared (f + 1) ds)
            → Declared f (decls.Dynamic kind name first next span ∷ ds)
        by true t e later = (
          0,
          sym (ap number_in e) ∙ omega arith,
          record {
            decl = decls.Dynamic kind name first next span;
            header = header names (dynamic_kind kind) first next;
            name = (bytes_eq-Decides (text_of name) q).0 t;
            listed = refl;
            told = refl;
          },
        )
        by false t e later =
            let found = later e in
            let r = found.2 in (
              suc found.0,
              found.1 ∙ omega arith,
              record {
                decl = r.decl;
                header = r.header;
                name = r.name;
                listed = r.listed;
                told = r.told;
              },
            )

-- ---- definitions

if_none : (b : Bool) (why : TypeRefusal) (rest : List TypeRefusal)
    → (if b then why ∷ [] else rest) ≡ [] → (b ≡ false) × (rest ≡ [])
if_none true why rest e = absurd (cc e)
if_none false why rest e = (refl, e)

fits_of : (b : Bool) (why : TypeRefusal) → (if b then [] else why ∷ []) ≡ [] → b ≡ true
fits_of true why e = refl
fits_of false why e = absurd (cc e)

both_left : (a b : Bool) → (a && b) ≡ true → a ≡ true
both_left true b h = refl
both_left false b h = h

or_none : (a b : Bool) → (a || b) ≡ false → (a ≡ false) × (b ≡ false)
or_none true b h = absurd (true≢false h)
or_none false b h = (refl, h)

first_none : (xs ys : List TypeRefusal) → xs ++ ys ≡ [] → xs ≡ []
first_none [] ys h = refl
first_none (x ∷ xs) ys h = absurd (cc h)

last_none : (xs ys : List TypeRefusal) → xs ++ ys ≡ [] → ys ≡ []
last_none [] ys h = h
last_none (x ∷ xs) ys h = absurd (cc h)

same_name : (q : List ℕ) → bytes_eq q q ≡ true
same_name q = (bytes_eq-Decides q q).1 refl

false_by : (b : Bool) → (b ≡ true → false ≡ true) → b ≡ false
false_by true h = absurd (true≢false (sym (h refl)))
false_by false h = refl

other_name : (q r : List ℕ) → bytes_eq q r ≡ false → bytes_eq r q ≡ false
other_name q r h =
    false_by (bytes_eq r q)
    (λ t. sym h ∙ (bytes_eq-Decides q r).1 (sym ((bytes_eq-Decides r q).0 t)))

-- the header of a function that a name stands for
record NamesHeader (functions : List Header) (o : Option Named) (fits : Header → Bool) : Type 0 where
  number : ℕ
  header : Header
  stands : o ≡ Some (named.Function number)
  listed : slice_get functions number ≡ Some header
  fitting : fits header ≡ true

header_named : (functions : List Header) (fits : Header → Bool) (unknown wrong : TypeRefusal)
    (o : Option Named) (h : Option Header) → function_at functions o ≡ h
    → option_map_or (λ h. if fits h then [] else wrong ∷ []) h (unknown ∷ []) ≡ []
    → NamesHeader functions o fits
header_named functions fits unknown wrong o None at e = absurd (cc e)
header_named functions fits unknown wrong None (Some h) at e = absurd (cc at)
header_named functions fits unknown wrong (Some (named.Enum d)) (Some h) at e = absurd (cc at)
header_named functions fits unknown wrong (Some (named.Abstract d)) (Some h) at e = absurd (cc at)
header_named functions fits unknown wrong (Some (named.Subset d)) (Some h) at e = absurd (cc at)
header_named functions fits unknown wrong (Some (named.Literal d i)) (Some h) at e = absurd (cc at)
header_named functions fits unknown wrong (Some (named.Macro m)) (Some h) at e = absurd (cc at)
header_named functions fits unknown wrong (Some named.Main) (Some h) at e = absurd (cc at)
header_named functions fits unknown wrong (Some (named.Function f)) (Some h) at e = record {
  number = f;
  header = h;
  stands = refl;
  listed = at;
  fitting = fits_of (fits h) wrong e;
}

module _ (tree : ModelTree) where
  abbrev scope : Scope
  scope = scope_of tree

  abbrev names : Names
  names = names_of tree

  -- the term of the definition has the function's number
  abbrev pub HasBody : DefTree → Type 0
  HasBody (def.Interval name from to span) = Unit {0}
  HasBody (def.Integers name first others span) = Unit {0}
  HasBody (def.Function name params term span) =
      slice_get (map (λ info. info.body) (functions_in tree))
      (number_in (find (scope_of tree).names (text_of name)))
      ≡ Some (Some (body_checked (scope_of tree) params term).term)
  HasBody (def.Rule name params body span) = Unit {0}
  HasBody (def.Invariant name first others term span) = Unit {0}

  declared : (q : List ℕ) (g : ℕ) → find names q ≡ Some (named.Function g)
      → IsDeclared scope tree.defs names q tree.decls g
  declared q g e =
      let more = macro_names 0 tree.defs ++ named_as tree.rule_name named.Main ∷ [] in
      let found = decl-found scope tree.defs names q g more
      (λ P h. main-passes q g tree.rule_name P
      (macros-pass q g 0 tree.defs (named_as tree.rule_name named.Main ∷ []) h))
      0 0 tree.decls
      (sym (ap (λ ns. find ns q) (append_assoc (decl_names 0 0 tree.decls)
      (macro_names 0 tree.defs) (named_as tree.rule_name named.Main ∷ []))) ∙ e) in
      let k : found.0 ≡ g = sym (found.1 ∙ omega arith) in
      subst (IsDeclared scope tree.defs names q tree.decls) k found.2

  body-at : (name : Token) (fits : Header → Bool) (body : Term)
      → ((h : Header) → fits h ≡ true → is_defined h.kind ≡ true)
      → NamesHeader (scope_of tree).functions (find names (text_of name)) fits
      → definition_of scope (text_of name) tree.defs ≡ Some body
      → slice_get (map (λ info. info.body) (functions_in tree))
      (number_in (find (scope_of tree).names (text_of name))) ≡ Some (Some body)
  body-at name fits body defined n at =
      let d = declared (text_of name) n.number n.stands in
      let same : n.header ≡ d.header = some_is n.header d.header (sym n.listed ∙ d.listed) in
      let kind : is_defined d.header.kind ≡ true =
      ap (λ h. is_defined h.kind) (sym same) ∙ defined n.header n.fitting in
      slice_get-map (λ (info : FunctionInfo). info.body) (functions_in tree)
      (number_in (find names (text_of name)))
      ∙ (λ i. option_map (λ (info : FunctionInfo). info.body)
      (slice_get (functions_in tree) (number_in (n.stands i))))
      ∙ ap (option_map (λ (info : FunctionInfo). info.body)) d.told
      ∙ (λ i. Some (body_if (kind i) (definition_of scope (d.name i) tree.defs)))
      ∙ ap Some at

  abbrev DefinedLater : List (List ℕ) → List DefTree → Type 0
  DefinedLater done ds =
      (q : List ℕ) → list_any (bytes_eq q) done ≡ false
      → definition_of scope q tree.defs ≡ definition_of scope q ds

  abbrev refused_along : List (List ℕ) → List DefTree → List TypeRefusal
  refused_along = definitions_refused tree.defs names (scope_of tree).functions

  later : (done : List (List ℕ)) (t : Token) (o rest : Option Term) (q : List ℕ)
      → list_any (bytes_eq q) (text_of t ∷ done) ≡ false
      → (list_any (bytes_eq q) done ≡ false) × ((if bytes_eq (text_of t) q then o else rest) ≡ rest)
  later done t o rest q h =
      let both = or_none (bytes_eq q (text_of t)) (list_any (bytes_eq q) done) h in
      (both.1, ap (λ b. if b then o else rest) (other_name q (text_of t) both.0))

  along : (done : List (List ℕ)) (ds : List DefTree) → refused_along done ds ≡ []
      → DefinedLater done ds → AllByRecursion HasBody ds
  along done [] e l = tt
  along done (def.Interval name from to span ∷ ds) e l = (tt, along done ds e l)
  along done (def.Integers name first others span ∷ ds) e l = (tt, along done ds e l)
  along done (def.Rule name params body span ∷ ds) e l = (tt, along done ds e l)
  along done (def.Invariant name first others term span ∷ ds) e l = (tt, along done ds e l)
  along done (def.Function name params term span ∷ ds) e l =
      let q = text_of name in
      let fits = takes_params tree.defs names (scope_of tree).functions
      (param_domains names params) in
      let here = definition_refused tree.defs names (scope_of tree).functions done fits name in
      let rest = refused_along (q ∷ done) ds in
      let body = (body_checked scope params term).term in
      let none = if_none (list_any (bytes_eq q) done) (Duplicate q name.span)
      (option_map_or (λ h. if fits h then [] else Mismatch name.span ∷ [])
      (header_of tree.defs names (scope_of tree).functions name) (Unknown q name.span ∷ []))
      (first_none here rest e) in
      let n = header_named (scope_of tree).functions fits (Unknown q name.span)
      (Mismatch name.span) (find names q)
      (header_of tree.defs names (scope_of tree).functions name) refl none.1 in
      let at : definition_of scope q tree.defs ≡ Some body =
      l q none.0
      ∙ ap (λ b. if b then Some body else definition_of scope q ds) (same_name q) in (
        body-at name fits body
            (λ h t. both_left (is_defined h.kind) (same_domains (param_domains names params) h.args) t)
            n at,
        along (q ∷ done) ds (last_none here rest e)
            (λ r h.
            let o = later done name (Some body) (definition_of scope r ds) r h in
            l r o.0 ∙ o.1),
      )

  pub bodies-stand : IsSound tree → AllByRecursion HasBody tree.defs
  bodies-stand sound =
      let names_part = names_refused (model_items tree) in
      let domains_part = domains_refused tree.decls names (model_items tree) in
      let functions = (scope_of tree).functions in
      let functions_part =
      functions_refused tree.defs names functions tree.decls (starts_of tree.init) in
      let missing_part = missing_among tree.defs names functions tree.decls in
      let defined_part = refused_along [] tree.defs in
      let starts_part = starts_refused tree.defs names functions [] (starts_of tree.init) in
      let all = last_none (names_part ++ domains_part) functions_part sound.declared in
      along [] tree.defs
      (last_none missing_part defined_part
      (first_none (missing_part ++ defined_part) starts_part all))
      (λ q h. refl)
