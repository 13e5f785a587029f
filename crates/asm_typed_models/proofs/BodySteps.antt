-- The terms of functions: set by the functions' numbers, they are those of the first definitions.
use Rattle.std.proofs.Common.{◌≡◌, ℕ, zero, suc, ◌+◌, ◌≤◌, Bool, true, false, ◌&&◌, ◌||◌, Option, Some, None, List, [], ◌∷◌, ◌++◌, map, refl, sym, ap, ◌∙◌, subst, arith, if◌then◌else◌, bytes_eq, slice_set, slice_get, filter_map}
use Rattle.std.specs.Option.{option_map_or}
use Rattle.std.specs.List.{list_any, cons_option}
use Rattle.std.proofs.lemmas.List.{append-nil, append_assoc}
use Rattle.std.proofs.lemmas.Slice.Eq.{bytes_eq-Decides}
use Rattle.asm_syntax.specs.declared.token.Span.{Span}
use Rattle.asm_syntax.specs.declared.token.Token.{Token}
use Rattle.asm_syntax.specs.declared.tree.ParamsTree.{ParamsTree}
use Rattle.asm_syntax.specs.declared.tree.TermTree.{TermTree}
use Rattle.asm_syntax.specs.declared.tree.DeclTree.{DeclTree}
use Rattle.asm_syntax.specs.declared.tree.DeclTree.TheVariants as decls
use Rattle.asm_syntax.specs.declared.tree.DefTree.{DefTree}
use Rattle.asm_syntax.specs.declared.tree.DefTree.TheVariants as def
use Rattle.asm_syntax.specs.declared.tree.ModelTree.{ModelTree}
use Rattle.asm_syntax.specs.Marks.{text_of}
use Rattle.asm_program.specs.declared.named.Named.{Named}
use Rattle.asm_program.specs.declared.named.Named.TheVariants as named
use Rattle.asm_program.specs.declared.program.FunctionInfo.{FunctionInfo}
use Rattle.asm_program.specs.declared.trees.Term.{Term}
use Rattle.asm_program.specs.declared.type_refusal.TypeRefusal.{TypeRefusal}
use Rattle.asm_program.specs.declared.type_refusal.TypeRefusal.TheVariants.{Duplicate, Unknown, Mismatch}
use Rattle.asm_program.specs.Items.{model_items, starts_of}
use Rattle.asm_program.specs.Signatures.{Names, Header, header, named_as, literals_from, decl_names, macro_names, names_of, find, param_domains, declared_header, defined_kind, dynamic_kind, with_constant, is_constant}
use Rattle.asm_program.specs.NamesPass.{names_refused}
use Rattle.asm_program.specs.DomainsPass.{domains_refused}
use Rattle.asm_program.specs.FunctionsPass.{is_defined, function_at, definition_refused, definitions_refused, missing_among, starts_refused, functions_refused, same_domains, takes_params}
use Rattle.asm_program.specs.TypedTerms.{Scope}
use Rattle.asm_program.specs.TypedModels.{headers, declared_name, scope_of}
use Rattle.asm_program.specs.Typed.{definition_of, body_if, function_info, function_in, number_in}
use Rattle.asm_typed_calls.specs.CalledNames.{declared_refused, functions_in}
use Rattle.asm_typed_models.specs.Forms.{named_by, body_at, bodies_after, bodies_with, no_bodies}
use Rattle.asm_typed_models.proofs.Distinct.{Apart, Distinct, distinct-model, first_none, last_none}

-- ---- the first of two

abbrev first_of : Option Term → Option Term → Option Term
first_of (Some t) other = Some t
first_of None other = other

first-none : (o : Option Term) → first_of o None ≡ o
first-none (Some t) = refl
first-none None = refl

module _ (scope : Scope) where
  definition-append : (n : List ℕ) (ps qs : List DefTree) → definition_of scope n (ps ++ qs) ≡ first_of (definition_of scope n ps) (definition_of scope n qs)
  unfolding body_at
  definition-append n [] qs = refl
  definition-append n (def.Interval name from to span ∷ ps) qs = definition-append n ps qs
  definition-append n (def.Integers name first others span ∷ ps) qs = definition-append n ps qs
  definition-append n (def.Function t params term span ∷ ps) qs = by (bytes_eq (text_of t) n) (definition-append n ps qs)
    where
      by : (b : Bool) → definition_of scope n (ps ++ qs) ≡ first_of (definition_of scope n ps) (definition_of scope n qs)
          → (if b then Some (body_at scope params term).term else definition_of scope n (ps ++ qs))
          ≡ first_of (if b then Some (body_at scope params term).term else definition_of scope n ps) (definition_of scope n qs)
      by true later = refl
      by false later = later
  definition-append n (def.Rule name params body span ∷ ps) qs = definition-append n ps qs
  definition-append n (def.Invariant name first others term span ∷ ps) qs = definition-append n ps qs

  -- ---- terms by declarations

  module _ (all : List DefTree) where
    abbrev body_with : List DefTree → DeclTree → Header → Option (Option Term)
    body_with ps d h = Some (body_if (is_defined h.kind) (definition_of scope (declared_name d) ps))

    abbrev body_in : List DefTree → DeclTree → Option (Option Term)
    body_in ps d = option_map_or (body_with ps d) (declared_header all scope.names d) None

    -- the terms of the declared functions where these definitions are there
    abbrev bodies_of : List DefTree → List DeclTree → List (Option Term)
    bodies_of ps ds = filter_map (body_in ps) ds

    abbrev heads : List DeclTree → List Header
    heads ds = headers all scope.names ds

    one-body : (d : DeclTree) (o : Option Header) (rest : List FunctionInfo)
        → map (λ info. info.body) (cons_option (option_map_or (λ h. Some (function_info scope all d h)) o None) rest)
        ≡ cons_option (option_map_or (body_with all d) o None) (map (λ info. info.body) rest)
    one-body d None rest = refl
    one-body d (Some h) rest = refl

    all-bodies : (ds : List DeclTree) → map (λ info. info.body) (filter_map (function_in scope all) ds) ≡ bodies_of all ds
    all-bodies [] = refl
    all-bodies (d ∷ ds) =
        one-body d (declared_header all scope.names d) (filter_map (function_in scope all) ds)
        ∙ ap (cons_option (body_in all d)) (all-bodies ds)

    if-none : (b : Bool) → None ≡ body_if b None
    if-none true = refl
    if-none false = refl

    one-none : (d : DeclTree) (o : Option Header) (hs : List Header)
        → map (λ h. None) (cons_option o hs) ≡ cons_option (option_map_or (body_with [] d) o None) (map (λ h. None) hs)
    one-none d None hs = refl
    one-none d (Some h) hs = ap (λ b. b ∷ map (λ h. None) hs) (if-none (is_defined h.kind))

    none-bodies : (ds : List DeclTree) → map (λ h. None) (heads ds) ≡ bodies_of [] ds
    none-bodies [] = refl
    none-bodies (d ∷ ds) = one-none d (declared_header all scope.names d) (heads ds) ∙ ap (cons_option (body_in [] d)) (none-bodies ds)

    -- where each function has the same first definition, the terms are the same
    same-one : (ps qs : List DefTree) (d : DeclTree) → definition_of scope (declared_name d) ps ≡ definition_of scope (declared_name d) qs → body_in ps d ≡ body_in qs d
    same-one ps qs d e = ap (λ o. option_map_or (λ h. Some (body_if (is_defined h.kind) o)) (declared_header all scope.names d) None) e

    same-bodies : (ps qs : List DefTree) (ds : List DeclTree) → ((n : List ℕ) → definition_of scope n ps ≡ definition_of scope n qs) → bodies_of ps ds ≡ bodies_of qs ds
    same-bodies ps qs [] e = refl
    same-bodies ps qs (d ∷ ds) e = λ i. cons_option (same-one ps qs d (e (declared_name d)) i) (same-bodies ps qs ds e i)

    -- ---- names of functions

    abbrev is_function : Option Named → Bool
    is_function (Some (named.Function f)) = true
    is_function _ = false

    abbrev IsFunction : Names → List ℕ → ℕ → Type 0
    IsFunction ns n x = find ns n ≡ Some (named.Function x)

    skip : (n : List ℕ) (x : ℕ) (a : List ℕ × Named) (ns : Names) → is_function (Some a.1) ≡ false → IsFunction (a ∷ ns) n x → IsFunction ns n x
    skip n x a ns h e = by (bytes_eq a.0 n) e
      where
        by : (b : Bool) → (if b then Some a.1 else find ns n) ≡ Some (named.Function x) → IsFunction ns n x
        by true f = absurd (cc (sym h ∙ ap is_function f))
        by false f = f

    skip-literals : (n : List ℕ) (x d i : ℕ) (ts : List Token) (ns more : Names) → IsFunction ((literals_from d i ts ++ ns) ++ more) n x → IsFunction (ns ++ more) n x
    skip-literals n x d i [] ns more e = e
    skip-literals n x d i (t ∷ ts) ns more e =
        skip-literals n x d (i + 1) ts ns more (skip n x (named_as t (named.Literal d i)) ((literals_from d (i + 1) ts ++ ns) ++ more) refl e)

    -- none of these names is a function's
    abbrev NoFunctions : Names → Type 0
    NoFunctions ns = (n : List ℕ) → is_function (find ns n) ≡ false

    no-function : (ns : Names) (a : List ℕ × Named) → is_function (Some a.1) ≡ false → NoFunctions ns → NoFunctions (a ∷ ns)
    no-function ns a h e n = by (bytes_eq a.0 n)
      where
        by : (b : Bool) → is_function (if b then Some a.1 else find ns n) ≡ false
        by true = h
        by false = e n

    no-macros : (m : ℕ) (ds : List DefTree) (ns : Names) → NoFunctions ns → NoFunctions (macro_names m ds ++ ns)
    no-macros m [] ns e = e
    no-macros m (def.Interval name from to span ∷ ds) ns e = no-macros m ds ns e
    no-macros m (def.Integers name first others span ∷ ds) ns e = no-macros m ds ns e
    no-macros m (def.Function name params term span ∷ ds) ns e = no-macros m ds ns e
    no-macros m (def.Rule name params body span ∷ ds) ns e =
        no-function (macro_names (m + 1) ds ++ ns) (named_as name (named.Macro m)) refl (no-macros (m + 1) ds ns e)
    no-macros m (def.Invariant name first others term span ∷ ds) ns e = no-macros m ds ns e

    -- functions are numbered upwards
    module _ (more : Names) (none : NoFunctions more) (n : List ℕ) (x : ℕ) where
      from-here : (name : List ℕ) (f : ℕ) (ns : Names) → (IsFunction ns n x → f + 1 ≤ x) → (if bytes_eq name n then Some (named.Function f) else find ns n) ≡ Some (named.Function x) → f ≤ x
      from-here name f ns later e = by (bytes_eq name n) e
        where
          by : (b : Bool) → (if b then Some (named.Function f) else find ns n) ≡ Some (named.Function x) → f ≤ x
          by true h = let same : f ≡ x = cc h in omega (arith, same)
          by false h = omega (arith, later h)

      at-least : (d f : ℕ) (ds : List DeclTree) → IsFunction (decl_names d f ds ++ more) n x → f ≤ x
      at-least d f [] e = absurd (cc (sym (none n) ∙ ap is_function e))
      at-least d f (decls.Enum name first others span ∷ rest) e =
          at-least (d + 1) f rest
          (skip-literals n x d 0 (first ∷ others) (decl_names (d + 1) f rest) more
          (skip n x (named_as name (named.Enum d)) ((literals_from d 0 (first ∷ others) ++ decl_names (d + 1) f rest) ++ more) refl e))
      at-least d f (decls.Abstract name span ∷ rest) e =
          at-least (d + 1) f rest (skip n x (named_as name (named.Abstract d)) (decl_names (d + 1) f rest ++ more) refl e)
      at-least d f (decls.Subset name base span ∷ rest) e =
          at-least (d + 1) f rest (skip n x (named_as name (named.Subset d)) (decl_names (d + 1) f rest ++ more) refl e)
      at-least d f (decls.Defined word name first next span ∷ rest) e =
          from-here (text_of name) f (decl_names d (f + 1) rest ++ more) (at-least d (f + 1) rest) e
      at-least d f (decls.Dynamic word name first next span ∷ rest) e =
          from-here (text_of name) f (decl_names d (f + 1) rest ++ more) (at-least d (f + 1) rest) e

    -- ---- one more definition

    module _ (ps : List DefTree) (t : Token) (params : Option ParamsTree) (term : TermTree) (at : Span) where
      abbrev last : DefTree
      last = def.Function t params term at

      abbrev name_here : List ℕ
      name_here = text_of t

      abbrev made : Term
      made = (body_at scope params term).term

      abbrev with_last : List DefTree
      with_last = ps ++ last ∷ []

      alone : (n : List ℕ) (b : Bool) → bytes_eq name_here n ≡ b → definition_of scope n (last ∷ []) ≡ (if b then Some made else None)
      unfolding body_at
      alone n b e = ap (λ c. if c then Some made else None) e

      other-definition : (n : List ℕ) → bytes_eq name_here n ≡ false → definition_of scope n ps ≡ definition_of scope n with_last
      other-definition n e =
          sym (definition-append n ps (last ∷ [])
          ∙ ap (first_of (definition_of scope n ps)) (alone n false e)
          ∙ first-none (definition_of scope n ps))

      own-definition : definition_of scope name_here ps ≡ None → definition_of scope name_here with_last ≡ Some made
      own-definition e =
          definition-append name_here ps (last ∷ [])
          ∙ ap (λ o. first_of o (definition_of scope name_here (last ∷ []))) e
          ∙ alone name_here true ((bytes_eq-Decides name_here name_here).1 refl)

      bodies-apart : (ds : List DeclTree) → Apart name_here ds → bodies_of ps ds ≡ bodies_of with_last ds
      bodies-apart [] h = refl
      bodies-apart (d ∷ ds) h =
          λ i. cons_option (same-one ps with_last d (other-definition (declared_name d) h.0) i) (bodies-apart ds h.1 i)

      flipped : (a b : List ℕ) → bytes_eq a b ≡ false → bytes_eq b a ≡ false
      flipped a b h = by (bytes_eq b a) refl
        where
          by : (c : Bool) → bytes_eq b a ≡ c → c ≡ false
          by true e = absurd (cc (sym ((bytes_eq-Decides a b).1 (sym ((bytes_eq-Decides b a).0 e))) ∙ h))
          by false e = refl

      module _ (more : Names) (none : NoFunctions more) (x : ℕ) (h : Header) (defined : is_defined h.kind ≡ true) (new : definition_of scope name_here ps ≡ None) where
        abbrev Found : Names → Type 0
        Found ns = IsFunction (ns ++ more) name_here x

        abbrev Sets : List DeclTree → ℕ → Type 0
        Sets ds k = slice_set (bodies_of ps ds) k (Some made) ≡ bodies_of with_last ds

        one-function : (name : List ℕ) (g : Header) (rest : List DeclTree) (d f k : ℕ)
            → (if bytes_eq name name_here then Some (named.Function f) else find (decl_names d (f + 1) rest ++ more) name_here) ≡ Some (named.Function x)
            → x ≡ f + k → slice_get (g ∷ heads rest) k ≡ Some h → Apart name rest
            → ((j : ℕ) → Found (decl_names d (f + 1) rest) → x ≡ f + 1 + j → slice_get (heads rest) j ≡ Some h → Sets rest j)
            → slice_set (body_if (is_defined g.kind) (definition_of scope name ps) ∷ bodies_of ps rest) k (Some made)
            ≡ body_if (is_defined g.kind) (definition_of scope name with_last) ∷ bodies_of with_last rest
        one-function name g rest d f k found number there far later = by (bytes_eq name name_here) refl k found number there
          where
            by : (b : Bool) → bytes_eq name name_here ≡ b → (k : ℕ)
                → (if b then Some (named.Function f) else find (decl_names d (f + 1) rest ++ more) name_here) ≡ Some (named.Function x)
                → x ≡ f + k → slice_get (g ∷ heads rest) k ≡ Some h
                → slice_set (body_if (is_defined g.kind) (definition_of scope name ps) ∷ bodies_of ps rest) k (Some made)
                ≡ body_if (is_defined g.kind) (definition_of scope name with_last) ∷ bodies_of with_last rest
            by true e zero found number there =
                let same : name ≡ name_here = (bytes_eq-Decides name name_here).0 e in
                let kind : is_defined g.kind ≡ true = ap (λ o. option_map_or (λ (i : Header). is_defined i.kind) o true) there ∙ defined in
                let own : definition_of scope name with_last ≡ Some made = ap (λ n. definition_of scope n with_last) same ∙ own-definition new in
                let tail : bodies_of ps rest ≡ bodies_of with_last rest = bodies-apart rest (subst (λ n. Apart n rest) same far) in
                let head : Some made ≡ body_if (is_defined g.kind) (definition_of scope name with_last) = sym ((λ i. body_if (kind i) (own i))) in
                λ i. head i ∷ tail i
            by true e (suc k) found number there =
                let same : f ≡ x = cc found in
                absurd (omega (arith, same, number))
            by false e zero found number there = absurd (omega (arith, number, at-least more none name_here x d (f + 1) rest found))
            by false e (suc k) found number there =
                let head : body_if (is_defined g.kind) (definition_of scope name ps) ≡ body_if (is_defined g.kind) (definition_of scope name with_last)
                = ap (body_if (is_defined g.kind)) (other-definition name (flipped name name_here e)) in
                let tail : Sets rest k = later k found (omega (arith, number)) there in
                λ i. head i ∷ tail i

        sets-one : (d f k : ℕ) (ds : List DeclTree) → Found (decl_names d f ds) → x ≡ f + k → slice_get (heads ds) k ≡ Some h → Distinct ds → Sets ds k
        sets-one d f k [] found number there apart = absurd (cc there)
        sets-one d f k (decls.Enum name first others span ∷ rest) found number there apart =
            sets-one (d + 1) f k rest
            (skip-literals name_here x d 0 (first ∷ others) (decl_names (d + 1) f rest) more
            (skip name_here x (named_as name (named.Enum d)) ((literals_from d 0 (first ∷ others) ++ decl_names (d + 1) f rest) ++ more) refl found))
            number there apart.1
        sets-one d f k (decls.Abstract name span ∷ rest) found number there apart =
            sets-one (d + 1) f k rest (skip name_here x (named_as name (named.Abstract d)) (decl_names (d + 1) f rest ++ more) refl found) number there apart.1
        sets-one d f k (decls.Subset name base span ∷ rest) found number there apart =
            sets-one (d + 1) f k rest (skip name_here x (named_as name (named.Subset d)) (decl_names (d + 1) f rest ++ more) refl found) number there apart.1
        sets-one d f k (decls.Defined word name first next span ∷ rest) found number there apart =
            let g = header scope.names (defined_kind word) first next in
            one-function (text_of name) (with_constant (is_constant all name g) g) rest d f k found number there apart.0
            (λ j found number there. sets-one d (f + 1) j rest found number there apart.1)
        sets-one d f k (decls.Dynamic word name first next span ∷ rest) found number there apart =
            one-function (text_of name) (header scope.names (dynamic_kind word) first next) rest d f k found number there apart.0
            (λ j found number there. sets-one d (f + 1) j rest found number there apart.1)

    -- ---- all definitions

    taken : (b : Bool) (o : Option Header) (fits : Header → Bool) (x y z : TypeRefusal)
        → (if b then x ∷ [] else option_map_or (λ h. if fits h then [] else y ∷ []) o (z ∷ [])) ≡ []
        → (b ≡ false) × (h : Header) × (o ≡ Some h) × (fits h ≡ true)
    taken true o fits x y z e = absurd (cc e)
    taken false None fits x y z e = absurd (cc e)
    taken false (Some h) fits x y z e = (refl, h, refl, by (fits h) e)
      where
        by : (b : Bool) → (if b then [] else y ∷ []) ≡ [] → b ≡ true
        by true k = refl
        by false k = absurd (cc k)

    numbered : (fs : List Header) (o : Option Named) (h : Header) → function_at fs o ≡ Some h
        → (x : ℕ) × (o ≡ Some (named.Function x)) × (slice_get fs x ≡ Some h)
    numbered fs None h e = absurd (cc e)
    numbered fs (Some (named.Enum d)) h e = absurd (cc e)
    numbered fs (Some (named.Abstract d)) h e = absurd (cc e)
    numbered fs (Some (named.Subset d)) h e = absurd (cc e)
    numbered fs (Some (named.Literal d i)) h e = absurd (cc e)
    numbered fs (Some (named.Function f)) h e = (f, refl, e)
    numbered fs (Some (named.Macro m)) h e = absurd (cc e)
    numbered fs (Some named.Main) h e = absurd (cc e)

    and_first : (a b : Bool) → (a && b) ≡ true → a ≡ true
    and_first true b e = refl
    and_first false b e = absurd (cc e)

    or_none : (a b : Bool) → (a || b) ≡ false → (a ≡ false) × (b ≡ false)
    or_none true b e = absurd (cc e)
    or_none false b e = (refl, e)

    -- what isn't among these names has no definition among these
    abbrev Covers : List (List ℕ) → List DefTree → Type 0
    Covers s ps = (q : List ℕ) → list_any (bytes_eq q) s ≡ false → definition_of scope q ps ≡ None

    covers-function : (s : List (List ℕ)) (ps : List DefTree) (t : Token) (params : Option ParamsTree) (term : TermTree) (at : Span)
        → Covers s ps → Covers (text_of t ∷ s) (ps ++ def.Function t params term at ∷ [])
    covers-function s ps t params term at c q e =
        let both = or_none (bytes_eq q (text_of t)) (list_any (bytes_eq q) s) e in
        sym (other-definition ps t params term at q (flipped ps t params term at q (text_of t) both.0)) ∙ c q both.1

    module _ (decls : List DeclTree) (more : Names) (none : NoFunctions more) (are : scope.names ≡ decl_names 0 0 decls ++ more) (apart : Distinct decls) where
      abbrev Whole : List DefTree → List DefTree → Type 0
      Whole ps rest = bodies_after scope (bodies_of ps decls) rest ≡ bodies_of (ps ++ rest) decls

      -- one more definition, of a function or not
      one-more : (ps rest : List DefTree) (d : DefTree) (bs : List (Option Term)) → bs ≡ bodies_of (ps ++ d ∷ []) decls → Whole (ps ++ d ∷ []) rest
          → bodies_after scope bs rest ≡ bodies_of (ps ++ d ∷ rest) decls
      one-more ps rest d bs e later =
          ap (λ xs. bodies_after scope xs rest) e
          ∙ later
          ∙ ap (λ xs. bodies_of xs decls) (append_assoc ps (d ∷ []) rest)

      -- a definition that is none of a function
      other-one : (ps : List DefTree) (d : DefTree) → ((n : List ℕ) → definition_of scope n (d ∷ []) ≡ None)
          → (n : List ℕ) → definition_of scope n ps ≡ definition_of scope n (ps ++ d ∷ [])
      other-one ps d without n =
          sym (definition-append n ps (d ∷ []) ∙ ap (first_of (definition_of scope n ps)) (without n) ∙ first-none (definition_of scope n ps))

      covers-other : (s : List (List ℕ)) (ps : List DefTree) (d : DefTree) → ((n : List ℕ) → definition_of scope n (d ∷ []) ≡ None)
          → Covers s ps → Covers s (ps ++ d ∷ [])
      covers-other s ps d without c q e = sym (other-one ps d without q) ∙ c q e

      other-bodies : (ps : List DefTree) (d : DefTree) → ((n : List ℕ) → definition_of scope n (d ∷ []) ≡ None) → bodies_of ps decls ≡ bodies_of (ps ++ d ∷ []) decls
      other-bodies ps d without = same-bodies ps (ps ++ d ∷ []) decls (other-one ps d without)

      function-bodies : (s : List (List ℕ)) (ps : List DefTree) (t : Token) (params : Option ParamsTree) (term : TermTree) (at : Span) → Covers s ps
          → definition_refused all scope.names (heads decls) s (takes_params all scope.names (heads decls) (param_domains scope.names params)) t ≡ []
          → slice_set (bodies_of ps decls) (number_in (named_by scope t)) (Some (body_at scope params term).term) ≡ bodies_of (ps ++ def.Function t params term at ∷ []) decls
      unfolding named_by
      function-bodies s ps t params term at c e =
          let fits = takes_params all scope.names (heads decls) (param_domains scope.names params) in
          let meant = find scope.names (text_of t) in
          let fact = taken (list_any (bytes_eq (text_of t)) s) (function_at (heads decls) meant) fits (Duplicate (text_of t) t.span) (Mismatch t.span) (Unknown (text_of t) t.span) e in
          let number = numbered (heads decls) meant fact.1 fact.2 in
          let kind = and_first (is_defined fact.1.kind) (same_domains (param_domains scope.names params) fact.1.args) fact.3 in
          let found : find (decl_names 0 0 decls ++ more) (text_of t) ≡ Some (named.Function number.0) = ap (λ ns. find ns (text_of t)) (sym are) ∙ number.1 in
          ap (λ o. slice_set (bodies_of ps decls) (number_in o) (Some (body_at scope params term).term)) number.1
          ∙ sets-one ps t params term at more none number.0 fact.1 kind (c (text_of t) fact.0) 0 0 number.0 decls found (omega arith) number.2 apart

      sets-all : (s : List (List ℕ)) (ps rest : List DefTree) → Covers s ps → definitions_refused all scope.names (heads decls) s rest ≡ [] → Whole ps rest
      sets-all s ps [] c e = ap (λ xs. bodies_of xs decls) (sym (append-nil ps))
      sets-all s ps (def.Interval name from to span ∷ rest) c e =
          let d = def.Interval name from to span in
          one-more ps rest d (bodies_of ps decls) (other-bodies ps d (λ n. refl)) (sets-all s (ps ++ d ∷ []) rest (covers-other s ps d (λ n. refl) c) e)
      sets-all s ps (def.Integers name first others span ∷ rest) c e =
          let d = def.Integers name first others span in
          one-more ps rest d (bodies_of ps decls) (other-bodies ps d (λ n. refl)) (sets-all s (ps ++ d ∷ []) rest (covers-other s ps d (λ n. refl) c) e)
      sets-all s ps (def.Function t params term at ∷ rest) c e =
          let d = def.Function t params term at in
          let here = definition_refused all scope.names (heads decls) s (takes_params all scope.names (heads decls) (param_domains scope.names params)) t in
          let later = definitions_refused all scope.names (heads decls) (text_of t ∷ s) rest in
          one-more ps rest d (slice_set (bodies_of ps decls) (number_in (named_by scope t)) (Some (body_at scope params term).term))
          (function-bodies s ps t params term at c (first_none here later e))
          (sets-all (text_of t ∷ s) (ps ++ d ∷ []) rest (covers-function s ps t params term at c) (last_none here later e))
      sets-all s ps (def.Rule name params body span ∷ rest) c e =
          let d = def.Rule name params body span in
          one-more ps rest d (bodies_of ps decls) (other-bodies ps d (λ n. refl)) (sets-all s (ps ++ d ∷ []) rest (covers-other s ps d (λ n. refl) c) e)
      sets-all s ps (def.Invariant name first others term span ∷ rest) c e =
          let d = def.Invariant name first others term span in
          one-more ps rest d (bodies_of ps decls) (other-bodies ps d (λ n. refl)) (sets-all s (ps ++ d ∷ []) rest (covers-other s ps d (λ n. refl) c) e)

      whole : definitions_refused all scope.names (heads decls) [] all ≡ [] → bodies_with scope (no_bodies (heads decls)) all ≡ map (λ info. info.body) (filter_map (function_in scope all) decls)
      unfolding bodies_with no_bodies
      whole e =
          ap (λ bs. bodies_after scope bs all) (none-bodies decls)
          ∙ sets-all [] [] all (λ q h. refl) e
          ∙ sym (all-bodies decls)

-- the terms of a text's functions, where the passes before this one refuse nothing
pub bodies-are : (tree : ModelTree) → declared_refused tree ≡ []
    → bodies_with (scope_of tree) (no_bodies (scope_of tree).functions) tree.defs ≡ map (λ info. info.body) (functions_in tree)
bodies-are tree e =
    let scope = scope_of tree in
    let main : Names = named_as tree.rule_name named.Main ∷ [] in
    let more : Names = macro_names 0 tree.defs ++ main in
    let of_names = names_refused (model_items tree) in
    let of_domains = domains_refused tree.decls (names_of tree) (model_items tree) in
    let of_functions = functions_refused tree.defs (names_of tree) scope.functions tree.decls (starts_of tree.init) in
    let of_missing = missing_among tree.defs (names_of tree) scope.functions tree.decls in
    let of_definitions = definitions_refused tree.defs (names_of tree) scope.functions [] tree.defs in
    let of_starts = starts_refused tree.defs (names_of tree) scope.functions [] (starts_of tree.init) in
    let unrefused : of_names ≡ [] = first_none of_names of_domains (first_none (of_names ++ of_domains) of_functions e) in
    let defined : of_definitions ≡ [] =
    last_none of_missing of_definitions (first_none (of_missing ++ of_definitions) of_starts (last_none (of_names ++ of_domains) of_functions e)) in
    whole scope tree.defs tree.decls more
    (no-macros scope tree.defs 0 tree.defs main (no-function scope tree.defs [] (named_as tree.rule_name named.Main) refl (λ n. refl)))
    (append_assoc (decl_names 0 0 tree.decls) (macro_names 0 tree.defs) main)
    (distinct-model tree unrefused)
    defined
