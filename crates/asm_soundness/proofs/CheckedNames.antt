-- What the names of a text stand for: its literals and its constants are members that its domains
-- name, and its abstract domains are abstract.
use Rattle.std.proofs.Common.{◌≡◌, ℕ, zero, suc, ◌+◌, ◌<◌, Bool, true, false, cond, ◌&&◌, ◌||◌}
use Rattle.std.proofs.Common.{◌==◌, nat_lt, if◌then◌else◌, Option, Some, None, List, [], ◌∷◌}
use Rattle.std.proofs.Common.{◌++◌, map, length, take, drop, slice_get, count_by, refl, sym, ap}
use Rattle.std.proofs.Common.{subst, ◌∙◌, arith, rules}
use Rattle.std.specs.Option.{option_map_or}
use Rattle.std.specs.List.{AllByRecursion, filter_map, cons_option}
use Rattle.std.specs.Str.{bytes_eq}
use Rattle.std.proofs.lemmas.Bool.{or_left, or_right, lt-ltb, eq-eqb}
use Rattle.std.proofs.lemmas.List.{length-map}
use Rattle.std.proofs.lemmas.List.Recursion.{is_count_by}
use Rattle.asm_value.specs.declared.domain.Domain.{Domain}
use Rattle.asm_value.specs.declared.domain.Domain.TheOpen.{Domain-F}
use Rattle.asm_value.specs.declared.domain.Domain.TheVariants as domains
use Rattle.asm_value.specs.declared.domain.Domain.TheViews.{out-Domain, the_lemmas}
use Rattle.asm_value.specs.declared.domain.DomainInfo.{DomainInfo}
use Rattle.asm_value.specs.declared.domain.DomainKind.{DomainKind}
use Rattle.asm_value.specs.declared.domain.DomainKind.TheVariants as kind
use Rattle.asm_value.specs.Domain.{has_literal}
use Rattle.asm_value.specs.Living.{is_abstract, is_abstract_kind}
use Rattle.asm_value.proofs.RangeLaws.{all_append}
use Rattle.asm_syntax.specs.declared.token.Token.{Token}
use Rattle.asm_syntax.specs.declared.tree.DomainTree.{DomainTree}
use Rattle.asm_syntax.specs.declared.tree.DomainTree.TheOpen.{DomainTree-F}
use Rattle.asm_syntax.specs.declared.tree.DomainTree.TheFolds.{fold_out-DomainTree, map-DomainTree}
use Rattle.asm_syntax.specs.declared.tree.DomainTree.TheViews.{out-DomainTree}
use Rattle.asm_syntax.specs.declared.tree.DeclTree.{DeclTree}
use Rattle.asm_syntax.specs.declared.tree.DeclTree.TheVariants as decls
use Rattle.asm_syntax.specs.declared.tree.DefTree.{DefTree}
use Rattle.asm_syntax.specs.declared.tree.DefTree.TheVariants as def
use Rattle.asm_syntax.specs.declared.tree.ModelTree.{ModelTree}
use Rattle.asm_syntax.specs.Marks.{text_of}
use Rattle.asm_program.specs.declared.named.Named.{Named}
use Rattle.asm_program.specs.declared.named.Named.TheVariants as named
use Rattle.asm_program.specs.declared.program.FunctionKind.{FunctionKind}
use Rattle.asm_program.specs.declared.program.FunctionKind.TheVariants as kinds
use Rattle.asm_program.specs.Members.{constants_of}
use Rattle.asm_program.specs.Signatures.{Names, Header, find, literals_from, decl_names}
use Rattle.asm_program.specs.Signatures.{macro_names, named_as, names_of, domain_named, or_truth}
use Rattle.asm_program.specs.Signatures.{domain_level, domain_of, header, defined_kind}
use Rattle.asm_program.specs.Signatures.{dynamic_kind, is_constant, with_constant, declared_header}
use Rattle.asm_program.specs.TypedTerms.{Scope, abstract_level, abstract_number, is_constant_kind}
use Rattle.asm_program.specs.TypedTerms.{is_constant_of}
use Rattle.asm_program.specs.TypedModels.{declared_name, headers, constant_names, infos_from}
use Rattle.asm_program.specs.TypedModels.{ints_of, scope_of}
use Rattle.asm_program.proofs.Refusals.{some_or_none}
use Rattle.asm_soundness.specs.Sorted.{is_named}

-- the literals and constants of the scope are named members of its domains, and its abstract
-- domains are abstract
pub record NamesMembers (scope : Scope) : Type 0 where
  pub literals : (name : List ℕ) (d i : ℕ) → find scope.names name ≡ Some (named.Literal d i)
      → is_named scope.domains d i ≡ true
  pub constants : (f d : ℕ) (h : Header) → slice_get scope.functions f ≡ Some h
      → h.kind ≡ kinds.Constant → abstract_number h.result ≡ Some d
      → is_named scope.domains d (count_by (is_constant_of d) (take f scope.functions)) ≡ true
  pub abstracts : (name : List ℕ) (d : ℕ) → find scope.names name ≡ Some (named.Abstract d)
      → is_abstract scope.domains d ≡ true

-- ---- lists

pub some_is : {A : Type 0} (x y : A) → Some x ≡ Some y → x ≡ y
some_is x y h = cc

pub same_head : {A : Type 0} (x y : A) (xs ys : List A) → x ∷ xs ≡ y ∷ ys → x ≡ y
same_head x y xs ys h = cc

pub same_tail : {A : Type 0} (x y : A) (xs ys : List A) → x ∷ xs ≡ y ∷ ys → xs ≡ ys
same_tail x y xs ys h = cc

at_front : {A : Type 0} (xs : List A) (d : ℕ) (x : A) (rest : List A) → drop d xs ≡ x ∷ rest
    → (slice_get xs d ≡ Some x) × (drop (suc d) xs ≡ rest)
at_front [] zero x rest e = absurd (cc)
at_front [] (suc d) x rest e = absurd (cc)
at_front (y ∷ xs) zero x rest e = (ap Some (same_head y x xs rest e), same_tail y x xs rest e)
at_front (y ∷ xs) (suc d) x rest e = at_front xs d x rest e

one_more : (d : ℕ) → d + 1 ≡ suc d
one_more d = omega arith

-- the item at the front of what is left, and what is left after it
at_drop : {A : Type 0} (xs : List A) (d : ℕ) (x : A) (rest : List A) → drop d xs ≡ x ∷ rest
    → (slice_get xs d ≡ Some x) × (drop (d + 1) xs ≡ rest)
at_drop xs d x rest e =
    let both = at_front xs d x rest e in
    (both.0, ap (λ n. drop n xs) (one_more d) ∙ both.1)

all_at : {A : Type 0} (P : A → Type 0) (xs : List A) → AllByRecursion P xs → (i : ℕ) (x : A)
    → slice_get xs i ≡ Some x → P x
all_at P [] h i x e = absurd (cc)
all_at P (y ∷ xs) h zero x e = subst P (some_is y x e) h.0
all_at P (y ∷ xs) h (suc i) x e = all_at P xs h.1 i x e

-- what is so of each name's meaning is so of what is found
found_is : (Q : Named → Type 0) (ns : Names) → AllByRecursion (λ x. Q x.1) ns → (name : List ℕ)
    (n : Named) → find ns name ≡ Some n → Q n
found_is Q [] all name n e = absurd (cc)
found_is Q (x ∷ ns) all name n e =
    by_test (bytes_eq x.0 name) e (λ h. found_is Q ns all.1 name n h)
  where
    by_test : (b : Bool) → (if b then Some x.1 else find ns name) ≡ Some n
        → (find ns name ≡ Some n → Q n) → Q n
    by_test true h go = subst Q (some_is x.1 n h) all.0
    by_test false h go = go h

-- ---- counts

-- how many pass
abbrev passing : {A : Type 0} → (A → Bool) → List A → ℕ
passing p [] = 0
passing p (x ∷ xs) = cond (p x) (1 + passing p xs) (passing p xs)

passing_is : {A : Type 0} (p : A → Bool) (xs : List A) → passing p xs ≡ count_by p xs
passing_is p xs = is_count_by (passing p) p refl (λ y ys. refl) xs

one_first : (b : Bool) (m n : ℕ) → m < n → cond b (1 + m) m < cond b (1 + n) n
one_first true m n h = omega (arith, h)
one_first false m n h = h

some_first : (b : Bool) (n : ℕ) → b ≡ true → 0 < cond b (1 + n) n
some_first true n h = omega arith
some_first false n h = absurd (cc)

-- fewer pass before one that passes than pass in all
fewer_before : {A : Type 0} (p : A → Bool) (xs : List A) (i : ℕ) (x : A)
    → slice_get xs i ≡ Some x → p x ≡ true → passing p (take i xs) < passing p xs
fewer_before p [] i x g h = absurd (cc)
fewer_before p (y ∷ xs) zero x g h =
    some_first (p y) (passing p xs) (ap p (some_is y x g) ∙ h)
fewer_before p (y ∷ xs) (suc i) x g h =
    one_first (p y) (passing p (take i xs)) (passing p xs) (fewer_before p xs i x g h)

-- of what these things say, as many pass as are named
module _ {D H : Type 0} (head : D → Option H) (p : H → Bool) (name : D → List ℕ) where
  abbrev name_passing : D → Option (List ℕ)
  name_passing x = option_map_or (λ h. if p h then Some (name x) else None) (head x) None

  as_many : (xs : List D) → length (filter_map name_passing xs) ≡ passing p (filter_map head xs)
  as_many [] = refl
  as_many (x ∷ xs) = by_head (head x) (as_many xs)
    where
      by_test : (b : Bool) → length (filter_map name_passing xs) ≡ passing p (filter_map head xs)
          → length (cons_option (if b then Some (name x) else None) (filter_map name_passing xs))
          ≡ cond b (1 + passing p (filter_map head xs)) (passing p (filter_map head xs))
      by_test true e = omega (arith, e)
      by_test false e = e

      by_head : (o : Option H)
          → length (filter_map name_passing xs) ≡ passing p (filter_map head xs)
          → length (cons_option (option_map_or (λ h. if p h then Some (name x) else None) o None)
          (filter_map name_passing xs)) ≡ passing p (cons_option o (filter_map head xs))
      by_head None e = e
      by_head (Some h) e = by_test (p h) e

-- ---- domains

not_abstract : {X : Type 0} (d : Domain) (a : Domain-F Domain) (n : ℕ) → out-Domain d ≡ a
    → abstract_level a ≡ None → abstract_number d ≡ Some n → X
not_abstract d a n is none h =
    some_or_none (abstract_level a) n none (ap (λ z. abstract_level z) (sym is) ∙ h)

out-Truth : out-Domain domains.Truth ≡ Domain-F.Truth
out-Truth = search (rules, the_lemmas)

out-Int : out-Domain domains.Int ≡ Domain-F.Int
out-Int = search (rules, the_lemmas)

out-Nat : out-Domain domains.Nat ≡ Domain-F.Nat
out-Nat = search (rules, the_lemmas)

out-Chars : out-Domain domains.Chars ≡ Domain-F.Chars
out-Chars = search (rules, the_lemmas)

out-Enum : (d : ℕ) → out-Domain (domains.Enum d) ≡ Domain-F.Enum d
out-Enum d = search (rules, the_lemmas)

out-Abstract : (d : ℕ) → out-Domain (domains.Abstract d) ≡ Domain-F.Abstract d
out-Abstract d = search (rules, the_lemmas)

out-Subset : (d : ℕ) → out-Domain (domains.Subset d) ≡ Domain-F.Subset d
out-Subset d = search (rules, the_lemmas)

out-Prod : (ds : List Domain) → out-Domain (domains.Prod ds) ≡ Domain-F.Prod ds
out-Prod ds = search (rules, the_lemmas)

out-Seq : (d : Domain) → out-Domain (domains.Seq d) ≡ Domain-F.Seq d
out-Seq d = search (rules, the_lemmas)

out-Power : (d : Domain) → out-Domain (domains.Power d) ≡ Domain-F.Power d
out-Power d = search (rules, the_lemmas)

-- a name that stands for an abstract domain
named_abstract : (o : Option Named) (n : ℕ) → abstract_number (or_truth (domain_named o)) ≡ Some n
    → o ≡ Some (named.Abstract n)
named_abstract (Some (named.Abstract d)) n h =
    ap (λ k. Some (named.Abstract k))
    (some_is d n (ap (λ z. abstract_level z) (sym (out-Abstract d)) ∙ h))
named_abstract None n h = not_abstract domains.Truth Domain-F.Truth n out-Truth refl h
named_abstract (Some (named.Enum d)) n h =
    not_abstract (domains.Enum d) (Domain-F.Enum d) n (out-Enum d) refl h
named_abstract (Some (named.Subset d)) n h =
    not_abstract (domains.Subset d) (Domain-F.Subset d) n (out-Subset d) refl h
named_abstract (Some (named.Literal d i)) n h =
    not_abstract domains.Truth Domain-F.Truth n out-Truth refl h
named_abstract (Some (named.Function f)) n h =
    not_abstract domains.Truth Domain-F.Truth n out-Truth refl h
named_abstract (Some (named.Macro m)) n h =
    not_abstract domains.Truth Domain-F.Truth n out-Truth refl h
named_abstract (Some named.Main) n h =
    not_abstract domains.Truth Domain-F.Truth n out-Truth refl h

module _ (names : Names) where
  abbrev NamesAbstract : ℕ → Type 0
  NamesAbstract n = (name : List ℕ) × (find names name ≡ Some (named.Abstract n))

  domain_of-out : (d : DomainTree) → domain_of names d
      ≡ domain_level names (map-DomainTree DomainTree Domain (domain_of names) (out-DomainTree d))
  unfolding domain_of
  domain_of-out d = fold_out-DomainTree Domain (domain_level names) d

  by_level : (a : DomainTree-F DomainTree) (n : ℕ)
      → abstract_number (domain_level names (map-DomainTree DomainTree Domain (domain_of names) a))
      ≡ Some n → NamesAbstract n
  by_level (DomainTree-F.Truth span) n h =
      not_abstract domains.Truth Domain-F.Truth n out-Truth refl h
  by_level (DomainTree-F.Int span) n h = not_abstract domains.Int Domain-F.Int n out-Int refl h
  by_level (DomainTree-F.Nat span) n h = not_abstract domains.Nat Domain-F.Nat n out-Nat refl h
  by_level (DomainTree-F.Chars span) n h =
      not_abstract domains.Chars Domain-F.Chars n out-Chars refl h
  by_level (DomainTree-F.Named name span) n h =
      (text_of name, named_abstract (find names (text_of name)) n h)
  by_level (DomainTree-F.Prod first second others span) n h =
      let ds = domain_of names first ∷ domain_of names second ∷ map (domain_of names) others in
      not_abstract (domains.Prod ds) (Domain-F.Prod ds) n (out-Prod ds) refl h
  by_level (DomainTree-F.Seq item span) n h =
      let d = domain_of names item in
      not_abstract (domains.Seq d) (Domain-F.Seq d) n (out-Seq d) refl h
  by_level (DomainTree-F.Powerset item span) n h =
      let d = domain_of names item in
      not_abstract (domains.Power d) (Domain-F.Power d) n (out-Power d) refl h

  -- where a tree spells an abstract domain, a name stands for it
  abstract_from : (d : DomainTree) (n : ℕ) → abstract_number (domain_of names d) ≡ Some n
      → NamesAbstract n
  abstract_from d n h =
      by_level (out-DomainTree d) n (ap abstract_number (sym (domain_of-out d)) ∙ h)

  -- ---- functions

  -- a tree spells the codomain
  abbrev IsSpelled : Header → Type 0
  IsSpelled h = (d : DomainTree) × (h.result ≡ domain_of names d)

  header_spelled : (k : FunctionKind) (first : DomainTree) (next : Option DomainTree)
      → IsSpelled (header names k first next)
  header_spelled k first None = (first, refl)
  header_spelled k first (Some next) = (next, refl)

  constant_spelled : (b : Bool) (h : Header) → IsSpelled h → IsSpelled (with_constant b h)
  constant_spelled true h s = s
  constant_spelled false h s = s

  headers_spelled : (all : List DefTree) (ds : List DeclTree)
      → AllByRecursion IsSpelled (headers all names ds)
  headers_spelled all [] = tt
  headers_spelled all (decls.Enum name first others span ∷ rest) = headers_spelled all rest
  headers_spelled all (decls.Abstract name span ∷ rest) = headers_spelled all rest
  headers_spelled all (decls.Subset name base span ∷ rest) = headers_spelled all rest
  headers_spelled all (decls.Defined word name first next span ∷ rest) =
      let h = header names (defined_kind word) first next in (
        constant_spelled (is_constant all name h) h
            (header_spelled (defined_kind word) first next),
        headers_spelled all rest,
      )
  headers_spelled all (decls.Dynamic word name first next span ∷ rest) =
      (header_spelled (dynamic_kind word) first next, headers_spelled all rest)

-- ---- names

abbrev info_of : List ℕ → DomainKind → DomainInfo
info_of name k = record { name = name; kind = k }

-- the literal with this index, or the constant, is a named member
named_by : (domains : List DomainInfo) (d i : ℕ) (info : DomainInfo)
    → slice_get domains d ≡ Some info
    → (has_literal info.kind i || nat_lt i (constants_of info.kind)) ≡ true
    → is_named domains d i ≡ true
named_by domains d i info g h =
    ap (λ o. option_map_or (λ (z : DomainInfo). has_literal z.kind i
    || nat_lt i (constants_of z.kind)) o false) g ∙ h

abstract_by : (domains : List DomainInfo) (d : ℕ) (info : DomainInfo)
    → slice_get domains d ≡ Some info → is_abstract_kind info.kind ≡ true
    → is_abstract domains d ≡ true
abstract_by domains d info g h =
    ap (λ (o : Option DomainInfo). elim o as (λ _. Bool)
    [ None ↦ false | Some z ↦ is_abstract_kind z.kind ]) g ∙ h

literals_right : (domains : List DomainInfo) (d : ℕ) (name : List ℕ) (texts : List (List ℕ))
    (Q : Named → Type 0) → ((i : ℕ) → is_named domains d i ≡ true → Q (named.Literal d i))
    → slice_get domains d ≡ Some (info_of name (kind.Enum texts)) → (i : ℕ) (ts : List Token)
    → i + length ts ≡ length texts → AllByRecursion (λ x. Q x.1) (literals_from d i ts)
literals_right domains d name texts Q so g i [] e = tt
literals_right domains d name texts Q so g i (t ∷ ts) e = (
  so i (named_by domains d i (info_of name (kind.Enum texts)) g
      (or_left (nat_lt i (length texts)) (nat_lt i 0)
      (lt-ltb i (length texts) (omega (arith, e))))),
  literals_right domains d name texts Q so g (i + 1) ts (omega (arith, e)),
)

module _ (defs : List DefTree) (names : Names) (all : List DeclTree) (infos : List DomainInfo) where
  abbrev IsOfAbstract : ℕ → Type 0
  IsOfAbstract d = (name : List ℕ) × (slice_get infos d
      ≡ Some (info_of name (kind.Abstract (constant_names defs names all d))))

  -- a literal is a named member, and an abstract domain has its constants
  abbrev IsRight : Named → Type 0
  IsRight (named.Literal d i) = is_named infos d i ≡ true
  IsRight (named.Abstract d) = IsOfAbstract d
  IsRight (named.Enum d) = Unit {0}
  IsRight (named.Subset d) = Unit {0}
  IsRight (named.Function f) = Unit {0}
  IsRight (named.Macro m) = Unit {0}
  IsRight named.Main = Unit {0}

  abbrev AreRight : Names → Type 0
  AreRight ns = AllByRecursion (λ x. IsRight x.1) ns

  decls_right : (d f : ℕ) (ds : List DeclTree) → drop d infos ≡ infos_from defs names all d ds
      → AreRight (decl_names d f ds)
  decls_right d f [] e = tt
  decls_right d f (decls.Enum name first others span ∷ rest) e =
      let texts = map text_of (first ∷ others) in
      let at = at_drop infos d (info_of (text_of name) (kind.Enum texts))
      (infos_from defs names all (d + 1) rest) e in (
        tt,
        all_append (λ x. IsRight x.1) (literals_from d 0 (first ∷ others))
            (decl_names (d + 1) f rest)
            (literals_right infos d (text_of name) texts IsRight (λ i h. h) at.0 0
            (first ∷ others) (counted first others))
            (decls_right (d + 1) f rest at.1),
      )
    where
      counted : (first : Token) (others : List Token)
          → 0 + length (first ∷ others) ≡ length (map text_of (first ∷ others))
      counted first others =
          let e = length-map (first ∷ others) text_of in omega (arith, e)
  decls_right d f (decls.Abstract name span ∷ rest) e =
      let at = at_drop infos d
      (info_of (text_of name) (kind.Abstract (constant_names defs names all d)))
      (infos_from defs names all (d + 1) rest) e in
      ((text_of name, at.0), decls_right (d + 1) f rest at.1)
  decls_right d f (decls.Subset name base span ∷ rest) e =
      let at = at_drop infos d
      (info_of (text_of name) (kind.Subset (ints_of (text_of name) defs)))
      (infos_from defs names all (d + 1) rest) e in
      (tt, decls_right (d + 1) f rest at.1)
  decls_right d f (decls.Defined word name first next span ∷ rest) e =
      (tt, decls_right d (f + 1) rest e)
  decls_right d f (decls.Dynamic word name first next span ∷ rest) e =
      (tt, decls_right d (f + 1) rest e)

  macros_right : (m : ℕ) (ds : List DefTree) → AreRight (macro_names m ds)
  macros_right m [] = tt
  macros_right m (def.Rule name params body span ∷ rest) = (tt, macros_right (m + 1) rest)
  macros_right m (def.Interval name low high span ∷ rest) = macros_right m rest
  macros_right m (def.Integers name first others span ∷ rest) = macros_right m rest
  macros_right m (def.Function name params term span ∷ rest) = macros_right m rest
  macros_right m (def.Invariant name first others term span ∷ rest) = macros_right m rest

  -- a constant of the domain has fewer before it than there are
  constant_right : (f d : ℕ) (h : Header) → slice_get (headers defs names all) f ≡ Some h
      → is_constant_of d h ≡ true → IsOfAbstract d
      → is_named infos d (count_by (is_constant_of d) (take f (headers defs names all))) ≡ true
  constant_right f d h g constant of =
      let hs = headers defs names all in
      let texts = constant_names defs names all d in
      let before = count_by (is_constant_of d) (take f hs) in
      let fewer = fewer_before (is_constant_of d) hs f h g constant in
      let many = as_many (declared_header defs names) (is_constant_of d) declared_name all in
      let is = passing_is (is_constant_of d) (take f hs) in
      named_by infos d before (info_of of.0 (kind.Abstract texts)) of.1
      (or_right false (nat_lt before (length texts))
      (lt-ltb before (length texts) (subst (λ n. n < length texts) is
      (subst (λ n. passing (is_constant_of d) (take f hs) < n) (sym many) fewer))))

-- ---- texts

same_number : (d : ℕ) → (true && (d == d)) ≡ true
same_number d = eq-eqb d d refl

constant_is : (d : ℕ) (h : Header) → h.kind ≡ kinds.Constant → abstract_number h.result ≡ Some d
    → is_constant_of d h ≡ true
constant_is d h k a =
    (λ i. is_constant_kind (k i) && option_map_or (λ e. e == d) (a i) false) ∙ same_number d

module _ (tree : ModelTree) where
  abbrev text_infos : List DomainInfo
  text_infos = infos_from tree.defs (names_of tree) tree.decls 0 tree.decls

  abbrev Right : Named → Type 0
  Right = IsRight tree.defs (names_of tree) tree.decls text_infos

  names_right : AllByRecursion (λ x. Right x.1) (names_of tree)
  names_right =
      let ds = decl_names 0 0 tree.decls in
      let ms = macro_names 0 tree.defs in
      all_append (λ x. Right x.1) (ds ++ ms) (named_as tree.rule_name named.Main ∷ [])
      (all_append (λ x. Right x.1) ds ms
      (decls_right tree.defs (names_of tree) tree.decls text_infos 0 0 tree.decls refl)
      (macros_right tree.defs (names_of tree) tree.decls text_infos 0 tree.defs))
      (tt, tt)

  found_right : (name : List ℕ) (n : Named) → find (names_of tree) name ≡ Some n → Right n
  found_right name n e = found_is Right (names_of tree) names_right name n e

  constant_found : (f d : ℕ) (h : Header) → slice_get (scope_of tree).functions f ≡ Some h
      → h.kind ≡ kinds.Constant → abstract_number h.result ≡ Some d
      → is_named text_infos d (count_by (is_constant_of d) (take f (scope_of tree).functions))
      ≡ true
  constant_found f d h g k a =
      let names = names_of tree in
      let spelled = all_at (IsSpelled names) (headers tree.defs names tree.decls)
      (headers_spelled names tree.defs tree.decls) f h g in
      let found = abstract_from names spelled.0 d (ap abstract_number (sym spelled.1) ∙ a) in
      constant_right tree.defs names tree.decls text_infos f d h g (constant_is d h k a)
      (found_right found.0 (named.Abstract d) found.1)

  abstract_found : (name : List ℕ) (d : ℕ) → find (names_of tree) name ≡ Some (named.Abstract d)
      → is_abstract text_infos d ≡ true
  abstract_found name d e =
      let of = found_right name (named.Abstract d) e in
      abstract_by text_infos d
      (info_of of.0 (kind.Abstract (constant_names tree.defs (names_of tree) tree.decls d)))
      of.1 refl

  pub names_members : NamesMembers (scope_of tree)
  names_members = record {
    literals = λ name d i e. found_right name (named.Literal d i) e;
    constants = constant_found;
    abstracts = abstract_found;
  }
