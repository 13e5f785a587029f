-- The scope of a text has each function and macro rule of which it has the name, and so has that of
-- a program.
use Rattle.std.proofs.Common.{◌≡◌, ℕ, suc, ◌+◌, ◌<◌, Bool, true, false, if◌then◌else◌}
use Rattle.std.proofs.Common.{Some, List, [], ◌∷◌, ◌++◌, map, length, slice_get, subst, arith}
use Rattle.std.specs.Prelude.{get_or}
use Rattle.std.specs.List.{AllByRecursion, filter_map}
use Rattle.std.specs.Str.{bytes_eq}
use Rattle.std.proofs.lemmas.Option.{slice_get-get_or}
use Rattle.asm_value.specs.declared.domain.Domain.{Domain}
use Rattle.asm_value.specs.declared.domain.DomainInfo.{DomainInfo}
use Rattle.asm_value.specs.declared.domain.DomainKind.{DomainKind}
use Rattle.asm_value.specs.declared.domain.DomainKind.TheVariants as kind
use Rattle.asm_value.proofs.RangeLaws.{all_append}
use Rattle.asm_syntax.specs.declared.token.Token.{Token}
use Rattle.asm_syntax.specs.declared.tree.DeclTree.{DeclTree}
use Rattle.asm_syntax.specs.declared.tree.DeclTree.TheVariants as decls
use Rattle.asm_syntax.specs.declared.tree.DefTree.{DefTree}
use Rattle.asm_syntax.specs.declared.tree.DefTree.TheVariants as defs
use Rattle.asm_syntax.specs.declared.tree.ModelTree.{ModelTree}
use Rattle.asm_program.specs.declared.named.Named.{Named}
use Rattle.asm_program.specs.declared.named.Named.TheVariants as named
use Rattle.asm_program.specs.declared.program.FunctionInfo.{FunctionInfo}
use Rattle.asm_program.specs.declared.program.Program.{Program}
use Rattle.asm_program.specs.Signatures as sign
use Rattle.asm_program.specs.Signatures.{Names, Header, find, decl_names, macro_names, names_of}
use Rattle.asm_program.specs.TypedTerms.{Scope}
use Rattle.asm_program.specs.TypedModels.{headers, macro_params, scope_of}
use Rattle.asm_program.specs.TypedAlone as alone
use Rattle.asm_program.specs.TypedAlone.{info_names, domain_names, function_names, header_of}
use Rattle.asm_program.specs.TypedAlone.{scope_of_program}
use Rattle.asm_program.specs.TypingLaws.{IsWhole}

-- what is so of each name's meaning is so of what is found
found_is : (Q : Named → Type 0) (ns : Names) → AllByRecursion (λ x. Q x.1) ns → (name : List ℕ)
    (n : Named) → find ns name ≡ Some n → Q n
found_is Q [] all name n e = absurd (cc)
found_is Q (x ∷ ns) all name n e =
    by_test (bytes_eq x.0 name) e (λ h. found_is Q ns all.1 name n h)
  where
    same : (a b : Named) → Some a ≡ Some b → a ≡ b
    same a b h = cc

    by_test : (b : Bool) → (if b then Some x.1 else find ns name) ≡ Some n
        → (find ns name ≡ Some n → Q n) → Q n
    by_test true h go = subst Q (same x.1 n h) all.0
    by_test false h go = go h

-- the numbers of functions and of macro rules are below these
abbrev IsBelow : ℕ → ℕ → Named → Type 0
IsBelow functions macros (named.Function f) = f < functions
IsBelow functions macros (named.Macro m) = m < macros
IsBelow functions macros (named.Enum d) = Unit {0}
IsBelow functions macros (named.Abstract d) = Unit {0}
IsBelow functions macros (named.Subset d) = Unit {0}
IsBelow functions macros (named.Literal d i) = Unit {0}
IsBelow functions macros named.Main = Unit {0}

abbrev AreBelow : ℕ → ℕ → Names → Type 0
AreBelow functions macros ns = AllByRecursion (λ x. IsBelow functions macros x.1) ns

below_append : (functions macros : ℕ) (ns ms : Names) → AreBelow functions macros ns
    → AreBelow functions macros ms → AreBelow functions macros (ns ++ ms)
below_append functions macros ns ms h k =
    all_append (λ x. IsBelow functions macros x.1) ns ms h k

here : (f n len : ℕ) → f + suc len ≡ n → f < n
here f n len e = omega (arith, e)

later : (f n len : ℕ) → f + suc len ≡ n → f + 1 + len ≡ n
later f n len e = omega (arith, e)

there : {A : Type 0} (xs : List A) (i : ℕ) → i < length xs → (x : A) × (slice_get xs i ≡ Some x)
there [] i h = absurd (omega (arith, h))
there (x ∷ xs) i h = (get_or (x ∷ xs) i x, slice_get-get_or (x ∷ xs) i x h)

-- ---- scopes

whole_by : (scope : Scope) → AreBelow (length scope.functions) (length scope.macros) scope.names
    → IsWhole scope
whole_by scope below = record {
  functions = λ name f e. there scope.functions f (found_is
      (IsBelow (length scope.functions) (length scope.macros)) scope.names below name
      (named.Function f) e);
  macros = λ name m e. there scope.macros m (found_is
      (IsBelow (length scope.functions) (length scope.macros)) scope.names below name
      (named.Macro m) e);
}

-- ---- texts

literals_below : (functions macros d i : ℕ) (ts : List Token)
    → AreBelow functions macros (sign.literals_from d i ts)
literals_below functions macros d i [] = tt
literals_below functions macros d i (t ∷ ts) = (tt, literals_below functions macros d (i + 1) ts)

module _ (all : List DefTree) (names : Names) where
  decls_below : (functions macros d f : ℕ) (ds : List DeclTree)
      → f + length (headers all names ds) ≡ functions
      → AreBelow functions macros (decl_names d f ds)
  decls_below functions macros d f [] e = tt
  decls_below functions macros d f (decls.Enum name first others span ∷ rest) e = (
    tt,
    below_append functions macros (sign.literals_from d 0 (first ∷ others))
        (decl_names (d + 1) f rest)
        (literals_below functions macros d 0 (first ∷ others))
        (decls_below functions macros (d + 1) f rest e),
  )
  decls_below functions macros d f (decls.Abstract name span ∷ rest) e =
      (tt, decls_below functions macros (d + 1) f rest e)
  decls_below functions macros d f (decls.Subset name base span ∷ rest) e =
      (tt, decls_below functions macros (d + 1) f rest e)
  decls_below functions macros d f (decls.Defined kind name first next span ∷ rest) e = (
    here f functions (length (headers all names rest)) e,
    decls_below functions macros d (f + 1) rest
        (later f functions (length (headers all names rest)) e),
  )
  decls_below functions macros d f (decls.Dynamic kind name first next span ∷ rest) e = (
    here f functions (length (headers all names rest)) e,
    decls_below functions macros d (f + 1) rest
        (later f functions (length (headers all names rest)) e),
  )

  abbrev params_of : List DefTree → List (List Domain)
  params_of ds = filter_map (macro_params all names) ds

  macros_below : (functions macros m : ℕ) (ds : List DefTree)
      → m + length (params_of ds) ≡ macros
      → AreBelow functions macros (macro_names m ds)
  macros_below functions macros m [] e = tt
  macros_below functions macros m (defs.Rule name params body span ∷ rest) e = (
    here m macros (length (params_of rest)) e,
    macros_below functions macros (m + 1) rest
        (later m macros (length (params_of rest)) e),
  )
  macros_below functions macros m (defs.Interval name low high span ∷ rest) e =
      macros_below functions macros m rest e
  macros_below functions macros m (defs.Integers name first others span ∷ rest) e =
      macros_below functions macros m rest e
  macros_below functions macros m (defs.Function name params term span ∷ rest) e =
      macros_below functions macros m rest e
  macros_below functions macros m (defs.Invariant name first others term span ∷ rest) e =
      macros_below functions macros m rest e

from_zero : (n : ℕ) → 0 + n ≡ n
from_zero n = omega (arith)

pub scopes_of_texts_whole : (tree : ModelTree) → IsWhole (scope_of tree)
scopes_of_texts_whole tree =
    let scope = scope_of tree in
    let f = length scope.functions in
    let m = length scope.macros in
    whole_by scope (below_append f m (decl_names 0 0 tree.decls ++ macro_names 0 tree.defs)
    (sign.named_as tree.rule_name named.Main ∷ [])
    (below_append f m (decl_names 0 0 tree.decls) (macro_names 0 tree.defs)
    (decls_below tree.defs (names_of tree) f m 0 0 tree.decls (from_zero f))
    (macros_below tree.defs (names_of tree) f m 0 tree.defs (from_zero m)))
    (tt, tt))

-- ---- programs

literal_names_below : (functions macros d i : ℕ) (names : List (List ℕ))
    → AreBelow functions macros (alone.literals_from d i names)
literal_names_below functions macros d i [] = tt
literal_names_below functions macros d i (name ∷ names) =
    (tt, literal_names_below functions macros d (i + 1) names)

info_below : (functions macros d : ℕ) (name : List ℕ) (k : DomainKind)
    → AreBelow functions macros (info_names d name k)
info_below functions macros d name (kind.Enum names) =
    (tt, literal_names_below functions macros d 0 names)
info_below functions macros d name (kind.Abstract names) = (tt, tt)
info_below functions macros d name (kind.Subset numbers) = (tt, tt)

domains_below : (functions macros d : ℕ) (infos : List DomainInfo)
    → AreBelow functions macros (domain_names d infos)
domains_below functions macros d [] = tt
domains_below functions macros d (info ∷ infos) =
    below_append functions macros (info_names d info.name info.kind) (domain_names (d + 1) infos)
    (info_below functions macros d info.name info.kind)
    (domains_below functions macros (d + 1) infos)

functions_below : (functions macros f : ℕ) (infos : List FunctionInfo)
    → f + length (map header_of infos) ≡ functions
    → AreBelow functions macros (function_names f infos)
functions_below functions macros f [] e = tt
functions_below functions macros f (info ∷ infos) e = (
  here f functions (length (map header_of infos)) e,
  functions_below functions macros (f + 1) infos
      (later f functions (length (map header_of infos)) e),
)

pub scopes_of_programs_whole : (p : Program) → IsWhole (scope_of_program p)
scopes_of_programs_whole p =
    let scope = scope_of_program p in
    let f = length scope.functions in
    whole_by scope (below_append f 0 (domain_names 0 p.domains) (function_names 0 p.functions)
    (domains_below f 0 0 p.domains)
    (functions_below f 0 0 p.functions (from_zero f)))

pub ruleset whole_scopes = (scopes_of_texts_whole, scopes_of_programs_whole)
