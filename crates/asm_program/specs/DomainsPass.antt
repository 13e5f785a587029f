-- The second pass over a text: each domain that is named is declared, and each declared subset has
-- its integers.
use Rattle.std.specs.Prelude.{ℕ, ◌+◌, ◌==◌, Bool, true, false, not, ◌&&◌, ◌||◌, if◌then◌else◌, nat_le, nat_lt, ℤ, pos, ◌+ℤ◌, ◌-ℤ◌, neg_ℤ, int_lt, unsigned_abs, Option, Some, None, List, [], ◌∷◌, ◌++◌, map, length, codes}
use Rattle.std.specs.Option.{option_map_or}
use Rattle.std.specs.List.{list_any}
use Rattle.std.specs.Ordering.{int_eq}
use Rattle.std.specs.Str.{bytes_eq}
use Rattle.asm_value.specs.Domain.{is_natural}
use Rattle.asm_syntax.specs.declared.token.Span.{Span}
use Rattle.asm_syntax.specs.declared.token.Token.{Token}
use Rattle.asm_syntax.specs.declared.token.TokenKind.{TokenKind}
use Rattle.asm_syntax.specs.declared.token.TokenKind.TheVariants.{Number}
use Rattle.asm_syntax.specs.declared.tree.IntTree.{IntTree}
use Rattle.asm_syntax.specs.declared.tree.DeclTree.{DeclTree}
use Rattle.asm_syntax.specs.declared.tree.DeclTree.TheVariants as decls
use Rattle.asm_syntax.specs.Marks.{text_of}
use Rattle.asm_program.specs.declared.named.Named.{Named}
use Rattle.asm_program.specs.declared.named.Named.TheVariants as named
use Rattle.asm_program.specs.declared.type_refusal.Limited.TheVariants.{Members}
use Rattle.asm_program.specs.declared.type_refusal.TypeRefusal.{TypeRefusal}
use Rattle.asm_program.specs.declared.type_refusal.TypeRefusal.TheVariants.{Duplicate, Unknown, Mismatch, Missing, Limit}
use Rattle.asm_program.specs.Items.{Item, Items, Counts, Declares, DeclaresInvariant, Exceeds, Repeats, NamesDomain, NeedsIntegers, GivesInterval, GivesIntegers, NamesFunction, NamesMacro}
use Rattle.asm_program.specs.Signatures.{Names, find, domain_named}

-- ---- written integers

abbrev pub number_in : TokenKind → ℤ
number_in (Number n) = n
number_in _ = pos 0

abbrev pub int_of : IntTree → ℤ
int_of i = if i.is_negative then neg_ℤ (number_in i.number.kind) else number_in i.number.kind

-- whether the declared subset is one of Natural
abbrev pub of_natural : List DeclTree → List ℕ → Bool
of_natural [] name = false
of_natural (decls.Subset t base span ∷ rest) name =
    if bytes_eq (text_of t) name then bytes_eq base (codes "Natural") else of_natural rest name
of_natural (_ ∷ rest) name = of_natural rest name

abbrev pub mismatched : Bool → IntTree → List TypeRefusal
mismatched natural i = if natural && not (is_natural (int_of i)) then Mismatch i.span ∷ [] else []

-- how many integers there are from one to another
abbrev pub interval_size : ℤ → ℤ → ℕ
interval_size from to = if int_lt to from then 0 else unsigned_abs (to -ℤ from) + 1

abbrev pub too_many : ℕ → IntTree → List TypeRefusal
too_many n i = if nat_lt 4096 n then Limit Members n i.span ∷ [] else []

abbrev pub interval_refused : Bool → IntTree → IntTree → List TypeRefusal
interval_refused natural from to =
    mismatched natural from ++ too_many (interval_size (int_of from) (int_of to)) to
    ++ mismatched natural to

abbrev pub is_among : ℤ → List ℤ → Bool
is_among n ns = list_any (int_eq n) ns

-- the 4,097th different integer is the first past the limit
abbrev pub one_more : List ℤ → IntTree → List TypeRefusal
one_more seen i =
    if not (is_among (int_of i) seen) && (length seen == 4096) then Limit Members 4097 i.span ∷ []
    else []

abbrev pub with_int : List ℤ → ℤ → List ℤ
with_int seen n = if is_among n seen then seen else n ∷ seen

-- integers after these different ones
abbrev pub integers_refused : Bool → List ℤ → List IntTree → List TypeRefusal
integers_refused natural seen [] = []
integers_refused natural seen (i ∷ is) =
    one_more seen i ++ mismatched natural i
    ++ integers_refused natural (with_int seen (int_of i)) is

-- ---- the pass

abbrev pub is_subset : Option Named → Bool
is_subset (Some (named.Subset d)) = true
is_subset _ = false

-- the subsets that have integers given
abbrev pub given : Items → List (List ℕ)
given [] = []
given (GivesInterval t from to ∷ items) = text_of t ∷ given items
given (GivesIntegers t is ∷ items) = text_of t ∷ given items
given (_ ∷ items) = given items

module _ (decls : List DeclTree) (names : Names) (all : List (List ℕ)) where
  abbrev pub unknown_domain : Token → List TypeRefusal
  unknown_domain t =
      option_map_or (λ d. []) (domain_named (find names (text_of t)))
      (Unknown (text_of t) t.span ∷ [])

  abbrev pub missing : Token → Span → List TypeRefusal
  missing t span =
      if list_any (bytes_eq (text_of t)) all then [] else Missing (text_of t) span ∷ []

  -- integers of a subset where these subsets have theirs already
  abbrev pub given_refused : List (List ℕ) → Token → (Bool → List TypeRefusal) → List TypeRefusal
  given_refused done t refused =
      if list_any (bytes_eq (text_of t)) done then Duplicate (text_of t) t.span ∷ []
      else (if is_subset (find names (text_of t)) then refused (of_natural decls (text_of t))
      else Unknown (text_of t) t.span ∷ [])

  abbrev pub domains_refused_from : List (List ℕ) → Items → List TypeRefusal
  domains_refused_from done [] = []
  domains_refused_from done (NamesDomain t ∷ items) =
      unknown_domain t ++ domains_refused_from done items
  domains_refused_from done (NeedsIntegers t span ∷ items) =
      missing t span ++ domains_refused_from done items
  domains_refused_from done (GivesInterval t from to ∷ items) =
      given_refused done t (λ natural. interval_refused natural from to)
      ++ domains_refused_from (text_of t ∷ done) items
  domains_refused_from done (GivesIntegers t is ∷ items) =
      given_refused done t (λ natural. integers_refused natural [] is)
      ++ domains_refused_from (text_of t ∷ done) items
  domains_refused_from done (_ ∷ items) = domains_refused_from done items

-- all that this pass refuses, in text order
abbrev pub domains_refused : List DeclTree → Names → Items → List TypeRefusal
domains_refused decls names items = domains_refused_from decls names (given items) [] items
