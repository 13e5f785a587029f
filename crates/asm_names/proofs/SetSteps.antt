-- Names that a set hasn't yet.
use Rattle.std.proofs.Common.{◌≡◌, ℕ, Bool, true, false, not, List, [], ◌∷◌, Some, refl, sym, ap, ◌∙◌, if◌then◌else◌, bytes_eq}
use Rattle.std.specs.List.{list_any}
use Rattle.std.specs.Option.{option_map_or}
use Rattle.asm_syntax.specs.declared.token.Span.{Span}
use Rattle.asm_syntax.specs.declared.token.Token.{Token}
use Rattle.asm_syntax.specs.declared.tree.DeclTree.{DeclTree}
use Rattle.asm_syntax.specs.Marks.{text_of}
use Rattle.asm_program.specs.declared.named.Named.TheVariants as named
use Rattle.asm_program.specs.declared.type_refusal.TypeRefusal.TheVariants.{Duplicate, Unknown}
use Rattle.asm_program.specs.Signatures.{Names, Header, find}
use Rattle.asm_program.specs.NamesPass.{used}
use Rattle.asm_program.specs.DomainsPass.{is_subset}
use Rattle.asm_program.specs.FunctionsPass.{header_of}
use Rattle.asm_items.specs.Views.{seen_with}
use Rattle.asm_names.specs.Passes.{subset_refused, once_refused}

from_not : (b : Bool) → true ≡ not b → b ≡ false
from_not true e = absurd (cc e)
from_not false e = refl

pub seen-new : (name : List ℕ) (names : List (List ℕ)) → true ≡ not (list_any (bytes_eq name) names) → seen_with name names ≡ name ∷ names
unfolding seen_with
seen-new name names e = ap (λ (b : Bool). if b then names else name ∷ names) (from_not (list_any (bytes_eq name) names) e)

pub used-new : (name : List ℕ) (span : Span) (names : List (List ℕ)) → true ≡ not (list_any (bytes_eq name) names) → used name span names ≡ []
used-new name span names e = ap (λ (b : Bool). if b then Duplicate name span ∷ [] else []) (from_not (list_any (bytes_eq name) names) e)

pub subset-new : (ds : List DeclTree) (names : Names) (done : List (List ℕ)) (t : Token) (d : ℕ) → true ≡ not (list_any (bytes_eq (text_of t)) done)
    → Some (named.Subset d) ≡ find names (text_of t) → subset_refused ds names done t ≡ []
subset-new ds names done t d e f =
    ap (λ (b : Bool). if b then Duplicate (text_of t) t.span ∷ [] else (if is_subset (find names (text_of t)) then [] else Unknown (text_of t) t.span ∷ [])) (from_not (list_any (bytes_eq (text_of t)) done) e)
    ∙ ap (λ o. if is_subset o then [] else Unknown (text_of t) t.span ∷ []) (sym f)

pub once-new : (names : Names) (functions : List Header) (done : List (List ℕ)) (t : Token) (h : Header) → true ≡ not (list_any (bytes_eq (text_of t)) done)
    → header_of [] names functions t ≡ Some h → once_refused [] names functions done t ≡ []
once-new names functions done t h e f =
    ap (λ (b : Bool). if b then Duplicate (text_of t) t.span ∷ [] else option_map_or (λ (h : Header). []) (header_of [] names functions t) (Unknown (text_of t) t.span ∷ [])) (from_not (list_any (bytes_eq (text_of t)) done) e)
    ∙ ap (λ o. option_map_or (λ (h : Header). []) o (Unknown (text_of t) t.span ∷ [])) f

from_not_not : (b x : Bool) → b ≡ not x → not b ≡ false → true ≡ not x
from_not_not true x e f = e
from_not_not false x e f = absurd (cc f)

-- the same, where the answer was looked at the other way round
pub seen-told : (name : List ℕ) (names : List (List ℕ)) (b : Bool) → b ≡ not (list_any (bytes_eq name) names) → not b ≡ false → seen_with name names ≡ name ∷ names
seen-told name names b e f = seen-new name names (from_not_not b (list_any (bytes_eq name) names) e f)

pub used-told : (name : List ℕ) (span : Span) (names : List (List ℕ)) (b : Bool) → b ≡ not (list_any (bytes_eq name) names) → not b ≡ false → used name span names ≡ []
used-told name span names b e f = used-new name span names (from_not_not b (list_any (bytes_eq name) names) e f)

pub subset-told : (ds : List DeclTree) (names : Names) (done : List (List ℕ)) (t : Token) (d : ℕ) (b : Bool) → b ≡ not (list_any (bytes_eq (text_of t)) done) → not b ≡ false
    → Some (named.Subset d) ≡ find names (text_of t) → subset_refused ds names done t ≡ []
subset-told ds names done t d b e f g = subset-new ds names done t d (from_not_not b (list_any (bytes_eq (text_of t)) done) e f) g

pub once-told : (names : Names) (functions : List Header) (done : List (List ℕ)) (t : Token) (h : Header) (b : Bool) → b ≡ not (list_any (bytes_eq (text_of t)) done) → not b ≡ false
    → header_of [] names functions t ≡ Some h → once_refused [] names functions done t ≡ []
once-told names functions done t h b e f g = once-new names functions done t h (from_not_not b (list_any (bytes_eq (text_of t)) done) e f) g

pub ruleset set_steps = (seen-told, used-told)

pub ruleset subset_steps = (seen-told, subset-told)

pub ruleset once_steps = (seen-told, once-told)
