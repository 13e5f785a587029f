-- The refusals of a model, of which an import that isn't of the standard library is one: the first in the text, and only one.
use Rattle.std.proofs.Common.{◌≡◌, ◌≤◌, ◌+◌, ℕ, List, [], ◌∷◌, ◌++◌, length, true, false, ◌⊎◌, inl, inr, sym, refl, ap, ◌∙◌, subst, append_assoc, length-append, arith}
use Rattle.std.specs.Prelude.{Some, None}
use Rattle.std.proofs.lemmas.List.{append_cancel_left}
use Rattle.asm_grammar.specs.Parser.{Reply, Took, Refused, sees}
use Rattle.asm_grammar.proofs.Exact.{Ends}
use Rattle.asm_grammar.proofs.Fronts.{Fronts, two_fronts}
use Rattle.asm_grammar.proofs.Wider.{Wider}
use Rattle.asm_grammar.proofs.Whole.{AnswerIs}
use Rattle.asm_syntax.specs.declared.token.Token.{Token}
use Rattle.asm_syntax.specs.declared.tree.ModelTree.{ModelTree}
use Rattle.asm_syntax.specs.Marks.{text_of}
use Rattle.asm_syntax.specs.Models as g
use Rattle.asm_syntax.specs.Models.{Import}
use Rattle.asm_syntax.specs.Grammar.{model, free_model, last_part, SpellsModel}
use Rattle.asm_syntax.specs.Refusals.{Refusal, Unsupported, TooDeep, syntax_refusal, IsRefusedAt, IsForeign, IsModelRefusedAt, at_token, at_import, IsModelRefusal}
use Rattle.asm_parse_theory.specs.Models as r
use Rattle.asm_parse_theory.proofs.ModelFacts.{model_line}
use Rattle.asm_parse_theory.proofs.Whole.{fronts_within, wider_free, line_answer, line_complete, line_sound, line_unique, line_left, line_syntax, line_too_deep}
use Rattle.asm_parse_theory.proofs.OneRefusal.{one_refusal, not_both, refused_behind}
use Rattle.asm_parse_theory.proofs.Imports.{is_slash, complete_parts, read_parts}
use Rattle.asm_parse_theory.proofs.ForeignStep.{Answer}
use Rattle.asm_parse_theory.proofs.ForeignWalk.{FoundBy, is_none}
use Rattle.asm_parse_theory.proofs.Foreign.{first_foreign_is, foreign_found, spelled_none}

-- ---- what the refusal of an import says

ends_at : (b : List Token) → sees is_slash b ≡ false → Ends is_slash b
ends_at [] e = tt
ends_at (t ∷ b) e = e

import_split : (ts rest : List Token) (name : List ℕ) (f : IsForeign ts rest name) → ts ≡ (f.front ++ f.word ∷ f.list) ++ f.behind
import_split ts rest name f = f.split ∙ ap (λ z. f.front ++ f.word ∷ z) f.is_rest ∙ sym (append_assoc f.front (f.word ∷ f.list) f.behind)

-- its parts are some
parts_some : (given : Import) (list : List Token) → g.parts.Spells given list → 1 ≤ length list
parts_some given [] sp = absurd ((complete_parts false).nonempty refl given sp)
parts_some given (t ∷ list) sp = omega arith

import_longer : (ts rest : List Token) (name : List ℕ) (f : IsForeign ts rest name) → 1 + length f.behind ≤ length rest
import_longer ts rest name f =
    let some : 1 ≤ length f.list = parts_some f.given f.list f.lists in
    let long : length rest ≡ length f.list + length f.behind = ap length f.is_rest ∙ length-append f.list f.behind in
    omega arith

import_read : (ts rest : List Token) (name : List ℕ) (f : IsForeign ts rest name) → r.parts rest ≡ Took f.given f.behind
import_read ts rest name f = ap r.parts f.is_rest ∙ read_parts f.given f.list f.behind f.lists (ends_at f.behind f.whole)

abbrev given_or : Import → Reply Token Import → Import
given_or i (Took given rest) = given
given_or i (Refused x rest) = i

-- what stands there is the same
same_import : (ts rest rest' : List Token) (name name' : List ℕ) → rest ≡ rest' → IsForeign ts rest name → IsForeign ts rest' name' → name ≡ name'
same_import ts rest rest' name name' e f f' =
    let same : f.given ≡ f'.given =
    ap (λ z. given_or f.given z) (sym (import_read ts rest name f) ∙ ap r.parts e ∙ import_read ts rest' name' f') in
    f.named ∙ ap (λ z. text_of (last_part z)) same ∙ sym f'.named

-- ---- one place in a list

same_rest : (a b x y : List Token) → a ++ x ≡ b ++ y → length x ≡ length y → x ≡ y
same_rest a b x y e le = go (two_fronts a x b y e)
  where
    by_empty : (c u v : List Token) → u ≡ c ++ v → length u ≡ length v → u ≡ v
    by_empty [] u v e' le' = e'
    by_empty (t ∷ c) u v e' le' =
        let long : length u ≡ length (t ∷ c) + length v = ap length e' ∙ length-append (t ∷ c) v in absurd (omega arith)

    go : ((c : List Token) × (b ≡ a ++ c)) ⊎ ((c : List Token) × (a ≡ b ++ c) × (y ≡ c ++ x)) → x ≡ y
    go (inl (c, e')) =
        by_empty c x y (append_cancel_left a x (c ++ y) (e ∙ ap (λ z. z ++ y) e' ∙ append_assoc a c y)) le
    go (inr (c, e', e'')) = sym (by_empty c y x e'' (sym le))

abbrev rest_of : List Token → Answer → List Token
rest_of ts None = ts
rest_of ts (Some x) = x.1

found_none : (later : List Token) (o : Answer) → is_none o ≡ true → FoundBy later o → ⊥
found_none later o none found =
    let both : false ≡ true = ap is_none (sym found.2) ∙ none in absurd (cc both)

none_is : (o : Answer) → is_none o ≡ true → o ≡ None
none_is None e = refl
none_is (Some x) e = absurd (cc e)

fronts_model : Fronts model
unfolding model
fronts_model = fronts_within model_line

wider_model : Wider model free_model
unfolding model free_model
wider_model = wider_free model_line

pub model_answer : (ts : List Token) → AnswerIs model free_model ts (r.model 64 ts)
unfolding model free_model
model_answer = line_answer model_line

-- what is spelled is taken to the end
pub model_complete : (ts : List Token) (v : List Import × ModelTree) → model.Spells v ts → r.model 64 ts ≡ Took v []
unfolding model
model_complete = line_complete model_line

-- what is taken to the end is spelled
pub model_sound : (ts : List Token) (v : List Import × ModelTree) → r.model 64 ts ≡ Took v [] → model.Spells v ts
unfolding model
model_sound = line_sound model_line

-- at most one is spelled
pub model_unique : (ts : List Token) (v w : List Import × ModelTree) → model.Spells v ts → model.Spells w ts → v ≡ w
unfolding model
model_unique = line_unique model_line

-- ---- the first refusal

-- a token is refused behind an import
behind_import : (ts rest : List Token) (name : List ℕ) (f : IsForeign ts rest name) (why : Refusal) (later : List Token)
    → IsRefusedAt model free_model ts why later → 1 + length later ≤ length rest
behind_import ts rest name f why later t =
    let less = refused_behind fronts_model wider_model ts (f.front ++ f.word ∷ f.list) f.behind why later (import_split ts rest name f) f.begins t in
    let more = import_longer ts rest name f in
    omega arith

pub foreign_refusal : (ts : List Token) (given : Import) (rest : List Token) → r.first_foreign ts ≡ Some (given, rest)
    → IsModelRefusal ts (Unsupported (text_of (last_part given))) rest
foreign_refusal ts given rest e = record { refused = at_import there; first = go }
  where
    there : IsForeign ts rest (text_of (last_part given))
    there = first_foreign_is ts given rest e

    go : (other : Refusal) (later : List Token) → IsModelRefusedAt ts other later → length later ≤ length rest
    go other later (at_token t) = let less = behind_import ts rest (text_of (last_part given)) there other later t in omega arith
    go (Unsupported name) later (at_import f) =
        let found = foreign_found ts later name f in
        let same : found.1 ≡ rest = ap (λ z. rest_of rest z) (sym found.2 ∙ e) in
        subst (λ z. length later ≤ length z) same found.3

pub refusal_found : (ts : List Token) (why : Refusal) (rest : List Token) → r.first_foreign ts ≡ None → IsRefusedAt model free_model ts why rest
    → IsModelRefusal ts why rest
refusal_found ts why rest none t = record { refused = at_token t; first = go }
  where
    go : (other : Refusal) (later : List Token) → IsModelRefusedAt ts other later → length later ≤ length rest
    go other later (at_token t') =
        let same = one_refusal fronts_model wider_model ts other why later rest t' t in
        let long : length later ≡ length rest = ap length same.1 in
        omega arith
    go (Unsupported name) later (at_import f) = absurd (found_none later (r.first_foreign ts) (ap is_none none) (foreign_found ts later name f))

-- what the parser answers where no such import stands: a refusal at a token
pub left_refusal : (ts : List Token) (v : List Import × ModelTree) (t : Token) (rest : List Token) → r.first_foreign ts ≡ None
    → r.model 64 ts ≡ Took v (t ∷ rest) → IsModelRefusal ts (syntax_refusal (t ∷ rest)) (t ∷ rest)
unfolding model free_model
left_refusal ts v t rest none e = refusal_found ts (syntax_refusal (t ∷ rest)) (t ∷ rest) none (line_left model_line ts v t rest e)

pub found_syntax : (ts rest : List Token) → r.first_foreign ts ≡ None → r.model 64 ts ≡ Refused false rest
    → IsModelRefusal ts (syntax_refusal rest) rest
unfolding model free_model
found_syntax ts rest none e = refusal_found ts (syntax_refusal rest) rest none (line_syntax model_line ts rest e)

pub found_too_deep : (ts rest : List Token) → r.first_foreign ts ≡ None → r.model 64 ts ≡ Refused true rest → IsModelRefusal ts TooDeep rest
unfolding model free_model
found_too_deep ts rest none e = refusal_found ts TooDeep rest none (line_too_deep model_line ts rest e)

-- ---- a tree

pub tree_found : (ts : List Token) (imports : List Import) (tree : ModelTree) → r.first_foreign ts ≡ None → r.model 64 ts ≡ Took (imports, tree) []
    → SpellsModel tree ts
tree_found ts imports tree none took =
    let spelled = model_sound ts (imports, tree) took in
    record { imports = imports; spells = spelled; standard = sym (spelled_none imports tree ts spelled) ∙ ap is_none none }

pub tree_is_found : (ts : List Token) (tree : ModelTree) → SpellsModel tree ts
    → (r.first_foreign ts ≡ None) × ((imports : List Import) × (r.model 64 ts ≡ Took (imports, tree) []))
tree_is_found ts tree m = (
  none_is (r.first_foreign ts) (spelled_none m.imports tree ts m.spells ∙ m.standard),
  (m.imports, model_complete ts (m.imports, tree) m.spells),
)

pub one_tree : (ts : List Token) (tree tree' : ModelTree) → SpellsModel tree ts → SpellsModel tree' ts → tree ≡ tree'
one_tree ts tree tree' m m' = ap (λ z. z.1) (model_unique ts (m.imports, tree) (m'.imports, tree') m.spells m'.spells)

-- ---- exactly one of the two

-- a list in which such an import stands is no model
pub foreign_not_spelled : (ts : List Token) (tree : ModelTree) (name : List ℕ) (rest : List Token) → SpellsModel tree ts → IsForeign ts rest name → ⊥
foreign_not_spelled ts tree name rest m f =
    found_none rest (r.first_foreign ts) (ap is_none (tree_is_found ts tree m).0) (foreign_found ts rest name f)

not_spelled_at : (ts : List Token) (tree : ModelTree) (why : Refusal) (rest : List Token) → SpellsModel tree ts → IsModelRefusedAt ts why rest → ⊥
not_spelled_at ts tree why rest m (at_token t) = not_both fronts_model wider_model ts (m.imports, tree) why rest m.spells t
not_spelled_at ts tree (Unsupported name) rest m (at_import f) = foreign_not_spelled ts tree name rest m f

pub spelled_not_refused : (ts : List Token) (tree : ModelTree) (why : Refusal) (rest : List Token) → SpellsModel tree ts → IsModelRefusal ts why rest → ⊥
spelled_not_refused ts tree why rest m h = not_spelled_at ts tree why rest m h.refused

one_at : (ts : List Token) (why why' : Refusal) (rest rest' : List Token) → length rest ≤ length rest' → length rest' ≤ length rest
    → IsModelRefusedAt ts why rest → IsModelRefusedAt ts why' rest' → (why ≡ why') × (rest ≡ rest')
one_at ts why why' rest rest' le le' (at_token t) (at_token t') = one_refusal fronts_model wider_model ts why why' rest rest' t t'
one_at ts why (Unsupported name) rest rest' le le' (at_token t) (at_import f) =
    let less = behind_import ts rest' name f why rest t in absurd (omega arith)
one_at ts (Unsupported name) why' rest rest' le le' (at_import f) (at_token t) =
    let less = behind_import ts rest name f why' rest' t in absurd (omega arith)
one_at ts (Unsupported name) (Unsupported name') rest rest' le le' (at_import f) (at_import f') =
    let long : length (f.word ∷ rest) ≡ length (f'.word ∷ rest') = omega arith in
    let all : f.word ∷ rest ≡ f'.word ∷ rest' = same_rest f.front f'.front (f.word ∷ rest) (f'.word ∷ rest') (sym f.split ∙ f'.split) long in
    let same : rest ≡ rest' = cc all in
    (ap Unsupported (same_import ts rest rest' name name' same f f'), same)

pub one_model_refusal : (ts : List Token) (why why' : Refusal) (rest rest' : List Token) → IsModelRefusal ts why rest
    → IsModelRefusal ts why' rest' → (why ≡ why') × (rest ≡ rest')
one_model_refusal ts why why' rest rest' h h' =
    one_at ts why why' rest rest' (h'.first why rest h.refused) (h.first why' rest' h'.refused) h.refused h'.refused

-- ---- one of the two

-- the model's tree, or the refusal
abbrev pub Outcome : List Token → Type 0
Outcome ts = ((tree : ModelTree) × SpellsModel tree ts) ⊎ ((why : Refusal) × (rest : List Token) × IsModelRefusal ts why rest)

parsed : (ts : List Token) → r.first_foreign ts ≡ None → (reply : Reply Token (List Import × ModelTree)) → r.model 64 ts ≡ reply → Outcome ts
parsed ts none (Took v []) e = inl (v.1, tree_found ts v.0 v.1 none e)
parsed ts none (Took v (t ∷ rest)) e = inr (syntax_refusal (t ∷ rest), t ∷ rest, left_refusal ts v t rest none e)
parsed ts none (Refused false rest) e = inr (syntax_refusal rest, rest, found_syntax ts rest none e)
parsed ts none (Refused true rest) e = inr (TooDeep, rest, found_too_deep ts rest none e)

pub tree_or_refusal : (ts : List Token) → Outcome ts
tree_or_refusal ts = go (r.first_foreign ts) refl
  where
    go : (o : Answer) → r.first_foreign ts ≡ o → Outcome ts
    go None e = parsed ts e (r.model 64 ts) refl
    go (Some x) e = inr (Unsupported (text_of (last_part x.0)), x.1, foreign_refusal ts x.0 x.1 e)
