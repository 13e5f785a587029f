-- The parser of a domain is exact for the grammar, where the parser of the domains one construct deeper is.
use Rattle.std.specs.Prelude.{◌||◌}
use Rattle.std.proofs.Common.{◌≡◌, List, [], ◌∷◌, Bool, true, false, inl, inr, refl, codes}
use Rattle.asm_grammar.specs.Language.{Language, ◌then◌}
use Rattle.asm_grammar.specs.Parser.{Parser, both}
use Rattle.asm_grammar.proofs.Exact.{Sound, Complete}
use Rattle.asm_grammar.proofs.Basic.{sound-word, complete-word, nowhere}
use Rattle.asm_grammar.proofs.Pairs.{sound-then, complete-then}
use Rattle.asm_grammar.proofs.Choices.{sound-either, complete-either}
use Rattle.asm_grammar.proofs.Maybe.{both_false}
use Rattle.asm_grammar.proofs.Fronts.{Fronts, fronts-word, fronts-then, fronts-either}
use Rattle.asm_syntax.specs.declared.token.Token.{Token}
use Rattle.asm_syntax.specs.declared.tree.DomainTree.{DomainTree}
use Rattle.asm_syntax.specs.declared.tree.DomainTree.TheVariants as domains
use Rattle.asm_syntax.specs.Marks.{Mark, is, id, keyword, symbol}
use Rattle.asm_syntax.specs.Forms.{after_sign, in_parentheses, listed}
use Rattle.asm_syntax.specs.Domains as g
use Rattle.asm_syntax.specs.Domains.{prod_of}
use Rattle.asm_parse_theory.specs.Firsts.{among, first_domain}
use Rattle.asm_parse_theory.specs.Forms as f
use Rattle.asm_parse_theory.specs.Domains as r
use Rattle.asm_parse_theory.proofs.Sets.{apart}
use Rattle.asm_parse_theory.proofs.FormFacts.{Starts, by_either, sound_quoted, sound_after_word, sound_after_sign, sound_listed, sound_formed, sound_in_parentheses, complete_quoted, complete_formed, complete_after_word, complete_after_sign, complete_listed, complete_in_parentheses, fronts_quoted, fronts_after_word, fronts_after_sign, fronts_listed, fronts_formed, fronts_in_parentheses}

-- what a product holds
abbrev factors : Language Token DomainTree → Language Token (DomainTree × (DomainTree × List DomainTree))
factors L = L then after_sign (codes ",") (listed L)

abbrev factors_read : Parser Token DomainTree → Parser Token (DomainTree × (DomainTree × List DomainTree))
factors_read p = both p (f.after_sign (codes ",") (f.listed p))

-- the first marks, from each to the last
abbrev from_powerset : List Mark
from_powerset = keyword (codes "Powerset") ∷ []

abbrev from_seq : List Mark
from_seq = keyword (codes "Seq") ∷ from_powerset

abbrev from_prod : List Mark
from_prod = keyword (codes "Prod") ∷ from_seq

abbrev from_id : List Mark
from_id = id ∷ from_prod

abbrev from_string : List Mark
from_string = keyword (codes "String") ∷ from_id

abbrev from_natural : List Mark
from_natural = keyword (codes "Natural") ∷ from_string

abbrev from_integer : List Mark
from_integer = keyword (codes "Integer") ∷ from_natural

-- ---- sound

sound_factors : {p : Parser Token DomainTree} {L M : Language Token DomainTree} → Sound p L M → Sound (factors_read p) (factors L) (factors M)
sound_factors s = sound-then s (sound_after_sign (sound_listed s) (codes ","))

-- `room` says whether one more construct may be open; in M one more may
module _ {room : Bool} {p : Parser Token DomainTree} {L M : Language Token DomainTree} (s : room ≡ true → Sound p L M) (empty : M.Begins []) where
  sound_product : Sound (r.product room p) (g.product room L) (g.product true M)
  unfolding r.product
  sound_product = sound_formed (sound_after_word (sound_in_parentheses room (λ o. sound_factors (s o)) (inl empty)) (codes "Prod")) prod_of

  sound_sequence : Sound (r.sequence room p) (g.sequence room L) (g.sequence true M)
  unfolding r.sequence
  sound_sequence = sound_formed (sound_after_word (sound_in_parentheses room s empty) (codes "Seq")) (λ span d. domains.Seq d span)

  sound_powerset : Sound (r.powerset room p) (g.powerset room L) (g.powerset true M)
  unfolding r.powerset
  sound_powerset = sound_formed (sound_after_word (sound_in_parentheses room s empty) (codes "Powerset")) (λ span d. domains.Powerset d span)

  pub sound_form : Sound (r.domain_form room p) (g.domain_form room L) (g.domain_form true M)
  unfolding r.domain_form
  sound_form =
      sound-either (is (keyword (codes "Boolean"))) (sound_formed (sound_quoted (codes "Boolean")) (λ span t. domains.Truth span))
      (sound-either (is (keyword (codes "Integer"))) (sound_formed (sound_quoted (codes "Integer")) (λ span t. domains.Int span))
      (sound-either (is (keyword (codes "Natural"))) (sound_formed (sound_quoted (codes "Natural")) (λ span t. domains.Nat span))
      (sound-either (is (keyword (codes "String"))) (sound_formed (sound_quoted (codes "String")) (λ span t. domains.Chars span))
      (sound-either (is id) (sound_formed (sound-word (is id)) (λ span t. domains.Named t span))
      (sound-either (is (keyword (codes "Prod"))) sound_product
      (sound-either (is (keyword (codes "Seq"))) sound_sequence sound_powerset))))))

-- ---- how a domain is begun

pub form_begins : (room : Bool) (L : Language Token DomainTree) → (g.domain_form room L).Begins []
form_begins room L = inl (inl refl)

pub form_starts : (L : Language Token DomainTree) → Starts (among first_domain) (g.domain_form true L)
form_starts L t =
    by_either (boolean t) (among from_integer t) (λ e. inl (inr (t, e, refl)))
    (by_either (integer t) (among from_natural t) (λ e. inr (inl (inr (t, e, refl))))
    (by_either (natural t) (among from_string t) (λ e. inr (inr (inl (inr (t, e, refl)))))
    (by_either (string t) (among from_id t) (λ e. inr (inr (inr (inl (inr (t, e, refl))))))
    (by_either (is id t) (among from_prod t) (λ e. inr (inr (inr (inr (inl (inr (t, e, refl)))))))
    (by_either (product t) (among from_seq t) (λ e. inr (inr (inr (inr (inr (inl (inl (inr (t, e, refl)))))))))
    (by_either (sequence t) (among from_powerset t) (λ e. inr (inr (inr (inr (inr (inr (inl (inl (inr (t, e, refl))))))))))
    (λ e. inr (inr (inr (inr (inr (inr (inr (inl (inr (t, e, refl))))))))))))))))
  where
    boolean : Token → Bool
    boolean = is (keyword (codes "Boolean"))

    integer : Token → Bool
    integer = is (keyword (codes "Integer"))

    natural : Token → Bool
    natural = is (keyword (codes "Natural"))

    string : Token → Bool
    string = is (keyword (codes "String"))

    product : Token → Bool
    product = is (keyword (codes "Prod"))

    sequence : Token → Bool
    sequence = is (keyword (codes "Seq"))

-- ---- complete

complete_factors : (X : Bool) {p : Parser Token DomainTree} {L : Language Token DomainTree} {F : Token → Bool}
    → Complete X p L F nowhere false → Complete X (factors_read p) (factors L) F (λ v t. is (symbol (codes ",")) t || false) false
complete_factors X c = complete-then X c (complete_after_sign X (complete_listed X c (λ t h. refl)) (codes ",")) (λ v t h. refl)

-- `room` says whether the parser lets one more construct be open, and `may` whether the language does. Where the language does
-- and the parser doesn't, X has to be true. How L is begun is shown by a parser q that has room.
module _ (X : Bool) {room may : Bool} (loose : may ≡ true → room ≡ false → X ≡ true) {p q : Parser Token DomainTree}
    {L N M : Language Token DomainTree} (s : room ≡ true → Sound p N M)
    (c : room ≡ true → may ≡ true → Complete X p L (among first_domain) nowhere false)
    (d : may ≡ true → Complete true q L (among first_domain) nowhere false) where
  complete_product : Complete X (r.product room p) (g.product may L) (is (keyword (codes "Prod"))) nowhere false
  unfolding r.product
  complete_product =
      complete_formed prod_of (complete_after_word X (complete_in_parentheses X loose (λ o. sound_factors (s o))
      (λ o o'. complete_factors X (c o o')) (λ o'. complete_factors true (d o')) (λ v t h. ends t h)) (codes "Prod"))
    where
      ends : (t : Token) → is (symbol (codes ")")) t ≡ true → (is (symbol (codes ",")) t || false) ≡ false
      ends t h = both_false (is (symbol (codes ",")) t) false (apart (symbol (codes ")") ∷ []) (symbol (codes ",") ∷ []) refl t h) refl

  -- one domain in parentheses
  complete_held : Complete X (f.in_parentheses room p) (in_parentheses may L) (is (symbol (codes "("))) nowhere false
  complete_held = complete_in_parentheses X loose s c d (λ v t h. refl)

  complete_sequence : Complete X (r.sequence room p) (g.sequence may L) (is (keyword (codes "Seq"))) nowhere false
  unfolding r.sequence
  complete_sequence = complete_formed (λ span d. domains.Seq d span) (complete_after_word X complete_held (codes "Seq"))

  complete_powerset : Complete X (r.powerset room p) (g.powerset may L) (is (keyword (codes "Powerset"))) nowhere false
  unfolding r.powerset
  complete_powerset = complete_formed (λ span d. domains.Powerset d span) (complete_after_word X complete_held (codes "Powerset"))

  pub complete_form : Complete X (r.domain_form room p) (g.domain_form may L) (among first_domain) nowhere false
  unfolding r.domain_form
  complete_form =
      complete-either X (complete_formed (λ span t. domains.Truth span) (complete_quoted X (codes "Boolean")))
      (complete-either X (complete_formed (λ span t. domains.Int span) (complete_quoted X (codes "Integer")))
      (complete-either X (complete_formed (λ span t. domains.Nat span) (complete_quoted X (codes "Natural")))
      (complete-either X (complete_formed (λ span t. domains.Chars span) (complete_quoted X (codes "String")))
      (complete-either X (complete_formed (λ span t. domains.Named t span) (complete-word (is id) X))
      (complete-either X complete_product (complete-either X complete_sequence complete_powerset
      (apart from_powerset (keyword (codes "Seq") ∷ []) refl))
      (apart from_seq (keyword (codes "Prod") ∷ []) refl))
      (apart from_prod (id ∷ []) refl))
      (apart from_id (keyword (codes "String") ∷ []) refl))
      (apart from_string (keyword (codes "Natural") ∷ []) refl))
      (apart from_natural (keyword (codes "Integer") ∷ []) refl))
      (apart from_integer (keyword (codes "Boolean") ∷ []) refl)

-- ---- fronts

pub fronts_form : (room : Bool) {L : Language Token DomainTree} → (room ≡ true → Fronts L) → Fronts (g.domain_form room L)
fronts_form room {L} f =
    fronts-either (fronts_formed (fronts_quoted (codes "Boolean")) (λ span t. domains.Truth span))
    (fronts-either (fronts_formed (fronts_quoted (codes "Integer")) (λ span t. domains.Int span))
    (fronts-either (fronts_formed (fronts_quoted (codes "Natural")) (λ span t. domains.Nat span))
    (fronts-either (fronts_formed (fronts_quoted (codes "String")) (λ span t. domains.Chars span))
    (fronts-either (fronts_formed (fronts-word (is id)) (λ span t. domains.Named t span))
    (fronts-either (fronts_formed (fronts_after_word (fronts_in_parentheses room (λ o. factors_fronts (f o))) (codes "Prod")) prod_of)
    (fronts-either (fronts_formed (fronts_after_word held (codes "Seq")) (λ span d. domains.Seq d span))
    (fronts_formed (fronts_after_word held (codes "Powerset")) (λ span d. domains.Powerset d span))))))))
  where
    factors_fronts : Fronts L → Fronts (factors L)
    factors_fronts f = fronts-then f (fronts_after_sign (fronts_listed f) (codes ","))

    held : Fronts (in_parentheses room L)
    held = fronts_in_parentheses room f
