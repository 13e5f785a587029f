-- No token of a form of the grammar has this mark, where none of its parts has it.
use Rattle.std.proofs.Common.{◌≡◌, ℕ, List, [], ◌∷◌, Bool, true, sym, ◌∙◌, codes}
use Rattle.asm_grammar.specs.Language.{Language, word, opens}
use Rattle.asm_syntax.specs.declared.token.Span.{Span}
use Rattle.asm_syntax.specs.declared.token.Token.{Token}
use Rattle.asm_syntax.specs.Marks.{Mark, is, is_one_of, keyword, symbol, span_of}
use Rattle.asm_syntax.specs.Forms as f
use Rattle.asm_syntax.specs.Forms.{second, between, one, one_more, any, or_none, Rest, To, And, is_range_sign}
use Rattle.asm_parse_theory.proofs.Sets.{disjoint, apart}
use Rattle.asm_parse_theory.proofs.MarkLists.{one_of_among}
use Rattle.asm_parse_theory.proofs.Without.{Without, without-word, without-then, without-opens, without-either, without-made, without-maybe, without-spanned, without-chain}

module _ (m : Mark) where
  -- no token with the mark m has one of these
  abbrev pub other : List Mark → Bool
  other cs = disjoint cs (m ∷ [])

  pub without_mark : (c : Mark) → other (c ∷ []) ≡ true → Without (is m) (word (is c))
  without_mark c e = without-word (is m) (is c) (apart (c ∷ []) (m ∷ []) e)

  pub without_one_of : (cs : List Mark) → other cs ≡ true → Without (is m) (word (is_one_of cs))
  without_one_of cs e = without-word (is m) (is_one_of cs) (λ t h. apart cs (m ∷ []) e t (sym (one_of_among cs t) ∙ h))

  pub without_open_one_of : {V : Type 0} (room : Bool) (cs : List Mark) {L : Language Token V} → other cs ≡ true → Without (is m) L
      → Without (is m) (opens room (is_one_of cs) L)
  without_open_one_of room cs e l = without-opens (is m) room (is_one_of cs) (λ t h. apart cs (m ∷ []) e t (sym (one_of_among cs t) ∙ h)) l

  pub without_open : {V : Type 0} (room : Bool) (c : Mark) {L : Language Token V} → other (c ∷ []) ≡ true → Without (is m) L
      → Without (is m) (opens room (is c) L)
  without_open room c e l = without-opens (is m) room (is c) (apart (c ∷ []) (m ∷ []) e) l

  pub without_after_word : {V : Type 0} (w : List ℕ) {L : Language Token V} → other (keyword w ∷ []) ≡ true → Without (is m) L
      → Without (is m) (f.after_word w L)
  without_after_word w e l = without-made (is m) second (without-then (is m) (without_mark (keyword w) e) l)

  pub without_after_sign : {V : Type 0} (s : List ℕ) {L : Language Token V} → other (symbol s ∷ []) ≡ true → Without (is m) L
      → Without (is m) (f.after_sign s L)
  without_after_sign s e l = without-made (is m) second (without-then (is m) (without_mark (symbol s) e) l)

  pub without_opened : {V : Type 0} (room : Bool) (w : List ℕ) {L : Language Token V} → other (keyword w ∷ []) ≡ true → Without (is m) L
      → Without (is m) (f.opened room w L)
  without_opened room w e l = without-made (is m) second (without_open room (keyword w) e l)

  pub without_enclosed : {V : Type 0} (room : Bool) (w : List ℕ) {L : Language Token V} (end : List ℕ)
      → other (keyword w ∷ []) ≡ true → other (keyword end ∷ []) ≡ true → Without (is m) L → Without (is m) (f.enclosed room w L end)
  without_enclosed room w end e e' l =
      without-made (is m) between (without_open room (keyword w) e (without-then (is m) l (without_mark (keyword end) e')))

  pub without_bracketed : {V : Type 0} (room : Bool) (s : List ℕ) {L : Language Token V} (end : List ℕ)
      → other (symbol s ∷ []) ≡ true → other (symbol end ∷ []) ≡ true → Without (is m) L → Without (is m) (f.bracketed room s L end)
  without_bracketed room s end e e' l =
      without-made (is m) between (without_open room (symbol s) e (without-then (is m) l (without_mark (symbol end) e')))

  pub without_several : {V : Type 0} {L : Language Token V} → Without (is m) L → Without (is m) (f.several L)
  without_several l = without-chain (is m) any one_more l (without-made (is m) one l)

  pub without_many : {V : Type 0} {L : Language Token V} → Without (is m) L → Without (is m) (f.many L)
  without_many l = without-made (is m) or_none (without-maybe (is m) (without_several l))

  pub without_listed : {V : Type 0} {L : Language Token V} → other (symbol (codes ",") ∷ []) ≡ true → Without (is m) L
      → Without (is m) (f.listed L)
  without_listed e l = without-then (is m) l (without_many (without_after_sign (codes ",") e l))

  pub without_members : {V : Type 0} {L : Language Token V}
      → other (symbol (codes "..") ∷ symbol (codes ":") ∷ []) ≡ true → other (symbol (codes ",") ∷ []) ≡ true
      → Without (is m) L → Without (is m) (f.members L)
  without_members e e' l =
      without-then (is m) l (without-maybe (is m) (without-either (is m)
      (without-made (is m) To (without-made (is m) second
      (without-then (is m) (without-word (is m) is_range_sign (apart (symbol (codes "..") ∷ symbol (codes ":") ∷ []) (m ∷ []) e)) l)))
      (without-made (is m) And (without_several (without_after_sign (codes ",") e' l)))))

  pub without_formed : {V W : Type 0} (g : Span → V → W) {L : Language Token V} → Without (is m) L → Without (is m) (f.formed g L)
  without_formed g l = without-spanned (is m) span_of g l
