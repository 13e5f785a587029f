-- The parser is exact for the grammar, in which fewer than so many parentheses are open at once.
use Rattle.std.proofs.Common.{◌≡◌, ℕ, zero, suc, List, [], ◌∷◌, ◌++◌, length, Bool, true, false, Option, Some, None, inl, inr, sym, refl, ap, ◌∙◌, subst}
use Rattle.std.specs.Prelude.{◌||◌}
use Rattle.asm_grammar.specs.Language.{Language, Follows, FollowsPartly}
use Rattle.asm_grammar.specs.Parser.{Reply, Took, Refused, Parser, and_then, sees, chained}
use Rattle.asm_grammar.proofs.Exact.{SoundAt, Sound, Ends, Gives, Reaches, Complete, weaken}
use Rattle.asm_grammar.proofs.Basic.{sound-word, complete-word, sound-made, complete-made}
use Rattle.asm_grammar.proofs.Pairs.{sound-then, complete-then, split_on}
use Rattle.asm_grammar.proofs.Choices.{sound-either, complete-either}
use Rattle.asm_grammar.proofs.SoundChains.{sound-chain}
use Rattle.asm_grammar.proofs.CompleteChains.{complete-chain}
use Rattle.asm_grammar.proofs.Fronts.{Fronts, fronts-word, fronts-then, fronts-either, fronts-made, fronts-chain}
use Rattle.asm_formula.specs.declared.formula.Operator.{Operator}
use Rattle.asm_formula.specs.declared.formula.Operator.TheVariants.{Pipe, Both, Half, Cross}
use Rattle.asm_formula.specs.declared.formula.Formula.{Formula}
use Rattle.asm_formula.specs.declared.token.TokenKind.{TokenKind}
use Rattle.asm_formula.specs.declared.token.TokenKind.TheVariants.{Name, Joins, Opens, Closes}
use Rattle.asm_formula.specs.declared.token.Token.{Token}
use Rattle.asm_formula.specs.Tokens.{is_name, is_name_kind}
use Rattle.asm_formula.specs.Grammar as g
use Rattle.asm_formula.specs.Grammar.{is_open, opens_kind, is_close, closes_kind, is_same, is_operator, joins_kind, named, between, second, join, any, formula_within}
use Rattle.asm_formula.specs.Parsing as r
use Rattle.asm_formula.specs.Parsing.{kind_operator, next_operator}
use Rattle.asm_formula.proofs.Turns.{no_step}

-- ---- sets of tokens

-- with these a formula begins
abbrev pub starts : Token → Bool
starts t = is_name t || is_open t

abbrev pub some_kind : TokenKind → Bool
some_kind (Joins op) = true
some_kind (Name name) = false
some_kind Opens = false
some_kind Closes = false

-- with these it may go on
abbrev pub goes_on : Token → Bool
goes_on t = some_kind t.kind

-- after no value any token
abbrev pub nowhere : Formula → Token → Bool
nowhere f t = false

close_no_operator : (k : TokenKind) → closes_kind k ≡ true → some_kind k ≡ false
close_no_operator Closes h = refl
close_no_operator (Name name) h = absurd (cc h)
close_no_operator (Joins op) h = absurd (cc h)
close_no_operator Opens h = absurd (cc h)

open_no_name : (k : TokenKind) → opens_kind k ≡ true → is_name_kind k ≡ false
open_no_name Opens h = refl
open_no_name (Name name) h = absurd (cc h)
open_no_name (Joins op) h = absurd (cc h)
open_no_name Closes h = absurd (cc h)

ends_operator : (op : Operator) (k : TokenKind) → some_kind k ≡ false → joins_kind op k ≡ false
ends_operator op (Joins other) h = absurd (cc h)
ends_operator op (Name name) h = refl
ends_operator op Opens h = refl
ends_operator op Closes h = refl

no_operator : (op : Operator) (k : TokenKind) → kind_operator k ≡ None → joins_kind op k ≡ false
no_operator op (Joins other) h = absurd (cc h)
no_operator op (Name name) h = refl
no_operator op Opens h = refl
no_operator op Closes h = refl

same_is : (a b : Operator) → is_same a b ≡ true → b ≡ a
same_is Pipe Pipe h = refl
same_is Both Both h = refl
same_is Half Half h = refl
same_is Cross Cross h = refl
same_is Pipe Both h = absurd (cc h)
same_is Pipe Half h = absurd (cc h)
same_is Pipe Cross h = absurd (cc h)
same_is Both Pipe h = absurd (cc h)
same_is Both Half h = absurd (cc h)
same_is Both Cross h = absurd (cc h)
same_is Half Pipe h = absurd (cc h)
same_is Half Both h = absurd (cc h)
same_is Half Cross h = absurd (cc h)
same_is Cross Pipe h = absurd (cc h)
same_is Cross Both h = absurd (cc h)
same_is Cross Half h = absurd (cc h)

is_next : (op : Operator) (k : TokenKind) → joins_kind op k ≡ true → kind_operator k ≡ Some op
is_next op (Joins other) h = ap (λ (o : Operator). Some o) (same_is op other h)
is_next op (Name name) h = absurd (cc h)
is_next op Opens h = absurd (cc h)
is_next op Closes h = absurd (cc h)

-- ---- which operator is read

module _ (p : Parser Token Formula) where
  -- the parser of parts joined by this operator
  abbrev pub by_one : Operator → Parser Token Formula
  by_one op = chained any (join op) (is_operator op) (r.operand p op) (r.part p)

  unseen : (op : Operator) (ts : List Token) → next_operator ts ≡ None → sees (is_operator op) ts ≡ false
  unseen op [] e = refl
  unseen op (t ∷ ts) e = no_operator op t.kind e

  further_one : (left : Formula) (ts : List Token) (o : Option Operator) → next_operator ts ≡ o
      → (op : Operator) × (r.further_by p o left ts ≡ r.further p op left ts)
  further_one left ts (Some op) e = (op, refl)
  further_one left ts None e = (Pipe, sym (no_step any (join Pipe) (is_operator Pipe) (r.operand p Pipe) (length ts) left ts (unseen Pipe ts e)))

  -- the formula's parser is that of some operator
  pub chosen : (ts : List Token) → (op : Operator) × (r.formula_form p ts ≡ by_one op ts)
  chosen ts = go (r.part p ts)
    where
      go : (reply : Reply Token Formula)
          → (op : Operator)
          × (and_then reply (λ left rest. r.further_by p (next_operator rest) left rest) ≡ and_then reply (λ left rest. r.further p op left rest))
      go (Took left rest) = further_one left rest (next_operator rest) refl
      go (Refused deep rest) = (Pipe, refl)

-- ---- sound

module _ {p : Parser Token Formula} {L : Language Token Formula} (s : Sound p L L) where
  sound_enclosed : Sound (r.enclosed p) (g.enclosed L) (g.enclosed L)
  sound_enclosed = sound-made between (sound-then (sound-word is_open) (sound-then s (sound-word is_close)))

  sound_part : Sound (r.part p) (g.part L) (g.part L)
  unfolding r.part
  sound_part = sound-either is_name (sound-made named (sound-word is_name)) sound_enclosed

  sound_operand : (op : Operator) → Sound (r.operand p op) (g.operand L op) (g.operand L op)
  sound_operand op = sound-made second (sound-then (sound-word (is_operator op)) sound_part)

  starts_operand : (op : Operator) (t : Token) → is_operator op t ≡ true → (g.operand L op).Begins (t ∷ [])
  starts_operand op t e = inl (inr (t, e, refl))

  sound_one : (op : Operator) → Sound (by_one p op) (g.parts L op) (g.parts L op)
  sound_one op = sound-chain any (join op) (is_operator op) sound_part (sound_operand op) (starts_operand op)

  in_one : (op : Operator) (ts : List Token) (reply : Reply Token Formula) → SoundAt (g.parts L op) (g.parts L op) ts reply
      → SoundAt (g.formula_form L) (g.formula_form L) ts reply
  in_one op ts (Took v rest) h = (h.0, h.1, (op, h.2))
  in_one op ts (Refused false rest) h = (h.0, h.1, (op, h.2))
  in_one op ts (Refused true rest) h = (h.0, h.1, h.2, h.3, h.4, (op, h.5), (op, h.6))

  sound_at : (ts : List Token) → SoundAt (g.formula_form L) (g.formula_form L) ts (r.formula_form p ts)
  sound_at ts =
      let c = chosen p ts in
      subst (λ (reply : Reply Token Formula). SoundAt (g.formula_form L) (g.formula_form L) ts reply) (sym c.1)
      (in_one c.0 ts (by_one p c.0 ts) ((sound_one c.0).at ts))

  sound_form : Sound (r.formula_form p) (g.formula_form L) (g.formula_form L)
  sound_form = record { at = sound_at; wider = λ v a h. h }

pub sound_within : (n : ℕ) → Sound (r.formula n) (formula_within n) (formula_within n)
unfolding r.formula formula_within
sound_within zero = record { at = λ ts. ([], refl, refl); wider = λ v a h. h }
sound_within (suc n) = sound_form (sound_within n)

-- ---- complete

module _ (X : Bool) {p : Parser Token Formula} {L : Language Token Formula} (c : Complete X p L starts (λ f. goes_on) false) where
  complete_enclosed : Complete X (r.enclosed p) (g.enclosed L) is_open nowhere false
  complete_enclosed =
      complete-made between nowhere (λ v t e. refl)
      (complete-then X (complete-word is_open X)
      (complete-then X c (complete-word is_close X) (λ v t h. close_no_operator t.kind h)) (λ v t h. refl))

  complete_part : Complete X (r.part p) (g.part L) starts nowhere false
  unfolding r.part
  complete_part =
      complete-either X (complete-made named nowhere (λ v t e. refl) (complete-word is_name X)) complete_enclosed
      (λ t h. open_no_name t.kind h)

  complete_operand : (op : Operator) → Complete X (r.operand p op) (g.operand L op) (is_operator op) nowhere false
  complete_operand op =
      complete-made second nowhere (λ v t e. refl) (complete-then X (complete-word (is_operator op) X) complete_part (λ v t h. refl))

  complete_one : (op : Operator) → Complete X (by_one p op) (g.parts L op) starts (λ f. goes_on) false
  complete_one op =
      weaken starts (λ f. goes_on) (λ t e. e) (λ f t e. after t e)
      (complete-chain X any any (join op) (is_operator op) (complete_operand op) (λ t h. refl) (λ left h k. absurd (cc (h, k)))
      complete_part (λ t h. refl))
    where
      after : (t : Token) → goes_on t ≡ false → (false || (is_operator op t || false)) ≡ false
      after t e = rw (ends_operator op t.kind e) refl

  -- ---- where the operator is seen, it is the one that is read

  led : (op : Operator) (left : Formula) (x rest : List Token) → (g.part L).Spells left x → next_operator rest ≡ Some op
      → r.formula_form p (x ++ rest) ≡ by_one p op (x ++ rest)
  led op left x rest sp e = go (r.part p (x ++ rest)) (complete_part.whole left x rest sp (ends rest))
    where
      ends : (ts : List Token) → Ends (nowhere left) ts
      ends [] = tt
      ends (t ∷ ts) = refl

      go : (reply : Reply Token Formula) → Gives X left rest reply
          → and_then reply (λ v ts. r.further_by p (next_operator ts) v ts) ≡ and_then reply (λ v ts. r.further p op v ts)
      go (Took v ts) h = ap (λ o. r.further_by p o v ts) (ap next_operator h.1 ∙ e)
      go (Refused deep ts) h = refl

  -- a list that an operator's step begins or spells
  step_next : (op : Operator) (t : Token) (y b : List Token) → (g.operand L op).Begins (t ∷ y) → next_operator (t ∷ y ++ b) ≡ Some op
  step_next op t y b bg = is_next op t.kind ((complete_operand op).first t y bg)

  spelled_next : (op : Operator) (o : Formula) (y x z b : List Token) → y ≡ x ++ z → (g.operand L op).Spells o x → next_operator (y ++ b) ≡ Some op
  spelled_next op o y [] z b e sp = absurd ((complete_operand op).nonempty refl o sp)
  spelled_next op o y (t ∷ x) z b e sp =
      subst (λ (ts : List Token). next_operator (ts ++ b) ≡ Some op) (sym e)
      (is_next op t.kind ((complete_operand op).first t x ((complete_operand op).begins o (t ∷ x) sp)))

  -- ---- what is spelled is taken

  alone_whole : (v left : Formula) (ts x b : List Token) → ts ≡ x ++ [] → (g.part L).Spells left x → v ≡ left → Ends goes_on b
      → Gives X v b (r.formula_form p (ts ++ b))
  alone_whole v left ts x b e sp f h =
      let o = chosen p (ts ++ b) in
      subst (λ (reply : Reply Token Formula). Gives X v b reply) (sym o.1)
      ((complete_one o.0).whole v ts b (left, zero, x, [], e, sp, (f, refl)) h)

  joined_whole : (op : Operator) (v left : Formula) (n : ℕ) (ts x y b : List Token) → ts ≡ x ++ y → (g.part L).Spells left x
      → Follows any (join op) (g.operand L op) n left v y → next_operator (y ++ b) ≡ Some op → Ends goes_on b
      → Gives X v b (r.formula_form p (ts ++ b))
  joined_whole op v left n ts x y b e sp fo next h =
      let whole : ts ++ b ≡ x ++ (y ++ b) = split_on ts x y b e in
      let same : r.formula_form p (ts ++ b) ≡ by_one p op (ts ++ b) =
      ap (λ (z : List Token). r.formula_form p z) whole ∙ led op left x (y ++ b) sp next ∙ ap (λ (z : List Token). by_one p op z) (sym whole) in
      subst (λ (reply : Reply Token Formula). Gives X v b reply) (sym same)
      ((complete_one op).whole v ts b (left, n, x, y, e, sp, fo) h)

  form_whole : (op : Operator) (v left : Formula) (n : ℕ) (ts x y b : List Token) → ts ≡ x ++ y → (g.part L).Spells left x
      → Follows any (join op) (g.operand L op) n left v y → Ends goes_on b → Gives X v b (r.formula_form p (ts ++ b))
  form_whole op v left zero ts x y b e sp fo h =
      alone_whole v left ts x b (e ∙ ap (λ z. x ++ z) fo.1) sp fo.0 h
  form_whole op v left (suc n) ts x y b e sp fo h =
      joined_whole op v left (suc n) ts x y b e sp fo (spelled_next op fo.0 y fo.1 fo.2 b fo.3 fo.5) h

  -- ---- a partial spelling is never stopped inside

  front_partly : (ts b : List Token) → ((op : Operator) → (g.parts L op).Begins ts) → Reaches X b (r.formula_form p (ts ++ b))
  front_partly ts b bg =
      let o = chosen p (ts ++ b) in
      subst (λ (reply : Reply Token Formula). Reaches X b reply) (sym o.1) ((complete_one o.0).partly ts b (bg o.0))

  joined_partly : (op : Operator) (left : Formula) (n : ℕ) (ts x y b : List Token) → ts ≡ x ++ y → (g.part L).Spells left x
      → FollowsPartly any (join op) (g.operand L op) n left y → next_operator (y ++ b) ≡ Some op → Reaches X b (r.formula_form p (ts ++ b))
  joined_partly op left n ts x y b e sp fo next =
      let whole : ts ++ b ≡ x ++ (y ++ b) = split_on ts x y b e in
      let same : r.formula_form p (ts ++ b) ≡ by_one p op (ts ++ b) =
      ap (λ (z : List Token). r.formula_form p z) whole ∙ led op left x (y ++ b) sp next ∙ ap (λ (z : List Token). by_one p op z) (sym whole) in
      subst (λ (reply : Reply Token Formula). Reaches X b reply) (sym same)
      ((complete_one op).partly ts b (inr (left, n, x, y, e, sp, fo)))

  partly_next : (op : Operator) (left : Formula) (n : ℕ) (t : Token) (y b : List Token)
      → FollowsPartly any (join op) (g.operand L op) n left (t ∷ y) → next_operator (t ∷ y ++ b) ≡ Some op
  partly_next op left zero t y b (inl e) = absurd (cc e)
  partly_next op left zero t y b (inr h) = step_next op t y b h.1
  partly_next op left (suc n) t y b h = spelled_next op h.0 (t ∷ y) h.1 h.2 b h.3 h.5

  form_partly_2 : (op : Operator) (left : Formula) (n : ℕ) (ts x y b : List Token) → ts ≡ x ++ y → (g.part L).Spells left x
      → FollowsPartly any (join op) (g.operand L op) n left y → Reaches X b (r.formula_form p (ts ++ b))
  form_partly_2 op left n ts x [] b e sp fo = front_partly ts b (λ o. inr (left, zero, x, [], e, sp, inl refl))
  form_partly_2 op left n ts x (t ∷ y) b e sp fo =
      joined_partly op left n ts x (t ∷ y) b e sp fo (partly_next op left n t y b fo)

  form_partly : (ts b : List Token) → (op : Operator) → (g.parts L op).Begins ts → Reaches X b (r.formula_form p (ts ++ b))
  form_partly ts b op (inl bg) = front_partly ts b (λ o. inl bg)
  form_partly ts b op (inr h) = form_partly_2 op h.0 h.1 ts h.2 h.3 b h.4 h.5 h.6

  form_any : (b : List Token) → Reaches false b (r.formula_form p b)
  form_any b =
      let o = chosen p b in
      subst (λ (reply : Reply Token Formula). Reaches false b reply) (sym o.1) ((complete_one o.0).any b)

  complete_form : Complete X (r.formula_form p) (g.formula_form L) starts (λ f. goes_on) false
  complete_form = record {
    whole = λ v ts b s h. form_whole s.0 v s.1.0 s.1.1 ts s.1.2 s.1.3 b s.1.4 s.1.5 s.1.6 h;
    partly = λ ts b s. form_partly ts b s.0 s.1;
    any = form_any;
    first = λ t a s. (complete_one s.0).first t a s.1;
    nonempty = λ e v s. (complete_one s.0).nonempty e v s.1;
    begins = λ v a s. (s.0, (complete_one s.0).begins v a s.1);
  }

-- nothing is read where no more may be open
abbrev none_read : Parser Token Formula
none_read ts = Refused false ts

complete_none : (X : Bool) → Complete X none_read g.nowhere starts (λ f. goes_on) false
complete_none X = record {
  whole = λ v a b s h. absurd s;
  partly = λ a b s. ([], ap (λ y. y ++ b) (sym s));
  any = λ b. ([], refl);
  first = λ t a s. absurd (cc s);
  nonempty = λ e v s. s;
  begins = λ v a s. absurd s;
}

pub complete_within : (X : Bool) (n : ℕ) → Complete X (r.formula n) (formula_within n) starts (λ f. goes_on) false
unfolding r.formula formula_within
complete_within X zero = complete_none X
complete_within X (suc n) = complete_form X (complete_within X n)

-- ---- fronts

module _ {L : Language Token Formula} (f : Fronts L) where
  fronts_part : Fronts (g.part L)
  fronts_part =
      fronts-either (fronts-made named (fronts-word is_name))
      (fronts-made between (fronts-then (fronts-word is_open) (fronts-then f (fronts-word is_close))))

  fronts_one : (op : Operator) → Fronts (g.parts L op)
  fronts_one op = fronts-chain any (join op) (fronts-made second (fronts-then (fronts-word (is_operator op)) fronts_part)) fronts_part

  fronts_form : Fronts (g.formula_form L)
  fronts_form = record {
    front = λ a b s. (s.0, (fronts_one s.0).front a b s.1);
    begins = λ v a s. (s.0, (fronts_one s.0).begins v a s.1);
  }

empty_front : (a b : List Token) → a ++ b ≡ [] → a ≡ []
empty_front [] b e = refl
empty_front (t ∷ a) b e = absurd (cc e)

pub fronts_within : (n : ℕ) → Fronts (formula_within n)
unfolding formula_within
fronts_within zero = record { front = empty_front; begins = λ v a s. absurd s }
fronts_within (suc n) = fronts_form (fronts_within n)
