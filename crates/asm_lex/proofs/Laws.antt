-- From the function on lists to the relation.
use Rattle.std.proofs.Common.{◌≡◌, ◌≢◌, ℕ, ◌+◌, ◌<◌, ◌≤◌, List, [], ◌∷◌, ◌++◌, length, drop, sym, refl, ap, ◌∙◌, subst, arith, append_assoc}
use Rattle.std.specs.Prelude.{Result, Ok, Err, IfOk, IfErr}
use Rattle.asm_syntax.specs.declared.token_refusal.TokenRefusal.{TokenRefusal}
use Rattle.asm_syntax.specs.declared.token_refusal.TokenRefusal.TheVariants as refusals
use Rattle.asm_syntax.specs.declared.token.Token.{Token}
use Rattle.asm_syntax.specs.declared.token.TokenKind.{TokenKind}
use Rattle.asm_syntax.specs.Lexes.{Stop, End, At, Lexes, token_at}
use Rattle.asm_lex_theory.specs.declared.Front.TheVariants.{Gap, Taken, Refusal}
use Rattle.asm_lex_theory.specs.Scan.{front_on, Lexed, with_token, lexed_from, after_tokens}
use Rattle.asm_lex_theory.proofs.Whole.{lexes_is, reads}
use Rattle.asm_lex_theory.proofs.Places.{gap_at, token_next, refused_at, ended_at}
use Rattle.asm_lex.specs.declared.LexRefusal.{LexRefusal}
use Rattle.asm_lex.specs.declared.LexRefusal.TheVariants.{TextTooLong, BadByte, OpenComment, OpenString, NumberTooLarge, NoMemory}
use Rattle.asm_syntax.specs.Texts.{most_bytes}
use Rattle.asm_lex.specs.Answers.{AreTokens, HasNoTokens, StopsAt, IsFirst, IsRefusal, Answers, IsRefusalOf, Gives}

-- ---- steps of the loop

pub before_token : (ts : List Token) (t : Token) (l : Lexed) → after_tokens ts (with_token t l) ≡ after_tokens (ts ++ t ∷ []) l
before_token ts t l = ap (λ (x : List Token). (x, l.1)) (sym (append_assoc ts (t ∷ []) l.0))

pub gap_keeps : (text : List ℕ) (all : Lexed) (ts : List Token) (at n : ℕ) → all ≡ after_tokens ts (lexed_from (drop at text) 0 at) → at < length text → Gap n ≡ front_on (drop at text)
    → all ≡ after_tokens ts (lexed_from (drop (at + n) text) 0 (at + n))
gap_keeps text all ts at n e h f = e ∙ ap (after_tokens ts) (gap_at text at n h f)

pub token_keeps : (text : List ℕ) (all : Lexed) (ts : List Token) (at n : ℕ) (k : TokenKind) → all ≡ after_tokens ts (lexed_from (drop at text) 0 at) → at < length text → Taken k n ≡ front_on (drop at text)
    → all ≡ after_tokens (ts ++ token_at k at (at + n) ∷ []) (lexed_from (drop (at + n) text) 0 (at + n))
token_keeps text all ts at n k e h f = e ∙ ap (after_tokens ts) (token_next text at n k h f) ∙ before_token ts _ _

pub refusal_gives : (text : List ℕ) (all : Lexed) (ts : List Token) (at : ℕ) (f : TokenRefusal) (r : LexRefusal) → all ≡ after_tokens ts (lexed_from (drop at text) 0 at) → at < length text → Refusal f ≡ front_on (drop at text)
    → IsRefusalOf r (At f at) → IsRefusalOf r all.1
refusal_gives text all ts at f r e h w t = subst (IsRefusalOf r) (sym (ap (λ (l : Lexed). l.1) (e ∙ ap (after_tokens ts) (refused_at text at f h w)))) t

pub end_gives : (text : List ℕ) (all : Lexed) (ts : List Token) (at : ℕ) → all ≡ after_tokens ts (lexed_from (drop at text) 0 at) → length text ≤ at → all ≡ (ts, End)
end_gives text all ts at e h = e ∙ ap (after_tokens ts) (ended_at text at h) ∙ ap (λ (x : List Token). (x, End)) (nothing_more ts)
  where
    nothing_more : (ts : List Token) → ts ++ [] ≡ ts
    nothing_more [] = refl
    nothing_more (t ∷ ts) = ap (λ x. t ∷ x) (nothing_more ts)

-- ---- the answer

pub tokens_law : (text : List ℕ) (r : Result (List Token) LexRefusal) → length text ≤ most_bytes → Gives r (lexed_from text 0 0) → IfOk r (λ ts. AreTokens text ts)
tokens_law text (Ok ts) h g = (h, subst (λ (l : Lexed). Lexes 0 text l.0 l.1) g (reads text 0))
tokens_law text (Err e) h g = tt

same_stop : (l : Lexed) (s t : Stop) (ts : List Token) → l.1 ≡ s → l ≡ (ts, t) → s ≡ t
same_stop l s t ts e f = sym e ∙ ap (λ (x : Lexed). x.1) f

pub only_law : (text : List ℕ) (r : Result (List Token) LexRefusal) (ts : List Token) → Gives r (lexed_from text 0 0) → AreTokens text ts → Answers r (Ok ts)
only_law text (Ok us) ts g a = ap (λ (l : Lexed). Ok l.0) (sym g ∙ lexes_is 0 text ts End a.1)
only_law text (Err NoMemory) ts g a = tt
only_law text (Err (TextTooLong n)) ts g a = absurd g
only_law text (Err (BadByte n)) ts g a = absurd (let e = same_stop _ _ _ ts g (lexes_is 0 text ts End a.1) in cc)
only_law text (Err (OpenComment n)) ts g a = absurd (let e = same_stop _ _ _ ts g (lexes_is 0 text ts End a.1) in cc)
only_law text (Err (OpenString n)) ts g a = absurd (let e = same_stop _ _ _ ts g (lexes_is 0 text ts End a.1) in cc)
only_law text (Err (NumberTooLarge n)) ts g a = absurd (let e = same_stop _ _ _ ts g (lexes_is 0 text ts End a.1) in cc)

no_tokens : (text : List ℕ) (e : LexRefusal) → ((ts : List Token) → AreTokens text ts → Answers (Err e) (Ok ts)) → (e ≢ NoMemory) → HasNoTokens text
no_tokens text NoMemory only h ts a = absurd (h refl)
no_tokens text (TextTooLong n) only h ts a = let e = only ts a in cc
no_tokens text (BadByte n) only h ts a = let e = only ts a in cc
no_tokens text (OpenComment n) only h ts a = let e = only ts a in cc
no_tokens text (OpenString n) only h ts a = let e = only ts a in cc
no_tokens text (NumberTooLarge n) only h ts a = let e = only ts a in cc

pub none_law : (text : List ℕ) (r : Result (List Token) LexRefusal) → ((ts : List Token) → AreTokens text ts → Answers r (Ok ts)) → IfErr r (λ e. e ≢ NoMemory → HasNoTokens text)
none_law text (Ok ts) only = tt
none_law text (Err e) only = no_tokens text e only

-- the refusal of a text that stops for this reason at this offset
abbrev pub refusal_of : TokenRefusal → ℕ → LexRefusal
refusal_of refusals.OpenComment at = OpenComment at
refusal_of refusals.OpenString at = OpenString at
refusal_of refusals.NumberTooLarge at = NumberTooLarge at
refusal_of refusals.BadByte at = BadByte at

why_of : Stop → TokenRefusal
why_of End = refusals.BadByte
why_of (At f at) = f

offset_of : Stop → ℕ
offset_of End = 0
offset_of (At f at) = at

pub stop_law : (text : List ℕ) (r : Result (List Token) LexRefusal) (ts : List Token) (f : TokenRefusal) (at : ℕ) → Gives r (lexed_from text 0 0) → StopsAt text ts f at → Answers r (Err (refusal_of f at))
unfolding why_of offset_of
stop_law text (Ok us) ts f at g a = absurd (let e : At f at ≡ End = sym (ap (λ (x : Lexed). x.1) (lexes_is 0 text ts (At f at) a.1)) ∙ ap (λ (x : Lexed). x.1) g in cc)
stop_law text (Err NoMemory) ts f at g a = tt
stop_law text (Err (TextTooLong n)) ts f at g a = absurd g
stop_law text (Err (BadByte n)) ts f at g a = let e = same_stop _ _ _ ts g (lexes_is 0 text ts (At f at) a.1) in ap (λ (s : Stop). Err (refusal_of (why_of s) (offset_of s))) e
stop_law text (Err (OpenComment n)) ts f at g a = let e = same_stop _ _ _ ts g (lexes_is 0 text ts (At f at) a.1) in ap (λ (s : Stop). Err (refusal_of (why_of s) (offset_of s))) e
stop_law text (Err (OpenString n)) ts f at g a = let e = same_stop _ _ _ ts g (lexes_is 0 text ts (At f at) a.1) in ap (λ (s : Stop). Err (refusal_of (why_of s) (offset_of s))) e
stop_law text (Err (NumberTooLarge n)) ts f at g a = let e = same_stop _ _ _ ts g (lexes_is 0 text ts (At f at) a.1) in ap (λ (s : Stop). Err (refusal_of (why_of s) (offset_of s))) e

pub first_law : (text : List ℕ) (r : Result (List Token) LexRefusal) (ts : List Token) (e : LexRefusal) → length text ≤ most_bytes → Gives r (lexed_from text 0 0) → IsFirst text ts e → Answers r (Err e)
first_law text r ts NoMemory h g a = absurd a
first_law text r ts (TextTooLong n) h g a = absurd (let long = a.0 in omega arith)
first_law text r ts (BadByte at) h g a = stop_law text r ts refusals.BadByte at g a
first_law text r ts (OpenComment at) h g a = stop_law text r ts refusals.OpenComment at g a
first_law text r ts (OpenString at) h g a = stop_law text r ts refusals.OpenString at g a
first_law text r ts (NumberTooLarge at) h g a = stop_law text r ts refusals.NumberTooLarge at g a

pub refused_law : (text : List ℕ) (r : Result (List Token) LexRefusal) → length text ≤ most_bytes → Gives r (lexed_from text 0 0) → IfErr r (λ e. IsRefusal text e)
refused_law text (Ok ts) h g = tt
refused_law text (Err NoMemory) h g = tt
refused_law text (Err (TextTooLong n)) h g = absurd g
refused_law text (Err (BadByte n)) h g = ((lexed_from text 0 0).0, (h, subst (λ (s : Stop). Lexes 0 text (lexed_from text 0 0).0 s) g (reads text 0)))
refused_law text (Err (OpenComment n)) h g = ((lexed_from text 0 0).0, (h, subst (λ (s : Stop). Lexes 0 text (lexed_from text 0 0).0 s) g (reads text 0)))
refused_law text (Err (OpenString n)) h g = ((lexed_from text 0 0).0, (h, subst (λ (s : Stop). Lexes 0 text (lexed_from text 0 0).0 s) g (reads text 0)))
refused_law text (Err (NumberTooLarge n)) h g = ((lexed_from text 0 0).0, (h, subst (λ (s : Stop). Lexes 0 text (lexed_from text 0 0).0 s) g (reads text 0)))

-- a text is read in one way
pub one_way : (text : List ℕ) (ts us : List Token) (s t : Stop) → Lexes 0 text ts s → Lexes 0 text us t → (ts ≡ us) × (s ≡ t)
one_way text ts us s t a b = let e = sym (lexes_is 0 text ts s a) ∙ lexes_is 0 text us t b in (ap (λ (l : Lexed). l.0) e, ap (λ (l : Lexed). l.1) e)
