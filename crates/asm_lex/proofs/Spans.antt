-- Where the tokens and the refusal of a reading are.
use Rattle.std.proofs.Common.{◌≡◌, ℕ, ◌+◌, ◌-◌, ◌<◌, ◌≤◌, List, [], ◌++◌, length, take, drop, sym, refl, ap, ◌∙◌, subst, arith, append_assoc, length-append}
use Rattle.std.specs.Prelude.{All, AllPairs, slice_range, Result, Ok, Err, IfOk, IfErr}
use Rattle.std.proofs.lemmas.List.Elements.{All-nil, All-cons}
use Rattle.std.proofs.lemmas.List.Kept.{AllPairs-cons}
use Rattle.asm_syntax.specs.declared.token_refusal.TokenRefusal.{TokenRefusal}
use Rattle.asm_syntax.specs.declared.token.Token.{Token}
use Rattle.asm_syntax.specs.declared.token.TokenKind.{TokenKind}
use Rattle.asm_syntax.specs.Lexes.{Lexes, end, gap, token, refusal, Stop, End, At, token_at, IsToken, Refuses, open_comment, open_string, too_large, bad_byte}
use Rattle.asm_lex_theory.proofs.Lists.{taken, dropped}
use Rattle.asm_lex_theory.proofs.Whole.{token_some}
use Rattle.asm_lex.specs.declared.LexRefusal.{LexRefusal}
use Rattle.asm_lex.specs.declared.LexRefusal.TheVariants.{TextTooLong, BadByte, OpenComment, OpenString, NumberTooLarge, NoMemory}
use Rattle.asm_lex.specs.Answers.{AreTokens, StopsAt, IsRefusal}
use Rattle.asm_lex.specs.Spans.{IsTokenIn, Before, IsOffset, IsWithin}

-- ---- each token

-- the text is what was read before, and what is left
further : (text before bs a c : List ℕ) → text ≡ before ++ bs → bs ≡ a ++ c → text ≡ (before ++ a) ++ c
further text before bs a c e f = e ∙ ap (λ (x : List ℕ). before ++ x) f ∙ sym (append_assoc before a c)

longer : (before a : List ℕ) (at : ℕ) → at ≡ length before → at + length a ≡ length (before ++ a)
longer before a at e = omega (arith, length-append before a)

token_is_in : (text before bs a c : List ℕ) (at : ℕ) (k : TokenKind) → text ≡ before ++ bs → bs ≡ a ++ c → at ≡ length before → IsToken a c k
    → IsTokenIn text (token_at k at (at + length a))
token_is_in text before bs a c at k e f l t =
    let whole = further text before bs a c e f in
    let rest : drop (at + length a) text ≡ c = dropped text (before ++ a) c (at + length a) whole (longer before a at l) in
    let left : drop at text ≡ a ++ c = dropped text before bs at e l ∙ f in
    let front : slice_range text at (at + length a) ≡ a = ap (take (at + length a - at)) left ∙ taken (a ++ c) a c (at + length a - at) refl (omega arith) in
    let sizes : length text ≡ length before + length a + length c = ap length whole ∙ length-append (before ++ a) c ∙ ap (λ n. n + length c) (length-append before a) in
    record {
      some = let s = token_some a c k t in omega arith;
      within = omega arith;
      form = subst (λ (x : List ℕ). IsToken x (drop (at + length a) text) k) (sym front) (subst (λ (x : List ℕ). IsToken a x k) (sym rest) t);
    }

pub tokens_are_in : (text before : List ℕ) (at : ℕ) (bs : List ℕ) (ts : List Token) (s : Stop) → text ≡ before ++ bs → at ≡ length before → Lexes at bs ts s
    → All (IsTokenIn text) ts
tokens_are_in text before at bs ts s e l end = All-nil (IsTokenIn text)
tokens_are_in text before at bs ts s e l (gap {a = a} {b = c} f g r) =
    tokens_are_in text (before ++ a) (at + length a) c ts s (further text before bs a c e f) (longer before a at l) r
tokens_are_in text before at bs ts s e l (token {a = a} {b = c} {k = k} {ts = us} f g t fits r) =
    All-cons (IsTokenIn text) (token_at k at (at + length a)) us (token_is_in text before bs a c at k e f l t.token)
    (tokens_are_in text (before ++ a) (at + length a) c us s (further text before bs a c e f) (longer before a at l) r)
tokens_are_in text before at bs ts s e l (refusal r) = All-nil (IsTokenIn text)

-- ---- one after the other

begin_from : (from at : ℕ) (bs : List ℕ) (ts : List Token) (s : Stop) → from ≤ at → Lexes at bs ts s → All (λ (t : Token). from ≤ t.span.start) ts
begin_from from at bs ts s h end = All-nil (λ (t : Token). from ≤ t.span.start)
begin_from from at bs ts s h (gap {a = a} {b = c} f g r) = begin_from from (at + length a) c ts s (omega arith) r
begin_from from at bs ts s h (token {a = a} {b = c} {k = k} {ts = us} f g t fits r) =
    All-cons (λ (t : Token). from ≤ t.span.start) (token_at k at (at + length a)) us h (begin_from from (at + length a) c us s (omega arith) r)
begin_from from at bs ts s h (refusal r) = All-nil (λ (t : Token). from ≤ t.span.start)

no_pairs : AllPairs Before []
no_pairs i j d h k = absurd (omega arith)

pub tokens_ascend : (at : ℕ) (bs : List ℕ) (ts : List Token) (s : Stop) → Lexes at bs ts s → AllPairs Before ts
tokens_ascend at bs ts s end = no_pairs
tokens_ascend at bs ts s (gap {a = a} {b = c} f g r) = tokens_ascend (at + length a) c ts s r
tokens_ascend at bs ts s (token {a = a} {b = c} {k = k} {ts = us} f g t fits r) =
    AllPairs-cons Before (token_at k at (at + length a)) us (begin_from (at + length a) (at + length a) c us s (omega arith) r) (tokens_ascend (at + length a) c us s r)
tokens_ascend at bs ts s (refusal r) = no_pairs

-- ---- the refusal

refused_some : (bs : List ℕ) (f : TokenRefusal) → Refuses bs f → 0 < length bs
refused_some bs f (open_comment a h) = omega arith
refused_some bs f (open_string a b h s q) = omega arith
refused_some bs f (too_large {a = a} {b = c} e g l h) = let s = token_some a c _ l.token in let sum : length bs ≡ length a + length c = ap length e ∙ length-append a c in omega arith
refused_some bs f (bad_byte g q n) = omega arith

pub stop_within : (at : ℕ) (bs : List ℕ) (ts : List Token) (f : TokenRefusal) (place : ℕ) → Lexes at bs ts (At f place) → place < at + length bs
stop_within at bs ts f place (gap {a = a} {b = c} e g r) =
    let sum : length bs ≡ length a + length c = ap length e ∙ length-append a c in let ih = stop_within (at + length a) c ts f place r in omega arith
stop_within at bs ts f place (token {a = a} {b = c} {ts = us} e g t fits r) =
    let sum : length bs ≡ length a + length c = ap length e ∙ length-append a c in let ih = stop_within (at + length a) c us f place r in omega arith
stop_within at bs ts f place (refusal r) = let some = refused_some bs f r in omega arith

stops_within : (text : List ℕ) (ts : List Token) (f : TokenRefusal) (at : ℕ) → StopsAt text ts f at → IsOffset text at
stops_within text ts f at s = let h = stop_within 0 text ts f at s.1 in (omega arith, s.0)

-- ---- of an answer

pub spans_law : (text : List ℕ) (r : Result (List Token) LexRefusal) → IfOk r (λ ts. AreTokens text ts) → IfOk r (λ ts. All (IsTokenIn text) ts)
spans_law text (Ok ts) a = tokens_are_in text [] 0 text ts End refl refl a.1
spans_law text (Err e) a = tt

pub ascending_law : (text : List ℕ) (r : Result (List Token) LexRefusal) → IfOk r (λ ts. AreTokens text ts) → IfOk r (λ ts. AllPairs Before ts)
ascending_law text (Ok ts) a = tokens_ascend 0 text ts End a.1
ascending_law text (Err e) a = tt

pub refusal_within : (text : List ℕ) (e : LexRefusal) → IsRefusal text e → IsWithin text e
refusal_within text NoMemory a = tt
refusal_within text (TextTooLong n) a = tt
refusal_within text (BadByte at) a = stops_within text a.0 _ at a.1
refusal_within text (OpenComment at) a = stops_within text a.0 _ at a.1
refusal_within text (OpenString at) a = stops_within text a.0 _ at a.1
refusal_within text (NumberTooLarge at) a = stops_within text a.0 _ at a.1

pub within_law : (text : List ℕ) (r : Result (List Token) LexRefusal) → IfErr r (λ e. IsRefusal text e) → IfErr r (λ e. IsWithin text e)
within_law text (Ok ts) a = tt
within_law text (Err e) a = refusal_within text e a
