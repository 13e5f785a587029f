-- What is at the front of a text: the longest token there is, and no other.
use Rattle.std.proofs.Common.{◌≡◌, ℕ, ◌<◌, ◌≤◌, true, false, List, [], ◌∷◌, ◌++◌, length, take, drop, inl, inr, sym, refl, ap, ◌∙◌, subst, arith, codes, nat_eq}
use Rattle.std.specs.List.{starts_with}
use Rattle.std.proofs.lemmas.Bool.Decides.{nat_tests}
use Rattle.asm_formula.specs.declared.token.TokenKind.{TokenKind}
use Rattle.asm_formula.specs.declared.token.TokenKind.TheVariants.{Name}
use Rattle.asm_formula.specs.declared.token.Front.{Front}
use Rattle.asm_formula.specs.declared.token.Front.TheVariants.{Blank, Taken, Nothing}
use Rattle.asm_formula.specs.Tokens.{is_letter, is_name_byte, is_space, Sign, signs, IsName, IsSign, IsToken, HasNoToken, IsLongest}
use Rattle.asm_formula.specs.Scan.{name_len, sign_of, name_of, token_of, front_of, front_on}
use Rattle.asm_formula.proofs.Lists.{by_cond, by_true, by_false, split, prefix_at_least, taken, starts}

abbrev pub token_on : List ℕ → Front
token_on [] = Nothing
token_on (b ∷ rest) = token_of b rest

-- ---- what is found is a token

abbrev pub Spelled : List ℕ → Front → Type 0
Spelled bs Blank = ⊥
Spelled bs (Taken k n) = (a c : List ℕ) × (bs ≡ a ++ c) × (n ≡ length a) × IsToken a k
Spelled bs Nothing = Unit {0}

name_spelled : (b : ℕ) (rest : List ℕ) → is_letter b ≡ true → Spelled (b ∷ rest) (name_of b rest)
name_spelled b rest h =
    let s = split is_name_byte rest in
    let n = s.len in
    let e : b ∷ rest ≡ (b ∷ s.front) ++ s.back = ap (λ x. b ∷ x) s.parts in
    let l : name_len rest ≡ length (b ∷ s.front) = omega arith in
    let whole : take (name_len rest) (b ∷ rest) ≡ b ∷ s.front = taken (b ∷ rest) (b ∷ s.front) s.back (name_len rest) e l in
    (b ∷ s.front, s.back, e, l, inl (ap (λ (x : List ℕ). Name x) whole, (h, s.all)))

sign_spelled : (table : List Sign) (bs : List ℕ) → ((c : List ℕ) (k : TokenKind) → IsSign table c k → IsToken c k) → Spelled bs (sign_of table bs)
sign_spelled [] bs f = tt
sign_spelled (s ∷ more) bs f =
    by_cond (Spelled bs) (starts_with nat_eq bs s.0) _ _
    (λ h. (s.0, drop (length s.0) bs, starts bs s.0 h, refl, f s.0 s.1 (inl (refl, refl))))
    (λ h. sign_spelled more bs (λ c k i. f c k (inr i)))

pub spelled : (bs : List ℕ) → Spelled bs (token_on bs)
unfolding token_of
spelled [] = tt
spelled (b ∷ rest) = by_cond (Spelled (b ∷ rest)) (is_letter b) _ _ (name_spelled b rest) (λ h. sign_spelled signs (b ∷ rest) (λ c k i. inr i))

-- ---- no token is longer than what is found, and one of its length is it

abbrev pub Offers : ℕ → TokenKind → Front → Type 0
Offers n k Blank = ⊥
Offers n k (Taken j m) = (n ≤ m) × (n ≡ m → j ≡ k)
Offers n k Nothing = ⊥

name_offers : (c d : List ℕ) (k : TokenKind) → k ≡ Name c → IsName c → Offers (length c) k (token_on (c ++ d))
unfolding token_of
name_offers [] d k e h = absurd h
name_offers (x ∷ a) d k e h =
    let more = prefix_at_least is_name_byte a d h.1 in
    by_true (Offers (length (x ∷ a)) k) (is_letter x) _ _ h.0
    (omega arith, λ i. ap (λ (n : List ℕ). Name n) (taken ((x ∷ a) ++ d) (x ∷ a) d (name_len (a ++ d)) refl (sym i)) ∙ sym e)

sign_offers : (c d : List ℕ) (k : TokenKind) → IsSign signs c k → Offers (length c) k (token_on (c ++ d))
unfolding token_of
sign_offers c d k (inl e) = subst (λ (x : List ℕ). Offers (length x) k (token_on (x ++ d))) (sym e.0) (omega arith, λ i. sym e.1)
sign_offers c d k (inr (inl e)) = subst (λ (x : List ℕ). Offers (length x) k (token_on (x ++ d))) (sym e.0) (omega arith, λ i. sym e.1)
sign_offers c d k (inr (inr (inl e))) = subst (λ (x : List ℕ). Offers (length x) k (token_on (x ++ d))) (sym e.0) (omega arith, λ i. sym e.1)
sign_offers c d k (inr (inr (inr (inl e)))) =
    subst (λ (x : List ℕ). Offers (length x) k (token_on (x ++ d))) (sym e.0)
    (by_cond (Offers 1 k) (starts_with nat_eq (codes "|" ++ d) (codes "||")) _ _
    (λ m. (omega arith, λ i. absurd (omega arith))) (λ m. (omega arith, λ i. sym e.1)))
sign_offers c d k (inr (inr (inr (inr (inl e))))) = subst (λ (x : List ℕ). Offers (length x) k (token_on (x ++ d))) (sym e.0) (omega arith, λ i. sym e.1)
sign_offers c d k (inr (inr (inr (inr (inr (inl e)))))) = subst (λ (x : List ℕ). Offers (length x) k (token_on (x ++ d))) (sym e.0) (omega arith, λ i. sym e.1)
sign_offers c d k (inr (inr (inr (inr (inr (inr h)))))) = absurd h

pub offers : (c d : List ℕ) (k : TokenKind) → IsToken c k → Offers (length c) k (token_on (c ++ d))
offers c d k (inl h) = name_offers c d k h.0 h.1
offers c d k (inr h) = sign_offers c d k h

pub longest_token : (a c : List ℕ) (k : TokenKind) → IsLongest a c k → token_on (a ++ c) ≡ Taken k (length a)
longest_token a c k h = go (token_on (a ++ c)) refl
  where
    go : (f : Front) → token_on (a ++ c) ≡ f → token_on (a ++ c) ≡ Taken k (length a)
    go Blank e = absurd (subst (Spelled (a ++ c)) e (spelled (a ++ c)))
    go Nothing e = absurd (subst (Offers (length a) k) e (offers a c k h.token))
    go (Taken j n) e =
        let o = subst (Offers (length a) k) e (offers a c k h.token) in
        let s = subst (Spelled (a ++ c)) e (spelled (a ++ c)) in
        let m : length s.0 ≤ length a = h.longest s.0 s.1 j s.2 s.4 in
        let l : n ≡ length s.0 = s.3 in
        let o0 : length a ≤ n = o.0 in
        let same : length a ≡ n = omega arith in
        e ∙ ap (λ (x : TokenKind). Taken x n) (o.1 same) ∙ ap (λ (y : ℕ). Taken k y) (sym same)

pub token_longest : (bs : List ℕ) (k : TokenKind) (n : ℕ) → token_on bs ≡ Taken k n → (a c : List ℕ) × (bs ≡ a ++ c) × (n ≡ length a) × IsLongest a c k
token_longest bs k n e =
    let s = subst (Spelled bs) e (spelled bs) in
    let l : n ≡ length s.0 = s.3 in (
      s.0,
      s.1,
      s.2,
      l,
      record {
        token = s.4;
        longest = λ other left j f t.
            let o = subst (Offers (length other) j) (ap token_on (sym f ∙ sym s.2) ∙ e) (offers other left j t) in
            let o0 : length other ≤ n = o.0 in omega arith;
      },
    )

pub token_none : (bs : List ℕ) → token_on bs ≡ Nothing → HasNoToken bs
token_none bs e front after k f t = subst (Offers (length front) k) (ap token_on (sym f) ∙ e) (offers front after k t)

-- ---- tokens have bytes, and begin with no space

no_sign : (k : TokenKind) → IsSign signs [] k → ⊥
no_sign k (inl e) = absurd (cc e.0)
no_sign k (inr (inl e)) = absurd (cc e.0)
no_sign k (inr (inr (inl e))) = absurd (cc e.0)
no_sign k (inr (inr (inr (inl e)))) = absurd (cc e.0)
no_sign k (inr (inr (inr (inr (inl e))))) = absurd (cc e.0)
no_sign k (inr (inr (inr (inr (inr (inl e)))))) = absurd (cc e.0)
no_sign k (inr (inr (inr (inr (inr (inr h)))))) = h

no_token : (k : TokenKind) → IsToken [] k → ⊥
no_token k (inl h) = h.1
no_token k (inr h) = no_sign k h

pub token_some : (a : List ℕ) (k : TokenKind) → IsToken a k → 0 < length a
token_some [] k t = absurd (no_token k t)
token_some (x ∷ a) k t = omega arith

letter_no_space : (x : ℕ) → is_letter x ≡ true → is_space x ≡ false
letter_no_space x h = grind (arith, nat_tests)

sign_no_space : (x : ℕ) (a : List ℕ) (k : TokenKind) → IsSign signs (x ∷ a) k → is_space x ≡ false
sign_no_space x a k (inl e) = let h : x ≡ 60 = cc e.0 in ap is_space h
sign_no_space x a k (inr (inl e)) = let h : x ≡ 60 = cc e.0 in ap is_space h
sign_no_space x a k (inr (inr (inl e))) = let h : x ≡ 124 = cc e.0 in ap is_space h
sign_no_space x a k (inr (inr (inr (inl e)))) = let h : x ≡ 124 = cc e.0 in ap is_space h
sign_no_space x a k (inr (inr (inr (inr (inl e))))) = let h : x ≡ 40 = cc e.0 in ap is_space h
sign_no_space x a k (inr (inr (inr (inr (inr (inl e)))))) = let h : x ≡ 41 = cc e.0 in ap is_space h
sign_no_space x a k (inr (inr (inr (inr (inr (inr h)))))) = absurd h

token_no_space : (x : ℕ) (a : List ℕ) (k : TokenKind) → IsToken (x ∷ a) k → is_space x ≡ false
token_no_space x a k (inl h) = letter_no_space x h.1.0
token_no_space x a k (inr h) = sign_no_space x a k h

-- ---- the front is a space, the longest token or neither, as the definition has them

abbrev pub IsFront : ℕ → List ℕ → Front → Type 0
IsFront b rest Blank = is_space b ≡ true
IsFront b rest (Taken k n) = (a c : List ℕ) × (b ∷ rest ≡ a ++ c) × (n ≡ length a) × IsLongest a c k
IsFront b rest Nothing = (is_space b ≡ false) × HasNoToken (b ∷ rest)

pub is_front : (b : ℕ) (rest : List ℕ) → IsFront b rest (front_of b rest)
unfolding front_of
is_front b rest = by_cond (IsFront b rest) (is_space b) _ _ (λ h. h) (λ h. go h (token_of b rest) refl)
  where
    go : is_space b ≡ false → (f : Front) → token_of b rest ≡ f → IsFront b rest f
    go h Blank e = absurd (subst (Spelled (b ∷ rest)) e (spelled (b ∷ rest)))
    go h (Taken k n) e = token_longest (b ∷ rest) k n e
    go h Nothing e = (h, token_none (b ∷ rest) e)

pub space_front : (b : ℕ) (rest : List ℕ) → is_space b ≡ true → front_of b rest ≡ Blank
unfolding front_of
space_front b rest h = by_true (λ (f : Front). f ≡ Blank) (is_space b) _ _ h refl

pub token_front : (bs a c : List ℕ) (k : TokenKind) → bs ≡ a ++ c → IsLongest a c k → front_on bs ≡ Taken k (length a)
unfolding front_of
token_front bs [] c k e g = absurd (no_token k g.token)
token_front bs (x ∷ a) c k e g =
    ap front_on e ∙ by_false (λ (f : Front). f ≡ Taken k (length (x ∷ a))) (is_space x) _ _ (token_no_space x a k g.token) (longest_token (x ∷ a) c k g)

pub nothing_front : (b : ℕ) (rest : List ℕ) → is_space b ≡ false → HasNoToken (b ∷ rest) → front_of b rest ≡ Nothing
unfolding front_of
nothing_front b rest h none = by_false (λ (f : Front). f ≡ Nothing) (is_space b) _ _ h (go (token_of b rest) refl)
  where
    go : (f : Front) → token_of b rest ≡ f → token_of b rest ≡ Nothing
    go Blank e = absurd (subst (Spelled (b ∷ rest)) e (spelled (b ∷ rest)))
    go (Taken k n) e = let l = token_longest (b ∷ rest) k n e in absurd (none l.0 l.1 k l.2 l.4.token)
    go Nothing e = e
