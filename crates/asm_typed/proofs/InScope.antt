-- Variables that come into scope one after the other.
use Rattle.std.proofs.Common.{◌≡◌, ℕ, ◌+◌, ◌-◌, Bool, true, false, ◌<◌, ◌≤◌, Option, Some, None, List, [], ◌∷◌, ◌++◌, length, get_or, take, refl, sym, ap, ◌∙◌, if◌then◌else◌, arith}
use Rattle.std.specs.Str.{bytes_eq}
use Rattle.std.proofs.lemmas.List.{take_more, length-take-le}
use Rattle.asm_typing.specs.declared.types.Type.{«Type» as TermType}
use Rattle.asm_program.specs.TypedTerms.{Variables, variable_from, variable_at}

-- the last variable is found first
from-last : (i : ℕ) (vs : Variables) (v : List ℕ × TermType) (name : List ℕ) (found : Option (ℕ × TermType))
    → variable_from i (vs ++ v ∷ []) name found ≡ (if bytes_eq v.0 name then Some (i + length vs, v.1) else variable_from i vs name found)
from-last i [] v name found =
    let e : i ≡ i + 0 = omega arith in
    ap (λ n. if bytes_eq v.0 name then Some (n, v.1) else found) e
from-last i (u ∷ vs) v name found =
    let e : i + 1 + length vs ≡ i + length (u ∷ vs) = omega arith in
    from-last (i + 1) vs v name (if bytes_eq u.0 name then Some (i, u.1) else found)
    ∙ ap (λ n. if bytes_eq v.0 name then Some (n, v.1) else variable_from i (u ∷ vs) name found) e

pub at-last : (vs : Variables) (i : ℕ) (d : List ℕ × TermType) (name : List ℕ) → i < length vs
    → variable_at (take (i + 1) vs) name
    ≡ (if bytes_eq (get_or vs i d).0 name then Some (i, (get_or vs i d).1) else variable_at (take i vs) name)
at-last vs i d name h =
    let v = get_or vs i d in
    let short : i ≤ length vs = omega arith in
    let same : 0 + length (take i vs) ≡ i = omega (arith, length-take-le i vs short) in
    ap (λ ws. variable_at ws name) (take_more vs i d h)
    ∙ from-last 0 (take i vs) v name None
    ∙ ap (λ n. if bytes_eq v.0 name then Some (n, v.1) else variable_at (take i vs) name) same

at-from_end : (vs : Variables) (p i : ℕ) (v : List ℕ × TermType) (name : List ℕ) → v ≡ get_or vs i v → i + 1 ≡ length vs - p → i < length vs
    → variable_at (take (length vs - p) vs) name ≡ (if bytes_eq v.0 name then Some (i, v.1) else variable_at (take i vs) name)
at-from_end vs p i v name is e h =
    ap (λ n. variable_at (take n vs) name) (sym e)
    ∙ at-last vs i v name h
    ∙ ap (λ u. if bytes_eq u.0 name then Some (i, u.1) else variable_at (take i vs) name) (sym is)

pub found-here : (vs : Variables) (p i : ℕ) (v : List ℕ × TermType) (t : TermType) (name : List ℕ) → v ≡ get_or vs i v
    → i + 1 ≡ length vs - p → i < length vs → bytes_eq v.0 name ≡ true → t ≡ v.1
    → variable_at (take (length vs - p) vs) name ≡ variable_at vs name → Some (i, t) ≡ variable_at vs name
found-here vs p i v t name is e h same known inv =
    ap (λ u. Some (i, u)) known
    ∙ ap (λ b. if b then Some (i, v.1) else variable_at (take i vs) name) (sym same)
    ∙ sym (at-from_end vs p i v name is e h)
    ∙ inv

pub not-here : (vs : Variables) (p i : ℕ) (v : List ℕ × TermType) (name : List ℕ) → v ≡ get_or vs i v
    → i + 1 ≡ length vs - p → i < length vs → bytes_eq v.0 name ≡ false
    → variable_at (take (length vs - p) vs) name ≡ variable_at vs name
    → variable_at (take (length vs - (p + 1)) vs) name ≡ variable_at vs name
not-here vs p i v name is e h other inv =
    let f : length vs - (p + 1) ≡ i = omega arith in
    ap (λ n. variable_at (take n vs) name) f
    ∙ ap (λ b. if b then Some (i, v.1) else variable_at (take i vs) name) (sym other)
    ∙ sym (at-from_end vs p i v name is e h)
    ∙ inv

pub ruleset find_steps = (at-last)
