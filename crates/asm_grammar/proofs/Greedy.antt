-- What holds of each value that a parser takes, with what is left after it; and the parsers that leave nothing which may go on.
use Rattle.std.proofs.Common.{◌≡◌, List, Bool, true, false, refl}
use Rattle.std.specs.Prelude.{cond, Option, Some, None}
use Rattle.asm_grammar.specs.Parser.{Reply, Took, Refused, Parser, sees, choose, mapped, both, optional, taken, measured}
use Rattle.asm_grammar.proofs.Exact.{Ends}
use Rattle.asm_grammar.proofs.Basic.{remade}
use Rattle.asm_grammar.proofs.Pairs.{with_next}
use Rattle.asm_grammar.proofs.Spans.{with_span}

-- ---- a fact of each value and what is left

abbrev pub GoodAt : {T V : Type 0} → (V → List T → Type 0) → Reply T V → Type 0
GoodAt P (Took v rest) = P v rest
GoodAt P (Refused x rest) = Unit {0}

abbrev pub Good : {T V : Type 0} → (V → List T → Type 0) → Parser T V → Type 0
Good {T} P p = (ts : List T) → GoodAt P (p ts)

map_at : {T V W : Type 0} (P : W → List T → Type 0) (f : V → W) (r : Reply T V) → GoodAt (λ v rest. P (f v) rest) r → GoodAt P (remade f r)
map_at P f (Took v rest) h = h
map_at P f (Refused x rest) h = tt

pub good-mapped : {T V W : Type 0} (P : W → List T → Type 0) (f : V → W) (p : Parser T V)
    → Good (λ v rest. P (f v) rest) p → Good P (mapped f p)
good-mapped P f p h ts = map_at P f (p ts) (h ts)

both_at : {T V W : Type 0} (P : V × W → List T → Type 0) (q : Parser T W) → ((v : V) → Good (λ w rest. P (v, w) rest) q)
    → (r : Reply T V) → GoodAt P (with_next r q)
both_at P q h (Took v rest) = map_at P (λ w. (v, w)) (q rest) (h v rest)
both_at P q h (Refused x rest) = tt

pub good-both : {T V W : Type 0} (P : V × W → List T → Type 0) (p : Parser T V) (q : Parser T W)
    → ((v : V) → Good (λ w rest. P (v, w) rest) q) → Good P (both p q)
good-both P p q h ts = both_at P q h (p ts)

pub choose_at : {T V : Type 0} (P : V → List T → Type 0) (x : Bool) (r r' : Reply T V) → GoodAt P r → GoodAt P r' → GoodAt P (cond x r r')
choose_at P true (Took v rest) r' h h' = h
choose_at P true (Refused y rest) r' h h' = tt
choose_at P false r (Took v rest) h h' = h'
choose_at P false r (Refused y rest) h h' = tt

pub good-choose : {T V : Type 0} (P : V → List T → Type 0) (F : T → Bool) (p q : Parser T V) → Good P p → Good P q → Good P (choose F p q)
good-choose P F p q h h' ts = choose_at P (sees F ts) (p ts) (q ts) (h ts) (h' ts)

optional_at : {T V : Type 0} (P : Option V → List T → Type 0) (F : T → Bool) (ts : List T) (r : Reply T V)
    → GoodAt (λ v rest. P (Some v) rest) r → (sees F ts ≡ false → P None ts)
    → (x : Bool) → sees F ts ≡ x → GoodAt P (cond x (remade Some r) (Took None ts))
optional_at P F ts r h n true i = map_at P Some r h
optional_at P F ts r h n false i = n i

pub good-optional : {T V : Type 0} (P : Option V → List T → Type 0) (F : T → Bool) (p : Parser T V)
    → Good (λ v rest. P (Some v) rest) p → ((ts : List T) → sees F ts ≡ false → P None ts) → Good P (optional F p)
good-optional P F p h n ts = optional_at P F ts (p ts) (h ts) (n ts) (sees F ts) refl

measured_at : {T V W S : Type 0} (P : W → List T → Type 0) (span : List T → S) (f : S → V → W) (ts : List T) (r : Reply T V)
    → GoodAt (λ v rest. (s : S) → P (f s v) rest) r → GoodAt P (with_span span f ts r)
measured_at P span f ts (Took v rest) h = h (span (taken ts rest))
measured_at P span f ts (Refused x rest) h = tt

-- what holds whatever the span is
pub good-measured : {T V W S : Type 0} (P : W → List T → Type 0) (span : List T → S) (f : S → V → W) (p : Parser T V)
    → Good (λ v rest. (s : S) → P (f s v) rest) p → Good P (measured span f p)
good-measured P span f p h ts = measured_at P span f ts (p ts) (h ts)

weaken_at : {T V : Type 0} (P Q : V → List T → Type 0) (h : (v : V) (rest : List T) → P v rest → Q v rest) (r : Reply T V)
    → GoodAt P r → GoodAt Q r
weaken_at P Q h (Took v rest) g = h v rest g
weaken_at P Q h (Refused x rest) g = tt

-- what follows from it holds too
pub good-weaken : {T V : Type 0} (P Q : V → List T → Type 0) (p : Parser T V) → ((v : V) (rest : List T) → P v rest → Q v rest)
    → Good P p → Good Q p
good-weaken P Q p h g ts = weaken_at P Q h (p ts) (g ts)

always_at : {T V : Type 0} (P : V → List T → Type 0) (h : (v : V) (rest : List T) → P v rest) (r : Reply T V) → GoodAt P r
always_at P h (Took v rest) = h v rest
always_at P h (Refused x rest) = tt

pub good-always : {T V : Type 0} (P : V → List T → Type 0) (p : Parser T V) → ((v : V) (rest : List T) → P v rest) → Good P p
good-always P p h ts = always_at P h (p ts)

-- ---- greedy parsers

-- after a value that isn't closed the parser leaves no token of F
abbrev pub GreedyAt : {T V : Type 0} → (V → Bool) → (T → Bool) → Reply T V → Type 0
GreedyAt is_closed F (Took v rest) = is_closed v ≡ false → Ends F rest
GreedyAt is_closed F (Refused x rest) = Unit {0}

abbrev pub Greedy : {T V : Type 0} → (V → Bool) → (T → Bool) → Parser T V → Type 0
Greedy {T} is_closed F p = (ts : List T) → GreedyAt is_closed F (p ts)

pub greedy_good : {T V : Type 0} (is_closed : V → Bool) (F : T → Bool) (p : Parser T V)
    → Good (λ v rest. is_closed v ≡ false → Ends F rest) p → Greedy is_closed F p
greedy_good {T} {V} is_closed F p h ts = go (p ts) (h ts)
  where
    go : (r : Reply T V) → GoodAt (λ v rest. is_closed v ≡ false → Ends F rest) r → GreedyAt is_closed F r
    go (Took v rest) x = x
    go (Refused y rest) x = tt

pub good_greedy : {T V : Type 0} (is_closed : V → Bool) (F : T → Bool) (p : Parser T V)
    → Greedy is_closed F p → Good (λ v rest. is_closed v ≡ false → Ends F rest) p
good_greedy {T} {V} is_closed F p h ts = go (p ts) (h ts)
  where
    go : (r : Reply T V) → GreedyAt is_closed F r → GoodAt (λ v rest. is_closed v ≡ false → Ends F rest) r
    go (Took v rest) x = x
    go (Refused y rest) x = tt
