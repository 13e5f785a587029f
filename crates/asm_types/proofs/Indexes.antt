-- Indexes below a count, one after the other.
use Rattle.std.proofs.Common.{◌≡◌, ℕ, ◌+◌, ◌<◌, ◌≤◌, List, [], ◌∷◌, ◌++◌, length, map, take, get_or, refl, sym, ap, ◌∙◌, arith}
use Rattle.std.specs.List.{range_with_len}
use Rattle.std.proofs.lemmas.List.{map_more, take_all}
use Rattle.std.proofs.lemmas.List.FromFn.{map-range_with_len_more}
use Rattle.asm_value.specs.declared.domain.DomainInfo.{DomainInfo}
use Rattle.asm_program.specs.Members.{indexes_of}

map_same : (xs : List ℕ) → map (λ k. k) xs ≡ xs
map_same [] = refl
map_same (x ∷ xs) = ap (λ ys. x ∷ ys) (map_same xs)

pub indexes-more : (n : ℕ) → range_with_len 0 (n + 1) ≡ range_with_len 0 n ++ n ∷ []
indexes-more n =
    sym (map_same (range_with_len 0 (n + 1))) ∙ map-range_with_len_more (λ k. k) 0 n n (omega arith)
    ∙ ap (λ xs. xs ++ n ∷ []) (map_same (range_with_len 0 n))

pub all-more : (all new : List (List ℕ)) (xs : List DomainInfo) (i : ℕ) (d : DomainInfo) → i < length xs → all ≡ map (λ info. indexes_of info.kind) (take i xs)
    → new ≡ all ++ indexes_of (get_or xs i d).kind ∷ [] → new ≡ map (λ info. indexes_of info.kind) (take (i + 1) xs)
all-more all new xs i d h e n =
    n ∙ ap (λ ys. ys ++ indexes_of (get_or xs i d).kind ∷ []) e ∙ sym (map_more (λ (info : DomainInfo). indexes_of info.kind) xs i d h)

pub all-end : (all : List (List ℕ)) (xs : List DomainInfo) (i : ℕ) → length xs ≤ i → all ≡ map (λ info. indexes_of info.kind) (take i xs)
    → all ≡ map (λ info. indexes_of info.kind) xs
all-end all xs i h e = e ∙ ap (λ ys. map (λ (info : DomainInfo). indexes_of info.kind) ys) (take_all i xs h)

pub ruleset index_steps = (indexes-more, all-more, all-end)
