-- What is read, level by level and part by part.
use Rattle.std.proofs.Common.{◌≡◌, ℕ, ◌+◌, ◌<◌, ◌≤◌, List, [], ◌++◌, length, get_or, drop, map, Ok, sym, ap, subst, ◌∙◌, rules}
use Rattle.std.proofs.Math.ListN.{drop_of_length-le}
use Rattle.std.proofs.lemmas.List.{drop_more}
use Rattle.asm_value.specs.declared.value.Value.{Value}
use Rattle.asm_value.specs.declared.domain.Domain.{Domain}
use Rattle.asm_value.specs.declared.domain.Domain.TheVariants.{Prod}
use Rattle.asm_value.specs.declared.domain.Domain.TheFolds.{fold_out-Domain, map-Domain}
use Rattle.asm_value.specs.declared.domain.Domain.TheViews.{out-Domain, the_lemmas}
use Rattle.asm_value.specs.declared.domain.DomainInfo.{DomainInfo}
use Rattle.asm_value.specs.declared.domain.Live.{Live}
use Rattle.asm_portable.specs.declared.port.Port.{Port}
use Rattle.asm_portable.specs.declared.reading.PortableRefusal.{PortableRefusal}
use Rattle.asm_portable.specs.declared.reading.PortableRefusal.TheVariants.{Misfit, NoMemory}
use Rattle.asm_portable.specs.Reading.{Read, misfit, on_read, of_part, with_first, items_read, parts_read, tuple_read, read_level, value_of}
use Rattle.asm_portable.specs.Reads.{IsWhy}

-- what one level reads, from the readings of its parts
pub value_of-out : (domains : List DomainInfo) (live : Live) (d : Domain) (t : Port)
    → value_of domains live d t
    ≡ read_level domains live
    (map-Domain Domain (Port → Read Value) (value_of domains live) (out-Domain d)) t
unfolding value_of
value_of-out domains live d t = ap (λ f. f t) (fold_out-Domain (Port → Read Value) _ d)

pub value_of-Prod : (domains : List DomainInfo) (live : Live) (parts : List Domain) (t : Port)
    → value_of domains live (Prod parts) t ≡ tuple_read (map (value_of domains live) parts) t
value_of-Prod domains live parts t =
    search (rules, value_of-out domains live (Prod parts) t, the_lemmas)

-- ---- what was read so far, with the rest

abbrev pub after : List Value → Read (List Value) → Read (List Value)
after vs rest = on_read rest (λ ws. Ok (vs ++ ws))

-- one more that isn't read
pub after-why : (vs : List Value) (first : Read Value) (rest : Read (List Value))
    (why : PortableRefusal)
    → IsWhy first why → IsWhy (after vs (with_first first rest)) why
after-why vs first rest (Misfit path) e = ap (λ r. after vs (with_first r rest)) e
after-why vs first rest NoMemory e = tt

-- the rest doesn't fit, so the whole doesn't
pub after-misfit : (vs : List Value) (rest whole : Read (List Value)) (why : PortableRefusal)
    → after vs rest ≡ whole → rest ≡ misfit → why ≡ Misfit [] → IsWhy whole why
after-misfit vs rest whole why is e w =
    subst (IsWhy whole) (sym w) (sym is ∙ ap (after vs) e)

-- ---- one item or part on

pub items_read-more : (item : Port → Read Value) (ts : List Port) (i : ℕ) (d : Port)
    → i < length ts
    → items_read item i (drop i ts)
    ≡ with_first (of_part i (item (get_or ts i d))) (items_read item (i + 1) (drop (i + 1) ts))
items_read-more item ts i d h = ap (items_read item i) (drop_more ts i d h)

pub parts_read-more : (f : Domain → Port → Read Value) (ds : List Domain) (ts : List Port) (i : ℕ)
    (d : Domain) (e : Port)
    → i < length ds → i < length ts
    → parts_read (map f (drop i ds)) i (drop i ts)
    ≡ with_first (of_part i (f (get_or ds i d) (get_or ts i e)))
    (parts_read (map f (drop (i + 1) ds)) (i + 1) (drop (i + 1) ts))
parts_read-more f ds ts i d e h k =
    λ j. parts_read (map f (drop_more ds i d h j)) i (drop_more ts i e k j)

-- there is no domain left for a tree
pub parts_read-many : (f : Domain → Port → Read Value) (ds : List Domain) (ts : List Port) (i : ℕ)
    (d : Port)
    → length ds ≤ i → i < length ts → parts_read (map f (drop i ds)) i (drop i ts) ≡ misfit
parts_read-many f ds ts i d h k =
    λ j. parts_read (map f (drop_of_length-le ds h j)) i (drop_more ts i d k j)

pub ruleset reading_steps = (value_of-out, value_of-Prod, the_lemmas)
