-- Members that are read back from their names.
use Rattle.std.proofs.Common.{◌≡◌, ℕ, ◌+◌, ◌^◌, ◌<◌, ◌≤◌, ◌==◌, ◌||◌, min, Bool, true, false, cond, Option, Some, None, Ok, option_and_then, List, [], ◌∷◌, ◌++◌, length, get_or, slice_get, codes, inl, inr, refl, sym, ap, ◌∙◌, arith, append_assoc}
use Rattle.std.specs.Option.{option_map_or}
use Rattle.std.specs.List.{find, AllByRecursion}
use Rattle.std.specs.Str.{bytes_eq}
use Rattle.std.specs.Fmt.{decimal}
use Rattle.std.proofs.lemmas.Option.{slice_get-get_or}
use Rattle.std.proofs.lemmas.Fmt.{decimal_injective}
use Rattle.std.proofs.lemmas.List.{append_cancel_left}
use Rattle.std.proofs.lemmas.Slice.Eq.{bytes_eq-Decides}
use Rattle.std.proofs.lemmas.Bool.Decides.{Decides-eqb, Decides-ltb}
use Rattle.asm_value.specs.declared.value.Value.{Value}
use Rattle.asm_value.specs.declared.value.Value.TheVariants.{Member}
use Rattle.asm_value.specs.declared.domain.DomainInfo.{DomainInfo}
use Rattle.asm_value.specs.declared.domain.DomainKind.{DomainKind}
use Rattle.asm_value.specs.declared.domain.DomainKind.TheVariants as kind
use Rattle.asm_value.specs.declared.domain.Live.{Live}
use Rattle.asm_value.specs.Domain.{has_literal, is_literal, is_live}
use Rattle.asm_value.specs.Living.{is_abstract_kind}
use Rattle.asm_value.specs.Members.{literals_of, literal_count, live_indexes}
use Rattle.asm_value.specs.Ranges.{Mem}
use Rattle.asm_value.proofs.Listing.{mem-found, found-mem, mem_number, numbers_below}
use Rattle.asm_value.proofs.MemberLists.{live_is, literal_below}
use Rattle.asm_portable.specs.declared.port.Port.{Port}
use Rattle.asm_portable.specs.declared.port.Port.TheOpen.{Port-F}
use Rattle.asm_portable.specs.declared.port.Port.TheVariants as ports
use Rattle.asm_portable.specs.declared.port.Port.TheViews.{out-Port}
use Rattle.asm_portable.specs.declared.port.Field.{Field}
use Rattle.asm_portable.specs.Ports.{text_level}
use Rattle.asm_portable.specs.Values.{numbered, member_of_kind, member_name}
use Rattle.asm_portable.specs.Reading.{Read, literals_in, first_named, member_if, member_read}
use Rattle.asm_portable.specs.Naming.{names_of, names_if, names_at, has_mark, TellsApart}
use Rattle.asm_portable.proofs.Levels.{out_port_text, same_port}

-- ---- searches

module _ {X : Type 0} (test : X → Bool) where
  -- the one member of a list that passes is found
  pub find_only : (x : X) (xs : List X) → test x ≡ true
      → ((y : X) → Mem y xs → test y ≡ true → y ≡ x) → Mem x xs → find test xs ≡ Some x
  find_only x [] own only m = absurd m
  find_only x (y ∷ ys) own only m =
      elim (test y) as (λ b. test y ≡ b → cond b (Some y) (find test ys) ≡ Some x) [
        | true ↦ λ e. ap Some (only y (inl refl) e)
        | false ↦ λ e. elim m [
          | inl here ↦ absurd (let unlike : true ≡ false = sym own ∙ ap test here ∙ e in cc)
          | inr later ↦ find_only x ys own (λ z k f. only z (inr k) f) later
        ]
      ] refl

  -- what is found is a member that passes
  pub found_passes : (x : X) (xs : List X) → find test xs ≡ Some x → Mem x xs × (test x ≡ true)
  found_passes x [] e = absurd (let none : None ≡ Some x = e in cc)
  found_passes x (y ∷ ys) e =
      elim (test y) as (λ b. test y ≡ b → cond b (Some y) (find test ys) ≡ Some x
      → Mem x (y ∷ ys) × (test x ≡ true)) [
        | true ↦ λ t f. (inl (sym (same y x f)), ap test (sym (same y x f)) ∙ t)
        | false ↦ λ t f. let more = found_passes x ys f in (inr more.0, more.1)
      ] refl e
    where
      same : (a b : X) → Some a ≡ Some b → a ≡ b
      same a b e = cc

-- ---- names

-- an item of a list
item_there : {X : Type 0} (xs : List X) (i : ℕ) → i < length xs
    → (x : X) × (slice_get xs i ≡ Some x)
item_there [] i h = absurd (omega (arith, h))
item_there (x ∷ xs) i h = (get_or (x ∷ xs) i x, slice_get-get_or (x ∷ xs) i x h)

-- the name of a literal
literal_named : (o : Option DomainInfo) (i : ℕ)
    → elim o as (λ _. Bool) [ None ↦ false | Some info ↦ has_literal info.kind i ] ≡ true
    → (name : List ℕ) × (slice_get (names_if o) i ≡ Some name)
    × (option_map_or (λ info. member_of_kind info.name i info.kind) o [] ≡ name)
literal_named None i e = absurd (cc)
literal_named (Some info) i e = kind_named info.name info.kind i e
  where
    kind_named : (own : List ℕ) (k : DomainKind) (i : ℕ) → has_literal k i ≡ true
        → (name : List ℕ) × (slice_get (names_of k) i ≡ Some name)
        × (member_of_kind own i k ≡ name)
    kind_named own (kind.Enum names) i e =
        let there = item_there names i ((Decides-ltb i (length names)).0 e) in
        (there.0, there.1, ap (λ o. option_map_or (λ n. n) o []) there.1)
    kind_named own (kind.Abstract names) i e = absurd (cc)
    kind_named own (kind.Subset numbers) i e = absurd (cc)

-- the literals are among the names
literals_are_names : (o : Option DomainInfo)
    → elim o as (λ _. ℕ) [ None ↦ 0 | Some info ↦ literals_of info.kind ] ≤ length (names_if o)
literals_are_names None = omega arith
literals_are_names (Some info) = of_kind info.kind
  where
    of_kind : (k : DomainKind) → literals_of k ≤ length (names_of k)
    of_kind (kind.Enum names) = omega arith
    of_kind (kind.Abstract names) = omega arith
    of_kind (kind.Subset numbers) = omega arith

literal_from : (o : Option DomainInfo) (i : ℕ)
    → i < elim o as (λ _. ℕ) [ None ↦ 0 | Some info ↦ literals_of info.kind ]
    → elim o as (λ _. Bool) [ None ↦ false | Some info ↦ has_literal info.kind i ] ≡ true
literal_from None i h = absurd (omega (arith, h))
literal_from (Some info) i h = of_kind info.kind i h
  where
    of_kind : (k : DomainKind) (i : ℕ) → i < literals_of k → has_literal k i ≡ true
    of_kind (kind.Enum names) i h = (Decides-ltb i (length names)).1 h
    of_kind (kind.Abstract names) i h = absurd (omega (arith, h))
    of_kind (kind.Subset numbers) i h = absurd (omega (arith, h))

-- ---- new members

any_right : (xs ys : List ℕ) → has_mark ys ≡ true → has_mark (xs ++ ys) ≡ true
any_right [] ys h = h
any_right (x ∷ xs) ys h = or_true (x == 33) (has_mark (xs ++ ys)) (any_right xs ys h)
  where
    or_true : (a b : Bool) → b ≡ true → (a || b) ≡ true
    or_true true b e = refl
    or_true false b e = e

marked : (own : List ℕ) (i : ℕ) → has_mark (numbered own i) ≡ true
marked own i = ap has_mark (append_assoc own (codes "!") (decimal i)) ∙ any_right own (codes "!" ++ decimal i) refl

one_number : (own : List ℕ) (i j : ℕ) → i < 256 → j < 256 → numbered own i ≡ numbered own j → i ≡ j
one_number own i j h k e =
    let small : i < 2 ^ 64 = omega (arith, h) in
    let small_too : j < 2 ^ 64 = omega (arith, k) in
    decimal_injective i j small small_too (append_cancel_left (own ++ codes "!") (decimal i) (decimal j) e)

-- a constant's name or that of a new member, by the constant's if there is one
abbrev named_by : List ℕ → ℕ → Option (List ℕ) → List ℕ
named_by own i o = option_map_or (λ n. n) o (numbered own i)

module _ (own : List ℕ) (names : List (List ℕ))
    (differ : (i j : ℕ) (name : List ℕ) → slice_get names i ≡ Some name → slice_get names j ≡ Some name → i ≡ j)
    (unmarked : (i : ℕ) (name : List ℕ) → slice_get names i ≡ Some name → has_mark name ≡ false) where
  clash : (i j : ℕ) (name : List ℕ) → slice_get names i ≡ Some name → name ≡ numbered own j → ⊥
  clash i j name is e =
      let unlike : true ≡ false = sym (marked own j) ∙ ap has_mark (sym e) ∙ unmarked i name is in cc

  names_tell : (i j : ℕ) (a b : Option (List ℕ)) → slice_get names i ≡ a → slice_get names j ≡ b
      → i < 256 → j < 256 → named_by own i a ≡ named_by own j b → i ≡ j
  names_tell i j (Some m) (Some n) is js h k e = differ i j m is (js ∙ ap Some (sym e))
  names_tell i j (Some m) None is js h k e = absurd (clash i j m is e)
  names_tell i j None (Some n) is js h k e = absurd (clash j i n js (sym e))
  names_tell i j None None is js h k e = one_number own i j h k e

-- ---- what is listed is there

pub literal_there : (domains : List DomainInfo) (d j : ℕ) → Mem j (literals_in domains d) → is_literal domains d j ≡ true
literal_there domains d j m =
    literal_from (slice_get domains d) j
    (below j _ m (numbers_below 0 (min (literal_count domains d) 65535)))
  where
    below : (j : ℕ) (xs : List ℕ) → Mem j xs → AllByRecursion (λ i. i < 0 + min (literal_count domains d) 65535) xs → j < literal_count domains d
    below j [] m h = absurd m
    below j (x ∷ xs) m h = elim m [
      | inl e ↦ omega (arith, e, h.0)
      | inr k ↦ below j xs k h.1
    ]

pub live_there : (live : Live) (d j : ℕ) → Mem j (live_indexes live d) → is_live live d j ≡ true
live_there live d j m =
    live_is (slice_get live.members d) j
    ∙ found-mem (λ a b. a == b) Decides-eqb j (live_indexes live d) m

module _ (domains : List DomainInfo) (live : Live) (apart : TellsApart domains live) where
  -- ---- literals

  abbrev named_so : ℕ → ℕ → ℕ → Bool
  named_so d i j = bytes_eq (member_name domains d i) (member_name domains d j)

  literals_tell : (d i j : ℕ) → is_literal domains d i ≡ true → is_literal domains d j ≡ true
      → named_so d i j ≡ true → j ≡ i
  literals_tell d i j a b e =
      let first = literal_named (slice_get domains d) i a in
      let second = literal_named (slice_get domains d) j b in
      let same : first.0 ≡ second.0 =
      sym first.2 ∙ (bytes_eq-Decides (member_name domains d i) (member_name domains d j)).0 e ∙ second.2 in
      apart.differ d j i second.0 second.1 (first.1 ∙ ap Some same)

  pub literal_back : (d i : ℕ) → is_literal domains d i ≡ true
      → first_named domains d (literals_in domains d) (member_name domains d i) ≡ Some i
  literal_back d i is =
      let count : i < literal_count domains d = literal_below (slice_get domains d) i is in
      let few : literal_count domains d ≤ 256 =
      omega (arith, literals_are_names (slice_get domains d), apart.few d) in
      find_only (named_so d i) i (literals_in domains d)
      ((bytes_eq-Decides (member_name domains d i) (member_name domains d i)).1 refl)
      (λ j m e. literals_tell d i j is (literal_there domains d j m) e)
      (mem_number i 0 _ (omega arith) (omega (arith, count, few)))

  -- ---- members

  members_tell : (d i j : ℕ) (o : Option DomainInfo) → slice_get domains d ≡ o
      → elim o as (λ _. Bool) [ None ↦ false | Some info ↦ is_abstract_kind info.kind ] ≡ true
      → i < 256 → j < 256
      → option_map_or (λ info. member_of_kind info.name i info.kind) o []
      ≡ option_map_or (λ info. member_of_kind info.name j info.kind) o [] → i ≡ j
  members_tell d i j None is abstract h k e = absurd (cc)
  members_tell d i j (Some info) is abstract h k e = of_kind info.kind refl abstract e
    where
      at : (l : ℕ) (names : List (List ℕ)) → info.kind ≡ kind.Abstract names
          → slice_get (names_at domains d) l ≡ slice_get names l
      at l names s = ap (λ o. slice_get (names_if o) l) is ∙ ap (λ k. slice_get (names_of k) l) s

      of_kind : (k : DomainKind) → info.kind ≡ k → is_abstract_kind k ≡ true
          → member_of_kind info.name i k ≡ member_of_kind info.name j k → i ≡ j
      of_kind (kind.Enum names) s a e = absurd (cc)
      of_kind (kind.Abstract names) s a e =
          names_tell info.name names
          (λ l m name p q. apart.differ d l m name (at l names s ∙ p) (at m names s ∙ q))
          (λ l name p. apart.unmarked d l name (at l names s ∙ p))
          i j (slice_get names i) (slice_get names j) refl refl h k e
      of_kind (kind.Subset numbers) s a e = absurd (cc)

  live_tell : (d i j : ℕ) → is_live live d i ≡ true → is_live live d j ≡ true
      → named_so d i j ≡ true → j ≡ i
  live_tell d i j a b e =
      sym (members_tell d i j (slice_get domains d) refl (apart.abstract d i a) (apart.small d i a) (apart.small d j b)
      ((bytes_eq-Decides (member_name domains d i) (member_name domains d j)).0 e))

  pub member_back : (d i : ℕ) → is_live live d i ≡ true
      → first_named domains d (live_indexes live d) (member_name domains d i) ≡ Some i
  member_back d i is =
      find_only (named_so d i) i (live_indexes live d)
      ((bytes_eq-Decides (member_name domains d i) (member_name domains d i)).1 refl)
      (λ j m e. live_tell d i j is (live_there live d j m) e)
      (mem-found (λ a b. a == b) Decides-eqb i (live_indexes live d)
      (sym (live_is (slice_get live.members d) i) ∙ is))

-- ---- trees

same_value : (a b : Value) → ◌≡◌ {A = Read Value} (Ok a) (Ok b) → a ≡ b
same_value a b e = cc

module _ (domains : List DomainInfo) (d : ℕ) (indexes : List ℕ) where
  abbrev read_by : Option (List ℕ) → Read Value
  read_by o = member_if d (option_and_then (first_named domains d indexes) o)

  pub named_back : (i : ℕ) → first_named domains d indexes (member_name domains d i) ≡ Some i
      → member_read domains d indexes (ports.Text (member_name domains d i)) ≡ Ok (Member d i)
  named_back i found =
      ap (λ a. read_by (text_level a)) (out_port_text (member_name domains d i))
      ∙ ap (member_if d) found

  member_some : (o : Option ℕ) (v : Value) → member_if d o ≡ Ok v
      → (i : ℕ) × (o ≡ Some i) × (v ≡ Member d i)
  member_some None v e = absurd (cc)
  member_some (Some i) v e = (i, refl, sym (same_value (Member d i) v e))

  -- what is read is a member among these, by its own name
  member_level : (t : Port) (a : Port-F Port Field) (v : Value) → out-Port t ≡ a → read_by (text_level a) ≡ Ok v
      → (i : ℕ) × (v ≡ Member d i) × Mem i indexes × (t ≡ ports.Text (member_name domains d i))
  member_level t (Port-F.Text name) v o e =
      let some = member_some (first_named domains d indexes name) v e in
      let found = found_passes (λ i. bytes_eq name (member_name domains d i)) some.0 indexes some.1 in
      let is = (bytes_eq-Decides name (member_name domains d some.0)).0 found.1 in (
        some.0,
        some.2,
        found.0,
        same_port t (ports.Text (member_name domains d some.0))
            (o ∙ ap (λ n. Port-F.Text n) is ∙ sym (out_port_text (member_name domains d some.0))),
      )
  member_level t a v o e = absurd (cc)

  pub member_from : (t : Port) (v : Value) → member_read domains d indexes t ≡ Ok v
      → (i : ℕ) × (v ≡ Member d i) × Mem i indexes × (t ≡ ports.Text (member_name domains d i))
  member_from t v e = member_level t (out-Port t) v refl e
