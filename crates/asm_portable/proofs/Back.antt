-- A value is read back from its tree.
use Rattle.std.proofs.Common.{◌≡◌, ℕ, ◌≤◌, ◌==◌, Bool, true, cond, Ok, List, [], ◌∷◌, map, refl, sym, ap, subst, ◌∙◌}
use Rattle.std.specs.List.{AllByRecursion, list_all}
use Rattle.std.proofs.lemmas.Bool.Decides.{Decides-eqb}
use Rattle.std.proofs.lemmas.Bool.{le-leb}
use Rattle.asm_value.specs.declared.value.Value.{Value}
use Rattle.asm_value.specs.declared.value.Value.TheOpen.{Value-F}
use Rattle.asm_value.specs.declared.value.Value.TheVariants.{Truth, Int, Chars, Member, Tuple, Seq, Set}
use Rattle.asm_value.specs.declared.value.Value.TheFolds.{map-Value}
use Rattle.asm_value.specs.declared.value.Value.TheViews.{out-Value}
use Rattle.asm_value.specs.declared.domain.Domain.{Domain}
use Rattle.asm_value.specs.declared.domain.Domain.TheOpen.{Domain-F}
use Rattle.asm_value.specs.declared.domain.Domain.TheFolds.{map-Domain}
use Rattle.asm_value.specs.declared.domain.Domain.TheViews.{out-Domain}
use Rattle.asm_value.specs.declared.domain.DomainInfo.{DomainInfo}
use Rattle.asm_value.specs.declared.domain.Live.{Live}
use Rattle.asm_value.specs.Members.{live_indexes}
use Rattle.asm_value.specs.Value.{items, parts, whole_weight}
use Rattle.asm_value.specs.TotalOrders.{by_parts}
use Rattle.asm_value.specs.Proper.{IsProper, IsProperLevel}
use Rattle.asm_value.specs.Domain.{fits, fits_level, each_passes, is_literal, is_live, is_in_subset, is_natural}
use Rattle.asm_value.proofs.DomainLaws.{fits-out}
use Rattle.asm_value.proofs.ProperLaws.{IsProper-level, IsProper-parts}
use Rattle.asm_value.proofs.Listing.{first_true, second_true, both_true}
use Rattle.asm_value.proofs.MemberLists.{out_truth, out_int, out_member, out_tuple, out_set, same_out}
use Rattle.asm_operations.specs.Limits.{is_short_level, keeps_limits}
use Rattle.asm_portable.specs.declared.port.Port.{Port}
use Rattle.asm_portable.specs.declared.port.Port.TheVariants as ports
use Rattle.asm_portable.specs.Ports.{list_level, text_level}
use Rattle.asm_portable.specs.Values.{port_of, port_level, member_name}
use Rattle.asm_portable.specs.Reading.{Read, literals_in, misfit, on_read, kept, truth_level, string_if, items_read, parts_read, listed_read, read_level, value_of}
use Rattle.asm_portable.specs.Naming.{TellsApart, HasIntegers, IsShort, KeepsLimits, is_whole_level}
use Rattle.asm_portable.proofs.ValuesLaws.{port_of-out}
use Rattle.asm_portable.proofs.ReadingLaws.{value_of-out}
use Rattle.asm_portable.proofs.Levels.{out_chars, out_seq, out_port_bool, out_port_text, out_port_list, every-level, every-parts, parts_light}
use Rattle.asm_portable.proofs.Integers.{integer_back}
use Rattle.asm_portable.proofs.Members.{literal_back, member_back, named_back}
use Rattle.asm_portable.proofs.PartsBack.{items_back, EachBack, parts_back, tuple_kept, sequence_kept, set_kept}
use Rattle.asm_operations.specs.Operations.{tuple_of, sequence_of, set_of}

-- what is asked of a value
pub record IsFair (v : Value) : Type 0 where
  pub proper : IsProper v
  pub integers : HasIntegers v
  pub limits : KeepsLimits v

-- what is asked of one level of it
record IsFairLevel (v : Value) (a : Value-F Value) : Type 0 where
  pub proper : IsProperLevel a
  pub integers : is_whole_level a ≡ true
  pub short : is_short_level a ≡ true
  pub light : whole_weight v ≤ 4096

fair_level : (v : Value) (a : Value-F Value) → out-Value v ≡ a → IsFair v → IsFairLevel v a
fair_level v a o h = record {
  proper = subst IsProperLevel o (IsProper-level v h.proper);
  integers = ap (λ b. is_whole_level b) (sym o) ∙ every-level (λ b. is_whole_level b ≡ true) v h.integers;
  short = ap (λ b. is_short_level b) (sym o) ∙ every-level (λ b. is_short_level b ≡ true) v h.limits.short;
  light = h.limits.light;
}

all_fair : (xs : List Value) → AllByRecursion IsProper xs → AllByRecursion HasIntegers xs
    → AllByRecursion IsShort xs → AllByRecursion (λ x. whole_weight x ≤ 4096) xs
    → AllByRecursion IsFair xs
all_fair [] p i s w = tt
all_fair (x ∷ xs) p i s w = (
  record { proper = p.0; integers = i.0; limits = record { short = s.0; light = w.0 } },
  all_fair xs p.1 i.1 s.1 w.1,
)

pub fair_parts : (v : Value) → IsFair v → AllByRecursion IsFair (parts v)
fair_parts v h =
    all_fair (parts v) (IsProper-parts v h.proper)
    (every-parts (λ b. is_whole_level b ≡ true) v h.integers)
    (every-parts (λ b. is_short_level b ≡ true) v h.limits.short)
    (parts_light v 4096 h.limits.light)

-- a level within its limits is that of a value that keeps them
keeps : (v : Value) (a : Value-F Value) → out-Value v ≡ a → IsFairLevel v a → keeps_limits v ≡ true
keeps v a o h =
    both_true _ _ (ap (λ b. is_short_level b) o ∙ h.short) (le-leb (whole_weight v) 4096 h.light)

module _ (domains : List DomainInfo) (live : Live) (apart : TellsApart domains live) where
  abbrev write : Value → Port
  write = port_of domains

  abbrev tests_of : Domain-F Domain → Domain-F (Value → Bool)
  tests_of a = map-Domain Domain (Value → Bool) (fits domains live) a

  abbrev reads_of : Domain-F Domain → Domain-F (Port → Read Value)
  reads_of a = map-Domain Domain (Port → Read Value) (value_of domains live) a

  -- the value is read back in each domain that it fits
  abbrev IsBack : Value → Type 0
  IsBack v = (d : Domain) → fits domains live d v ≡ true → IsFair v
      → value_of domains live d (write v) ≡ Ok v

  abbrev written : Value-F Value → Port
  written b = port_level domains (map-Value Value Port write b)

  -- the level of a value is read back
  abbrev IsLevelBack : Domain-F Domain → Value → Value-F Value → Type 0
  IsLevelBack a v b = fits_level domains live (tests_of a) b ≡ true → IsFairLevel v b
      → AllByRecursion IsBack (items b) → AllByRecursion IsFair (items b)
      → read_level domains live (reads_of a) (written b) ≡ Ok v

  is_value : (v w : Value) (b : Value-F Value) → out-Value v ≡ b → out-Value w ≡ b → ◌≡◌ {A = Read Value} (Ok w) (Ok v)
  is_value v w b o p = ap (λ (x : Value). let r : Read Value = Ok x in r) (same_out w v (p ∙ sym o))

  truth_back : (v : Value) (b : Value-F Value) → out-Value v ≡ b → IsLevelBack Domain-F.Truth v b
  truth_back v (Value-F.Truth t) o e f h k =
      ap (λ a. truth_level a) (out_port_bool t) ∙ is_value v (Truth t) (Value-F.Truth t) o (out_truth t)
  truth_back v b o e f h k = absurd (cc)

  int_back : (v : Value) (b : Value-F Value) → out-Value v ≡ b → IsLevelBack Domain-F.Int v b
  int_back v (Value-F.Int n) o e f h k =
      integer_back (λ m. true) n f.integers refl ∙ is_value v (Int n) (Value-F.Int n) o (out_int n)
  int_back v b o e f h k = absurd (cc)

  nat_back : (v : Value) (b : Value-F Value) → out-Value v ≡ b → IsLevelBack Domain-F.Nat v b
  nat_back v (Value-F.Int n) o e f h k =
      integer_back is_natural n f.integers e ∙ is_value v (Int n) (Value-F.Int n) o (out_int n)
  nat_back v b o e f h k = absurd (cc)

  subset_back : (d : ℕ) (v : Value) (b : Value-F Value) → out-Value v ≡ b
      → IsLevelBack (Domain-F.Subset d) v b
  subset_back d v (Value-F.Int n) o e f h k =
      integer_back (is_in_subset domains d) n f.integers e
      ∙ is_value v (Int n) (Value-F.Int n) o (out_int n)
  subset_back d v b o e f h k = absurd (cc)

  chars_back : (v : Value) (b : Value-F Value) → out-Value v ≡ b → IsLevelBack Domain-F.Chars v b
  chars_back v (Value-F.Chars t) o e f h k =
      ap (λ a. string_if (text_level a)) (out_port_text t)
      ∙ ap (λ b. cond b (Ok (Chars t)) misfit) f.short
      ∙ is_value v (Chars t) (Value-F.Chars t) o (out_chars t)
  chars_back v b o e f h k = absurd (cc)

  enum_back : (d : ℕ) (v : Value) (b : Value-F Value) → out-Value v ≡ b
      → IsLevelBack (Domain-F.Enum d) v b
  enum_back d v (Value-F.Member c i) o e f h k =
      let same : c ≡ d = (Decides-eqb c d).0 (first_true (c == d) _ e) in
      let is = second_true (c == d) (is_literal domains d i) e in
      ap (λ l. read_level domains live (Domain-F.Enum d) (ports.Text (member_name domains l i))) same
      ∙ named_back domains d (literals_in domains d) i (literal_back domains live apart d i is)
      ∙ is_value v (Member d i) (Value-F.Member d i) (o ∙ ap (λ l. Value-F.Member l i) same) (out_member d i)
  enum_back d v b o e f h k = absurd (cc)

  abstract_back : (d : ℕ) (v : Value) (b : Value-F Value) → out-Value v ≡ b
      → IsLevelBack (Domain-F.Abstract d) v b
  abstract_back d v (Value-F.Member c i) o e f h k =
      let same : c ≡ d = (Decides-eqb c d).0 (first_true (c == d) _ e) in
      let is = second_true (c == d) (is_live live d i) e in
      ap (λ l. read_level domains live (Domain-F.Abstract d) (ports.Text (member_name domains l i))) same
      ∙ named_back domains d (live_indexes live d) i (member_back domains live apart d i is)
      ∙ is_value v (Member d i) (Value-F.Member d i) (o ∙ ap (λ l. Value-F.Member l i) same) (out_member d i)
  abstract_back d v b o e f h k = absurd (cc)

  -- the items of a list, all of one domain
  each_item : (d : Domain) (xs : List Value) → list_all (fits domains live d) xs ≡ true
      → AllByRecursion IsBack xs → AllByRecursion IsFair xs
      → AllByRecursion (λ x. value_of domains live d (write x) ≡ Ok x) xs
  each_item d [] e h k = tt
  each_item d (x ∷ xs) e h k = (
    h.0 d (first_true (fits domains live d x) _ e) k.0,
    each_item d xs (second_true (fits domains live d x) _ e) h.1 k.1,
  )

  -- the parts of a tuple, each of its own
  each_part : (ds : List Domain) (xs : List Value) → each_passes (map (fits domains live) ds) xs ≡ true
      → AllByRecursion IsBack xs → AllByRecursion IsFair xs
      → EachBack write (map (value_of domains live) ds) xs
  each_part [] [] e h k = tt
  each_part [] (x ∷ xs) e h k = absurd (cc)
  each_part (d ∷ ds) [] e h k = absurd (cc)
  each_part (d ∷ ds) (x ∷ xs) e h k = (
    h.0 d (first_true (fits domains live d x) _ e) k.0,
    each_part ds xs (second_true (fits domains live d x) _ e) h.1 k.1,
  )

  prod_back : (ds : List Domain) (v : Value) (b : Value-F Value) → out-Value v ≡ b
      → IsLevelBack (Domain-F.Prod ds) v b
  prod_back ds v (Value-F.Tuple xs) o e f h k =
      let fs = map (value_of domains live) ds in
      let is = same_out (Tuple xs) v (out_tuple xs ∙ sym o) in
      let go = λ (r : Read (List Value)). on_read r (λ vs. kept (tuple_of vs)) in
      ap (λ a. listed_read (λ trees. go (parts_read fs 0 trees)) (list_level a)) (out_port_list (map write xs))
      ∙ ap go (parts_back write fs xs (each_part ds xs e h k) 0)
      ∙ tuple_kept xs f.proper (ap keeps_limits is ∙ keeps v (Value-F.Tuple xs) o f)
      ∙ ap (λ (x : Value). let r : Read Value = Ok x in r) is
  prod_back ds v b o e f h k = absurd (cc)

  seq_back : (d : Domain) (v : Value) (b : Value-F Value) → out-Value v ≡ b
      → IsLevelBack (Domain-F.Seq d) v b
  seq_back d v (Value-F.Seq xs) o e f h k =
      let read = value_of domains live d in
      let is = same_out (Seq xs) v (out_seq xs ∙ sym o) in
      let go = λ (r : Read (List Value)). on_read r (λ vs. kept (sequence_of vs)) in
      ap (λ a. listed_read (λ trees. go (items_read read 0 trees)) (list_level a)) (out_port_list (map write xs))
      ∙ ap go (items_back write read xs (each_item d xs e h k) 0)
      ∙ sequence_kept xs f.proper (ap keeps_limits is ∙ keeps v (Value-F.Seq xs) o f)
      ∙ ap (λ (x : Value). let r : Read Value = Ok x in r) is
  seq_back d v b o e f h k = absurd (cc)

  power_back : (d : Domain) (v : Value) (b : Value-F Value) → out-Value v ≡ b
      → IsLevelBack (Domain-F.Power d) v b
  power_back d v (Value-F.Set xs) o e f h k =
      let read = value_of domains live d in
      let is = same_out (Set xs) v (out_set xs ∙ sym o) in
      let go = λ (r : Read (List Value)). on_read r (λ vs. kept (set_of vs)) in
      ap (λ a. listed_read (λ trees. go (items_read read 0 trees)) (list_level a)) (out_port_list (map write xs))
      ∙ ap go (items_back write read xs (each_item d xs e h k) 0)
      ∙ set_kept xs f.proper.0 f.proper.1 (ap keeps_limits is ∙ keeps v (Value-F.Set xs) o f)
      ∙ ap (λ (x : Value). let r : Read Value = Ok x in r) is
  power_back d v b o e f h k = absurd (cc)

  level_back : (a : Domain-F Domain) (v : Value) (b : Value-F Value) → out-Value v ≡ b → IsLevelBack a v b
  level_back Domain-F.Truth = truth_back
  level_back Domain-F.Int = int_back
  level_back Domain-F.Nat = nat_back
  level_back Domain-F.Chars = chars_back
  level_back (Domain-F.Enum d) = enum_back d
  level_back (Domain-F.Abstract d) = abstract_back d
  level_back (Domain-F.Subset d) = subset_back d
  level_back (Domain-F.Prod ds) = prod_back ds
  level_back (Domain-F.Seq d) = seq_back d
  level_back (Domain-F.Power d) = power_back d

  back_step : (v : Value) → AllByRecursion IsBack (parts v) → IsBack v
  back_step v h d e f =
      let a = out-Domain d in
      let b = out-Value v in
      value_of-out domains live d (write v)
      ∙ ap (read_level domains live (reads_of a)) (port_of-out domains v)
      ∙ level_back a v b refl (sym (fits-out domains live d v) ∙ e) (fair_level v b refl f) h (fair_parts v f)

  pub reads_back : (v : Value) (d : Domain) → fits domains live d v ≡ true → IsFair v
      → value_of domains live d (port_of domains v) ≡ Ok v
  reads_back = by_parts IsBack back_step
