-- The value of a domain for which a portable tree stands.
use Rattle.std.specs.Prelude.{ℕ, ◌+◌, ◌^◌, ℤ, pos, negsuc, Bool, true, ◌&&◌, nat_lt, nat_le, min}
use Rattle.std.specs.Prelude.{if◌then◌else◌, Option, Some, None, option_and_then, List, [], ◌∷◌}
use Rattle.std.specs.Prelude.{length, find, Result, Ok, Err}
use Rattle.std.specs.List.{range_with_len}
use Rattle.std.specs.Str.{bytes_eq}
use Rattle.std.specs.Str.Parse.{signed_digits_value}
use Rattle.std.specs.Fmt.{signed_decimal}
use Rattle.asm_value.specs.declared.value.Value.{Value}
use Rattle.asm_value.specs.declared.value.Value.TheVariants.{Truth, Int, Chars, Member}
use Rattle.asm_value.specs.declared.domain.Domain.{Domain}
use Rattle.asm_value.specs.declared.domain.Domain.TheOpen.{Domain-F}
use Rattle.asm_value.specs.declared.domain.Domain.TheFolds.{fold-Domain}
use Rattle.asm_value.specs.declared.domain.DomainInfo.{DomainInfo}
use Rattle.asm_value.specs.declared.domain.Live.{Live}
use Rattle.asm_value.specs.Domain.{is_in_subset, is_natural}
use Rattle.asm_value.specs.Members.{live_indexes, literal_count}
use Rattle.asm_operations.specs.declared.applied.Applied.{Applied}
use Rattle.asm_operations.specs.declared.applied.Applied.TheVariants as applied
use Rattle.asm_operations.specs.Operations.{tuple_of, sequence_of, set_of}
use Rattle.asm_portable.specs.declared.port.Port.{Port}
use Rattle.asm_portable.specs.declared.port.Port.TheOpen.{Port-F}
use Rattle.asm_portable.specs.declared.port.Port.TheViews.{out-Port}
use Rattle.asm_portable.specs.Ports.{as_list, as_text}
use Rattle.asm_portable.specs.Values.{member_name}

-- What was read, or the way down to the first part that doesn't fit, by positions from 0 on. Parts
-- come before the tree that holds them.
abbrev pub Read : Type 0 → Type 0
Read A = Result A (List ℕ)

abbrev pub misfit : {A : Type 0} → Read A
misfit = Err []

-- goes on with what was read
abbrev pub on_read : {A B : Type 0} → Read A → (A → Read B) → Read B
on_read (Ok x) go = go x
on_read (Err path) go = Err path

-- what was read of the part at this position
abbrev pub of_part : {A : Type 0} → ℕ → Read A → Read A
of_part at (Ok x) = Ok x
of_part at (Err path) = Err (at ∷ path)

-- ---- truth values and strings

abbrev pub truth_level : {A B : Type 0} → Port-F A B → Read Value
truth_level (Port-F.Bool b) = Ok (Truth b)
truth_level _ = misfit

abbrev pub truth_read : Port → Read Value
truth_read tree = truth_level (out-Port tree)

abbrev pub string_if : Option (List ℕ) → Read Value
string_if None = misfit
string_if (Some bytes) = if nat_le (length bytes) 1024 then Ok (Chars bytes) else misfit

-- a string of at most 1,024 bytes
abbrev pub string_read : Port → Read Value
string_read tree = string_if (as_text tree)

-- ---- integers

-- from -2^127 to 2^127 - 1
abbrev pub is_integer : ℤ → Bool
is_integer (pos n) = nat_lt n (2 ^ 127)
is_integer (negsuc n) = nat_lt n (2 ^ 127)

-- the integer whose digits are written so, without leading zeros and without a plus
abbrev pub integer_written : List ℕ → Option ℤ
integer_written digits =
    let n = signed_digits_value 10 digits in
    if bytes_eq (signed_decimal n) digits && is_integer n then Some n else None

abbrev pub integer_level : {A B : Type 0} → Port-F A B → Option ℤ
integer_level (Port-F.Int n) = Some n
integer_level (Port-F.Text digits) = integer_written digits
integer_level _ = None

-- the integer for which a tree stands, by itself or by its digits
abbrev pub integer_of : Port → Option ℤ
integer_of tree = integer_level (out-Port tree)

abbrev pub integer_if : (ℤ → Bool) → Option ℤ → Read Value
integer_if fits None = misfit
integer_if fits (Some n) = if fits n then Ok (Int n) else misfit

-- an integer that passes the test
abbrev pub integer_read : (ℤ → Bool) → Port → Read Value
integer_read fits tree = integer_if fits (integer_of tree)

-- ---- members

-- the indexes of a domain's literals, of which at most 65,535 are listed
abbrev pub literals_in : List DomainInfo → ℕ → List ℕ
literals_in domains d = range_with_len 0 (min (literal_count domains d) 65535)

-- the first of these indexes whose member goes by the name
abbrev pub first_named : List DomainInfo → ℕ → List ℕ → List ℕ → Option ℕ
first_named domains d indexes name = find (λ i. bytes_eq name (member_name domains d i)) indexes

abbrev pub member_if : ℕ → Option ℕ → Read Value
member_if d None = misfit
member_if d (Some i) = Ok (Member d i)

-- the member of the domain, among those with these indexes, that goes by the tree's text
abbrev pub member_read : List DomainInfo → ℕ → List ℕ → Port → Read Value
member_read domains d indexes tree =
    member_if d (option_and_then (first_named domains d indexes) (as_text tree))

-- ---- parts

-- with a part's value in front
abbrev pub with_first : Read Value → Read (List Value) → Read (List Value)
with_first first others = on_read first (λ v. on_read others (λ vs. Ok (v ∷ vs)))

-- the items from this position on, all of one domain
abbrev pub items_read : (Port → Read Value) → ℕ → List Port → Read (List Value)
items_read item at [] = Ok []
items_read item at (t ∷ ts) =
    with_first (of_part at (item t)) (items_read item (at + 1) ts)

-- the parts from this position on, each of its own domain, as many as there are domains
abbrev pub parts_read : List (Port → Read Value) → ℕ → List Port → Read (List Value)
parts_read [] at [] = Ok []
parts_read [] at (t ∷ ts) = misfit
parts_read (p ∷ ps) at [] = misfit
parts_read (p ∷ ps) at (t ∷ ts) =
    with_first (of_part at (p t)) (parts_read ps (at + 1) ts)

-- a value that keeps the limits of values
abbrev pub kept : Applied → Read Value
kept (applied.Value v) = Ok v
kept applied.Overflow = misfit
kept applied.TooLarge = misfit

-- what a list of trees stands for, if there is one
abbrev pub listed_read : (List Port → Read Value) → Option (List Port) → Read Value
listed_read go None = misfit
listed_read go (Some trees) = go trees

abbrev pub tuple_read : List (Port → Read Value) → Port → Read Value
tuple_read parts tree =
    listed_read (λ trees. on_read (parts_read parts 0 trees) (λ vs. kept (tuple_of vs)))
    (as_list tree)

abbrev pub sequence_read : (Port → Read Value) → Port → Read Value
sequence_read item tree =
    listed_read (λ trees. on_read (items_read item 0 trees) (λ vs. kept (sequence_of vs)))
    (as_list tree)

-- in any order, and with repeats, which count once
abbrev pub set_read : (Port → Read Value) → Port → Read Value
set_read item tree =
    listed_read (λ trees. on_read (items_read item 0 trees) (λ vs. kept (set_of vs)))
    (as_list tree)

-- ---- values

module _ (domains : List DomainInfo) (live : Live) where
  -- one level of a domain, with the reading of each part in its place
  abbrev pub read_level : Domain-F (Port → Read Value) → Port → Read Value
  read_level Domain-F.Truth = truth_read
  read_level Domain-F.Int = integer_read (λ n. true)
  read_level Domain-F.Nat = integer_read is_natural
  read_level Domain-F.Chars = string_read
  read_level (Domain-F.Enum d) = member_read domains d (literals_in domains d)
  read_level (Domain-F.Abstract d) = member_read domains d (live_indexes live d)
  read_level (Domain-F.Subset d) = integer_read (is_in_subset domains d)
  read_level (Domain-F.Prod parts) = tuple_read parts
  read_level (Domain-F.Seq item) = sequence_read item
  read_level (Domain-F.Power item) = set_read item

  -- The value of the domain for which the tree stands, at the members that there are.
  unfoldable pub value_of : Domain → Port → Read Value
  value_of = fold-Domain (Port → Read Value) read_level
