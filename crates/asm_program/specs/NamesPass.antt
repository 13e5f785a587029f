-- The first pass over a text: each name is declared once, and nothing is past its limit.
use Rattle.std.specs.Prelude.{ℕ, ◌+◌, ◌==◌, Bool, true, false, if◌then◌else◌, List, [], ◌∷◌, ◌++◌}
use Rattle.std.specs.List.{list_any}
use Rattle.std.specs.Str.{bytes_eq}
use Rattle.asm_syntax.specs.declared.token.Span.{Span}
use Rattle.asm_syntax.specs.Marks.{text_of}
use Rattle.asm_program.specs.declared.type_refusal.Limited.{Limited}
use Rattle.asm_program.specs.declared.type_refusal.Limited.TheVariants as limited
use Rattle.asm_program.specs.declared.type_refusal.TypeRefusal.{TypeRefusal}
use Rattle.asm_program.specs.declared.type_refusal.TypeRefusal.TheVariants.{Duplicate, Limit}
use Rattle.asm_program.specs.Items.{Item, Items, Counts, Declares, DeclaresInvariant, Exceeds, Repeats, NamesDomain, NeedsIntegers, GivesInterval, GivesIntegers, NamesFunction, NamesMacro}

-- the names so far, and how many of each kind there are
pub record Seen : Type 0 where
  pub names : List (List ℕ)
  pub invariant_names : List (List ℕ)
  pub domains : ℕ
  pub functions : ℕ
  pub macros : ℕ
  pub invariants : ℕ

abbrev pub nothing_seen : Seen
nothing_seen = record {
  names = [];
  invariant_names = [];
  domains = 0;
  functions = 0;
  macros = 0;
  invariants = 0;
}

-- how many there are with one more, and one more of them
abbrev pub number_of : Limited → Seen → ℕ
number_of limited.Domains seen = seen.domains + 1
number_of limited.Functions seen = seen.functions + 1
number_of limited.Macros seen = seen.macros + 1
number_of limited.Invariants seen = seen.invariants + 1
number_of _ seen = 0

abbrev pub with_one : Limited → Seen → Seen
with_one limited.Domains seen = record seen { domains = seen.domains + 1 }
with_one limited.Functions seen = record seen { functions = seen.functions + 1 }
with_one limited.Macros seen = record seen { macros = seen.macros + 1 }
with_one limited.Invariants seen = record seen { invariants = seen.invariants + 1 }
with_one _ seen = seen

-- the first number past the limit
abbrev pub past : Limited → ℕ
past limited.Invariants = 65
past _ = 257

abbrev pub counted : Limited → ℕ → Span → List TypeRefusal
counted kind n span = if n == past kind then Limit kind n span ∷ [] else []

abbrev pub used : List ℕ → Span → List (List ℕ) → List TypeRefusal
used name span names = if list_any (bytes_eq name) names then Duplicate name span ∷ [] else []

-- what is refused at one item after these
abbrev pub refused_at : Seen → Item → List TypeRefusal
refused_at seen (Counts kind span) = counted kind (number_of kind seen) span
refused_at seen (Declares name span) = used name span seen.names
refused_at seen (DeclaresInvariant name span) = used name span seen.invariant_names
refused_at seen (Exceeds kind n span) = Limit kind n span ∷ []
refused_at seen (Repeats t) = Duplicate (text_of t) t.span ∷ []
refused_at seen (NamesDomain t) = []
refused_at seen (NeedsIntegers t span) = []
refused_at seen (GivesInterval t from to) = []
refused_at seen (GivesIntegers t numbers) = []
refused_at seen (NamesFunction t) = []
refused_at seen (NamesMacro t) = []

abbrev pub seen_after : Seen → Item → Seen
seen_after seen (Counts kind span) = with_one kind seen
seen_after seen (Declares name span) = record seen { names = name ∷ seen.names }
seen_after seen (DeclaresInvariant name span) =
    record seen { invariant_names = name ∷ seen.invariant_names }
seen_after seen _ = seen

abbrev pub names_refused_from : Seen → Items → List TypeRefusal
names_refused_from seen [] = []
names_refused_from seen (item ∷ items) =
    refused_at seen item ++ names_refused_from (seen_after seen item) items

-- all that this pass refuses, in text order
abbrev pub names_refused : Items → List TypeRefusal
names_refused = names_refused_from nothing_seen
