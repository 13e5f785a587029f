-- The items that Rust's stand for, and items that grow.
use Rattle.std.specs.Prelude.{ℕ, List, ◌∷◌, ◌++◌, if◌then◌else◌}
use Rattle.std.specs.List.{list_any}
use Rattle.std.specs.Str.{bytes_eq}
use Rattle.asm_syntax.specs.Marks.{text_of}
use Rattle.asm_program.specs.Items as items
use Rattle.asm_program.specs.Items.{Items}
use Rattle.asm_items.specs.declared.item.Item.{Item}
use Rattle.asm_items.specs.declared.item.Item.TheVariants.{Counts, Declares, DeclaresInvariant, Exceeds, Repeats, NamesDomain, NeedsIntegers, GivesInterval, GivesIntegers, NamesFunction, NamesMacro}

abbrev pub item_of : Item → items.Item
item_of (Counts kind span) = items.Counts kind span
item_of (Declares t) = items.Declares (text_of t.now) t.now.span
item_of (DeclaresInvariant name span) = items.DeclaresInvariant name span
item_of (Exceeds kind n span) = items.Exceeds kind n span
item_of (Repeats t) = items.Repeats t.now
item_of (NamesDomain t) = items.NamesDomain t.now
item_of (NeedsIntegers t span) = items.NeedsIntegers t.now span
item_of (GivesInterval t from to) = items.GivesInterval t.now from.now to.now
item_of (GivesIntegers t first others) = items.GivesIntegers t.now (first.now ∷ others.now)
item_of (NamesFunction t) = items.NamesFunction t.now
item_of (NamesMacro t) = items.NamesMacro t.now

-- items, and more of them at the end
unfoldable pub with_items : Items → Items → Items
with_items old new = old ++ new

-- these names and one more, each once
unfoldable pub seen_with : List ℕ → List (List ℕ) → List (List ℕ)
seen_with name seen = if list_any (bytes_eq name) seen then seen else name ∷ seen
