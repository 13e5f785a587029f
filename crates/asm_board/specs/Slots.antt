-- The models of a board by their names, their earlier contents, and how a change puts new ones
-- there.
use Rattle.std.specs.Prelude.{ℕ, ◌-◌, not, Option, Some, None, List, [], ◌∷◌, ◌++◌, map, filter, drop, length, option_map, if◌then◌else◌}
use Rattle.std.specs.Str.{bytes_eq}
use Rattle.asm_portable.specs.Ascending.{put_by, AscendsBy}
use Rattle.asm_board.specs.declared.board.Slot.{Slot}
use Rattle.asm_board.specs.declared.board.NamedSlot.{NamedSlot}
use Rattle.asm_board.specs.declared.trail.Trail.{Trail}
use Rattle.asm_board.specs.declared.trail.TrailPair.{TrailPair}
use Rattle.asm_board.specs.declared.prepared.NameVersion.{NameVersion}
use Rattle.asm_board.specs.declared.prepared.Changed.{Changed}
use Rattle.asm_board.specs.declared.prepared.News.{News}
use Rattle.asm_board.specs.Contents.{Contents}

-- some models, each once
abbrev pub Models : Type 0
Models = List NamedSlot

abbrev pub named : List ℕ → Slot → NamedSlot
named name slot = record { name = name; slot = slot }

-- the slot of a name, if there is such a model
abbrev pub slot_in : Models → List ℕ → Option Slot
slot_in [] name = None
slot_in (m ∷ ms) name = if bytes_eq name m.name then Some m.slot else slot_in ms name

abbrev pub version_or_zero : Option Slot → ℕ
version_or_zero None = 0
version_or_zero (Some slot) = slot.version

-- the version of a name, 0 where there is no such model
abbrev pub version_in : Models → List ℕ → ℕ
version_in models name = version_or_zero (slot_in models name)

abbrev pub listed : List ℕ → Option Slot → Models
listed name None = []
listed name (Some slot) = named name slot ∷ []

-- the models of these names, as far as there are such
abbrev pub only : Models → List (List ℕ) → Models
only models [] = []
only models (name ∷ names) = listed name (slot_in models name) ++ only models names

-- each name with its version
abbrev pub versions_in : Models → List (List ℕ) → List NameVersion
versions_in models [] = []
versions_in models (name ∷ names) =
    record { name = name; version = version_in models name } ∷ versions_in models names

-- ---- trails

-- the most earlier contents of a model that are kept
abbrev pub most_pairs : ℕ
most_pairs = 16

abbrev pub no_trail : Trail
no_trail = record { pairs = [] }

-- the earlier contents of a model with their versions, the oldest first
abbrev pub pairs_of : Slot → List TrailPair
pairs_of slot = slot.trail.pairs

-- the newest of these pairs, as many as are kept
abbrev pub newest : List TrailPair → List TrailPair
newest pairs = drop (length pairs - most_pairs) pairs

-- one more pair, and the oldest goes where there are too many
abbrev pub remembered : Trail → ℕ → Contents → Trail
remembered trail version content = record {
  pairs = newest (trail.pairs ++ record { version = version; content = content } ∷ []);
}

-- a new model has no earlier contents; of any other the one before a change is remembered
abbrev pub trail_after : Option Slot → Trail
trail_after None = no_trail
trail_after (Some slot) = remembered slot.trail slot.version slot.content

-- ---- changes of models

-- a new slot in place of an old one, before the version of its entry is known
abbrev pub new_slot : Option Slot → Contents → Slot
new_slot old content = record { version = 0; content = content; trail = trail_after old }

abbrev pub slot_of_news : Models → News → Changed
slot_of_news models n = record {
  name = n.name;
  slot = option_map (new_slot (slot_in models n.name)) n.content;
}

-- the new slots of a change of these models, with the version 0
abbrev pub new_slots : Models → List News → List Changed
new_slots models news = map (slot_of_news models) news

-- a slot under its name among models that ascend by name, in place of one that is there
abbrev pub put : List ℕ → Slot → Models → Models
put name slot models = put_by (λ m. m.name) (named name slot) models

-- the other models
abbrev pub without : List ℕ → Models → Models
without name models = filter (λ m. not (bytes_eq name m.name)) models

-- each name is below those after it, so each is there once
abbrev pub AscendByName : Models → Type 0
AscendByName models = AscendsBy (λ m. m.name) models

abbrev pub at_version : ℕ → Slot → Slot
at_version version slot = record slot { version = version }

abbrev pub changed_to : ℕ → Models → List ℕ → Option Slot → Models
changed_to version models name None = without name models
changed_to version models name (Some slot) = put name (at_version version slot) models

-- the models with each change made, at this version
abbrev pub changed : ℕ → Models → List Changed → Models
changed version models [] = models
changed version models (c ∷ cs) = changed version (changed_to version models c.name c.slot) cs
