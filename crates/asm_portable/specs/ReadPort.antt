-- What bytes of JSON stand for: the tree of their value, where each of its numbers is whole.
use Rattle.std.specs.Prelude.{◌≡◌, ℕ, true, false, List, Some, Result, Ok, Err, IsUtf8}
use Rattle.serde_json.specs.Data.{Data}
use Rattle.serde_json.specs.Read.{read}
use Rattle.serde_json.specs.Written.{has_float}
use Rattle.asm_portable.specs.declared.port.Port.{Port}
use Rattle.asm_portable.specs.declared.reader.PortRefusal.{PortRefusal}
use Rattle.asm_portable.specs.declared.reader.PortRefusal.TheVariants.{BadJson, HasFloat, NoMemory}
use Rattle.asm_portable.specs.Json.{tree_of}

-- the bytes are UTF-8, and the JSON of this value
pub record IsJson (bytes : List ℕ) (value : Data) : Type 0 where
  pub utf8 : IsUtf8 bytes
  pub reads : read bytes ≡ Some value

-- the bytes are JSON of no value
abbrev pub IsNoJson : List ℕ → Type 0
IsNoJson bytes = (value : Data) → IsJson bytes value → ⊥

-- the bytes are JSON in which some number isn't a whole one of 64 bits
pub record IsOfFloats (bytes : List ℕ) : Type 0 where
  pub value : Data
  pub is_json : IsJson bytes value
  pub float : has_float value ≡ true

-- the bytes are JSON of this tree
pub record IsJsonOf (bytes : List ℕ) (tree : Port) : Type 0 where
  pub value : Data
  pub is_json : IsJson bytes value
  pub whole : has_float value ≡ false
  pub is : tree ≡ tree_of value

-- What a reading answers, each exactly where it is so; want of memory says nothing.
abbrev pub ReadsPort : List ℕ → Result Port PortRefusal → Type 0
ReadsPort bytes (Ok tree) = IsJsonOf bytes tree
ReadsPort bytes (Err BadJson) = IsNoJson bytes
ReadsPort bytes (Err HasFloat) = IsOfFloats bytes
ReadsPort bytes (Err NoMemory) = Unit {0}

-- the same of a value of JSON
abbrev pub ReadsValue : Data → Result Port PortRefusal → Type 0
ReadsValue value (Ok tree) = (has_float value ≡ false) × (tree ≡ tree_of value)
ReadsValue value (Err BadJson) = ⊥
ReadsValue value (Err HasFloat) = has_float value ≡ true
ReadsValue value (Err NoMemory) = Unit {0}
