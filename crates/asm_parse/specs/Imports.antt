-- What a look at the imports finds.
use Rattle.std.specs.Prelude.{◌≡◌, ℕ, List, Option, Some, None, codes}
use Rattle.std.specs.Option.{option_map}
use Rattle.asm_syntax.specs.declared.token.Token.{Token}
use Rattle.asm_syntax.specs.Models.{Import}
use Rattle.asm_parse_theory.specs.Forms.{quoted}
use Rattle.asm_parse_theory.specs.Models.{Found, foreign_among, foreign_parts, foreign_word, parts}
use Rattle.asm_parse.specs.declared.foreign.Foreign.{Foreign}
use Rattle.asm_parse.specs.declared.foreign.Next.{Next}
use Rattle.asm_parse.specs.declared.foreign.Next.TheVariants as next

-- the import and the tokens from its parts on
abbrev pub seen : Foreign → Import × List Token
seen f = ((f.first, f.others), f.rest.now)

-- what was found is what is wanted
abbrev pub Finds : Option Foreign → Found → Type 0
Finds found wanted = option_map seen found ≡ wanted

-- the first foreign import from here on, where these tokens follow what is next
abbrev pub stepped : ℕ → Next → List Token → Found
stepped n next.Standard rest = foreign_among n rest
stepped n (next.Foreign f) rest = Some (seen f)
stepped n next.Nothing rest = None

-- the next import was looked at, from the word `import` on
abbrev pub Steps : List Token → Next → List Token → Type 0
Steps old step new = (n : ℕ)
    → foreign_word (foreign_among n) (quoted (codes "import") old) ≡ stepped n step new

-- the next import was looked at, from its parts on
abbrev pub StepsInParts : List Token → Next → List Token → Type 0
StepsInParts old step new = (n : ℕ)
    → foreign_parts (foreign_among n) old (parts old) ≡ stepped n step new
