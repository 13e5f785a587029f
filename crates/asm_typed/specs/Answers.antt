-- What typing answers: the first refusal, or what is typed.
use Rattle.std.specs.Prelude.{◌≡◌, Result, Ok, Err, Option, Some, None, List, [], ◌∷◌, ◌++◌}
use Rattle.std.specs.Option.{option_map}
use Rattle.asm_syntax.specs.declared.token.Span.{Span}
use Rattle.asm_typing.specs.declared.types.Type.{«Type» as TermType}
use Rattle.asm_program.specs.declared.trees.Term.{Term}
use Rattle.asm_program.specs.declared.type_refusal.TypeRefusal.{TypeRefusal}
use Rattle.asm_program.specs.declared.type_refusal.TypeRefusal.TheVariants.{NoMemory}
use Rattle.asm_program.specs.TypedTerms.{Checked, all_refused, types, checked_terms}
use Rattle.asm_typed.specs.declared.typed.Typed.{Typed}
use Rattle.asm_typed.specs.declared.typed.AllTyped.{AllTyped}

-- the first of these, or want of memory
unfoldable pub settled : TypeRefusal → List TypeRefusal → TypeRefusal
settled NoMemory refused = NoMemory
settled why [] = NoMemory
settled why (r ∷ rs) = r

-- nothing is refused and the value is so, or this is the first refusal or want of memory
abbrev pub Gives : {A : Type 0} → Result A TypeRefusal → List TypeRefusal → (A → Type 0) → Type 0
Gives (Ok value) refused Is = (refused ≡ []) × Is value
Gives (Err why) refused Is = settled why refused ≡ why

-- nothing is refused, or this is the first refusal or want of memory
abbrev pub Passes : Result (Unit {0}) TypeRefusal → List TypeRefusal → Type 0
Passes (Ok u) refused = refused ≡ []
Passes (Err why) refused = settled why refused ≡ why

-- of this type, with this term at this place
abbrev pub finished : TermType → Term → Span → Checked
finished t term span = record { refused = []; type = t; term = term; span = span }

-- a term of which nothing is refused
abbrev pub done : Typed → Checked
done t = finished t.of t.term t.span

-- the typed term is this one, of which nothing is refused
abbrev pub IsTyped : Typed → Checked → Type 0
IsTyped t c = (done t ≡ c) × (t.of ≡ c.type) × (t.term ≡ c.term)

abbrev pub GivesTerm : Result Typed TypeRefusal → Checked → Type 0
GivesTerm result c = Gives result c.refused (λ t. IsTyped t c)

-- the types and terms are those of these
abbrev pub AreTyped : AllTyped → List Checked → Type 0
AreTyped all cs = (all.types ≡ types cs) × (all.terms ≡ checked_terms cs)

abbrev pub GivesTerms : Result AllTyped TypeRefusal → List Checked → Type 0
GivesTerms result cs = Gives result (all_refused cs) (λ all. AreTyped all cs)
