-- First refusals of lists that are put together.
use Rattle.std.proofs.Common.{◌≡◌, Result, Ok, Err, Some, Bool, true, false, List, [], ◌∷◌, ◌++◌, refl, sym, ap, ◌∙◌}
use Rattle.asm_program.specs.declared.type_refusal.TypeRefusal.{TypeRefusal}
use Rattle.asm_program.specs.declared.type_refusal.TypeRefusal.TheVariants.{Duplicate, Unknown, Mismatch, Recursive, NotEnumerable, Missing, Limit, TooMuchWork, NoMemory}
use Rattle.asm_program.specs.Checks.{IsFirst, Checks}
use Rattle.asm_program.specs.TypedTerms.{or_else, unless}
use Rattle.asm_typed.specs.Answers.{settled, Gives}

pub settled-memory : (rs : List TypeRefusal) → settled NoMemory rs ≡ NoMemory
unfolding settled
settled-memory rs = refl

pub settled-head : (why : TypeRefusal) (rs : List TypeRefusal) → settled why (why ∷ rs) ≡ why
unfolding settled
settled-head (Duplicate name span) rs = refl
settled-head (Unknown name span) rs = refl
settled-head (Mismatch span) rs = refl
settled-head (Recursive name span) rs = refl
settled-head (NotEnumerable span) rs = refl
settled-head (Missing name span) rs = refl
settled-head (Limit kind n span) rs = refl
settled-head (TooMuchWork n span) rs = refl
settled-head NoMemory rs = refl

from_none : (why : TypeRefusal) (ys : List TypeRefusal) → settled why [] ≡ why → settled why ys ≡ why
unfolding settled
from_none (Duplicate name span) ys h = absurd (cc)
from_none (Unknown name span) ys h = absurd (cc)
from_none (Mismatch span) ys h = absurd (cc)
from_none (Recursive name span) ys h = absurd (cc)
from_none (NotEnumerable span) ys h = absurd (cc)
from_none (Missing name span) ys h = absurd (cc)
from_none (Limit kind n span) ys h = absurd (cc)
from_none (TooMuchWork n span) ys h = absurd (cc)
from_none NoMemory ys h = refl

along : (why r : TypeRefusal) (xs ys : List TypeRefusal) → settled why (r ∷ xs) ≡ settled why (r ∷ ys)
unfolding settled
along (Duplicate name span) r xs ys = refl
along (Unknown name span) r xs ys = refl
along (Mismatch span) r xs ys = refl
along (Recursive name span) r xs ys = refl
along (NotEnumerable span) r xs ys = refl
along (Missing name span) r xs ys = refl
along (Limit kind n span) r xs ys = refl
along (TooMuchWork n span) r xs ys = refl
along NoMemory r xs ys = refl

-- the first of a first part is that of the whole
pub settled-first : (why : TypeRefusal) (xs ys : List TypeRefusal) → settled why xs ≡ why → settled why (xs ++ ys) ≡ why
settled-first why [] ys h = from_none why ys h
settled-first why (x ∷ xs) ys h = along why x (xs ++ ys) xs ∙ h

-- where the first part has none, that of the rest is that of the whole
pub settled-rest : (why : TypeRefusal) (xs ys : List TypeRefusal) → xs ≡ [] → settled why ys ≡ why → settled why (xs ++ ys) ≡ why
settled-rest why xs ys e h = ap (λ zs. settled why (zs ++ ys)) e ∙ h

pub settled-parts : (why : TypeRefusal) (xs own : List TypeRefusal) → settled why xs ≡ why → settled why (or_else xs own) ≡ why
settled-parts why [] own h = from_none why own h
settled-parts why (x ∷ xs) own h = h

pub settled-own : (why : TypeRefusal) (xs own : List TypeRefusal) → xs ≡ [] → settled why own ≡ why → settled why (or_else xs own) ≡ why
settled-own why xs own e h = ap (λ zs. settled why (or_else zs own)) e ∙ h

pub none-parts : (xs own : List TypeRefusal) → xs ≡ [] → own ≡ [] → or_else xs own ≡ []
none-parts xs own e h = ap (λ zs. or_else zs own) e ∙ h

pub none-append : (xs ys : List TypeRefusal) → xs ≡ [] → ys ≡ [] → xs ++ ys ≡ []
none-append xs ys e h = ap (λ zs. zs ++ ys) e ∙ h

pub unless-true : (b : Bool) (r : TypeRefusal) → b ≡ true → unless b r ≡ []
unless-true b r h = ap (λ c. unless c r) h

pub settled-unless : (b : Bool) (r : TypeRefusal) → b ≡ false → settled r (unless b r) ≡ r
settled-unless b r h = ap (λ c. settled r (unless c r)) h ∙ settled-head r []

pub is_first : (why : TypeRefusal) (rs : List TypeRefusal) → settled why rs ≡ why → IsFirst why rs
unfolding settled
is_first (Duplicate name span) [] h = absurd (cc)
is_first (Duplicate name span) (r ∷ rs) h = ap (λ w. Some w) h
is_first (Unknown name span) [] h = absurd (cc)
is_first (Unknown name span) (r ∷ rs) h = ap (λ w. Some w) h
is_first (Mismatch span) [] h = absurd (cc)
is_first (Mismatch span) (r ∷ rs) h = ap (λ w. Some w) h
is_first (Recursive name span) [] h = absurd (cc)
is_first (Recursive name span) (r ∷ rs) h = ap (λ w. Some w) h
is_first (NotEnumerable span) [] h = absurd (cc)
is_first (NotEnumerable span) (r ∷ rs) h = ap (λ w. Some w) h
is_first (Missing name span) [] h = absurd (cc)
is_first (Missing name span) (r ∷ rs) h = ap (λ w. Some w) h
is_first (Limit kind n span) [] h = absurd (cc)
is_first (Limit kind n span) (r ∷ rs) h = ap (λ w. Some w) h
is_first (TooMuchWork n span) [] h = absurd (cc)
is_first (TooMuchWork n span) (r ∷ rs) h = ap (λ w. Some w) h
is_first NoMemory rs h = tt

-- what gives the first refusal is checked
pub gives-checks : {A : Type 0} (result : Result A TypeRefusal) (rs : List TypeRefusal) (Is : A → Type 0) → Gives result rs Is → Checks result rs Is
gives-checks (Ok value) rs Is h = h
gives-checks (Err why) rs Is h = is_first why rs h

pub ruleset refusal_steps =
    (settled-memory, settled-head, settled-first, settled-rest, settled-parts, settled-own, none-parts, none-append, unless-true, settled-unless)
