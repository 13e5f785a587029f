-- Lists of marks: what a list in two parts has, and what a test of a few marks is.
use Rattle.std.proofs.Common.{◌≡◌, List, [], ◌∷◌, ◌++◌, Bool, true, false, sym, refl, ap, ◌∙◌}
use Rattle.std.specs.Prelude.{◌||◌}
use Rattle.asm_grammar.proofs.Pairs.{with_far}
use Rattle.asm_syntax.specs.declared.token.Token.{Token}
use Rattle.asm_syntax.specs.Marks.{Mark, is, is_one_of, mark_of, same}
use Rattle.asm_parse_theory.specs.Firsts.{has, among}

pub or_nothing : (x : Bool) → (x || false) ≡ x
or_nothing true = refl
or_nothing false = refl

pub or_assoc : (x y z : Bool) → ((x || y) || z) ≡ (x || (y || z))
or_assoc true y z = refl
or_assoc false y z = refl

has_more : (c : Mark) (cs : List Mark) (m : Mark) → has (c ∷ cs) m ≡ (same c m || has cs m)
has_more c [] m = sym (or_nothing (same c m))
has_more c (d ∷ cs) m = refl

-- a list in two parts has what one of the parts has
pub has_two : (cs ds : List Mark) (m : Mark) → has (cs ++ ds) m ≡ (has cs m || has ds m)
has_two [] ds m = refl
has_two (c ∷ cs) ds m =
    has_more c (cs ++ ds) m ∙ ap (λ x. same c m || x) (has_two cs ds m) ∙ sym (or_assoc (same c m) (has cs m) (has ds m))
    ∙ ap (λ x. x || has ds m) (sym (has_more c cs m))

pub among_two : (cs ds : List Mark) (t : Token) → among (cs ++ ds) t ≡ (among cs t || among ds t)
among_two cs ds t = has_two cs ds (mark_of t.kind)

-- one of a few marks
pub one_of_among : (cs : List Mark) (t : Token) → is_one_of cs t ≡ among cs t
one_of_among [] t = refl
one_of_among (c ∷ cs) t = ap (λ x. is c t || x) (one_of_among cs t) ∙ sym (has_more c cs (mark_of t.kind))

-- the marks of two forms in a row: of the first and the second, where x says whether the near one may be empty
abbrev pub far : Bool → List Mark → List Mark → List Mark
far true cs ds = cs ++ ds
far false cs ds = ds

pub among_far : (x : Bool) (cs ds : List Mark) (t : Token) → with_far x (among cs) (among ds) t ≡ among (far x cs ds) t
among_far true cs ds t = sym (among_two cs ds t)
among_far false cs ds t = refl
