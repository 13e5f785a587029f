-- What stands behind items that are there, and what there is of unequal lists.
use Rattle.std.proofs.Common.{◌≢◌, length, List, [], ◌∷◌, ◌++◌, Option, Some, None, option_map, ◌≡◌, refl, ap, ◌∙◌, arith}
use Rattle.asm_value.specs.declared.domain.Domain.{Domain}
use Rattle.asm_portable.specs.declared.port.Port.{Port}
use Rattle.asm_board.specs.Contents.{Contents}
use Rattle.asm_board.specs.Inputs.{and_others, args_in, value_in}

-- behind items that are there
abbrev pub behind : {A : Type 0} → List A → Option (List A) → Option (List A)
behind xs o = option_map (λ ys. xs ++ ys) o

-- one item more where the others aren't there
none_there : {A : Type 0} (o : Option A) → and_others o None ≡ None
none_there None = refl
none_there (Some x) = refl

-- where the numbers of domains and trees differ there are no arguments
pub args_in-lengths : (content : Contents) (ds : List Domain) (ts : List Port) → length ds ≢ length ts
    → args_in content ds ts ≡ None
args_in-lengths content [] [] differ = absurd (differ refl)
args_in-lengths content [] (t ∷ ts) differ = refl
args_in-lengths content (d ∷ ds) [] differ = refl
args_in-lengths content (d ∷ ds) (t ∷ ts) differ =
    ap (and_others (value_in content d t))
    (args_in-lengths content ds ts (λ e. differ (omega (arith, e))))
    ∙ none_there (value_in content d t)
