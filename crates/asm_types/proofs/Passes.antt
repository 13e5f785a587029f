-- The passes over a text one after the other, and its first refusal.
use Rattle.std.proofs.Common.{◌≡◌, ℕ, List, [], ◌∷◌, ◌++◌, Result, Ok, Err, Some, refl, sym, ap, ◌∙◌}
use Rattle.std.specs.Prelude.{◌≢◌, IfOk, IfErr}
use Rattle.asm_syntax.specs.declared.tree.ModelTree.{ModelTree}
use Rattle.asm_program.specs.declared.type_refusal.TypeRefusal.{TypeRefusal}
use Rattle.asm_program.specs.declared.type_refusal.TypeRefusal.TheVariants.{Duplicate, Unknown, Mismatch, Recursive, NotEnumerable, Missing, Limit, TooMuchWork, NoMemory}
use Rattle.asm_program.specs.declared.program.Program.{Program}
use Rattle.asm_program.specs.Checks.{IsFirst, Checks}
use Rattle.asm_program.specs.Calls.{calls_refused}
use Rattle.asm_program.specs.TypedModels.{types_refused}
use Rattle.asm_program.specs.Typed.{numbered, counts_refused, refused, first_refusal, IsTyped}
use Rattle.asm_program.proofs.Refusals.{both_nil, nil_both}
use Rattle.asm_scope.proofs.Checking.{is_first-append, first_of_rest}
use Rattle.asm_typed_calls.specs.CalledNames.{declared_refused, IsSound}

module _ (text : List ℕ) (tree : ModelTree) where
  abbrev counts : List TypeRefusal
  counts = counts_refused (numbered text tree) tree

  abbrev two : List TypeRefusal
  two = declared_refused tree ++ calls_refused tree

  abbrev three : List TypeRefusal
  three = declared_refused tree ++ calls_refused tree ++ types_refused tree

  pub declared-first : (why : TypeRefusal) → IsFirst why (declared_refused tree) → IsFirst why (refused text tree)
  declared-first why f =
      is_first-append why three counts (is_first-append why two (types_refused tree) (is_first-append why (declared_refused tree) (calls_refused tree) f))

  pub calls-first : declared_refused tree ≡ [] → (why : TypeRefusal) → IsFirst why (calls_refused tree) → IsFirst why (refused text tree)
  calls-first d why f =
      is_first-append why three counts
      (is_first-append why two (types_refused tree) (first_of_rest why (declared_refused tree) (calls_refused tree) two refl d f))

  pub types-first : declared_refused tree ≡ [] → calls_refused tree ≡ [] → (why : TypeRefusal) → IsFirst why (types_refused tree) → IsFirst why (refused text tree)
  types-first d c why f =
      is_first-append why three counts (first_of_rest why two (types_refused tree) three refl (nil_both (declared_refused tree) (calls_refused tree) d c) f)

  pub counts-first : IsSound tree → (why : TypeRefusal) → IsFirst why (counts_refused (numbered text tree) tree) → IsFirst why (refused text tree)
  counts-first s why f =
      first_of_rest why three counts (refused text tree) refl
      (nil_both two (types_refused tree) (nil_both (declared_refused tree) (calls_refused tree) s.declared s.calls) s.types) f

  pub sound-of : declared_refused tree ≡ [] → calls_refused tree ≡ [] → types_refused tree ≡ [] → IsSound tree
  sound-of d c t = record { declared = d; calls = c; types = t }

  pub none-of : IsSound tree → counts_refused (numbered text tree) tree ≡ [] → refused text tree ≡ []
  none-of s n =
      nil_both three counts (nil_both two (types_refused tree) (nil_both (declared_refused tree) (calls_refused tree) s.declared s.calls) s.types) n

  pub parts-of : refused text tree ≡ [] → IsSound tree × (counts_refused (numbered text tree) tree ≡ [])
  parts-of h =
      let all = both_nil three counts h in
      let types = both_nil two (types_refused tree) all.0 in
      let calls = both_nil (declared_refused tree) (calls_refused tree) types.0 in
      (record { declared = calls.0; calls = calls.1; types = types.1 }, all.1)

pub ruleset pass_steps = (declared-first, calls-first, types-first, counts-first, sound-of, none-of)

-- ---- what is told of the first

first-told : (why : TypeRefusal) (text : List ℕ) (tree : ModelTree) → IsFirst why (refused text tree) → why ≢ NoMemory → first_refusal text tree ≡ Some why
first-told (Duplicate name span) text tree h other = h
first-told (Unknown name span) text tree h other = h
first-told (Mismatch span) text tree h other = h
first-told (Recursive name span) text tree h other = h
first-told (NotEnumerable span) text tree h other = h
first-told (Missing name span) text tree h other = h
first-told (Limit kind n span) text tree h other = h
first-told (TooMuchWork n span) text tree h other = h
first-told NoMemory text tree h other = absurd (other refl)

pub checked-ok : (text : List ℕ) (tree : ModelTree) (r : Result Program TypeRefusal) → Checks r (refused text tree) (IsTyped text tree) → IfOk r (λ program. IsTyped text tree program)
checked-ok text tree (Ok program) h = h.1
checked-ok text tree (Err why) h = tt

pub checked-err : (text : List ℕ) (tree : ModelTree) (r : Result Program TypeRefusal) → Checks r (refused text tree) (IsTyped text tree)
    → IfErr r (λ why. why ≢ NoMemory → first_refusal text tree ≡ Some why)
checked-err text tree (Ok program) h = tt
checked-err text tree (Err why) h = first-told why text tree h

pub ruleset check_steps = (checked-ok, checked-err)
