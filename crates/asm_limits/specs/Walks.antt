-- The walk over a text that looks at the depth of what it defines and adds up its work.
use Rattle.std.specs.Prelude.{ℕ, ◌+◌, ◌^◌, min, Option, Some, None, List, [], ◌∷◌, ◌++◌, slice_get}
use Rattle.asm_value.specs.declared.domain.DomainInfo.{DomainInfo}
use Rattle.asm_syntax.specs.declared.tree.DefTree.{DefTree}
use Rattle.asm_syntax.specs.declared.tree.DefTree.TheVariants as def
use Rattle.asm_syntax.specs.declared.tree.StartTree.{StartTree}
use Rattle.asm_syntax.specs.declared.tree.ModelTree.{ModelTree}
use Rattle.asm_syntax.specs.Marks.{text_of}
use Rattle.asm_program.specs.declared.type_refusal.TypeRefusal.{TypeRefusal}
use Rattle.asm_program.specs.declared.trees.Term.{Term}
use Rattle.asm_program.specs.declared.trees.Rule.{Rule}
use Rattle.asm_program.specs.declared.program.MacroInfo.{MacroInfo}
use Rattle.asm_program.specs.declared.program.InitInfo.{InitInfo}
use Rattle.asm_program.specs.declared.program.Inv.{Inv}
use Rattle.asm_program.specs.Items.{starts_of}
use Rattle.asm_program.specs.Signatures.{Header, find}
use Rattle.asm_program.specs.TypedTerms.{Scope}
use Rattle.asm_program.specs.Typed.{depth_refused, work_refused, name_span, number_in}
use Rattle.asm_counts.specs.declared.counts.Counts.{Counts}
use Rattle.asm_counts.specs.CountLevels.{combinations, times}
use Rattle.asm_limits.specs.declared.walks.Left.{Left}
use Rattle.asm_limits.specs.declared.walks.Starts.{Starts}
use Rattle.asm_limits.specs.Rounds.{none, counted, rule_counted, body_counts, macro_counts}

-- the work of both, told as 2^32 where it is more
abbrev pub with_work : ℕ → ℕ → ℕ
with_work work more = min (work + more) (2 ^ 32)

-- ---- what is still to be looked at, in text order, and the work so far

pub record Rest : Type 0 where
  pub macros : List MacroInfo
  pub invariants : List Inv
  pub work : ℕ

abbrev pub rest_of : Left → Rest
rest_of left = record {
  macros = left.macros.now;
  invariants = left.invariants.now;
  work = left.work;
}

pub record StartsRest : Type 0 where
  pub inits : List InitInfo
  pub work : ℕ

abbrev pub starts_rest : Starts → StartsRest
starts_rest left = record { inits = left.inits.now; work = left.work }

abbrev pub after_first : {A : Type 0} → List A → List A
after_first [] = []
after_first (x ∷ xs) = xs

-- ---- counts

module _ (domains : List DomainInfo) (functions macros : List Counts) where
  abbrev pub of_body : Option (Option Term) → Counts
  of_body None = none
  of_body (Some body) = body_counts domains functions body

  abbrev pub of_first_macro : List MacroInfo → Counts
  of_first_macro [] = none
  of_first_macro (info ∷ rest) = macro_counts domains functions macros info

  abbrev pub of_first_invariant : List Inv → Counts
  of_first_invariant [] = none
  of_first_invariant (inv ∷ rest) = counted domains functions inv.term

  abbrev pub combinations_of : Option Header → ℕ
  combinations_of None = 1
  combinations_of (Some h) = combinations domains h.args

  -- an initial term is evaluated for each list of arguments
  abbrev pub of_start : List Header → InitInfo → Counts
  of_start headers init =
      times (combinations_of (slice_get headers init.function)) (counted domains functions init.body)

  abbrev pub of_first_start : List Header → List InitInfo → Counts
  of_first_start headers [] = none
  of_first_start headers (init ∷ rest) = of_start headers init

  module _ (scope : Scope) where
    -- ---- the initial state

    abbrev pub start_limited : StartsRest → StartTree → List TypeRefusal
    start_limited left s =
        depth_refused (of_first_start scope.functions left.inits).depth s.function.span

    abbrev pub start_after : StartsRest → StartTree → StartsRest
    start_after left s = record {
      inits = after_first left.inits;
      work = with_work left.work (of_first_start scope.functions left.inits).work;
    }

    unfoldable pub starts_limited : StartsRest → List StartTree → List TypeRefusal
    starts_limited left [] = []
    starts_limited left (s ∷ ss) = start_limited left s ++ starts_limited (start_after left s) ss

    unfoldable pub starts_work : StartsRest → List StartTree → ℕ
    starts_work left [] = left.work
    starts_work left (s ∷ ss) = starts_work (start_after left s) ss

    -- ---- definitions

    module _ (bodies : List (Option Term)) where
      abbrev pub def_limited : Rest → DefTree → List TypeRefusal
      def_limited left (def.Interval name from to span) = []
      def_limited left (def.Integers name first others span) = []
      def_limited left (def.Function name params term span) =
          depth_refused
          (of_body (slice_get bodies (number_in (find scope.names (text_of name))))).depth
          name.span
      def_limited left (def.Rule name params body span) =
          depth_refused (of_first_macro left.macros).depth name.span
      def_limited left (def.Invariant name first others term span) =
          depth_refused (of_first_invariant left.invariants).depth (name_span name span)

      -- after a definition
      abbrev pub def_after : Rest → DefTree → Rest
      def_after left (def.Interval name from to span) = left
      def_after left (def.Integers name first others span) = left
      def_after left (def.Function name params term span) = left
      def_after left (def.Rule name params body span) = record {
        macros = after_first left.macros;
        invariants = left.invariants;
        work = left.work;
      }
      def_after left (def.Invariant name first others term span) = record {
        macros = left.macros;
        invariants = after_first left.invariants;
        work = with_work left.work (of_first_invariant left.invariants).work;
      }

      unfoldable pub defs_limited : Rest → List DefTree → List TypeRefusal
      defs_limited left [] = []
      defs_limited left (d ∷ ds) = def_limited left d ++ defs_limited (def_after left d) ds

      unfoldable pub defs_work : Rest → List DefTree → ℕ
      defs_work left [] = left.work
      defs_work left (d ∷ ds) = defs_work (def_after left d) ds

      -- ---- a text

      module _ (infos : List MacroInfo) (main : Rule) (inits : List InitInfo) (invariants : List Inv)
          (tree : ModelTree) where
        abbrev pub definitions_rest : Rest
        definitions_rest = record { macros = infos; invariants = invariants; work = 0 }

        abbrev pub inits_rest : StartsRest
        inits_rest = record { inits = inits; work = 0 }

        abbrev pub walk_work : ℕ
        walk_work =
            with_work
            (with_work (rule_counted domains functions macros main).work
            (defs_work definitions_rest tree.defs))
            (starts_work inits_rest (starts_of tree.init))

        abbrev pub walk_refused : List TypeRefusal
        walk_refused =
            defs_limited definitions_rest tree.defs
            ++ depth_refused (rule_counted domains functions macros main).depth tree.rule_name.span
            ++ starts_limited inits_rest (starts_of tree.init)
            ++ work_refused walk_work tree.main
