-- The depth and the work of terms and rules, with called bodies in place of calls. Both are this
-- project's own.
use Rattle.std.specs.Prelude.{ℕ, ◌+◌, ◌*◌, ◌^◌, ◌==◌, max, min, Bool, true, ◌&&◌, Option, Some, None, unwrap_or, List, [], ◌∷◌, ◌++◌, length, map, sum, slice_get}
use Rattle.std.specs.Option.{option_map_or}
use Rattle.asm_value.specs.declared.domain.Domain.{Domain}
use Rattle.asm_value.specs.declared.domain.DomainInfo.{DomainInfo}
use Rattle.asm_value.specs.Enumerable.{size}
use Rattle.asm_program.specs.declared.trees.Term.{Term}
use Rattle.asm_program.specs.declared.trees.Term.TheOpen.{Term-F}
use Rattle.asm_program.specs.declared.trees.Rule.{Rule}
use Rattle.asm_program.specs.declared.trees.Rule.TheOpen.{Rule-F}
use Rattle.asm_program.specs.declared.program.FunctionInfo.{FunctionInfo}
use Rattle.asm_program.specs.declared.program.MacroInfo.{MacroInfo}
use Rattle.asm_program.specs.declared.program.InitInfo.{InitInfo}
use Rattle.asm_program.specs.declared.program.Inv.{Inv}
use Rattle.asm_program.specs.Forms.{parts, of_term, of_function, optional, of_rule, of_macro}
use Rattle.asm_program.specs.Nesting.{greatest}

-- ---- depth: the longest path of nodes

-- a called body is where the call is, whose arguments are a path of their own
abbrev pub depth_level : (ℕ → ℕ) → Term-F ℕ (ℕ × ℕ) → ℕ
depth_level calls (Term-F.Call f args) = max (1 + greatest args) (calls f)
depth_level calls a = 1 + greatest (parts a)

-- of a function's term; as with values, no call of a program is deeper
abbrev pub function_depth : List FunctionInfo → ℕ → ℕ
function_depth functions = of_function depth_level 0 functions 512

abbrev pub term_depth : List FunctionInfo → Term → ℕ
term_depth functions = of_term depth_level (function_depth functions)

module _ (term : Term → ℕ) where
  abbrev pub deepest : List Term → ℕ
  deepest ts = greatest (map term ts)

  abbrev pub deepest_case : (Term × ℕ) → ℕ
  deepest_case c = max (term c.0) c.1

  abbrev pub rule_depth_level : (ℕ → ℕ) → Rule-F ℕ (Term × ℕ) → ℕ
  rule_depth_level calls Rule-F.Skip = 1
  rule_depth_level calls (Rule-F.Call m args) = max (1 + deepest args) (calls m)
  rule_depth_level calls (Rule-F.Update f args value span) = 1 + max (deepest args) (term value)
  rule_depth_level calls (Rule-F.Par rules span) = 1 + greatest rules
  rule_depth_level calls (Rule-F.Seq rules span) = 1 + greatest rules
  rule_depth_level calls (Rule-F.If guard first other) =
      1 + max (term guard) (max first (greatest (optional other)))
  rule_depth_level calls (Rule-F.Forall ranges guard body span) =
      1 + max (deepest (optional guard)) body
  rule_depth_level calls (Rule-F.Choose ranges guard body other place) =
      1 + max (deepest (optional guard)) (max body (greatest (optional other)))
  rule_depth_level calls (Rule-F.Let values body) = 1 + max (deepest values) body
  rule_depth_level calls (Rule-F.Switch v cases other) =
      1 + max (term v) (max (greatest (map deepest_case cases)) (greatest (optional other)))
  rule_depth_level calls (Rule-F.Extend d count body span) = 1 + body

abbrev pub macro_depth : List FunctionInfo → List MacroInfo → ℕ → ℕ
macro_depth functions macros =
    of_macro (rule_depth_level (term_depth functions)) 0 macros 512

abbrev pub rule_depth : List FunctionInfo → List MacroInfo → Rule → ℕ
rule_depth functions macros =
    of_rule (rule_depth_level (term_depth functions)) (macro_depth functions macros)

-- ---- work: the nodes that are looked at

-- the number of combinations of members
abbrev pub sizes : List DomainInfo → List Domain → ℕ
sizes domains [] = 1
sizes domains (d ∷ ds) = unwrap_or (size domains d) 0 * sizes domains ds

module _ (domains : List DomainInfo) where
  -- ranges multiply their body; a called body is added to the arguments
  abbrev pub work_level : (ℕ → ℕ) → Term-F ℕ (ℕ × ℕ) → ℕ
  work_level calls (Term-F.Call f args) = 1 + sum args + calls f
  work_level calls (Term-F.Forall ranges body) = 1 + sizes domains ranges * body
  work_level calls (Term-F.Exist ranges body) = 1 + sizes domains ranges * body
  work_level calls (Term-F.ExistUnique ranges body) = 1 + sizes domains ranges * body
  work_level calls a = 1 + sum (parts a)

  abbrev pub function_work : List FunctionInfo → ℕ → ℕ
  function_work functions = of_function work_level 0 functions 512

  abbrev pub term_work : List FunctionInfo → Term → ℕ
  term_work functions = of_term work_level (function_work functions)

  module _ (term : Term → ℕ) where
    abbrev pub all_work : List Term → ℕ
    all_work ts = sum (map term ts)

    abbrev pub case_work : (Term × ℕ) → ℕ
    case_work c = term c.0 + c.1

    -- ranges multiply their guard and their body
    abbrev pub rule_work_level : (ℕ → ℕ) → Rule-F ℕ (Term × ℕ) → ℕ
    rule_work_level calls Rule-F.Skip = 1
    rule_work_level calls (Rule-F.Call m args) = 1 + all_work args + calls m
    rule_work_level calls (Rule-F.Update f args value span) = 1 + all_work args + term value
    rule_work_level calls (Rule-F.Par rules span) = 1 + sum rules
    rule_work_level calls (Rule-F.Seq rules span) = 1 + sum rules
    rule_work_level calls (Rule-F.If guard first other) =
        1 + term guard + first + sum (optional other)
    rule_work_level calls (Rule-F.Forall ranges guard body span) =
        1 + sizes domains ranges * (all_work (optional guard) + body)
    rule_work_level calls (Rule-F.Choose ranges guard body other place) =
        1 + sizes domains ranges * (all_work (optional guard) + body) + sum (optional other)
    rule_work_level calls (Rule-F.Let values body) = 1 + all_work values + body
    rule_work_level calls (Rule-F.Switch v cases other) =
        1 + term v + sum (map case_work cases) + sum (optional other)
    rule_work_level calls (Rule-F.Extend d count body span) = 1 + body

  abbrev pub macro_work : List FunctionInfo → List MacroInfo → ℕ → ℕ
  macro_work functions macros =
      of_macro (rule_work_level (term_work functions)) 0 macros 512

  abbrev pub rule_work : List FunctionInfo → List MacroInfo → Rule → ℕ
  rule_work functions macros =
      of_rule (rule_work_level (term_work functions)) (macro_work functions macros)

  abbrev pub args_of : Option FunctionInfo → List Domain
  args_of None = []
  args_of (Some info) = info.args

  -- an initial term is evaluated for each list of arguments
  abbrev pub start_work : List FunctionInfo → ℕ → Term → ℕ
  start_work functions f body =
      sizes domains (args_of (slice_get functions f)) * term_work functions body

-- ---- counts that functions carry

-- the most that a count is told as
abbrev pub most_count : ℕ
most_count = 2 ^ 32

-- each of these functions, from number f on, carries its depth, and its work as it is told
abbrev pub are_counted : List DomainInfo → List FunctionInfo → ℕ → List FunctionInfo → Bool
are_counted domains all f [] = true
are_counted domains all f (info ∷ infos) =
    ((info.depth == function_depth all f)
    && (info.work == min (function_work domains all f) most_count))
    && are_counted domains all (f + 1) infos

abbrev pub functions_are_counted : List DomainInfo → List FunctionInfo → Bool
functions_are_counted domains functions = are_counted domains functions 0 functions
