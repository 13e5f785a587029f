-- Depth and work together, level by level, each told as 2^32 where it is more.
use Rattle.std.specs.Prelude.{ℕ, ◌+◌, ◌*◌, ◌^◌, max, min, Option, Some, None, List, [], ◌∷◌, map}
use Rattle.std.specs.Prelude.{slice_get, unwrap_or}
use Rattle.std.specs.Option.{option_map}
use Rattle.asm_value.specs.declared.domain.Domain.{Domain}
use Rattle.asm_value.specs.declared.domain.DomainInfo.{DomainInfo}
use Rattle.asm_value.specs.Enumerable.{size}
use Rattle.asm_program.specs.declared.trees.Term.{Term}
use Rattle.asm_program.specs.declared.trees.Case.{Case}
use Rattle.asm_program.specs.declared.trees.Term.TheOpen.{Term-F}
use Rattle.asm_program.specs.declared.trees.Term.TheViews.{out-Case}
use Rattle.asm_program.specs.declared.trees.Rule.{Rule}
use Rattle.asm_program.specs.declared.trees.RuleCase.{RuleCase}
use Rattle.asm_program.specs.declared.trees.Rule.TheOpen.{Rule-F}
use Rattle.asm_program.specs.declared.trees.Rule.TheViews.{out-RuleCase}
use Rattle.asm_program.specs.Counts.{sizes}
use Rattle.asm_program.specs.Forms.{of_term, of_rule}
use Rattle.asm_counts.specs.declared.counts.Counts.{Counts}

-- of what has no nodes
unfoldable pub nothing : Counts
nothing = record { depth = 0; work = 0 }

-- of a node of which this is what its parts have
unfoldable pub node : Counts → Counts
node c = record { depth = min (1 + c.depth) (2 ^ 32); work = min (1 + c.work) (2 ^ 32) }

-- of two parts together
unfoldable pub both : Counts → Counts → Counts
both a b = record { depth = max a.depth b.depth; work = min (a.work + b.work) (2 ^ 32) }

-- of a part that is looked at so many times
unfoldable pub times : ℕ → Counts → Counts
times n c = record { depth = c.depth; work = min (n * c.work) (2 ^ 32) }

-- of all parts together
abbrev pub together : List Counts → Counts
together [] = nothing
together (c ∷ cs) = both c (together cs)

abbrev pub if_any : Option Counts → Counts
if_any None = nothing
if_any (Some c) = c

-- those that are known of a function or a macro rule, by its number
unfoldable pub known : List Counts → ℕ → Counts
known counts n = if_any (slice_get counts n)

abbrev pub members : List DomainInfo → Domain → ℕ
members domains d = unwrap_or (size domains d) 0

-- the number of combinations of members
unfoldable pub combinations : List DomainInfo → List Domain → ℕ
combinations domains ranges = min (sizes domains ranges) (2 ^ 32)

abbrev pub pair_counts : Counts × Counts → Counts
pair_counts c = both c.0 c.1

module _ (domains : List DomainInfo) where
  -- ---- terms

  abbrev pub each : List Domain → Counts → Counts
  each ranges body = node (times (combinations domains ranges) body)

  -- a called body is where the call is, whose arguments are a path of their own
  abbrev pub counts_level : (ℕ → Counts) → Term-F Counts (Counts × Counts) → Counts
  counts_level calls (Term-F.Operator operation args span) = node (together args)
  counts_level calls (Term-F.And left right) = node (both left right)
  counts_level calls (Term-F.Or left right) = node (both left right)
  counts_level calls (Term-F.Implies left right) = node (both left right)
  counts_level calls (Term-F.Constant v) = node nothing
  counts_level calls (Term-F.Variable i) = node nothing
  counts_level calls (Term-F.Read f args) = node (together args)
  counts_level calls (Term-F.Call f args) = both (node (together args)) (calls f)
  counts_level calls (Term-F.Tuple items span) = node (together items)
  counts_level calls (Term-F.Forall ranges body) = each ranges body
  counts_level calls (Term-F.Exist ranges body) = each ranges body
  counts_level calls (Term-F.ExistUnique ranges body) = each ranges body
  counts_level calls (Term-F.Interval from to span) = node (both from to)
  counts_level calls (Term-F.Set items span) = node (together items)
  counts_level calls (Term-F.Seq items span) = node (together items)
  counts_level calls (Term-F.If guard first other) =
      node (both (both guard first) (if_any other))
  counts_level calls (Term-F.Let values body) = node (both (together values) body)
  counts_level calls (Term-F.Switch v cases other) =
      node (both (both v (together (map pair_counts cases))) (if_any other))

  -- of a term, from those that are known of functions
  unfoldable pub term_counts : (ℕ → Counts) → Term → Counts
  term_counts calls t = of_term counts_level calls t

  unfoldable pub terms_counts : (ℕ → Counts) → List Term → Counts
  terms_counts calls ts = together (map (term_counts calls) ts)

  unfoldable pub other_counts : (ℕ → Counts) → Option Term → Counts
  other_counts calls t = if_any (option_map (term_counts calls) t)

  unfoldable pub case_counts : (ℕ → Counts) → Case → Counts
  case_counts calls c =
      both (term_counts calls (out-Case c).value) (term_counts calls (out-Case c).term)

  unfoldable pub cases_counts : (ℕ → Counts) → List Case → Counts
  cases_counts calls cs = together (map (case_counts calls) cs)

  -- ---- rules

  module _ (term : Term → Counts) where
    abbrev pub rule_pair_counts : Term × Counts → Counts
    rule_pair_counts c = both (term c.0) c.1

    -- ranges multiply their guard and their body
    abbrev pub each_rule : List Domain → Option Term → Counts → Counts
    each_rule ranges guard body =
        times (combinations domains ranges) (both (if_any (option_map term guard)) body)

    abbrev pub rule_counts_level : (ℕ → Counts) → Rule-F Counts (Term × Counts) → Counts
    rule_counts_level calls Rule-F.Skip = node nothing
    rule_counts_level calls (Rule-F.Call m args) =
        both (node (together (map term args))) (calls m)
    rule_counts_level calls (Rule-F.Update f args value span) =
        node (both (together (map term args)) (term value))
    rule_counts_level calls (Rule-F.Par rules span) = node (together rules)
    rule_counts_level calls (Rule-F.Seq rules span) = node (together rules)
    rule_counts_level calls (Rule-F.If guard first other) =
        node (both (both (term guard) first) (if_any other))
    rule_counts_level calls (Rule-F.Forall ranges guard body span) =
        node (each_rule ranges guard body)
    rule_counts_level calls (Rule-F.Choose ranges guard body other place) =
        node (both (each_rule ranges guard body) (if_any other))
    rule_counts_level calls (Rule-F.Let values body) = node (both (together (map term values)) body)
    rule_counts_level calls (Rule-F.Switch v cases other) =
        node (both (both (term v) (together (map rule_pair_counts cases))) (if_any other))
    rule_counts_level calls (Rule-F.Extend d count body span) = node body

    -- of a rule, from those of terms and those that are known of macro rules
    unfoldable pub rule_counts : (ℕ → Counts) → Rule → Counts
    rule_counts calls r = of_rule rule_counts_level calls r

    unfoldable pub rules_counts : (ℕ → Counts) → List Rule → Counts
    rules_counts calls rs = together (map (rule_counts calls) rs)

    unfoldable pub other_rule_counts : (ℕ → Counts) → Option Rule → Counts
    other_rule_counts calls r = if_any (option_map (rule_counts calls) r)

    unfoldable pub rule_case_counts : (ℕ → Counts) → RuleCase → Counts
    rule_case_counts calls c =
        both (term (out-RuleCase c).value) (rule_counts calls (out-RuleCase c).rule)

    unfoldable pub rule_cases_counts : (ℕ → Counts) → List RuleCase → Counts
    rule_cases_counts calls cs = together (map (rule_case_counts calls) cs)
