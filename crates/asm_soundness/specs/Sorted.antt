-- What the numbers in a program's terms and rules stand for: its updates are of functions that rules
-- set, it extends abstract domains, and the members that it names are literals and constants. Each
-- checked program is so.
use Rattle.std.specs.Prelude.{◌≡◌, ℕ, nat_lt, Bool, true, false, ◌&&◌, ◌||◌, List, [], ◌∷◌}
use Rattle.std.specs.Prelude.{◌++◌, map, slice_get}
use Rattle.std.specs.Option.{option_map_or}
use Rattle.std.specs.List.{list_all}
use Rattle.asm_value.specs.declared.value.Value.{Value}
use Rattle.asm_value.specs.declared.value.Value.TheOpen.{Value-F}
use Rattle.asm_value.specs.declared.value.Value.TheFolds.{fold-Value}
use Rattle.asm_value.specs.declared.domain.DomainInfo.{DomainInfo}
use Rattle.asm_value.specs.Domain.{has_literal}
use Rattle.asm_value.specs.Living.{is_abstract}
use Rattle.asm_program.specs.declared.trees.Term.{Term}
use Rattle.asm_program.specs.declared.trees.Term.TheOpen.{Term-F}
use Rattle.asm_program.specs.declared.trees.Rule.{Rule}
use Rattle.asm_program.specs.declared.trees.Rule.TheOpen.{Rule-F}
use Rattle.asm_program.specs.declared.program.FunctionInfo.{FunctionInfo}
use Rattle.asm_program.specs.declared.program.Program.{Program}
use Rattle.asm_program.specs.Forms.{optional, parts, of_term, rule_parts, of_rule}
use Rattle.asm_program.specs.Members.{constants_of}
use Rattle.asm_program.specs.TypedRules.{is_updated}
use Rattle.asm_soundness.specs.WellFormed.{is_dynamic}

-- ---- values

-- a test of the members in a value
abbrev pub members_level : (ℕ → ℕ → Bool) → Value-F Bool → Bool
members_level test Value-F.Undef = true
members_level test (Value-F.Truth b) = true
members_level test (Value-F.Int n) = true
members_level test (Value-F.Chars t) = true
members_level test (Value-F.Member d i) = test d i
members_level test (Value-F.Tuple items) = list_all (λ b. b) items
members_level test (Value-F.Seq items) = list_all (λ b. b) items
members_level test (Value-F.Set items) = list_all (λ b. b) items

-- each member in the value passes the test
unfoldable pub members_pass : (ℕ → ℕ → Bool) → Value → Bool
members_pass test = fold-Value Bool (members_level test)

-- a literal, or a constant
abbrev pub is_named : List DomainInfo → ℕ → ℕ → Bool
is_named domains d i =
    option_map_or (λ info. has_literal info.kind i || nat_lt i (constants_of info.kind))
    (slice_get domains d) false

-- ---- terms

-- each constant in the term is a value of named members
abbrev pub term_level : List DomainInfo → (ℕ → Bool) → Term-F Bool (Bool × Bool) → Bool
term_level domains calls (Term-F.Constant v) = members_pass (is_named domains) v
term_level domains calls a = list_all (λ b. b) (parts a)

abbrev pub is_sorted_term : List DomainInfo → Term → Bool
is_sorted_term domains = of_term (term_level domains) (λ f. true)

-- ---- rules

-- the terms of a rule, from left to right, without those of its rules
abbrev pub rule_terms : {A : Type 0} → Rule-F A (Term × A) → List Term
rule_terms Rule-F.Skip = []
rule_terms (Rule-F.Call m args) = args
rule_terms (Rule-F.Update f args value span) = args ++ value ∷ []
rule_terms (Rule-F.Par rules span) = []
rule_terms (Rule-F.Seq rules span) = []
rule_terms (Rule-F.If guard first other) = guard ∷ []
rule_terms (Rule-F.Forall ranges guard body span) = optional guard
rule_terms (Rule-F.Choose ranges guard body other place) = optional guard
rule_terms (Rule-F.Let values body) = values
rule_terms (Rule-F.Switch v cases other) = v ∷ map (λ c. c.0) cases
rule_terms (Rule-F.Extend d count body span) = []

-- a function that rules set
abbrev pub is_set_by_rules : List FunctionInfo → ℕ → Bool
is_set_by_rules functions f =
    option_map_or (λ info. is_updated info.kind) (slice_get functions f) false

module _ (domains : List DomainInfo) (functions : List FunctionInfo) where
  -- what the rule itself sets or extends
  abbrev pub names_right : Rule-F Bool (Term × Bool) → Bool
  names_right (Rule-F.Update f args value span) = is_set_by_rules functions f
  names_right (Rule-F.Extend d count body span) = is_abstract domains d
  names_right _ = true

  abbrev pub rule_level : (ℕ → Bool) → Rule-F Bool (Term × Bool) → Bool
  rule_level calls a =
      names_right a
      && (list_all (is_sorted_term domains) (rule_terms a) && list_all (λ b. b) (rule_parts a))

  abbrev pub is_sorted_rule : Rule → Bool
  is_sorted_rule = of_rule rule_level (λ m. true)

-- ---- programs

-- the term of a function, where it has one
abbrev pub is_sorted_body : List DomainInfo → FunctionInfo → Bool
is_sorted_body domains info = list_all (is_sorted_term domains) (optional info.body)

-- an initial term is of a dynamic function
abbrev pub is_set_at_start : List FunctionInfo → ℕ → Bool
is_set_at_start functions f =
    option_map_or (λ info. is_dynamic info.kind) (slice_get functions f) false

pub record IsSorted (p : Program) : Type 0 where
  pub main : is_sorted_rule p.domains p.functions p.main ≡ true
  pub macros : list_all (λ info. is_sorted_rule p.domains p.functions info.body) p.macros ≡ true
  pub bodies : list_all (is_sorted_body p.domains) p.functions ≡ true
  pub inits : list_all (λ init. is_set_at_start p.functions init.function
      && is_sorted_term p.domains init.body) p.inits ≡ true
