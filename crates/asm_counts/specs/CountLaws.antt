-- Depth and work together are the depth and the work, each told as 2^32 where it is more.
use Rattle.std.specs.Prelude.{◌≡◌, ℕ, ◌^◌, min, List}
use Rattle.asm_value.specs.declared.domain.DomainInfo.{DomainInfo}
use Rattle.asm_program.specs.declared.trees.Term.{Term}
use Rattle.asm_program.specs.declared.trees.Rule.{Rule}
use Rattle.asm_program.specs.Forms.{of_term, of_rule}
use Rattle.asm_program.specs.Counts.{depth_level, work_level, rule_depth_level, rule_work_level}
use Rattle.asm_counts.specs.declared.counts.Counts.{Counts}
use Rattle.asm_counts.specs.CountLevels.{counts_level, rule_counts_level}

-- these counts tell this depth and this work
abbrev pub Tells : Counts → ℕ → ℕ → Type 0
Tells c depth work = (c.depth ≡ min depth (2 ^ 32)) × (c.work ≡ min work (2 ^ 32))

-- those of all functions, or macro rules, by their numbers
abbrev pub AllTell : (ℕ → Counts) → (ℕ → ℕ) → (ℕ → ℕ) → Type 0
AllTell calls depths works = (n : ℕ) → Tells (calls n) (depths n) (works n)

abbrev pub TermsAreTold : Type 0
TermsAreTold =
    (domains : List DomainInfo) (calls : ℕ → Counts) (depths works : ℕ → ℕ)
    → AllTell calls depths works → (t : Term)
    → Tells (of_term (counts_level domains) calls t) (of_term depth_level depths t)
    (of_term (work_level domains) works t)

abbrev pub RulesAreTold : Type 0
RulesAreTold =
    (domains : List DomainInfo) (term : Term → Counts) (depth work : Term → ℕ)
    → ((t : Term) → Tells (term t) (depth t) (work t))
    → (calls : ℕ → Counts) (depths works : ℕ → ℕ) → AllTell calls depths works → (r : Rule)
    → Tells (of_rule (rule_counts_level domains term) calls r)
    (of_rule (rule_depth_level depth) depths r)
    (of_rule (rule_work_level domains work) works r)
