-- The parser of rules is exact for the grammar.
use Rattle.asm_grammar.proofs.Exact.{weaken}
use Rattle.asm_syntax.specs.Rules as g
use Rattle.asm_parse_theory.specs.Firsts.{among, after_rule, starts_rule}
use Rattle.asm_parse_theory.specs.Rules as r
use Rattle.asm_parse_theory.proofs.Facts.{Line}
use Rattle.asm_parse_theory.proofs.TermFacts.{term_line, call_line, deeper_term, deeper_ranges, deeper_binds, deeper_arguments}
use Rattle.asm_parse_theory.proofs.OfTerms.{OfTerms}
use Rattle.asm_parse_theory.proofs.SoundRules.{sound_rule, rule_starts, rule_empty}
use Rattle.asm_parse_theory.proofs.CompleteRuleParts.{rule_under}
use Rattle.asm_parse_theory.proofs.CompleteRules.{complete_rule}
use Rattle.asm_parse_theory.proofs.FrontsRules.{fronts_rule}
use Rattle.asm_parse_theory.proofs.WiderRules.{wider_rule}

of_terms : OfTerms
of_terms = record {
  value = term_line;
  call = call_line;
  inner = deeper_term;
  ranges = deeper_ranges;
  binds = deeper_binds;
  arguments = deeper_arguments;
}

pub rule_line : Line r.rule (λ f n. g.rule_within f n) starts_rule (λ v. among after_rule)
rule_line = record {
  sound = sound_rule of_terms;
  starts = rule_starts of_terms;
  empty = rule_empty of_terms;
  complete = λ X fits' loose n m room.
      weaken starts_rule (λ v. among after_rule) (λ t h. h) rule_under (complete_rule of_terms fits' X loose n m room);
  fronts = fronts_rule of_terms;
  wider = wider_rule of_terms;
}
