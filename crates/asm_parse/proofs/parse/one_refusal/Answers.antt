use Rattle.asm_parse.proofs.Once.{one_model_refusal_of, one_term_refusal_of, no_model_refusal, no_term_refusal}
use Rattle.asm_parse.proofs.parse.one_refusal.Goals as goal

pub returns-clause-model : goal.returns-clause-model
returns-clause-model c = λ text. one_model_refusal_of text (c.one_reading.ensures text)

pub returns-clause-term : goal.returns-clause-term
returns-clause-term c = λ text. one_term_refusal_of text (c.one_reading.ensures text)

pub returns-clause-no_model : goal.returns-clause-no_model
returns-clause-no_model c = λ text. no_model_refusal text (c.one_reading.ensures text)

pub returns-clause-no_term : goal.returns-clause-no_term
returns-clause-no_term c = λ text. no_term_refusal text (c.one_reading.ensures text)
