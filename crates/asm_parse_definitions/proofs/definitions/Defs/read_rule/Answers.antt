use Rattle.asm_parse_definitions.proofs.definitions.Defs.read_rule.Goals as goal

pub returns : goal.returns
returns g c = c.requires.rules.reads _ _ _ _ c.rule.ensures
