use Rattle.std.proofs.Common.{◌≡◌, ◌∷◌, map, take}
use Rattle.asm_syntax.specs.Marks.{text_of}
use Rattle.asm_names.proofs.domain_infos.literal_texts.Given as goal

abbrev pub invariant-loop-name : goal.invariant-loop-name
invariant-loop-name l = l.texts ≡ text_of l.first ∷ map text_of (take l.name-index l.others)
