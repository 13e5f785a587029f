use Rattle.asm_formula.proofs.Names.{put_both}
use Rattle.asm_formula.proofs.formula.Formula.+put_names.Goals as goal

pub returns-in_ok-put_names-in-Join : goal.returns-in_ok-put_names-in-Join
returns-in_ok-put_names-in-Join t c =
    put_both c.put_names-in-Join.result c.args.self.now _ _ _ c.in-Join.is c.args.found.now c.put_names.new.found c.put_names-in-Join.new.found
    (rw c.get.ensures at c.in_ok-put_names-in-Join.ensures) (rw c.get-in-Join.ensures at c.put_names-in-Join.ensures)
