-- The first row that matches is the only one, since no two rows of a table match one name with the same kinds.
use Rattle.std.proofs.Common.{arith, refl}
use Rattle.asm_tables.proofs.Find.{found, kept, not_none, none_at_all, first, no_first}
use Rattle.asm_tables.proofs.table.CaseTable.find.Goals as goal

pub returns-then-matches-clause-row : goal.returns-then-matches-clause-row
returns-then-matches-clause-row g c = first c.args.name.now c.args.kinds.now c.args.self.now.rows c.loop-at.at _ (omega arith) c.loop-at.invariant c.if-matches.ensures

pub returns-then-matches-clause-found : goal.returns-then-matches-clause-found
returns-then-matches-clause-found g c = found c.args.name.now c.args.kinds.now c.args.self.now.rows c.loop-at.at _ (omega arith) c.args.self.now.distinct c.if-matches.ensures

pub returns-then-matches-clause-none : goal.returns-then-matches-clause-none
returns-then-matches-clause-none g c = (λ e. absurd (cc), not_none c.args.name.now c.args.kinds.now c.args.self.now.rows c.loop-at.at _ (omega arith) c.if-matches.ensures)

pub loop-at-preserved : goal.loop-at-preserved
loop-at-preserved g c = kept c.args.name.now c.args.kinds.now c.args.self.now.rows c.loop-at.at _ (omega arith) c.if-matches.ensures c.loop-at.invariant

pub returns-clause-row : goal.returns-clause-row
returns-clause-row g c = no_first c.args.name.now c.args.kinds.now c.args.self.now.rows (λ k l. c.loop-at.invariant k (omega arith))

pub returns-clause-none : goal.returns-clause-none
returns-clause-none g c = (λ e. none_at_all c.args.name.now c.args.kinds.now c.args.self.now.rows c.loop-at.at (omega arith) c.loop-at.invariant, λ none. refl)
