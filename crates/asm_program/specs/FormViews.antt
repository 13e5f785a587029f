-- One level of each form of terms.
use Rattle.std.proofs.Common.{◌≡◌, ℕ, Option, List, rules}
use Rattle.asm_value.specs.declared.value.Value.{Value}
use Rattle.asm_value.specs.declared.domain.Domain.{Domain}
use Rattle.asm_syntax.specs.declared.token.Span.{Span}
use Rattle.asm_tables.specs.declared.rows.Operation.{Operation}
use Rattle.asm_program.specs.declared.trees.Term.{Term}
use Rattle.asm_program.specs.declared.trees.Case.{Case}
use Rattle.asm_program.specs.declared.trees.Term.TheOpen.{Term-F}
use Rattle.asm_program.specs.declared.trees.Term.TheVariants as form
use Rattle.asm_program.specs.declared.trees.Term.TheViews.{out-Term, the_lemmas}

pub out-Operator : (o : Option Operation) (args : List Term) (span : Span)
    → out-Term (form.Operator o args span) ≡ Term-F.Operator o args span
out-Operator o args span = search (rules, the_lemmas)

pub out-And : (a : Term) (b : Term)
    → out-Term (form.And a b) ≡ Term-F.And a b
out-And a b = search (rules, the_lemmas)

pub out-Or : (a : Term) (b : Term)
    → out-Term (form.Or a b) ≡ Term-F.Or a b
out-Or a b = search (rules, the_lemmas)

pub out-Implies : (a : Term) (b : Term)
    → out-Term (form.Implies a b) ≡ Term-F.Implies a b
out-Implies a b = search (rules, the_lemmas)

pub out-Constant : (v : Value)
    → out-Term (form.Constant v) ≡ Term-F.Constant v
out-Constant v = search (rules, the_lemmas)

pub out-Variable : (i : ℕ)
    → out-Term (form.Variable i) ≡ Term-F.Variable i
out-Variable i = search (rules, the_lemmas)

pub out-Read : (f : ℕ) (args : List Term)
    → out-Term (form.Read f args) ≡ Term-F.Read f args
out-Read f args = search (rules, the_lemmas)

pub out-Call : (f : ℕ) (args : List Term)
    → out-Term (form.Call f args) ≡ Term-F.Call f args
out-Call f args = search (rules, the_lemmas)

pub out-Tuple : (items : List Term) (span : Span)
    → out-Term (form.Tuple items span) ≡ Term-F.Tuple items span
out-Tuple items span = search (rules, the_lemmas)

pub out-Forall : (ranges : List Domain) (b : Term)
    → out-Term (form.Forall ranges b) ≡ Term-F.Forall ranges b
out-Forall ranges b = search (rules, the_lemmas)

pub out-Exist : (ranges : List Domain) (b : Term)
    → out-Term (form.Exist ranges b) ≡ Term-F.Exist ranges b
out-Exist ranges b = search (rules, the_lemmas)

pub out-ExistUnique : (ranges : List Domain) (b : Term)
    → out-Term (form.ExistUnique ranges b) ≡ Term-F.ExistUnique ranges b
out-ExistUnique ranges b = search (rules, the_lemmas)

pub out-Interval : (a : Term) (b : Term) (span : Span)
    → out-Term (form.Interval a b span) ≡ Term-F.Interval a b span
out-Interval a b span = search (rules, the_lemmas)

pub out-Set : (items : List Term) (span : Span)
    → out-Term (form.Set items span) ≡ Term-F.Set items span
out-Set items span = search (rules, the_lemmas)

pub out-Seq : (items : List Term) (span : Span)
    → out-Term (form.Seq items span) ≡ Term-F.Seq items span
out-Seq items span = search (rules, the_lemmas)

pub out-If : (a : Term) (b : Term) (other : Option Term)
    → out-Term (form.If a b other) ≡ Term-F.If a b other
out-If a b other = search (rules, the_lemmas)

pub out-Let : (bound : List Term) (b : Term)
    → out-Term (form.Let bound b) ≡ Term-F.Let bound b
out-Let bound b = search (rules, the_lemmas)

pub out-Switch : (a : Term) (cases : List Case) (other : Option Term)
    → out-Term (form.Switch a cases other) ≡ Term-F.Switch a cases other
out-Switch a cases other = search (rules, the_lemmas)
