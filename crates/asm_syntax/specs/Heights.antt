-- The height of a term, which limits what is allowed left of an operator.
use Rattle.std.specs.Prelude.{ℕ, suc, Bool, List, [], ◌∷◌, Option, Some, None}
use Rattle.std.specs.Prelude.{nat_le, nat_lt, if◌then◌else◌}
use Rattle.asm_syntax.specs.declared.tree.TermTree.{TermTree, fold-TermTree}
use Rattle.asm_syntax.specs.declared.tree.TermTree.TheOpen.{TermTree-F, TermsTree-F, BindTree-F}
use Rattle.asm_syntax.specs.declared.tree.TermTree.TheOpen.{BindsTree-F, CaseTree-F}

-- ---- heights

abbrev pub greater : ℕ → ℕ → ℕ
greater m n = if nat_le m n then n else m

abbrev pub greatest : List ℕ → ℕ
greatest [] = 0
greatest (n ∷ ns) = greater n (greatest ns)

-- without a part nothing is added
abbrev pub or_zero : Option ℕ → ℕ
or_zero None = 0
or_zero (Some n) = n

abbrev pub above : Option ℕ → ℕ
above None = 0
above (Some n) = suc n

-- Of a term without parts 0, else 1 plus the greatest height of a part. Lists, binds and cases give
-- the greatest height in them.
abbrev pub term_step : TermTree-F ℕ ℕ ℕ ℕ ℕ → ℕ
term_step (TermTree-F.Prefix op t span) = suc t
term_step (TermTree-F.Binary left op right span) = suc (greater left right)
term_step (TermTree-F.Number t span) = 0
term_step (TermTree-F.Chars t span) = 0
term_step (TermTree-F.True span) = 0
term_step (TermTree-F.False span) = 0
term_step (TermTree-F.Undef span) = 0
term_step (TermTree-F.Var t span) = 0
term_step (TermTree-F.Name t args span) = above args
term_step (TermTree-F.Tuple items span) = suc items
term_step (TermTree-F.Forall ranges body span) = suc body
term_step (TermTree-F.Exist unique ranges body span) = suc body
term_step (TermTree-F.Interval from to span) = suc (greater from to)
term_step (TermTree-F.Set items span) = above items
term_step (TermTree-F.Seq items span) = above items
term_step (TermTree-F.If guard first other span) =
    suc (greater guard (greater first (or_zero other)))
term_step (TermTree-F.Let binds body span) = suc (greater binds body)
term_step (TermTree-F.Switch t cases other span) =
    suc (greater t (greater (greatest cases) (or_zero other)))

abbrev pub bind_step : BindTree-F ℕ ℕ ℕ ℕ ℕ → ℕ
bind_step b = b.value

abbrev pub binds_step : BindsTree-F ℕ ℕ ℕ ℕ ℕ → ℕ
binds_step b = greater b.first (greatest b.others)

abbrev pub case_step : CaseTree-F ℕ ℕ ℕ ℕ ℕ → ℕ
case_step c = greater c.value c.term

abbrev pub terms_step : TermsTree-F ℕ ℕ ℕ ℕ ℕ → ℕ
terms_step t = greater t.first (greatest t.others)

unfoldable pub height : TermTree → ℕ
height = fold-TermTree ℕ ℕ ℕ ℕ ℕ term_step bind_step binds_step case_step terms_step

-- a left operand of a binary operator is at most 63 high
unfoldable pub fits : TermTree → Bool
fits t = nat_lt (height t) 64
