-- Canonical text is read as the same tree.
use Rattle.std.proofs.Common.{ℕ, ◌≤◌, List, [], ◌++◌, length, sym, ap, ◌∙◌, subst, append-nil}
use Rattle.asm_syntax.specs.declared.tree.TermTree.{TermTree}
use Rattle.asm_syntax.specs.declared.tree.ModelTree.{ModelTree}
use Rattle.asm_syntax.specs.Lexes.{End}
use Rattle.asm_syntax.specs.Grammar.{term, model, are_standard}
use Rattle.asm_syntax.specs.Texts.{most_bytes, IsTerm, IsModel}
use Rattle.asm_syntax.specs.Written.{term_words}
use Rattle.asm_syntax.specs.Canonical.{spaced, model_lines, canonical_term, canonical}
use Rattle.asm_print_theory.specs.Again.{TermReadsBack, ModelReadsBack}
use Rattle.asm_print_theory.proofs.Propers.{words_of}
use Rattle.asm_print_theory.proofs.Terms.{back-term}
use Rattle.asm_print_theory.proofs.Models.{back-model, lines_words}
use Rattle.asm_print_theory.proofs.Texts.{lexed_proper, Reads, read_nothing, read_spaced, read_broken}

pub term_reads_back : (text : List ℕ) (t : TermTree) → IsTerm text t → length (canonical_term t) ≤ most_bytes → TermReadsBack t
unfolding term canonical_term
term_reads_back text t is short =
    let b = (back-term 64).at t is.tokens is.spells (lexed_proper 0 text is.tokens End is.lexes) in
    let r : Reads (spaced (term_words t)) b.kinds =
    subst (λ x. Reads (spaced x) b.kinds) b.written
    (subst (λ x. Reads x b.kinds) (append-nil (spaced (words_of b.kinds)))
    (subst (λ x. Reads (spaced (words_of b.kinds) ++ []) x) (append-nil b.kinds)
    (read_spaced b.kinds [] [] b.proper tt read_nothing))) in
    let l = r 0 in
    let u = b.reads l.0 l.2 in
    (u.0, record { tokens = l.0; lexes = l.1; spells = u.2; short = short }, u.1.0)

pub model_reads_back : (text : List ℕ) (m : ModelTree) → IsModel text m → length (canonical m) ≤ most_bytes → ModelReadsBack m
unfolding model canonical
model_reads_back text m is short =
    let s = is.spells in
    let b = (back-model 64).at (s.imports, m) is.tokens s.spells (lexed_proper 0 text is.tokens End is.lexes) in
    let l = read_broken (model_lines m) b.kinds b.proper (b.written ∙ sym (lines_words m)) 0 in
    let u = b.reads l.0 l.2 in (
      u.0.1,
      record {
        tokens = l.0;
        lexes = l.1;
        spells = record {
          imports = u.0.0;
          spells = u.2;
          standard = ap are_standard u.1.0;
        };
        short = short;
      },
      u.1.1,
    )
