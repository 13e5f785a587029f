-- The tree and the term of a text alone are what the relations say, and nothing else is; nor is anything else reported.
use Rattle.std.proofs.Common.{◌≡◌, ℕ, zero, ◌<◌, ◌≤◌, nat_le, Bool, true, false, if◌then◌else◌, List, [], ◌∷◌, length, Option, Result, Ok, Err, refl, sym, ap, ◌∙◌, subst}
use Rattle.asm_grammar.specs.Parser.{Reply, Took, Refused}
use Rattle.asm_value.specs.declared.domain.Domain.{Domain}
use Rattle.asm_syntax.specs.declared.token.Token.{Token}
use Rattle.asm_syntax.specs.declared.tree.TermTree.{TermTree}
use Rattle.asm_syntax.specs.Lexes.{Stop, End, At, Lexes}
use Rattle.asm_syntax.specs.Grammar.{term}
use Rattle.asm_syntax.specs.Refusals.{Refusal, TooDeep, syntax_refusal, offset_of, IsTermRefusal}
use Rattle.asm_syntax.specs.Texts.{most_bytes, IsTerm, IsRefusedTerm}
use Rattle.asm_lex_theory.specs.Scan.{lexed_from}
use Rattle.asm_lex_theory.proofs.Whole.{lexes_is, reads}
use Rattle.asm_parse_theory.specs.Terms as reading
use Rattle.asm_parse_theory.proofs.TermRefusals.{left_refusal, found_syntax, found_too_deep, term_sound, term_unique, spelled_not_refused, one_term_refusal}
use Rattle.asm_program.specs.declared.program.Program.{Program}
use Rattle.asm_program.specs.declared.bad_text.BadText.{BadText}
use Rattle.asm_program.specs.declared.checked.CheckedTerm.{CheckedTerm}
use Rattle.asm_program.specs.declared.type_refusal.TypeRefusal.{TypeRefusal}
use Rattle.asm_program.specs.TypedAlone.{term_refused, checked_term}
use Rattle.asm_meaning.specs.Texts.{reported_refusal, reported_long, reported_type}
use Rattle.asm_meaning.specs.Terms.{tree_replied, tree_lexed, tree_within, term_tree_of, IsTypedText, IsBadTerm, Means, HasOneMeaning, too_long, unlexed, unread, untyped, unless_refused, term_of_tree, meaning_of_term}
use Rattle.asm_meaning.proofs.Texts.{is_within, is_above, within_is, above_is}

-- ---- the tree of a list of tokens

-- the tree that the tokens spell, or what is reported of their first refusal
abbrev Reads : List ℕ → List Token → Result TermTree BadText → Type 0
Reads text tokens (Ok tree) = term.Spells tree tokens
Reads text tokens (Err reported) =
    (why : Refusal) × (rest : List Token) × IsTermRefusal tokens why rest × (reported ≡ reported_refusal text why (offset_of (length text) rest))

reply_reads : (text : List ℕ) (tokens : List Token) (reply : Reply Token TermTree) → reading.term 64 tokens ≡ reply → Reads text tokens (tree_replied text reply)
reply_reads text tokens (Took tree []) e = term_sound tokens tree e
reply_reads text tokens (Took tree (t ∷ rest)) e = (syntax_refusal (t ∷ rest), t ∷ rest, left_refusal tokens tree t rest e, refl)
reply_reads text tokens (Refused false rest) e = (syntax_refusal rest, rest, found_syntax tokens rest e, refl)
reply_reads text tokens (Refused true rest) e = (TooDeep, rest, found_too_deep tokens rest e, refl)

all_reads : (text : List ℕ) (tokens : List Token) → Reads text tokens (tree_replied text (reading.term 64 tokens))
all_reads text tokens = reply_reads text tokens (reading.term 64 tokens) refl

-- what is spelled or refused is what is read
spelled_is : (text : List ℕ) (tokens : List Token) (tree : TermTree) → term.Spells tree tokens → (r : Result TermTree BadText) → Reads text tokens r → r ≡ Ok tree
spelled_is text tokens tree s (Ok other) h = ap (λ t. Ok t) (term_unique tokens other tree h s)
spelled_is text tokens tree s (Err reported) h = absurd (spelled_not_refused tokens tree h.0 h.1 s h.2)

refused_is : (text : List ℕ) (tokens : List Token) (why : Refusal) (rest : List Token) → IsTermRefusal tokens why rest → (r : Result TermTree BadText)
    → Reads text tokens r → r ≡ Err (reported_refusal text why (offset_of (length text) rest))
refused_is text tokens why rest s (Ok tree) h = absurd (spelled_not_refused tokens tree why rest h s)
refused_is text tokens why rest s (Err reported) h =
    let same = one_term_refusal tokens h.0 why h.1 rest h.2 s in
    ap (λ t. Err t) (h.3 ∙ (λ i. reported_refusal text (same.0 i) (offset_of (length text) (same.1 i))))

-- ---- the tree of a text

-- the text's tree, or what is reported of it over any program
abbrev Answers : List ℕ → Result TermTree BadText → Type 0
Answers text (Ok tree) = IsTerm text tree
Answers text (Err why) = (program : Program) (wanted : Option Domain) → IsBadTerm program wanted text why

tokens_answer : (text : List ℕ) (tokens : List Token) → Lexes 0 text tokens End → length text ≤ most_bytes → (r : Result TermTree BadText)
    → Reads text tokens r → Answers text r
tokens_answer text tokens l short (Ok tree) h = record { tokens = tokens; lexes = l; spells = h; short = short }
tokens_answer text tokens l short (Err reported) h = λ program wanted.
    subst (IsBadTerm program wanted text) (sym h.3) (unread (record { tokens = tokens; rest = h.1; lexes = l; short = short; refused = h.2; there = refl }))

lexed_answers : (text : List ℕ) (tokens : List Token) (stop : Stop) → Lexes 0 text tokens stop → length text ≤ most_bytes → Answers text (tree_lexed text tokens stop)
lexed_answers text tokens End l short = tokens_answer text tokens l short (tree_replied text (reading.term 64 tokens)) (all_reads text tokens)
lexed_answers text tokens (At refusal at) l short = λ program wanted. unlexed short l

tree_answers : (text : List ℕ) → Answers text (term_tree_of text)
unfolding term_tree_of
tree_answers text = by (nat_le (length text) most_bytes) refl
  where
    by : (short : Bool) → nat_le (length text) most_bytes ≡ short → Answers text (if short then tree_within text (lexed_from text zero 0) else Err (reported_long text))
    by true e = lexed_answers text (lexed_from text zero 0).0 (lexed_from text zero 0).1 (reads text 0) (is_within (length text) most_bytes e)
    by false e = λ program wanted. too_long (is_above (length text) most_bytes e)

pub tree_sound : (text : List ℕ) (tree : TermTree) → term_tree_of text ≡ Ok tree → IsTerm text tree
tree_sound text tree e = subst (Answers text) e (tree_answers text)

-- the tree of a text that is read so
lexed_is : (text : List ℕ) (tokens : List Token) (stop : Stop) → Lexes 0 text tokens stop → length text ≤ most_bytes → term_tree_of text ≡ tree_lexed text tokens stop
unfolding term_tree_of
lexed_is text tokens stop l short =
    ap (λ b. if b then tree_within text (lexed_from text zero 0) else Err (reported_long text)) (within_is (length text) most_bytes short)
    ∙ ap (tree_within text) (lexes_is 0 text tokens stop l)

pub tree_complete : (text : List ℕ) (tree : TermTree) → IsTerm text tree → term_tree_of text ≡ Ok tree
tree_complete text tree m = lexed_is text m.tokens End m.lexes m.short ∙ spelled_is text m.tokens tree m.spells _ (all_reads text m.tokens)

long_is : (text : List ℕ) → most_bytes < length text → term_tree_of text ≡ Err (reported_long text)
unfolding term_tree_of
long_is text long = ap (λ b. if b then tree_within text (lexed_from text zero 0) else Err (reported_long text)) (above_is (length text) most_bytes long)

unread_is : (text : List ℕ) (why : Refusal) (at : ℕ) → IsRefusedTerm text why at → term_tree_of text ≡ Err (reported_refusal text why at)
unread_is text why at m =
    lexed_is text m.tokens End m.lexes m.short
    ∙ refused_is text m.tokens why m.rest m.refused _ (all_reads text m.tokens)
    ∙ ap (λ place. Err (reported_refusal text why place)) (sym m.there)

-- ---- terms

module _ (program : Program) (wanted : Option Domain) where
  checked_means : (text : List ℕ) (tree : TermTree) → IsTerm text tree → (refused : List TypeRefusal) → term_refused program wanted tree ≡ refused
      → Means program wanted text (unless_refused text refused (checked_term program tree))
  checked_means text tree m [] e = record { tree = tree; spelled = m; unrefused = e; is = refl }
  checked_means text tree m (why ∷ others) e = untyped m e

  tree_means : (text : List ℕ) (r : Result TermTree BadText) → Answers text r → Means program wanted text (term_of_tree program wanted text r)
  tree_means text (Ok tree) h = checked_means text tree h (term_refused program wanted tree) refl
  tree_means text (Err why) h = h program wanted

  means : (text : List ℕ) → Means program wanted text (meaning_of_term program wanted text)
  unfolding meaning_of_term
  means text = tree_means text (term_tree_of text) (tree_answers text)

  pub typed_sound : (text : List ℕ) (t : CheckedTerm) → meaning_of_term program wanted text ≡ Ok t → IsTypedText program wanted text t
  typed_sound text t e = subst (Means program wanted text) e (means text)

  pub bad_sound : (text : List ℕ) (why : BadText) → meaning_of_term program wanted text ≡ Err why → IsBadTerm program wanted text why
  bad_sound text why e = subst (Means program wanted text) e (means text)

  pub typed_complete : (text : List ℕ) (t : CheckedTerm) → IsTypedText program wanted text t → meaning_of_term program wanted text ≡ Ok t
  unfolding meaning_of_term
  typed_complete text t p =
      ap (term_of_tree program wanted text) (tree_complete text p.tree p.spelled)
      ∙ (λ i. unless_refused text (p.unrefused i) (sym p.is i))

  -- what a text means whose tree is reported
  reported_is : (text : List ℕ) (why : BadText) → term_tree_of text ≡ Err why → meaning_of_term program wanted text ≡ Err why
  unfolding meaning_of_term
  reported_is text why e = ap (term_of_tree program wanted text) e

  untyped_is : (text : List ℕ) (tree : TermTree) (why : TypeRefusal) (others : List TypeRefusal) → IsTerm text tree → term_refused program wanted tree ≡ why ∷ others
      → meaning_of_term program wanted text ≡ Err (reported_type text why)
  unfolding meaning_of_term
  untyped_is text tree why others m e =
      ap (term_of_tree program wanted text) (tree_complete text tree m)
      ∙ ap (λ refused. unless_refused text refused (checked_term program tree)) e

  pub bad_complete : (text : List ℕ) (why : BadText) → IsBadTerm program wanted text why → meaning_of_term program wanted text ≡ Err why
  bad_complete text why (too_long long) = reported_is text why (long_is text long)
  bad_complete text why (unlexed {tokens = tokens} {why = refusal} {at = at} short l) = reported_is text why (lexed_is text tokens (At refusal at) l short)
  bad_complete text reported (unread {why = why} {at = at} m) = reported_is text reported (unread_is text why at m)
  bad_complete text reported (untyped {tree = tree} {why = why} {others = others} m e) = untyped_is text tree why others m e

  -- ---- exactly one

  alone : (text : List ℕ) (other : Result CheckedTerm BadText) → Means program wanted text other → other ≡ meaning_of_term program wanted text
  alone text (Ok t) h = sym (typed_complete text t h)
  alone text (Err why) h = sym (bad_complete text why h)

  pub one_meaning : (text : List ℕ) → HasOneMeaning program wanted text
  one_meaning text = record { meaning = meaning_of_term program wanted text; means = means text; alone = alone text }
