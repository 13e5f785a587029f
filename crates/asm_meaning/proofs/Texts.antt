-- The tree and the program of a text are what the relations say, and nothing else is; nor is anything else reported.
use Rattle.std.proofs.Common.{◌≡◌, ℕ, zero, ◌<◌, ◌≤◌, nat_le, Bool, true, false, if◌then◌else◌, List, [], ◌∷◌, length, slice_get, Option, Some, None, Result, Ok, Err, refl, sym, ap, ◌∙◌, subst, arith}
use Rattle.std.proofs.lemmas.Bool.Decides.{nat_tests}
use Rattle.asm_grammar.specs.Parser.{Reply, Took, Refused}
use Rattle.asm_syntax.specs.declared.token.Token.{Token}
use Rattle.asm_syntax.specs.declared.tree.ModelTree.{ModelTree}
use Rattle.asm_syntax.specs.Lexes.{Stop, End, At, Lexes}
use Rattle.asm_syntax.specs.Models.{Import}
use Rattle.asm_syntax.specs.Grammar.{SpellsModel}
use Rattle.asm_syntax.specs.Refusals.{Refusal, TooDeep, syntax_refusal, offset_of, IsModelRefusal}
use Rattle.asm_syntax.specs.Texts.{most_bytes, IsModel, IsRefusedModel}
use Rattle.asm_lex_theory.specs.Scan.{lexed_from}
use Rattle.asm_lex_theory.proofs.Whole.{lexes_is, reads}
use Rattle.asm_parse_theory.specs.Models as reading
use Rattle.asm_parse_theory.specs.Models.{first_foreign}
use Rattle.asm_parse_theory.proofs.ModelRefusals.{foreign_refusal, left_refusal, found_syntax, found_too_deep, tree_found, one_tree, spelled_not_refused, one_model_refusal}
use Rattle.asm_program.specs.declared.program.Program.{Program}
use Rattle.asm_program.specs.declared.bad_text.BadText.{BadText}
use Rattle.asm_program.specs.declared.type_refusal.TypeRefusal.{TypeRefusal}
use Rattle.asm_program.specs.Typed.{refused, first_refusal}
use Rattle.asm_meaning.specs.Texts.{reported_refusal, reported_long, reported_type, program_of, tree_replied, tree_read, tree_lexed, tree_within, tree_of, IsProgram, IsBadText, Means, HasOneMeaning, too_long, unlexed, unread, untyped, made, checked, program_of_tree, meaning_of_text}
use Rattle.asm_types.proofs.Kept.{has_program}
use Rattle.asm_meaning.proofs.Programs.{program_is_typed, typed_is_program}

-- ---- limits

pub is_within : (a b : ℕ) → nat_le a b ≡ true → a ≤ b
is_within a b h = grind (arith, nat_tests)

pub is_above : (a b : ℕ) → nat_le a b ≡ false → b < a
is_above a b h = grind (arith, nat_tests)

pub within_is : (a b : ℕ) → a ≤ b → nat_le a b ≡ true
within_is a b h = grind (arith, nat_tests)

pub above_is : (a b : ℕ) → b < a → nat_le a b ≡ false
above_is a b h = grind (arith, nat_tests)

-- ---- the tree of a list of tokens

-- the tree that the tokens spell, or what is reported of their first refusal
abbrev Reads : List ℕ → List Token → Result ModelTree BadText → Type 0
Reads text tokens (Ok tree) = SpellsModel tree tokens
Reads text tokens (Err reported) =
    (why : Refusal) × (rest : List Token) × IsModelRefusal tokens why rest × (reported ≡ reported_refusal text why (offset_of (length text) rest))

reply_reads : (text : List ℕ) (tokens : List Token) → first_foreign tokens ≡ None → (reply : Reply Token (List Import × ModelTree))
    → reading.model 64 tokens ≡ reply → Reads text tokens (tree_replied text reply)
reply_reads text tokens none (Took v []) e = tree_found tokens v.0 v.1 none e
reply_reads text tokens none (Took v (t ∷ rest)) e = (syntax_refusal (t ∷ rest), t ∷ rest, left_refusal tokens v t rest none e, refl)
reply_reads text tokens none (Refused false rest) e = (syntax_refusal rest, rest, found_syntax tokens rest none e, refl)
reply_reads text tokens none (Refused true rest) e = (TooDeep, rest, found_too_deep tokens rest none e, refl)

read_reads : (text : List ℕ) (tokens : List Token) (found : Option (Import × List Token)) → first_foreign tokens ≡ found
    → Reads text tokens (tree_read text tokens found)
read_reads text tokens None e = reply_reads text tokens e (reading.model 64 tokens) refl
read_reads text tokens (Some found) e = (_, found.1, foreign_refusal tokens found.0 found.1 e, refl)

all_reads : (text : List ℕ) (tokens : List Token) → Reads text tokens (tree_read text tokens (first_foreign tokens))
all_reads text tokens = read_reads text tokens (first_foreign tokens) refl

-- what is spelled or refused is what is read
spelled_is : (text : List ℕ) (tokens : List Token) (tree : ModelTree) → SpellsModel tree tokens → (r : Result ModelTree BadText) → Reads text tokens r → r ≡ Ok tree
spelled_is text tokens tree s (Ok other) h = ap (λ t. Ok t) (one_tree tokens other tree h s)
spelled_is text tokens tree s (Err reported) h = absurd (spelled_not_refused tokens tree h.0 h.1 s h.2)

refused_is : (text : List ℕ) (tokens : List Token) (why : Refusal) (rest : List Token) → IsModelRefusal tokens why rest → (r : Result ModelTree BadText)
    → Reads text tokens r → r ≡ Err (reported_refusal text why (offset_of (length text) rest))
refused_is text tokens why rest s (Ok tree) h = absurd (spelled_not_refused tokens tree why rest h s)
refused_is text tokens why rest s (Err reported) h =
    let same = one_model_refusal tokens h.0 why h.1 rest h.2 s in
    ap (λ t. Err t) (h.3 ∙ (λ i. reported_refusal text (same.0 i) (offset_of (length text) (same.1 i))))

-- ---- the tree of a text

-- the text's tree, or what is reported of it
abbrev Answers : List ℕ → Result ModelTree BadText → Type 0
Answers text (Ok tree) = IsModel text tree
Answers text (Err why) = IsBadText text why

tokens_answer : (text : List ℕ) (tokens : List Token) → Lexes 0 text tokens End → length text ≤ most_bytes → (r : Result ModelTree BadText)
    → Reads text tokens r → Answers text r
tokens_answer text tokens l short (Ok tree) h = record { tokens = tokens; lexes = l; spells = h; short = short }
tokens_answer text tokens l short (Err reported) h =
    subst (IsBadText text) (sym h.3) (unread (record { tokens = tokens; rest = h.1; lexes = l; short = short; refused = h.2; there = refl }))

lexed_answers : (text : List ℕ) (tokens : List Token) (stop : Stop) → Lexes 0 text tokens stop → length text ≤ most_bytes → Answers text (tree_lexed text tokens stop)
lexed_answers text tokens End l short = tokens_answer text tokens l short (tree_read text tokens (first_foreign tokens)) (all_reads text tokens)
lexed_answers text tokens (At refusal at) l short = unlexed short l

tree_answers : (text : List ℕ) → Answers text (tree_of text)
unfolding tree_of
tree_answers text = by (nat_le (length text) most_bytes) refl
  where
    by : (short : Bool) → nat_le (length text) most_bytes ≡ short → Answers text (if short then tree_within text (lexed_from text zero 0) else Err (reported_long text))
    by true e = lexed_answers text (lexed_from text zero 0).0 (lexed_from text zero 0).1 (reads text 0) (is_within (length text) most_bytes e)
    by false e = too_long (is_above (length text) most_bytes e)

pub tree_sound : (text : List ℕ) (tree : ModelTree) → tree_of text ≡ Ok tree → IsModel text tree
tree_sound text tree e = subst (Answers text) e (tree_answers text)

-- the tree of a text that is read so
lexed_is : (text : List ℕ) (tokens : List Token) (stop : Stop) → Lexes 0 text tokens stop → length text ≤ most_bytes → tree_of text ≡ tree_lexed text tokens stop
unfolding tree_of
lexed_is text tokens stop l short =
    ap (λ b. if b then tree_within text (lexed_from text zero 0) else Err (reported_long text)) (within_is (length text) most_bytes short)
    ∙ ap (tree_within text) (lexes_is 0 text tokens stop l)

pub tree_complete : (text : List ℕ) (tree : ModelTree) → IsModel text tree → tree_of text ≡ Ok tree
tree_complete text tree m = lexed_is text m.tokens End m.lexes m.short ∙ spelled_is text m.tokens tree m.spells _ (all_reads text m.tokens)

-- ---- programs

-- none where the list of refusals is empty
first_none : (text : List ℕ) (tree : ModelTree) → refused text tree ≡ [] → first_refusal text tree ≡ None
first_none text tree e = ap (λ (rs : List TypeRefusal). slice_get rs 0) e

no_first : (rs : List TypeRefusal) → slice_get rs 0 ≡ None → rs ≡ []
no_first [] e = refl
no_first (r ∷ rs) e = absurd (cc (e))

made_means : (text : List ℕ) (tree : ModelTree) → IsModel text tree → first_refusal text tree ≡ None
    → (found : Option Program) → program_of text tree ≡ found → Means text (made text found)
made_means text tree m unrefused None e =
    let it = has_program text tree (no_first (refused text tree) unrefused) in
    absurd (cc (sym e ∙ typed_is_program text tree it.0 it.1))
made_means text tree m unrefused (Some program) e =
    record { tree = tree; model = m; typed = program_is_typed text tree program (no_first (refused text tree) unrefused) e }

checked_means : (text : List ℕ) (tree : ModelTree) → IsModel text tree → (why : Option TypeRefusal) → first_refusal text tree ≡ why
    → Means text (checked text why (program_of text tree))
checked_means text tree m (Some why) e = untyped m e
checked_means text tree m None e = made_means text tree m e (program_of text tree) refl

tree_means : (text : List ℕ) (r : Result ModelTree BadText) → Answers text r → Means text (program_of_tree text r)
tree_means text (Ok tree) h = checked_means text tree h (first_refusal text tree) refl
tree_means text (Err why) h = h

means : (text : List ℕ) → Means text (meaning_of_text text)
unfolding meaning_of_text
means text = tree_means text (tree_of text) (tree_answers text)

pub program_sound : (text : List ℕ) (program : Program) → meaning_of_text text ≡ Ok program → IsProgram text program
program_sound text program e = subst (Means text) e (means text)

pub bad_sound : (text : List ℕ) (why : BadText) → meaning_of_text text ≡ Err why → IsBadText text why
bad_sound text why e = subst (Means text) e (means text)

pub program_complete : (text : List ℕ) (program : Program) → IsProgram text program → meaning_of_text text ≡ Ok program
unfolding meaning_of_text
program_complete text program p =
    ap (program_of_tree text) (tree_complete text p.tree p.model)
    ∙ (λ i. checked text (first_none text p.tree p.typed.unrefused i) (typed_is_program text p.tree program p.typed i))

-- what a text means whose tree is reported
reported_is : (text : List ℕ) (why : BadText) → tree_of text ≡ Err why → meaning_of_text text ≡ Err why
unfolding meaning_of_text
reported_is text why e = ap (program_of_tree text) e

-- what a text means that has this tree
tree_is : (text : List ℕ) (tree : ModelTree) → IsModel text tree → meaning_of_text text ≡ checked text (first_refusal text tree) (program_of text tree)
unfolding meaning_of_text
tree_is text tree m = ap (program_of_tree text) (tree_complete text tree m)

untyped_is : (text : List ℕ) (tree : ModelTree) (why : TypeRefusal) → IsModel text tree → first_refusal text tree ≡ Some why → meaning_of_text text ≡ Err (reported_type text why)
untyped_is text tree why m e = tree_is text tree m ∙ ap (λ first. checked text first (program_of text tree)) e

long_is : (text : List ℕ) → most_bytes < length text → tree_of text ≡ Err (reported_long text)
unfolding tree_of
long_is text long = ap (λ b. if b then tree_within text (lexed_from text zero 0) else Err (reported_long text)) (above_is (length text) most_bytes long)

unread_is : (text : List ℕ) (why : Refusal) (at : ℕ) → IsRefusedModel text why at → tree_of text ≡ Err (reported_refusal text why at)
unread_is text why at m =
    lexed_is text m.tokens End m.lexes m.short
    ∙ refused_is text m.tokens why m.rest m.refused _ (all_reads text m.tokens)
    ∙ ap (λ place. Err (reported_refusal text why place)) (sym m.there)

pub bad_complete : (text : List ℕ) (why : BadText) → IsBadText text why → meaning_of_text text ≡ Err why
bad_complete text why (too_long long) = reported_is text why (long_is text long)
bad_complete text why (unlexed {tokens = tokens} {why = refusal} {at = at} short l) = reported_is text why (lexed_is text tokens (At refusal at) l short)
bad_complete text reported (unread {why = why} {at = at} m) = reported_is text reported (unread_is text why at m)
bad_complete text reported (untyped {tree = tree} {why = why} m e) = untyped_is text tree why m e

-- ---- exactly one

alone : (text : List ℕ) (other : Result Program BadText) → Means text other → other ≡ meaning_of_text text
alone text (Ok program) h = sym (program_complete text program h)
alone text (Err why) h = sym (bad_complete text why h)

pub one_meaning : (text : List ℕ) → HasOneMeaning text
one_meaning text = record { meaning = meaning_of_text text; means = means text; alone = alone text }
