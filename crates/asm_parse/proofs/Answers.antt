-- What the reading of a whole list of tokens answers.
use Rattle.std.proofs.Common.{◌≡◌, ◌≢◌, ◌∙◌, ℕ, Bool, List, [], ◌∷◌, length, Result, Ok, Err, Option, Some, None, true, false, sym, refl, ap, subst, arith}
use Rattle.asm_grammar.specs.Parser.{Reply, Took, Refused, mapped}
use Rattle.asm_syntax.specs.declared.token.Token.{Token}
use Rattle.asm_syntax.specs.declared.tree.TermTree.{TermTree}
use Rattle.asm_syntax.specs.declared.tree.ModelTree.{ModelTree}
use Rattle.asm_syntax.specs.Forms.{second}
use Rattle.asm_syntax.specs.Models.{Import}
use Rattle.asm_syntax.specs.Marks.{text_of}
use Rattle.asm_syntax.specs.Grammar.{term, SpellsModel, last_part}
use Rattle.asm_syntax.specs.Refusals as refusals
use Rattle.asm_syntax.specs.Refusals.{Refusal, IsTermRefusal, IsModelRefusal, syntax_refusal, offset_of}
use Rattle.asm_parse_theory.specs.Models as r
use Rattle.asm_parse_theory.specs.Terms as t
use Rattle.asm_parse_theory.proofs.ModelRefusals as models
use Rattle.asm_parse_theory.proofs.TermRefusals as terms
use Rattle.asm_parse_cursor.specs.declared.refusal.GrammarRefusal.{GrammarRefusal}
use Rattle.asm_parse_cursor.specs.declared.refusal.GrammarRefusal.TheVariants as grammar
use Rattle.asm_parse_cursor.specs.Reads.{is_too_deep}
use Rattle.asm_parse.specs.declared.refusal.ParseRefusal.{ParseRefusal}
use Rattle.asm_parse.specs.declared.refusal.ParseRefusal.TheVariants.{Lex, Syntax, Unsupported, TooDeep, NoMemory}
use Rattle.asm_parse.specs.Answers.{IsRead, IsTold}
use Rattle.asm_parse.specs.Refusals.{told, Tells, TellsWhy}
use Rattle.asm_parse.specs.Tokens.{IsRefusedFor, Answers, AnswersModel, AnswersTerm}

module _ {Tree : Type 0} (Spells : Tree → List Token → Type 0) (IsRefusal : List Token → Refusal → List Token → Type 0) where
  -- a refusal that is told
  pub refused_so : (bytes : ℕ) (ts rest : List Token) (why : Refusal) (e : ParseRefusal) → IsRefusal ts why rest → Tells bytes why rest e
      → Answers Spells IsRefusal bytes ts (Err e)
  refused_so bytes ts rest why NoMemory h told = tt
  refused_so bytes ts rest why (Lex w) h told = record { why = why; rest = rest; refused = h; there = told }
  refused_so bytes ts rest why (Syntax at) h told = record { why = why; rest = rest; refused = h; there = told }
  refused_so bytes ts rest why (Unsupported w at) h told = record { why = why; rest = rest; refused = h; there = told }
  refused_so bytes ts rest why (TooDeep at) h told = record { why = why; rest = rest; refused = h; there = told }

  module _ (ts : List Token) (not_both : (tree : Tree) (why : Refusal) (rest : List Token) → Spells tree ts → IsRefusal ts why rest → ⊥) where
    -- a tree that is spelled is the one that was read
    pub only_tokens : ((t u : Tree) → Spells t ts → Spells u ts → t ≡ u)
        → (bytes : ℕ) (result : Result Tree ParseRefusal) → Answers Spells IsRefusal bytes ts result → (tree : Tree) → Spells tree ts → IsRead tree result
    only_tokens unique bytes (Ok found) h tree s = unique found tree h s
    only_tokens unique bytes (Err NoMemory) h tree s = tt
    only_tokens unique bytes (Err (Lex w)) h tree s = not_both tree h.why h.rest s h.refused
    only_tokens unique bytes (Err (Syntax at)) h tree s = not_both tree h.why h.rest s h.refused
    only_tokens unique bytes (Err (Unsupported w at)) h tree s = not_both tree h.why h.rest s h.refused
    only_tokens unique bytes (Err (TooDeep at)) h tree s = not_both tree h.why h.rest s h.refused

    module _ (one : (why why' : Refusal) (rest rest' : List Token) → IsRefusal ts why rest → IsRefusal ts why' rest' → (why ≡ why') × (rest ≡ rest')) where
      same_told : (bytes : ℕ) (e : ParseRefusal) → IsRefusedFor Spells IsRefusal bytes ts e → (why : Refusal) (rest : List Token) → IsRefusal ts why rest
          → e ≡ told why (offset_of bytes rest)
      same_told bytes e h why rest given =
          let same = one h.why why h.rest rest h.refused given in
          h.there ∙ ap (λ w. told w (offset_of bytes h.rest)) same.0 ∙ ap (λ z. told why (offset_of bytes z)) same.1

      err : ParseRefusal → Result Tree ParseRefusal
      err e = Err e

      -- a refusal that the tokens have is the one that was told
      pub told_tokens : (bytes : ℕ) (result : Result Tree ParseRefusal) → Answers Spells IsRefusal bytes ts result
          → (why : Refusal) (rest : List Token) → IsRefusal ts why rest → IsTold (told why (offset_of bytes rest)) result
      unfolding err
      told_tokens bytes (Ok tree) h why rest given = absurd (not_both tree why rest h given)
      told_tokens bytes (Err NoMemory) h why rest given = tt
      told_tokens bytes (Err (Lex w)) h why rest given = ap err (same_told bytes (Lex w) h why rest given)
      told_tokens bytes (Err (Syntax at)) h why rest given = ap err (same_told bytes (Syntax at) h why rest given)
      told_tokens bytes (Err (Unsupported w at)) h why rest given = ap err (same_told bytes (Unsupported w at) h why rest given)
      told_tokens bytes (Err (TooDeep at)) h why rest given = ap err (same_told bytes (TooDeep at) h why rest given)

-- ---- models

model_so : (bytes : ℕ) (ts rest : List Token) (why : Refusal) (e : ParseRefusal) → IsModelRefusal ts why rest → Tells bytes why rest e → AnswersModel bytes ts (Err e)
model_so = refused_so SpellsModel IsModelRefusal

-- what stands after_pair a pair that was read, where only its second part is kept
after_pair : (reply : Reply Token (List Import × ModelTree)) (tree : ModelTree) (rest : List Token) → mapped second (λ ts. reply) [] ≡ Took tree rest
    → (imports : List Import) × (reply ≡ Took (imports, tree) rest)
after_pair (Took (imports, found) left) tree rest e = (imports, cc)
after_pair (Refused is_too_deep left) tree rest e = absurd cc

refused_after_pair : (reply : Reply Token (List Import × ModelTree)) (is_too_deep : Bool) (rest : List Token) → mapped second (λ ts. reply) [] ≡ Refused is_too_deep rest
    → reply ≡ Refused is_too_deep rest
refused_after_pair (Took (imports, found) left) is_too_deep rest e = absurd cc
refused_after_pair (Refused deep left) is_too_deep rest e = cc

model_to_end : (bytes : ℕ) (ts rest : List Token) (imports : List Import) (tree : ModelTree) → r.first_foreign ts ≡ None → r.model 64 ts ≡ Took (imports, tree) rest
    → length rest ≡ 0 → AnswersModel bytes ts (Ok tree)
model_to_end bytes ts [] imports tree none e nothing = models.tree_found ts imports tree none e
model_to_end bytes ts (t ∷ rest) imports tree none e nothing = absurd (omega arith)

model_in_part : (bytes : ℕ) (ts rest : List Token) (v : List Import × ModelTree) (e : ParseRefusal) → r.first_foreign ts ≡ None → r.model 64 ts ≡ Took v rest
    → (length rest ≡ 0 → ⊥) → Tells bytes (syntax_refusal rest) rest e → AnswersModel bytes ts (Err e)
model_in_part bytes ts [] v e none took some tells = absurd (some refl)
model_in_part bytes ts (t ∷ rest) v e none took some tells = model_so bytes ts (t ∷ rest) (syntax_refusal (t ∷ rest)) e (models.left_refusal ts v t rest none took) tells

model_not_read : (bytes : ℕ) (why : GrammarRefusal) (ts rest : List Token) (e : ParseRefusal) → r.first_foreign ts ≡ None
    → (why ≢ grammar.NoMemory → r.model 64 ts ≡ Refused (is_too_deep why) rest) → TellsWhy bytes why rest e → AnswersModel bytes ts (Err e)
model_not_read bytes grammar.NoMemory ts rest e none h tells = subst (λ x. AnswersModel bytes ts (Err x)) (sym tells) tt
model_not_read bytes grammar.Syntax ts rest e none h tells = model_so bytes ts rest (syntax_refusal rest) e (models.found_syntax ts rest none (h (λ x. cc))) tells
model_not_read bytes grammar.TooDeep ts rest e none h tells = model_so bytes ts rest refusals.TooDeep e (models.found_too_deep ts rest none (h (λ x. cc))) tells

pub tree_to_end : (bytes : ℕ) (ts rest : List Token) (tree : ModelTree) → r.first_foreign ts ≡ None → mapped second (r.model 64) ts ≡ Took tree rest
    → length rest ≡ 0 → AnswersModel bytes ts (Ok tree)
tree_to_end bytes ts rest tree none e nothing =
    let read = after_pair (r.model 64 ts) tree rest e in
    model_to_end bytes ts rest read.0 tree none read.1 nothing

pub tree_in_part : (bytes : ℕ) (ts rest : List Token) (tree : ModelTree) (e : ParseRefusal) → r.first_foreign ts ≡ None → mapped second (r.model 64) ts ≡ Took tree rest
    → (length rest ≡ 0 → ⊥) → Tells bytes (syntax_refusal rest) rest e → AnswersModel bytes ts (Err e)
tree_in_part bytes ts rest tree e none took some tells =
    let read = after_pair (r.model 64 ts) tree rest took in
    model_in_part bytes ts rest (read.0, tree) e none read.1 some tells

pub tree_not_read : (bytes : ℕ) (why : GrammarRefusal) (ts rest : List Token) (e : ParseRefusal) → r.first_foreign ts ≡ None
    → (why ≢ grammar.NoMemory → mapped second (r.model 64) ts ≡ Refused (is_too_deep why) rest) → TellsWhy bytes why rest e → AnswersModel bytes ts (Err e)
tree_not_read bytes why ts rest e none h tells =
    model_not_read bytes why ts rest e none (λ some. refused_after_pair (r.model 64 ts) (is_too_deep why) rest (h some)) tells

pub model_foreign : (bytes : ℕ) (ts rest : List Token) (given : Import) (e : ParseRefusal) → r.first_foreign ts ≡ Some (given, rest)
    → Tells bytes (refusals.Unsupported (text_of (last_part given))) rest e → AnswersModel bytes ts (Err e)
model_foreign bytes ts rest given e found tells =
    model_so bytes ts rest (refusals.Unsupported (text_of (last_part given))) e (models.foreign_refusal ts given rest found) tells

-- ---- terms

term_so : (bytes : ℕ) (ts rest : List Token) (why : Refusal) (e : ParseRefusal) → IsTermRefusal ts why rest → Tells bytes why rest e → AnswersTerm bytes ts (Err e)
term_so = refused_so (λ tree tokens. term.Spells tree tokens) IsTermRefusal

pub term_to_end : (bytes : ℕ) (ts rest : List Token) (tree : TermTree) → t.term 64 ts ≡ Took tree rest → length rest ≡ 0 → AnswersTerm bytes ts (Ok tree)
term_to_end bytes ts [] tree e nothing = terms.term_sound ts tree e
term_to_end bytes ts (u ∷ rest) tree e nothing = absurd (omega arith)

pub term_in_part : (bytes : ℕ) (ts rest : List Token) (v : TermTree) (e : ParseRefusal) → t.term 64 ts ≡ Took v rest
    → (length rest ≡ 0 → ⊥) → Tells bytes (syntax_refusal rest) rest e → AnswersTerm bytes ts (Err e)
term_in_part bytes ts [] v e took some tells = absurd (some refl)
term_in_part bytes ts (u ∷ rest) v e took some tells = term_so bytes ts (u ∷ rest) (syntax_refusal (u ∷ rest)) e (terms.left_refusal ts v u rest took) tells

pub term_not_read : (bytes : ℕ) (why : GrammarRefusal) (ts rest : List Token) (e : ParseRefusal)
    → (why ≢ grammar.NoMemory → t.term 64 ts ≡ Refused (is_too_deep why) rest) → TellsWhy bytes why rest e → AnswersTerm bytes ts (Err e)
term_not_read bytes grammar.NoMemory ts rest e h tells = subst (λ x. AnswersTerm bytes ts (Err x)) (sym tells) tt
term_not_read bytes grammar.Syntax ts rest e h tells = term_so bytes ts rest (syntax_refusal rest) e (terms.found_syntax ts rest (h (λ x. cc))) tells
term_not_read bytes grammar.TooDeep ts rest e h tells = term_so bytes ts rest refusals.TooDeep e (terms.found_too_deep ts rest (h (λ x. cc))) tells
