-- What the reading of a text answers, where its tokens are known.
use Rattle.std.proofs.Common.{◌≡◌, ◌≢◌, ◌≤◌, ◌∙◌, ℕ, List, [], ◌∷◌, ◌++◌, length, Result, Ok, Err, All, sym, refl, ap, subst, arith, append_assoc}
use Rattle.std.specs.Result.{IfOk, IfErr}
use Rattle.std.proofs.lemmas.List.Elements.{All-head, All-tail}
use Rattle.asm_syntax.specs.declared.token.Token.{Token}
use Rattle.asm_syntax.specs.declared.tree.TermTree.{TermTree}
use Rattle.asm_syntax.specs.declared.tree.ModelTree.{ModelTree}
use Rattle.asm_grammar.specs.Language.{Language}
use Rattle.asm_syntax.specs.Grammar.{term, SpellsModel}
use Rattle.asm_syntax.specs.Refusals as refusals
use Rattle.asm_syntax.specs.Refusals.{Refusal, IsRefusedAt, IsTermRefusal, IsModelRefusal, IsModelRefusedAt, syntax, too_deep, at_token, at_import, offset_of}
use Rattle.asm_syntax.specs.Texts.{IsModel, IsTerm, IsRefusedModel, IsRefusedTerm}
use Rattle.asm_parse_theory.proofs.ModelRefusals as models
use Rattle.asm_parse_theory.proofs.TermRefusals as terms
use Rattle.asm_lex.specs.declared.LexRefusal.{LexRefusal}
use Rattle.asm_lex.specs.Answers.{AreTokens, IsFirst}
use Rattle.asm_lex.specs.Answers as lexing
use Rattle.asm_lex.specs.Spans as spans
use Rattle.asm_parse.specs.declared.refusal.ParseRefusal.{ParseRefusal}
use Rattle.asm_parse.specs.declared.refusal.ParseRefusal.TheVariants.{Lex, Syntax, Unsupported, TooDeep, NoMemory}
use Rattle.asm_parse.specs.Answers.{IsModelCause, IsTermCause, IsRead, IsTold, IsOffset, IsWithin}
use Rattle.asm_parse.specs.Refusals.{told}
use Rattle.asm_parse.specs.Tokens.{IsRefusedFor, AnswersModel, AnswersTerm}
use Rattle.asm_parse.proofs.Answers.{only_tokens, told_tokens}

-- ---- where a refusal stands

-- it begins with a token of the list, or at its end
After : List Token → List Token → Type 0
After ts rest = (front : List Token) × (ts ≡ front ++ rest)

token_after : {V : Type 0} (within free : Language Token V) (ts : List Token) (why : Refusal) (rest : List Token) → IsRefusedAt within free ts why rest → After ts rest
unfolding After
token_after within free ts why rest (syntax s) = (s.front, s.split)
token_after within free ts why rest (too_deep d) = (d.front, d.split)

model_after : (ts : List Token) (why : Refusal) (rest : List Token) → IsModelRefusedAt ts why rest → After ts rest
unfolding After
model_after ts why rest (at_token h) = token_after _ _ ts why rest h
model_after ts why rest (at_import f) = (f.front ++ f.word ∷ [], f.split ∙ sym (append_assoc f.front (f.word ∷ []) rest))

all_after : {X : Type 0} (P : X → Type 0) (front rest : List X) → All P (front ++ rest) → All P rest
all_after P [] rest all = all
all_after P (x ∷ front) rest all = all_after P front rest (All-tail P x (front ++ rest) all)

module _ (text : List ℕ) (tokens : List Token) (are : AreTokens text tokens)
    (only : (ts : List Token) → AreTokens text ts → lexing.Answers (Ok tokens) (Ok ts)) where
  same : (ts : List Token) → AreTokens text ts → ts ≡ tokens
  same ts h = let e = only ts h in cc

  offset_in : All (spans.IsTokenIn text) tokens → (rest : List Token) → After tokens rest → IsOffset text (offset_of (length text) rest)
  unfolding After
  offset_in all [] b = (omega arith, are.0)
  offset_in all (t ∷ rest) b =
      let is_in = All-head (spans.IsTokenIn text) t rest (all_after (spans.IsTokenIn text) b.0 (t ∷ rest) (subst (λ ts. All (spans.IsTokenIn text) ts) b.1 all)) in
      let some = is_in.some in
      let within = is_in.within in
      (omega arith, are.0)

  told_within : (why : Refusal) (at : ℕ) → IsOffset text at → IsWithin text (told why at)
  told_within refusals.Syntax at h = h
  told_within (refusals.Unsupported word) at h = h
  told_within refusals.TooDeep at h = h

  -- ---- models

  spelled_model : (tree : ModelTree) → IsModel text tree → SpellsModel tree tokens
  spelled_model tree m = subst (λ ts. SpellsModel tree ts) (same m.tokens (m.short, m.lexes)) m.spells

  refused_model : (why : Refusal) (at : ℕ) (r : IsRefusedModel text why at) → IsModelRefusal tokens why r.rest
  refused_model why at r = subst (λ ts. IsModelRefusal ts why r.rest) (same r.tokens (r.short, r.lexes)) r.refused

  pub model_found : (result : Result ModelTree ParseRefusal) → AnswersModel (length text) tokens result → IfOk result (λ tree. IsModel text tree)
  model_found (Ok tree) h = record { tokens = tokens; lexes = are.1; spells = h; short = are.0 }
  model_found (Err e) h = tt

  model_told : (why : Refusal) (rest : List Token) → IsModelRefusal tokens why rest → IsModelCause text (told why (offset_of (length text) rest))
  model_told refusals.Syntax rest h = record { tokens = tokens; rest = rest; lexes = are.1; short = are.0; refused = h; there = refl }
  model_told (refusals.Unsupported word) rest h = record { tokens = tokens; rest = rest; lexes = are.1; short = are.0; refused = h; there = refl }
  model_told refusals.TooDeep rest h = record { tokens = tokens; rest = rest; lexes = are.1; short = are.0; refused = h; there = refl }

  model_causes : (e : ParseRefusal) → IsRefusedFor SpellsModel IsModelRefusal (length text) tokens e → IsModelCause text e
  model_causes e h = subst (λ x. IsModelCause text x) (sym h.there) (model_told h.why h.rest h.refused)

  pub model_cause : (result : Result ModelTree ParseRefusal) → AnswersModel (length text) tokens result → IfErr result (λ why. why ≢ NoMemory → IsModelCause text why)
  model_cause (Ok tree) h = tt
  model_cause (Err NoMemory) h = λ known. absurd (known refl)
  model_cause (Err (Lex w)) h = λ known. model_causes (Lex w) h
  model_cause (Err (Syntax at)) h = λ known. model_causes (Syntax at) h
  model_cause (Err (Unsupported w at)) h = λ known. model_causes (Unsupported w at) h
  model_cause (Err (TooDeep at)) h = λ known. model_causes (TooDeep at) h

  pub model_only : (result : Result ModelTree ParseRefusal) → AnswersModel (length text) tokens result → (tree : ModelTree) → IsModel text tree → IsRead tree result
  model_only result h tree m = only_tokens SpellsModel IsModelRefusal tokens (models.spelled_not_refused tokens) (models.one_tree tokens) (length text) result h tree (spelled_model tree m)

  model_tells : (result : Result ModelTree ParseRefusal) → AnswersModel (length text) tokens result → (why : Refusal) (at : ℕ) → IsRefusedModel text why at → IsTold (told why at) result
  model_tells result h why at r =
      subst (λ n. IsTold (told why n) result) (sym r.there)
      (told_tokens SpellsModel IsModelRefusal tokens (models.spelled_not_refused tokens) (models.one_model_refusal tokens) (length text) result h why r.rest (refused_model why at r))

  pub model_first : ((ts : List Token) (e : LexRefusal) → IsFirst text ts e → lexing.Answers (Ok tokens) (Err e))
      → (result : Result ModelTree ParseRefusal) → AnswersModel (length text) tokens result → (why : ParseRefusal) → IsModelCause text why → IsTold why result
  model_first first result h NoMemory c = absurd c
  model_first first result h (Lex why) c = let e : Ok tokens ≡ Err why = first c.0 why c.1 in absurd (cc e)
  model_first first result h (Syntax at) c = model_tells result h refusals.Syntax at c
  model_first first result h (Unsupported word at) c = model_tells result h (refusals.Unsupported word) at c
  model_first first result h (TooDeep at) c = model_tells result h refusals.TooDeep at c

  model_is_within : All (spans.IsTokenIn text) tokens → (e : ParseRefusal) → IsRefusedFor SpellsModel IsModelRefusal (length text) tokens e → IsWithin text e
  model_is_within all e h =
      subst (λ x. IsWithin text x) (sym h.there) (told_within h.why (offset_of (length text) h.rest) (offset_in all h.rest (model_after tokens h.why h.rest h.refused.refused)))

  pub model_within : All (spans.IsTokenIn text) tokens → (result : Result ModelTree ParseRefusal) → AnswersModel (length text) tokens result → IfErr result (IsWithin text)
  model_within all (Ok tree) h = tt
  model_within all (Err NoMemory) h = tt
  model_within all (Err (Lex w)) h = model_is_within all (Lex w) h
  model_within all (Err (Syntax at)) h = model_is_within all (Syntax at) h
  model_within all (Err (Unsupported w at)) h = model_is_within all (Unsupported w at) h
  model_within all (Err (TooDeep at)) h = model_is_within all (TooDeep at) h

  -- ---- terms

  spelled_term : (tree : TermTree) → IsTerm text tree → term.Spells tree tokens
  spelled_term tree m = subst (λ ts. term.Spells tree ts) (same m.tokens (m.short, m.lexes)) m.spells

  refused_term : (why : Refusal) (at : ℕ) (r : IsRefusedTerm text why at) → IsTermRefusal tokens why r.rest
  refused_term why at r = subst (λ ts. IsTermRefusal ts why r.rest) (same r.tokens (r.short, r.lexes)) r.refused

  pub term_found : (result : Result TermTree ParseRefusal) → AnswersTerm (length text) tokens result → IfOk result (λ tree. IsTerm text tree)
  term_found (Ok tree) h = record { tokens = tokens; lexes = are.1; spells = h; short = are.0 }
  term_found (Err e) h = tt

  term_told : (why : Refusal) (rest : List Token) → IsTermRefusal tokens why rest → IsTermCause text (told why (offset_of (length text) rest))
  term_told refusals.Syntax rest h = record { tokens = tokens; rest = rest; lexes = are.1; short = are.0; refused = h; there = refl }
  term_told (refusals.Unsupported word) rest h = record { tokens = tokens; rest = rest; lexes = are.1; short = are.0; refused = h; there = refl }
  term_told refusals.TooDeep rest h = record { tokens = tokens; rest = rest; lexes = are.1; short = are.0; refused = h; there = refl }

  term_causes : (e : ParseRefusal) → IsRefusedFor (λ tree tokens. term.Spells tree tokens) IsTermRefusal (length text) tokens e → IsTermCause text e
  term_causes e h = subst (λ x. IsTermCause text x) (sym h.there) (term_told h.why h.rest h.refused)

  pub term_cause : (result : Result TermTree ParseRefusal) → AnswersTerm (length text) tokens result → IfErr result (λ why. why ≢ NoMemory → IsTermCause text why)
  term_cause (Ok tree) h = tt
  term_cause (Err NoMemory) h = λ known. absurd (known refl)
  term_cause (Err (Lex w)) h = λ known. term_causes (Lex w) h
  term_cause (Err (Syntax at)) h = λ known. term_causes (Syntax at) h
  term_cause (Err (Unsupported w at)) h = λ known. term_causes (Unsupported w at) h
  term_cause (Err (TooDeep at)) h = λ known. term_causes (TooDeep at) h

  pub term_only : (result : Result TermTree ParseRefusal) → AnswersTerm (length text) tokens result → (tree : TermTree) → IsTerm text tree → IsRead tree result
  term_only result h tree m = only_tokens (λ tree tokens. term.Spells tree tokens) IsTermRefusal tokens (terms.spelled_not_refused tokens) (terms.term_unique tokens) (length text) result h tree (spelled_term tree m)

  term_tells : (result : Result TermTree ParseRefusal) → AnswersTerm (length text) tokens result → (why : Refusal) (at : ℕ) → IsRefusedTerm text why at → IsTold (told why at) result
  term_tells result h why at r =
      subst (λ n. IsTold (told why n) result) (sym r.there)
      (told_tokens (λ tree tokens. term.Spells tree tokens) IsTermRefusal tokens (terms.spelled_not_refused tokens) (terms.one_term_refusal tokens) (length text) result h why r.rest (refused_term why at r))

  pub term_first : ((ts : List Token) (e : LexRefusal) → IsFirst text ts e → lexing.Answers (Ok tokens) (Err e))
      → (result : Result TermTree ParseRefusal) → AnswersTerm (length text) tokens result → (why : ParseRefusal) → IsTermCause text why → IsTold why result
  term_first first result h NoMemory c = absurd c
  term_first first result h (Lex why) c = let e : Ok tokens ≡ Err why = first c.0 why c.1 in absurd (cc e)
  term_first first result h (Syntax at) c = term_tells result h refusals.Syntax at c
  term_first first result h (Unsupported word at) c = term_tells result h (refusals.Unsupported word) at c
  term_first first result h (TooDeep at) c = term_tells result h refusals.TooDeep at c

  term_is_within : All (spans.IsTokenIn text) tokens → (e : ParseRefusal) → IsRefusedFor (λ tree tokens. term.Spells tree tokens) IsTermRefusal (length text) tokens e → IsWithin text e
  term_is_within all e h =
      subst (λ x. IsWithin text x) (sym h.there) (told_within h.why (offset_of (length text) h.rest) (offset_in all h.rest (token_after _ _ tokens h.why h.rest h.refused)))

  pub term_within : All (spans.IsTokenIn text) tokens → (result : Result TermTree ParseRefusal) → AnswersTerm (length text) tokens result → IfErr result (IsWithin text)
  term_within all (Ok tree) h = tt
  term_within all (Err NoMemory) h = tt
  term_within all (Err (Lex w)) h = term_is_within all (Lex w) h
  term_within all (Err (Syntax at)) h = term_is_within all (Syntax at) h
  term_within all (Err (Unsupported w at)) h = term_is_within all (Unsupported w at) h
  term_within all (Err (TooDeep at)) h = term_is_within all (TooDeep at) h
