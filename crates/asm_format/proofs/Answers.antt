-- What is answered where a text has a tree, and where it has none.
use Rattle.std.proofs.Common.{◌≡◌, ◌≢◌, ◌∙◌, ℕ, List, Result, Ok, Err, IfOk, IfErr, sym, ap, subst}
use Rattle.asm_syntax.specs.declared.tree.ModelTree.{ModelTree}
use Rattle.asm_syntax.specs.Texts.{IsModel}
use Rattle.asm_syntax.specs.Canonical.{canonical}
use Rattle.asm_print.specs.Again.{IsModelAgain}
use Rattle.asm_parse.specs.declared.refusal.ParseRefusal.{ParseRefusal}
use Rattle.asm_parse.specs.declared.refusal.ParseRefusal.TheVariants.{Lex, Syntax, Unsupported, TooDeep, NoMemory}
use Rattle.asm_parse.specs.Answers.{IsRead, IsModelCause, IsTold, IsWithin}
use Rattle.asm_format.specs.Formatted.{IsFormatted, IsSame}

-- ---- a text that has a tree

pub formatted : (text : List ℕ) (tree : ModelTree) (result : Result (List ℕ) ParseRefusal) → IsModel text tree
    → IfOk result (λ t. t ≡ canonical tree) → IfOk result (IsFormatted text)
formatted text tree (Ok t) model e = record { tree = tree; model = model; written = e }
formatted text tree (Err why) model e = tt

pub same : (text : List ℕ) (tree : ModelTree) (result : Result (List ℕ) ParseRefusal) → IsModel text tree
    → IfOk result (IsModelAgain tree) → IfOk result (IsSame text)
same text tree (Ok t) model again = λ short. let read = again text model short in (tree, read.0, model, read.1, read.2)
same text tree (Err why) model again = tt

pub no_cause : (text : List ℕ) (result : Result (List ℕ) ParseRefusal) → IfErr result (λ why. why ≡ NoMemory)
    → IfErr result (λ why. why ≢ NoMemory → IsModelCause text why)
no_cause text (Ok t) e = tt
no_cause text (Err why) e = λ some. absurd (some e)

pub only : (found tree : ModelTree) (result : Result (List ℕ) ParseRefusal) → found ≡ tree → IfOk result (λ t. t ≡ canonical found)
    → IfErr result (λ why. why ≡ NoMemory) → IsRead (canonical tree) result
only found tree (Ok t) alike written memory = written ∙ ap canonical alike
only found tree (Err why) alike written memory = subst (λ w. IsRead (canonical tree) (Err w)) (sym memory) tt

pub within : (text : List ℕ) (result : Result (List ℕ) ParseRefusal) → IfErr result (λ why. why ≡ NoMemory) → IfErr result (IsWithin text)
within text (Ok t) memory = tt
within text (Err why) memory = subst (IsWithin text) (sym memory) tt

-- ---- a text that has none

abbrev tree_read : ModelTree → Result ModelTree ParseRefusal
tree_read tree = Ok tree

abbrev tree_refused : ParseRefusal → Result ModelTree ParseRefusal
tree_refused why = Err why

abbrev refused : ParseRefusal → Result (List ℕ) ParseRefusal
refused why = Err why

pub reported_first : (tree : ModelTree) (why : ParseRefusal) (result : Result (List ℕ) ParseRefusal) → IsTold why (tree_read tree) → IsTold why result
reported_first tree why result e = absurd (cc e)

pub none_read : (tree : ModelTree) (text : List ℕ) (why : ParseRefusal) → IsRead tree (tree_refused why) → IsRead text (refused why)
none_read tree text NoMemory h = tt
none_read tree text (Lex w) h = absurd h
none_read tree text (Syntax at) h = absurd h
none_read tree text (Unsupported w at) h = absurd h
none_read tree text (TooDeep at) h = absurd h

pub same_reported : (given why : ParseRefusal) → IsTold why (tree_refused given) → IsTold why (refused given)
same_reported NoMemory why h = tt
same_reported (Lex w) why h = cc h
same_reported (Syntax at) why h = cc h
same_reported (Unsupported w at) why h = cc h
same_reported (TooDeep at) why h = cc h
