-- What is printed of the tree that was read is the canonical text, and nothing is where there is none.
use Rattle.std.proofs.Common.{◌≡◌, ◌≢◌, ℕ, List, [], Result, Ok, Err, IfOk, refl, sym, ap, ◌∙◌}
use Rattle.asm_syntax.specs.declared.tree.ModelTree.{ModelTree}
use Rattle.asm_syntax.specs.Canonical.{canonical}
use Rattle.asm_syntax.specs.Texts.{IsModel}
use Rattle.asm_parse.specs.declared.refusal.ParseRefusal.{ParseRefusal}
use Rattle.asm_parse.specs.declared.refusal.ParseRefusal.TheVariants.{Lex, Syntax, Unsupported, TooDeep, NoMemory}
use Rattle.asm_parse.specs.Answers.{IsRead}
use Rattle.asm_program.specs.declared.bad_text.BadText.{BadText}
use Rattle.asm_meaning.specs.Texts.{tree_of}
use Rattle.asm_meaning.proofs.Texts.{tree_sound, tree_complete}
use Rattle.asm_checking.specs.Canonicals.{printed, canonical_of}

pub tree_printed : {E : Type 0} (text : List ℕ) (tree : ModelTree) (r : Result (List ℕ) E) → IsModel text tree → IfOk r (λ t. t ≡ canonical tree)
    → IfOk r (λ t. t ≡ canonical_of text)
tree_printed text tree (Ok t) model is = is ∙ sym (ap printed (tree_complete text tree model))
tree_printed text tree (Err e) model is = tt

-- another refusal than want of memory says that no tree is read
not_read : (tree : ModelTree) (why : ParseRefusal) → why ≢ NoMemory → IsRead tree (Err why) → ⊥
not_read tree (Lex why) some read = read
not_read tree (Syntax at) some read = read
not_read tree (Unsupported word at) some read = read
not_read tree (TooDeep at) some read = read
not_read tree NoMemory some read = some refl

none_of : (text : List ℕ) (why : ParseRefusal) → why ≢ NoMemory → ((tree : ModelTree) → IsModel text tree → IsRead tree (Err why))
    → (r : Result ModelTree BadText) → tree_of text ≡ r → [] ≡ printed r
none_of text why some only (Ok tree) is = absurd (not_read tree why some (only tree (tree_sound text tree is)))
none_of text why some only (Err bad) is = refl

pub none_printed : {E : Type 0} (text : List ℕ) (why : ParseRefusal) (r : Result (List ℕ) E) → ((tree : ModelTree) → IsModel text tree → IsRead tree (Err why))
    → IfOk r (λ t. why ≢ NoMemory) → IfOk r (λ t. t ≡ []) → IfOk r (λ t. t ≡ canonical_of text)
none_printed text why (Ok t) only some is = is ∙ none_of text why some only (tree_of text) refl
none_printed text why (Err e) only some is = tt
