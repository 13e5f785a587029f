-- The words of domains, form by form.
use Rattle.std.proofs.Common.{◌≡◌, ℕ, ◌+◌, ◌<◌, ◌≤◌, List, [], ◌∷◌, ◌++◌, length, map, drop, get_or, codes, fold, refl, ap, ◌∙◌}
use Rattle.std.proofs.lemmas.List.{drop_all, drop_more}
use Rattle.std.proofs.lemmas.List.Sums.{fold-append}
use Rattle.asm_syntax.specs.declared.tree.DomainTree.{DomainTree}
use Rattle.asm_syntax.specs.declared.token.Span.{Span}
use Rattle.asm_syntax.specs.declared.tree.DomainTree.TheOpen.{DomainTree-F}
use Rattle.asm_syntax.specs.declared.tree.DomainTree.TheFolds.{fold_out-DomainTree, map-DomainTree}
use Rattle.asm_syntax.specs.declared.tree.DomainTree.TheViews.{out-DomainTree, the_lemmas}
use Rattle.asm_syntax.specs.Written.{Words, after_each, comma, own, domain_step, domain_words}
use Rattle.asm_print_terms.specs.declared.writer.Writer.{Writer}
use Rattle.asm_print_terms.specs.Lines.{with_word, with_words}

pub domain_words-out : (d : DomainTree) → domain_words d ≡ domain_step (map-DomainTree DomainTree Words domain_words (out-DomainTree d))
unfolding domain_words
domain_words-out d = fold_out-DomainTree Words domain_step d

pub with_words-append : (w : Writer) (xs ys : Words) → fold with_word w (xs ++ ys) ≡ fold with_word (fold with_word w xs) ys
with_words-append w xs ys = fold-append with_word w xs ys

pub after_each-map : {A : Type 0} (separator : List ℕ) (write : A → Words) (xs : List A) → after_each separator own (map write xs) ≡ after_each separator write xs
after_each-map separator write [] = refl
after_each-map separator write (x ∷ xs) = ap (λ ws. separator ∷ write x ++ ws) (after_each-map separator write xs)

-- the words of one more, after its separator
pub after_each-drop : {A : Type 0} (w : Writer) (separator : List ℕ) (write : A → Words) (xs : List A) (i : ℕ) (d : A) → i < length xs
    → with_words w (after_each separator write (drop i xs))
    ≡ with_words (with_words (with_word w separator) (write (get_or xs i d))) (after_each separator write (drop (i + 1) xs))
after_each-drop w separator write xs i d h =
    ap (λ ys. with_words w (after_each separator write ys)) (drop_more xs i d h)
    ∙ fold-append with_word (with_word w separator) (write (get_or xs i d)) (after_each separator write (drop (i + 1) xs))

pub after_each-end : {A : Type 0} (w : Writer) (separator : List ℕ) (write : A → Words) (xs : List A) (i : ℕ) → length xs ≤ i
    → with_words w (after_each separator write (drop i xs)) ≡ w
after_each-end w separator write xs i h = ap (λ ys. with_words w (after_each separator write ys)) (drop_all i xs h)

prod-parts : (w : Writer) (xs ys zs : Words) → with_words w (codes "Prod" ∷ codes "(" ∷ xs ++ comma ∷ ys ++ zs ++ codes ")" ∷ [])
    ≡ with_word (with_words (with_words (with_word (with_words (with_word (with_word w (codes "Prod")) (codes "(")) xs) comma) ys) zs) (codes ")")
prod-parts w xs ys zs = simp with_words-append

pub writes-Prod : (w : Writer) (d first next : DomainTree) (others : List DomainTree) (span : Span) → out-DomainTree d ≡ DomainTree-F.Prod first next others span
    → with_words w (domain_words d)
    ≡ with_word (with_words (with_words (with_word (with_words (with_word (with_word w (codes "Prod")) (codes "(")) (domain_words first)) comma) (domain_words next)) (after_each comma domain_words others)) (codes ")")
writes-Prod w d first next others span e =
    ap (with_words w)
    (domain_words-out d
    ∙ ap (λ a. domain_step (map-DomainTree DomainTree Words domain_words a)) e
    ∙ ap (λ ws. codes "Prod" ∷ codes "(" ∷ domain_words first ++ comma ∷ domain_words next ++ ws ++ codes ")" ∷ []) (after_each-map comma domain_words others))
    ∙ prod-parts w (domain_words first) (domain_words next) (after_each comma domain_words others)

pub ruleset list_steps = (after_each-drop, after_each-end, with_words-append)

pub ruleset domain_steps = (domain_words-out, writes-Prod, after_each-map, list_steps, the_lemmas)
