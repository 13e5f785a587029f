-- What `domain_of` computes.
use Rattle.std.proofs.Common.{◌≡◌, ℕ, ◌+◌, ◌<◌, List, [], ◌∷◌, ◌++◌, length, map, drop, get_or, sym, ap, ◌∙◌}
use Rattle.std.proofs.lemmas.List.{append_assoc, drop_more}
use Rattle.asm_value.specs.declared.domain.Domain.{Domain}
use Rattle.asm_syntax.specs.declared.tree.DomainTree.{DomainTree}
use Rattle.asm_syntax.specs.declared.tree.DomainTree.TheFolds.{fold_out-DomainTree, map-DomainTree}
use Rattle.asm_syntax.specs.declared.tree.DomainTree.TheViews.{out-DomainTree, the_lemmas}
use Rattle.asm_program.specs.Signatures.{Names, domain_of, domain_level}

pub domain_of-out : (names : Names) (d : DomainTree) → domain_of names d ≡ domain_level names (map-DomainTree DomainTree Domain (domain_of names) (out-DomainTree d))
unfolding domain_of
domain_of-out names d = fold_out-DomainTree Domain (domain_level names) d

pub three : (ds0 ds1 ds2 ds3 : List Domain) (x y : Domain) (zs : List Domain)
    → ds0 ≡ [] → ds1 ≡ ds0 ++ x ∷ [] → ds2 ≡ ds1 ++ y ∷ [] → ds3 ≡ ds2 ++ zs → ds3 ≡ x ∷ y ∷ zs
three ds0 ds1 ds2 ds3 x y zs a b c d = d ∙ ap (λ e. e ++ zs) (c ∙ ap (λ e. e ++ y ∷ []) (b ∙ ap (λ e. e ++ x ∷ []) a))

-- one more at the end of what is there
pub mapped-drop : {A : Type 0} (w : List Domain) (f : A → Domain) (xs : List A) (i : ℕ) (d : A) → i < length xs
    → w ++ map f (drop i xs) ≡ (w ++ f (get_or xs i d) ∷ []) ++ map f (drop (i + 1) xs)
mapped-drop w f xs i d h =
    ap (λ ys. w ++ map f ys) (drop_more xs i d h) ∙ sym (append_assoc w (f (get_or xs i d) ∷ []) (map f (drop (i + 1) xs)))

pub ruleset domain_steps = (domain_of-out, three, mapped-drop, the_lemmas)
