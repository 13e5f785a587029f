-- The items of domains, step by step.
use Rattle.std.proofs.Common.{◌≡◌, ℕ, ◌+◌, ◌<◌, ◌≤◌, List, [], ◌∷◌, ◌++◌, length, map, drop, get_or, refl, ap, ◌∙◌, arith}
use Rattle.std.proofs.lemmas.List.{drop_all, drop_more}
use Rattle.asm_syntax.specs.declared.tree.DomainTree.{DomainTree}
use Rattle.asm_syntax.specs.declared.tree.DomainTree.TheOpen.{DomainTree-F}
use Rattle.asm_syntax.specs.declared.tree.DomainTree.TheFolds.{fold_out-DomainTree, map-DomainTree}
use Rattle.asm_syntax.specs.declared.tree.DomainTree.TheViews.{out-DomainTree, the_lemmas}
use Rattle.asm_syntax.specs.Extents.{domain_extent, domain_span}
use Rattle.asm_program.specs.Items.{Items, Part, NamesDomain, ninth, numbered_from, domain_level, domain_part, domain_items}
use Rattle.asm_items.specs.Views.{with_items}
use Rattle.asm_items.specs.Parts.{domains_from}
use Rattle.asm_items.proofs.Steps.{with_items-append, with_items-none}

-- a domain's items by its form
abbrev domain_form : DomainTree-F DomainTree → Items
domain_form (DomainTree-F.Truth span) = []
domain_form (DomainTree-F.Int span) = []
domain_form (DomainTree-F.Nat span) = []
domain_form (DomainTree-F.Chars span) = []
domain_form (DomainTree-F.Named name span) = NamesDomain name ∷ []
domain_form (DomainTree-F.Prod first second others span) = domain_items first ++ (domain_items second ++ domains_from 3 others)
domain_form (DomainTree-F.Seq part span) = domain_items part
domain_form (DomainTree-F.Powerset part span) = domain_items part

abbrev mapped : DomainTree-F DomainTree → DomainTree-F Part
mapped f = map-DomainTree DomainTree Part domain_part f

same_form : (f : DomainTree-F DomainTree) → (domain_level (mapped f)).1 ≡ domain_form f
unfolding domains_from
same_form (DomainTree-F.Truth span) = refl
same_form (DomainTree-F.Int span) = refl
same_form (DomainTree-F.Nat span) = refl
same_form (DomainTree-F.Chars span) = refl
same_form (DomainTree-F.Named name span) = refl
same_form (DomainTree-F.Prod first second others span) = refl
same_form (DomainTree-F.Seq part span) = refl
same_form (DomainTree-F.Powerset part span) = refl

same_span : (f : DomainTree-F DomainTree) → (domain_level (mapped f)).0 ≡ domain_span f
same_span (DomainTree-F.Truth span) = refl
same_span (DomainTree-F.Int span) = refl
same_span (DomainTree-F.Nat span) = refl
same_span (DomainTree-F.Chars span) = refl
same_span (DomainTree-F.Named name span) = refl
same_span (DomainTree-F.Prod first second others span) = refl
same_span (DomainTree-F.Seq part span) = refl
same_span (DomainTree-F.Powerset part span) = refl

pub domain_items-out : (d : DomainTree) → domain_items d ≡ domain_form (out-DomainTree d)
unfolding domain_part
domain_items-out d = ap (λ p. p.1) (fold_out-DomainTree Part domain_level d) ∙ same_form (out-DomainTree d)

pub domain_part-span : (d : DomainTree) → (domain_part d).0 ≡ domain_extent d
unfolding domain_part domain_extent
domain_part-span d = ap (λ p. p.0) (fold_out-DomainTree Part domain_level d) ∙ same_span (out-DomainTree d)

module _ (w : Items) where
  pub adds_product : (first second : DomainTree) (others : List DomainTree)
      → with_items w (domain_items first ++ (domain_items second ++ domains_from 3 others))
      ≡ with_items (with_items (with_items w (domain_items first)) (domain_items second)) (domains_from 3 others)
  adds_product first second others = simp with_items-append

  pub domains_from-drop : (n : ℕ) (ds : List DomainTree) (i : ℕ) (d : DomainTree) → i < length ds
      → with_items w (domains_from (i + n) (drop i ds))
      ≡ with_items (with_items (with_items w (ninth (i + n) (domain_extent (get_or ds i d)))) (domain_items (get_or ds i d))) (domains_from (i + 1 + n) (drop (i + 1) ds))
  unfolding domains_from
  domains_from-drop n ds i d h =
      let e = get_or ds i d in
      let rest = map domain_part (drop (i + 1) ds) in
      let next : i + n + 1 ≡ i + 1 + n = omega arith in
      ap (λ es. with_items w (numbered_from (i + n) (map domain_part es))) (drop_more ds i d h)
      ∙ ap (λ m. with_items w (ninth (i + n) (domain_part e).0 ++ domain_items e ++ numbered_from m rest)) next
      ∙ ap (λ s. with_items w (ninth (i + n) s ++ domain_items e ++ numbered_from (i + 1 + n) rest)) (domain_part-span e)
      ∙ simp with_items-append

  pub domains_from-end : (n : ℕ) (ds : List DomainTree) (i : ℕ) → length ds ≤ i → with_items w (domains_from (i + n) (drop i ds)) ≡ w
  unfolding domains_from
  domains_from-end n ds i h =
      ap (λ es. with_items w (numbered_from (i + n) (map domain_part es))) (drop_all i ds h) ∙ with_items-none w

pub ruleset domain_steps = (domain_items-out, adds_product, with_items-none, the_lemmas)

pub ruleset more_domains_steps = (domains_from-drop, domains_from-end, the_lemmas)
