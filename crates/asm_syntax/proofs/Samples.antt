-- What the definitions say of a few small texts.
use Rattle.std.proofs.Common.{◌≡◌, ℕ, ◌+◌, List, [], ◌∷◌, ◌++◌, codes, None, refl, inl, inr, Bool, true, false, sym, append-nil}
use Rattle.asm_syntax.specs.declared.token.Span.{Span}
use Rattle.asm_syntax.specs.declared.token.Token.{Token}
use Rattle.asm_syntax.specs.declared.token.TokenKind.TheVariants as kinds
use Rattle.asm_syntax.specs.declared.tree.TermTree.{TermTree}
use Rattle.asm_syntax.specs.declared.tree.TermTree.TheVariants as terms
use Rattle.asm_syntax.specs.declared.tree.TermTree.TheOpen.{TermTree-F}
use Rattle.asm_syntax.specs.declared.tree.RuleTree.{RuleTree}
use Rattle.asm_syntax.specs.declared.tree.RuleTree.TheVariants as rules
use Rattle.asm_syntax.specs.declared.tree.ModelTree.{ModelTree}
use Rattle.asm_syntax.specs.Extents.{with_extent}
use Rattle.asm_syntax.specs.Heights.{fits}
use Rattle.asm_syntax.specs.Terms.{Forms, term, parenthesis, prim_form, sign_form, prod_form, sum_form, rel_form, neg_form, and_form, or_form, imp_form, term_form, inside, forms, term_within}
use Rattle.asm_syntax.specs.Rules.{rule_within}
use Rattle.asm_syntax.specs.Models.{model_within}
use Rattle.asm_syntax.specs.Grammar.{SpellsModel, model}
use Rattle.asm_syntax.specs.Written.{Writing, term_words_step}
use Rattle.asm_syntax.specs.Canonical.{spaced}

abbrev at : ℕ → Span
at n = record { start = n; end = n + 1 }

abbrev word : List ℕ → ℕ → Token
word w n = record { kind = kinds.Keyword w; span = at n }

abbrev sign : List ℕ → ℕ → Token
sign s n = record { kind = kinds.Symbol s; span = at n }

abbrev id : List ℕ → ℕ → Token
id w n = record { kind = kinds.Id w; span = at n }

-- ---- canonical terms

abbrev named : List ℕ → Writing
named w = term_words_step (TermTree-F.Name (id w 0) None (at 0))

abbrev binary : Writing → List ℕ → Writing → Writing
binary left op right = term_words_step (TermTree-F.Binary left op right (at 0))

abbrev prefix : List ℕ → Writing → Writing
prefix op t = term_words_step (TermTree-F.Prefix op t (at 0))

abbrev text_of : Writing → List ℕ
text_of write = spaced (write 0)

abbrev a : Writing
a = named (codes "a")

abbrev b : Writing
b = named (codes "b")

abbrev c : Writing
c = named (codes "c")

products_bind_tighter : text_of (binary a (codes "*") (binary b (codes "+") c)) ≡ codes "a * ( b + c )"
products_bind_tighter = refl

chains_group_to_the_left : text_of (binary (binary a (codes "-") b) (codes "-") (binary a (codes "-") c)) ≡ codes "a - b - ( a - c )"
chains_group_to_the_left = refl

implications_group_to_the_right :
    text_of (binary (binary a (codes "implies") b) (codes "implies") (binary a (codes "implies") c)) ≡ codes "( a implies b ) implies a implies c"
implications_group_to_the_right = refl

relations_have_one_operator :
    text_of (prefix (codes "not") (binary (prefix (codes "not") a) (codes "=") (binary (prefix (codes "-") (prefix (codes "-") b)) (codes "in") c)))
    ≡ codes "not ( not a ) = ( - - b in c )"
relations_have_one_operator = refl

-- ---- a term in parentheses

-- where operators stand, a term without one may stand
prim_is_term : (test : TermTree → Bool) (is_open : Bool) (inner : Forms) (v : TermTree) (ts : List Token)
    → (prim_form is_open inner).Spells v ts → (term_form test is_open inner).Spells v ts
prim_is_term test o inner v ts sp =
    let e : ts ≡ ts ++ [] = sym (append-nil ts) in
    let s1 : (sign_form test o inner).Spells v ts = inr sp in
    let s2 : (prod_form test o inner).Spells v ts = (v, 0, ts, [], e, s1, (refl, refl)) in
    let s3 : (sum_form test o inner).Spells v ts = (v, 0, ts, [], e, s2, (refl, refl)) in
    let s4 : (rel_form test o inner).Spells v ts = ((v, None), refl, s3) in
    let s5 : (neg_form test o inner).Spells v ts = inr s4 in
    let s6 : (and_form test o inner).Spells v ts = (v, 0, ts, [], e, s5, (refl, refl)) in
    let s7 : (or_form test o inner).Spells v ts = (v, 0, ts, [], e, s6, (refl, refl)) in
    let s8 : (imp_form test o inner).Spells v ts = ((v, None), refl, s7) in
    (v, 0, ts, [], e, s8, (refl, refl))

abbrev x : Token
x = id (codes "x") 1

abbrev x_tree : TermTree
x_tree = terms.Name x None (at 1)

abbrev in_parentheses : List Token
in_parentheses = sign (codes "(") 0 ∷ x ∷ sign (codes ")") 2 ∷ []

name_spelled : (o : Bool) (inner : Forms) → (prim_form o inner).Spells x_tree (x ∷ [])
name_spelled o inner = inr (inl ((x, None), refl, (x ∷ [], [], refl, (refl, refl), inr (refl, refl))))

parenthesis_spelled : (inner : Forms) → (inner.line term).Spells x_tree (x ∷ []) → (parenthesis true inner).Spells (with_extent (record { start = 0; end = 3 }) x_tree) in_parentheses
parenthesis_spelled inner sp = (
  x_tree,
  refl,
  (
    (sign (codes "(") 0, (x_tree, sign (codes ")") 2)),
    refl,
    (
      x ∷ sign (codes ")") 2 ∷ [],
      refl,
      refl,
      refl,
      (
        x ∷ [],
        sign (codes ")") 2 ∷ [],
        refl,
        inr ((x_tree, []), refl, (x ∷ [], [], refl, sp, (None, refl, inr (refl, refl)))),
        (refl, refl),
      ),
    ),
  ),
)

-- `(x)` is `x`, with a span that includes the parentheses; one construct is open in it
pub parentheses_are_no_tree : (term_within fits 1).Spells (with_extent (record { start = 0; end = 3 }) x_tree) in_parentheses
unfolding forms inside
parentheses_are_no_tree =
    prim_is_term fits true (inside fits 1) _ _ (inr (inr (inl (parenthesis_spelled (inside fits 1)
    (prim_is_term fits false (inside fits 0) x_tree (x ∷ []) (name_spelled false (inside fits 0)))))))

-- ---- the least model

abbrev from_rule_name : List Token
from_rule_name = id (codes "r") 8 ∷ sign (codes "=") 9 ∷ word (codes "skip") 10 ∷ []

abbrev from_main : List Token
from_main = word (codes "main") 6 ∷ word (codes "rule") 7 ∷ from_rule_name

abbrev from_definitions : List Token
from_definitions = word (codes "definitions") 4 ∷ sign (codes ":") 5 ∷ from_main

abbrev from_signature : List Token
from_signature = word (codes "signature") 2 ∷ sign (codes ":") 3 ∷ from_definitions

-- asm M signature : definitions : main rule r = skip
abbrev least : List Token
least = word (codes "asm") 0 ∷ id (codes "M") 1 ∷ from_signature

abbrev skip_tree : RuleTree
skip_tree = rules.Skip (at 10)

abbrev least_tree : ModelTree
least_tree = record {
  name = id (codes "M") 1;
  decls = [];
  defs = [];
  main = at 6;
  rule_name = id (codes "r") 8;
  rule = skip_tree;
  init = None;
  span = record { start = 0; end = 11 };
}

skip_spelled : (rule_within fits 64).Spells skip_tree (word (codes "skip") 10 ∷ [])
unfolding rule_within
skip_spelled = inl (word (codes "skip") 10, refl, (refl, refl))

least_spelled : (model_within fits 64).Spells ([], least_tree) least
least_spelled = (
  (id (codes "M") 1, ([], ([], ([], (word (codes "main") 6, (id (codes "r") 8, (skip_tree, None))))))),
  refl,
  (
    (word (codes "asm") 0, _),
    refl,
    (
      _ ∷ [],
      _,
      refl,
      (refl, refl),
      (
        _ ∷ [],
        from_signature,
        refl,
        (refl, refl),
        (
          [],
          from_signature,
          refl,
          (None, refl, inr (refl, refl)),
          (
            (word (codes "signature") 2, _),
            refl,
            (
              _ ∷ [],
              _,
              refl,
              (refl, refl),
              (
                (sign (codes ":") 3, _),
                refl,
                (
                  _ ∷ [],
                  from_definitions,
                  refl,
                  (refl, refl),
                  (
                    [],
                    from_definitions,
                    refl,
                    (None, refl, inr (refl, refl)),
                    (
                      (word (codes "definitions") 4, _),
                      refl,
                      (
                        _ ∷ [],
                        _,
                        refl,
                        (refl, refl),
                        (
                          (sign (codes ":") 5, _),
                          refl,
                          (
                            _ ∷ [],
                            from_main,
                            refl,
                            (refl, refl),
                            (
                              [],
                              from_main,
                              refl,
                              (None, refl, inr (refl, refl)),
                              (
                                _ ∷ [],
                                _,
                                refl,
                                (refl, refl),
                                (
                                  (word (codes "rule") 7, _),
                                  refl,
                                  (
                                    _ ∷ [],
                                    from_rule_name,
                                    refl,
                                    (refl, refl),
                                    (
                                      _ ∷ [],
                                      _,
                                      refl,
                                      (refl, refl),
                                      (
                                        (sign (codes "=") 9, _),
                                        refl,
                                        (
                                          _ ∷ [],
                                          _,
                                          refl,
                                          (refl, refl),
                                          (word (codes "skip") 10 ∷ [], [], refl, skip_spelled, inr (refl, refl)),
                                        ),
                                      ),
                                    ),
                                  ),
                                ),
                              ),
                            ),
                          ),
                        ),
                      ),
                    ),
                  ),
                ),
              ),
            ),
          ),
        ),
      ),
    ),
  ),
)

pub least_model : SpellsModel least_tree least
unfolding model
least_model = record { imports = []; spells = least_spelled; standard = refl }
