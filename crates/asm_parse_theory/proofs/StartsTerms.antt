-- Each first token of a line of terms is a partial spelling where one more construct may be open, and so is no token.
use Rattle.std.proofs.Common.{◌≡◌, [], ◌∷◌, Bool, true, false, ◌⊎◌, inl, inr, refl, codes}
use Rattle.std.specs.Prelude.{◌||◌}
use Rattle.asm_syntax.specs.declared.token.Token.{Token}
use Rattle.asm_syntax.specs.declared.tree.TermTree.{TermTree}
use Rattle.asm_syntax.specs.Marks.{is, id, variable, number, chars, keyword, symbol}
use Rattle.asm_syntax.specs.Terms as g
use Rattle.asm_syntax.specs.Terms.{Line, Forms}
use Rattle.asm_parse_theory.specs.Firsts.{among, first_plain, first_prim, first_sign, first_term, first_quantifier}
use Rattle.asm_parse_theory.proofs.FormFacts.{by_either}
use Rattle.asm_parse_theory.proofs.TermParts.{EmptyParts, first}

-- ---- no token

module _ (fits' : TermTree → Bool) (room : Bool) (M : Forms) where
  empty_prim : (g.prim_form room M).Begins []
  empty_prim = inl (inl (inl refl))

  pub empty_line : (l : Line) → (g.line_form fits' room M l).Begins []
  empty_line g.term = inl (inl (inl (inl (inr (inl (inl (inl (inr empty_prim))))))))
  empty_line g.imp = inl (inl (inl (inr (inl (inl (inl (inr empty_prim)))))))
  empty_line g.and = inl (inr (inl (inl (inl (inr empty_prim)))))
  empty_line g.neg = inr (inl (inl (inl (inr empty_prim))))
  empty_line g.sum = inl (inl (inr empty_prim))
  empty_line g.prod = inl (inr empty_prim)
  empty_line g.sign = inr empty_prim
  empty_line g.quantifier = inl (inl refl)

-- ---- a first token

-- one or the other, by which of two tests is passed
either_of : {A B : Type 0} (x y : Bool) → (x ≡ true → A) → (y ≡ true → B) → (x || y) ≡ true → A ⊎ B
either_of x y f h = by_either x y (λ e. inl (f e)) (λ e. inr (h e))

flat : (a b c d e f g : Bool) → (a || (b || (c || (d || (e || (f || g)))))) ≡ true → ((a || (b || (c || (d || (e || f))))) || g) ≡ true
flat true b c d e f g h = refl
flat false true c d e f g h = refl
flat false false true d e f g h = refl
flat false false false true e f g h = refl
flat false false false false true f g h = refl
flat false false false false false f g h = h

module _ {M : Forms} (empty : EmptyParts M) (t : Token) where
  starts_plain : among first_plain t ≡ true → (g.plain true M).Begins (t ∷ [])
  starts_plain =
      either_of (is number t) (among (chars ∷ keyword (codes "true") ∷ keyword (codes "false") ∷ keyword (codes "undef") ∷ variable ∷ []) t)
      (λ e. inr (t, e, refl))
      (either_of (is chars t) (among (keyword (codes "true") ∷ keyword (codes "false") ∷ keyword (codes "undef") ∷ variable ∷ []) t)
      (λ e. inr (t, e, refl))
      (either_of (is (keyword (codes "true")) t) (among (keyword (codes "false") ∷ keyword (codes "undef") ∷ variable ∷ []) t)
      (λ e. inr (t, e, refl))
      (either_of (is (keyword (codes "false")) t) (among (keyword (codes "undef") ∷ variable ∷ []) t)
      (λ e. inr (t, e, refl))
      (either_of (is (keyword (codes "undef")) t) (is variable t) (λ e. inr (t, e, refl)) (λ e. inr (t, e, refl))))))

  pub starts_call : is (symbol (codes "(")) t ≡ true → (g.call true M).Begins (t ∷ [])
  starts_call e = inr (t, [], refl, e, refl, inl (inl (empty.line g.term)))

  pub starts_binds : is (symbol (codes "(")) t ≡ true → (g.binds true M).Begins (t ∷ [])
  starts_binds e = inr (t, [], refl, e, refl, inl (inl (inl (inl refl))))

  starts_prim : among first_prim t ≡ true → (g.prim_form true M).Begins (t ∷ [])
  starts_prim h =
      either_of (among first_plain t)
      (among (id ∷ symbol (codes "(") ∷ symbol (codes "{") ∷ symbol (codes "[") ∷ keyword (codes "if") ∷ keyword (codes "let") ∷ keyword (codes "switch") ∷ []) t)
      starts_plain
      (either_of (is id t)
      (among (symbol (codes "(") ∷ symbol (codes "{") ∷ symbol (codes "[") ∷ keyword (codes "if") ∷ keyword (codes "let") ∷ keyword (codes "switch") ∷ []) t)
      (λ e. inl (inr (t, e, refl)))
      (either_of (is (symbol (codes "(")) t)
      (among (symbol (codes "{") ∷ symbol (codes "[") ∷ keyword (codes "if") ∷ keyword (codes "let") ∷ keyword (codes "switch") ∷ []) t)
      (λ e. inr (t, [], refl, e, refl, inl (inl (empty.line g.quantifier))))
      (either_of (is (symbol (codes "{")) t)
      (among (symbol (codes "[") ∷ keyword (codes "if") ∷ keyword (codes "let") ∷ keyword (codes "switch") ∷ []) t)
      (λ e. inr (t, [], refl, e, refl, inl (inr refl)))
      (either_of (is (symbol (codes "[")) t) (among (keyword (codes "if") ∷ keyword (codes "let") ∷ keyword (codes "switch") ∷ []) t)
      (λ e. inr (t, [], refl, e, refl, inl (inr refl)))
      (either_of (is (keyword (codes "if")) t) (among (keyword (codes "let") ∷ keyword (codes "switch") ∷ []) t)
      (λ e. inr (t, [], refl, e, refl, inl (inl (empty.line g.term))))
      (either_of (is (keyword (codes "let")) t) (is (keyword (codes "switch")) t)
      (λ e. inr (t, [], refl, e, refl, inl (inl empty.binds)))
      (λ e. inr (t, [], refl, e, refl, inl (inl (empty.line g.term))))))))))
      (flat (is number t) (is chars t) (is (keyword (codes "true")) t) (is (keyword (codes "false")) t) (is (keyword (codes "undef")) t) (is variable t)
      (among (id ∷ symbol (codes "(") ∷ symbol (codes "{") ∷ symbol (codes "[") ∷ keyword (codes "if") ∷ keyword (codes "let") ∷ keyword (codes "switch") ∷ []) t) h)

  module _ (fits' : TermTree → Bool) where
    starts_sign : among first_sign t ≡ true → (g.sign_form fits' true M).Begins (t ∷ [])
    starts_sign =
        either_of (is (symbol (codes "-")) t) (among first_prim t) (λ e. inr (t, [], refl, e, refl, empty.line g.sign)) starts_prim

    starts_neg : among first_term t ≡ true → (g.neg_form fits' true M).Begins (t ∷ [])
    starts_neg =
        either_of (is (keyword (codes "not")) t) (among first_sign t) (λ e. inr (t, [], refl, e, refl, empty.line g.neg))
        (λ e. inl (inl (inl (starts_sign e))))

    starts_quantified : among first_quantifier t ≡ true → (g.quantified true M).Begins (t ∷ [])
    starts_quantified =
        either_of (is (keyword (codes "forall")) t) (is (keyword (codes "exist")) t)
        (λ e. inr (t, [], refl, e, refl, inl empty.ranges)) (λ e. inr (t, [], refl, e, refl, inl (inr refl)))

    pub starts_line : (l : Line) → among (first l) t ≡ true → (g.line_form fits' true M l).Begins (t ∷ [])
    starts_line g.term h = inl (inl (inl (inl (starts_neg h))))
    starts_line g.imp h = inl (inl (inl (starts_neg h)))
    starts_line g.and h = inl (starts_neg h)
    starts_line g.neg h = starts_neg h
    starts_line g.sum h = inl (inl (starts_sign h))
    starts_line g.prod h = inl (starts_sign h)
    starts_line g.sign h = starts_sign h
    starts_line g.quantifier h = starts_quantified h
