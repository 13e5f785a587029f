-- The imports of a model that aren't of the standard library: the first one is what `first_foreign` finds.
use Rattle.std.proofs.Common.{◌≡◌, ◌≤◌, ℕ, List, [], ◌∷◌, ◌++◌, length, Bool, true, false, ◌⊎◌, inl, inr, sym, refl, ap, ◌∙◌, subst, append_assoc, codes, arith}
use Rattle.std.specs.Prelude.{cond, Some}
use Rattle.asm_grammar.specs.Language.{Language, word, ◌then◌}
use Rattle.asm_grammar.specs.Parser.{Took, Refused, expect}
use Rattle.asm_grammar.proofs.Pairs.{paired, with_next}
use Rattle.asm_syntax.specs.declared.token.Token.{Token}
use Rattle.asm_syntax.specs.declared.tree.ModelTree.{ModelTree}
use Rattle.asm_syntax.specs.Marks.{is, id, keyword, symbol, text_of}
use Rattle.asm_syntax.specs.Forms.{quoted, many}
use Rattle.asm_syntax.specs.Heights.{fits}
use Rattle.asm_syntax.specs.Models as g
use Rattle.asm_syntax.specs.Models.{Import}
use Rattle.asm_syntax.specs.Grammar.{model, last_part, are_standard}
use Rattle.asm_syntax.specs.Refusals.{IsForeign}
use Rattle.asm_parse_theory.specs.Models as r
use Rattle.asm_parse_theory.specs.Models.{foreign_after}
use Rattle.asm_parse_theory.proofs.Sets.{apart}
use Rattle.asm_parse_theory.proofs.Without.{past_clear, not_clear}
use Rattle.asm_parse_theory.proofs.WithoutForms.{without_mark}
use Rattle.asm_parse_theory.proofs.NoImportTerms.{import_mark, is_import, NoImport, no_id}
use Rattle.asm_parse_theory.proofs.NoImportModels.{signature, no_signature}
use Rattle.asm_parse_theory.proofs.Rows.{Row, many_row, many_partly, row_begins}
use Rattle.asm_parse_theory.proofs.Imports.{parts_whole, fronts_parts, import_begins}
use Rattle.asm_parse_theory.proofs.ForeignStep.{IsFound, found_among}
use Rattle.asm_parse_theory.proofs.ForeignWalk.{FoundBy, find, is_none, none_standard, BeginsOff}

abbrev quoted_id : Language Token Token
quoted_id = word (is id)

abbrev pub is_asm : Token → Bool
is_asm = is (keyword (codes "asm"))

-- ---- the title

-- a model's word and its name, and what stands behind them
pub record Titled (ts behind : List Token) : Type 0 where
  pub word : Token
  pub title : Token
  pub is_word : is_asm word ≡ true
  pub is_title : is id title ≡ true
  pub split : ts ≡ word ∷ title ∷ behind

titled_first : (ts behind : List Token) → Titled ts behind → r.first_foreign ts ≡ r.foreign_among (length behind) behind
unfolding r.first_foreign
titled_first ts behind t =
    ap r.first_foreign t.split
    ∙ ap (λ x. foreign_after (with_next (cond x (Took t.word (t.title ∷ behind)) (Refused false (t.word ∷ t.title ∷ behind))) (expect (is id)))) t.is_word
    ∙ ap (λ x. foreign_after (paired t.word (cond x (Took t.title behind) (Refused false (t.title ∷ behind))))) t.is_title

-- where one is found a title stands
found_titled : (ts : List Token) (given : Import) (rest : List Token) → r.first_foreign ts ≡ Some (given, rest)
    → (behind : List Token) × Titled ts behind
unfolding r.first_foreign
found_titled [] given rest e = absurd (cc e)
found_titled (t ∷ []) given rest e = go (is_asm t) e
  where
    go : (x : Bool) → foreign_after (with_next (cond x (Took t []) (Refused false (t ∷ []))) (expect (is id))) ≡ Some (given, rest)
        → (behind : List Token) × Titled (t ∷ []) behind
    go true h = absurd (cc h)
    go false h = absurd (cc h)
found_titled (t ∷ u ∷ ts) given rest e = go (is_asm t) refl e
  where
    by_title : is_asm t ≡ true → (x : Bool) → is id u ≡ x
        → foreign_after (paired t (cond x (Took u ts) (Refused false (u ∷ ts)))) ≡ Some (given, rest)
        → (behind : List Token) × Titled (t ∷ u ∷ ts) behind
    by_title h true j k = (ts, record { word = t; title = u; is_word = h; is_title = j; split = refl })
    by_title h false j k = absurd (cc k)

    go : (x : Bool) → is_asm t ≡ x
        → foreign_after (with_next (cond x (Took t (u ∷ ts)) (Refused false (t ∷ u ∷ ts))) (expect (is id))) ≡ Some (given, rest)
        → (behind : List Token) × Titled (t ∷ u ∷ ts) behind
    go true h k = by_title h (is id u) refl k
    go false h k = absurd (cc k)

-- ---- what is found

-- what stands at the import that is found
pub record IsFirst (ts : List Token) (given : Import) (rest : List Token) : Type 0 where
  pub behind : List Token
  pub titled : Titled ts behind
  pub found : IsFound behind given rest

first_at : (ts : List Token) (given : Import) (rest : List Token) → r.first_foreign ts ≡ Some (given, rest) → IsFirst ts given rest
first_at ts given rest e =
    let t = found_titled ts given rest e in
    record {
      behind = t.0;
      titled = t.1;
      found = found_among (length t.0) t.0 given rest (sym (titled_first ts t.0 t.1) ∙ e);
    }

first_begins : (ts : List Token) (given : Import) (rest : List Token) (f : IsFirst ts given rest)
    → model.Begins (f.titled.word ∷ f.titled.title ∷ (f.found.front ++ f.found.word ∷ f.found.list))
unfolding model
first_begins ts given rest f =
    inr (
      f.titled.word,
      f.titled.word ∷ [],
      f.titled.title ∷ (f.found.front ++ f.found.word ∷ f.found.list),
      refl,
      (f.titled.is_word, refl),
      inr (
        f.titled.title,
        f.titled.title ∷ [],
        f.found.front ++ f.found.word ∷ f.found.list,
        refl,
        (f.titled.is_title, refl),
        inl (row_begins g.imported f.found.before f.found.front (f.found.word ∷ f.found.list) f.found.row
            (import_begins f.found.word f.found.list f.found.imports (fronts_parts.begins given f.found.list f.found.lists))),
      ),
    )

pub first_foreign_is : (ts : List Token) (given : Import) (rest : List Token) → r.first_foreign ts ≡ Some (given, rest)
    → IsForeign ts rest (text_of (last_part given))
first_foreign_is ts given rest e =
    let f = first_at ts given rest e in
    record {
      front = f.titled.word ∷ f.titled.title ∷ f.found.front;
      word = f.found.word;
      list = f.found.list;
      behind = f.found.behind;
      given = given;
      split = f.titled.split ∙ ap (λ z. f.titled.word ∷ f.titled.title ∷ z) f.found.split;
      imports = f.found.imports;
      is_rest = f.found.is_rest;
      begins = first_begins ts given rest f;
      lists = f.found.lists;
      whole = parts_whole given rest f.found.list f.found.behind f.found.is_rest f.found.lists f.found.took;
      foreign = f.found.foreign;
      named = refl;
    }

-- ---- each foreign import is found, or one before it

no_asm : NoImport (quoted (codes "asm"))
no_asm = without_mark import_mark (keyword (codes "asm")) refl

signature_first : (t : Token) (ts : List Token) → (signature fits 64).Begins (t ∷ ts) → is (keyword (codes "signature")) t ≡ true
signature_first t ts (inl (inl e)) = absurd (cc e)
signature_first t ts (inl (inr s)) = let same : t ≡ s.0 = cc s.2 in subst (λ z. is (keyword (codes "signature")) z ≡ true) (sym same) s.1
signature_first t ts (inr s) =
    let both : t ∷ ts ≡ s.0 ∷ s.2 = s.3 ∙ ap (λ z. z ++ s.2) s.4.1 in
    let same : t ≡ s.0 = cc both in
    subst (λ z. is (keyword (codes "signature")) z ≡ true) (sym same) s.4.0

-- whole imports, and then one more or what stands behind them
record Begun (a : List Token) : Type 0 where
  imports : List Import
  whole : List Token
  more : List Token
  split : a ≡ whole ++ more
  row : Row g.imported imports whole
  goes : g.imported.Begins more ⊎ (signature fits 64).Begins more

begun_tail : (a : List Token) → (many g.imported then signature fits 64).Begins a → Begun a
begun_tail a (inl bg) =
    let p = many_partly g.imported (inl (inl refl)) a bg in
    record { imports = p.0; whole = p.1; more = p.2; split = p.3; row = p.4; goes = inl p.5 }
begun_tail a (inr s) =
    record { imports = s.0; whole = s.1; more = s.2; split = s.3; row = many_row g.imported s.0 s.1 s.4; goes = inr s.5 }

-- what stands behind the title of a model in which an import stands
record Behind (front : List Token) (word : Token) (list : List Token) : Type 0 where
  title : List Token
  front' : List Token
  two : (behind : List Token) → Titled (title ++ behind) behind
  split : front ≡ title ++ front'
  begun : Begun (front' ++ word ∷ list)

behind_title : (front : List Token) (word : Token) (list : List Token) → is_import word ≡ true → model.Begins (front ++ word ∷ list)
    → Behind front word list
unfolding model
behind_title front word list e (inl bg) = absurd (not_clear is_import front word list e (no_asm.begins (front ++ word ∷ list) bg))
behind_title front word list e (inr (t, a, b, is, asm, inl bg)) =
    let past = past_clear is_import front word list a b e (no_asm.spells t a asm) is in
    absurd (not_clear is_import past.0 word list e (no_id.begins (past.0 ++ word ∷ list) (subst (λ z. (quoted_id).Begins z) past.2 bg)))
behind_title front word list e (inr (t, a, b, is, asm, inr (u, c, d, is', name, bg))) =
    let past = past_clear is_import front word list a b e (no_asm.spells t a asm) is in
    let past' = past_clear is_import past.0 word list c d e (no_id.spells u c name) (sym past.2 ∙ is') in
    record {
      title = t ∷ u ∷ [];
      front' = past'.0;
      two = λ behind. record { word = t; title = u; is_word = asm.0; is_title = name.0; split = refl };
      split = past.1 ∙ ap (λ z. a ++ z) past'.1 ∙ ap (λ z. z ++ (c ++ past'.0)) asm.1 ∙ ap (λ z. t ∷ z ++ past'.0) name.1;
      begun = subst Begun past'.2 (begun_tail d bg);
    }

pub foreign_found : (ts rest : List Token) (name : List ℕ) → IsForeign ts rest name → FoundBy rest (r.first_foreign ts)
foreign_found ts rest name f =
    let b = behind_title f.front f.word f.list f.imports f.begins in
    let us : List Token = b.front' ++ f.word ∷ (f.list ++ f.behind) in
    let split : ts ≡ b.title ++ us =
    f.split ∙ ap (λ z. z ++ f.word ∷ rest) b.split ∙ append_assoc b.title b.front' (f.word ∷ rest)
    ∙ ap (λ z. b.title ++ (b.front' ++ f.word ∷ z)) f.is_rest in
    let found = find (no_signature fits 64) signature_first f.word f.list f.behind f.given f.imports f.lists f.whole f.foreign (length us)
    b.begun.imports b.front' b.begun.whole b.begun.more (omega arith) b.begun.split b.begun.row b.begun.goes in
    let first : r.first_foreign ts ≡ r.foreign_among (length us) us = ap r.first_foreign split ∙ titled_first (b.title ++ us) us (b.two us) in
    (found.0, found.1, first ∙ found.2, subst (λ z. length z ≤ length found.1) (sym f.is_rest) found.3)

-- ---- a tree

-- the imports of what is spelled
record Spelled (imports : List Import) (ts : List Token) : Type 0 where
  behind : List Token
  titled : Titled ts behind
  whole : List Token
  more : List Token
  split : behind ≡ whole ++ more
  row : Row g.imported imports whole
  off : BeginsOff more

signature_off : (t : Token) (a : List Token) → is (keyword (codes "signature")) t ≡ true → BeginsOff (t ∷ a)
signature_off t a e = (
  apart (keyword (codes "signature") ∷ []) (keyword (codes "import") ∷ []) refl t e,
  apart (keyword (codes "signature") ∷ []) (symbol (codes "/") ∷ []) refl t e,
)

spelled_imports : (imports : List Import) (tree : ModelTree) (ts : List Token) → model.Spells (imports, tree) ts → Spelled imports ts
unfolding model
spelled_imports imports tree ts (v, made, (p, same, (a, b, is, asm, (c, d, is', name, (x, y, is'', many, sig))))) =
    let given : imports ≡ p.1.1.0 = ap (λ z. z.0) made ∙ ap (λ z. z.1.0) same in
    record {
      behind = d;
      titled = record {
        word = p.0;
        title = p.1.0;
        is_word = asm.0;
        is_title = name.0;
        split = is ∙ ap (λ z. z ++ b) asm.1 ∙ ap (λ z. p.0 ∷ z) (is' ∙ ap (λ z. z ++ d) name.1);
      };
      whole = x;
      more = y;
      split = is'';
      row = subst (λ z. Row g.imported z x) (sym given) (many_row g.imported p.1.1.0 x many);
      off = subst BeginsOff (sym (sig.2.2 ∙ ap (λ z. z ++ sig.2.1) sig.2.3.1)) (signature_off sig.0.0 sig.2.1 sig.2.3.0);
    }

-- in what is spelled none is found exactly where all are of the standard library
pub spelled_none : (imports : List Import) (tree : ModelTree) (ts : List Token) → model.Spells (imports, tree) ts
    → is_none (r.first_foreign ts) ≡ are_standard imports
spelled_none imports tree ts sp =
    let s = spelled_imports imports tree ts sp in
    let long : length (s.whole ++ s.more) ≡ length s.behind = sym (ap length s.split) in
    ap is_none (titled_first ts s.behind s.titled ∙ ap (λ z. r.foreign_among (length s.behind) z) s.split)
    ∙ none_standard (length s.behind) imports s.whole s.more (omega arith) s.row s.off
