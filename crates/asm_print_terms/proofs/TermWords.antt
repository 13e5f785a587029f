-- The words of terms, form by form.
use Rattle.std.proofs.Common.{◌≡◌, ℕ, List, [], ◌∷◌, ◌++◌, map, codes, None, Some, true, false, refl, ap, ◌∙◌}
use Rattle.std.proofs.lemmas.List.{append_assoc}
use Rattle.asm_syntax.specs.declared.tree.TermTree.{TermTree}
use Rattle.asm_syntax.specs.declared.tree.TermTree.TheOpen.{TermTree-F}
use Rattle.asm_syntax.specs.declared.tree.TermTree.TheFolds.{fold_out-TermTree, fold_out-TermsTree, fold_out-BindTree, fold_out-BindsTree, fold_out-CaseTree, map-TermTree}
use Rattle.asm_syntax.specs.declared.tree.TermTree.TheViews.{out-TermTree, out-TermsTree, out-BindTree, out-BindsTree, out-CaseTree}
use Rattle.asm_syntax.specs.declared.tree.TermsTree.{TermsTree}
use Rattle.asm_syntax.specs.declared.tree.BindTree.{BindTree}
use Rattle.asm_syntax.specs.declared.tree.BindsTree.{BindsTree}
use Rattle.asm_syntax.specs.declared.tree.CaseTree.{CaseTree}
use Rattle.asm_syntax.specs.Written.{Words, Writing, Tightness, after_each, written_all, comma, own, free, single, word_of, ranges_words, term_words_step, bind_words_step, binds_words_step, case_words_step, terms_words_step, term_writing, terms_words, binds_words}
use Rattle.asm_print_terms.specs.Parts.{bind_words, case_words, prefix_words, binary_words, led_words, enclosed_words, rest_words, more_terms_words, more_binds_words, cases_words, tuple_words, args_words, items_words, quantified_rest, forall_words, exist_words, interval_words, if_term_words, let_words, let_term_words, switch_term_words}

-- ---- lists

more_terms : (ts : List TermTree) → after_each comma free (map term_writing ts) ≡ more_terms_words ts
unfolding more_terms_words
more_terms [] = refl
more_terms (t ∷ ts) = ap (λ ws. comma ∷ term_writing t 0 ++ ws) (more_terms ts)

more_binds : (bs : List BindTree) → after_each comma own (map bind_words bs) ≡ more_binds_words bs
unfolding more_binds_words
more_binds [] = refl
more_binds (b ∷ bs) = ap (λ ws. comma ∷ bind_words b ++ ws) (more_binds bs)

all_cases : (cs : List CaseTree) → written_all own (map case_words cs) ≡ cases_words cs
unfolding cases_words
all_cases [] = refl
all_cases (c ∷ cs) = ap (λ ws. case_words c ++ ws) (all_cases cs)

-- ---- forms

abbrev pub term_form : TermTree-F TermTree BindTree BindsTree CaseTree TermsTree → Tightness → Words
term_form (TermTree-F.Prefix op t span) needed = prefix_words op t needed
term_form (TermTree-F.Binary left op right span) needed = binary_words left op right needed
term_form (TermTree-F.Number t span) needed = single t
term_form (TermTree-F.Chars t span) needed = single t
term_form (TermTree-F.True span) needed = codes "true" ∷ []
term_form (TermTree-F.False span) needed = codes "false" ∷ []
term_form (TermTree-F.Undef span) needed = codes "undef" ∷ []
term_form (TermTree-F.Var t span) needed = single t
term_form (TermTree-F.Name t args span) needed = word_of t ∷ args_words args
term_form (TermTree-F.Tuple items span) needed = tuple_words items
term_form (TermTree-F.Forall ranges body span) needed = forall_words ranges body
term_form (TermTree-F.Exist unique ranges body span) needed = exist_words unique ranges body
term_form (TermTree-F.Interval from to span) needed = interval_words from to
term_form (TermTree-F.Set items span) needed = items_words (codes "{") items (codes "}")
term_form (TermTree-F.Seq items span) needed = items_words (codes "[") items (codes "]")
term_form (TermTree-F.If guard first other span) needed = if_term_words guard first other
term_form (TermTree-F.Let binds body span) needed = let_term_words binds body
term_form (TermTree-F.Switch t cases other span) needed = switch_term_words t cases other

abbrev mapped : TermTree-F TermTree BindTree BindsTree CaseTree TermsTree → TermTree-F Writing Words Words Words Words
mapped f = map-TermTree TermTree BindTree BindsTree CaseTree TermsTree Writing Words Words Words Words term_writing bind_words binds_words case_words terms_words f

-- words put together from the left or from the right
pub last_two : (xs ys : Words) (z : List ℕ) → xs ++ ys ++ z ∷ [] ≡ xs ++ (ys ++ z ∷ [])
last_two xs ys z = append_assoc xs ys (z ∷ [])

pub last_three : (xs ys zs : Words) (v : List ℕ) → xs ++ ys ++ zs ++ v ∷ [] ≡ xs ++ ys ++ (zs ++ v ∷ [])
last_three xs ys zs v = append_assoc (xs ++ ys) zs (v ∷ [])

same_form : (f : TermTree-F TermTree BindTree BindsTree CaseTree TermsTree) (needed : Tightness) → term_words_step (mapped f) needed ≡ term_form f needed
unfolding prefix_words binary_words led_words enclosed_words rest_words tuple_words args_words items_words quantified_rest forall_words exist_words interval_words if_term_words let_words let_term_words switch_term_words
same_form (TermTree-F.Prefix op t span) needed = refl
same_form (TermTree-F.Binary left op right span) needed = refl
same_form (TermTree-F.Number t span) needed = refl
same_form (TermTree-F.Chars t span) needed = refl
same_form (TermTree-F.True span) needed = refl
same_form (TermTree-F.False span) needed = refl
same_form (TermTree-F.Undef span) needed = refl
same_form (TermTree-F.Var t span) needed = refl
same_form (TermTree-F.Name t None span) needed = refl
same_form (TermTree-F.Name t (Some args) span) needed = refl
same_form (TermTree-F.Tuple items span) needed = refl
same_form (TermTree-F.Forall ranges body span) needed = ap (λ ws. codes "(" ∷ codes "forall" ∷ ws) (last_two (ranges_words ranges) (codes "with" ∷ term_writing body 0) (codes ")"))
same_form (TermTree-F.Exist false ranges body span) needed = ap (λ ws. codes "(" ∷ codes "exist" ∷ ws) (last_two (ranges_words ranges) (codes "with" ∷ term_writing body 0) (codes ")"))
same_form (TermTree-F.Exist true ranges body span) needed =
    ap (λ ws. codes "(" ∷ codes "exist" ∷ codes "unique" ∷ ws) (last_two (ranges_words ranges) (codes "with" ∷ term_writing body 0) (codes ")"))
same_form (TermTree-F.Interval from to span) needed = last_two (codes "{" ∷ term_writing from 0) (codes ".." ∷ term_writing to 0) (codes "}")
same_form (TermTree-F.Set None span) needed = refl
same_form (TermTree-F.Set (Some items) span) needed = refl
same_form (TermTree-F.Seq None span) needed = refl
same_form (TermTree-F.Seq (Some items) span) needed = refl
same_form (TermTree-F.If guard first None span) needed = last_three (codes "if" ∷ term_writing guard 0) (codes "then" ∷ term_writing first 0) [] (codes "endif")
same_form (TermTree-F.If guard first (Some other) span) needed =
    last_three (codes "if" ∷ term_writing guard 0) (codes "then" ∷ term_writing first 0) (codes "else" ∷ term_writing other 0) (codes "endif")
same_form (TermTree-F.Let binds body span) needed = last_two (codes "let" ∷ binds_words binds) (codes "in" ∷ term_writing body 0) (codes "endlet")
same_form (TermTree-F.Switch t cases None span) needed =
    ap (λ ws. codes "switch" ∷ term_writing t 0 ++ ws ++ [] ++ codes "endswitch" ∷ []) (all_cases cases)
    ∙ last_three (codes "switch" ∷ term_writing t 0) (cases_words cases) [] (codes "endswitch")
same_form (TermTree-F.Switch t cases (Some other) span) needed =
    ap (λ ws. codes "switch" ∷ term_writing t 0 ++ ws ++ (codes "otherwise" ∷ term_writing other 0) ++ codes "endswitch" ∷ []) (all_cases cases)
    ∙ last_three (codes "switch" ∷ term_writing t 0) (cases_words cases) (codes "otherwise" ∷ term_writing other 0) (codes "endswitch")

pub term_writing-out : (t : TermTree) (needed : Tightness) → term_writing t needed ≡ term_form (out-TermTree t) needed
unfolding term_writing bind_words binds_words case_words terms_words
term_writing-out t needed =
    ap (λ f. f needed) (fold_out-TermTree Writing Words Words Words Words term_words_step bind_words_step binds_words_step case_words_step terms_words_step t)
    ∙ same_form (out-TermTree t) needed

-- ---- what holds terms

pub terms_words-out : (t : TermsTree) → terms_words t ≡ term_writing (out-TermsTree t).first 0 ++ more_terms_words (out-TermsTree t).others
unfolding term_writing bind_words binds_words case_words terms_words
terms_words-out t =
    fold_out-TermsTree Writing Words Words Words Words term_words_step bind_words_step binds_words_step case_words_step terms_words_step t
    ∙ ap (λ ws. term_writing (out-TermsTree t).first 0 ++ ws) (more_terms (out-TermsTree t).others)

pub bind_words-out : (b : BindTree) → bind_words b ≡ word_of (out-BindTree b).variable ∷ led_words (codes "=") (out-BindTree b).value
unfolding term_writing bind_words binds_words case_words terms_words led_words
bind_words-out b = fold_out-BindTree Writing Words Words Words Words term_words_step bind_words_step binds_words_step case_words_step terms_words_step b

pub binds_words-out : (b : BindsTree) → binds_words b ≡ codes "(" ∷ bind_words (out-BindsTree b).first ++ more_binds_words (out-BindsTree b).others ++ codes ")" ∷ []
unfolding term_writing bind_words binds_words case_words terms_words
binds_words-out b =
    fold_out-BindsTree Writing Words Words Words Words term_words_step bind_words_step binds_words_step case_words_step terms_words_step b
    ∙ ap (λ ws. codes "(" ∷ bind_words (out-BindsTree b).first ++ ws ++ codes ")" ∷ []) (more_binds (out-BindsTree b).others)

pub case_words-out : (c : CaseTree) → case_words c ≡ led_words (codes "case") (out-CaseTree c).value ++ led_words (codes ":") (out-CaseTree c).term
unfolding term_writing bind_words binds_words case_words terms_words led_words
case_words-out c = fold_out-CaseTree Writing Words Words Words Words term_words_step bind_words_step binds_words_step case_words_step terms_words_step c
