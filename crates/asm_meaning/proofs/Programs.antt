-- The program of a typed tree is made of its parts, and of a tree's parts no other is.
use Rattle.std.proofs.Common.{◌≡◌, ℕ, ◌≤◌, nat_le, Bool, true, false, List, [], length, Option, Some, None, refl, sym, ap, ◌∙◌, subst}
use mathlib.Core.Path.{contract'}
use Rattle.std.specs.Coded.{le_prop, Coded-set, coded_bool}
use Rattle.std.proofs.lemmas.Bool.{true≢false, leb-true, le-leb, and_parts, and_from}
use Rattle.asm_value.specs.declared.domain.DomainInfo.{DomainInfo}
use Rattle.asm_syntax.specs.declared.tree.ModelTree.{ModelTree}
use Rattle.asm_program.specs.declared.program.FunctionInfo.{FunctionInfo}
use Rattle.asm_program.specs.declared.program.MacroInfo.{MacroInfo}
use Rattle.asm_program.specs.declared.program.Program.{Program}
use Rattle.asm_program.specs.Members.{everyone_of, domains_are_few}
use Rattle.asm_program.specs.Counts.{functions_are_counted}
use Rattle.asm_program.specs.Nesting.{functions_are_ranked, macros_are_ranked}
use Rattle.asm_program.specs.Typed.{Numbered, numbered, refused, IsTyped}
use Rattle.asm_meaning.specs.Texts.{is_kept, program_if, program_of}

-- ---- the program that is made is typed

typed_if : (text : List ℕ) (tree : ModelTree) (program : Program) → refused text tree ≡ [] → (kept : Bool) (e : is_kept (numbered text tree) ≡ kept)
    → program_if text tree (numbered text tree) kept e ≡ Some program → IsTyped text tree program
typed_if text tree program none false e is = absurd (cc (is))
typed_if text tree program none true e is =
    subst (λ (o : Option Program). OfTree o) is (record {
      unrefused = none;
      name = refl;
      domains = refl;
      functions = refl;
      macros = refl;
      main = refl;
      inits = refl;
      invariants = refl;
      work = refl;
      text_kept = refl;
    })
  where
    OfTree : Option Program → Type 0
    OfTree None = ⊥
    OfTree (Some p) = IsTyped text tree p

pub program_is_typed : (text : List ℕ) (tree : ModelTree) (program : Program) → refused text tree ≡ [] → program_of text tree ≡ Some program → IsTyped text tree program
unfolding program_of
program_is_typed text tree program none is = typed_if text tree program none (is_kept (numbered text tree)) refl is

-- ---- a typed program is the one that is made

-- what is kept of the parts of a typed program
kept_of : (n : Numbered) (p : Program) → p.domains ≡ n.scope.domains → p.functions ≡ n.functions → p.macros ≡ n.macros → is_kept n ≡ true
kept_of n p domains functions macros =
    let counted = subst (λ ds. functions_are_counted ds p.functions ≡ true) domains p.counted in
    and_from _ _
    (and_from _ _ (subst (λ ds. domains_are_few ds ≡ true) domains p.few_domains)
    (and_from _ _ (subst (λ fs. nat_le (length fs) 256 ≡ true) functions (le-leb _ _ p.few)) (subst (λ ms. nat_le (length ms) 256 ≡ true) macros (le-leb _ _ p.few_macros))))
    (and_from _ _
    (and_from _ _ (subst (λ fs. functions_are_ranked fs ≡ true) functions p.ranked) (subst (λ ms. macros_are_ranked ms ≡ true) macros p.macros_ranked))
    (subst (λ fs. functions_are_counted n.scope.domains fs ≡ true) functions counted))

true_prop : (b : Bool) (x y : b ≡ true) → x ≡ y
true_prop b x y = Coded-set coded_bool b true x y

module _ (p : Program) where
  -- a program of these parts, whatever shows what is kept of them
  abbrev IsMade : List DomainInfo → List FunctionInfo → List MacroInfo → Type 0
  IsMade domains functions macros =
      (few_domains : domains_are_few domains ≡ true) (few : length functions ≤ 256) (few_macros : length macros ≤ 256) (ranked : functions_are_ranked functions ≡ true) (macros_ranked : macros_are_ranked macros ≡ true) (counted : functions_are_counted domains functions ≡ true)
      → ◌≡◌ {A = Program} p (record {
        name = p.name;
        domains = domains;
        functions = functions;
        macros = macros;
        main = p.main;
        inits = p.inits;
        invariants = p.invariants;
        work = p.work;
        text = p.text;
        everyone = everyone_of domains;
        few_domains = few_domains;
        few = few;
        few_macros = few_macros;
        every = refl;
        ranked = ranked;
        macros_ranked = macros_ranked;
        counted = counted;
      })

  itself : IsMade p.domains p.functions p.macros
  itself few_domains few few_macros ranked macros_ranked counted = let same = sym (contract' p.every) in λ i. record {
    name = p.name;
    domains = p.domains;
    functions = p.functions;
    macros = p.macros;
    main = p.main;
    inits = p.inits;
    invariants = p.invariants;
    work = p.work;
    text = p.text;
    everyone = (same i).0;
    few_domains = true_prop _ p.few_domains few_domains i;
    few = le_prop p.few few i;
    few_macros = le_prop p.few_macros few_macros i;
    every = (same i).1;
    ranked = true_prop _ p.ranked ranked i;
    macros_ranked = true_prop _ p.macros_ranked macros_ranked i;
    counted = true_prop _ p.counted counted i;
  }

  of_parts : (domains : List DomainInfo) (functions : List FunctionInfo) (macros : List MacroInfo) → p.domains ≡ domains → p.functions ≡ functions → p.macros ≡ macros
      → IsMade domains functions macros
  of_parts domains functions macros d f m =
      subst (λ ds. IsMade ds functions macros) d (subst (λ fs. IsMade p.domains fs macros) f (subst (λ ms. IsMade p.domains p.functions ms) m itself))

made_if : (text : List ℕ) (tree : ModelTree) (program : Program) → IsTyped text tree program → (kept : Bool) (e : is_kept (numbered text tree) ≡ kept) → kept ≡ true
    → program_if text tree (numbered text tree) kept e ≡ Some program
made_if text tree program t false e kept = absurd (true≢false (sym kept))
made_if text tree program t true e kept =
    let n = numbered text tree in
    let both = and_parts _ _ e in
    let domains = and_parts _ _ both.0 in
    let few = and_parts _ _ domains.1 in
    let last = and_parts _ _ both.1 in
    let ranks = and_parts _ _ last.0 in
    sym (ap (λ (p : Program). Some p) (
    of_parts program n.scope.domains n.functions n.macros t.domains t.functions t.macros domains.0 (leb-true _ _ few.0) (leb-true _ _ few.1) ranks.0 ranks.1 last.1
    ∙ (λ i. record {
      name = t.name i;
      domains = n.scope.domains;
      functions = n.functions;
      macros = n.macros;
      main = t.main i;
      inits = t.inits i;
      invariants = t.invariants i;
      work = t.work i;
      text = t.text_kept i;
      everyone = everyone_of n.scope.domains;
      few_domains = domains.0;
      few = leb-true _ _ few.0;
      few_macros = leb-true _ _ few.1;
      every = refl;
      ranked = ranks.0;
      macros_ranked = ranks.1;
      counted = last.1;
    })))

pub typed_is_program : (text : List ℕ) (tree : ModelTree) (program : Program) → IsTyped text tree program → program_of text tree ≡ Some program
unfolding program_of
typed_is_program text tree program t =
    made_if text tree program t (is_kept (numbered text tree)) refl (kept_of (numbered text tree) program t.domains t.functions t.macros)
