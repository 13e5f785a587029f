-- A tree of which nothing is refused has its program.
use Rattle.std.proofs.Common.{◌≡◌, ℕ, ◌≤◌, List, [], ◌++◌, length, refl, sym, ap, ◌∙◌, subst}
use Rattle.std.specs.Prelude.{IsTrue}
use Rattle.asm_syntax.specs.declared.tree.ModelTree.{ModelTree}
use Rattle.asm_syntax.specs.Marks.{text_of}
use Rattle.asm_program.specs.declared.program.Program.{Program}
use Rattle.asm_program.specs.Items.{model_items, starts_of}
use Rattle.asm_program.specs.Signatures.{names_of}
use Rattle.asm_program.specs.NamesPass.{names_refused}
use Rattle.asm_program.specs.DomainsPass.{domains_refused}
use Rattle.asm_program.specs.FunctionsPass.{functions_refused}
use Rattle.asm_program.specs.Members.{everyone_of}
use Rattle.asm_program.specs.TypedModels.{scope_of}
use Rattle.asm_program.specs.Typed.{Numbered, numbered, depth_refused, depths_refused, start_depths_refused, work_refused, counts_refused, refused, IsTyped}
use Rattle.asm_program.specs.Counts.{rule_depth}
use Rattle.asm_program.proofs.Counted.{counted_functions}
use Rattle.asm_program.proofs.Refusals.{both_nil}
use Rattle.asm_typed_calls.specs.CalledNames.{declared_refused, IsSound, functions_in}
use Rattle.asm_typed_calls.proofs.Laws.{functions_ranked, macros_ranked as ranked_macros}
use Rattle.asm_types.specs.Assembled.{AreShallow, IsKept}
use Rattle.asm_types.proofs.Few.{few-domains, few-functions, few-macros}
use Rattle.asm_types.proofs.Shallow.{counted-ranked, are-shallow}
use Rattle.asm_types.proofs.Passes.{parts-of}

-- no name is refused of a sound text
names-none : (tree : ModelTree) → IsSound tree → names_refused (model_items tree) ≡ []
names-none tree s =
    let names = names_refused (model_items tree) in
    let domains = domains_refused tree.decls (names_of tree) (model_items tree) in
    let functions = functions_refused tree.defs (names_of tree) (scope_of tree).functions tree.decls (starts_of tree.init) in
    (both_nil names domains (both_nil (names ++ domains) functions s.declared).0).0

-- no definition is refused for its depth
depths-none : (n : Numbered) (tree : ModelTree) → counts_refused n tree ≡ [] → depths_refused n.scope n.functions n.macros tree.defs ≡ []
depths-none n tree h =
    let defs = depths_refused n.scope n.functions n.macros tree.defs in
    let main = depth_refused (rule_depth n.functions n.macros n.main) tree.rule_name.span in
    let starts = start_depths_refused n.scope n.functions n.macros (starts_of tree.init) in
    let work = work_refused n.work tree.main in
    (both_nil defs main (both_nil (defs ++ main) starts (both_nil (defs ++ main ++ starts) work h).0).0).0

module _ (text : List ℕ) (tree : ModelTree) where
  pub kept : IsSound tree → IsKept (numbered text tree)
  kept s =
      let names = names-none tree s in
      record {
        domains = few-domains tree names;
        functions = few-functions tree names;
        macros = few-macros tree names;
        ranked = counted-ranked tree ∙ functions_ranked tree s;
        macros_ranked = ranked_macros tree s;
        counted = counted_functions (scope_of tree).domains (functions_in tree);
      }

  pub shallow : refused text tree ≡ [] → AreShallow tree
  shallow h =
      let parts = parts-of text tree h in
      let k = kept parts.0 in
      are-shallow tree (numbered text tree).macros k.ranked k.functions (depths-none (numbered text tree) tree parts.1)

  pub has_program : refused text tree ≡ [] → (program : Program) × IsTyped text tree program
  has_program h =
      let n = numbered text tree in
      let k = kept (parts-of text tree h).0 in (
        record {
          name = text_of tree.name;
          domains = n.scope.domains;
          functions = n.functions;
          macros = n.macros;
          main = n.main;
          inits = n.inits;
          invariants = n.invariants;
          work = n.work;
          text = text;
          everyone = everyone_of n.scope.domains;
          few_domains = k.domains;
          few = k.functions;
          few_macros = k.macros;
          every = refl;
          ranked = k.ranked;
          macros_ranked = k.macros_ranked;
          counted = k.counted;
        },
        record {
          unrefused = h;
          name = refl;
          domains = refl;
          functions = refl;
          macros = refl;
          main = refl;
          inits = refl;
          invariants = refl;
          work = refl;
          text_kept = refl;
        },
      )
