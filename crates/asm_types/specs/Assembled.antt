-- What the functions of a program are put together from.
use Rattle.std.specs.Prelude.{◌≡◌, ℕ, ◌+◌, ◌≤◌, Option, Some, None, List, [], ◌∷◌, length, IsTrue}
use Rattle.std.specs.List.{filter_map}
use Rattle.asm_syntax.specs.declared.tree.DeclTree.{DeclTree}
use Rattle.asm_syntax.specs.declared.tree.DeclTree.TheVariants as decls
use Rattle.asm_syntax.specs.declared.tree.ModelTree.{ModelTree}
use Rattle.asm_syntax.specs.Marks.{text_of}
use Rattle.asm_program.specs.declared.trees.Term.{Term}
use Rattle.asm_program.specs.declared.program.FunctionInfo.{FunctionInfo}
use Rattle.asm_program.specs.declared.program.Program.{Program}
use Rattle.asm_program.specs.Counts.{function_depth, functions_are_counted}
use Rattle.asm_program.specs.Members.{domains_are_few}
use Rattle.asm_program.specs.Nesting.{functions_are_ranked, macros_are_ranked}
use Rattle.asm_program.specs.Signatures.{Header}
use Rattle.asm_program.specs.Typed.{refused, Numbered, IsTyped}
use Rattle.asm_counts.specs.declared.counts.Counts.{Counts}
use Rattle.asm_counts.specs.CountLevels.{known}
use Rattle.asm_typed_calls.specs.CalledNames.{functions_in}

-- ---- functions

-- the name of a declared function
abbrev pub function_name : DeclTree → Option (List ℕ)
function_name (decls.Enum name first others span) = None
function_name (decls.Abstract name span) = None
function_name (decls.Subset name base span) = None
function_name (decls.Defined kind name first next span) = Some (text_of name)
function_name (decls.Dynamic kind name first next span) = Some (text_of name)

abbrev pub function_names : List DeclTree → List (List ℕ)
function_names = filter_map function_name

-- a function of this name, with what is said of it, its term and its counts
abbrev pub info_of : List ℕ → Header → Option Term → Counts → FunctionInfo
info_of name h body counts = record {
  name = name;
  kind = h.kind;
  args = h.args;
  result = h.result;
  body = body;
  depth = counts.depth;
  work = counts.work;
}

-- functions of these names, of which the one with this number comes first
unfoldable pub infos_from : List Counts → ℕ → List (List ℕ) → List Header → List (Option Term)
    → List FunctionInfo
infos_from counts f [] hs bodies = []
infos_from counts f (n ∷ ns) [] bodies = []
infos_from counts f (n ∷ ns) (h ∷ hs) [] = []
infos_from counts f (n ∷ ns) (h ∷ hs) (b ∷ bs) =
    info_of n h b (known counts f) ∷ infos_from counts (f + 1) ns hs bs

-- no function of the text is deeper than this
abbrev pub AreShallow : ModelTree → Type 0
AreShallow tree = (f : ℕ) → function_depth (functions_in tree) f ≤ 512

-- ---- programs

-- what a program keeps of its parts: they are few, none reaches itself, and functions are counted
pub record IsKept (n : Numbered) : Type 0 where
  pub domains : IsTrue (domains_are_few n.scope.domains)
  pub functions : length n.functions ≤ 256
  pub macros : length n.macros ≤ 256
  pub ranked : IsTrue (functions_are_ranked n.functions)
  pub macros_ranked : IsTrue (macros_are_ranked n.macros)
  pub counted : IsTrue (functions_are_counted n.scope.domains n.functions)

-- A tree of which nothing is refused has its program.
abbrev pub UnrefusedHaveAProgram : Type 0
UnrefusedHaveAProgram =
    (text : List ℕ) (tree : ModelTree) → refused text tree ≡ []
    → (program : Program) × IsTyped text tree program
