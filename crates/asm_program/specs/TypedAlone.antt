-- Typing of a term alone, over what a program declares.
use Rattle.std.specs.Prelude.{ℕ, ◌+◌, Option, Some, None, List, [], ◌∷◌, ◌++◌, map}
use Rattle.asm_value.specs.declared.domain.Domain.{Domain}
use Rattle.asm_value.specs.declared.domain.DomainInfo.{DomainInfo}
use Rattle.asm_value.specs.declared.domain.DomainKind.{DomainKind}
use Rattle.asm_value.specs.declared.domain.DomainKind.TheVariants as kind
use Rattle.asm_syntax.specs.declared.tree.TermTree.{TermTree}
use Rattle.asm_syntax.specs.Extents.{extent}
use Rattle.asm_typing.specs.Domains.{type_of}
use Rattle.asm_typing.specs.Fits.{fits}
use Rattle.asm_program.specs.declared.named.Named.TheVariants as named
use Rattle.asm_program.specs.declared.type_refusal.TypeRefusal.{TypeRefusal}
use Rattle.asm_program.specs.declared.type_refusal.TypeRefusal.TheVariants.{Mismatch}
use Rattle.asm_program.specs.declared.checked.CheckedTerm.{CheckedTerm}
use Rattle.asm_program.specs.declared.program.FunctionInfo.{FunctionInfo}
use Rattle.asm_program.specs.declared.program.Program.{Program}
use Rattle.asm_program.specs.Counts.{term_depth, term_work}
use Rattle.asm_program.specs.Items.{term_items}
use Rattle.asm_program.specs.Signatures.{Names, Header}
use Rattle.asm_program.specs.NamesPass.{names_refused}
use Rattle.asm_program.specs.DomainsPass.{domains_refused}
use Rattle.asm_program.specs.TypedTerms.{Scope, Checked, or_else, unless, checked}
use Rattle.asm_program.specs.Typed.{depth_refused, work_refused}

-- ---- what a program declares

abbrev pub literals_from : ℕ → ℕ → List (List ℕ) → Names
literals_from d i [] = []
literals_from d i (name ∷ names) = (name, named.Literal d i) ∷ literals_from d (i + 1) names

-- constants are functions
abbrev pub info_names : ℕ → List ℕ → DomainKind → Names
info_names d name (kind.Enum names) = (name, named.Enum d) ∷ literals_from d 0 names
info_names d name (kind.Abstract names) = (name, named.Abstract d) ∷ []
info_names d name (kind.Subset numbers) = (name, named.Subset d) ∷ []

abbrev pub domain_names : ℕ → List DomainInfo → Names
domain_names d [] = []
domain_names d (info ∷ infos) = info_names d info.name info.kind ++ domain_names (d + 1) infos

abbrev pub function_names : ℕ → List FunctionInfo → Names
function_names f [] = []
function_names f (info ∷ infos) = (info.name, named.Function f) ∷ function_names (f + 1) infos

abbrev pub header_of : FunctionInfo → Header
header_of info = record { kind = info.kind; args = info.args; result = info.result }

-- no term names a macro rule
abbrev pub scope_of_program : Program → Scope
scope_of_program p = record {
  names = domain_names 0 p.domains ++ function_names 0 p.functions;
  domains = p.domains;
  functions = map header_of p.functions;
  macros = [];
}

-- ---- the term

abbrev pub checked_alone : Program → TermTree → Checked
checked_alone p t = checked (scope_of_program p) t []

abbrev pub is_wanted : Option Domain → Checked → List TypeRefusal
is_wanted None c = []
is_wanted (Some d) c = unless (fits c.type (type_of d)) (Mismatch c.span)

-- all refusals, pass by pass, where a domain may be wanted; what counts is placed at the first token
abbrev pub term_refused : Program → Option Domain → TermTree → List TypeRefusal
term_refused p wanted t =
    let c = checked_alone p t in
    names_refused (term_items t)
    ++ domains_refused [] (scope_of_program p).names (term_items t)
    ++ or_else c.refused (is_wanted wanted c)
    ++ depth_refused (term_depth p.functions c.term) (extent t)
    ++ work_refused (term_work p.domains p.functions c.term) (extent t)

-- the tree's term with its work, and the byte of its text at which it begins
abbrev pub checked_term : Program → TermTree → CheckedTerm
checked_term p t = record {
  term = (checked_alone p t).term;
  work = term_work p.domains p.functions (checked_alone p t).term;
  start = (extent t).start;
}
