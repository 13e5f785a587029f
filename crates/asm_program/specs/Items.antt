-- What a text is made of, in text order, as far as names go: what is declared, what is counted, and
-- which names are used for domains, functions and macro rules.
use Rattle.std.specs.Prelude.{ℕ, ◌+◌, Bool, true, false, ◌&&◌, ◌==◌, if◌then◌else◌, Option, Some, None, List, [], ◌∷◌, ◌++◌, map, codes, decimal}
use Rattle.std.specs.List.{list_any}
use Rattle.std.specs.Str.{bytes_eq}
use Rattle.asm_syntax.specs.declared.token.Span.{Span}
use Rattle.asm_syntax.specs.declared.token.Token.{Token}
use Rattle.asm_syntax.specs.declared.tree.DomainTree.{DomainTree}
use Rattle.asm_syntax.specs.declared.tree.DomainTree.TheOpen.{DomainTree-F}
use Rattle.asm_syntax.specs.declared.tree.DomainTree.TheFolds.{fold-DomainTree}
use Rattle.asm_syntax.specs.declared.tree.RangeTree.{RangeTree}
use Rattle.asm_syntax.specs.declared.tree.RangesTree.{RangesTree}
use Rattle.asm_syntax.specs.declared.tree.ParamsTree.{ParamsTree}
use Rattle.asm_syntax.specs.declared.tree.IntTree.{IntTree}
use Rattle.asm_syntax.specs.declared.tree.TermTree.{TermTree}
use Rattle.asm_syntax.specs.declared.tree.TermTree.TheOpen.{TermTree-F, BindTree-F, BindsTree-F, CaseTree-F, TermsTree-F}
use Rattle.asm_syntax.specs.declared.tree.TermTree.TheFolds.{fold-TermTree}
use Rattle.asm_syntax.specs.declared.tree.TermTree.TheViews.{out-BindTree, out-BindsTree, out-TermsTree}
use Rattle.asm_syntax.specs.declared.tree.BindsTree.{BindsTree}
use Rattle.asm_syntax.specs.declared.tree.BindTree.{BindTree}
use Rattle.asm_syntax.specs.declared.tree.TermsTree.{TermsTree}
use Rattle.asm_syntax.specs.declared.tree.RuleTree.{RuleTree}
use Rattle.asm_syntax.specs.declared.tree.RuleTree.TheOpen.{RuleTree-F, RuleCaseTree-F}
use Rattle.asm_syntax.specs.declared.tree.RuleTree.TheFolds.{fold-RuleTree}
use Rattle.asm_syntax.specs.declared.tree.DeclTree.{DeclTree}
use Rattle.asm_syntax.specs.declared.tree.DeclTree.TheVariants as decls
use Rattle.asm_syntax.specs.declared.tree.DefTree.{DefTree}
use Rattle.asm_syntax.specs.declared.tree.DefTree.TheVariants as defs
use Rattle.asm_syntax.specs.declared.tree.StartTree.{StartTree}
use Rattle.asm_syntax.specs.declared.tree.InitTree.{InitTree}
use Rattle.asm_syntax.specs.declared.tree.ModelTree.{ModelTree}
use Rattle.asm_syntax.specs.Marks.{text_of}
use Rattle.asm_syntax.specs.Extents.{extent}
use Rattle.asm_program.specs.declared.type_refusal.Limited.{Limited}
use Rattle.asm_program.specs.declared.type_refusal.Limited.TheVariants as limited
use Rattle.asm_program.specs.Forms.{optional}

pub data Item : Type 0 where
  -- one more domain, function, macro rule or invariant
  Counts : Limited → Span → Item
  -- a name of the one name space, or of that of invariants
  Declares : List ℕ → Span → Item
  DeclaresInvariant : List ℕ → Span → Item
  -- the first part past a limit that counts within one form
  Exceeds : Limited → ℕ → Span → Item
  -- a variable that its list has already
  Repeats : Token → Item
  NamesDomain : Token → Item
  -- a subset is declared; its integers are given
  NeedsIntegers : Token → Span → Item
  GivesInterval : Token → IntTree → IntTree → Item
  GivesIntegers : Token → List IntTree → Item
  -- a name in a term, and one before `[`
  NamesFunction : Token → Item
  NamesMacro : Token → Item

abbrev pub Items : Type 0
Items = List Item

-- the extent of a part and its items
abbrev pub Part : Type 0
Part = Span × Items

-- ---- numbered parts

-- the ninth of some parts is the first past their limit
abbrev pub ninth : ℕ → Span → Items
ninth n span = if n == 9 then Exceeds limited.Parts 9 span ∷ [] else []

abbrev pub numbered_from : ℕ → List Part → Items
numbered_from n [] = []
numbered_from n (p ∷ ps) = ninth n p.0 ++ p.1 ++ numbered_from (n + 1) ps

abbrev pub numbered : List Part → Items
numbered = numbered_from 1

abbrev pub all_items : List Part → Items
all_items [] = []
all_items (p ∷ ps) = p.1 ++ all_items ps

-- ---- domains

abbrev pub domain_level : DomainTree-F Part → Part
domain_level (DomainTree-F.Truth span) = (span, [])
domain_level (DomainTree-F.Int span) = (span, [])
domain_level (DomainTree-F.Nat span) = (span, [])
domain_level (DomainTree-F.Chars span) = (span, [])
domain_level (DomainTree-F.Named name span) = (span, NamesDomain name ∷ [])
domain_level (DomainTree-F.Prod first second others span) =
    (span, numbered (first ∷ second ∷ others))
domain_level (DomainTree-F.Seq item span) = (span, item.1)
domain_level (DomainTree-F.Powerset item span) = (span, item.1)

unfoldable pub domain_part : DomainTree → Part
domain_part = fold-DomainTree Part domain_level

abbrev pub domain_items : DomainTree → Items
domain_items d = (domain_part d).1

-- ---- variables

-- a variable of a list in which these are before it
abbrev pub repeated : List (List ℕ) → Token → Items
repeated seen t = if list_any (bytes_eq (text_of t)) seen then Repeats t ∷ [] else []

abbrev pub repeated_among : List (List ℕ) → List Token → Items
repeated_among seen [] = []
repeated_among seen (t ∷ ts) = repeated seen t ++ repeated_among (text_of t ∷ seen) ts

-- each range's variable and domain
abbrev pub range_items : List (List ℕ) → List RangeTree → Items
range_items seen [] = []
range_items seen (r ∷ rs) =
    repeated seen r.variable ++ domain_items r.domain
    ++ range_items (text_of r.variable ∷ seen) rs

abbrev pub list_of_ranges : RangesTree → List RangeTree
list_of_ranges r = r.first ∷ r.others

abbrev pub ranges_items : RangesTree → Items
ranges_items r = range_items [] (list_of_ranges r)

-- parameters are ranges of which there may be eight
abbrev pub param_items : ℕ → List (List ℕ) → List RangeTree → Items
param_items n seen [] = []
param_items n seen (r ∷ rs) =
    repeated seen r.variable ++ ninth n r.variable.span ++ domain_items r.domain
    ++ param_items (n + 1) (text_of r.variable ∷ seen) rs

abbrev pub list_of_params : Option ParamsTree → List RangeTree
list_of_params None = []
list_of_params (Some p) = list_of_ranges p.ranges

abbrev pub params_items : Option ParamsTree → Items
params_items params = param_items 1 [] (list_of_params params)

-- ---- terms

abbrev pub binds_from : List (List ℕ) → List (Token × Part) → Items
binds_from seen [] = []
binds_from seen (b ∷ bs) = repeated seen b.0 ++ b.1.1 ++ binds_from (text_of b.0 ∷ seen) bs

abbrev pub cases_items : List (Part × Part) → Items
cases_items [] = []
cases_items (c ∷ cs) = c.0.1 ++ c.1.1 ++ cases_items cs

abbrev pub optional_items : Option Part → Items
optional_items None = []
optional_items (Some p) = p.1

abbrev pub args_items : Option (List Part) → Items
args_items None = []
args_items (Some ps) = numbered ps

abbrev pub listed_items : Option (List Part) → Items
listed_items None = []
listed_items (Some ps) = all_items ps

abbrev pub Level : Type 0
Level = TermTree-F Part (Token × Part) (List (Token × Part)) (Part × Part) (List Part)

abbrev pub term_level : Level → Part
term_level (TermTree-F.Prefix op t span) = (span, t.1)
term_level (TermTree-F.Binary left op right span) = (span, left.1 ++ right.1)
term_level (TermTree-F.Number t span) = (span, [])
term_level (TermTree-F.Chars t span) = (span, [])
term_level (TermTree-F.True span) = (span, [])
term_level (TermTree-F.False span) = (span, [])
term_level (TermTree-F.Undef span) = (span, [])
term_level (TermTree-F.Var t span) = (span, [])
term_level (TermTree-F.Name t args span) = (span, NamesFunction t ∷ args_items args)
term_level (TermTree-F.Tuple items span) = (span, numbered items)
term_level (TermTree-F.Forall ranges body span) = (span, ranges_items ranges ++ body.1)
term_level (TermTree-F.Exist unique ranges body span) = (span, ranges_items ranges ++ body.1)
term_level (TermTree-F.Interval from to span) = (span, from.1 ++ to.1)
term_level (TermTree-F.Set items span) = (span, listed_items items)
term_level (TermTree-F.Seq items span) = (span, listed_items items)
term_level (TermTree-F.If guard first other span) =
    (span, guard.1 ++ first.1 ++ optional_items other)
term_level (TermTree-F.Let binds body span) = (span, binds_from [] binds ++ body.1)
term_level (TermTree-F.Switch t cases other span) =
    (span, t.1 ++ cases_items cases ++ optional_items other)

abbrev pub bind_level : {A B C D E : Type 0} → BindTree-F A B C D E → Token × A
bind_level b = (b.variable, b.value)

abbrev pub binds_level : {A B C D E : Type 0} → BindsTree-F A B C D E → List B
binds_level b = b.first ∷ b.others

abbrev pub case_level : {A B C D E : Type 0} → CaseTree-F A B C D E → A × A
case_level c = (c.value, c.term)

abbrev pub terms_level : {A B C D E : Type 0} → TermsTree-F A B C D E → List A
terms_level t = t.first ∷ t.others

unfoldable pub term_part : TermTree → Part
term_part =
    fold-TermTree Part (Token × Part) (List (Token × Part)) (Part × Part) (List Part)
    term_level bind_level binds_level case_level terms_level

abbrev pub term_items : TermTree → Items
term_items t = (term_part t).1

-- ---- rules

abbrev pub listed_terms : TermsTree → List TermTree
listed_terms ts = terms_level (out-TermsTree ts)

abbrev pub terms_of : Option TermsTree → List TermTree
terms_of None = []
terms_of (Some ts) = listed_terms ts

abbrev pub some_term_items : Option TermTree → Items
some_term_items None = []
some_term_items (Some t) = term_items t

abbrev pub binds_of : BindsTree → List BindTree
binds_of b = binds_level (out-BindsTree b)

-- a bound variable and its term
abbrev pub bind_of : BindTree → Token × TermTree
bind_of b = bind_level (out-BindTree b)

abbrev pub bind_part : BindTree → Token × Part
bind_part b = ((bind_of b).0, term_part (bind_of b).1)

abbrev pub bound_items : BindsTree → Items
bound_items b = binds_from [] (map bind_part (binds_of b))

abbrev pub joined : List Items → Items
joined [] = []
joined (i ∷ is) = i ++ joined is

abbrev pub some_items : Option Items → Items
some_items None = []
some_items (Some i) = i

abbrev pub rule_level : RuleTree-F Items Items → Items
rule_level (RuleTree-F.Skip span) = []
rule_level (RuleTree-F.Call name args span) =
    NamesMacro name ∷ numbered (map term_part (terms_of args))
rule_level (RuleTree-F.Update name args value span) =
    numbered (map term_part (terms_of args)) ++ term_items value
rule_level (RuleTree-F.Par first others span) = first ++ joined others
rule_level (RuleTree-F.Seq first others span) = first ++ joined others
rule_level (RuleTree-F.If guard first other span) = term_items guard ++ first ++ some_items other
rule_level (RuleTree-F.Forall ranges guard body span) =
    ranges_items ranges ++ some_term_items guard ++ body
rule_level (RuleTree-F.Choose ranges guard body other span) =
    ranges_items ranges ++ some_term_items guard ++ body ++ some_items other
rule_level (RuleTree-F.Let binds body span) = bound_items binds ++ body
rule_level (RuleTree-F.Switch t cases other span) =
    term_items t ++ joined cases ++ some_items other
rule_level (RuleTree-F.Extend name first others body span) =
    repeated_among [] (first ∷ others) ++ body

abbrev pub rule_case_level : RuleCaseTree-F Items Items → Items
rule_case_level c = term_items c.value ++ c.rule

unfoldable pub rule_items : RuleTree → Items
rule_items = fold-RuleTree Items Items rule_level rule_case_level

-- ---- models

abbrev pub declares : Token → Item
declares name = Declares (text_of name) name.span

-- of more than 256 literals the 257th is the first past the limit
abbrev pub literal_items : ℕ → List Token → Items
literal_items n [] = []
literal_items n (t ∷ ts) =
    declares t ∷ (if n == 257 then Exceeds limited.Members 257 t.span ∷ [] else [])
    ++ literal_items (n + 1) ts

abbrev pub next_items : Option DomainTree → Items
next_items None = []
next_items (Some d) = domain_items d

abbrev pub decl_items : DeclTree → Items
decl_items (decls.Enum name first others span) =
    Counts limited.Domains span ∷ declares name ∷ literal_items 1 (first ∷ others)
decl_items (decls.Abstract name span) = Counts limited.Domains span ∷ declares name ∷ []
decl_items (decls.Subset name base span) =
    Counts limited.Domains span ∷ NeedsIntegers name span ∷ declares name ∷ []
decl_items (decls.Defined kind name first next span) =
    Counts limited.Functions span ∷ declares name ∷ domain_items first ++ next_items next
decl_items (decls.Dynamic kind name first next span) =
    Counts limited.Functions span ∷ declares name ∷ domain_items first ++ next_items next

-- without a name, the k-th invariant is `inv_k`, at its word `invariant`
abbrev pub invariant_name : ℕ → Option Token → List ℕ
invariant_name k None = codes "inv_" ++ decimal k
invariant_name k (Some name) = text_of name

abbrev pub invariant_items : ℕ → Option Token → Span → Items
invariant_items k None span =
    DeclaresInvariant (invariant_name k None) span ∷ Counts limited.Invariants span ∷ []
invariant_items k (Some name) span =
    Counts limited.Invariants span ∷ DeclaresInvariant (text_of name) name.span ∷ []

-- the definitions, of which the k-th invariant comes next
abbrev pub defs_items : ℕ → List DefTree → Items
defs_items k [] = []
defs_items k (defs.Interval name from to span ∷ ds) = GivesInterval name from to ∷ defs_items k ds
defs_items k (defs.Integers name first others span ∷ ds) =
    GivesIntegers name (first ∷ others) ∷ defs_items k ds
defs_items k (defs.Function name params term span ∷ ds) =
    params_items params ++ term_items term ++ defs_items k ds
defs_items k (defs.Rule name params body span ∷ ds) =
    Counts limited.Macros span ∷ declares name ∷ params_items params ++ rule_items body
    ++ defs_items k ds
defs_items k (defs.Invariant name first others term span ∷ ds) =
    invariant_items k name span ++ term_items term ++ defs_items (k + 1) ds

abbrev pub start_items : List StartTree → Items
start_items [] = []
start_items (s ∷ ss) = params_items s.params ++ term_items s.term ++ start_items ss

abbrev pub starts_of : Option InitTree → List StartTree
starts_of None = []
starts_of (Some init) = init.starts

abbrev pub model_items : ModelTree → Items
model_items tree =
    joined (map decl_items tree.decls) ++ defs_items 1 tree.defs
    ++ Counts limited.Macros tree.main ∷ declares tree.rule_name ∷ rule_items tree.rule
    ++ start_items (starts_of tree.init)
