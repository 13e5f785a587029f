-- The parts of a text one after the other.
use Rattle.std.proofs.Common.{◌≡◌, ℕ, ◌+◌, ◌<◌, ◌≤◌, Bool, true, false, ◌&&◌, Option, Some, None, Result, Ok, Err, List, [], ◌∷◌, ◌++◌, length, drop, get_or, refl, sym, ap, ◌∙◌, subst, arith, slice_set}
use Rattle.std.proofs.lemmas.List.{append-nil, drop_all, drop_more}
use Rattle.std.specs.Option.{option_map_or}
use Rattle.asm_syntax.specs.declared.token.Span.{Span}
use Rattle.asm_syntax.specs.declared.token.Token.{Token}
use Rattle.asm_syntax.specs.declared.tree.ParamsTree.{ParamsTree}
use Rattle.asm_syntax.specs.declared.tree.IntTree.{IntTree}
use Rattle.asm_syntax.specs.declared.tree.TermTree.{TermTree}
use Rattle.asm_syntax.specs.declared.tree.RuleTree.{RuleTree}
use Rattle.asm_syntax.specs.declared.tree.DefTree.{DefTree}
use Rattle.asm_syntax.specs.declared.tree.DefTree.TheVariants as def
use Rattle.asm_syntax.specs.declared.tree.StartTree.{StartTree}
use Rattle.asm_syntax.specs.Marks.{text_of}
use Rattle.asm_typing.specs.Domains.{type_of}
use Rattle.asm_typing.specs.Fits.{fits}
use Rattle.asm_program.specs.declared.named.Named.{Named}
use Rattle.asm_program.specs.declared.named.Named.TheVariants as named
use Rattle.asm_program.specs.declared.trees.Term.{Term}
use Rattle.asm_program.specs.declared.program.MacroInfo.{MacroInfo}
use Rattle.asm_program.specs.declared.program.InitInfo.{InitInfo}
use Rattle.asm_program.specs.declared.program.Inv.{Inv}
use Rattle.asm_program.specs.declared.type_refusal.TypeRefusal.{TypeRefusal}
use Rattle.asm_program.specs.declared.type_refusal.TypeRefusal.TheVariants.{Duplicate, Unknown, Mismatch, Recursive, NotEnumerable, Missing, Limit, TooMuchWork, NoMemory}
use Rattle.asm_program.specs.Checks.{IsFirst, Checks}
use Rattle.asm_program.specs.Items.{list_of_params, invariant_name}
use Rattle.asm_program.specs.Signatures.{Header, find, param_domains}
use Rattle.asm_program.specs.FunctionsPass.{function_at, same_domains}
use Rattle.asm_program.specs.TypedTerms as terms
use Rattle.asm_program.specs.TypedTerms.{Scope, Variables, Checked, or_else, unless, checked}
use Rattle.asm_program.specs.TypedRules.{CheckedRule, checked_rule}
use Rattle.asm_program.specs.TypedModels as models
use Rattle.asm_program.specs.Typed.{number_in, slice_of}
use Rattle.asm_typed.specs.declared.typed.Typed.{Typed}
use Rattle.asm_typed.specs.Answers.{settled, Gives, Passes, done}
use Rattle.asm_typed.specs.Sizes.{with_ranges}
use Rattle.asm_typed.proofs.Refusals.{settled-memory, settled-head, settled-first, settled-rest, settled-parts, settled-own, none-parts, none-append, unless-true, settled-unless, refusal_steps}
use Rattle.asm_typed_rules.specs.declared.typed.TypedRule.{TypedRule}
use Rattle.asm_typed_rules.specs.Forms.{IsRule, GivesRule}
use Rattle.asm_typed_models.specs.Forms.{params_refused, body_at, rule_at, named_by, fits_function, codomain_refused, function_refused, macro_of, subject_refused, subjects_refused, invariant_refused, invariant_of, def_refused, bodies_with, macros_with, chooses_with, invariants_with, takes_args, start_own, start_refused, init_of}

-- ---- what is checked gives the first refusal

from_first : (why : TypeRefusal) (rs : List TypeRefusal) → IsFirst why rs → settled why rs ≡ why
unfolding settled
from_first (Duplicate name span) [] h = absurd (cc h)
from_first (Duplicate name span) (r ∷ rs) h = cc h
from_first (Unknown name span) [] h = absurd (cc h)
from_first (Unknown name span) (r ∷ rs) h = cc h
from_first (Mismatch span) [] h = absurd (cc h)
from_first (Mismatch span) (r ∷ rs) h = cc h
from_first (Recursive name span) [] h = absurd (cc h)
from_first (Recursive name span) (r ∷ rs) h = cc h
from_first (NotEnumerable span) [] h = absurd (cc h)
from_first (NotEnumerable span) (r ∷ rs) h = cc h
from_first (Missing name span) [] h = absurd (cc h)
from_first (Missing name span) (r ∷ rs) h = cc h
from_first (Limit kind n span) [] h = absurd (cc h)
from_first (Limit kind n span) (r ∷ rs) h = cc h
from_first (TooMuchWork n span) [] h = absurd (cc h)
from_first (TooMuchWork n span) (r ∷ rs) h = cc h
from_first NoMemory rs h = refl

checks-gives : {A : Type 0} (result : Result A TypeRefusal) (rs : List TypeRefusal) (Is : A → Type 0) → Checks result rs Is → Gives result rs Is
checks-gives (Ok value) rs Is h = h
checks-gives (Err why) rs Is h = from_first why rs h

checks-passes : (result : Result (Unit {0}) TypeRefusal) (rs : List TypeRefusal) → Checks result rs (λ _. Unit {0}) → Passes result rs
checks-passes (Ok u) rs h = h.0
checks-passes (Err why) rs h = from_first why rs h

-- the domains of parameters are enumerable
pub params-passed : (result : Result (Unit {0}) TypeRefusal) (scope : Scope) (params : Option ParamsTree)
    → Checks result (terms.ranges_refused scope (list_of_params params)) (λ _. Unit {0}) → Passes result (params_refused scope params)
unfolding params_refused
params-passed result scope params h = checks-passes result (terms.ranges_refused scope (list_of_params params)) h

pub body-is : (scope : Scope) (params : Option ParamsTree) (t : TermTree) (vs : Variables) → vs ≡ with_ranges scope [] (list_of_params params)
    → checked scope t vs ≡ body_at scope params t
unfolding body_at with_ranges
body-is scope params t vs e = ap (checked scope t) e

rule-is : (scope : Scope) (params : Option ParamsTree) (t : RuleTree) (vs : Variables) → vs ≡ with_ranges scope [] (list_of_params params)
    → checked_rule scope t vs ≡ rule_at scope params t
unfolding rule_at with_ranges
rule-is scope params t vs e = ap (checked_rule scope t) e

pub rule-given : (result : Result TypedRule TypeRefusal) (scope : Scope) (params : Option ParamsTree) (t : RuleTree) (vs : Variables) (n : ℕ)
    → vs ≡ with_ranges scope [] (list_of_params params)
    → Checks result (checked_rule scope t vs).refused (λ r. IsRule r (checked_rule scope t vs) n) → GivesRule result (rule_at scope params t) n
rule-given result scope params t vs n e h =
    subst (λ (c : CheckedRule). GivesRule result c n) (rule-is scope params t vs e)
    (checks-gives result (checked_rule scope t vs).refused (λ r. IsRule r (checked_rule scope t vs) n) h)

pub ruleset refusals = (refusal_steps)

pub ruleset body_steps = (refusal_steps, body-is)

-- ---- functions

module _ (scope : Scope) (meant : Option Named) (c : Checked) where
  abbrev in_header : Option Header → Bool
  in_header o = option_map_or (λ h. fits c.type (type_of h.result)) o true

  pub fits-some : (h : Header) → Some h ≡ function_at scope.functions meant → fits_function scope meant c ≡ fits c.type (type_of h.result)
  unfolding fits_function
  fits-some h e = ap in_header (sym e)

  pub fits-none : None ≡ function_at scope.functions meant → fits_function scope meant c ≡ true
  unfolding fits_function
  fits-none e = ap in_header (sym e)

  pub fits-found : (b : Bool) (h : Header) → b ≡ fits c.type (type_of h.result)
      → Some h ≡ function_at scope.functions meant → b ≡ fits_function scope meant c
  fits-found b h w e = w ∙ sym (fits-some h e)

pub ruleset codomain_steps = (fits-found, fits-some, fits-none)

module _ (scope : Scope) (name : Token) (c : Checked) where
  function-parts : function_refused scope name c ≡ or_else c.refused (codomain_refused scope (named_by scope name) c)
  unfolding function_refused codomain_refused fits_function named_by
  function-parts = refl

  abbrev own : List TypeRefusal
  own = codomain_refused scope (named_by scope name) c

  pub function-first : (why : TypeRefusal) → settled why c.refused ≡ why → settled why (function_refused scope name c) ≡ why
  function-first why h = ap (settled why) function-parts ∙ settled-parts why c.refused own h

  pub function-own : (why : TypeRefusal) → c.refused ≡ [] → settled why own ≡ why → settled why (function_refused scope name c) ≡ why
  function-own why e h = ap (settled why) function-parts ∙ settled-own why c.refused own e h

  pub function-none : c.refused ≡ [] → own ≡ [] → function_refused scope name c ≡ []
  function-none e h = function-parts ∙ none-parts c.refused own e h

pub ruleset function_steps = (settled-memory, function-first, function-own, function-none)

-- ---- invariants

subject-is : (scope : Scope) (t : Token) (meant : Option Named) → models.subject_refused scope t meant ≡ subject_refused t meant
unfolding subject_refused
subject-is scope t None = refl
subject-is scope t (Some (named.Enum d)) = refl
subject-is scope t (Some (named.Abstract d)) = refl
subject-is scope t (Some (named.Subset d)) = refl
subject-is scope t (Some (named.Literal d i)) = refl
subject-is scope t (Some (named.Function f)) = refl
subject-is scope t (Some (named.Macro m)) = refl
subject-is scope t (Some named.Main) = refl

module _ (scope : Scope) where
  abbrev one : Token → List TypeRefusal
  one t = subject_refused t (named_by scope t)

  subjects-cons : (t : Token) (ts : List Token) → subjects_refused scope (t ∷ ts) ≡ one t ++ subjects_refused scope ts
  unfolding subjects_refused named_by
  subjects-cons t ts = ap (λ rs. rs ++ models.subjects_refused scope ts) (subject-is scope t (find scope.names (text_of t)))

  pub subjects-first : (why : TypeRefusal) (t : Token) (ts : List Token) → settled why (one t) ≡ why → settled why (subjects_refused scope (t ∷ ts)) ≡ why
  subjects-first why t ts h = ap (settled why) (subjects-cons t ts) ∙ settled-first why (one t) (subjects_refused scope ts) h

  pub subjects-rest : (t : Token) (ts : List Token) → one t ≡ [] → subjects_refused scope (t ∷ ts) ≡ subjects_refused scope ts
  subjects-rest t ts h = subjects-cons t ts ∙ ap (λ rs. rs ++ subjects_refused scope ts) h

  pub subjects-next : (ts : List Token) (i : ℕ) (d : Token) → i < length ts → one (get_or ts i d) ≡ []
      → subjects_refused scope (drop (i + 1) ts) ≡ subjects_refused scope (drop i ts)
  subjects-next ts i d l h = sym (ap (subjects_refused scope) (drop_more ts i d l) ∙ subjects-rest (get_or ts i d) (drop (i + 1) ts) h)

  pub subjects-stop : (why : TypeRefusal) (ts : List Token) (i : ℕ) (d : Token) → i < length ts → settled why (one (get_or ts i d)) ≡ why
      → settled why (subjects_refused scope (drop i ts)) ≡ why
  subjects-stop why ts i d l h =
      ap (λ us. settled why (subjects_refused scope us)) (drop_more ts i d l) ∙ subjects-first why (get_or ts i d) (drop (i + 1) ts) h

  pub subjects-end : (ts : List Token) (i : ℕ) → length ts ≤ i → subjects_refused scope (drop i ts) ≡ []
  unfolding subjects_refused
  subjects-end ts i l = ap (models.subjects_refused scope) (drop_all i ts l)

pub ruleset subjects_steps = (settled-memory, subjects-first, subjects-rest, subjects-next, subjects-stop, subjects-end)

pub invariant-made : (i : Inv) (text : List ℕ) (name : Option Token) (c : Checked) (k : ℕ) (n : List ℕ) (t : Typed) → done t ≡ c
    → n ≡ invariant_name k name → i.name ≡ n → i.added ≡ false → i.source ≡ slice_of text t.span → i.term ≡ t.term → i ≡ invariant_of text name c k
invariant-made i text name c k n t is m a b s e =
    (λ j. record { name = (a ∙ m) j; added = b j; source = s j; term = e j })
    ∙ ap (λ (x : Checked). invariant_of text name x k) is

pub ruleset invariant_steps = (settled-memory, invariant-made)

-- ---- one definition

module _ (scope : Scope) (name : Token) (from to : IntTree) (span : Span) where
  abbrev interval : DefTree
  interval = def.Interval name from to span

  pub refused-interval : def_refused scope interval ≡ []
  unfolding def_refused
  refused-interval = refl

  pub bodies-interval : (bs : List (Option Term)) → bodies_with scope bs (interval ∷ []) ≡ bs
  unfolding bodies_with
  bodies-interval bs = refl

  pub macros-interval : (ms : List MacroInfo) (n : ℕ) → macros_with scope ms n (interval ∷ []) ≡ ms
  unfolding macros_with
  macros-interval ms n = append-nil ms

  pub chooses-interval : (n : ℕ) → chooses_with scope n (interval ∷ []) ≡ n
  unfolding chooses_with
  chooses-interval n = omega arith

  pub invariants-interval : (text : List ℕ) (is : List Inv) → invariants_with text scope is (interval ∷ []) ≡ is
  unfolding invariants_with
  invariants-interval text is = append-nil is

module _ (scope : Scope) (name : Token) (first : IntTree) (others : List IntTree) (span : Span) where
  abbrev integers : DefTree
  integers = def.Integers name first others span

  pub refused-integers : def_refused scope integers ≡ []
  unfolding def_refused
  refused-integers = refl

  pub bodies-integers : (bs : List (Option Term)) → bodies_with scope bs (integers ∷ []) ≡ bs
  unfolding bodies_with
  bodies-integers bs = refl

  pub macros-integers : (ms : List MacroInfo) (n : ℕ) → macros_with scope ms n (integers ∷ []) ≡ ms
  unfolding macros_with
  macros-integers ms n = append-nil ms

  pub chooses-integers : (n : ℕ) → chooses_with scope n (integers ∷ []) ≡ n
  unfolding chooses_with
  chooses-integers n = omega arith

  pub invariants-integers : (text : List ℕ) (is : List Inv) → invariants_with text scope is (integers ∷ []) ≡ is
  unfolding invariants_with
  invariants-integers text is = append-nil is

module _ (scope : Scope) (name : Token) (params : Option ParamsTree) (term : TermTree) (span : Span) where
  abbrev function : DefTree
  function = def.Function name params term span

  pub refused-function : def_refused scope function ≡ function_refused scope name (body_at scope params term)
  unfolding def_refused function_refused body_at
  refused-function = refl

  pub bodies-function : (bs : List (Option Term))
      → bodies_with scope bs (function ∷ []) ≡ slice_set bs (number_in (named_by scope name)) (Some (body_at scope params term).term)
  unfolding bodies_with
  bodies-function bs = refl

  pub macros-function : (ms : List MacroInfo) (n : ℕ) → macros_with scope ms n (function ∷ []) ≡ ms
  unfolding macros_with
  macros-function ms n = append-nil ms

  pub chooses-function : (n : ℕ) → chooses_with scope n (function ∷ []) ≡ n
  unfolding chooses_with
  chooses-function n = omega arith

  pub invariants-function : (text : List ℕ) (is : List Inv) → invariants_with text scope is (function ∷ []) ≡ is
  unfolding invariants_with
  invariants-function text is = append-nil is

module _ (scope : Scope) (name : Token) (params : Option ParamsTree) (body : RuleTree) (span : Span) where
  abbrev rule : DefTree
  rule = def.Rule name params body span

  pub refused-rule : def_refused scope rule ≡ (rule_at scope params body).refused
  unfolding def_refused rule_at
  refused-rule = refl

  pub bodies-rule : (bs : List (Option Term)) → bodies_with scope bs (rule ∷ []) ≡ bs
  unfolding bodies_with
  bodies-rule bs = refl

  pub macros-rule : (ms : List MacroInfo) (n : ℕ) → macros_with scope ms n (rule ∷ []) ≡ ms ++ macro_of scope name params (rule_at scope params body) n ∷ []
  unfolding macros_with rule_at
  macros-rule ms n = refl

  pub chooses-rule : (n : ℕ) → chooses_with scope n (rule ∷ []) ≡ n + (rule_at scope params body).chooses
  unfolding chooses_with rule_at
  chooses-rule n = omega arith

  pub invariants-rule : (text : List ℕ) (is : List Inv) → invariants_with text scope is (rule ∷ []) ≡ is
  unfolding invariants_with
  invariants-rule text is = append-nil is

pub macro-made : (m : MacroInfo) (scope : Scope) (name : Token) (params : Option ParamsTree) (c : CheckedRule) (n : ℕ)
    → m.name ≡ text_of name → m.params ≡ param_domains scope.names params → m.body ≡ c.rule n → m ≡ macro_of scope name params c n
macro-made m scope name params c n a p b = λ j. record { name = a j; params = p j; body = b j }

module _ (scope : Scope) (name : Option Token) (first : Token) (others : List Token) (term : TermTree) (span : Span) where
  abbrev invariant : DefTree
  invariant = def.Invariant name first others term span

  abbrev of_subjects : List TypeRefusal
  of_subjects = subjects_refused scope (first ∷ others)

  abbrev of_term : List TypeRefusal
  of_term = invariant_refused (checked scope term [])

  invariant-parts : def_refused scope invariant ≡ of_subjects ++ of_term
  unfolding def_refused subjects_refused invariant_refused
  invariant-parts = refl

  pub invariant-subjects : (why : TypeRefusal) → settled why of_subjects ≡ why → settled why (def_refused scope invariant) ≡ why
  invariant-subjects why h = ap (settled why) invariant-parts ∙ settled-first why of_subjects of_term h

  pub invariant-term : of_subjects ≡ [] → def_refused scope invariant ≡ of_term
  invariant-term h = invariant-parts ∙ ap (λ rs. rs ++ of_term) h

  pub bodies-invariant : (bs : List (Option Term)) → bodies_with scope bs (invariant ∷ []) ≡ bs
  unfolding bodies_with
  bodies-invariant bs = refl

  pub macros-invariant : (ms : List MacroInfo) (n : ℕ) → macros_with scope ms n (invariant ∷ []) ≡ ms
  unfolding macros_with
  macros-invariant ms n = append-nil ms

  pub chooses-invariant : (n : ℕ) → chooses_with scope n (invariant ∷ []) ≡ n
  unfolding chooses_with
  chooses-invariant n = omega arith

  pub invariants-invariant : (text : List ℕ) (is : List Inv)
      → invariants_with text scope is (invariant ∷ []) ≡ is ++ invariant_of text name (checked scope term []) (length is + 1) ∷ []
  unfolding invariants_with
  invariants-invariant text is = refl

pub ruleset macro_steps = (settled-memory, macro-made)

pub ruleset def_steps =
    (settled-memory, refused-interval, bodies-interval, macros-interval, chooses-interval, invariants-interval, refused-integers, bodies-integers, macros-integers, chooses-integers, invariants-integers, refused-function, bodies-function, macros-function, chooses-function, invariants-function, refused-rule, bodies-rule, macros-rule, chooses-rule, invariants-rule, invariant-subjects, invariant-term, bodies-invariant, macros-invariant, chooses-invariant, invariants-invariant)

-- ---- the initial state

module _ (scope : Scope) (meant : Option Named) (params : Option ParamsTree) where
  abbrev by_header : Option Header → Bool
  by_header o = option_map_or (λ h. same_domains (param_domains scope.names params) h.args) o true

  pub args-some : (h : Header) → Some h ≡ function_at scope.functions meant → takes_args scope meant params ≡ same_domains (param_domains scope.names params) h.args
  unfolding takes_args
  args-some h e = ap by_header (sym e)

  pub args-none : None ≡ function_at scope.functions meant → takes_args scope meant params ≡ true
  unfolding takes_args
  args-none e = ap by_header (sym e)

pub ruleset args_steps = (args-some, args-none)

module _ (scope : Scope) (s : StartTree) (c : Checked) where
  abbrev takes : Bool
  takes = takes_args scope (named_by scope s.function) s.params

  own-is : start_own scope s c ≡ unless (takes && models.fits_codomain scope s.function c) (Mismatch c.span)
  unfolding start_own takes_args named_by
  own-is = refl

  pub own-args : (why : TypeRefusal) → why ≡ Mismatch c.span → takes ≡ false → settled why (start_own scope s c) ≡ why
  own-args why w e =
      ap (λ x. settled x (start_own scope s c)) w
      ∙ ap (settled (Mismatch c.span)) (own-is ∙ ap (λ b. unless (b && models.fits_codomain scope s.function c) (Mismatch c.span)) e)
      ∙ settled-head (Mismatch c.span) []
      ∙ sym w

  pub own-rest : takes ≡ true → start_own scope s c ≡ codomain_refused scope (named_by scope s.function) c
  unfolding codomain_refused fits_function named_by
  own-rest e = own-is ∙ ap (λ b. unless (b && models.fits_codomain scope s.function c) (Mismatch c.span)) e

pub ruleset own_steps = (settled-memory, own-args, own-rest)

module _ (scope : Scope) (s : StartTree) where
  abbrev body : Checked
  body = body_at scope s.params s.term

  start-parts : start_refused scope s ≡ params_refused scope s.params ++ or_else body.refused (start_own scope s body)
  unfolding start_refused params_refused body_at start_own
  start-parts = refl

  abbrev of_params : List TypeRefusal
  of_params = params_refused scope s.params

  abbrev of_own : List TypeRefusal
  of_own = start_own scope s body

  pub start-params : (why : TypeRefusal) → settled why of_params ≡ why → settled why (start_refused scope s) ≡ why
  start-params why h = ap (settled why) start-parts ∙ settled-first why of_params (or_else body.refused of_own) h

  pub start-body : (why : TypeRefusal) → of_params ≡ [] → settled why body.refused ≡ why → settled why (start_refused scope s) ≡ why
  start-body why e h =
      ap (settled why) start-parts
      ∙ settled-rest why of_params (or_else body.refused of_own) e (settled-parts why body.refused of_own h)

  pub start-own : (why : TypeRefusal) → of_params ≡ [] → body.refused ≡ [] → settled why of_own ≡ why → settled why (start_refused scope s) ≡ why
  start-own why e f h =
      ap (settled why) start-parts
      ∙ settled-rest why of_params (or_else body.refused of_own) e (settled-own why body.refused of_own f h)

  pub start-none : of_params ≡ [] → body.refused ≡ [] → of_own ≡ [] → start_refused scope s ≡ []
  start-none e f h =
      start-parts ∙ none-append of_params (or_else body.refused of_own) e (none-parts body.refused of_own f h)

  pub init-made : (i : InitInfo) (t : Typed) → done t ≡ body → i.function ≡ number_in (named_by scope s.function) → i.body ≡ t.term → i.span ≡ t.span
      → i ≡ init_of scope s
  unfolding init_of body_at named_by
  init-made i t is f b p =
      (λ j. record { function = f j; body = b j; span = p j })
      ∙ ap (λ (c : Checked). record { function = number_in (find scope.names (text_of s.function)); body = c.term; span = c.span }) is

  pub start-made : (i : InitInfo) (t : Typed) → of_params ≡ [] → body.refused ≡ []
      → done t ≡ body → start_own scope s (done t) ≡ []
      → i.function ≡ number_in (named_by scope s.function) → i.body ≡ t.term → i.span ≡ t.span
      → (start_refused scope s ≡ []) × (i ≡ init_of scope s)
  start-made i t e f is h a b p =
      (start-none e f (subst (λ c. start_own scope s c ≡ []) is h), init-made i t is a b p)

pub ruleset start_steps = (settled-memory, start-params, start-body, start-own, start-made)
