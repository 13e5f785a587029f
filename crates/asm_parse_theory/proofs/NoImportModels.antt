-- The word `import` stands nowhere in a model but before the parts of its imports.
use Rattle.std.proofs.Common.{ℕ, List, [], ◌∷◌, Bool, refl, codes}
use Rattle.asm_grammar.specs.Language.{Language, ◌then◌}
use Rattle.asm_syntax.specs.declared.token.Token.{Token}
use Rattle.asm_syntax.specs.declared.tree.TermTree.{TermTree}
use Rattle.asm_syntax.specs.declared.tree.DeclTree.{DeclTree}
use Rattle.asm_syntax.specs.declared.tree.DeclTree.TheVariants as decls
use Rattle.asm_syntax.specs.declared.tree.DefTree.{DefTree}
use Rattle.asm_syntax.specs.declared.tree.DefTree.TheVariants as defs
use Rattle.asm_syntax.specs.Marks.{id, keyword, symbol, text_of}
use Rattle.asm_syntax.specs.Forms.{is_open, second, after_word, after_sign, many}
use Rattle.asm_syntax.specs.Models as g
use Rattle.asm_syntax.specs.Models.{Members, Values, Main}
use Rattle.asm_parse_theory.proofs.Without.{without-then, without-either, without-made, without-maybe}
use Rattle.asm_parse_theory.proofs.WithoutForms.{without_mark, without_one_of, without_after_word, without_after_sign, without_bracketed, without_many, without_listed, without_members, without_formed}
use Rattle.asm_parse_theory.proofs.NoImportTerms.{import_mark, is_import, NoImport, no_id, no_domain, no_params, no_int, no_term}
use Rattle.asm_parse_theory.proofs.NoImportRules.{no_rule}

-- ---- the parts of an import

pub no_part : NoImport g.part
no_part = without_one_of import_mark (symbol (codes ".") ∷ symbol (codes "..") ∷ id ∷ []) refl

pub no_parts : NoImport g.parts
no_parts = without-then is_import no_part (without_many import_mark (without_after_sign import_mark (codes "/") refl no_part))

-- ---- declarations

module _ (n : ℕ) where
  no_enum : NoImport (g.enum n)
  no_enum =
      without_formed import_mark g.enum_of (without_after_word import_mark (codes "enum") refl (without_after_word import_mark (codes "domain") refl
      (without-then is_import no_id (without_after_sign import_mark (codes "=") refl (without_bracketed import_mark (is_open n) (codes "{") (codes "}") refl refl
      (without-then is_import no_id (without_many import_mark (without-made is_import second
      (without-then is_import (without_one_of import_mark (symbol (codes "|") ∷ symbol (codes ",") ∷ []) refl) no_id)))))))))

  no_subset : NoImport (g.subset n)
  no_subset =
      without_formed import_mark (λ span p. decls.Subset p.0 (text_of p.1) span) (without_after_word import_mark (codes "domain") refl
      (without-then is_import no_id (without_after_word import_mark (codes "subsetof") refl
      (without_one_of import_mark (keyword (codes "Integer") ∷ keyword (codes "Natural") ∷ []) refl))))

  no_typed : NoImport (g.typed n)
  no_typed =
      without-then is_import no_id (without_after_sign import_mark (codes ":") refl (without-then is_import (no_domain n)
      (without-maybe is_import (without_after_sign import_mark (codes "->") refl (no_domain n)))))

  no_defined : NoImport (g.defined n)
  no_defined =
      without_formed import_mark g.defined_of
      (without-then is_import (without_one_of import_mark (keyword (codes "static") ∷ keyword (codes "derived") ∷ []) refl) no_typed)

  no_changing : NoImport (g.changing n)
  no_changing =
      without_formed import_mark g.changing_of (without-then is_import (without-maybe is_import (without_mark import_mark (keyword (codes "dynamic")) refl))
      (without-either is_import
      (without-made is_import Members (without_after_word import_mark (codes "abstract") refl (without_after_word import_mark (codes "domain") refl no_id)))
      (without-made is_import Values (without-then is_import (without_one_of import_mark
      (keyword (codes "controlled") ∷ keyword (codes "monitored") ∷ keyword (codes "shared") ∷ keyword (codes "out") ∷ []) refl) no_typed))))

  pub no_decl : NoImport (g.decl n)
  no_decl = without-either is_import no_enum (without-either is_import no_subset (without-either is_import no_defined no_changing))

-- ---- definitions

module _ (fits : TermTree → Bool) (n : ℕ) where
  no_integers : NoImport (g.integers fits n)
  no_integers =
      without_formed import_mark g.integers_of (without_after_word import_mark (codes "domain") refl (without-then is_import no_id
      (without_after_sign import_mark (codes "=") refl (without_bracketed import_mark (is_open n) (codes "{") (codes "}") refl refl
      (without_members import_mark refl refl no_int)))))

  no_equation : NoImport (g.equation fits n)
  no_equation =
      without_after_word import_mark (codes "function") refl (without-then is_import no_id (without-then is_import (without-maybe is_import (no_params n))
      (without_after_sign import_mark (codes "=") refl (no_term fits n))))

  no_macro : NoImport (g.macro fits n)
  no_macro =
      without_formed import_mark (λ span p. defs.Rule p.0 p.1.0 p.1.1 span) (without-made is_import second
      (without-then is_import (without-maybe is_import (without_mark import_mark (keyword (codes "macro")) refl))
      (without_after_word import_mark (codes "rule") refl (without-then is_import no_id (without-then is_import (without-maybe is_import (no_params n))
      (without_after_sign import_mark (codes "=") refl (no_rule fits n)))))))

  no_invariant : NoImport (g.invariant fits n)
  no_invariant =
      without_formed import_mark g.invariant_of (without_after_word import_mark (codes "invariant") refl (without-then is_import (without-maybe is_import no_id)
      (without_after_word import_mark (codes "over") refl (without-then is_import (without_listed import_mark refl no_id)
      (without_after_sign import_mark (codes ":") refl (no_term fits n))))))

  no_def : NoImport (g.def fits n)
  no_def =
      without-either is_import no_integers (without-either is_import
      (without_formed import_mark (λ span p. defs.Function p.0 p.1.0 p.1.1 span) no_equation) (without-either is_import no_macro no_invariant))

  no_init : NoImport (g.init fits n)
  no_init =
      without_formed import_mark g.init_of (without_after_word import_mark (codes "default") refl (without_after_word import_mark (codes "init") refl
      (without-then is_import no_id (without_after_sign import_mark (codes ":") refl (without_many import_mark (without-made is_import g.start_of no_equation))))))

  -- ---- what stands behind the imports

  no_main : NoImport (g.main fits n)
  no_main =
      without-then is_import (without_mark import_mark (keyword (codes "main")) refl) (without_after_word import_mark (codes "rule") refl
      (without-then is_import no_id (without_after_sign import_mark (codes "=") refl (without-then is_import (no_rule fits n) (without-maybe is_import no_init)))))

  no_definitions : NoImport (g.definitions fits n)
  no_definitions =
      without_after_word import_mark (codes "definitions") refl (without_after_sign import_mark (codes ":") refl
      (without-then is_import (without_many import_mark no_def) no_main))

  -- "signature" ":" {decl} "definitions" ..
  abbrev pub signature : Language Token (List DeclTree × (List DefTree × Main))
  signature = after_word (codes "signature") (after_sign (codes ":") (many (g.decl n) then g.definitions fits n))

  pub no_signature : NoImport signature
  no_signature =
      without_after_word import_mark (codes "signature") refl (without_after_sign import_mark (codes ":") refl
      (without-then is_import (without_many import_mark (no_decl n)) no_definitions))
