-- A closure over seven values may be shared where these may.
use mathlib.Core.List.{[], ◌∷◌}
use mir.Syntax.{Sym, Ty}
use denote.RattleType.{RattleType}
use denote.Exit.{yes}
use denote.Struct.Field.{row_field}
use denote.Struct.Tuple.{TupleAt, type_at}
use denote.Param.{param, arg}
use denote.Param.Send.{IsSync, param_sync, arg_sync}
use denote.Param.SendFields.{as_row_sync, declared_sync}

module _ (A B C D E F G : RattleType) (a : IsSync A) (b : IsSync B) (c : IsSync C) (d : IsSync D) (e : IsSync E) (f : IsSync F) (g : IsSync G) where
  pub seven_sync : (δ : Ty) (ν : Sym) → IsSync (param 2 (arg δ yes (TupleAt ν (A ∷ B ∷ C ∷ D ∷ E ∷ F ∷ G ∷ []))))
  seven_sync δ ν =
      param_sync 2 (arg δ yes (TupleAt ν (A ∷ B ∷ C ∷ D ∷ E ∷ F ∷ G ∷ [])))
      (arg_sync δ yes (TupleAt ν (A ∷ B ∷ C ∷ D ∷ E ∷ F ∷ G ∷ []))
      (declared_sync (type_at ν (A ∷ B ∷ C ∷ D ∷ E ∷ F ∷ G ∷ []))
      (as_row_sync (row_field A) a, (as_row_sync (row_field B) b, (as_row_sync (row_field C) c, (as_row_sync (row_field D) d, (as_row_sync (row_field E) e, (as_row_sync (row_field F) f, (as_row_sync (row_field G) g, tt)))))))))
