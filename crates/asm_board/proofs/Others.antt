-- A change leaves the models outside its footprint as they were, and the models ascending by name; and what an entry makes of each model.
use Rattle.std.proofs.Common.{Bool, true, false, cond, not, nat_lt, length, ◌≡◌, ◌≢◌, ℕ, ◌+◌, Option, None, Some, List, [], ◌∷◌, map, filter, fold, Ok, Err, IfOk, option_map, refl, sym, ap, subst, ◌∙◌, arith}
use Rattle.std.specs.List.{AllByRecursion, Contains}
use Rattle.std.specs.List.Sorted.{IsStrictlySortedBy}
use Rattle.std.specs.Str.{bytes_eq}
use Rattle.std.specs.Ordering.{nat_cmp}
use Rattle.std.specs.Cmp.Lexicographic.{slice_cmp}
use Rattle.std.proofs.lemmas.List.Kept.{IsStrictlySortedBy-filter}
use Rattle.asm_formula.specs.Formulas.{names}
use Rattle.asm_formula.specs.Reading.{formula_of}
use Rattle.asm_portable.proofs.Ascending.{none_ascends, put_by-ascends}
use Rattle.asm_portable.specs.declared.port.Port.{Port}
use Rattle.asm_board.specs.declared.prepared.News.{News}
use Rattle.asm_board.specs.declared.prepared.Accepted.{Accepted}
use Rattle.asm_board.specs.declared.board.Board.{Board}
use Rattle.asm_board.specs.declared.board.Slot.{Slot}
use Rattle.asm_board.specs.declared.board.NamedSlot.{NamedSlot}
use Rattle.asm_board.specs.declared.call.Call.{Call}
use Rattle.asm_board.specs.declared.call.Call.TheVariants as call
use Rattle.asm_board.specs.declared.entry.Entry.{Entry}
use Rattle.asm_board.specs.declared.prepared.Changed.{Changed}
use Rattle.asm_board.specs.Meanings.{Meanings}
use Rattle.asm_board.specs.Contents.{Contents}
use Rattle.asm_board.specs.Refusals.{needs, is_there, bad_name, inv_taken, unknown_inv, invs_full}
use Rattle.asm_board.specs.Slots.{Models, named, slot_in, at_version, without, changed_to, changed, new_slot, slot_of_news, new_slots, AscendByName}
use Rattle.asm_board.specs.Calls.{names_in, footprint, is_change}
use Rattle.asm_board.specs.Steps.{FireTheirSets}
use Rattle.asm_board.specs.Changes.{Change, is_right_name, invariant_limit, has_invariant, lacks_version, content_at, loaded, not_taken, found, news_of, added, load, unload, step_models, add_invariant, drop_invariant, rollback, change}
use Rattle.asm_board.specs.Boards.{empty_board, slots_of_change, spoken_of, slots_at, applied, board_of}
use Rattle.asm_board.specs.Trails.{Follows, Stays, Goes, Comes, Remembers, Begins, slot_after}
use Rattle.asm_board.proofs.Found.{goes_on, weaker}
use Rattle.asm_board.proofs.Fired.{fires}
use Rattle.asm_board.proofs.Puts.{one_name, slot_in-put, slot_in-without, slot_in-changed_to_other, slot_in-only, other_name, contains_each}

-- ---- the models that an accepted change makes anew are of its footprint

abbrev pub NewsOf : List (List ℕ) → Accepted → Type 0
NewsOf names a = AllByRecursion (λ n. Contains names n.name) a.news

pub the_one : (name : List ℕ) → Contains (name ∷ []) name
the_one name = (0, omega arith, refl)

module _ (m : Meanings) where
  load_news : (models : Models) (name source : List ℕ) → IfOk (load m models name source) (NewsOf (name ∷ []))
  load_news models name source =
      goes_on (NewsOf (name ∷ [])) (needs (is_right_name name) bad_name) _ (λ _ _.
      goes_on (NewsOf (name ∷ [])) (not_taken m models name) _ (λ _ _.
      goes_on (NewsOf (name ∷ [])) (loaded m name source) _ (λ content _. (the_one name, tt))))

  unload_news : (models : Models) (name : List ℕ) → IfOk (unload m models name) (NewsOf (name ∷ []))
  unload_news models name =
      goes_on (NewsOf (name ∷ [])) (found m models name) _ (λ slot _. (the_one name, tt))

  -- the news of a step are of the models of its formula
  leaves_among : (ns : List (List ℕ)) (leaves : List (List ℕ × Contents)) → AllByRecursion (Contains ns) (map (λ (l : List ℕ × Contents). l.0) leaves)
      → AllByRecursion (λ (n : News). Contains ns n.name) (news_of leaves)
  leaves_among ns [] all = tt
  leaves_among ns (l ∷ ls) all = (all.0, leaves_among ns ls all.1)

  fired_news : (models : Models) (source : List ℕ) (tree : Port) (pick : Option ℕ) (a : Accepted) → FireTheirSets m models source tree pick a → NewsOf (names_in (formula_of source)) a
  fired_news models source tree pick a f =
      subst (λ ns. AllByRecursion (λ (n : News). Contains ns n.name) a.news) (sym (ap names_in f.read))
      (subst (AllByRecursion (λ (n : News). Contains (names f.formula) n.name)) (sym f.news)
      (leaves_among (names f.formula) f.leaves (subst (AllByRecursion (Contains (names f.formula))) (sym f.are_its_models) (contains_each (names f.formula)))))

  step_news : (models : Models) (source : List ℕ) (tree : Port) (pick : Option ℕ) → IfOk (step_models m models source tree pick) (NewsOf (names_in (formula_of source)))
  step_news models source tree pick =
      weaker (step_models m models source tree pick) (fired_news models source tree pick) (fires m models tree pick source)

  add_news : (models : Models) (name inv source : List ℕ) → IfOk (add_invariant m models name inv source) (NewsOf (name ∷ []))
  add_news models name inv source =
      goes_on (NewsOf (name ∷ [])) (found m models name) _ (λ slot _.
      goes_on (NewsOf (name ∷ [])) (needs (not (has_invariant slot.content inv)) (inv_taken inv name)) _ (λ _ _.
      goes_on (NewsOf (name ∷ [])) (needs (nat_lt (length slot.content.invs) invariant_limit) (invs_full invariant_limit name)) _ (λ _ _.
      goes_on (NewsOf (name ∷ [])) (added m name slot.content inv source) _ (λ new _. (the_one name, tt)))))

  drop_news : (models : Models) (name inv : List ℕ) → IfOk (drop_invariant m models name inv) (NewsOf (name ∷ []))
  drop_news models name inv =
      goes_on (NewsOf (name ∷ [])) (found m models name) _ (λ slot _.
      goes_on (NewsOf (name ∷ [])) (needs (has_invariant slot.content inv) (unknown_inv inv name)) _ (λ _ _. (the_one name, tt)))

  rollback_news : (models : Models) (name : List ℕ) (to : ℕ) → IfOk (rollback m models name to) (NewsOf (name ∷ []))
  rollback_news models name to =
      goes_on (NewsOf (name ∷ [])) (found m models name) _ (λ slot _.
      goes_on (NewsOf (name ∷ [])) (is_there (content_at slot to) (lacks_version name slot)) _ (λ content _. (the_one name, tt)))

  pub change_news : (models : Models) (c : Call) → IfOk (change m models c) (NewsOf (footprint c))
  change_news models (call.Run source steps pick since) = tt
  change_news models (call.Load name source) = load_news models name source
  change_news models (call.Unload name) = unload_news models name
  change_news models (call.Step formula inputs pick) = step_news models formula inputs pick
  change_news models (call.State name since) = tt
  change_news models (call.Value name term since) = tt
  change_news models (call.ShowText name since) = tt
  change_news models (call.Models since) = tt
  change_news models (call.Log from count since) = tt
  change_news models (call.AddInvariant name inv term) = add_news models name inv term
  change_news models (call.DropInvariant name inv) = drop_news models name inv
  change_news models (call.Rollback name to) = rollback_news models name to

-- ---- the other models

others_kept : (version : ℕ) (old models : Models) (news : List News) (names : List (List ℕ)) (q : List ℕ)
    → AllByRecursion (λ n. Contains names n.name) news → (Contains names q → ⊥) → slot_in (changed version models (new_slots old news)) q ≡ slot_in models q
others_kept version old models [] names q all outside = refl
others_kept version old models (n ∷ ns) names q all outside =
    let differs : q ≢ n.name = λ e. outside (subst (Contains names) (sym e) all.0) in
    let slot : Option Slot = (slot_of_news old n).slot in
    others_kept version old (changed_to version models n.name slot) ns names q all.1 outside
    ∙ slot_in-changed_to_other version models n.name slot q differs

kept_where : (version : ℕ) (old models : Models) (names : List (List ℕ)) (q : List ℕ) (result : Change) (t : Bool) → IfOk result (NewsOf names) → (Contains names q → ⊥)
    → slot_in (changed version models (cond t (slots_of_change old result) [])) q ≡ slot_in models q
kept_where version old models names q (Ok a) true all outside = others_kept version old models a.news names q all outside
kept_where version old models names q (Err why) true all outside = refl
kept_where version old models names q result false all outside = refl

pub others_stay : (m : Meanings) (board : Board) (e : Entry) (q : List ℕ) → (Contains (footprint e.call) q → ⊥) → slot_in (applied m board e).slots q ≡ slot_in board.slots q
others_stay m board e q outside =
    kept_where (board.front + 1) (spoken_of board e.call) board.slots (footprint e.call) q (change m (spoken_of board e.call) e.call) (is_change e.call)
    (change_news m (spoken_of board e.call) e.call) outside

-- ---- what an entry makes of a model

one_slot : (s t : Slot) → Some s ≡ Some t → s ≡ t
one_slot s t e = cc (e)

module _ (k : ℕ) (start old : Models) where
  -- the model of one of the news
  follows_name : (ms : Models) (name : List ℕ) (content : Option Contents) → slot_in old name ≡ slot_in start name
      → Follows k (slot_in start name) (slot_in (changed_to k ms name (option_map (new_slot (slot_in old name)) content)) name)
  follows_name ms name None same = Goes (slot_in-without name ms)
  follows_name ms name (Some c) same =
      Comes c (slot_in-put name (slot_after k (slot_in old name) c) ms ∙ ap (λ o. Some (slot_after k o c)) same)

  follows_one : (ms : Models) (n : News) (q : List ℕ) (t : Bool) → bytes_eq q n.name ≡ t → slot_in old n.name ≡ slot_in start n.name
      → Follows k (slot_in start q) (slot_in ms q) → Follows k (slot_in start q) (slot_in (changed_to k ms n.name (slot_of_news old n).slot) q)
  follows_one ms n q true is same h =
      subst (λ x. Follows k (slot_in start x) (slot_in (changed_to k ms n.name (slot_of_news old n).slot) x)) (sym (one_name q n.name is))
      (follows_name ms n.name n.content same)
  follows_one ms n q false is same h =
      subst (Follows k (slot_in start q)) (sym (slot_in-changed_to_other k ms n.name (slot_of_news old n).slot q (other_name q n.name is))) h

  follows_news : (ms : Models) (news : List News) (q : List ℕ) → AllByRecursion (λ n. slot_in old n.name ≡ slot_in start n.name) news
      → Follows k (slot_in start q) (slot_in ms q) → Follows k (slot_in start q) (slot_in (changed k ms (new_slots old news)) q)
  follows_news ms [] q all h = h
  follows_news ms (n ∷ ns) q all h =
      follows_news (changed_to k ms n.name (slot_of_news old n).slot) ns q all.1 (follows_one ms n q (bytes_eq q n.name) refl all.0 h)

-- what is spoken of is as it is on the board
same_names : (board : Board) (c : Call) (news : List News) → AllByRecursion (λ n. Contains (footprint c) n.name) news
    → AllByRecursion (λ n. slot_in (spoken_of board c) n.name ≡ slot_in board.slots n.name) news
same_names board c [] all = tt
same_names board c (n ∷ ns) all = (slot_in-only board.slots (footprint c) n.name all.0, same_names board c ns all.1)

follows_where : (k : ℕ) (board : Board) (c : Call) (q : List ℕ) (result : Change) (t : Bool) → IfOk result (NewsOf (footprint c))
    → Follows k (slot_in board.slots q) (slot_in (changed k board.slots (cond t (slots_of_change (spoken_of board c) result) [])) q)
follows_where k board c q (Ok a) true all =
    follows_news k board.slots (spoken_of board c) board.slots a.news q (same_names board c a.news all) (Stays refl)
follows_where k board c q (Err why) true all = Stays refl
follows_where k board c q result false all = Stays refl

pub follows : (m : Meanings) (board : Board) (e : Entry) (q : List ℕ) → Follows (board.front + 1) (slot_in board.slots q) (slot_in (applied m board e).slots q)
follows m board e q =
    follows_where (board.front + 1) board e.call q (change m (spoken_of board e.call) e.call) (is_change e.call) (change_news m (spoken_of board e.call) e.call)

-- a slot that is another one now remembers what was before
pub remembers : (k : ℕ) (old new : Slot) (a b : Option Slot) → a ≡ Some old → b ≡ Some new → new ≢ old → Follows k a b → Remembers k old new
remembers k old new a b was is differs (Stays e) = absurd (differs (one_slot new old (sym is ∙ e ∙ was)))
remembers k old new a b was is differs (Goes e) = let unlike : Some new ≡ None = sym is ∙ e in absurd (cc (unlike))
remembers k old new a b was is differs (Comes content e) =
    let same : new ≡ slot_after k (Some old) content = one_slot new (slot_after k (Some old) content) (sym is ∙ e ∙ ap (λ o. Some (slot_after k o content)) was) in
    record { version = ap (λ (s : Slot). s.version) same; trail = ap (λ (s : Slot). s.trail) same }

-- a slot that is new has nothing to remember
pub begins : (k : ℕ) (new : Slot) (a b : Option Slot) → a ≡ None → b ≡ Some new → Follows k a b → Begins k new
begins k new a b was is (Stays e) = let unlike : Some new ≡ None = sym is ∙ e ∙ was in absurd (cc (unlike))
begins k new a b was is (Goes e) = let unlike : Some new ≡ None = sym is ∙ e in absurd (cc (unlike))
begins k new a b was is (Comes content e) =
    let same : new ≡ slot_after k None content = one_slot new (slot_after k None content) (sym is ∙ e ∙ ap (λ o. Some (slot_after k o content)) was) in
    record { version = ap (λ (s : Slot). s.version) same; trail = ap (λ (s : Slot). s.trail) same }

-- ---- models ascend by name

named_at : (name : List ℕ) (m : NamedSlot) (ms : Models) (t : Bool) → bytes_eq name m.name ≡ t → map (λ (x : NamedSlot). x.name) (without name ms) ≡ filter (λ n. not (bytes_eq name n)) (map (λ (x : NamedSlot). x.name) ms)
    → map (λ (x : NamedSlot). x.name) (cond (not t) (m ∷ without name ms) (without name ms))
    ≡ cond (not t) (m.name ∷ filter (λ n. not (bytes_eq name n)) (map (λ (x : NamedSlot). x.name) ms)) (filter (λ n. not (bytes_eq name n)) (map (λ (x : NamedSlot). x.name) ms))
named_at name m ms true is h = h
named_at name m ms false is h = ap (λ ns. m.name ∷ ns) h

names_without : (name : List ℕ) (ms : Models) → map (λ (x : NamedSlot). x.name) (without name ms) ≡ filter (λ n. not (bytes_eq name n)) (map (λ (x : NamedSlot). x.name) ms)
names_without name [] = refl
names_without name (m ∷ ms) = named_at name m ms (bytes_eq name m.name) refl (names_without name ms)

without-ascends : (name : List ℕ) (ms : Models) → AscendByName ms → AscendByName (without name ms)
without-ascends name ms all =
    subst (IsStrictlySortedBy (slice_cmp nat_cmp)) (sym (names_without name ms))
    (IsStrictlySortedBy-filter (slice_cmp nat_cmp) (λ n. not (bytes_eq name n)) (map (λ (x : NamedSlot). x.name) ms) all)

changed_to-ascends : (version : ℕ) (models : Models) (name : List ℕ) (o : Option Slot) → AscendByName models → AscendByName (changed_to version models name o)
changed_to-ascends version models name None all = without-ascends name models all
changed_to-ascends version models name (Some s) all = put_by-ascends (λ (x : NamedSlot). x.name) (named name (at_version version s)) models all

changed_ascends : (version : ℕ) (models : Models) (cs : List Changed) → AscendByName models → AscendByName (changed version models cs)
changed_ascends version models [] all = all
changed_ascends version models (c ∷ cs) all =
    changed_ascends version (changed_to version models c.name c.slot) cs (changed_to-ascends version models c.name c.slot all)

fold_ascends : (m : Meanings) (journal : List Entry) (board : Board) → AscendByName board.slots → AscendByName (fold (applied m) board journal).slots
fold_ascends m [] board all = all
fold_ascends m (e ∷ es) board all = fold_ascends m es (applied m board e) (changed_ascends (board.front + 1) board.slots (slots_at m board e.call) all)

pub board_ascends : (m : Meanings) (journal : List Entry) → AscendByName (board_of m journal).slots
unfolding board_of
board_ascends m journal = fold_ascends m journal empty_board (none_ascends (λ (x : NamedSlot). x.name))
