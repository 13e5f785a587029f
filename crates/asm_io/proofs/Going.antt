-- What the steps of a reader do to the lines that are still to come.
use Rattle.std.proofs.Common.{◌≡◌, ◌⊎◌, ℕ, ◌+◌, ◌-◌, ◌≤◌, ◌<◌, List, [], ◌∷◌, ◌++◌, length, Bool, true, false, cond, ◌||◌, ◌==◌, nat_lt, Option, Ok, Err, refl, sym, ap, ◌∙◌, subst, inl, inr, arith, append_assoc, append-nil, length-append}
use Rattle.std.specs.Io.KnownBytes.{Consumes, Keeps}
use Rattle.std.proofs.KnownBytes.{Consumes-nil, Consumes-trans, Consumes-kept}
use Rattle.std.proofs.lemmas.Bool.Decides.{leb_tells, nat_tests}
use Rattle.std.proofs.lemmas.List.Folds.{list_any-append}
use Rattle.asm_io.specs.Lines.{Line, limit, too_long, is_feed, has_feed, line_of, lines, ended_lines}
use Rattle.asm_io.specs.Readings.{Reading, lines_on, ended_on, lines_from, ended_from, Takes, GoesOn, Gives, fuel}
use Rattle.asm_io.specs.Causes.{next}
use Rattle.asm_io.specs.LineEnds.{given, MeetsEnd, ReadsLine, ReadsToFeed}
use Rattle.asm_io.specs.Steps.{GivesNext, GivesLast, Fills, skipped}
use Rattle.asm_io.specs.declared.line_buf.LineEnd.{LineEnd}
use Rattle.asm_io.specs.declared.line_buf.LineEnd.TheVariants as ends
use Rattle.asm_io.specs.declared.line_buf.IoEnd.TheVariants as faults
use Rattle.asm_io.proofs.Pieces.{lines_at_feed, ended_at_feed, lines_behind_feed, ended_behind_feed, lines_over, ended_over, lines_skipped, ended_skipped}

-- What holds of a reader between two reads: the lines to come are those of the beginning.
pub record GoingOn (left rest : Option (List ℕ)) (first now : Reading) : Type 0 where
  pub taken : List ℕ
  pub takes : Takes left rest first now taken
  pub goes : GoesOn first now taken []
  pub feed : has_feed (first.kept ++ taken) ≡ has_feed now.kept
  pub line : now.line ≡ []
  pub unended : now.at_end ≡ false
  pub falls : fuel now ≤ fuel first

-- a step that gives nothing, and one behind it that takes nothing
GoesOn-then : (a b c : Reading) (s : List ℕ) (g : List Line) → GoesOn a b s [] → GoesOn b c [] g → GoesOn a c s g
GoesOn-then a b c s g p q = record { lines = λ more. p.lines more ∙ q.lines more; ended = λ more. p.ended more ∙ q.ended more }

pub going_first : (left : Option (List ℕ)) (first : Reading) → first.at_end ≡ false → GoingOn left left first (record first { line = [] })
going_first left first unended = record {
  taken = [];
  takes = record { consumes = Consumes-nil left; budget = omega arith };
  goes = record { lines = λ more. refl; ended = λ more. refl };
  feed = ap has_feed (append-nil first.kept);
  line = refl;
  unended = unended;
  falls = omega arith;
}

-- ---- a line that is too long is let go

abbrev let_go : Reading → Reading
let_go r = record r { over = true; kept = [] }

goes_over : (r : Reading) → r.over ≡ true → has_feed r.kept ≡ false → GoesOn r (let_go r) [] []
goes_over r o h = record {
  lines = λ more. ap (λ t. lines_from t (r.kept ++ more)) o ∙ lines_skipped r.kept more h;
  ended = λ more. ap (λ t. ended_from t (r.kept ++ more)) o ∙ ended_skipped r.kept more h;
}

goes_long : (r : Reading) → r.over ≡ false → limit < length r.kept → has_feed r.kept ≡ false → GoesOn r (let_go r) [] []
goes_long r o long h = record {
  lines = λ more. ap (λ t. lines_from t (r.kept ++ more)) o ∙ lines_over r.kept more h long;
  ended = λ more. ap (λ t. ended_from t (r.kept ++ more)) o ∙ ended_over r.kept more h long;
}

going_let_go : (left rest : Option (List ℕ)) (first now : Reading) → GoingOn left rest first now → has_feed now.kept ≡ false
    → GoesOn now (let_go now) [] [] → fuel (let_go now) ≤ fuel now → GoingOn left rest first (let_go now)
going_let_go left rest first now s h g f = record {
  taken = s.taken;
  takes = record { consumes = s.takes.consumes; budget = s.takes.budget };
  goes = GoesOn-then first now (let_go now) s.taken [] s.goes g;
  feed = s.feed ∙ h;
  line = s.line;
  unended = s.unended;
  falls = omega (arith, f, s.falls);
}

over_or_not : (t : Bool) → (t ≡ true) ⊎ (t ≡ false)
over_or_not true = inl refl
over_or_not false = inr refl

pub going_skipped : (left rest : Option (List ℕ)) (first now : Reading) → GoingOn left rest first now → has_feed now.kept ≡ false → GoingOn left rest first (skipped now)
going_skipped left rest first now s h =
    elim (over_or_not now.over) [
      | inl o ↦
          let is : skipped now ≡ let_go now = ap (λ t. cond (t || nat_lt limit (length now.kept)) (let_go now) now) o in
          subst (λ r. GoingOn left rest first r) (sym is) (going_let_go left rest first now s h (goes_over now o h) (rw o (omega arith)))
      | inr o ↦ elim (leb_tells (limit + 1) (length now.kept)) [
        | inl l ↦
            let long : nat_lt limit (length now.kept) ≡ true = l.0 in
            let is : skipped now ≡ let_go now = ap (λ t. cond (t || nat_lt limit (length now.kept)) (let_go now) now) o ∙ ap (λ t. cond t (let_go now) now) long in
            subst (λ r. GoingOn left rest first r) (sym is) (going_let_go left rest first now s h (goes_long now o l.1 h) (rw o (omega (arith, l.1))))
        | inr l ↦
            let short : nat_lt limit (length now.kept) ≡ false = l.0 in
            let is : skipped now ≡ now = ap (λ t. cond (t || nat_lt limit (length now.kept)) (let_go now) now) o ∙ ap (λ t. cond t (let_go now) now) short in
            subst (λ r. GoingOn left rest first r) (sym is) s
      ]
    ]

positive : (n : ℕ) → (n == 0) ≡ false → 0 < n
positive n h = grind (arith, nat_tests)

skipped_feed : (r : Reading) → has_feed r.kept ≡ false → has_feed (skipped r).kept ≡ false
skipped_feed r h = elim (r.over || nat_lt limit (length r.kept)) as (λ t. has_feed (cond t (let_go r) r).kept ≡ false) [ true ↦ refl | false ↦ h ]

skipped_budget : (r : Reading) → (skipped r).budget ≡ r.budget
skipped_budget r = elim (r.over || nat_lt limit (length r.kept)) as (λ t. (cond t (let_go r) r).budget ≡ r.budget) [ true ↦ refl | false ↦ refl ]

-- what is known before a read
pub record Ready (left rest : Option (List ℕ)) (first now : Reading) (budget : ℕ) : Type 0 where
  pub going : GoingOn left rest first now
  pub feed : has_feed now.kept ≡ false
  pub some : 0 < now.budget
  pub same : now.budget ≡ budget

pub ready : (left rest : Option (List ℕ)) (first now next skip : Reading) → GoingOn left rest first now → has_feed now.kept ≡ false → next ≡ now → false ≡ (next.budget == 0)
    → skip ≡ skipped next → Ready left rest first skip now.budget
ready left rest first now next skip s h n b k =
    let is : skip ≡ skipped now = k ∙ ap skipped n in
    let budget : skip.budget ≡ now.budget = ap (λ (r : Reading). r.budget) is ∙ skipped_budget now in
    let some : (now.budget == 0) ≡ false = ap (λ (r : Reading). r.budget == 0) (sym n) ∙ sym b in
    record {
      going = subst (λ r. GoingOn left rest first r) (sym is) (going_skipped left rest first now s h);
      feed = ap (λ (r : Reading). has_feed r.kept) is ∙ skipped_feed now h;
      some = positive skip.budget (ap (λ n. n == 0) budget ∙ some);
      same = budget;
    }

-- ---- a read

abbrev filled : Reading → List ℕ → ℕ → Reading
filled r bytes count = record r { kept = r.kept ++ bytes; budget = r.budget - count }

going_read : (left mid rest : Option (List ℕ)) (first now : Reading) (bytes : List ℕ) (count : ℕ) → GoingOn left mid first now
    → Consumes mid rest bytes → length bytes ≡ count → count ≤ now.budget → GoingOn left rest first (filled now bytes count)
going_read left mid rest first now bytes count s c n w = record {
  taken = s.taken ++ bytes;
  takes = record {
    consumes = Consumes-trans left mid rest s.taken bytes s.takes.consumes c;
    budget = omega (arith, length-append s.taken bytes, s.takes.budget);
  };
  goes = record {
    lines = λ more. ap (λ w. lines_on first w) (append_assoc s.taken bytes more) ∙ s.goes.lines (bytes ++ more) ∙ ap (λ w. lines_from now.over w) (sym (append_assoc now.kept bytes more));
    ended = λ more. ap (λ w. ended_on first w) (append_assoc s.taken bytes more) ∙ s.goes.ended (bytes ++ more) ∙ ap (λ w. ended_from now.over w) (sym (append_assoc now.kept bytes more));
  };
  feed = ap has_feed (sym (append_assoc first.kept s.taken bytes)) ∙ list_any-append is_feed (first.kept ++ s.taken) bytes
      ∙ ap (λ t. t || has_feed bytes) s.feed ∙ sym (list_any-append is_feed now.kept bytes);
  line = s.line;
  unended = s.unended;
  falls = omega (arith, length-append now.kept bytes, s.falls);
}

pub going_filled : (left mid rest : Option (List ℕ)) (first now new : Reading) (count : ℕ) → GoingOn left mid first now → Fills mid rest now new count → GoingOn left rest first new
going_filled left mid rest first now new count s f =
    subst (λ r. GoingOn left rest first r) (sym f.reading) (going_read left mid rest first now f.taken count s f.consumes f.number f.within)

-- ---- what a call answers

-- a line feed behind a piece, of a line that has begun or not
lines_at : (over : Bool) (piece rest : List ℕ) → has_feed piece ≡ false → lines_from over (piece ++ 10 ∷ rest) ≡ cond over too_long (line_of piece) ∷ lines rest
lines_at true piece rest h = lines_behind_feed piece rest h
lines_at false piece rest h = lines_at_feed piece rest h

ended_at : (over : Bool) (piece rest : List ℕ) → has_feed piece ≡ false → ended_from over (piece ++ 10 ∷ rest) ≡ cond over too_long (line_of piece) ∷ ended_lines rest
ended_at true piece rest h = ended_behind_feed piece rest h
ended_at false piece rest h = ended_at_feed piece rest h

one_given : (g : List Line) (line : Line) (more : List Line) → g ≡ line ∷ [] → line ∷ more ≡ g ++ more
one_given g line more e = sym (ap (λ w. w ++ more) e)

goes_given : (now new : Reading) (e : LineEnd) → GivesNext now new e → GoesOn now new [] (given e new.line)
goes_given now new e n =
    let line = cond now.over too_long (line_of n.piece) in record {
      lines = λ more.
          ap (λ w. lines_from now.over (w ++ more)) n.kept ∙ ap (λ w. lines_from now.over w) (append_assoc n.piece (10 ∷ new.kept) more)
          ∙ lines_at now.over n.piece (new.kept ++ more) n.first
          ∙ one_given (given e new.line) line (lines (new.kept ++ more)) n.line
          ∙ ap (λ t. given e new.line ++ lines_from t (new.kept ++ more)) (sym n.over);
      ended = λ more.
          ap (λ w. ended_from now.over (w ++ more)) n.kept ∙ ap (λ w. ended_from now.over w) (append_assoc n.piece (10 ∷ new.kept) more)
          ∙ ended_at now.over n.piece (new.kept ++ more) n.first
          ∙ one_given (given e new.line) line (ended_lines (new.kept ++ more)) n.line
          ∙ ap (λ t. given e new.line ++ ended_from t (new.kept ++ more)) (sym n.over);
    }

or_true : (t : Bool) → (t || true) ≡ true
or_true true = refl
or_true false = refl

feed_of_next : (now new : Reading) (e : LineEnd) → GivesNext now new e → has_feed now.kept ≡ true
feed_of_next now new e n = ap has_feed n.kept ∙ list_any-append is_feed n.piece (10 ∷ new.kept) ∙ or_true (has_feed n.piece)

pub reads_given : (left rest : Option (List ℕ)) (first now new : Reading) (e : LineEnd) → GoingOn left rest first now → GivesNext now new e → ReadsLine left rest first new (Ok e)
reads_given left rest first now new e s n = record {
  taken = s.taken;
  takes = record { consumes = s.takes.consumes; budget = omega (arith, n.budget, s.takes.budget) };
  gives = subst (λ t. Gives t first new s.taken (given e new.line) × MeetsEnd e t) (sym (n.at_end ∙ s.unended))
      (GoesOn-then first now new s.taken (given e new.line) s.goes (goes_given now new e n), n.meets);
  spent = λ h. absurd (cc);
  spends = λ h. let feed = feed_of_next now new e n in absurd (cc (s.feed, h.feed, feed));
}

pub reads_budget : (left rest : Option (List ℕ)) (first now : Reading) → GoingOn left rest first now → has_feed now.kept ≡ false → now.budget ≡ 0
    → ReadsLine left rest first now (Err faults.Budget)
reads_budget left rest first now s h b = record {
  taken = s.taken;
  takes = s.takes;
  gives = (s.goes, s.unended, h);
  spent = λ _. record { budget = b; unended = s.unended; feed = s.feed ∙ h };
  spends = λ _. refl;
}

pub reads_fault : (left mid rest : Option (List ℕ)) (first now new : Reading) → GoingOn left mid first now → has_feed now.kept ≡ false → 0 < now.budget → Keeps mid rest → new ≡ now
    → ReadsLine left rest first new (Err faults.ReadFault)
reads_fault left mid rest first now new s h some k e = subst (λ r. ReadsLine left rest first r (Err faults.ReadFault)) (sym e) (record {
  taken = s.taken;
  takes = record { consumes = Consumes-kept left mid rest s.taken s.takes.consumes k; budget = s.takes.budget };
  gives = (s.goes, s.unended, h);
  spent = λ h. absurd (cc);
  spends = λ i. absurd (omega (arith, i.budget));
})

pub reads_last : (left rest : Option (List ℕ)) (first now new : Reading) (e : LineEnd) → GoingOn left rest first now → 0 < now.budget → GivesLast now new e → ReadsLine left rest first new (Ok e)
reads_last left rest first now new e s some l = record {
  taken = s.taken;
  takes = record { consumes = s.takes.consumes; budget = omega (arith, l.budget, s.takes.budget) };
  gives = subst (λ t. Gives t first new s.taken (given e new.line) × MeetsEnd e t) (sym l.at_end) (
    record {
      lines = ap (λ w. lines_on first w) (sym (append-nil s.taken)) ∙ s.goes.lines [] ∙ ap (λ w. lines_from now.over w) (append-nil now.kept) ∙ sym l.line;
      kept = l.kept;
      over = l.over;
      room = omega (arith, l.budget);
    },
    l.meets,
  );
  spent = λ h. absurd (cc);
  spends = λ h. absurd (cc (l.at_end, h.unended));
}

-- behind the end
pub reads_nothing : (left : Option (List ℕ)) (first : Reading) → first.at_end ≡ true → first.kept ≡ [] → first.over ≡ false → 0 < first.budget
    → ReadsLine left left first (record first { line = [] }) (Ok ends.End)
reads_nothing left first at_end kept over room = record {
  taken = [];
  takes = record { consumes = Consumes-nil left; budget = omega arith };
  gives = subst (λ t. Gives t first (record first { line = [] }) [] [] × (t ≡ true)) (sym at_end) (
    record {
      lines = ap (λ t. lines_from t (first.kept ++ [])) over ∙ ap (λ w. lines (w ++ [])) kept;
      kept = kept;
      over = over;
      room = room;
    },
    refl,
  );
  spent = λ h. absurd (cc);
  spends = λ h. absurd (cc (at_end, h.unended));
}

-- one more read, where no line feed came so far
pub read_on : {S : Type 0} (left : S → Option (List ℕ)) (reads : S → ℕ) (old last new : S) (first now : Reading)
    → GoingOn (left old) (left last) first now → has_feed now.kept ≡ false → reads new ≡ next (reads last) → ReadsToFeed left reads old new first.kept
read_on left reads old last new first now s h once =
    record { last = last; before = s.taken; consumes = s.takes.consumes; once = once; unfed = s.feed ∙ h }

-- a line feed that was kept is still there
pub idle_no_more : (left rest : Option (List ℕ)) (first now : Reading) → GoingOn left rest first now → has_feed now.kept ≡ false → has_feed first.kept ≡ false
idle_no_more left rest first now s h =
    elim (over_or_not (has_feed first.kept)) [
      | inl t ↦ absurd (cc (sym (ap (λ t. t || has_feed s.taken) t) ∙ sym (list_any-append is_feed first.kept s.taken) ∙ s.feed ∙ h))
      | inr f ↦ f
    ]
