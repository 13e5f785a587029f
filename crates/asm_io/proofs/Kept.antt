-- The bytes of the buffer between two places.
use Rattle.std.proofs.Common.{◌≡◌, ℕ, ◌+◌, ◌-◌, ◌≤◌, ◌<◌, List, [], ◌∷◌, ◌++◌, length, take, drop, false, ◌||◌, sym, ap, ◌∙◌, arith, length-drop, length-take, length-append, append_assoc}
use Rattle.std.specs.List.{slice_range}
use Rattle.std.proofs.lemmas.List.{drop_more, drop-take, take-append-drop, drop-drop, take-take, take-append-le, take_at, drop_at, length-take-le}
use Rattle.std.proofs.lemmas.List.Edits.{length-between}
use Rattle.std.proofs.lemmas.List.Folds.{list_any-append}
use Rattle.std.proofs.lemmas.Slice.{between_from_start, take-put_mid_below}
use Rattle.std.proofs.Math.Seq.{take-add}
use borrow.Rule.Slice.PartMut.{put_mid, post_of}
use Rattle.asm_io.specs.Lines.{is_feed, has_feed}
use Rattle.asm_io.specs.Steps.{IsFirstFeed}

-- a range in two parts
pub range_parts : (xs : List ℕ) (a m b : ℕ) → a ≤ m → m ≤ b → slice_range xs a b ≡ slice_range xs a m ++ slice_range xs m b
range_parts xs a m b p q =
    let whole : b - a ≡ (m - a) + (b - m) = omega arith in
    let front : a + (m - a) ≡ m = omega arith in
    ap (λ n. take n (drop a xs)) whole
    ∙ take-add (m - a) (b - m) (drop a xs)
    ∙ ap (λ w. take (m - a) (drop a xs) ++ take (b - m) w) (drop-drop (m - a) a xs ∙ ap (λ n. drop n xs) front)

-- a list at the place of its first line feed
pub split_at_feed : (xs : List ℕ) (at : ℕ) → IsFirstFeed xs at → xs ≡ take at xs ++ 10 ∷ drop (at + 1) xs
split_at_feed xs at f =
    sym (take-append-drop at xs) ∙ ap (λ w. take at xs ++ w) (drop_more xs at 0 f.within ∙ ap (λ b. b ∷ drop (at + 1) xs) f.feed)

-- a front and a rest of a range
range_front : (xs : List ℕ) (m b n : ℕ) → n ≤ b - m → take n (slice_range xs m b) ≡ slice_range xs m (m + n)
range_front xs m b n h =
    let same : n ≡ m + n - m = omega arith in
    take-take n (b - m) (drop m xs) h ∙ ap (λ k. take k (drop m xs)) same

range_rest : (xs : List ℕ) (m b n : ℕ) → n ≤ b - m → drop n (slice_range xs m b) ≡ slice_range xs (m + n) b
range_rest xs m b n h =
    let whole : b - m ≡ n + (b - (m + n)) = omega arith in
    ap (λ k. drop n (take k (drop m xs))) whole
    ∙ drop-take n (b - (m + n)) (drop m xs)
    ∙ ap (λ w. take (b - (m + n)) w) (drop-drop n m xs)

-- the first line feed behind bytes that were looked through
pub feed_in_range : (xs : List ℕ) (a m b at : ℕ) → a ≤ m → m ≤ b → b ≤ length xs → IsFirstFeed (slice_range xs m b) at
    → slice_range xs a b ≡ slice_range xs a (m + at) ++ 10 ∷ slice_range xs (m + at + 1) b
feed_in_range xs a m b at p q r f =
    let long = length-between xs m b r in
    let within : at < b - m = omega (arith, f.within) in
    let next : m + (at + 1) ≡ m + at + 1 = omega arith in
    range_parts xs a m b p q
    ∙ ap (λ w. slice_range xs a m ++ w) (split_at_feed (slice_range xs m b) at f)
    ∙ sym (append_assoc (slice_range xs a m) (take at (slice_range xs m b)) (10 ∷ drop (at + 1) (slice_range xs m b)))
    ∙ ap (λ w. (slice_range xs a m ++ w) ++ 10 ∷ drop (at + 1) (slice_range xs m b)) (range_front xs m b at (omega arith))
    ∙ ap (λ w. w ++ 10 ∷ drop (at + 1) (slice_range xs m b)) (sym (range_parts xs a m (m + at) p (omega arith)))
    ∙ ap (λ w. slice_range xs a (m + at) ++ 10 ∷ w) (range_rest xs m b (at + 1) (omega arith) ∙ ap (λ n. slice_range xs n b) next)

no_feed_append : (xs ys : List ℕ) → has_feed xs ≡ false → has_feed ys ≡ false → has_feed (xs ++ ys) ≡ false
no_feed_append xs ys p q = list_any-append is_feed xs ys ∙ ap (λ t. t || has_feed ys) p ∙ q

pub no_feed_before : (xs : List ℕ) (a m b at : ℕ) → a ≤ m → m ≤ b → b ≤ length xs → has_feed (slice_range xs a m) ≡ false → IsFirstFeed (slice_range xs m b) at
    → has_feed (slice_range xs a (m + at)) ≡ false
no_feed_before xs a m b at p q r h f =
    let long = length-between xs m b r in
    let within : at < b - m = omega (arith, f.within) in
    ap has_feed (range_parts xs a m (m + at) p (omega arith))
    ∙ no_feed_append (slice_range xs a m) (slice_range xs m (m + at)) h (ap has_feed (sym (range_front xs m b at (omega arith))) ∙ f.before)

pub no_feed_parts : (xs : List ℕ) (a m b : ℕ) → a ≤ m → m ≤ b → has_feed (slice_range xs a m) ≡ false → has_feed (slice_range xs m b) ≡ false
    → has_feed (slice_range xs a b) ≡ false
no_feed_parts xs a m b p q h k = ap has_feed (range_parts xs a m b p q) ∙ no_feed_append (slice_range xs a m) (slice_range xs m b) h k

-- an empty range
pub no_range : (xs : List ℕ) (a b : ℕ) → b ≤ a → slice_range xs a b ≡ []
no_range xs a b h =
    let none : b - a ≡ 0 = omega arith in
    ap (λ n. take n (drop a xs)) none

-- what stands at the front after a write behind it
pub written_behind : (xs ys : List ℕ) (a k n : ℕ) → a ≤ length xs → n ≤ length ys → slice_range (put_mid a k xs ys) 0 (a + n) ≡ take a xs ++ take n ys
written_behind xs ys a k n h l =
    let front = length-take-le a xs h in
    between_from_start (put_mid a k xs ys) (a + n)
    ∙ take-add a n (put_mid a k xs ys)
    ∙ ap (λ w. w ++ take n (drop a (put_mid a k xs ys))) (take_at (take a xs) (ys ++ post_of a k xs) a front)
    ∙ ap (λ w. take a xs ++ take n w) (drop_at (take a xs) (ys ++ post_of a k xs) a front)
    ∙ ap (λ w. take a xs ++ w) (take-append-le n ys (post_of a k xs) l)

pub front_stays : (xs ys : List ℕ) (a k n : ℕ) → a ≤ length xs → n ≤ a → take n (put_mid a k xs ys) ≡ take n xs
front_stays xs ys a k n h l = take-put_mid_below a k xs ys n l h

pub length-put_mid : (a k : ℕ) (xs ys : List ℕ) → a + k ≤ length xs → length ys ≡ k → length (put_mid a k xs ys) ≡ length xs
length-put_mid a k xs ys h l =
    omega (arith, length-append (take a xs) (ys ++ post_of a k xs), length-append ys (post_of a k xs), length-take a xs, length-drop k (drop a xs), length-drop a xs)

pub short_part : (a k : ℕ) (xs : List ℕ) → a + k ≤ length xs → length (take k (drop a xs)) ≡ k
short_part a k xs h = omega (arith, length-take k (drop a xs), length-drop a xs)
