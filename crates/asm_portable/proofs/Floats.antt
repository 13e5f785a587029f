-- The JSON of a tree has no float.
use Rattle.std.proofs.Common.{◌≡◌, ℕ, ℤ, pos, negsuc, Bool, true, false, ◌||◌, cond, List, [], ◌∷◌, map, Ordering, Less, Equal, Greater, refl, sym, ap, ◌∙◌, rules}
use Rattle.std.specs.Ordering.{nat_cmp, match_ordering}
use Rattle.std.specs.Cmp.Lexicographic.{slice_cmp}
use Rattle.serde_json.specs.Data.{Data, Members, no_members, member, put}
use Rattle.serde_json.specs.View.{items_of}
use Rattle.serde_json.specs.Written.{has_float, items_have_float, members_have_float}
use Rattle.asm_portable.specs.declared.port.Port.{Port}
use Rattle.asm_portable.specs.declared.port.Field.{Field}
use Rattle.asm_portable.specs.declared.port.Port.TheOpen.{Port-F}
use Rattle.asm_portable.specs.declared.port.Port.TheFolds.{ind-Port, map-Port}
use Rattle.asm_portable.specs.declared.port.Port.TheViews.{out-Port, roll-Port, the_lemmas}
use Rattle.asm_portable.specs.Json.{data_of, data_level, field_data, integer_data, is_json_integer, put_all}
use Rattle.asm_portable.proofs.JsonLaws.{data_of-out}

either : (a b : Bool) → a ≡ false → b ≡ false → (a || b) ≡ false
either a b e h = cc

put_at : (o : Ordering) (k l : List ℕ) (d e : Data) (ms later : Members) → has_float d ≡ false → has_float e ≡ false → members_have_float ms ≡ false → members_have_float later ≡ false
    → members_have_float (match_ordering o (member k d (member l e ms)) (member l d ms) (member l e later)) ≡ false
put_at Less k l d e ms later hd he hs hl = either _ _ hd (either _ _ he hs)
put_at Equal k l d e ms later hd he hs hl = either _ _ hd hs
put_at Greater k l d e ms later hd he hs hl = either _ _ he hl

left : (a b : Bool) → (a || b) ≡ false → a ≡ false
left false b e = refl
left true b e = e

right : (a b : Bool) → (a || b) ≡ false → b ≡ false
right false b e = e
right true b e = absurd (cc)

put-no_float : (k : List ℕ) (d : Data) (ms : Members) → has_float d ≡ false → members_have_float ms ≡ false → members_have_float (put k d ms) ≡ false
put-no_float k d no_members hd hs = either _ _ hd refl
put-no_float k d (member l e ms) hd hs =
    put_at (slice_cmp nat_cmp k l) k l d e ms (put k d ms) hd (left _ _ hs) (right _ _ hs) (put-no_float k d ms hd (right _ _ hs))

abbrev HasNone : Port → Type 0
HasNone p = has_float (data_of p) ≡ false

abbrev FieldHasNone : Field → Type 0
FieldHasNone f = HasNone f.tree

choice-no_float : (b : Bool) (d e : Data) → has_float d ≡ false → has_float e ≡ false → has_float (cond b d e) ≡ false
choice-no_float true d e hd he = hd
choice-no_float false d e hd he = he

integer-no_float : (n : ℤ) → has_float (integer_data n) ≡ false
integer-no_float (pos n) = choice-no_float (is_json_integer (pos n)) _ _ refl refl
integer-no_float (negsuc n) = choice-no_float (is_json_integer (negsuc n)) _ _ refl refl

trees-no_float : (ps : List ((p : Port) × HasNone p)) → items_have_float (items_of (map data_of (map (λ e. e.0) ps))) ≡ false
trees-no_float [] = refl
trees-no_float (p ∷ ps) = either _ _ p.1 (trees-no_float ps)

members-no_float : (fs : List ((f : Field) × FieldHasNone f)) (ms : Members) → members_have_float ms ≡ false → members_have_float (put_all ms (map field_data (map (λ e. e.0) fs))) ≡ false
members-no_float [] ms h = h
members-no_float (f ∷ fs) ms h = members-no_float fs _ (put-no_float f.0.key (data_of f.0.tree) ms f.1 h)

level-no_float : (y : Port-F ((p : Port) × HasNone p) ((f : Field) × FieldHasNone f))
    → has_float (data_level (map-Port Port Field Data (List ℕ × Data) data_of field_data (map-Port ((p : Port) × HasNone p) ((f : Field) × FieldHasNone f) Port Field (λ e. e.0) (λ e. e.0) y))) ≡ false
level-no_float Port-F.Null = refl
level-no_float (Port-F.Bool b) = refl
level-no_float (Port-F.Int n) = integer-no_float n
level-no_float (Port-F.Text bytes) = refl
level-no_float (Port-F.List ps) = trees-no_float ps
level-no_float (Port-F.Fields fs) = members-no_float fs no_members refl

out_roll : (x : Port-F Port Field) → out-Port (roll-Port x) ≡ x
out_roll x = search (rules, the_lemmas)

-- no tree's JSON has a float
pub no_float : (p : Port) → has_float (data_of p) ≡ false
no_float p = ind-Port HasNone FieldHasNone
    (λ x y is. ap has_float (data_of-out (roll-Port x) ∙ ap (λ a. data_level (map-Port Port Field Data (List ℕ × Data) data_of field_data a)) (out_roll x ∙ sym is)) ∙ level-no_float y)
    (λ x y is. ap (λ f. has_float (data_of f.tree)) (sym is) ∙ y.tree.1) p
