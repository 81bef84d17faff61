-- A text whose last parenthesis opens a part too many is read as too long, whatever comes after the parenthesis.
use Rattle.std.proofs.Common.{◌≡◌, refl, sym, ap, ◌∙◌, subst, ℕ, zero, suc, ◌+◌, ◌-◌, ◌<◌, ◌≤◌, ◌==◌, Bool, true, false, List, [], ◌∷◌, ◌++◌, length, take, drop, map, Err, codes, append_assoc, append-nil, length-append, le_refl, zero-lt-suc, arith}
use Rattle.std.specs.List.{list_all, list_any, prefix_len}
use Rattle.std.specs.Char.{is_ascii_alphabetic, is_ascii_digit}
use Rattle.std.specs.Char.{to_ascii_lowercase}
use Rattle.std.specs.Str.{str_to_ascii_lowercase}
use Rattle.std.proofs.lemmas.Bool.{true≢false, and_parts, or_parts, or_right}
use Rattle.geometry_model.specs.Points.{Position}
use Rattle.geometry_model.specs.Geometries.{Geometry, Point, MultiPoint, LineString, MultiLineString, Polygon, MultiPolygon, joined_rings}
use Rattle.geometry_model.specs.WellKnownText.{begins_with, Rule, ◌⨾◌, Byte, Blank, Padded, Enclosed, Word, Separated, PositionText, LineText, PolygonText, Body, Writes, is_white, written_parts, position_limit, part_limit}
use Rattle.geometry_model.specs.TextReading.{Input, Reader, after, too_long, ◌>>◌, expect, padded, enclosed, parts, polygon, polygons, body, lists, nested_lists, typed, tagged, whole, outcome, read_text}
use Rattle.geometry_model.specs.TextRefusals.{begins_more, HasTooManyParts}
use Rattle.geometry_model.specs.declared.text_faults.TextFault.TheVariants.{TooLong}
use Rattle.text_laws.proofs.RoomLists.{positions_in, items, ring, alone, itself, rings_of, alone_of, parts_are_items, polygons_are_items, FitsCounts}
use Rattle.text_laws.proofs.TextSteps.{Took, apart, byte_is, no_run, read_run}
use Rattle.text_laws.proofs.TextComplete.{expect_read, white_byte, letters, word_begins, same_length, named, ReadsItem, HasRings, ring_read, one_ring, polygon_read, rings_of_polygon}
use Rattle.text_laws.proofs.FullTexts.{IsFull, full_then, then_full, full_is, FullItem, item_full, item_and_more, comma_behind, ring_full, polygon_full}

-- ---- the last opening parenthesis of a text
abbrev opens : ℕ → Bool
opens c = c == 40

-- a text with the parenthesis comes after this byte, so the parenthesis does
record Behind (front : List ℕ) (P : List ℕ) (c : ℕ) (V : List ℕ) (tail : List ℕ) : Type 0 where
  rest : List ℕ
  front_is : front ≡ P ++ (c ∷ rest)
  left_is : V ≡ rest ++ (40 ∷ tail)

pub any_within : (test : ℕ → Bool) (P : List ℕ) (c : ℕ) (V : List ℕ) → list_any test V ≡ true → list_any test (P ++ (c ∷ V)) ≡ true
any_within test [] c V e = or_right (test c) (list_any test V) e
any_within test (p ∷ P) c V e = or_right (test p) (list_any test (P ++ (c ∷ V))) (any_within test P c V e)

pub tail_of : (x y : ℕ) (xs ys : List ℕ) → x ∷ xs ≡ y ∷ ys → xs ≡ ys
tail_of x y xs ys e = ap (drop 1) e

pub head_of : (x y : ℕ) (xs ys : List ℕ) → x ∷ xs ≡ y ∷ ys → x ≡ y
head_of x y xs ys e = ap (λ l. first_or l) e
  where
    first_or : List ℕ → ℕ
    first_or [] = 0
    first_or (z ∷ zs) = z

-- a byte with an opening parenthesis behind it comes before the last one, since that is the last
behind : (front P : List ℕ) (c : ℕ) (V tail : List ℕ) → front ++ (40 ∷ tail) ≡ P ++ (c ∷ V) → list_any opens V ≡ true → list_any opens tail ≡ false → Behind front P c V tail
behind [] [] c V tail e has none = absurd (true≢false (sym has ∙ (ap (list_any opens) (sym (tail_of 40 c tail V e)) ∙ none)))
behind (x ∷ xs) [] c V tail e has none = record { rest = xs; front_is = ap (λ z. z ∷ xs) (head_of x c (xs ++ (40 ∷ tail)) V e); left_is = sym (tail_of x c (xs ++ (40 ∷ tail)) V e) }
behind [] (p ∷ P) c V tail e has none = absurd (true≢false (sym (any_within opens P c V has) ∙ (ap (list_any opens) (sym (tail_of 40 p tail (P ++ (c ∷ V)) e)) ∙ none)))
behind (x ∷ xs) (p ∷ P) c V tail e has none = go (behind xs P c V tail (tail_of x p (xs ++ (40 ∷ tail)) (P ++ (c ∷ V)) e) has none)
  where
    go : Behind xs P c V tail → Behind (x ∷ xs) (p ∷ P) c V tail
    go b = record { rest = b.rest; front_is = ap (λ z. z ∷ xs) (head_of x p (xs ++ (40 ∷ tail)) (P ++ (c ∷ V)) e) ∙ ap (λ l. p ∷ l) b.front_is; left_is = b.left_is }

-- ---- what the parts are read from: their text up to the last parenthesis, and anything behind it
-- the first parenthesis, behind white space
record Opening (left white : List ℕ) : Type 0 where
  more : List ℕ
  is : left ≡ white ++ (40 ∷ more)

-- the first parenthesis, behind white space, is in the front or is the last one itself: so it is in the other text too
opening : (front tail other white V : List ℕ) → list_all is_white white ≡ true → front ++ (40 ∷ tail) ≡ white ++ (40 ∷ V) → Opening (front ++ (40 ∷ other)) white
opening [] tail other [] V all e = record { more = other; is = refl }
opening (x ∷ xs) tail other [] V all e = record { more = xs ++ (40 ∷ other); is = ap (λ z. z ∷ (xs ++ (40 ∷ other))) (head_of x 40 (xs ++ (40 ∷ tail)) V e) }
opening [] tail other (w ∷ ws) V all e = absurd (true≢false (sym (and_parts (is_white w) (list_all is_white ws) all).0 ∙ ap is_white (sym (head_of 40 w tail (ws ++ (40 ∷ V)) e))))
opening (x ∷ xs) tail other (w ∷ ws) V all e = go (opening xs tail other ws V (and_parts (is_white w) (list_all is_white ws) all).1 (tail_of x w (xs ++ (40 ∷ tail)) (ws ++ (40 ∷ V)) e))
  where
    go : Opening (xs ++ (40 ∷ other)) ws → Opening ((x ∷ xs) ++ (40 ∷ other)) (w ∷ ws)
    go o = record { more = o.more; is = ap (λ z. z ∷ (xs ++ (40 ∷ other))) (head_of x w (xs ++ (40 ∷ tail)) (ws ++ (40 ∷ V)) e) ∙ ap (λ l. w ∷ l) o.is }

-- a list in parentheses, with white space around it
pub record Parenthesized {A : Type 0} (P : A → Rule) (xs : List A) (from rest : List ℕ) : Type 0 where
  pub white : List ℕ
  pub list : List ℕ
  pub end : List ℕ
  pub from_is : from ≡ white ++ (40 ∷ list)
  pub all_white : list_all is_white white ≡ true
  pub items_are : Took list (Separated P xs) (41 ∷ end)
  pub end_blank : Took end Blank rest

-- a list in parentheses, cut into the white space before it, the list, and the white space behind it
pub parenthesized : {A : Type 0} (P : A → Rule) (xs : List A) (from rest : List ℕ) → Took from (Padded (Enclosed (Separated P xs))) rest → Parenthesized P xs from rest
parenthesized P xs from rest t =
    let a = apart from rest Blank (Enclosed (Separated P xs) ⨾ Blank) t in
    let b = apart a.0 rest (Enclosed (Separated P xs)) Blank a.2 in
    let c = apart a.0 b.0 (Byte 40) (Separated P xs ⨾ Byte 41) b.1 in
    let d = apart c.0 b.0 (Separated P xs) (Byte 41) c.2 in
    record {
      white = a.1.0;
      list = c.0;
      end = b.0;
      from_is = a.1.1 ∙ ap (λ l. a.1.0 ++ l) (byte_is 40 a.0 c.0 c.1);
      all_white = a.1.2;
      items_are = subst (Took c.0 (Separated P xs)) (byte_is 41 d.0 b.0 d.2) d.1;
      end_blank = b.2;
    }

any_open : (white V : List ℕ) → list_any opens (white ++ (40 ∷ V)) ≡ true
any_open [] V = refl
any_open (w ∷ ws) V = or_right (opens w) (list_any opens (ws ++ (40 ∷ V))) (any_open ws V)

-- an item has a parenthesis
OpensItem : {A : Type 0} → (A → Rule) → Type 0
OpensItem {A} P = (x : A) (from rest : List ℕ) → Took from (Padded (P x)) rest → list_any opens from ≡ true

-- a list in parentheses has a parenthesis that opens
list_opens : {A : Type 0} (P : A → Rule) (xs : List A) (from rest : List ℕ) → Took from (Padded (Enclosed (Separated P xs))) rest → list_any opens from ≡ true
list_opens P xs from rest t = let p = parenthesized P xs from rest t in ap (list_any opens) p.from_is ∙ any_open p.white p.list

-- so has a list of items that have one
separated_opens : {A : Type 0} (P : A → Rule) → OpensItem P → (xs : List A) (from rest : List ℕ) → Took from (Separated P xs) rest → list_any opens from ≡ true
unfolding OpensItem
separated_opens P item_opens [] from rest t = absurd t.2
separated_opens P item_opens (x ∷ []) from rest t = item_opens x from rest t
separated_opens P item_opens (x ∷ y ∷ more) from rest t = let c = comma_behind P x y more from rest t in item_opens x from (44 ∷ c.0) c.1

-- so have lines and rings
line_opens : OpensItem LineText
unfolding OpensItem
line_opens x = list_opens PositionText x

-- and polygons
polygon_opens : OpensItem PolygonText
unfolding OpensItem
polygon_opens x = list_opens LineText x

-- ---- items
-- a parenthesis and a list that is too long
enclosed_open : {A : Type 0} (inner : Reader (List A)) (i : Input) (L : List ℕ) → i.left ≡ 40 ∷ L → ((j : Input) → j.left ≡ L → IsFull (inner j)) → IsFull (enclosed inner i)
enclosed_open inner i L is full = then_full (λ _ j. j.left ≡ L) (expect 40 i) _ (expect_read 40 i L is) (λ _ j j_is. full_then (inner j) _ (full j j_is))

-- the same with white space before the parenthesis
pub padded_open : {A : Type 0} (inner : Reader (List A)) (i : Input) (white L : List ℕ) → list_all is_white white ≡ true → i.left ≡ white ++ (40 ∷ L) → ((j : Input) → j.left ≡ L → IsFull (inner j))
    → IsFull (padded (enclosed inner) i)
padded_open inner i white L all is full =
    let j = after (prefix_len is_white i.left) i in
    full_then (enclosed inner j) _ (enclosed_open inner j L (read_run is_white i.left white (40 ∷ L) is all refl).1 full)

-- where no ring may come, its parenthesis is enough
pub no_ring : (i : Input) (white V : List ℕ) → list_all is_white white ≡ true → i.left ≡ white ++ (40 ∷ V) → IsFull {A = List Position} (padded (expect 40 >> too_long) i)
no_ring i white V all is =
    let j = after (prefix_len is_white i.left) i in
    let j_is : j.left ≡ 40 ∷ V = (read_run is_white i.left white (40 ∷ V) is all refl).1 in
    full_then {A = List Position} ((expect 40 >> too_long) j) _
    (then_full (λ _ k. k.left ≡ V) (expect 40 j) (λ _. too_long) (expect_read 40 j V j_is) (λ _ k known. tt))

-- behind the first bytes of the front
pub at_front : (P inside other front left : List ℕ) (c : ℕ) → front ≡ P ++ (c ∷ inside) → left ≡ front ++ other → left ≡ P ++ (c ∷ (inside ++ other))
at_front P inside other front left c e is = is ∙ (ap (λ f. f ++ other) e ∙ append_assoc P (c ∷ inside) other)

-- an item whose last parenthesis opens a ring too many
OpenItem : {A : Type 0} → (A → Rule) → (ℕ → ℕ → Reader A) → (A → List (List Position)) → Type 0
OpenItem {A} P item rings = (count room : ℕ) (x : A) (i : Input) (front tail other from rest : List ℕ) → count < length (rings x) → from ≡ front ++ (40 ∷ tail) → list_any opens tail ≡ false
    → Took from (Padded (P x)) rest → i.left ≡ front ++ (40 ∷ other) → IsFull (padded (item count room) i)

-- an item before the last fits and is read whole, or is too long itself; the last parenthesis opens in the last item
open_items : {A : Type 0} (P : A → Rule) (item : ℕ → ℕ → Reader A) (rings : A → List (List Position)) → HasRings P rings → ReadsItem P item rings → FullItem P item rings → OpensItem P → OpenItem P item rings
    → (turns count room : ℕ) (xs : List A) (i : Input) (front tail other from rest : List ℕ) → count ≤ turns → count < length (rings_of rings xs) → from ≡ front ++ (40 ∷ tail) → list_any opens tail ≡ false
    → Took from (Separated P xs) rest → i.left ≡ front ++ (40 ∷ other) → IsFull (items item rings turns count room i)
unfolding OpenItem
open_items P item rings has complete full item_opens last turns count room [] i front tail other from rest enough many split none t is = absurd t.2
open_items P item rings has complete full item_opens last turns count room (x ∷ []) i front tail other from rest enough many split none t is = item_full item rings turns count room i
    (last count room x i front tail other from rest (subst (λ rs. count < length rs) (append-nil (rings x)) many) split none t is)
open_items P item rings has complete full item_opens last turns count room (x ∷ y ∷ more) i front tail other from rest enough many split none t is = go (comma_behind P x y more from rest t)
    (λ s j f g few enough_left split_too took left_is. open_items P item rings has complete full item_opens last s (count - length (rings x)) (room - positions_in (rings x)) (y ∷ more) j f tail other g rest enough_left few split_too none took left_is)
  where
    fewer : FitsCounts count room (rings x) → count - length (rings x) < length (rings_of rings (y ∷ more))
    fewer fits = omega (arith, length-append (rings x) (rings_of rings (y ∷ more)), fits.0, many)

    go : (V : List ℕ) × Took from (Padded (P x)) (44 ∷ V) × Took V (Separated P (y ∷ more)) rest
        → ((s : ℕ) (j : Input) (f g : List ℕ) → count - length (rings x) < length (rings_of rings (y ∷ more)) → count - length (rings x) ≤ s → g ≡ f ++ (40 ∷ tail) → Took g (Separated P (y ∷ more)) rest
        → j.left ≡ f ++ (40 ∷ other) → IsFull (items item rings s (count - length (rings x)) (room - positions_in (rings x)) j))
        → IsFull (items item rings turns count room i)
    go c again = made (behind front c.1.0 44 c.0 tail (sym split ∙ c.1.1) (separated_opens P item_opens (y ∷ more) c.0 rest c.2) none)
      where
        made : Behind front c.1.0 44 c.0 tail → IsFull (items item rings turns count room i)
        made b = item_and_more P item rings has complete full turns count room x i (b.rest ++ (40 ∷ other)) enough
            (c.1.0, at_front c.1.0 b.rest (40 ∷ other) front i.left 44 b.front_is is, c.1.2)
            (λ s j enough_left fits j_is. again s j b.rest c.0 (fewer fits) enough_left b.left_is c.2 j_is)

-- ---- rings and elements, polygons
-- an element or ring that is one too many: its parenthesis is enough
open_ring : OpenItem LineText ring alone
unfolding OpenItem ring
open_ring zero room x i front tail other from rest many split none t is =
    let o = parenthesized PositionText x from rest t in
    let p = opening front tail other o.white o.list o.all_white (sym split ∙ o.from_is) in
    no_ring i o.white p.more o.all_white (is ∙ p.is)
open_ring (suc count) room x i front tail other from rest many split none t is = absurd (omega (arith, many))

-- elements or rings with one too many
open_parts : (count room : ℕ) (xs : List (List Position)) (i : Input) (front tail other from rest : List ℕ) → count < length xs → from ≡ front ++ (40 ∷ tail) → list_any opens tail ≡ false
    → Took from (Separated LineText xs) rest → i.left ≡ front ++ (40 ∷ other) → IsFull (parts count room i)
open_parts count room xs i front tail other from rest many split none t is = rw (parts_are_items count room i)
    (open_items LineText ring alone one_ring ring_read ring_full line_opens open_ring count count room xs i front tail other from rest (le_refl count)
    (subst (λ rs. count < length rs) (sym (alone_of xs)) many) split none t is)

-- a polygon with a ring too many: its own parenthesis opens before that ring's
open_polygon : OpenItem PolygonText polygon itself
unfolding OpenItem polygon
open_polygon count room x i front tail other from rest many split none t is = go (parenthesized LineText x from rest t)
  where
    go : Parenthesized LineText x from rest → IsFull (padded (enclosed (parts count room)) i)
    go o = made (behind front o.white 40 o.list tail (sym split ∙ o.from_is) (separated_opens LineText line_opens x o.list (41 ∷ o.end) o.items_are) none)
      where
        made : Behind front o.white 40 o.list tail → IsFull (padded (enclosed (parts count room)) i)
        made b = padded_open (parts count room) i o.white (b.rest ++ (40 ∷ other)) o.all_white (at_front o.white b.rest (40 ∷ other) front i.left 40 b.front_is is)
            (λ k k_is. open_parts count room x k b.rest tail other o.list (41 ∷ o.end) many b.left_is none o.items_are k_is)

-- polygons with a ring too many among them
open_polygons : (turns count room : ℕ) (xs : List (List (List Position))) (i : Input) (front tail other from rest : List ℕ) → count ≤ turns → count < length (joined_rings xs) → from ≡ front ++ (40 ∷ tail)
    → list_any opens tail ≡ false → Took from (Separated PolygonText xs) rest → i.left ≡ front ++ (40 ∷ other) → IsFull (polygons turns count room i)
open_polygons turns count room xs i front tail other from rest enough many split none t is = rw (polygons_are_items turns count room i)
    (open_items PolygonText polygon itself rings_of_polygon polygon_read polygon_full polygon_opens open_polygon turns count room xs i front tail other from rest enough many split none t is)

-- ---- the whole text
-- behind the name: white space, the list's parenthesis and the parts
pub body_open : {A : Type 0} (inner : Reader (List A)) (i : Input) (white L : List ℕ) → list_all is_white white ≡ true → i.left ≡ white ++ (40 ∷ L) → ((j : Input) → j.left ≡ L → IsFull (inner j)) → IsFull (body inner i)
unfolding body
body_open inner i white L all is full =
    let left = drop (prefix_len is_white i.left) i.left in
    let left_is : left ≡ 40 ∷ L = (read_run is_white i.left white (40 ∷ L) is all refl).1 in
    let no_letter : prefix_len is_ascii_alphabetic left ≡ 0 = no_run is_ascii_alphabetic left (ap (begins_with is_ascii_alphabetic) left_is) in
    let past : drop (prefix_len is_ascii_alphabetic left) left ≡ 40 ∷ L = ap (λ n. drop n left) no_letter ∙ left_is in
    let k = after (prefix_len is_ascii_alphabetic left) (after (prefix_len is_white i.left) i) in
    rw (ap (λ n. length (take n left) == 0) no_letter) (enclosed_open inner k L past full)

-- white space or none, and then a parenthesis, don't begin with a letter
pub not_letter : (white L : List ℕ) → list_all is_white white ≡ true → begins_with is_ascii_alphabetic (white ++ (40 ∷ L)) ≡ false
not_letter [] L all = refl
not_letter (w ∷ ws) L all = (white_byte w [] (and_parts (is_white w) (list_all is_white ws) all).0).2

-- a text that isn't empty: white space, the name, white space, the parenthesis, the items, the other parenthesis
pub record Layout {A : Type 0} (own : List ℕ) (P : A → Rule) (xs : List A) (text : List ℕ) : Type 0 where
  pub before : List ℕ
  pub name : List ℕ
  pub white : List ℕ
  pub list : List ℕ
  pub end : List ℕ
  pub before_white : list_all is_white before ≡ true
  pub name_is : Word own name
  pub all_white : list_all is_white white ≡ true
  pub items_are : Took list (Separated P xs) (41 ∷ end)
  pub end_white : list_all is_white end ≡ true
  pub text_is : text ≡ (before ++ (name ++ white)) ++ (40 ∷ list)

-- the text of a geometry that isn't empty has this layout
pub layout : {A : Type 0} (own : List ℕ) (P : A → Rule) (x : A) (xs : List A) (text : List ℕ) → Padded (Word own ⨾ Body P (x ∷ xs)) text → Layout own P (x ∷ xs) text
layout own P x xs text t = go (apart text [] Blank ((Word own ⨾ Body P (x ∷ xs)) ⨾ Blank) (text, sym (append-nil text), t))
  where
    made : (ys zs end : List ℕ) → Took text Blank ys → Took ys (Word own) zs → Took zs (Blank ⨾ Enclosed (Separated P (x ∷ xs))) end → list_all is_white end ≡ true → Layout own P (x ∷ xs) text
    made ys zs end a w m white =
        let p = apart zs end Blank (Enclosed (Separated P (x ∷ xs))) m in
        let q = apart p.0 end (Byte 40) (Separated P (x ∷ xs) ⨾ Byte 41) p.2 in
        let r = apart q.0 end (Separated P (x ∷ xs)) (Byte 41) q.2 in
        record {
          before = a.0;
          name = w.0;
          white = p.1.0;
          list = q.0;
          end = end;
          before_white = a.2;
          name_is = w.2;
          all_white = p.1.2;
          items_are = subst (Took q.0 (Separated P (x ∷ xs))) (byte_is 41 r.0 end r.2) r.1;
          end_white = white;
          text_is = a.1 ∙ (ap (λ u. a.0 ++ u) (w.1 ∙ (ap (λ u. w.0 ++ u) (p.1.1 ∙ ap (λ u. p.1.0 ++ u) (byte_is 40 p.0 q.0 q.1)) ∙ sym (append_assoc w.0 p.1.0 (40 ∷ q.0))))
              ∙ sym (append_assoc a.0 (w.0 ++ p.1.0) (40 ∷ q.0)));
        }

    all_of : (zs : List ℕ) → Took zs Blank [] → list_all is_white zs ≡ true
    all_of zs b = ap (list_all is_white) (b.1 ∙ append-nil b.0) ∙ b.2

    tagged_at : (ys : List ℕ) → Took text Blank ys → (zs : List ℕ) × Took ys (Word own ⨾ Body P (x ∷ xs)) zs × Took zs Blank [] → Layout own P (x ∷ xs) text
    tagged_at ys a b = word_at_it (apart ys b.0 (Word own) (Body P (x ∷ xs)) b.1)
      where
        word_at_it : (zs : List ℕ) × Took ys (Word own) zs × Took zs (Body P (x ∷ xs)) b.0 → Layout own P (x ∷ xs) text
        word_at_it c = made ys c.0 b.0 a c.1 c.2 (all_of b.0 b.2)

    go : (ys : List ℕ) × Took text Blank ys × Took ys ((Word own ⨾ Body P (x ∷ xs)) ⨾ Blank) [] → Layout own P (x ∷ xs) text
    go a = tagged_at a.0 a.1 (apart a.0 [] (Word own ⨾ Body P (x ∷ xs)) Blank a.2)

-- what a type's name makes of a list that is too long
abbrev pub Named : {A : Type 0} → List ℕ → Reader (List A) → Type 0
Named own inner = (at : ℕ) (n : List ℕ) (i : Input) → Word own n → IsFull (body inner i) → IsFull (typed at n i)

-- a text with this layout up to the list's parenthesis is too long where what comes after is
pub whole_by_list : {A : Type 0} (own : List ℕ) (P : A → Rule) (xs : List A) (text : List ℕ) (inner : Reader (List A)) → list_all is_ascii_alphabetic (map to_ascii_lowercase own) ≡ true → 0 < length own
    → Named own inner → (y : Layout own P xs text) (i : Input) (L : List ℕ) → i.left ≡ (y.before ++ (y.name ++ y.white)) ++ (40 ∷ L) → ((k : Input) → k.left ≡ L → IsFull (inner k)) → IsFull (whole i)
unfolding whole tagged
whole_by_list own P xs text inner letters_are long named_full y i L is full =
    let behind_name = y.white ++ (40 ∷ L) in
    let j = after (prefix_len is_white i.left) i in
    let j_is : j.left ≡ y.name ++ behind_name = (read_run is_white i.left y.before (y.name ++ behind_name) left_is y.before_white (word_begins y.name behind_name name_letters name_long)).1 in
    let r = read_run is_ascii_alphabetic j.left y.name behind_name j_is name_letters (not_letter y.white L y.all_white) in
    let n = prefix_len is_ascii_alphabetic j.left in
    full_then (padded tagged i) _ (full_then (tagged j) _ (named_full j.at (take n j.left) (after n j) (ap str_to_ascii_lowercase r.0 ∙ y.name_is) (body_open inner (after n j) y.white L y.all_white r.1 full)))
  where
    name_letters : list_all is_ascii_alphabetic y.name ≡ true
    name_letters = letters y.name (ap (list_all is_ascii_alphabetic) y.name_is ∙ letters_are)

    name_long : 0 < length y.name
    name_long = subst (λ n. 0 < n) (sym (same_length y.name own y.name_is)) long

    left_is : i.left ≡ y.before ++ (y.name ++ (y.white ++ (40 ∷ L)))
    left_is = is ∙ (append_assoc y.before (y.name ++ y.white) (40 ∷ L) ∙ ap (λ u. y.before ++ u) (append_assoc y.name y.white (40 ∷ L)))

-- ---- the types with parts
-- a list that is too long makes the text so behind its name: MULTILINESTRING
pub lines_named : Named (codes "MULTILINESTRING") (parts part_limit position_limit)
unfolding typed
lines_named at n i w full =
    rw (named n (codes "MULTILINESTRING") (codes "POINT") w, named n (codes "MULTILINESTRING") (codes "MULTIPOINT") w, named n (codes "MULTILINESTRING") (codes "LINESTRING") w, named n (codes "MULTILINESTRING") (codes "MULTILINESTRING") w)
    (full_then (lists i) _ full)

-- the same behind POLYGON
pub rings_named : Named (codes "POLYGON") (parts part_limit position_limit)
unfolding typed
rings_named at n i w full =
    rw (
      named n (codes "POLYGON") (codes "POINT") w,
      named n (codes "POLYGON") (codes "MULTIPOINT") w,
      named n (codes "POLYGON") (codes "LINESTRING") w,
      named n (codes "POLYGON") (codes "MULTILINESTRING") w,
      named n (codes "POLYGON") (codes "POLYGON") w,
    )
    (full_then (lists i) _ full)

-- and behind MULTIPOLYGON
pub polygons_named : Named (codes "MULTIPOLYGON") (polygons part_limit part_limit position_limit)
unfolding typed
polygons_named at n i w full =
    rw (
      named n (codes "MULTIPOLYGON") (codes "POINT") w,
      named n (codes "MULTIPOLYGON") (codes "MULTIPOINT") w,
      named n (codes "MULTIPOLYGON") (codes "LINESTRING") w,
      named n (codes "MULTIPOLYGON") (codes "MULTILINESTRING") w,
      named n (codes "MULTIPOLYGON") (codes "POLYGON") w,
      named n (codes "MULTIPOLYGON") (codes "MULTIPOLYGON") w,
    )
    (full_then (nested_lists i) _ full)

-- the list's own parenthesis opens before the last one, so reading comes to the list, which is too long
whole_open : {A : Type 0} (own : List ℕ) (P : A → Rule) (inner : Reader (List A)) (xs : List A) (text front tail other : List ℕ) → list_all is_ascii_alphabetic (map to_ascii_lowercase own) ≡ true → 0 < length own
    → Named own inner → OpensItem P → Layout own P xs text → text ≡ front ++ (40 ∷ tail) → list_any opens tail ≡ false
    → ((k : Input) (f g rest : List ℕ) → g ≡ f ++ (40 ∷ tail) → Took g (Separated P xs) rest → k.left ≡ f ++ (40 ∷ other) → IsFull (inner k))
    → IsFull (whole (record { left = front ++ (40 ∷ other); at = 0 }))
whole_open own P inner xs text front tail other letters_are long named_full item_opens y split none full = go
    (behind front (y.before ++ (y.name ++ y.white)) 40 y.list tail (sym split ∙ y.text_is) (separated_opens P item_opens xs y.list (41 ∷ y.end) y.items_are) none)
  where
    go : Behind front (y.before ++ (y.name ++ y.white)) 40 y.list tail → IsFull (whole (record { left = front ++ (40 ∷ other); at = 0 }))
    go b = whole_by_list own P xs text inner letters_are long named_full y (record { left = front ++ (40 ∷ other); at = 0 }) (b.rest ++ (40 ∷ other))
        (at_front (y.before ++ (y.name ++ y.white)) b.rest (40 ∷ other) front (front ++ (40 ∷ other)) 40 b.front_is refl)
        (λ k k_is. full k b.rest y.list (41 ∷ y.end) b.left_is y.items_are k_is)

-- a geometry without parts hasn't that many
no_parts : (m n : ℕ) → m ≡ 0 → m ≡ n + 1 → ⊥
no_parts m n e k = omega (arith, e, k)

-- type by type: whatever comes after the parenthesis that opens a part too many, the text is too long
opened : (w : Geometry) (text front tail other : List ℕ) → Writes w text → text ≡ front ++ (40 ∷ tail) → list_any opens tail ≡ false → length (written_parts w) ≡ part_limit + 1
    → IsFull (whole (record { left = front ++ (40 ∷ other); at = 0 }))
opened (Point p) text front tail other t split none counted = absurd (no_parts 0 part_limit refl counted)
opened (MultiPoint ps) text front tail other t split none counted = absurd (no_parts 0 part_limit refl counted)
opened (LineString ps) text front tail other t split none counted = absurd (no_parts 0 part_limit refl counted)
opened (MultiLineString []) text front tail other t split none counted = absurd (no_parts 0 part_limit refl counted)
opened (MultiPolygon []) text front tail other t split none counted = absurd (no_parts 0 part_limit refl counted)
opened (Polygon []) text front tail other t split none counted = absurd (no_parts 0 part_limit refl counted)
opened (MultiLineString (l ∷ ls)) text front tail other t split none counted = whole_open (codes "MULTILINESTRING") LineText (parts part_limit position_limit) (l ∷ ls) text front tail other refl (zero-lt-suc 14) lines_named line_opens
    (layout (codes "MULTILINESTRING") LineText l ls text t) split none
    (λ k f g rest split_too took is. open_parts part_limit position_limit (l ∷ ls) k f tail other g rest (omega (arith, counted)) split_too none took is)
opened (Polygon (r ∷ rs)) text front tail other t split none counted = whole_open (codes "POLYGON") LineText (parts part_limit position_limit) (r ∷ rs) text front tail other refl (zero-lt-suc 6) rings_named line_opens
    (layout (codes "POLYGON") LineText r rs text t) split none
    (λ k f g rest split_too took is. open_parts part_limit position_limit (r ∷ rs) k f tail other g rest (omega (arith, counted)) split_too none took is)
opened (MultiPolygon (e ∷ es)) text front tail other t split none counted = whole_open (codes "MULTIPOLYGON") PolygonText (polygons part_limit part_limit position_limit) (e ∷ es) text front tail other refl (zero-lt-suc 11)
    polygons_named polygon_opens (layout (codes "MULTIPOLYGON") PolygonText e es text t) split none
    (λ k f g rest split_too took is. open_polygons part_limit part_limit position_limit (e ∷ es) k f tail other g rest (le_refl part_limit) (omega (arith, counted)) split_too none took is)

-- what closes the text opens no parenthesis
no_opening : (xs : List ℕ) → list_any begins_more xs ≡ false → list_any opens xs ≡ false
no_opening [] e = refl
no_opening (x ∷ xs) e = let parts = or_parts (begins_more x) (list_any begins_more xs) e in
    let here = or_parts (is_ascii_digit x) (x == 40) parts.0 in
    rw here.1 (no_opening xs parts.1)

-- a text with one part too many begins like this one; reading comes to the parenthesis, where none may come
pub too_many_parts_are_too_long : (text : List ℕ) → HasTooManyParts text → read_text text ≡ Err TooLong
unfolding read_text
too_many_parts_are_too_long text h = ap outcome (full_is (whole (record { left = text; at = 0 })) (subst (λ u. IsFull (whole (record { left = u; at = 0 }))) (sym (h.split ∙ open_behind h.front h.tail))
    (opened h.written (h.front ++ codes "(+0 0" ++ h.closing) h.front (codes "+0 0" ++ h.closing) h.tail h.spelled (zero_behind h.front h.closing) (no_opening h.closing h.no_more) h.counted)))
  where
    open_behind : (front rest : List ℕ) → front ++ codes "(" ++ rest ≡ front ++ (40 ∷ rest)
    open_behind front rest = append_assoc front (codes "(") rest

    zero_behind : (front rest : List ℕ) → front ++ codes "(+0 0" ++ rest ≡ front ++ (40 ∷ (codes "+0 0" ++ rest))
    zero_behind front rest = append_assoc front (codes "(+0 0") rest
