-- The canonical text of what a text spells spells it again.
use Rattle.std.proofs.Common.{◌≡◌, refl, sym, ap, ◌∙◌, subst, ℕ, suc, ◌<◌, ◌≤◌, inl, inr, ℤ, pos, negsuc, neg_ℤ, Bool, true, false, cond, List, [], ◌∷◌, ◌++◌, length, map, codes, unsigned_abs, append_assoc, append-nil, length-append, suc-le-suc, zero-le, le_trans, le_refl, zero-lt-suc, arith}
use Rattle.std.specs.List.{list_all, flat_map, dedup_from, join_with_byte, AllByRecursion}
use Rattle.std.specs.Option.{option_to_list}
use Rattle.std.specs.Char.{is_ascii_digit, digit_value}
use Rattle.std.specs.Fmt.{decimal, signed_decimal}
use Rattle.std.specs.Str.Parse.{digits_value, AllDigits}
use Rattle.std.proofs.lemmas.Fmt.{decimal_is_IsNumeral}
use Rattle.basics.proofs.Numbers.{negated}
use Rattle.geometry_model.specs.Points.{Position}
use Rattle.geometry_model.specs.Geometries.{Geometry, Point, MultiPoint, LineString, MultiLineString, Polygon, MultiPolygon, joined_rings}
use Rattle.geometry_model.specs.WellKnownText.{Rule, ◌⨾◌, Padded, Enclosed, Word, Separated, Sign, Number, PositionText, PointText, LineText, PolygonText, Body, TaggedText, Spells, IsWithinCounts, coordinate_limit, signed, same_position, without_repeats, geometry_of}
use Rattle.geometry_model.specs.CanonicalText.{position_text, point_text, listed_text, line_text, polygon_text, tagged_text, canonical_text}
use Rattle.text_laws.specs.ReadingLaws.{CanonicalTextSpells}

-- repeats

-- a position that repeats the one before it is left out, and any other is kept: what holds of all holds in both cases
dropped : (Q : Position → Type 0) (k x : Position) (xs : List Position) (same : Bool)
    → AllByRecursion Q (dedup_from same_position k xs) → AllByRecursion Q (dedup_from same_position x xs) → Q k
    → AllByRecursion Q (cond same (dedup_from same_position k xs) (k ∷ dedup_from same_position x xs))
dropped Q k x xs true all_k all_x first = all_k
dropped Q k x xs false all_k all_x first = (first, all_x)

-- a property of all positions is one of those that are kept behind a first
all_from : (Q : Position → Type 0) (k : Position) (xs : List Position) → Q k → AllByRecursion Q xs → AllByRecursion Q (dedup_from same_position k xs)
all_from Q k [] first all = (first, tt)
all_from Q k (x ∷ xs) first all = dropped Q k x xs (same_position x k) (all_from Q k xs first all.1) (all_from Q x xs all.0 all.1) first

-- so it is one of a line or ring without its repeats
all_kept : (Q : Position → Type 0) (xs : List Position) → AllByRecursion Q xs → AllByRecursion Q (without_repeats xs)
all_kept Q [] all = tt
all_kept Q (x ∷ xs) all = all_from Q x xs all.0 all.1

-- what is kept behind the first
abbrev pub rest_from : Position → List Position → List Position
rest_from k [] = []
rest_from k (x ∷ xs) = cond (same_position x k) (rest_from k xs) (x ∷ rest_from x xs)

-- the first position stays whether the second is left out or not
first_and_rest : (k x : Position) (xs : List Position) (same : Bool) → dedup_from same_position k xs ≡ k ∷ rest_from k xs → dedup_from same_position x xs ≡ x ∷ rest_from x xs
    → cond same (dedup_from same_position k xs) (k ∷ dedup_from same_position x xs) ≡ k ∷ cond same (rest_from k xs) (x ∷ rest_from x xs)
first_and_rest k x xs true e f = e
first_and_rest k x xs false e f = ap (λ r. k ∷ r) f

-- without repeats a list begins with its first position
pub from_rest : (k : Position) (xs : List Position) → dedup_from same_position k xs ≡ k ∷ rest_from k xs
from_rest k [] = refl
from_rest k (x ∷ xs) = first_and_rest k x xs (same_position x k) (from_rest k xs) (from_rest x xs)

-- of what is kept nothing more is left out, whether the second position was or not
steadied : (k x : Position) (xs : List Position) (same : Bool) → same_position x k ≡ same → dedup_from same_position k (rest_from k xs) ≡ k ∷ rest_from k xs
    → dedup_from same_position x (rest_from x xs) ≡ x ∷ rest_from x xs
    → dedup_from same_position k (cond same (rest_from k xs) (x ∷ rest_from x xs)) ≡ k ∷ cond same (rest_from k xs) (x ∷ rest_from x xs)
steadied k x xs true is e f = e
steadied k x xs false is e f = rw is (ap (λ r. k ∷ r) f)

-- no position that is kept repeats the one before it, so nothing more is left out
steady : (k : Position) (xs : List Position) → dedup_from same_position k (rest_from k xs) ≡ k ∷ rest_from k xs
steady k [] = refl
steady k (x ∷ xs) = steadied k x xs (same_position x k) refl (steady k xs) (steady x xs)

-- where no neighbours are equal there is nothing more to leave out
pub repeats_once : (xs : List Position) → without_repeats (without_repeats xs) ≡ without_repeats xs
repeats_once [] = refl
repeats_once (x ∷ xs) = ap without_repeats (from_rest x xs) ∙ (steady x xs ∙ sym (from_rest x xs))

-- the same of each line or ring
pub repeats_once_each : (xs : List (List Position)) → map without_repeats (map without_repeats xs) ≡ map without_repeats xs
repeats_once_each [] = refl
repeats_once_each (x ∷ xs) = rw (repeats_once x, repeats_once_each xs) refl

shortened : (k x : Position) (xs : List Position) (same : Bool) → length (dedup_from same_position k xs) ≤ suc (length xs) → length (dedup_from same_position x xs) ≤ suc (length xs)
    → length (cond same (dedup_from same_position k xs) (k ∷ dedup_from same_position x xs)) ≤ suc (suc (length xs))
shortened k x xs true e f = omega (arith, e)
shortened k x xs false e f = suc-le-suc f

-- leaving out repeats makes no list longer
shorter_from : (k : Position) (xs : List Position) → length (dedup_from same_position k xs) ≤ suc (length xs)
shorter_from k [] = le_refl 1
shorter_from k (x ∷ xs) = shortened k x xs (same_position x k) (shorter_from k xs) (shorter_from x xs)

-- so a line or ring has no more positions without its repeats
shorter : (xs : List Position) → length (without_repeats xs) ≤ length xs
shorter [] = zero-le
shorter (x ∷ xs) = shorter_from x xs

-- nor have several together
shorter_each : (xs : List (List Position)) → length (flat_map (λ x. x) (map without_repeats xs)) ≤ length (flat_map (λ x. x) xs)
shorter_each [] = zero-le
shorter_each (x ∷ xs) = omega (arith, shorter x, shorter_each xs, length-append x (flat_map (λ y. y) xs), length-append (without_repeats x) (flat_map (λ y. y) (map without_repeats xs)))

-- and there are as many of them
as_many : (xs : List (List Position)) → length (map without_repeats xs) ≡ length xs
as_many [] = refl
as_many (x ∷ xs) = ap suc (as_many xs)

-- the same of the rings of each polygon
repeats_once_all : (es : List (List (List Position))) → map (map without_repeats) (map (map without_repeats) es) ≡ map (map without_repeats) es
repeats_once_all [] = refl
repeats_once_all (e ∷ es) = rw (repeats_once_each e, repeats_once_all es) refl

-- the rings of polygons without repeats are their rings without repeats
pub rings_kept : (es : List (List (List Position))) → joined_rings (map (map without_repeats) es) ≡ map without_repeats (joined_rings es)
rings_kept [] = refl
rings_kept (e ∷ es) = ap (λ rs. map without_repeats e ++ rs) (rings_kept es) ∙ sym (map-append e (joined_rings es))
  where
    map-append : (xs ys : List (List Position)) → map without_repeats (xs ++ ys) ≡ map without_repeats xs ++ map without_repeats ys
    map-append [] ys = refl
    map-append (x ∷ xs) ys = ap (λ rs. without_repeats x ∷ rs) (map-append xs ys)

-- the geometry of what is written has no repeats left, so it is its own geometry
geometry_again : (w : Geometry) → geometry_of (geometry_of w) ≡ geometry_of w
geometry_again (Point p) = refl
geometry_again (MultiPoint ps) = refl
geometry_again (LineString ps) = ap LineString (repeats_once ps)
geometry_again (MultiLineString ls) = ap MultiLineString (repeats_once_each ls)
geometry_again (Polygon rs) = ap Polygon (repeats_once_each rs)
geometry_again (MultiPolygon es) = ap MultiPolygon (repeats_once_all es)

-- dropping repeats keeps what is written within the counts
pub counts_again : (w : Geometry) → IsWithinCounts w → IsWithinCounts (geometry_of w)
counts_again (Point p) within = within
counts_again (MultiPoint ps) within = within
counts_again (LineString ps) within = (le_trans (shorter ps) within.0, within.1)
counts_again (MultiLineString ls) within = (le_trans (shorter_each ls) within.0, rw (as_many ls) within.1)
counts_again (Polygon rs) within = (le_trans (shorter_each rs) within.0, rw (as_many rs) within.1)
counts_again (MultiPolygon es) within = rw (rings_kept es) (le_trans (shorter_each (joined_rings es)) within.0, rw (as_many (joined_rings es)) within.1)

-- what is written lies within the limits

-- so a number's size is the value of its digits
signed_size : (minus : Bool) (whole : List ℕ) → unsigned_abs (signed minus whole) ≡ digits_value 10 whole
signed_size false whole = refl
signed_size true whole = negated (digits_value 10 whole)

-- the grammar takes numbers within the limit only
number_limits : (z : ℤ) (text : List ℕ) → Number z text → unsigned_abs z ≤ coordinate_limit
number_limits z text n = rw (n.6, signed_size n.0 n.1) n.5

abbrev Limits : Position → Type 0
Limits p = (unsigned_abs p.x ≤ coordinate_limit) × (unsigned_abs p.y ≤ coordinate_limit)

-- so both coordinates of a position are within it
position_limits : (p : Position) (text : List ℕ) → PositionText p text → Limits p
position_limits p text t = (number_limits p.x t.0 t.3, number_limits p.y t.4.1 t.4.4)

-- one or more, all of which have the property
abbrev OneOrMore : {A : Type 0} → (A → Type 0) → List A → Type 0
OneOrMore Q [] = ⊥
OneOrMore Q (x ∷ xs) = AllByRecursion Q (x ∷ xs)

-- what holds of each item of the grammar holds of all in a list, which isn't empty
each_in : {A : Type 0} (P : A → Rule) (Q : A → Type 0) → ((x : A) (text : List ℕ) → P x text → Q x) → (xs : List A) (text : List ℕ) → Separated P xs text → OneOrMore Q xs
each_in P Q limits [] text t = t
each_in P Q limits (x ∷ []) text t = (limits x t.4.0 t.4.3, tt)
each_in P Q limits (x ∷ y ∷ more) text t = (limits x t.3.4.0 t.3.4.3, each_in P Q limits (y ∷ more) t.4.1 t.4.4)

-- and of all in a body
each_of : {A : Type 0} (P : A → Rule) (Q : A → Type 0) → ((x : A) (text : List ℕ) → P x text → Q x) → (xs : List A) (text : List ℕ) → Body P xs text → AllByRecursion Q xs
each_of P Q limits [] text t = tt
each_of P Q limits (x ∷ more) text t = each_in P Q limits (x ∷ more) t.4.4.0 t.4.4.3

-- so all positions are within the limit: of a MULTIPOINT
point_limits : (p : Position) (text : List ℕ) → PointText p text → Limits p
point_limits p text (inl t) = position_limits p text t
point_limits p text (inr t) = position_limits p t.4.3.4.0 t.4.3.4.3

-- of a line or ring
line_limits : (ps : List Position) (text : List ℕ) → LineText ps text → OneOrMore Limits ps
line_limits ps text t = each_in PositionText Limits position_limits ps t.4.0 t.4.3

-- of a polygon
polygon_limits : (rs : List (List Position)) (text : List ℕ) → PolygonText rs text → OneOrMore (OneOrMore Limits) rs
polygon_limits rs text t = each_in LineText (OneOrMore Limits) line_limits rs t.4.0 t.4.3

abbrev InLimits : Geometry → Type 0
InLimits (Point p) = AllByRecursion Limits (option_to_list p)
InLimits (MultiPoint ps) = AllByRecursion Limits ps
InLimits (LineString ps) = AllByRecursion Limits ps
InLimits (MultiLineString ls) = AllByRecursion (OneOrMore Limits) ls
InLimits (Polygon rs) = AllByRecursion (OneOrMore Limits) rs
InLimits (MultiPolygon es) = AllByRecursion (OneOrMore (OneOrMore Limits)) es

-- and of a text of each type
tagged_limits : (w : Geometry) (text : List ℕ) → TaggedText w text → InLimits w
tagged_limits (Point p) text t = each_of PositionText Limits position_limits (option_to_list p) t.1 t.4
tagged_limits (MultiPoint ps) text t = each_of PointText Limits point_limits ps t.1 t.4
tagged_limits (LineString ps) text t = each_of PositionText Limits position_limits ps t.1 t.4
tagged_limits (MultiLineString ls) text t = each_of LineText (OneOrMore Limits) line_limits ls t.1 t.4
tagged_limits (Polygon rs) text t = each_of LineText (OneOrMore Limits) line_limits rs t.1 t.4
tagged_limits (MultiPolygon es) text t = each_of PolygonText (OneOrMore (OneOrMore Limits)) polygon_limits es t.1 t.4

-- a line or ring still has positions without its repeats, and they are within the limit
some_kept : (ps : List Position) → OneOrMore Limits ps → OneOrMore Limits (without_repeats ps)
some_kept [] none = none
some_kept (p ∷ ps) all = rw (from_rest p ps) (subst (AllByRecursion Limits) (from_rest p ps) (all_kept Limits (p ∷ ps) all))

-- the same of several
each_kept : (ls : List (List Position)) → AllByRecursion (OneOrMore Limits) ls → AllByRecursion (OneOrMore Limits) (map without_repeats ls)
each_kept [] all = tt
each_kept (l ∷ ls) all = (some_kept l all.0, each_kept ls all.1)

-- of the rings of a polygon
some_rings_kept : (rs : List (List Position)) → OneOrMore (OneOrMore Limits) rs → OneOrMore (OneOrMore Limits) (map without_repeats rs)
some_rings_kept [] none = none
some_rings_kept (r ∷ rs) all = each_kept (r ∷ rs) all

-- and of polygons
all_rings_kept : (es : List (List (List Position))) → AllByRecursion (OneOrMore (OneOrMore Limits)) es → AllByRecursion (OneOrMore (OneOrMore Limits)) (map (map without_repeats) es)
all_rings_kept [] all = tt
all_rings_kept (e ∷ es) all = (some_rings_kept e all.0, all_rings_kept es all.1)

-- so the geometry of what is written is within the limit, of each type
limits_kept : (w : Geometry) → InLimits w → InLimits (geometry_of w)
limits_kept (Point p) all = all
limits_kept (MultiPoint ps) all = all
limits_kept (LineString ps) all = all_kept Limits ps all
limits_kept (MultiLineString ls) all = each_kept ls all
limits_kept (Polygon rs) all = each_kept rs all
limits_kept (MultiPolygon es) all = all_rings_kept es all

-- what is printed is of the grammar

-- a byte with the value of a decimal digit is one
digit : (c : ℕ) → digit_value c < 10 → is_ascii_digit c ≡ true
digit c is = grind (arith, is)

-- so the decimal form of a number is all digits
all_digits : (ds : List ℕ) → AllDigits 10 ds → list_all is_ascii_digit ds ≡ true
all_digits [] all = refl
all_digits (c ∷ cs) all = rw (digit c all.0) (all_digits cs all.1)

-- a sign and the decimal form of a number within the limit are a number of the grammar, with no point
printed_number : (minus : Bool) (sign_text : List ℕ) (n : ℕ) → Sign minus sign_text → n ≤ coordinate_limit → (z : ℤ) → z ≡ signed minus (decimal n) → Number z (sign_text ++ decimal n)
printed_number minus sign_text n is_sign within z e = let d = decimal_is_IsNumeral n (omega (arith, within)) in (
  minus,
  decimal n,
  [],
  ((sign_text, decimal n, refl, is_sign, (decimal n, [], sym (append-nil (decimal n)), (refl, all_digits (decimal n) d.0.1), inl (refl, refl))), omega (arith, d.0.0)),
  refl,
  rw d.1 within,
  e,
)

-- a coordinate within the limit is printed as such a number: a minus and its size, or no sign
number_printed : (z : ℤ) → unsigned_abs z ≤ coordinate_limit → Number z (signed_decimal z)
number_printed (pos n) within = printed_number false [] n (inl refl) within (pos n) (ap pos (sym (decimal_is_IsNumeral n (omega (arith, within))).1))
number_printed (negsuc n) within = printed_number true (45 ∷ []) (suc n) refl within (negsuc n)
    (ap (λ m. neg_ℤ (pos m)) (sym (decimal_is_IsNumeral (suc n) (omega (arith, within))).1))

-- two such numbers with one space between are a position of the grammar
position_printed : (p : Position) → Limits p → PositionText p (position_text p)
position_printed p within = (
  signed_decimal p.x,
  32 ∷ signed_decimal p.y,
  append_assoc (signed_decimal p.x) (32 ∷ []) (signed_decimal p.y),
  number_printed p.x within.0,
  (32 ∷ [], signed_decimal p.y, refl, (zero-lt-suc 0, refl), number_printed p.y within.1),
)

-- a text of a rule is one with white space or none around it
padded : (A : Rule) (text : List ℕ) → A text → Padded A text
padded A text a = ([], text, refl, refl, (text, [], sym (append-nil text), a, refl))

-- texts of a rule with commas between are a list of the grammar
separated_printed : {A : Type 0} (P : A → Rule) (Q : A → Type 0) (f : A → List ℕ) → ((x : A) → Q x → P x (f x)) → (x : A) (more : List A) → AllByRecursion Q (x ∷ more)
    → Separated P (x ∷ more) (join_with_byte 44 (map f (x ∷ more)))
separated_printed P Q f printed x [] all = padded (P x) (f x) (printed x all.0)
separated_printed P Q f printed x (y ∷ more) all = let rest = join_with_byte 44 (map f (y ∷ more)) in
    (f x, 44 ∷ rest, refl, padded (P x) (f x) (printed x all.0), (44 ∷ [], rest, refl, refl, separated_printed P Q f printed y more all.1))

-- such a list in parentheses, where it isn't empty
listed_printed : {A : Type 0} (P : A → Rule) (Q : A → Type 0) (f : A → List ℕ) → ((x : A) → Q x → P x (f x)) → (xs : List A) → OneOrMore Q xs
    → Enclosed (Separated P xs) (listed_text (map f xs))
listed_printed P Q f printed [] none = absurd none
listed_printed P Q f printed (x ∷ more) all = let text = join_with_byte 44 (map f (x ∷ more)) in
    (40 ∷ [], text ++ 41 ∷ [], refl, refl, (text, 41 ∷ [], refl, separated_printed P Q f printed x more all, refl))

-- so a line or ring is printed as the grammar has it
line_printed : (ps : List Position) → OneOrMore Limits ps → LineText ps (line_text ps)
line_printed ps all = listed_printed PositionText Limits position_text position_printed ps all

-- and a polygon
polygon_printed : (rs : List (List Position)) → OneOrMore (OneOrMore Limits) rs → PolygonText rs (polygon_text rs)
polygon_printed rs all = listed_printed LineText (OneOrMore Limits) line_text line_printed rs all

-- a point of a MULTIPOINT is printed in parentheses
point_printed : (p : Position) → Limits p → PointText p (point_text p)
point_printed p within = inr (40 ∷ [], position_text p ++ 41 ∷ [], refl, refl, (position_text p, 41 ∷ [], refl, padded (PositionText p) (position_text p) (position_printed p within), refl))

-- a name with its list, or with EMPTY behind one space where the list is empty, is a name and a body
tagged_printed : {A : Type 0} (P : A → Rule) (Q : A → Type 0) (f : A → List ℕ) → ((x : A) → Q x → P x (f x)) → (name : List ℕ) (xs : List A) → AllByRecursion Q xs
    → (Word name ⨾ Body P xs) (tagged_text name (map f xs))
tagged_printed P Q f printed name [] all = (name, codes " EMPTY", refl, refl, (codes " ", codes "EMPTY", refl, (zero-lt-suc 0, refl), refl))
tagged_printed P Q f printed name (x ∷ more) all = (
  name,
  listed_text (map f (x ∷ more)),
  refl,
  refl,
  ([], listed_text (map f (x ∷ more)), refl, refl, listed_printed P Q f printed (x ∷ more) all),
)

-- so the canonical text of a geometry within the limit is a text of its type
geometry_printed : (w : Geometry) → InLimits w → TaggedText w (canonical_text w)
geometry_printed (Point p) all = tagged_printed PositionText Limits position_text position_printed (codes "POINT") (option_to_list p) all
geometry_printed (MultiPoint ps) all = tagged_printed PointText Limits point_text point_printed (codes "MULTIPOINT") ps all
geometry_printed (LineString ps) all = tagged_printed PositionText Limits position_text position_printed (codes "LINESTRING") ps all
geometry_printed (MultiLineString ls) all = tagged_printed LineText (OneOrMore Limits) line_text line_printed (codes "MULTILINESTRING") ls all
geometry_printed (Polygon rs) all = tagged_printed LineText (OneOrMore Limits) line_text line_printed (codes "POLYGON") rs all
geometry_printed (MultiPolygon es) all = tagged_printed PolygonText (OneOrMore (OneOrMore Limits)) polygon_text polygon_printed (codes "MULTIPOLYGON") es all

-- a canonical text writes its own geometry, which is within the limit and the counts and has no repeats left
pub canonical_text_spells : CanonicalTextSpells
canonical_text_spells text g spelled = let w = spelled.written in let h = geometry_of w in
    let all = limits_kept w (tagged_limits w spelled.spelled.4.0 spelled.spelled.4.3) in
    subst (λ k. Spells (canonical_text k) k) (sym spelled.meant)
    (record { written = h; spelled = padded (TaggedText h) (canonical_text h) (geometry_printed h all); counts = counts_again w spelled.counts; meant = sym (geometry_again w) })
