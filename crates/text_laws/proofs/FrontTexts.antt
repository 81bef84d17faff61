-- Texts that share a front, read from their beginning: the second ends with the fault of its number.
use Rattle.std.proofs.Common.{◌≡◌, refl, ap, ◌∙◌, subst, ℕ, zero, suc, ◌-◌, ◌==◌, inl, inr, false, List, [], ◌∷◌, ◌++◌, length, Result, Ok, Err, codes, if◌then◌else◌}
use Rattle.std.specs.Char.{is_ascii_alphabetic}
use Rattle.std.specs.Str.{str_eq_ignore_ascii_case}
use Rattle.basics.proofs.Numbers.{next_not_zero}
use Rattle.geometry_model.specs.Points.{Position}
use Rattle.geometry_model.specs.Geometries.{Geometry, Point, MultiPoint, LineString, MultiLineString, Polygon, MultiPolygon}
use Rattle.geometry_model.specs.WellKnownText.{is_white, position_limit, part_limit}
use Rattle.geometry_model.specs.TextReading.{Input, Reader, and_then, pure, refuse, too_long, run, eat, place, sees, ◌>>◌, ◌>>=◌, expect, padded, enclosed, position, point, separated, line, parts, polygon, polygons, body, lone, first, positions, lists, nested_lists, typed, tagged, end, whole}
use Rattle.geometry_model.specs.declared.text_faults.TextFault.{TextFault}
use Rattle.text_laws.proofs.RoomLists.{going_on, positions_in, items, ring, alone, itself, parts_are_items, polygons_are_items}
use Rattle.text_laws.proofs.TextSound.{IfRead}
use Rattle.text_laws.proofs.Fronts.{Fork, plus, Shares, Alike, Follows, Stays, then_follows, then_on, if_follows, weaker_follows, pure_follows, refuse_follows, place_follows, run_follows, sees_follows, eat_follows, not_eaten, expect_follows, padded_follows, enclosed_follows}
use Rattle.text_laws.proofs.FrontNumbers.{position_follows}

-- up to the whole text each step is made of steps that read the two texts alike, so it does: first a point of a MULTIPOINT
point_follows : (f : Fork) (room : ℕ) → Follows f (Unit {0}) (point room)
unfolding point
point_follows f room = then_on f (Unit {0}) (sees (λ c. c == 40)) (λ met. if met then enclosed (padded (position room)) else position room) (sees_follows f (λ c. c == 40) refl f.not_open)
    (λ met. if_follows f (Unit {0}) met (enclosed (padded (position room))) (position room)
    (weaker_follows f (Unit {0}) (enclosed (padded (position room))) (enclosed_follows f (Unit {0}) (padded (position room)) (padded_follows f (Unit {0}) (position room) (position_follows f room))))
    (position_follows f room))

-- neither a plus nor a number is a comma, so behind an item both readings go on or both end
going_on_follows : {A : Type 0} (f : Fork) (S : Type 0) (x : A) (more : Reader (List A)) → Follows f S more → ((xs : List A) → S → Stays f S (pure (x ∷ xs))) → Follows f S (going_on x more)
going_on_follows f S x more h stays = then_on f S (eat 44) (λ met. (if met then (more >>= λ xs. pure (x ∷ xs)) else pure (x ∷ []))) (eat_follows f 44 refl f.not_comma)
    (λ met. if_follows f S met (more >>= λ xs. pure (x ∷ xs)) (pure (x ∷ [])) (then_follows f S S more (λ xs. pure (x ∷ xs)) h (λ xs. pure_follows f S (x ∷ xs)) (λ s xs. stays xs s)) (pure_follows f S (x ∷ [])))

-- at the plus no comma is there, so a list ends there
going_on_stays : {A : Type 0} (f : Fork) (x : A) (more : Reader (List A)) → Stays f (Unit {0}) (going_on x more)
going_on_stays f x more i e = rw (not_eaten f 44 refl i e) (tt, e)

-- positions with commas between; the first reading may end such a list at the plus
separated_follows : {A : Type 0} (f : Fork) (item : ℕ → Reader A) → ((room : ℕ) → Follows f (Unit {0}) (item room)) → (room : ℕ) → Follows f (Unit {0}) (separated item room)
unfolding separated
separated_follows f item h zero = then_follows f (Unit {0}) (Unit {0}) (padded (item zero)) (λ x. pure (x ∷ [])) (padded_follows f (Unit {0}) (item zero) (h zero))
    (λ x. pure_follows f (Unit {0}) (x ∷ [])) (λ _ x i e. (tt, e))
separated_follows f item h (suc room) = then_follows f (Unit {0}) (Unit {0}) (padded (item (suc room))) (λ x. going_on x (separated item room)) (padded_follows f (Unit {0}) (item (suc room)) (h (suc room)))
    (λ x. going_on_follows f (Unit {0}) x (separated item room) (separated_follows f item h room) (λ xs _ i e. (tt, e)))
    (λ _ x. going_on_stays f x (separated item room))

-- a line ends with a parenthesis, so the first reading isn't at the plus behind it
line_follows : (f : Fork) (room : ℕ) → Follows f ⊥ (line room)
unfolding line
line_follows f room = enclosed_follows f (Unit {0}) (separated position room) (separated_follows f position (position_follows f) room)

-- rings, elements and polygons end with a parenthesis each, so no list of them ends at the plus
items_follow : {A : Type 0} (f : Fork) (item : ℕ → ℕ → Reader A) (rings : A → List (List Position)) → ((count room : ℕ) → Follows f ⊥ (item count room))
    → (turns count room : ℕ) → Follows f ⊥ (items item rings turns count room)
unfolding items
items_follow f item rings h zero count room = then_on f ⊥ (padded (item count room)) (λ x. pure (x ∷ [])) (padded_follows f ⊥ (item count room) (h count room)) (λ x. pure_follows f ⊥ (x ∷ []))
items_follow f item rings h (suc turns) count room = then_on f ⊥ (padded (item count room)) (λ x. going_on x (items item rings turns (count - length (rings x)) (room - positions_in (rings x))))
    (padded_follows f ⊥ (item count room) (h count room))
    (λ x. going_on_follows f ⊥ x (items item rings turns (count - length (rings x)) (room - positions_in (rings x)))
    (items_follow f item rings h turns (count - length (rings x)) (room - positions_in (rings x))) (λ xs s. absurd s))

-- a ring or element; where none may come the first reading fails, and nothing is asked of the second
ring_follows : (f : Fork) (count room : ℕ) → Follows f ⊥ (ring count room)
unfolding ring
ring_follows f zero room = then_on f ⊥ (expect 40) (λ _. too_long) (expect_follows f 40 refl f.not_open) (λ _ i j h. tt)
ring_follows f (suc count) room = line_follows f room

-- elements or rings are such items
parts_follow : (f : Fork) (count room : ℕ) → Follows f ⊥ (parts count room)
parts_follow f count room i j h = rw (parts_are_items count room i, parts_are_items count room j) (items_follow f ring alone (ring_follows f) count count room i j h)

-- a polygon is a list of rings in parentheses
polygon_follows : (f : Fork) (count room : ℕ) → Follows f ⊥ (polygon count room)
unfolding polygon
polygon_follows f count room = enclosed_follows f ⊥ (parts count room) (parts_follow f count room)

-- polygons are items too
polygons_follow : (f : Fork) (turns count room : ℕ) → Follows f ⊥ (polygons turns count room)
polygons_follow f turns count room i j h = rw (polygons_are_items turns count room i, polygons_are_items turns count room j) (items_follow f polygon itself (polygon_follows f) turns count room i j h)

-- neither a plus nor a number begins with a letter, so both readings find the word EMPTY, another word or none
body_follows : {A : Type 0} (f : Fork) (S : Type 0) (inner : Reader (List A)) → Follows f S inner → Follows f ⊥ (body inner)
unfolding body
body_follows {A} f S inner h = then_on f ⊥ (run is_white) _ (run_follows f is_white refl f.not_white)
    (λ _. then_on f ⊥ place _ (place_follows f)
    (λ at. then_on f ⊥ (run is_ascii_alphabetic) _ (run_follows f is_ascii_alphabetic refl f.not_letter)
    (λ word. if_follows f ⊥ (length word == 0) (enclosed inner) (if str_eq_ignore_ascii_case word (codes "EMPTY") then pure [] else refuse at)
    (enclosed_follows f S inner h)
    (if_follows f ⊥ (str_eq_ignore_ascii_case word (codes "EMPTY")) (pure []) (refuse at) (pure_follows f ⊥ []) (refuse_follows (List A) f ⊥ at)))))

-- what comes after the name of each type is such a body: of a POINT
lone_follows : (f : Fork) → Follows f ⊥ lone
lone_follows f = body_follows f (Unit {0}) (padded (position position_limit) >>= λ p. pure (p ∷ []))
    (then_follows f (Unit {0}) (Unit {0}) (padded (position position_limit)) (λ p. pure (p ∷ [])) (padded_follows f (Unit {0}) (position position_limit) (position_follows f position_limit))
    (λ p. pure_follows f (Unit {0}) (p ∷ [])) (λ _ p i e. (tt, e)))

-- of a MULTIPOINT and a LINESTRING
positions_follow : (f : Fork) (item : ℕ → Reader Position) → ((room : ℕ) → Follows f (Unit {0}) (item room)) → Follows f ⊥ (positions item)
positions_follow f item h = body_follows f (Unit {0}) (separated item position_limit) (separated_follows f item h position_limit)

-- of a MULTILINESTRING and a POLYGON
lists_follow : (f : Fork) → Follows f ⊥ lists
lists_follow f = body_follows f ⊥ (parts part_limit position_limit) (parts_follow f part_limit position_limit)

-- of a MULTIPOLYGON
nested_lists_follow : (f : Fork) → Follows f ⊥ nested_lists
nested_lists_follow f = body_follows f ⊥ (polygons part_limit part_limit position_limit) (polygons_follow f part_limit part_limit position_limit)

-- what a type's name makes of what was read
made_follows : {A B : Type 0} (f : Fork) (step : Reader A) (make : A → B) → Follows f ⊥ step → Follows f ⊥ (step >>= λ x. pure (make x))
made_follows f step make h = then_on f ⊥ step (λ x. pure (make x)) h (λ x. pure_follows f ⊥ (make x))

-- both readings found the same name, so they read one type's text
typed_follows : (f : Fork) (at : ℕ) (name : List ℕ) → Follows f ⊥ (typed at name)
unfolding typed
typed_follows f at name = if_follows f ⊥ (str_eq_ignore_ascii_case name (codes "POINT")) _ _ (made_follows f lone (λ ps. Point (first ps)) (lone_follows f))
    (if_follows f ⊥ (str_eq_ignore_ascii_case name (codes "MULTIPOINT")) _ _ (made_follows f (positions point) MultiPoint (positions_follow f point (point_follows f)))
    (if_follows f ⊥ (str_eq_ignore_ascii_case name (codes "LINESTRING")) _ _ (made_follows f (positions position) LineString (positions_follow f position (position_follows f)))
    (if_follows f ⊥ (str_eq_ignore_ascii_case name (codes "MULTILINESTRING")) _ _ (made_follows f lists MultiLineString (lists_follow f))
    (if_follows f ⊥ (str_eq_ignore_ascii_case name (codes "POLYGON")) _ _ (made_follows f lists Polygon (lists_follow f))
    (if_follows f ⊥ (str_eq_ignore_ascii_case name (codes "MULTIPOLYGON")) _ _ (made_follows f nested_lists MultiPolygon (nested_lists_follow f)) (refuse_follows Geometry f ⊥ at))))))

-- neither text has a letter behind the front, so the name ends within the front and is the same in both
tagged_follows : (f : Fork) → Follows f ⊥ tagged
unfolding tagged
tagged_follows f = then_on f ⊥ place (λ at. run is_ascii_alphabetic >>= λ name. typed at name) (place_follows f)
    (λ at. then_on f ⊥ (run is_ascii_alphabetic) (λ name. typed at name) (run_follows f is_ascii_alphabetic refl f.not_letter) (λ name. typed_follows f at name))

-- ---- whole texts
abbrev ended : Geometry → Reader Geometry
ended g = end >> pure g

-- the first reading can't end behind the front: the plus is still there
not_at_end : (f : Fork) (g : Geometry) (i : Input) (front : List ℕ) → i.left ≡ front ++ plus f → IfRead (ended g i) (λ _ _. ⊥)
not_at_end f g i front e = rw (ap (λ l. length l == 0) e ∙ long front) tt
  where
    long : (xs : List ℕ) → (length (xs ++ plus f) == 0) ≡ false
    long [] = next_not_zero (length f.more)
    long (x ∷ xs) = next_not_zero (length (xs ++ plus f))

-- a first reading that ended its text can't be at the plus, and the second can't have found the same: so it met the fault
closed : (f : Fork) (r q : Result (Geometry × Input) TextFault) (found : Geometry × Input) → Alike f ⊥ r q → and_then r ended ≡ Ok found → and_then q ended ≡ Err f.fault
closed f (Err fault) q found h e = absurd (let k : Err fault ≡ Ok found = e in cc)
closed f (Ok a) (Err fault) found (inl k) e = ap Err k
closed f (Ok a) (Err fault) found (inr h) e = absurd h.0
closed f (Ok a) (Ok b) found (inl h) e = absurd (subst (λ r. IfRead r (λ _ _. ⊥)) e (not_at_end f a.0 a.1 h.1.front h.1.first))
closed f (Ok a) (Ok b) found (inr h) e = absurd h.0

-- where the first text is read whole, the second ends with the fault of its number
pub whole_ends : (f : Fork) (i j : Input) → Shares f i j → (found : Geometry × Input) → whole i ≡ Ok found → whole j ≡ Err f.fault
unfolding whole
whole_ends f i j h found e = closed f (padded tagged i) (padded tagged j) found (padded_follows f ⊥ tagged (tagged_follows f) i j h) e
