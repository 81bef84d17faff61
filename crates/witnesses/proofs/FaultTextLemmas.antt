-- How the line of a fault is written.
use Rattle.std.proofs.Common.{◌≡◌, ◌∙◌, sym, ap, subst, ℕ, List, [], ◌∷◌, ◌++◌, Option, Result, Ok, Err, OnErr, codes, decimal, append_assoc, append-nil}
use Rattle.std.specs.List.{concat}
use Rattle.std.specs.Io.KnownBytes.{Appends}
use Rattle.streams.specs.Sinks.{AppendsFront}
use Rattle.streams.proofs.SinkLemmas.{OnErr-holds, AppendsFront-more, AppendsFront-then}
use Rattle.geometry_model.specs.CanonicalText.{position_text}
use Rattle.geometry_model.specs.Geometries.{Edge}
use Rattle.geometry_model.specs.Points.{Position}
use Rattle.geometry_model.specs.declared.validity_faults.ValidityFault.{ValidityFault}
use Rattle.witnesses.specs.declared.places.Place.{Place}
use Rattle.witnesses.specs.declared.places.Place.TheVariants as places
use Rattle.witnesses.specs.FaultTexts.{edge_text, fault_front, left_text, place_text, reason_text}
use Rattle.witnesses.proofs.TextLemmas.{three_parts}

-- ---- parts joined

-- a code, two numbers and a colon
pub paired_parts : (code first second : List ℕ) → concat (code ∷ first ∷ codes " " ∷ second ∷ codes ": " ∷ []) ≡ code ++ (first ++ (codes " " ++ second)) ++ codes ": "
paired_parts code first second = simp (append_assoc, append-nil)

-- an open ring
pub open_parts : (first last : Position) → concat (codes "from " ∷ position_text first ∷ codes " to " ∷ position_text last ∷ codes " isn't closed" ∷ []) ≡ place_text (places.Open first last)
open_parts first last = five (codes "from ") (position_text first) (codes " to ") (position_text last) (codes " isn't closed")
  where
    five : (x y z u v : List ℕ) → concat (x ∷ y ∷ z ∷ u ∷ v ∷ []) ≡ x ++ y ++ z ++ u ++ v
    five x y z u v = simp (append_assoc, append-nil)

-- how many positions are left
pub count_parts : (count : ℕ) (words : List ℕ) (first : Position) → words ≡ left_text count
    → concat (decimal count ∷ words ∷ position_text first ∷ []) ≡ place_text (places.Short first count)
count_parts count words first e = three_parts (decimal count) words (position_text first) ∙ ap (λ w. decimal count ++ w ++ position_text first) e

-- two edges
pub edge_parts : (e f : Edge) (a b c d : Position) → a ≡ e.start → b ≡ e.end → c ≡ f.start → d ≡ f.end
    → concat (position_text a ∷ codes " to " ∷ position_text b ∷ codes " and " ∷ position_text c ∷ codes " to " ∷ position_text d ∷ codes " share " ∷ [])
    ≡ edge_text e ++ codes " and " ++ edge_text f ++ codes " share "
edge_parts e f a b c d first second third fourth =
    eight (position_text a) (codes " to ") (position_text b) (codes " and ") (position_text c) (position_text d) (codes " share ")
    ∙ (λ i. (position_text (first i) ++ codes " to " ++ position_text (second i)) ++ codes " and " ++ (position_text (third i) ++ codes " to " ++ position_text (fourth i)) ++ codes " share ")
  where
    eight : (p to q and r s share : List ℕ) → concat (p ∷ to ∷ q ∷ and ∷ r ∷ to ∷ s ∷ share ∷ []) ≡ (p ++ to ++ q) ++ and ++ (r ++ to ++ s) ++ share
    eight p to q and r s share = simp (append_assoc, append-nil)

-- the fault, the place and the line feed
pub reason_parts : (fault : ValidityFault) (place : Place) → fault_front fault ++ (place_text place ++ codes "\n") ≡ reason_text fault place
reason_parts fault place = sym (append_assoc (fault_front fault) (place_text place) (codes "\n"))

-- ---- one text after another

-- a beginning of a text after what was put
pub then-front : {A E : Type 0} (r : Result A E) (a b c : Option (List ℕ)) (x y text : List ℕ) → x ++ y ≡ text → Appends a b x → OnErr r (AppendsFront b c y)
    → OnErr r (AppendsFront a c text)
then-front (Ok v) a b c x y text e first then = tt
then-front (Err v) a b c x y text e first then = subst (λ l. AppendsFront a c l) e (AppendsFront-then a b c x y first then)

-- a beginning of the first of two texts
pub begin-front : {A E : Type 0} (r : Result A E) (a b : Option (List ℕ)) (x y text : List ℕ) → x ++ y ≡ text → AppendsFront a b x → OnErr r (AppendsFront a b text)
begin-front r a b x y text e front = OnErr-holds r (subst (λ l. AppendsFront a b l) e (AppendsFront-more a b x y front))
