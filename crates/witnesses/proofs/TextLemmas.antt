-- How a text of several parts is written.
use Rattle.std.proofs.Common.{◌≡◌, ◌∙◌, sym, ap, ap₂, subst, ℕ, ℤ, List, [], ◌∷◌, ◌++◌, Bool, pos, Option, Result, OnErr, codes, append_assoc, append-nil}
use Rattle.std.specs.List.{concat}
use Rattle.std.specs.Fmt.{signed_decimal}
use Rattle.std.specs.Prelude.{if◌then◌else◌}
use Rattle.basics.proofs.Tests.{equal_no}
use Rattle.std.specs.Io.KnownBytes.{Appends}
use Rattle.streams.specs.Sinks.{AppendsFront}
use Rattle.streams.proofs.SinkLemmas.{OnErr-holds, AppendsFront-more, AppendsFront-then}
use Rattle.geometry_model.specs.Points.{Point}
use Rattle.geometry_model.specs.declared.point_sets.Location.{Location}
use Rattle.witnesses.specs.declared.witness.Witness.{Witness}
use Rattle.witnesses.specs.declared.witness.Witness.TheVariants as kinds
use Rattle.witnesses.specs.PointTexts.{fraction_text, fractions_text, quotient_text}
use Rattle.witnesses.specs.WitnessTexts.{cell_text, witness_line, location_text}

-- ---- parts joined

-- a quotient
pub over_parts : (first second : List ℕ) → concat (first ∷ codes "/" ∷ second ∷ []) ≡ first ++ codes "/" ++ second
over_parts first second = simp (append_assoc, append-nil)

-- two words with a space after each
pub word_parts : (first second : List ℕ) → concat (first ∷ codes " " ∷ second ∷ codes " " ∷ []) ≡ first ++ codes " " ++ second ++ codes " "
word_parts first second = simp (append_assoc, append-nil)

pub two_parts : (x y : List ℕ) → concat (x ∷ y ∷ []) ≡ x ++ y
two_parts x y = simp append-nil

four_parts : (x y z u : List ℕ) → concat (x ∷ y ∷ z ∷ u ∷ []) ≡ x ++ y ++ z ++ u
four_parts x y z u = simp (append_assoc, append-nil)

pub three_parts : (x y z : List ℕ) → concat (x ∷ y ∷ z ∷ []) ≡ x ++ y ++ z
three_parts x y z = simp (append_assoc, append-nil)

-- a cell of one point
pub point_cell : (p : Point) → concat (codes "0 at " ∷ fractions_text p ∷ []) ≡ cell_text (kinds.Point p)
point_cell p = two_parts (codes "0 at ") (fractions_text p)

-- a cell of a face point
pub face_cell : (p : Point) → concat (codes "2 around " ∷ fractions_text p ∷ []) ≡ cell_text (kinds.Around p)
face_cell p = two_parts (codes "2 around ") (fractions_text p)

-- a cell of a stretch
pub stretch_cell : (p q : Point) → concat (codes "1 from " ∷ fractions_text p ∷ codes " to " ∷ fractions_text q ∷ []) ≡ cell_text (kinds.Stretch p q)
stretch_cell p q = four_parts (codes "1 from ") (fractions_text p) (codes " to ") (fractions_text q)

-- two numbers of which the second isn't 1
pub over_quotient : (n d : ℤ) (first second : List ℕ) → first ≡ signed_decimal n → second ≡ signed_decimal d → (d ≡ pos 1 → ⊥) → first ++ codes "/" ++ second ≡ quotient_text n d
over_quotient n d first second e f other =
    ap₂ (λ a b. a ++ codes "/" ++ b) e f
    ∙ ap (λ (test : Bool). if test then signed_decimal n else (signed_decimal n ++ codes "/" ++ signed_decimal d)) (sym (equal_no d (pos 1) other))

-- the two coordinates of a point and the space between
pub point_parts : (x y w i j k : ℤ) → i ≡ x → j ≡ y → k ≡ w
    → fraction_text (record { numerator = i; denominator = k }) ++ (codes " " ++ fraction_text (record { numerator = j; denominator = k })) ≡ fractions_text (record { X = x; Y = y; W = w })
point_parts x y w i j k e f h =
    (λ t. fraction_text (record { numerator = e t; denominator = h t }) ++ (codes " " ++ fraction_text (record { numerator = f t; denominator = h t })))
    ∙ sym (append_assoc (fraction_text (record { numerator = x; denominator = w })) (codes " ") (fraction_text (record { numerator = y; denominator = w })))

-- a point by its three numbers
pub same_triple : (p : Point) (x y w : ℤ) → x ≡ p.X → y ≡ p.Y → w ≡ p.W → fractions_text (record { X = x; Y = y; W = w }) ≡ fractions_text p
same_triple p x y w first second third = λ i. fractions_text (record { X = first i; Y = second i; W = third i })

-- the words, the cell and the line feed of a line
pub line_parts : (l k : Location) (witness : Witness) (first second : List ℕ) → first ≡ location_text l → second ≡ location_text k
    → (first ++ codes " " ++ second ++ codes " ") ++ (cell_text witness ++ codes "\n") ≡ witness_line l k witness
line_parts l k witness first second e f =
    ap₂ (λ a b. (a ++ codes " " ++ b ++ codes " ") ++ (cell_text witness ++ codes "\n")) e f
    ∙ sym (append_assoc (location_text l ++ codes " " ++ location_text k ++ codes " ") (cell_text witness) (codes "\n"))

-- ---- beginnings

-- a beginning of the first of three texts
pub first-front : {A E : Type 0} (r : Result A E) (a b : Option (List ℕ)) (x y z text : List ℕ) → x ++ (y ++ z) ≡ text → AppendsFront a b x → OnErr r (AppendsFront a b text)
first-front r a b x y z text e front = OnErr-holds r (subst (λ l. AppendsFront a b l) e (AppendsFront-more a b x (y ++ z) front))

-- a beginning of the second of three texts
pub second-front : {A E : Type 0} (r : Result A E) (a b c : Option (List ℕ)) (x y z text : List ℕ) → x ++ (y ++ z) ≡ text → Appends a b x → AppendsFront b c y
    → OnErr r (AppendsFront a c text)
second-front r a b c x y z text e first front = OnErr-holds r (subst (λ l. AppendsFront a c l) e (AppendsFront-then a b c x (y ++ z) first (AppendsFront-more b c y z front)))
