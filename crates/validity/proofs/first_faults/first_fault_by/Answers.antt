-- The lists of faults, one before another, in the order of tests.
use Rattle.std.proofs.Common.{◌≡◌, ◌++◌, ◌∙◌, sym, ap, List, true, false, Option, Some, rules}
use Rattle.std.specs.List.{find}
use Rattle.std.specs.Option.{MatchOption, is_some}
use Rattle.std.proofs.lemmas.Result.{IfOk-weaker}
use Rattle.geometry_model.specs.Geometries.{Geometry}
use Rattle.geometry_model.specs.FirstFaults.{has_fault, validity_fault}
use Rattle.geometry_model.specs.declared.validity_faults.ValidityFault.{ValidityFault}
use Rattle.geometry_model.specs.declared.validity_faults.ValidityFault.TheVariants as validity
use Rattle.geometry_laws.specs.PieceLaws.{HasClosedRings}
use Rattle.validity.specs.FaultOrder.{of_lines, of_rings, rings_meeting, holes_outside, nested_holes, of_two_elements, of_other_elements}
use Rattle.validity.proofs.ClosedRings.{none_open}
use Rattle.validity.proofs.Finding.{found_or_else, first_stays, second_follows, none_behind, none_is, grouped}
use Rattle.validity.proofs.first_faults.first_fault_by.Goals as goal

-- ---- the lists
abbrev malformed : Geometry → List ValidityFault
malformed g = of_lines validity.TooFewPoints g ++ of_rings validity.RingNotClosed g

abbrev crossed : Geometry → List ValidityFault
crossed g = of_rings validity.RingNotSimple g

abbrev of_holes : Geometry → List ValidityFault
of_holes g = rings_meeting g ++ holes_outside g ++ nested_holes g

abbrev of_two : Geometry → List ValidityFault
of_two g = of_two_elements validity.ElementsMeet g ++ of_other_elements validity.ElementInside g

in_groups : (g : Geometry) → validity_fault g ≡ find (has_fault g) ((malformed g ++ crossed g ++ of_holes g) ++ of_two g)
in_groups g = ap (find (has_fault g)) (grouped (of_lines validity.TooFewPoints g) (of_rings validity.RingNotClosed g) (crossed g) (rings_meeting g) (holes_outside g) (nested_holes g) (of_two_elements validity.ElementsMeet g) (of_other_elements validity.ElementInside g))

-- ---- what is found in each
first_found : (g : Geometry) (o : Option ValidityFault) → o ≡ find (has_fault g) (malformed g) → is_some o ≡ true → o ≡ validity_fault g
first_found g o e some =
    let two = first_stays (has_fault g) (malformed g) (crossed g) o e some in
    let three = first_stays (has_fault g) (malformed g ++ crossed g) (of_holes g) o (sym two) some in
    sym (in_groups g ∙ first_stays (has_fault g) (malformed g ++ crossed g ++ of_holes g) (of_two g) o (sym three) some)

second_found : (g : Geometry) (o p : Option ValidityFault) → o ≡ find (has_fault g) (malformed g) → is_some o ≡ false → p ≡ find (has_fault g) (crossed g) → is_some p ≡ true → p ≡ validity_fault g
second_found g o p e none f some =
    let two = second_follows (has_fault g) (malformed g) (crossed g) o p e none f in
    let three = first_stays (has_fault g) (malformed g ++ crossed g) (of_holes g) p (sym two) some in
    sym (in_groups g ∙ first_stays (has_fault g) (malformed g ++ crossed g ++ of_holes g) (of_two g) p (sym three) some)

third_found : (g : Geometry) (o p q : Option ValidityFault) → o ≡ find (has_fault g) (malformed g) → is_some o ≡ false → p ≡ find (has_fault g) (crossed g) → is_some p ≡ false
    → q ≡ find (has_fault g) (of_holes g) → is_some q ≡ true → q ≡ validity_fault g
third_found g o p q e none f none_again h some =
    let two = second_follows (has_fault g) (malformed g) (crossed g) o p e none f in
    let three = second_follows (has_fault g) (malformed g ++ crossed g) (of_holes g) p q (sym two) none_again h in
    sym (in_groups g ∙ first_stays (has_fault g) (malformed g ++ crossed g ++ of_holes g) (of_two g) q (sym three) some)

last_found : (g : Geometry) (o p q r : Option ValidityFault) → o ≡ find (has_fault g) (malformed g) → is_some o ≡ false → p ≡ find (has_fault g) (crossed g) → is_some p ≡ false
    → q ≡ find (has_fault g) (of_holes g) → is_some q ≡ false → r ≡ find (has_fault g) (of_two g) → r ≡ validity_fault g
last_found g o p q r e none f none_again h none_third k =
    let two = second_follows (has_fault g) (malformed g) (crossed g) o p e none f in
    let three = second_follows (has_fault g) (malformed g ++ crossed g) (of_holes g) p q (sym two) none_again h in
    sym (in_groups g ∙ second_follows (has_fault g) (malformed g ++ crossed g ++ of_holes g) (of_two g) q r (sym three) none_third k)

closed : (g : Geometry) (o : Option ValidityFault) → o ≡ find (has_fault g) (malformed g) → is_some o ≡ false → HasClosedRings g
closed g o e none = none_open g (none_behind (has_fault g) (of_lines validity.TooFewPoints g) (of_rings validity.RingNotClosed g) (sym e ∙ none_is o none))

-- ---- the goals
pub returns-then-is_some : goal.returns-then-is_some
returns-then-is_some c =
    let g = c.args.outline.now in
    let either : MatchOption c.short_line.result (c.or_else-malformed.result ≡ find (has_fault g) (of_rings validity.RingNotClosed g)) (λ fault. c.or_else-malformed.result ≡ Some fault) = search rules in
    first_found g c.or_else-malformed.result (found_or_else (has_fault g) (of_lines validity.TooFewPoints g) (of_rings validity.RingNotClosed g) c.short_line.result c.or_else-malformed.result c.short_line.ensures either)
    (sym c.is_some.ensures ∙ c.if-is_some.true)

pub returns-then-is_some-2 : goal.returns-then-is_some-2
returns-then-is_some-2 c =
    let g = c.args.outline.now in
    let either : MatchOption c.short_line.result (c.or_else-malformed.result ≡ find (has_fault g) (of_rings validity.RingNotClosed g)) (λ fault. c.or_else-malformed.result ≡ Some fault) = search rules in
    second_found g c.or_else-malformed.result c.in_ok-crossed.crossed (found_or_else (has_fault g) (of_lines validity.TooFewPoints g) (of_rings validity.RingNotClosed g) c.short_line.result c.or_else-malformed.result c.short_line.ensures either)
    (sym c.is_some.ensures ∙ c.if-is_some.false) c.in_ok-crossed.ensures (sym c.is_some-2.ensures ∙ c.if-is_some-2.true)

pub fault_of_rings-requires : goal.fault_of_rings-requires
fault_of_rings-requires c =
    let g = c.args.outline.now in
    let either : MatchOption c.short_line.result (c.or_else-malformed.result ≡ find (has_fault g) (of_rings validity.RingNotClosed g)) (λ fault. c.or_else-malformed.result ≡ Some fault) = search rules in
    closed g c.or_else-malformed.result (found_or_else (has_fault g) (of_lines validity.TooFewPoints g) (of_rings validity.RingNotClosed g) c.short_line.result c.or_else-malformed.result c.short_line.ensures either)
    (sym c.is_some.ensures ∙ c.if-is_some.false)

pub returns-then-is_some-3 : goal.returns-then-is_some-3
returns-then-is_some-3 c =
    let g = c.args.outline.now in
    let either : MatchOption c.short_line.result (c.or_else-malformed.result ≡ find (has_fault g) (of_rings validity.RingNotClosed g)) (λ fault. c.or_else-malformed.result ≡ Some fault) = search rules in
    third_found g c.or_else-malformed.result c.in_ok-crossed.crossed c.in_ok-of_rings.of_rings
    (found_or_else (has_fault g) (of_lines validity.TooFewPoints g) (of_rings validity.RingNotClosed g) c.short_line.result c.or_else-malformed.result c.short_line.ensures either)
    (sym c.is_some.ensures ∙ c.if-is_some.false) c.in_ok-crossed.ensures (sym c.is_some-2.ensures ∙ c.if-is_some-2.false) c.in_ok-of_rings.ensures (sym c.is_some-3.ensures ∙ c.if-is_some-3.true)

pub fault_of_elements-requires : goal.fault_of_elements-requires
fault_of_elements-requires c =
    let g = c.args.outline.now in
    let either : MatchOption c.short_line.result (c.or_else-malformed.result ≡ find (has_fault g) (of_rings validity.RingNotClosed g)) (λ fault. c.or_else-malformed.result ≡ Some fault) = search rules in
    closed g c.or_else-malformed.result (found_or_else (has_fault g) (of_lines validity.TooFewPoints g) (of_rings validity.RingNotClosed g) c.short_line.result c.or_else-malformed.result c.short_line.ensures either)
    (sym c.is_some.ensures ∙ c.if-is_some.false)

pub returns : goal.returns
returns c =
    let g = c.args.outline.now in
    let either : MatchOption c.short_line.result (c.or_else-malformed.result ≡ find (has_fault g) (of_rings validity.RingNotClosed g)) (λ fault. c.or_else-malformed.result ≡ Some fault) = search rules in
    let first = found_or_else (has_fault g) (of_lines validity.TooFewPoints g) (of_rings validity.RingNotClosed g) c.short_line.result c.or_else-malformed.result c.short_line.ensures either in
    IfOk-weaker c.fault_of_elements.result (λ fault. fault ≡ find (has_fault g) (of_two g)) _
    (λ fault e. last_found g c.or_else-malformed.result c.in_ok-crossed.crossed c.in_ok-of_rings.of_rings fault first
    (sym c.is_some.ensures ∙ c.if-is_some.false) c.in_ok-crossed.ensures (sym c.is_some-2.ensures ∙ c.if-is_some-2.false) c.in_ok-of_rings.ensures (sym c.is_some-3.ensures ∙ c.if-is_some-3.false) e)
    c.fault_of_elements.ensures
