-- Before the first fault that is found none applies.
use Rattle.std.proofs.Common.{◌≡◌, ◌⊎◌, inl, inr, ℕ, zero, suc, ◌<◌, Bool, true, false, List, [], ◌∷◌, ◌++◌, length, map, find, cond, Some, None, slice_index_or, refl, sym, ap, ◌∙◌, subst, arith}
use Rattle.std.proofs.lemmas.List.{append_assoc}
use Rattle.geometry_model.specs.Geometries.{Geometry, lines, rings}
use Rattle.geometry_model.specs.FirstFaults.{has_fault, numbers, validity_fault}
use Rattle.geometry_model.specs.declared.validity_faults.ValidityFault.{ValidityFault}
use Rattle.geometry_model.specs.declared.validity_faults.ValidityFault.TheVariants.{TooFewPoints, RingNotClosed, RingNotSimple, RingsMeet, HoleOutside, HolesNested, ElementsMeet, ElementInside}
use Rattle.geometry_laws.proofs.Each.{Each, Among, each_at, each_append, each_left}
use Rattle.geometry_laws.specs.FaultLaws.{AreClosed, IsFirst, FirstFaultIsFirst}
use Rattle.geometry_laws.proofs.FaultFacts.{NeedsClosed}
use Rattle.geometry_laws.proofs.FirstFaultFacts.{found_in_two, none_in_two, head_fails, short_ones, open_ones, early_ones, late_ones, in_two, are_closed, applies_not, first_fault_applies}

at_place : (xs : List ValidityFault) (x : ValidityFault) (k : ℕ) → k < length xs → slice_index_or xs k x ≡ x → Among x xs
at_place [] x k h e = absurd (omega (arith, h))
at_place (y ∷ ys) x zero h e = inl (sym e)
at_place (y ∷ ys) x (suc k) h e = inr (at_place ys x k (omega (arith, h)) e)

-- a list at its first element that passes
record Split (p : ValidityFault → Bool) (xs : List ValidityFault) (x : ValidityFault) : Type 0 where
  before : List ValidityFault
  after : List ValidityFault
  placed : xs ≡ before ++ x ∷ after
  none : find p before ≡ None

-- a search finds the first that passes, so none is found before it
split : (p : ValidityFault → Bool) (xs : List ValidityFault) (x : ValidityFault) → find p xs ≡ Some x → Split p xs x
split p [] x e = absurd cc
split p (y ∷ ys) x e = go (p y) refl e (split p ys x)
  where
    go : (b : Bool) → p y ≡ b → cond b (Some y) (find p ys) ≡ Some x → (find p ys ≡ Some x → Split p ys x) → Split p (y ∷ ys) x
    go true is e later = let same : y ≡ x = cc in record { before = []; after = ys; placed = ap (λ (z : ValidityFault). z ∷ ys) same; none = refl }
    go false is e later = let s = later e in record {
      before = y ∷ s.before;
      after = s.after;
      placed = ap (λ (l : List ValidityFault). y ∷ l) s.placed;
      none = ap (λ (b : Bool). cond b (Some y) (find p s.before)) is ∙ s.none;
    }

none_join : (p : ValidityFault → Bool) (xs ys : List ValidityFault) → find p xs ≡ None → find p ys ≡ None → find p (xs ++ ys) ≡ None
none_join p [] ys e f = f
none_join p (x ∷ xs) ys e f = let h = head_fails p x xs e in ap (λ (b : Bool). cond b (Some x) (find p (xs ++ ys))) h.0 ∙ none_join p xs ys h.1 f

all_fail : (p : ValidityFault → Bool) (xs : List ValidityFault) → find p xs ≡ None → Each (λ x. p x ≡ false) xs
all_fail p [] e = tt
all_fail p (x ∷ xs) e = let h = head_fails p x xs e in (h.0, all_fail p xs h.1)

pub each_mapped : (P : ValidityFault → Type 0) (f : ℕ → ValidityFault) → ((k : ℕ) → P (f k)) → (ns : List ℕ) → Each P (map f ns)
each_mapped P f h [] = tt
each_mapped P f h (n ∷ ns) = (h n, each_mapped P f h ns)

-- none of the early tests presupposes that rings are closed
early_need : (g : Geometry) → Each (NeedsClosed g) (early_ones g)
early_need g = each_append (NeedsClosed g) (short_ones g) (open_ones g)
    (each_mapped (NeedsClosed g) TooFewPoints (λ k. tt) (numbers 0 (length (lines g)))) (each_mapped (NeedsClosed g) RingNotClosed (λ k. tt) (numbers 0 (length (rings g))))

-- and where all rings are closed each test has what it asks for
closed_need : (g : Geometry) (fault : ValidityFault) → AreClosed g → NeedsClosed g fault
closed_need g (TooFewPoints i) c = tt
closed_need g (RingNotClosed i) c = tt
closed_need g (RingNotSimple i) c = c
closed_need g (RingsMeet i j) c = tt
closed_need g (HoleOutside i) c = tt
closed_need g (HolesNested i j) c = tt
closed_need g (ElementsMeet i j) c = tt
closed_need g (ElementInside i j) c = tt

-- the tests before an early fault presuppose nothing of rings; before a late one no open ring was found, so all are closed;
-- either way the tests before it are decided, and failed
first_at : (g : Geometry) (fault : ValidityFault) → validity_fault g ≡ Some fault
    → (find (has_fault g) (early_ones g) ≡ Some fault) ⊎ ((find (has_fault g) (early_ones g) ≡ None) × (find (has_fault g) (late_ones g) ≡ Some fault)) → IsFirst g fault
first_at g fault found (inl e) = let s = split (has_fault g) (early_ones g) fault e in record {
  before = s.before;
  after = s.after ++ late_ones g;
  placed = in_two g ∙ (ap (λ (l : List ValidityFault). l ++ late_ones g) s.placed ∙ append_assoc s.before (fault ∷ s.after) (late_ones g));
  applies = first_fault_applies g fault found;
  none_before = λ earlier c h. let a = at_place s.before earlier c.0 c.1 c.2 in applies_not g earlier
      (each_at (NeedsClosed g) s.before earlier (each_left (NeedsClosed g) s.before (fault ∷ s.after) (subst (Each (NeedsClosed g)) s.placed (early_need g))) a)
      (each_at (λ x. has_fault g x ≡ false) s.before earlier (all_fail (has_fault g) s.before s.none) a) h;
}
first_at g fault found (inr e) = let s = split (has_fault g) (late_ones g) fault e.1 in record {
  before = early_ones g ++ s.before;
  after = s.after;
  placed = in_two g ∙ (ap (λ (l : List ValidityFault). early_ones g ++ l) s.placed ∙ sym (append_assoc (early_ones g) s.before (fault ∷ s.after)));
  applies = first_fault_applies g fault found;
  none_before = λ earlier c h. applies_not g earlier (closed_need g earlier (are_closed g (none_in_two (has_fault g) (short_ones g) (open_ones g) e.0).1))
      (each_at (λ x. has_fault g x ≡ false) (early_ones g ++ s.before) earlier (all_fail (has_fault g) (early_ones g ++ s.before) (none_join (has_fault g) (early_ones g) s.before e.0 s.none))
      (at_place (early_ones g ++ s.before) earlier c.0 c.1 c.2)) h;
}

-- the search goes over the faults in their order, so those before the one that is found were tested and don't apply
pub first_fault_is_first : FirstFaultIsFirst
first_fault_is_first g fault e = first_at g fault e (found_in_two (has_fault g) (early_ones g) (late_ones g) (Some fault) (ap (find (has_fault g)) (sym (in_two g)) ∙ e))
