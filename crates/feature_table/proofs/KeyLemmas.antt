-- Two rows of one key.
use Rattle.std.proofs.Common.{◌≡◌, ◌∙◌, ◌||◌, ◌+◌, ◌<◌, ◌≤◌, ℕ, ℤ, Bool, true, false, List, [], ◌∷◌, Some, None, ap, cond, drop, get_or, length, not, refl, sym}
use Rattle.std.proofs.lemmas.Bool.{false≢true}
use Rattle.std.proofs.lemmas.Cmp.{int_eq_equiv}
use Rattle.std.proofs.lemmas.List.{drop_all, drop_more}
use Rattle.std.specs.BTreeSet.{BTreeSet, Updates, contains}
use Rattle.std.specs.List.{list_any}
use Rattle.std.specs.Ordering.{int_cmp, int_eq}
use Rattle.table_model.specs.Loading.{double_from, double_key}

-- to find it first, or else to look on, is to find it in one of the two
or_cond : (a b : Bool) → cond a true b ≡ (a || b)
or_cond true b = refl
or_cond false b = refl

-- what a new key shows
pub not_false : (b c : Bool) → c ≡ not b → c ≡ false → b ≡ true
not_false true c is e = refl
not_false false c is e = absurd (false≢true (sym e ∙ is))

pub not_true : (b c : Bool) → c ≡ not b → c ≡ true → b ≡ false
not_true true c is e = absurd (false≢true (sym is ∙ e))
not_true false c is e = refl

-- a set has just the keys before a place, no two of which are one
pub record Searched (seen : BTreeSet ℤ) (keys : List ℤ) (place : ℕ) : Type 0 where
  pub earlier : List ℤ
  pub left : double_from earlier (place + 1) (drop place keys) ≡ double_key keys
  pub has : (q : ℤ) → contains int_cmp seen q ≡ list_any (int_eq q) earlier

-- before the first key nothing was seen
pub searched_start : (seen : BTreeSet ℤ) (keys : List ℤ) → seen.keys ≡ [] → Searched seen keys 0
unfolding double_key
searched_start seen keys none = record { earlier = []; left = refl; has = λ q. rw none refl }

-- a key that the set has came before, and none came twice earlier: this record is the first to repeat one
pub searched_here : (seen : BTreeSet ℤ) (keys : List ℤ) (place : ℕ) (k : ℤ) → place < length keys → k ≡ get_or keys place k → Searched seen keys place
    → contains int_cmp seen k ≡ true → double_key keys ≡ Some (place + 1)
searched_here seen keys place k within is s there =
    let first : drop place keys ≡ k ∷ drop (place + 1) keys = drop_more keys place k within ∙ ap (λ (x : ℤ). x ∷ drop (place + 1) keys) (sym is) in
    let had : list_any (int_eq k) s.earlier ≡ true = sym (s.has k) ∙ there in
    let found : double_from s.earlier (place + 1) (k ∷ drop (place + 1) keys) ≡ Some (place + 1) = rw had refl in
    sym s.left ∙ ap (double_from s.earlier (place + 1)) first ∙ found

-- a key that the set doesn't have is put into it
pub searched_more : (seen new : BTreeSet ℤ) (keys : List ℤ) (place : ℕ) (k : ℤ) → place < length keys → k ≡ get_or keys place k → Searched seen keys place
    → contains int_cmp seen k ≡ false → Updates int_cmp seen new k true → Searched new keys (place + 1)
searched_more seen new keys place k within is s there puts =
    let first : drop place keys ≡ k ∷ drop (place + 1) keys = drop_more keys place k within ∙ ap (λ (x : ℤ). x ∷ drop (place + 1) keys) (sym is) in
    let had : list_any (int_eq k) s.earlier ≡ false = sym (s.has k) ∙ there in
    let next : double_from s.earlier (place + 1) (k ∷ drop (place + 1) keys) ≡ double_from (k ∷ s.earlier) (place + 1 + 1) (drop (place + 1) keys) = rw had refl in
    record {
      earlier = k ∷ s.earlier;
      left = sym next ∙ sym (ap (double_from s.earlier (place + 1)) first) ∙ s.left;
      has = λ q. puts.0 q ∙ ap (λ (b : Bool). cond b true (contains int_cmp seen q)) (int_eq_equiv.symm k q)
          ∙ ap (λ (b : Bool). cond (int_eq q k) true b) (s.has q) ∙ or_cond (int_eq q k) (list_any (int_eq q) s.earlier);
    }

-- past the last key none came twice
pub searched_end : (seen : BTreeSet ℤ) (keys : List ℤ) (place : ℕ) → length keys ≤ place → Searched seen keys place → double_key keys ≡ None
searched_end seen keys place past s = sym s.left ∙ ap (double_from s.earlier (place + 1)) (drop_all place keys past)
