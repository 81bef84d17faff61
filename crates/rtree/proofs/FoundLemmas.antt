-- How what is found grows with each envelope that is looked at.
use Rattle.std.proofs.Common.{◌≡◌, ◌+◌, ◌<◌, length, get_or, ℕ, zero, suc, Bool, true, false, cond, List, [], ◌∷◌, ◌++◌, map, take, Option, Some, None, refl, sym, ◌∙◌, ap, append_assoc, add-one, arith}
use Rattle.std.specs.Prelude.{slice_get, filter, filter_map}
use Rattle.std.specs.List.{enumerate_from}
use Rattle.std.proofs.lemmas.List.{map-append, take_more}
use Rattle.std.specs.Option.{option_to_list}
use Rattle.std.proofs.lemmas.List.Elements.{filter-append, filter_map-append}
use Rattle.geometry_model.specs.Envelopes.{Envelope, meets}
use Rattle.rtree.specs.Found.{placed_meets, meeting_places}
use Rattle.rtree.specs.Packing.{Entry, entry_at, present}

-- one more element, with its number
counted_more : {X : Type 0} (from : ℕ) (xs : List X) (i : ℕ) (x : X) → slice_get xs i ≡ Some x
    → enumerate_from from (take (suc i) xs) ≡ enumerate_from from (take i xs) ++ (from + i, x) ∷ []
counted_more from [] i x found = cc
counted_more from (y ∷ xs) zero x found = let same : y ≡ x = cc in let here : from ≡ from + 0 = omega arith in ap (λ n. (n, y) ∷ []) here ∙ ap (λ z. (from + 0, z) ∷ []) same
counted_more from (y ∷ xs) (suc i) x found =
    let here : from + 1 + i ≡ from + suc i = omega arith in
    ap (λ l. (from, y) ∷ l) (counted_more (from + 1) xs i x found ∙ ap (λ n. enumerate_from (from + 1) (take i xs) ++ (n, x) ∷ []) here)

-- the same where counting begins at 0
counted : {X : Type 0} (xs : List X) (i : ℕ) (x : X) → slice_get xs i ≡ Some x → enumerate_from 0 (take (i + 1) xs) ≡ enumerate_from 0 (take i xs) ++ (i, x) ∷ []
counted xs i x found =
    let here : 0 + i ≡ i = omega arith in rw add-one (counted_more 0 xs i x found ∙ ap (λ n. enumerate_from 0 (take i xs) ++ (n, x) ∷ []) here)

-- the number of an element that passes
place_of : {X : Type 0} (h : ℕ × X → Bool) (p : ℕ × X) → map (λ s. s.0) (filter h (p ∷ [])) ≡ cond (h p) (p.0 ∷ []) []
place_of {X} h p = elim (h p) as (λ b. map (λ (s : ℕ × X). s.0) (cond b (p ∷ []) []) ≡ cond b (p.0 ∷ []) []) [ true ↦ refl | false ↦ refl ]

-- one envelope more
pub meeting_more : (es : List (Option Envelope)) (asked : Option Envelope) (i : ℕ) (e : Option Envelope) → slice_get es i ≡ Some e
    → meeting_places (take (i + 1) es) asked ≡ meeting_places (take i es) asked ++ cond (meets e asked) (i ∷ []) []
meeting_more es asked i e found =
    ap (λ l. map (λ s. s.0) (filter (placed_meets asked) l)) (counted es i e found)
    ∙ ap (map (λ s. s.0)) (filter-append (placed_meets asked) (enumerate_from 0 (take i es)) ((i, e) ∷ []))
    ∙ map-append (λ s. s.0) (filter (placed_meets asked) (enumerate_from 0 (take i es))) (filter (placed_meets asked) ((i, e) ∷ []))
    ∙ ap (λ l. meeting_places (take i es) asked ++ l) (place_of (placed_meets asked) (i, e))

-- so does the list of places found, whatever was in it at the start
pub found_more : (es : List (Option Envelope)) (asked : Option Envelope) (i : ℕ) (e : Option Envelope) (start old new : List ℕ) (passes : Bool)
    → slice_get es i ≡ Some e → passes ≡ meets e asked → new ≡ old ++ cond passes (i ∷ []) []
    → old ≡ start ++ meeting_places (take i es) asked → new ≡ start ++ meeting_places (take (i + 1) es) asked
found_more es asked i e start old new passes found tested grew before =
    grew ∙ ap (λ l. l ++ cond passes (i ∷ []) []) before ∙ append_assoc start (meeting_places (take i es) asked) (cond passes (i ∷ []) [])
    ∙ ap (λ b. start ++ (meeting_places (take i es) asked ++ cond b (i ∷ []) [])) tested ∙ ap (λ l. start ++ l) (sym (meeting_more es asked i e found))

-- the entry of one envelope more
present_more : (es : List (Option Envelope)) (i : ℕ) (e : Option Envelope) → slice_get es i ≡ Some e → present (take (i + 1) es) ≡ present (take i es) ++ option_to_list (entry_at (i, e))
present_more es i e found =
    ap (filter_map entry_at) (counted es i e found) ∙ filter_map-append entry_at (enumerate_from 0 (take i es)) ((i, e) ∷ [])
    ∙ ap (λ l. present (take i es) ++ l) (alone e)
  where
    alone : (o : Option Envelope) → filter_map entry_at ((i, o) ∷ []) ≡ option_to_list (entry_at (i, o))
    alone None = refl
    alone (Some f) = refl

-- one envelope more adds its entry, where it isn't absent
pub entries_more : (es : List (Option Envelope)) (i : ℕ) (e : Option Envelope) (start old new : List Entry) → slice_get es i ≡ Some e
    → new ≡ old ++ option_to_list (entry_at (i, e)) → old ≡ start ++ present (take i es) → new ≡ start ++ present (take (i + 1) es)
entries_more es i e start old new found grew before =
    grew ∙ ap (λ l. l ++ option_to_list (entry_at (i, e))) before ∙ append_assoc start (present (take i es)) (option_to_list (entry_at (i, e)))
    ∙ ap (λ l. start ++ l) (sym (present_more es i e found))

-- the elements before one and this one
pub taken : {X : Type 0} (xs : List X) (i : ℕ) (x : X) → i < length xs → x ≡ get_or xs i x → take (i + 1) xs ≡ take i xs ++ x ∷ []
taken xs i x within is = take_more xs i x within ∙ ap (λ z. take i xs ++ z ∷ []) (sym is)
