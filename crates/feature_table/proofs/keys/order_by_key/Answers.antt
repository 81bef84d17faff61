use Rattle.std.proofs.Common.{◌∙◌, ap, length, map, pos, refl, subst, sym}
use Rattle.std.specs.Prelude.{IsPermutation, IsSortedByKey}
use Rattle.std.proofs.lemmas.List.Sorted.{IsPermutation-refl}
use Rattle.std.specs.List.{range_with_len}
use Rattle.std.specs.Ordering.{int_cmp}
use Rattle.feature_table.proofs.AscentLemmas.{ascending_alone, ascending_places, keys_moved}
use Rattle.feature_table.proofs.FlatLemmas.{read_all}
use Rattle.feature_table.proofs.OrderLemmas.{things_moved, things_sorted}
use Rattle.feature_table.specs.KeyPlaces.{key_at, key_place}
use Rattle.feature_table.specs.declared.keys.KeyPlace.{KeyPlace}
use Rattle.feature_table.proofs.keys.order_by_key.Goals as goal

pub returns-then-ascend-clause-each : goal.returns-then-ascend-clause-each
returns-then-ascend-clause-each c =
    let places = range_with_len 0 (length c.args.keys.now) in subst (IsPermutation places) (sym c.in_ok-first_places.ensures) (IsPermutation-refl places)

pub returns-then-ascend-clause-ascend : goal.returns-then-ascend-clause-ascend
returns-then-ascend-clause-ascend c =
    let up = rw c.if-ascend.true at c.ascend.ensures in
    subst (IsSortedByKey (key_at c.args.keys.now) int_cmp) (sym c.in_ok-first_places.ensures) (ascending_places c.args.keys.now up)

pub returns-then-ascend-clause-single : goal.returns-then-ascend-clause-single
returns-then-ascend-clause-single c = let up = rw c.if-ascend.true at c.ascend.ensures in ascending_alone c.args.keys.now up

pub double_among-requires : goal.double_among-requires
double_among-requires c =
    let keys = c.args.keys.now in
    let places = range_with_len 0 (length keys) in
    let sorted = c.sort_keyed.new.keyed.items in
    let moved = subst (λ l. IsPermutation l sorted) c.in_ok-keyed.ensures c.sort_keyed.ensures.moved in
    let beside = keys_moved (λ (k : KeyPlace). k.number) (key_place keys) (key_at keys) places sorted (λ p. refl) moved in
    rw c.as_slice.ensures.value (subst (λ l. IsPermutation l (map (λ (k : KeyPlace). k.number) sorted)) (read_all (pos 0) keys) beside)

pub returns-clause-each : goal.returns-clause-each
returns-clause-each c =
    let keys = c.args.keys.now in
    let places = range_with_len 0 (length keys) in
    let sorted = c.sort_keyed.new.keyed.items in
    let moved = subst (λ l. IsPermutation l sorted) c.in_ok-keyed.ensures c.sort_keyed.ensures.moved in
    rw (c.in_ok-places_of-in-None.ensures, c.as_slice-in-None.ensures.value) (things_moved (λ (k : KeyPlace). k.place) (key_place keys) places sorted (λ p. refl) moved)

pub returns-clause-ascend : goal.returns-clause-ascend
returns-clause-ascend c =
    let keys = c.args.keys.now in
    let places = range_with_len 0 (length keys) in
    let sorted = c.sort_keyed.new.keyed.items in
    let moved = subst (λ l. IsPermutation l sorted) c.in_ok-keyed.ensures c.sort_keyed.ensures.moved in
    let up = things_sorted (λ (k : KeyPlace). k.number) (key_at keys) (λ (k : KeyPlace). k.place) (key_place keys) places sorted (λ p. refl) (λ p. refl) moved c.sort_keyed.ensures.sorted in
    subst (IsSortedByKey (key_at keys) int_cmp) (sym (c.in_ok-places_of-in-None.ensures ∙ ap (map (λ (k : KeyPlace). k.place)) c.as_slice-in-None.ensures.value)) up
