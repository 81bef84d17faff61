use Rattle.std.proofs.Common.{◌≡◌, ◌∙◌, ◌++◌, ◌∷◌, [], List, ap, arith, get_or, pos, rules, sym, map, length}
use mir.Facts.{to_z-of_z}
use Rattle.std.proofs.lemmas.List.FromFn.{map-range_with_len_more}
use Rattle.std.specs.Int.{w64}
use Rattle.std.specs.List.{range_with_len}
use Rattle.std.specs.Prelude.{FitsSigned}
use Rattle.feature_table.specs.KeyPlaces.{key_place}
use Rattle.feature_table.specs.declared.keys.KeyPlace.{KeyPlace}
use Rattle.feature_table.proofs.keys.with_places.Goals as goal

pub loop-place-preserved : goal.loop-place-preserved
loop-place-preserved c =
    let keys = c.args.keys.now in
    let grown = map-range_with_len_more (key_place keys) 0 c.loop-place.place c.loop-place.place (omega arith) in
    let fits : FitsSigned w64 (get_or keys c.loop-place.place (pos 0)) = search rules in
    let back = to_z-of_z fits in
    let pushed = rw back at c.in_ok-push.ensures.items in
    pushed ∙ ap (λ (l : List KeyPlace). l ++ key_place keys c.loop-place.place ∷ []) c.loop-place.invariant ∙ sym grown

pub returns : goal.returns
returns c =
    let whole : c.loop-place.place ≡ length c.args.keys.now = omega arith in
    c.loop-place.invariant ∙ ap (λ n. map (key_place c.args.keys.now) (range_with_len 0 n)) whole
