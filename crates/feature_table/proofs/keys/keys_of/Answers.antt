use Rattle.std.proofs.Common.{◌≡◌, ◌∙◌, ◌++◌, ◌∷◌, [], ℕ, ℤ, List, ap, ap₂, arith, sym, map}
use Rattle.std.proofs.lemmas.Int.{to_z-of_z}
use Rattle.std.proofs.lemmas.List.FromFn.{map-range_with_len_more}
use Rattle.std.specs.List.{range_with_len}
use mir.Syntax.{w64}
use Rattle.feature_table.proofs.FlatLemmas.{within_first}
use Rattle.feature_table.specs.FlatRows.{row_at}
use Rattle.table_model.specs.Loading.{key_of}
use Rattle.feature_table.proofs.keys.keys_of.Goals as goal

pub row-requires : goal.row-requires
row-requires c =
    let inside = within_first c.args.width c.args.count c.loop-place.place c.loop-place-test.true in
    omega (arith, inside, c.requires)

pub loop-place-preserved : goal.loop-place-preserved
loop-place-preserved c =
    let key = λ (place : ℕ). key_of c.args.key (row_at c.args.width c.args.values.now place) in
    let grown = map-range_with_len_more key 0 c.loop-place.place c.loop-place.place (omega arith) in
    let read = to_z-of_z w64 c.key_in.result (record { sfits = c.key_in.type_inv }) ∙ c.key_in.ensures ∙ ap (key_of c.args.key) c.row.ensures in
    c.in_ok-push.ensures.items ∙ ap₂ (λ (l : List ℤ) (k : ℤ). l ++ k ∷ []) c.loop-place.invariant read ∙ sym grown

pub returns : goal.returns
returns c =
    let key = λ (place : ℕ). key_of c.args.key (row_at c.args.width c.args.values.now place) in
    let whole : c.loop-place.place ≡ c.args.count = omega arith in
    c.loop-place.invariant ∙ ap (λ n. map key (range_with_len 0 n)) whole
