-- The word, the numbers with a space before each, and the line feed, one after another.
use Rattle.std.proofs.Common.{rules, ◌≢◌, ◌++◌, ◌∷◌, [], length, map, codes, refl}
use Rattle.std.specs.List.{concat}
use Rattle.streams.proofs.SinkLemmas.{AppendsFront-more}
use Rattle.table_model.specs.ExplainTexts.{conjunct_number}
use Rattle.explain.proofs.PutLemmas.{put-done, puts, puts-begun, puts-failed, puts-same, puts-then}
use Rattle.explain.proofs.TextLemmas.{filter_line}
use Rattle.explain.proofs.filter_line.put_filters.Goals as goal

pub returns-in_err-put_all : goal.returns-in_err-put_all
returns-in_err-put_all g c =
    let some : length c.args.filters.now ≢ 0 = search rules in
    let places = concat (map (λ k. codes " " ++ conjunct_number k) c.args.filters.now) in
    puts-same (filter_line c.args.filters.now some)
    (puts-failed c.from_residual.result _ _ c.from_residual.ensures.1
    (AppendsFront-more _ _ (codes "filter") (places ++ codes "\n") c.in_err-put_all.ensures.front) refl
    c.in_err-put_all.ensures.failures)

pub returns-in_err-put_places : goal.returns-in_err-put_places
returns-in_err-put_places g c =
    let some : length c.args.filters.now ≢ 0 = search rules in
    let places = concat (map (λ k. codes " " ++ conjunct_number k) c.args.filters.now) in
    puts-same (filter_line c.args.filters.now some)
    (puts-then (put-done g.S.Sink.taken g.S.Sink.failures c.args.sink.now c.put_all-2.new.sink (codes "filter")
    c.in_ok-put_all.ensures.ok c.in_ok-put_all.ensures.failures)
    (puts-begun c.from_residual-in_err-put_places.result places (codes "\n" ∷ []) c.in_err-put_places.ensures
    c.from_residual-in_err-put_places.ensures.1))

pub returns : goal.returns
returns g c =
    let some : length c.args.filters.now ≢ 0 = search rules in
    puts-same (filter_line c.args.filters.now some)
    (puts-then (put-done g.S.Sink.taken g.S.Sink.failures c.args.sink.now c.put_all-2.new.sink (codes "filter")
    c.in_ok-put_all.ensures.ok c.in_ok-put_all.ensures.failures)
    (puts-then c.in_ok-put_places.ensures
    (puts g.S.Sink.taken g.S.Sink.failures c.put_places.new.sink c.put_all-3.new.sink c.put_all-3.result (codes "\n") (codes "\n") refl
    c.put_all-3.ensures.ok c.put_all-3.ensures.front c.put_all-3.ensures.failures)))
