-- The number, the sides, the rows and the line feed: a front of one of them after those before it.
use Rattle.std.proofs.Common.{◌≡◌, ◌++◌, Option, None, ap, codes, decimal, rules, slice_get, subst, sym, unwrap_or}
use Rattle.std.specs.Io.KnownBytes.{Appends}
use Rattle.streams.proofs.SinkLemmas.{Appends-then, AppendsFront-more, AppendsFront-then, OnErr-holds}
use Rattle.streams.specs.Sinks.{AppendsFront}
use Rattle.table_laws.specs.Cells.{Cell, cells_of}
use Rattle.sfq_tiles.specs.Lists.{rows_text, sides_text}
use Rattle.sfq_tiles.proofs.ListLemmas.{last_front}
use Rattle.sfq_tiles.proofs.listing.put_tile.Goals as goal

pub returns-in_err-put_all-clause-front : goal.returns-in_err-put_all-clause-front
returns-in_err-put_all-clause-front g c =
    let number = decimal c.args.number in
    let sides = sides_text (unwrap_or (slice_get (cells_of c.args.cells.now) c.args.number) None) in
    let rows = rows_text c.args.parts.now c.args.number in
    let is : c.as_bytes.result.now ≡ number = search rules in
    let front = subst (λ t. AppendsFront (g.S.Sink.taken c.args.out.now) (g.S.Sink.taken c.put_all.new.sink) t) is c.in_err-put_all.ensures.front in
    OnErr-holds c.from_residual.result
    (AppendsFront-more _ _ ((number ++ sides) ++ rows) (codes "\n") (AppendsFront-more _ _ (number ++ sides) rows (AppendsFront-more _ _ number sides front)))

pub returns-in_err-put_sides-clause-front : goal.returns-in_err-put_sides-clause-front
returns-in_err-put_sides-clause-front g c =
    let taken = g.S.Sink.taken in
    let number = decimal c.args.number in
    let sides = sides_text (unwrap_or (slice_get (cells_of c.args.cells.now) c.args.number) None) in
    let rows = rows_text c.args.parts.now c.args.number in
    let is : c.as_bytes.result.now ≡ number = search rules in
    let cell = ap (λ (o : Option Cell). sides_text (unwrap_or o None)) (sym c.cell.ensures) in
    let first = subst (λ t. Appends (taken c.args.out.now) (taken c.put_all.new.sink) t) is c.in_ok-put_all.ensures.ok in
    let front = subst (λ t. AppendsFront (taken c.put_all.new.sink) (taken c.put_sides.new.out) t) cell c.in_err-put_sides.ensures.front in
    OnErr-holds c.from_residual-in_err-put_sides.result
    (AppendsFront-more _ _ ((number ++ sides) ++ rows) (codes "\n") (AppendsFront-more _ _ (number ++ sides) rows (AppendsFront-then _ (taken c.put_all.new.sink) _ number sides first front)))

pub returns-in_err-put_rows-clause-front : goal.returns-in_err-put_rows-clause-front
returns-in_err-put_rows-clause-front g c =
    let taken = g.S.Sink.taken in
    let number = decimal c.args.number in
    let sides = sides_text (unwrap_or (slice_get (cells_of c.args.cells.now) c.args.number) None) in
    let rows = rows_text c.args.parts.now c.args.number in
    let is : c.as_bytes.result.now ≡ number = search rules in
    let cell = ap (λ (o : Option Cell). sides_text (unwrap_or o None)) (sym c.cell.ensures) in
    let first = subst (λ t. Appends (taken c.args.out.now) (taken c.put_all.new.sink) t) is c.in_ok-put_all.ensures.ok in
    let second = subst (λ t. Appends (taken c.put_all.new.sink) (taken c.put_sides.new.out) t) cell c.in_ok-put_sides.ensures.ok in
    let before = Appends-then _ (taken c.put_all.new.sink) _ number sides first second in
    OnErr-holds c.from_residual-in_err-put_rows.result
    (AppendsFront-more _ _ ((number ++ sides) ++ rows) (codes "\n") (AppendsFront-then _ (taken c.put_sides.new.out) _ (number ++ sides) rows before c.in_err-put_rows.ensures.front))

pub returns-clause-front : goal.returns-clause-front
returns-clause-front g c =
    let taken = g.S.Sink.taken in
    let number = decimal c.args.number in
    let sides = sides_text (unwrap_or (slice_get (cells_of c.args.cells.now) c.args.number) None) in
    let rows = rows_text c.args.parts.now c.args.number in
    let is : c.as_bytes.result.now ≡ number = search rules in
    let cell = ap (λ (o : Option Cell). sides_text (unwrap_or o None)) (sym c.cell.ensures) in
    let first = subst (λ t. Appends (taken c.args.out.now) (taken c.put_all.new.sink) t) is c.in_ok-put_all.ensures.ok in
    let second = subst (λ t. Appends (taken c.put_all.new.sink) (taken c.put_sides.new.out) t) cell c.in_ok-put_sides.ensures.ok in
    let before = Appends-then _ (taken c.put_all.new.sink) _ number sides first second in
    last_front c.put_all-2.result _ (taken c.put_rows.new.out) _ ((number ++ sides) ++ rows) (codes "\n")
    (Appends-then _ (taken c.put_sides.new.out) _ (number ++ sides) rows before c.in_ok-put_rows.ensures.ok) c.put_all-2.ensures.front
