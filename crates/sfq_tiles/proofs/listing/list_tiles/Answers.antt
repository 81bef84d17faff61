-- A front of the header, or of the lines after it.
use Rattle.std.proofs.Common.{◌+◌, length}
use Rattle.std.specs.List.{flat_map, range_with_len}
use Rattle.streams.proofs.SinkLemmas.{AppendsFront-more, OnErr-holds}
use Rattle.sfq_tiles.specs.Lists.{tile_line, tiles_header}
use Rattle.sfq_tiles.proofs.ListLemmas.{last_front}
use Rattle.sfq_tiles.proofs.listing.list_tiles.Goals as goal

pub returns-in_err-put_header-clause-front : goal.returns-in_err-put_header-clause-front
returns-in_err-put_header-clause-front g c =
    let lines = flat_map (tile_line c.args.cells.now c.args.parts.now) (range_with_len 0 (length c.args.cells.now + 1)) in
    OnErr-holds c.from_residual.result (AppendsFront-more _ _ (tiles_header c.args.parts.now) lines c.in_err-put_header.ensures.front)

pub returns-clause-front : goal.returns-clause-front
returns-clause-front g c =
    let lines = flat_map (tile_line c.args.cells.now c.args.parts.now) (range_with_len 0 (length c.args.cells.now + 1)) in
    last_front c.put_tiles.result _ (g.S.Sink.taken c.put_header.new.out) _ (tiles_header c.args.parts.now) lines c.in_ok-put_header.ensures.ok c.put_tiles.ensures.front
