use Rattle.std.proofs.Common.{refl, sym}
use Rattle.geometry_model.specs.Geometries.{edges}
use Rattle.matrix_laws.specs.Cells.{Covers}
use Rattle.de9im.proofs.ApartChains.{chain_follows, none_between}
use Rattle.de9im.proofs.apart.left_of_chain.Goals as goal

pub returns-then-is_full_in-clause-covers : goal.returns-then-is_full_in-clause-covers
returns-then-is_full_in-clause-covers c =
    let a = c.args.first.now in
    let b = c.args.second.now in
    (chain_follows a b c.args.part c.args.matrix.now c.requires.valid c.requires.lengths c.requires.ends
    (c.is_full_in.ensures c.if-is_full_in.true a (sym c.kind.ensures)) c.args.from c.chain_start.result c.args.place
    c.requires.within c.chain_start.ensures.from c.chain_start.ensures.before c.requires.apart c.requires.part
    (c.chain_start.ensures.chain (edges a) c.boxes.ensures)).1

pub returns-then-is_full_in-clause-part : goal.returns-then-is_full_in-clause-part
returns-then-is_full_in-clause-part c =
    let a = c.args.first.now in
    let b = c.args.second.now in
    (chain_follows a b c.args.part c.args.matrix.now c.requires.valid c.requires.lengths c.requires.ends
    (c.is_full_in.ensures c.if-is_full_in.true a (sym c.kind.ensures)) c.args.from c.chain_start.result c.args.place
    c.requires.within c.chain_start.ensures.from c.chain_start.ensures.before c.requires.apart c.requires.part
    (c.chain_start.ensures.chain (edges a) c.boxes.ensures)).0

pub returns-clause-covers : goal.returns-clause-covers
returns-clause-covers c = none_between (Covers c.args.first.now c.args.second.now c.args.matrix.now) (edges c.args.first.now)
    c.args.place c.args.place refl
