use Rattle.std.proofs.Common.{◌≡◌, Some, ap, arith, length, slice_get, subst}
use Rattle.feature_table.proofs.tables.Table.row.Goals as goal

pub row-requires : goal.row-requires
row-requires g c = let view = ap length c.self.view_is in omega (arith, view, c.requires)

pub returns : goal.returns
returns g c = subst (λ rows. slice_get rows c.args.i ≡ Some c.row.result) c.self.view_is c.row.ensures
