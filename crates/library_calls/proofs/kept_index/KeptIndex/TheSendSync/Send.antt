-- A kept index owns what a box of the index owns, and no more. A box on the heap may go to another thread where what is in it
-- may, so a kept index may go too.
use denote.Param.Send.{IsSend}
use Rattle.std.proofs.Crossing.{Box-send}
use Rattle.rtree.specs.contracts.curve_trees.CurveTree as CurveTree
use Rattle.rtree.proofs.curve_trees.CurveTree.TheSendSync.{the_send}
use Rattle.library_calls.specs.contracts.kept_index.KeptIndex as KeptIndex

pub send : IsSend KeptIndex.the_row
send = record {
  owned = λ kept.
      (Box-send CurveTree.the_row the_send).owned (record { ptr = kept.at; alloc = kept.alloc; value = kept.envelopes });
  leaving = λ exits kept shown. tt;
}
