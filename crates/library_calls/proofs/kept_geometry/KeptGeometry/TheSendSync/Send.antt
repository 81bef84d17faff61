-- A kept geometry owns what a box of the geometry owns, and no more. A box on the heap may go to another thread where what is in it may,
-- so a kept geometry may go too.
use denote.Param.Send.{IsSend}
use Rattle.std.proofs.Crossing.{Box-send}
use Rattle.validity.specs.contracts.valid_geometry.Valid as Valid
use Rattle.validity.proofs.valid_geometry.Valid.TheSendSync.{the_send}
use Rattle.library_calls.specs.contracts.kept_geometry.KeptGeometry as KeptGeometry

pub send : IsSend KeptGeometry.the_row
send = record {
  owned = λ kept. (Box-send Valid.the_row the_send).owned (record { ptr = kept.at; alloc = kept.alloc; value = kept.geometry });
  leaving = λ exits kept shown. tt;
}
