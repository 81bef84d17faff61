-- The parts are given the pointer and the allocator, and with them what the kept database owns.
use mathlib.Core.Path.{◌≡◌, refl}
use base.Logic.{id⊢}
use Rattle.sfq_tables.specs.contracts.connections.Connection as Connection
use Rattle.sfq_tables.proofs.connections.Connection.TheLaws as connection
use Rattle.library_calls.proofs.PointerMoves.{Keeper, heap_parts, moved}
use Rattle.sfq_tables.specs.contracts.kept_connection.KeptConnection as Kept
use Rattle.sfq_tables.proofs.kept_connection.KeptConnection.TheLaws as kept
use Rattle.sfq_tables.specs.contracts.kept_connection.KeptConnection.into_parts as f
use Rattle.sfq_tables.proofs.kept_connection.KeptConnection.into_parts.Statement.{statement}
use Rattle.sfq_tables.proofs.kept_connection.KeptConnection.into_parts.Code as code

abbrev keeper : Keeper
keeper = record {
  of = Kept.the_type;
  at = λ k. k.at;
  alloc = λ k. k.alloc;
  tells = kept.lowers.val_is;
  last = λ k. tt;
  silent = λ k w. refl;
}

pub into_parts_spec : {M : Type 1} → statement M
into_parts_spec 𝓤 𝓛 𝓜 𝓡 wired =
    moved keeper (heap_parts Connection.the_row connection.the_row_laws).of (λ k p. p.value ≡ k.connection)
    𝓤 𝓛 𝓜 𝓡 f.Key.name (code.unfolded 𝓤 𝓛.H 𝓜 𝓡 wired)
    (λ k. record { at = k.at; alloc = k.alloc; value = k.connection }) (λ k. refl) (λ k. id⊢ 𝓤 _)
