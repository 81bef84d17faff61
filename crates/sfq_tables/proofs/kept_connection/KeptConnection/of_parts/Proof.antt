-- A kept database is given the pointer and the allocator, and with them what the parts own.
use mathlib.Core.Path.{◌≡◌, refl}
use base.Logic.{id⊢}
use Rattle.sfq_tables.specs.contracts.connections.Connection as Connection
use Rattle.sfq_tables.proofs.connections.Connection.TheLaws as connection
use Rattle.library_calls.proofs.PointerMoves.{heap_parts, moved}
use Rattle.sfq_tables.specs.contracts.kept_connection.KeptConnection as Kept
use Rattle.sfq_tables.specs.contracts.kept_connection.KeptConnection.of_parts as f
use Rattle.sfq_tables.proofs.kept_connection.KeptConnection.of_parts.Statement.{statement}
use Rattle.sfq_tables.proofs.kept_connection.KeptConnection.of_parts.Code as code

pub of_parts_spec : {M : Type 1} → statement M
of_parts_spec 𝓤 𝓛 𝓜 𝓡 wired =
    moved (heap_parts Connection.the_row connection.the_row_laws) Kept.the_type (λ p k. k.connection ≡ p.value)
    𝓤 𝓛 𝓜 𝓡 f.Key.name (code.unfolded 𝓤 𝓛.H 𝓜 𝓡 wired)
    (λ p. record { at = p.at; alloc = p.alloc; connection = p.value }) (λ p. refl) (λ p. id⊢ 𝓤 _)
