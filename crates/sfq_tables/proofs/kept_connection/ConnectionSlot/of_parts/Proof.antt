-- A slot is given the pointer and the allocator, and with them what the parts own.
use mathlib.Core.Path.{◌≡◌, refl}
use base.Logic.{id⊢}
use Rattle.std.specs.Prelude.{Some}
use Rattle.sfq_tables.specs.contracts.connections.Connection as Connection
use Rattle.sfq_tables.proofs.connections.Connection.TheLaws as connection
use Rattle.library_calls.proofs.PointerMoves.{heap_parts, moved}
use Rattle.sfq_tables.specs.contracts.kept_connection.ConnectionSlot as Slot
use Rattle.sfq_tables.specs.contracts.kept_connection.ConnectionSlot.of_parts as f
use Rattle.sfq_tables.proofs.kept_connection.ConnectionSlot.of_parts.Statement.{statement}
use Rattle.sfq_tables.proofs.kept_connection.ConnectionSlot.of_parts.Code as code

pub of_parts_spec : {M : Type 1} → statement M
of_parts_spec 𝓤 𝓛 𝓜 𝓡 wired =
    moved (heap_parts Connection.the_row connection.the_row_laws) Slot.the_type (λ p s. s.connection ≡ Some p.value)
    𝓤 𝓛 𝓜 𝓡 f.Key.name (code.unfolded 𝓤 𝓛.H 𝓜 𝓡 wired)
    (λ p. record { at = p.at; alloc = p.alloc; connection = Some p.value }) (λ p. refl) (λ p. id⊢ 𝓤 _)
