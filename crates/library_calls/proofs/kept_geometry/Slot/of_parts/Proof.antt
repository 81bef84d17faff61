-- A slot is given the pointer and the allocator, and with them what the parts own.
use mathlib.Core.Path.{◌≡◌, refl}
use base.Logic.{id⊢}
use Rattle.std.specs.Prelude.{Some}
use Rattle.validity.specs.contracts.valid_geometry.Valid as Valid
use Rattle.validity.proofs.valid_geometry.Valid.TheLaws as valid
use Rattle.library_calls.proofs.PointerMoves.{heap_parts, moved}
use Rattle.library_calls.specs.contracts.kept_geometry.Slot as Slot
use Rattle.library_calls.specs.contracts.kept_geometry.Slot.of_parts as f
use Rattle.library_calls.proofs.kept_geometry.Slot.of_parts.Statement.{statement}
use Rattle.library_calls.proofs.kept_geometry.Slot.of_parts.Code as code

pub of_parts_spec : {M : Type 1} → statement M
of_parts_spec 𝓤 𝓛 𝓜 𝓡 wired =
    moved (heap_parts Valid.the_row valid.the_row_laws) Slot.the_type (λ p s. s.geometry ≡ Some p.value)
    𝓤 𝓛 𝓜 𝓡 f.Key.name (code.unfolded 𝓤 𝓛.H 𝓜 𝓡 wired)
    (λ p. record { at = p.at; alloc = p.alloc; geometry = Some p.value }) (λ p. refl) (λ p. id⊢ 𝓤 _)
