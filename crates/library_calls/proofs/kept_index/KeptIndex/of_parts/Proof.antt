-- A kept index is given the pointer and the allocator, and with them what the parts own.
use mathlib.Core.Path.{◌≡◌, refl}
use base.Logic.{id⊢}
use Rattle.rtree.specs.contracts.curve_trees.CurveTree as CurveTree
use Rattle.rtree.proofs.curve_trees.CurveTree.TheLaws as tree
use Rattle.library_calls.proofs.PointerMoves.{heap_parts, moved}
use Rattle.library_calls.specs.contracts.kept_index.KeptIndex as Kept
use Rattle.library_calls.specs.contracts.kept_index.KeptIndex.of_parts as f
use Rattle.library_calls.proofs.kept_index.KeptIndex.of_parts.Statement.{statement}
use Rattle.library_calls.proofs.kept_index.KeptIndex.of_parts.Code as code

pub of_parts_spec : {M : Type 1} → statement M
of_parts_spec 𝓤 𝓛 𝓜 𝓡 wired =
    moved (heap_parts CurveTree.the_row tree.the_row_laws) Kept.the_type (λ p k. k.envelopes ≡ p.value)
    𝓤 𝓛 𝓜 𝓡 f.Key.name (code.unfolded 𝓤 𝓛.H 𝓜 𝓡 wired)
    (λ p. record { at = p.at; alloc = p.alloc; envelopes = p.value }) (λ p. refl) (λ p. id⊢ 𝓤 _)
