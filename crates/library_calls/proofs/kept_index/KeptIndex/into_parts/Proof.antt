-- The parts are given the pointer and the allocator, and with them what the kept index owns.
use mathlib.Core.Path.{◌≡◌, refl}
use base.Logic.{id⊢}
use Rattle.rtree.specs.contracts.curve_trees.CurveTree as CurveTree
use Rattle.rtree.proofs.curve_trees.CurveTree.TheLaws as tree
use Rattle.library_calls.proofs.PointerMoves.{Keeper, heap_parts, moved}
use Rattle.library_calls.specs.contracts.kept_index.KeptIndex as Kept
use Rattle.library_calls.proofs.kept_index.KeptIndex.TheLaws as kept
use Rattle.library_calls.specs.contracts.kept_index.KeptIndex.into_parts as f
use Rattle.library_calls.proofs.kept_index.KeptIndex.into_parts.Statement.{statement}
use Rattle.library_calls.proofs.kept_index.KeptIndex.into_parts.Code as code

abbrev keeper : Keeper
keeper = record {
  of = Kept.the_type;
  at = λ k. k.at;
  alloc = λ k. k.alloc;
  tells = kept.lowers.val_is;
  last = λ k. tt;
  silent = λ k w. refl;
}

pub into_parts_spec : {M : Type 1} → statement M
into_parts_spec 𝓤 𝓛 𝓜 𝓡 wired =
    moved keeper (heap_parts CurveTree.the_row tree.the_row_laws).of (λ k p. p.value ≡ k.envelopes)
    𝓤 𝓛 𝓜 𝓡 f.Key.name (code.unfolded 𝓤 𝓛.H 𝓜 𝓡 wired)
    (λ k. record { at = k.at; alloc = k.alloc; value = k.envelopes }) (λ k. refl) (λ k. id⊢ 𝓤 _)
