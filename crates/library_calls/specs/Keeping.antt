-- What C keeps behind a pointer owns the same as a box of it.
use Rattle.std.specs.Prelude.{Option, Some, None}
use base.Fml.{Fml, ftrue}
use denote.RattleType.{RattleType}
use denote.RawPtr.{Ptr}
use Rattle.std.specs.Box.Ownership.{box_owns}
use Rattle.std.specs.Global.{Global}
use Rattle.std_heap.specs.contracts.GlobalAllocator.TheImpl.{ghosts}

-- a value of a type behind a pointer, and the allocator that frees it
abbrev pub held_owns : (R : RattleType) → Global → Ptr → R.Denot → Fml
held_owns R alloc = box_owns (ghosts.dealloc_token alloc) R

-- nothing is owned where there is no value
abbrev pub slot_owns : (R : RattleType) → Global → Ptr → Option R.Denot → Fml
slot_owns R alloc at None = ftrue
slot_owns R alloc at (Some value) = held_owns R alloc at value
