-- Structs of a pointer and an allocator, which own a box's value. A function that takes one apart and makes another of its
-- fields hands on what it owned. Its steps are written once, for all such functions.
use mathlib.Core.Path.{◌≡◌, refl}
use mathlib.Core.List.{[], ◌∷◌, map}
use lib.Dec.{T, lit<}
use seplogic.Ra.Ura.{Ura}
use mir.Syntax.{Sym, Ty, ty_struct, ty_ptr, tcons, tnil, Fn, local, value_local, Callee}
use mir.Syntax.{seq, assign, place, field, copy, rv_opd, aggregate, return}
use mir.Val.{Val, vstruct, vcons, vnil, has_ty, WT}
use base.Fml.{ftrue}
use base.Logic.{ent}
use contract.Monad.{fact}
use contract.Notation.{connectives}
use contract.Running.{Running, MachineTables, tables}
use prog.Model.{Model}
use prog.Wp.{Closed}
use types.Logic.{Logic, sem}
use types.Kit.{‵, ◌⊛◌, ◌$◌, ◌∵◌, !, qed, move, keep, use1, split, join, fjoin, suffices, done}
use types.Part.{whole, sub, agg}
use types.Run.{stop, fld, no_more, and_then, of_opd, returns, enter}
use types.ByLocal.{alloc_all, pass_all, free_all, look_at, get, get_in, sets}
use denote.RattleType.{RattleType}
use denote.Exit.{yes, Last, left}
use denote.Laws.{Is, Tells}
use denote.Param.Laws.{Laws}
use denote.RawPtr.{Ptr, block_ptr, null_ptr, ptr_val}
use denote.Signature.{plain}
use denote.Steps.{nothing}
use denote.Struct.Owning.{Owning, row}
use denote.Triple.Clauses.{Ended, Clauses, closing}
use denote.Triple.Spec.{Meets}
use denote.Triple.Walked.{says, Stays, stay_dropped, walk_of, ends_at, Goes-dropped}
use Rattle.std.specs.Global.{Global}
use Rattle.std.proofs.raw_atomic.Walks.{proved}
use Rattle.std_heap.specs.contracts.Global as Heap
use Rattle.std_heap.specs.contracts.GlobalAllocator.TheImpl.{ghosts}
use Rattle.std_heap.proofs.Global.TheLaws as heap
use Rattle.library_calls.specs.contracts.parts.Parts as Parts
use Rattle.library_calls.proofs.parts.Parts.TheLaws as parts

abbrev word : Ptr → Global → Val
word at alloc = vstruct (vcons (ptr_val at) (vcons (heap.lowered alloc) vnil))

abbrev word_ty : Sym → Ty
word_ty name = ty_struct name (tcons ty_ptr (tcons heap.mir tnil))

ptr_typed : (at : Ptr) → T (has_ty ty_ptr (ptr_val at)) × WT (ptr_val at)
ptr_typed (block_ptr b o) = (tt, tt)
ptr_typed null_ptr = (tt, record { fits = lit< tt })

word_typed : (name : Sym) (at : Ptr) (alloc : Global) → T (has_ty (word_ty name) (word at alloc)) × WT (word at alloc)
word_typed name (block_ptr b o) alloc = (tt, (tt, (((tt, tt), tt), tt)))
word_typed name null_ptr alloc = (tt, (record { fits = lit< tt }, (((tt, tt), tt), tt)))

-- such a struct: what its values are to the machine, and that nothing is learnt of one that a function used up
pub record Keeper : Type 2 where
  pub of : Owning
  pub at : of.D → Ptr
  pub alloc : of.D → Global
  pub tells : Tells (row of) (Is (row of)) (λ d. word (at d) (alloc d) ∷ [])
  pub last : (d : of.D) → Last (of.exit yes) d
  pub silent : (d : of.D) (w : Last (of.exit yes) d) → left (of.exit yes) d w ≡ ftrue

-- the parts of a box on the heap
abbrev pub heap_parts : (R : RattleType) → Laws R → Keeper
heap_parts R laws = record {
  of = Parts.the_type R Heap.the_row ghosts;
  at = λ p. p.at;
  alloc = λ p. p.alloc;
  tells = (parts.lowers R Heap.the_row ghosts laws heap.the_row_laws heap.the_told).val_is;
  last = λ p. tt;
  silent = λ p w. refl;
}

-- let From { at, alloc } = from; To { at: at as *mut U, alloc }
abbrev mover : Sym → Sym → Fn
mover from to = record {
  lifetimes = 0;
  outlives = [];
  ty_params = [];
  givens = 0;
  params = 1;
  locals = map (λ τ. local τ value_local) (word_ty to ∷ word_ty from ∷ ty_ptr ∷ heap.mir ∷ ty_ptr ∷ []);
  body = seq (assign (place 2 []) (rv_opd (copy (place 1 (field 0 ∷ [])))))
      (seq (assign (place 3 []) (rv_opd (copy (place 1 (field 1 ∷ [])))))
      (seq (assign (place 4 []) (rv_opd (copy (place 2 []))))
      (seq (assign (place 0 []) (aggregate (copy (place 4 []) ∷ copy (place 3 []) ∷ []))) return)));
}

module _ (from : Keeper) (to : Owning) where
  abbrev moves : Ended
  moves = record {
    signature = record { lifetimes = 0; outlives = []; params = plain (λ κs. row from.of) ∷ []; result = plain (λ κs. row to) };
    kept = (yes, tt);
  }

  abbrev stayed : Stays moves.signature.params moves.kept
  stayed = (stay_dropped (plain (λ κs. row from.of)) yes, tt)

  abbrev word_of : from.of.D → Val
  word_of d = word (from.at d) (from.alloc d)

  module _ (IsMoved : from.of.D → to.D → Type 0)
      {M : Type 1} (𝓤 : Ura M) (𝓛 : Logic 𝓤) (𝓜 : Model 𝓤 𝓛.H) (𝓡 : Running 𝓤 𝓛.H 𝓜) where
    abbrev 𝓣 : MachineTables 𝓤 𝓛.H 𝓜
    𝓣 = tables 𝓤 𝓛.H 𝓜 𝓡 𝓡.env

    abbrev clauses : Clauses 𝓤 moves
    clauses = λ κs a. record { ghost = Unit {0}; requires = λ g. (connectives 𝓤).⊤ₛ; ensures = λ g r e. fact 𝓤 (IsMoved a.0 r) }

    -- the function promises that its result is moved, as one that owns no more than its argument is
    pub moved : (k : Callee) → Closed 𝓤 𝓛.H 𝓣.C 𝓣.Λ k (mover from.of.name to.name)
        → (move : from.of.D → to.D) → ((d : from.of.D) → IsMoved d (move d))
        → ((d : from.of.D) → ent 𝓤 (sem 𝓛 ((row from.of).own_val d (word_of d ∷ [])))
        (sem 𝓛 ((row to).own_val (move d) (word_of d ∷ []))))
        → Meets 𝓛 moves.signature (𝓣.C k) (closing 𝓛 moves clauses)
    moved k closed moving is_moved owns =
        let W = walk_of 𝓛 moves stayed clauses in
        proved 𝓛 moves stayed clauses 𝓜 𝓡 (Goes-dropped 𝓛 0 (plain (λ κs. row from.of)) yes (λ κs. from.silent), tt)
        k (mover from.of.name to.name) closed (λ κs. ((λ d. word_of d ∷ []), tt)) (λ κs. (from.tells, tt))
        (λ κs qs bounds a none are.
        let d = a.0 in let v = word_of d in
        let y : W.Ghost = ((κs, qs, bounds, a, (v ∷ [], tt)), none) in
        let fits = word_typed from.of.name (from.at d) (from.alloc d) in
        qed 𝓛 ((‵ ftrue ⊛ ‵ ((row from.of).own_val d (v ∷ [])) ⊛ ‵ ftrue) ∷ ‵ ftrue ∷ []) ∵
        split ! $ move ! (1 ∷ []) $ split ! $ keep ! (0 ∷ []) $ use1 𝓛 (‵ ((row to).own_val (moving d) (v ∷ []))) (owns d) $
        enter ! _ _ _ _ _ $ alloc_all ! (λ l. pass_all ! refl (fits, tt) $
        sets ! (of_opd ! (get_in ! (fld ! refl (stop !)) (sub ! 0 refl (whole !)))) refl (ptr_typed (from.at d)) $
        sets ! (of_opd ! (get_in ! (fld ! refl (stop !)) (sub ! 1 refl (whole !)))) refl (tt, fits.1.1.0) $
        sets ! (of_opd ! (get ! refl)) refl (ptr_typed (from.at d)) $
        sets ! (agg ! (and_then ! (get ! refl) (and_then ! (get ! refl) (no_more !)))) refl fits $
        returns ! (look_at ! 0 refl) $ free_all ! refl $
        suffices ! _ (ends_at 𝓛 moves stayed clauses y v (moving d) (from.last d, tt) (tt, tt)) $ says ! (is_moved d) $
        nothing ! $ nothing ! $ fjoin ! $ join ! $ nothing ! $ join ! $ done !))
