-- What the parts own is what `from_raw` asks for, and it hands back the box.
use mathlib.Core.Path.{◌≡◌, refl}
use mathlib.Core.List.{List, [], ◌∷◌, ◌++◌}
use mir.MapTy.{inst_fn}
use mir.Val.{Val, vptr}
use base.Logic.{id⊢}
use base.Fml.{ftrue, fsep, flft}
use contract.BorrowLft.{◌⊑◌}
use contract.Monad.{fact}
use contract.Running.{tables}
use prog.Wp.{WpFn}
use types.Kit.{Item, at_ret, ‵, raw, ◌⊛◌, some, later, prop, ◌$◌, ◌∵◌, !, qed, move, drop, use1, join, split, split3, pick, fsplit, fjoin, feq_i, regoal, suffices, await, done}
use types.Part.{whole, sub}
use types.Run.{stop, fld, no_more, and_then, of_opd, returns, enter, first, blocks, exec}
use types.ByLocal.{alloc_all, pass_all, free_all, look_at, get, get_in, sets, lands_last, env}
use denote.RattleType.{RattleType}
use denote.Exit.{no}
use denote.RawPtr.{block_ptr}
use denote.Signature.{plain}
use denote.Steps.{heard, nothing}
use denote.Triple.Call.{calls_at_last}
use denote.Triple.Clauses.{Ended}
use denote.Triple.Spec.{triple_of}
use denote.Triple.Table.{framed}
use denote.Triple.Walked.{says, Stays, stay_dropped, walk_of, ends_at}
use Rattle.std.proofs.raw_atomic.Walks.{proved_at}
use Rattle.std.proofs.alloc.Calls.{Goes-blank}
use Rattle.std_alloc.proofs.VecSteps.Shapes.{after}
use Rattle.std_alloc.proofs.BoxSteps.Form.{Bx, D, R, P, B, args, box_typed}
use Rattle.std_alloc.proofs.BoxSteps.Steps.{box_out}
use Rattle.std_alloc.specs.contracts.boxed.Box.from_raw as g
use Rattle.std_alloc.proofs.boxed.Box.from_raw.Met as g_met
use Rattle.library_calls.proofs.BoxWords.{sees_typed}
use Rattle.library_calls.specs.contracts.parts.Parts as Parts
use Rattle.library_calls.specs.contracts.parts.Parts.into_box as f
use Rattle.library_calls.proofs.parts.Parts.into_box.Statement.{statement}
use Rattle.library_calls.proofs.parts.Parts.into_box.Code as code

module _ (E : Bx) where
  abbrev Given : RattleType
  Given = Parts.the_row (R E) (P E) E.al.g

  abbrev taken : Ended
  taken = f.ended E.row E.al.row E.al.g E.al.d E.al.drops

  abbrev stayed : Stays taken.signature.params taken.kept
  stayed = (stay_dropped (plain (λ _. Given)) no, tt)

pub into_box_spec : {M : Type 1} → statement M
into_box_spec 𝓤 𝓛 𝓜 𝓡 wired X Z LX LZ gh d dd allocator md =
    let E : Bx = record { row = X; laws = LX; al = record { row = Z; laws = LZ; g = gh; d = d; drops = dd } } in
    let c = f.clauses X Z gh d dd 𝓛 𝓜.mem 𝓡.returns in let W = walk_of 𝓛 (taken E) (stayed E) c in
    let here = inst_fn (args E) code.function in let 𝓣 = tables 𝓤 𝓛.H 𝓜 𝓡 𝓡.env in
    let G = triple_of 𝓛 (g.signature X Z gh d dd) (g.spec X Z gh d dd 𝓛 𝓜.mem 𝓡.returns) in
    proved_at 𝓛 (taken E) (stayed E) c 𝓜 𝓡 (Goes-blank 𝓛 2 (plain (λ _. Given E)) no (λ κs x s. tt), tt)
    (f.Key.name (args E)) here (code.unfolded 𝓤 𝓛.H 𝓜 𝓡 wired (X, (Z, tt)) d dd) (λ y _.
    let κs = y.0.0 in let qs = y.0.1 in let parts = y.0.3.0 in
    let was : D E = record { ptr = parts.at; alloc = parts.alloc; value = parts.value } in
    let alive : Item 𝓤 = ‵ (flft κs.0 qs.0) ⊛ ‵ (flft κs.1.0 qs.1.0) ⊛ ‵ ftrue in
    let in_x : Item 𝓤 = raw (fact 𝓤 (κs.0 ⊑ X.lives)) in let in_z : Item 𝓤 = raw (fact 𝓤 (κs.1.0 ⊑ Z.lives)) in
    qed 𝓛 ((alive ⊛ ‵ (fsep ((B E).own_val was y.0.4.0) ftrue)) ∷ (in_x ⊛ in_z ⊛ ‵ ftrue) ∷ []) ∵
    split ! $ move ! (1 ∷ []) $ fsplit ! $ box_out E ! was y.0.4.0 (λ b o hv at is fits. fjoin ! $
    regoal ! (λ (vs : List Val). prop (WpFn 𝓤 𝓛.H 𝓣.C 𝓣.Λ here (vs ++ []) (W.post y))) is refl $
    enter ! _ _ _ _ _ $ alloc_all ! (λ l. pass_all ! refl (box_typed E hv b o fits, tt) $
    sets ! (of_opd ! (get_in ! (fld ! refl (stop !)) (sub ! 0 refl (whole !)))) refl (tt, tt) $
    sets ! (of_opd ! (get_in ! (fld ! refl (stop !)) (sub ! 1 refl (whole !)))) refl fits $
    first ! $ blocks ! $ sets ! (of_opd ! (get ! refl)) refl fits $
    -- [what lies there; the handle; true; the tokens; the bounds]
    let z : G.Ghost = ((κs, qs, tt, (parts.alloc, (block_ptr b o, tt)), (hv ∷ [], (vptr b o ∷ [], tt))), parts.value) in
    move ! (2 ∷ []) $ feq_i ! (List Val) (vptr b o ∷ []) (vptr b o ∷ []) refl $ fjoin ! $ move ! (2 ∷ 0 ∷ []) $ fjoin ! $
    move ! (2 ∷ 0 ∷ []) $ join ! $
    -- [the tokens and the arguments; what lies there; the bounds]
    move ! (2 ∷ []) $ split3 ! $ move ! (2 ∷ []) $ drop ! $ move ! (1 ∷ 3 ∷ []) $ join ! $ move ! (1 ∷ 0 ∷ []) $ join ! $
    move ! (1 ∷ 0 ∷ []) $ join ! $ use1 𝓛 (raw (G.pre z)) (id⊢ 𝓤 _) $
    calls_at_last ! (framed 𝓤 𝓛.H 𝓜 𝓣) G (g_met.met 𝓤 𝓛 𝓜 𝓡 (code.calls-std_alloc::boxed::Box::from_raw 𝓡.env wired) X Z LX LZ gh d dd allocator md) z
    (and_then ! (get ! refl) (and_then ! (get ! refl) (no_more !))) (λ v.
    use1 𝓛 (later (some (λ (r : D E). (alive ⊛ ‵ ((B E).own_val r (v ∷ []))) ⊛ some (λ (_ : Unit {0} × (Unit {0} × Unit {0})).
    ‵ (fsep ftrue (fsep ftrue ftrue)) ⊛ (raw (fact 𝓤 (r.value ≡ parts.value)) ⊛ raw (fact 𝓤 (r.alloc ≡ parts.alloc))))))) (id⊢ 𝓤 _) $
    await ! tt $ pick ! (λ r. split ! $ split ! $ move ! (2 ∷ []) $ pick ! (λ _. split ! $ drop ! $ split ! $ heard ! (r.value ≡ parts.value) (λ same. drop ! $
    -- [the tokens; the box]
    move ! (1 ∷ []) $ sees_typed E ! r v (λ typed.
    lands_last ! refl typed $ exec ! 𝓣.C 𝓣.Λ (env here.locals l) (after 3 here.body) (at_ret _ (W.post y)) $
    sets ! (of_opd ! (get ! refl)) refl typed $ returns ! (look_at ! 0 refl) $ free_all ! refl $
    suffices ! _ (ends_at 𝓛 (taken E) (stayed E) c y v r ((tt, (tt, tt)), tt) (tt, tt)) $ says ! same $
    nothing ! $ nothing ! $ fjoin ! $ join ! $ move ! (1 ∷ 0 ∷ []) $ join ! $ done !))))))))
