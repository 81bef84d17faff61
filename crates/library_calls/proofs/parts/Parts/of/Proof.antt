-- The box is taken apart by `into_raw_with_allocator`. What that hands back is a box's word again, and the parts are stored as it is.
use mathlib.Core.Path.{◌≡◌, refl, sym, ap}
use mathlib.Core.List.{List, [], ◌∷◌, ◌++◌}
use mir.Syntax.{Args, Dict, a_type, dcons, dnil}
use mir.MapTy.{inst_fn}
use mir.Val.{Val}
use base.Logic.{id⊢}
use base.Fml.{ftrue, fsep, flft}
use contract.BorrowLft.{◌⊑◌}
use contract.Monad.{fact}
use contract.Running.{tables}
use prog.Wp.{WpFn}
use types.Kit.{Item, ‵, raw, ◌⊛◌, some, later, ◌$◌, ◌∵◌, !, qed, move, drop, use1, join, split, pick, rewrite, fsplit, fjoin, prop, regoal, suffices, await, done}
use types.Part.{whole, sub, agg}
use types.Run.{stop, fld, no_more, and_then, of_opd, returns, enter}
use types.ByLocal.{alloc_all, pass_all, free_all, look_at, get, get_in, sets, lands_as}
use denote.RattleType.{RattleType}
use denote.Exit.{no}
use denote.Param.{bounded}
use denote.RawPtr.{Ptr, RawPtr}
use denote.Signature.{plain}
use denote.Steps.{heard, nothing, only}
use denote.Struct.Tuple.{Tuple}
use denote.Triple.Call.{calls_at}
use denote.Triple.Clauses.{Ended}
use denote.Triple.Spec.{triple_of}
use denote.Triple.Table.{framed}
use denote.Triple.Walked.{says, Stays, stay_dropped, walk_of, ends_at}
use Rattle.std.proofs.raw_atomic.Walks.{proved_at}
use Rattle.std.proofs.alloc.Calls.{token, Goes-blank}
use Rattle.std_alloc.specs.Box.Ownership.{box_owns}
use Rattle.std_alloc.proofs.BoxSteps.Form.{Bx, D, R, P, B, word, box_typed}
use Rattle.std_alloc.specs.contracts.boxed.Box.into_raw_with_allocator as g
use Rattle.std_alloc.proofs.boxed.Box.into_raw_with_allocator.Met as g_met
use Rattle.library_calls.proofs.BoxWords.{sees_word}
use Rattle.library_calls.specs.contracts.parts.Parts as Parts
use Rattle.library_calls.specs.contracts.parts.Parts.of as f
use Rattle.library_calls.proofs.parts.Parts.of.Statement.{statement}
use Rattle.library_calls.proofs.parts.Parts.of.Code as code

module _ (E : Bx) (dx : Dict) where
  abbrev passed : Args
  passed = bounded (a_type ∷ a_type ∷ []) (E.row, (E.al.row, tt)) (dcons E.al.d (dcons E.al.drops (dcons dx dnil)))

  abbrev taken : Ended
  taken = f.ended E.row E.al.row E.al.g E.al.d E.al.drops dx

  abbrev stayed : Stays taken.signature.params taken.kept
  stayed = (stay_dropped (plain (λ _. B E)) no, tt)

  abbrev Made : RattleType
  Made = Parts.the_row (R E) (P E) E.al.g

pub of_spec : {M : Type 1} → statement M
of_spec 𝓤 𝓛 𝓜 𝓡 wired X Z LX LZ gh d dd dx allocator md glue =
    let E : Bx = record { row = X; laws = LX; al = record { row = Z; laws = LZ; g = gh; d = d; drops = dd } } in
    let c = f.clauses X Z gh d dd dx 𝓛 𝓜.mem 𝓡.returns in let W = walk_of 𝓛 (taken E dx) (stayed E dx) c in
    let here = inst_fn (passed E dx) code.function in let 𝓣 = tables 𝓤 𝓛.H 𝓜 𝓡 𝓡.env in
    let G = triple_of 𝓛 (g.signature X Z gh d dd dx) (g.spec X Z gh d dd dx 𝓛 𝓜.mem 𝓡.returns) in
    proved_at 𝓛 (taken E dx) (stayed E dx) c 𝓜 𝓡 (Goes-blank 𝓛 2 (plain (λ _. B E)) no (λ κs x s. tt), tt)
    (f.Key.name (passed E dx)) here (code.unfolded 𝓤 𝓛.H 𝓜 𝓡 wired (X, (Z, tt)) d dd dx) (λ y _.
    let κs = y.0.0 in let qs = y.0.1 in let box = y.0.3.0 in
    let alive : Item 𝓤 = ‵ (flft κs.0 qs.0) ⊛ ‵ (flft κs.1.0 qs.1.0) ⊛ ‵ ftrue in
    let within : Item 𝓤 = raw (fact 𝓤 (κs.0 ⊑ X.lives)) ⊛ raw (fact 𝓤 (κs.1.0 ⊑ Z.lives)) ⊛ ‵ ftrue in
    qed 𝓛 ((alive ⊛ ‵ (fsep ((B E).own_val box y.0.4.0) ftrue)) ∷ within ∷ []) ∵
    split ! $ move ! (1 ∷ []) $ fsplit ! $ sees_word E ! box y.0.4.0 (λ b o hv is fits.
    regoal ! (λ (vs : List Val). prop (WpFn 𝓤 𝓛.H 𝓣.C 𝓣.Λ here (vs ++ []) (W.post y))) is refl $
    enter ! _ _ _ _ _ $ alloc_all ! (λ l. pass_all ! refl (box_typed E hv b o fits, tt) $
    sets ! (of_opd ! (get ! refl)) refl (box_typed E hv b o fits) $
    -- [the box; true; the tokens; the bounds]
    let z : G.Ghost = ((κs, qs, tt, (box, tt), (word E hv b o ∷ [], tt)), tt) in
    fjoin ! $ move ! (1 ∷ 0 ∷ []) $ join ! $ join ! $ use1 𝓛 (raw (G.pre z)) (id⊢ 𝓤 _) $
    calls_at ! (framed 𝓤 𝓛.H 𝓜 𝓣) G (g_met.met 𝓤 𝓛 𝓜 𝓡 (code.calls-std_alloc::boxed::Box::into_raw_with_allocator 𝓡.env wired) X Z LX LZ gh d dd dx allocator md glue) z
    (and_then ! (get ! refl) (no_more !)) (λ v.
    use1 𝓛 (later (some (λ (r : Ptr × Z.Denot). (alive ⊛ ‵ ((Tuple (RawPtr ∷ P E ∷ [])).own_val r (v ∷ []))) ⊛
    some (λ (_ : (Unit {0} × (Unit {0} × Unit {0})) × Unit {0}). ‵ (fsep (fsep ftrue (fsep ftrue ftrue)) ftrue) ⊛
    (raw (fact 𝓤 (r.1 ≡ box.alloc)) ⊛ ‵ (box_owns (token E.al box.alloc) (R E) r.0 box.value)))))) (id⊢ 𝓤 _) $
    await ! tt $ pick ! (λ r. split ! $ split ! $ move ! (2 ∷ []) $ pick ! (λ _. split ! $ drop ! $ split ! $ heard ! (r.1 ≡ box.alloc) (λ same.
    -- [what lies there; the tokens; the pair]
    let again : D E = record { ptr = r.0; alloc = r.1; value = box.value } in
    let parts : (Made E dx).Denot = record { at = r.0; alloc = r.1; value = box.value } in
    rewrite ! 0 (λ (s : Z.Denot). ‵ (box_owns (token E.al s) (R E) r.0 box.value)) (sym same) refl $
    move ! (2 ∷ 0 ∷ []) $ fjoin ! $ use1 𝓛 (‵ ((B E).own_val again (v ∷ []))) (id⊢ 𝓤 _) $
    sees_word E ! again (v ∷ []) (λ b' o' hv' is' fits'.
    let w = word E hv' b' o' in
    use1 𝓛 (‵ ((Made E dx).own_val parts (w ∷ []))) (id⊢ 𝓤 _) $ lands_as ! (ap only is') refl (box_typed E hv' b' o' fits') $
    sets ! (of_opd ! (get_in ! (fld ! refl (stop !)) (sub ! 0 refl (whole !)))) refl (tt, tt) $
    sets ! (of_opd ! (get_in ! (fld ! refl (stop !)) (sub ! 1 refl (whole !)))) refl fits' $
    sets ! (of_opd ! (get ! refl)) refl fits' $
    sets ! (agg ! (and_then ! (get ! refl) (and_then ! (get ! refl) (no_more !)))) refl (box_typed E hv' b' o' fits') $
    returns ! (look_at ! 0 refl) $ free_all ! refl $
    suffices ! _ (ends_at 𝓛 (taken E dx) (stayed E dx) c y w parts ((tt, (tt, tt)), tt) (tt, tt)) $ says ! refl $
    nothing ! $ nothing ! $ fjoin ! $ join ! $ move ! (1 ∷ 0 ∷ []) $ join ! $ done !))))))))
