-- A box as one machine value, while what it owns stays whole.
use mathlib.Core.Path.{◌≡◌, refl, sym, subst, ap}
use mathlib.Core.List.{List, [], ◌∷◌}
use Prim.Native.Nat.{ℕ}
use lib.Dec.{T}
use seplogic.Ra.Ura.{Ura}
use mir.Val.{Val, has_ty, WT}
use types.Logic.{Logic}
use types.Kit.{Goal, Seq, Item, ‵, ◌$◌, rewrite}
use denote.Steps.{only}
use Rattle.std.proofs.alloc.Calls.{Fits}
use Rattle.std_alloc.proofs.BoxSteps.Form.{Bx, D, B, box_ty, word, box_typed}
use Rattle.std_alloc.proofs.BoxSteps.Steps.{box_out, box_in}

module _ (E : Bx) {M : Type 1} {𝓤 : Ura M} {𝓛 : Logic 𝓤} {K : Type 0} {Γ : List (Item 𝓤)} {G : Goal 𝓤 𝓛.H} where
  -- the values of a box are one word: a pointer into a block, and the handle
  pub sees_word : K → (whole : D E) (vs : List Val)
      → ((b o : ℕ) (hv : Val) → vs ≡ word E hv b o ∷ [] → Fits E.al hv → Seq K 𝓛 (‵ ((B E).own_val whole (word E hv b o ∷ [])) ∷ Γ) G)
      → Seq K 𝓛 (‵ ((B E).own_val whole vs) ∷ Γ) G
  sees_word t whole vs rest = box_out E t whole vs (λ b o hv at is fits. box_in E t whole b o whole.value at refl $ rest b o hv is fits)

  -- the one value that a box is has the box's type
  pub sees_typed : K → (whole : D E) (v : Val)
      → (T (has_ty (box_ty E) v) × WT v → Seq K 𝓛 (‵ ((B E).own_val whole (v ∷ [])) ∷ Γ) G)
      → Seq K 𝓛 (‵ ((B E).own_val whole (v ∷ [])) ∷ Γ) G
  sees_typed t whole v rest = sees_word t whole (v ∷ []) (λ b o hv is fits.
      rewrite t 0 (λ (vs : List Val). ‵ ((B E).own_val whole vs)) (sym is) refl $
      rest (subst (λ (u : Val). T (has_ty (box_ty E) u) × WT u) (sym (ap only is)) (box_typed E hv b o fits)))
