-- The parity of the edges above a point, edge by edge and ring by ring.
use Rattle.std.proofs.Common.{◌≡◌, sym, ap, ◌∙◌, ℕ, zero, suc, ◌+◌, Bool, List, [], ◌∷◌, take, Some, slice_get, append-nil, add-one}
use Rattle.geometry_model.specs.Points.{Position, Point}
use Rattle.geometry_model.specs.Geometries.{Edge, edges_of_line, edges_of_lines}
use Rattle.geometry_model.specs.Crossings.{exactly_one, strictly_above, odd_above}
use Rattle.geometry_laws.proofs.Each.{parity, odd_count, parity_append}
use Rattle.geometry_laws.proofs.Xor.{xor_false, xor_assoc}

-- whether an odd number of these edges lie above the point
abbrev pub odd_edges : Point → List Edge → Bool
odd_edges p edges = parity (λ e. strictly_above e p) edges

-- and of these rings' edges
abbrev pub odd_rings : Point → List (List Position) → Bool
odd_rings p rings = odd_edges p (edges_of_lines rings)

next_passes : {A : Type 0} (f : A → Bool) (xs : List A) (k : ℕ) (x : A) → slice_get xs k ≡ Some x → exactly_one (parity f (take k xs)) (f x) ≡ parity f (take (suc k) xs)
next_passes f [] k x e = absurd cc
next_passes f (y ∷ ys) zero x e = let same : y ≡ x = cc in ap f (sym same) ∙ sym (xor_false (f y))
next_passes f (y ∷ ys) (suc k) x e = xor_assoc (f y) (parity f (take k ys)) (f x) ∙ ap (exactly_one (f y)) (next_passes f ys k x e)

pub next_edge : (p : Point) (edges : List Edge) (k : ℕ) (e : Edge) → slice_get edges k ≡ Some e → exactly_one (odd_edges p (take k edges)) (strictly_above e p) ≡ odd_edges p (take (k + 1) edges)
next_edge p edges k e at = next_passes (λ g. strictly_above g p) edges k e at ∙ ap (λ (n : ℕ). odd_edges p (take n edges)) (sym (add-one k))

after_rings : (p : Point) (rings : List (List Position)) (k : ℕ) (r : List Position) → slice_get rings k ≡ Some r → exactly_one (odd_rings p (take k rings)) (odd_edges p (edges_of_line r)) ≡ odd_rings p (take (suc k) rings)
after_rings p [] k r e = absurd cc
after_rings p (s ∷ ss) zero r e = let same : s ≡ r = cc in ap (λ (l : List Position). odd_edges p (edges_of_line l)) (sym same) ∙ ap (odd_edges p) (sym (append-nil (edges_of_line s)))
after_rings p (s ∷ ss) (suc k) r e = ap (λ (b : Bool). exactly_one b (odd_edges p (edges_of_line r))) (parity_append (λ g. strictly_above g p) (edges_of_line s) (edges_of_lines (take k ss)))
    ∙ (xor_assoc (odd_edges p (edges_of_line s)) (odd_rings p (take k ss)) (odd_edges p (edges_of_line r)) ∙ (ap (exactly_one (odd_edges p (edges_of_line s))) (after_rings p ss k r e)
    ∙ sym (parity_append (λ g. strictly_above g p) (edges_of_line s) (edges_of_lines (take (suc k) ss)))))

-- the parity is that of the number of edges above
pub odd_is : (p : Point) (rings : List (List Position)) → odd_rings p rings ≡ odd_above rings p
odd_is p rings = sym (odd_count (λ e. strictly_above e p) (edges_of_lines rings))

pub odd_of_one : (p : Point) (ring : List Position) → odd_edges p (edges_of_line ring) ≡ odd_above (ring ∷ []) p
odd_of_one p ring = ap (odd_edges p) (sym (append-nil (edges_of_line ring))) ∙ odd_is p (ring ∷ [])

pub next_ring : (p : Point) (rings : List (List Position)) (k : ℕ) (r : List Position) → slice_get rings k ≡ Some r → exactly_one (odd_rings p (take k rings)) (odd_above (r ∷ []) p) ≡ odd_rings p (take (k + 1) rings)
next_ring p rings k r at = ap (exactly_one (odd_rings p (take k rings))) (sym (odd_of_one p r)) ∙ (after_rings p rings k r at ∙ ap (λ (n : ℕ). odd_rings p (take n rings)) (sym (add-one k)))
