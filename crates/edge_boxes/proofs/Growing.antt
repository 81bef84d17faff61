-- Lists of boxes as they grow.
use Rattle.std.proofs.Common.{ℕ, zero, suc, ◌+◌, ◌-◌, ◌<◌, ◌≤◌, ◌≡◌, ◌⊎◌, inl, inr, List, [], ◌∷◌, ◌++◌, length, drop, get_or, drop-cons, append_assoc, Some, None, refl, sym, ap, ◌∙◌, subst, arith}
use Rattle.std.specs.Prelude.{slice_get}
use Rattle.std.proofs.Math.Nat.{sub-zero}
use Rattle.geometry_model.specs.Geometries.{Edge}
use Rattle.edge_boxes.specs.EdgeRuns.{SumsUp}
use Rattle.edge_boxes.specs.BoxLists.{end_of, covered, IsRun, IsBoxAt, AreBoxes}
use Rattle.edge_boxes.specs.Builds.{covered_by_all, KeepsBoxes, IsNextBox, IsRunFrom}
use Rattle.edge_boxes.specs.declared.boxes.EdgeBox.{EdgeBox}
use Rattle.edge_boxes.specs.declared.kept_runs.Run.{Run}
use Rattle.edge_boxes.proofs.BoxFacts.{found_before, covered_before}

-- ---- one box more
-- the boxes before the one that is appended stay at their places
get_before : (boxes : List EdgeBox) (b : EdgeBox) (i : ℕ) → i < length boxes → slice_get (boxes ++ b ∷ []) i ≡ slice_get boxes i
get_before [] b i h = absurd (omega (arith, h))
get_before (x ∷ boxes) b zero h = refl
get_before (x ∷ boxes) b (suc i) h = get_before boxes b i (omega (arith, h))

-- a box of the longer list is one of the old ones, or the one that was appended
last_or_before : (boxes : List EdgeBox) (b c : EdgeBox) (i : ℕ) → slice_get (boxes ++ b ∷ []) i ≡ Some c → (slice_get boxes i ≡ Some c) ⊎ ((i ≡ length boxes) × (b ≡ c))
last_or_before [] b c zero e = let s : b ≡ c = cc in inr (refl, s)
last_or_before [] b c (suc i) e = absurd (let n : None ≡ Some c = e in cc)
last_or_before (x ∷ boxes) b c zero e = inl e
last_or_before (x ∷ boxes) b c (suc i) e = go (last_or_before boxes b c i e)
  where
    go : (slice_get boxes i ≡ Some c) ⊎ ((i ≡ length boxes) × (b ≡ c)) → (slice_get boxes i ≡ Some c) ⊎ ((suc i ≡ suc (length boxes)) × (b ≡ c))
    go (inl f) = inl f
    go (inr f) = inr (ap suc f.0, f.1)

-- all boxes together go as far as the one that was appended
last_end : (boxes : List EdgeBox) (b : EdgeBox) → covered_by_all (boxes ++ b ∷ []) ≡ b.end
last_end boxes b = ap (covered (boxes ++ b ∷ [])) (longer boxes) ∙ ends boxes
  where
    longer : (xs : List EdgeBox) → length (xs ++ b ∷ []) ≡ suc (length xs)
    longer [] = refl
    longer (x ∷ xs) = ap suc (longer xs)

    ends : (xs : List EdgeBox) → end_of (slice_get (xs ++ b ∷ []) (length xs)) ≡ b.end
    ends [] = refl
    ends (x ∷ xs) = ends xs

-- up to each place of the old list the boxes go as far as they did
covered_still : (boxes : List EdgeBox) (b : EdgeBox) (place : ℕ) → place ≤ length boxes → covered (boxes ++ b ∷ []) place ≡ covered boxes place
covered_still boxes b zero h = refl
covered_still boxes b (suc i) h = ap end_of (get_before boxes b i (omega (arith, h)))

-- a box stays one of the edges' boxes at its place, since nothing before it has changed
box_still : (boxes : List EdgeBox) (edges : List Edge) (b c : EdgeBox) (place : ℕ) → place ≤ length boxes → IsBoxAt edges boxes place c → IsBoxAt edges (boxes ++ b ∷ []) place c
box_still boxes edges b c place h k = record {
  subtree = k.subtree;
  run = subst (λ n. IsRun edges c.run n c.end) (sym (covered_still boxes b (place - c.size) (omega (arith, h)))) k.run;
  last = go k.last;
}
  where
    go : (c.size ≡ 0) ⊎ (covered boxes place ≡ c.end) → (c.size ≡ 0) ⊎ (covered (boxes ++ b ∷ []) place ≡ c.end)
    go (inl e) = inl e
    go (inr e) = inr (covered_still boxes b place h ∙ e)

-- a box that is found is within the list
within_boxes : (boxes : List EdgeBox) (c : EdgeBox) (i : ℕ) → slice_get boxes i ≡ Some c → i ≤ length boxes
within_boxes [] c i e = absurd (let n : None ≡ Some c = e in cc)
within_boxes (x ∷ boxes) c zero e = omega arith
within_boxes (x ∷ boxes) c (suc i) e = let h : i ≤ length boxes = within_boxes boxes c i e in omega (arith, h)

-- with one box more that belongs at the end of the list, all are boxes of the edges
pub one_more_box : (boxes : List EdgeBox) (edges : List Edge) (b : EdgeBox) → AreBoxes boxes edges → IsBoxAt edges boxes (length boxes) b → AreBoxes (boxes ++ b ∷ []) edges
one_more_box boxes edges b are new place c e = go (last_or_before boxes b c place e)
  where
    go : (slice_get boxes place ≡ Some c) ⊎ ((place ≡ length boxes) × (b ≡ c)) → IsBoxAt edges (boxes ++ b ∷ []) place c
    go (inl f) = box_still boxes edges b c place (within_boxes boxes c place f) (are place c f)
    go (inr f) = box_still boxes edges b c place (omega (arith, f.0)) (rw (f.0, ← f.1) new)

-- ---- boxes that go as far

-- what keeps the boxes in two steps keeps them
pub keeps_on : (old middle new : List EdgeBox) → KeepsBoxes old middle → KeepsBoxes middle new → KeepsBoxes old new
keeps_on old middle new h k edges are = let m = h edges are in let n = k edges m.0 in (n.0, n.1 ∙ m.1)

-- one box more that may follow keeps the boxes: it ends where they do, so all go as far
pub keeps_joined : (old new : List EdgeBox) (b : EdgeBox) → IsNextBox old b → new ≡ old ++ b ∷ [] → KeepsBoxes old new
keeps_joined old new b next e edges are = let n = next edges are in rw e (one_more_box old edges b are n.0, last_end old b ∙ n.1)

-- ---- runs of the last subtrees

-- the run of the box before a place, joined with a run from that place on, is one from where that box's subtree begins
pub run_more : (boxes : List EdgeBox) (later run : Run) (b : EdgeBox) (place : ℕ) → 0 < place → place ≤ length boxes → b ≡ get_or boxes (place - 1) b
    → ((xs ys : List Edge) → SumsUp b.run xs → SumsUp later ys → SumsUp run (xs ++ ys)) → IsRunFrom boxes later place → IsRunFrom boxes run (place - 1 - b.size)
run_more boxes later run b place h k is join from edges are =
    let found = found_before boxes place b h k is in
    let r = from edges are in
    let s = (are (place - 1) b found).run in
    let e : covered boxes place ≡ b.end = covered_before boxes place b h found in
    record {
      own = s.own ++ r.own;
      split = s.split ∙ ap (λ n. s.own ++ drop n edges) (sym e) ∙ ap (λ l. s.own ++ l) r.split ∙ sym (append_assoc s.own r.own (drop (covered_by_all boxes) edges));
      sums = join s.own r.own s.sums r.sums;
      ordered = let f = s.ordered in let g = r.ordered in omega (arith, e, f, g);
      within = r.within;
    }

-- a box over the run from a place on, which counts the boxes from there as its subtree, may follow them
pub next_box : (boxes : List EdgeBox) (run : Run) (last : EdgeBox) (place size end : ℕ) → slice_get boxes (length boxes - 1) ≡ Some last → place ≤ length boxes → size ≡ length boxes - place → end ≡ last.end
    → IsRunFrom boxes run place → IsNextBox boxes (record { run = run; size = size; end = end })
next_box boxes run last place size end found within size_is end_is from edges are =
    let e : covered_by_all boxes ≡ end = covered_before boxes (length boxes) last (some boxes found) found ∙ sym end_is in
    let start : place ≡ length boxes - size = omega (arith, within, size_is) in (
      record {
        subtree = omega (arith, size_is);
        run = subst (λ n. IsRun edges run (covered boxes n) end) start (subst (λ n. IsRun edges run (covered boxes place) n) e (from edges are));
        last = inr e;
      },
      sym e,
    )
  where
    some : (xs : List EdgeBox) → slice_get xs (length xs - 1) ≡ Some last → 0 < length xs
    some [] f = absurd (let n : None ≡ Some last = f in cc)
    some (x ∷ xs) f = omega arith

-- ---- leaves
-- the edges from a place on are the edge there and those after it
edge_then_rest : (edges : List Edge) (first : ℕ) (e : Edge) → first < length edges → e ≡ get_or edges first e → drop first edges ≡ e ∷ drop (first + 1) edges
edge_then_rest edges first e h is = let next : suc first ≡ first + 1 = omega arith in drop-cons edges first e h ∙ ap (λ x. x ∷ drop (suc first) edges) (sym is) ∙ ap (λ n. e ∷ drop n edges) next

-- a run joined with the edge after it is a run that is one edge longer
pub run_and_one : (edges : List Edge) (first end : ℕ) (e : Edge) (old one run : Run) → end < length edges → e ≡ get_or edges end e → SumsUp one (e ∷ [])
    → ((xs ys : List Edge) → SumsUp old xs → SumsUp one ys → SumsUp run (xs ++ ys)) → IsRun edges old first end → IsRun edges run first (end + 1)
run_and_one edges first end e old one run h is sums join r =
    record {
      own = r.own ++ e ∷ [];
      split = r.split ∙ ap (λ l. r.own ++ l) (edge_then_rest edges end e h is) ∙ sym (append_assoc r.own (e ∷ []) (drop (end + 1) edges));
      sums = join r.own (e ∷ []) r.sums sums;
      ordered = let f = r.ordered in omega (arith, f);
      within = omega (arith, h);
    }

-- a leaf whose run begins where the boxes end belongs behind them, since it has no subtree
pub next_leaf : (old new : List EdgeBox) (edges : List Edge) (run : Run) (first end : ℕ) (b : EdgeBox) → AreBoxes old edges → covered_by_all old ≡ first → IsRun edges run first end → b ≡ record { run = run; size = 0; end = end }
    → new ≡ old ++ b ∷ [] → AreBoxes new edges × (covered_by_all new ≡ end)
next_leaf old new edges run first end b are from r b_is e =
    let box : IsBoxAt edges old (length old) (record { run = run; size = 0; end = end }) = record { subtree = omega arith; run = subst (λ n. IsRun edges run n end) (sym (ap (covered old) (sub-zero (length old)) ∙ from)) r; last = inl refl } in
    rw (e, b_is) (one_more_box old edges (record { run = run; size = 0; end = end }) are box, last_end old (record { run = run; size = 0; end = end }))

-- as long as the boxes are kept, the next leaf still begins where they end, unless no edges are left
pub kept_first : (old new : List EdgeBox) (edges : List Edge) (next : ℕ) → KeepsBoxes old new → AreBoxes old edges → (covered_by_all old ≡ next) ⊎ (length edges ≡ next)
    → AreBoxes new edges × ((covered_by_all new ≡ next) ⊎ (length edges ≡ next))
kept_first old new edges next k are from = let m = k edges are in (m.0, go m.1 from)
  where
    go : covered_by_all new ≡ covered_by_all old → (covered_by_all old ≡ next) ⊎ (length edges ≡ next) → (covered_by_all new ≡ next) ⊎ (length edges ≡ next)
    go e (inl f) = inl (e ∙ f)
    go e (inr f) = inr f
