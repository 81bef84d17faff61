-- How texts grow, one step after another.
use Rattle.std.proofs.Common.{◌≡◌, ◌==◌, ◌+◌, ◌++◌, ◌<◌, ℕ, Bool, true, false, cond, if◌then◌else◌, List, [], ◌∷◌, filter, length, take, get_or, append-nil, refl, ap, sym, subst, ◌∙◌}
use Rattle.std.specs.List.{flat_map}
use Rattle.std.proofs.KnownBytes.{Appends-nil, Appends-trans}
use Rattle.std.proofs.lemmas.Grind.{flat_map-append}
use Rattle.std.proofs.lemmas.List.Elements.{filter_more}
use Rattle.std.specs.Io.KnownBytes.{Appends}
use Rattle.tiles.specs.Texts.{Texts, Grow, gets_of, in_cell}

-- texts that stay as they are
pub grow_none : (t : Texts) → Grow t t (λ _. [])
grow_none t k = Appends-nil (t k)

-- one growth after another
pub grow_trans : (a b c : Texts) (f g : ℕ → List ℕ) → Grow a b f → Grow b c g → Grow a c (λ k. f k ++ g k)
grow_trans a b c f g p q k = Appends-trans (a k) (b k) (c k) (f k) (g k) (p k) (q k)

-- the same growth, said otherwise
pub grow_same : (a b : Texts) (f g : ℕ → List ℕ) → ((k : ℕ) → f k ≡ g k) → Grow a b f → Grow a b g
grow_same a b f g same p k = subst (Appends (a k) (b k)) (same k) (p k)

-- the line of one number more
gets_more : (line : ℕ → List ℕ) (numbers : List ℕ) (i m k d : ℕ) → i < length numbers → m ≡ get_or numbers i d
    → gets_of line (take i numbers) k ++ in_cell m (line m) k ≡ gets_of line (take (i + 1) numbers) k
gets_more line numbers i m k d h is =
    sym (ap (flat_map line) (filter_more (λ n. n == k) numbers i d h ∙ ap (λ n. filter (λ o. o == k) (take i numbers) ++ cond (n == k) (n ∷ []) []) (sym is))
    ∙ flat_map-append line (filter (λ n. n == k) (take i numbers)) (cond (m == k) (m ∷ []) [])
    ∙ ap (λ l. gets_of line (take i numbers) k ++ l) (last (m == k)))
  where
    last : (b : Bool) → flat_map line (cond b (m ∷ []) []) ≡ (if b then line m else [])
    last true = append-nil (line m)
    last false = refl

-- the texts after one number more
pub grow_more : (a b c : Texts) (line : ℕ → List ℕ) (numbers : List ℕ) (i m d : ℕ) → i < length numbers → m ≡ get_or numbers i d
    → Grow a b (gets_of line (take i numbers)) → Grow b c (in_cell m (line m)) → Grow a c (gets_of line (take (i + 1) numbers))
grow_more a b c line numbers i m d h is p q =
    grow_same a c (λ k. gets_of line (take i numbers) k ++ in_cell m (line m) k) (gets_of line (take (i + 1) numbers)) (λ k. gets_more line numbers i m k d h is)
    (grow_trans a b c (gets_of line (take i numbers)) (in_cell m (line m)) p q)
