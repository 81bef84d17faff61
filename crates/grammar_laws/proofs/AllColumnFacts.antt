-- The columns that the asterisk lists are those of the rules, and no other list is.
use Rattle.std.proofs.Common.{◌≡◌, ◌⊎◌, ◌<◌, inl, inr, ◌+◌, ℕ, zero, suc, List, [], ◌∷◌, ◌++◌, map, slice_get, Option, Some, None, Ok, refl, sym, ap, ap₂, subst, ◌∙◌, arith}
use Rattle.std.specs.List.{enumerate_from, flat_map}
use Rattle.std.proofs.lemmas.List.{map-append}
use Rattle.std.proofs.lemmas.Option.{none-some}
use Rattle.basics.proofs.Numbers.{one_on, from_zero, to_end}
use Rattle.table_model.specs.Binding.{all_items, columns_of, items_of}
use Rattle.table_model.specs.BindingRules.{Then}
use Rattle.table_model.specs.QueryRules.{AreAllColumns, AreInOrder, IsListed, AppliesBefore}
use Rattle.table_model.specs.declared.conditions.ColumnPlace.{ColumnPlace}
use Rattle.table_model.specs.declared.conditions.Item.{Item}
use Rattle.table_model.specs.declared.conditions.Item.TheVariants as items
use Rattle.table_model.specs.declared.conditions.Reference.{Reference}
use Rattle.table_model.specs.declared.definitions.ColumnDef.{ColumnDef}
use Rattle.table_model.specs.declared.definitions.TableDef.{TableDef}
use Rattle.grammar_laws.specs.RuleLaws.{Agrees}

at : ℕ → ℕ → ColumnPlace
at r c = record { reference = r; column = c }

abbrev IsNone : {X : Type 0} → Option X → Type 0
IsNone None = Unit {0}
IsNone (Some x) = ⊥

or_else : {X : Type 0} → X → Option X → X
or_else x None = x
or_else x (Some y) = y

-- ---- what lists of places have

-- joined lists list what either lists, and nothing else
listed_left : (xs ys : List ColumnPlace) (v : ColumnPlace) → IsListed xs v → IsListed (xs ++ ys) v
listed_left [] ys v is = absurd is
listed_left (x ∷ xs) ys v (inl is) = inl is
listed_left (x ∷ xs) ys v (inr is) = inr (listed_left xs ys v is)

listed_right : (xs ys : List ColumnPlace) (v : ColumnPlace) → IsListed ys v → IsListed (xs ++ ys) v
listed_right [] ys v is = is
listed_right (x ∷ xs) ys v is = inr (listed_right xs ys v is)

listed_joined : (xs ys : List ColumnPlace) (v : ColumnPlace) → IsListed (xs ++ ys) v → IsListed xs v ⊎ IsListed ys v
listed_joined [] ys v is = inr is
listed_joined (x ∷ xs) ys v (inl is) = inl (inl is)
listed_joined (x ∷ xs) ys v (inr is) = elim (listed_joined xs ys v is) [
  | inl left ↦ inl (inr left)
  | inr right ↦ inr right
]

-- lists in order, of which each place of the first comes before each of the second, are in order when joined
in_order_joined : (xs ys : List ColumnPlace) → AreInOrder xs → AreInOrder ys → ((a b : ColumnPlace) → IsListed xs a → IsListed ys b → AppliesBefore a b) → AreInOrder (xs ++ ys)
in_order_joined [] ys are too apart = too
in_order_joined (x ∷ xs) ys are too apart = (
  λ later is. elim (listed_joined xs ys later is) [
    | inl left ↦ are.0 later left
    | inr right ↦ apart x later (inl refl) right
  ],
  in_order_joined xs ys are.1 too (λ a b left right. apart a b (inr left) right),
)

-- ---- the columns of one reference

places_in : {T : Type 0} → ℕ → ℕ → List (ColumnDef T) → List ColumnPlace
places_in r k columns = map (λ c. at r c.0) (enumerate_from k columns)

-- each place that is listed for a reference is that of a column of its table
there_in : {T : Type 0} (r k : ℕ) (columns : List (ColumnDef T)) (v : ColumnPlace) → IsListed (places_in r k columns) v
    → (v.reference ≡ r) × (i : ℕ) × (column : ColumnDef T) × (v.column ≡ i + k) × (slice_get columns i ≡ Some column)
unfolding places_in at
there_in r k [] v is = absurd is
there_in r k (c ∷ columns) v (inl is) = (ap (λ (p : ColumnPlace). p.reference) (sym is), zero, c, ap (λ (p : ColumnPlace). p.column) (sym is) ∙ from_zero k, refl)
there_in r k (c ∷ columns) v (inr is) =
    (let more = there_in r (k + 1) columns v is in (more.0, suc more.1, more.2, more.3 ∙ one_on more.1 k, more.4))

-- and each column of the table is listed
all_in : {T : Type 0} (r k i : ℕ) (columns : List (ColumnDef T)) (column : ColumnDef T) → slice_get columns i ≡ Some column → IsListed (places_in r k columns) (at r (i + k))
unfolding places_in at
all_in r k i [] column is = absurd (none-some column is)
all_in r k zero (c ∷ columns) column is = inl (ap (at r) (from_zero k))
all_in r k (suc i) (c ∷ columns) column is = inr (subst (λ n. IsListed (places_in r (k + 1) columns) (at r n)) (one_on i k) (all_in r (k + 1) i columns column is))

-- in the order of the table
order_in : {T : Type 0} (r k : ℕ) (columns : List (ColumnDef T)) → AreInOrder (places_in r k columns)
unfolding places_in at
order_in r k [] = tt
order_in r k (c ∷ columns) = (λ v is. let more = there_in r (k + 1) columns v is in inr (sym more.0, below more.1 v.column more.3), order_in r (k + 1) columns)
  where
    below : (i n : ℕ) → n ≡ i + (k + 1) → k < n
    below i n is = omega arith

-- ---- the columns of some references

places_of : {T : Type 0} → List (TableDef T) → ℕ → List Reference → List ColumnPlace
places_of schema k references = flat_map (λ r. places_in r.0 0 (columns_of schema r.1)) (enumerate_from k references)

-- each place that is listed for some references is that of a column of one of them
there_of : {T : Type 0} (schema : List (TableDef T)) (k : ℕ) (references : List Reference) (v : ColumnPlace) → IsListed (places_of schema k references) v
    → (i : ℕ) × (reference : Reference) × (column : ColumnDef T) × (v.reference ≡ i + k) × (slice_get references i ≡ Some reference) × (slice_get (columns_of schema reference) v.column ≡ Some column)
unfolding places_of
there_of schema k [] v is = absurd is
there_of {T} schema k (reference ∷ references) v is = elim (listed_joined (places_in k 0 (columns_of schema reference)) (places_of schema (k + 1) references) v is) [
  | inl own ↦ here (there_in k 0 (columns_of schema reference) v own)
  | inr other ↦ (let more = there_of schema (k + 1) references v other in (suc more.0, more.1, more.2, more.3 ∙ one_on more.0 k, more.4, more.5))
]
  where
    here : (v.reference ≡ k) × (i : ℕ) × (column : ColumnDef T) × (v.column ≡ i + 0) × (slice_get (columns_of schema reference) i ≡ Some column)
        → (i : ℕ) × (r : Reference) × (column : ColumnDef T) × (v.reference ≡ i + k) × (slice_get (reference ∷ references) i ≡ Some r) × (slice_get (columns_of schema r) v.column ≡ Some column)
    here own = (zero, reference, own.2, own.0 ∙ from_zero k, refl, subst (λ n. slice_get (columns_of schema reference) n ≡ Some own.2) (end own.1 ∙ sym own.3) own.4)
      where
        end : (n : ℕ) → n ≡ n + 0
        end n = omega arith

-- and each column of each is listed
all_of : {T : Type 0} (schema : List (TableDef T)) (k i c : ℕ) (references : List Reference) (reference : Reference) (column : ColumnDef T) → slice_get references i ≡ Some reference
    → slice_get (columns_of schema reference) c ≡ Some column → IsListed (places_of schema k references) (at (i + k) c)
unfolding places_of or_else
all_of schema k i c [] reference column is too = absurd (none-some reference is)
all_of {T} schema k zero c (first ∷ references) reference column is too =
    subst (λ n. IsListed (places_in k 0 (columns_of schema first) ++ places_of schema (k + 1) references) (at n c)) (from_zero k)
    (listed_left (places_in k 0 (columns_of schema first)) (places_of schema (k + 1) references) (at k c) (subst (λ n. IsListed (places_in k 0 (columns_of schema first)) (at k n)) (sym (to_end c))
    (all_in k 0 c (columns_of schema first) column (subst (λ (r : Reference). slice_get (columns_of schema r) c ≡ Some column) (sym (same is)) too))))
  where
    same : Some first ≡ Some reference → first ≡ reference
    same e = ap (or_else first) e
all_of schema k (suc i) c (first ∷ references) reference column is too =
    listed_right (places_in k 0 (columns_of schema first)) (places_of schema (k + 1) references) (at (suc i + k) c)
    (subst (λ n. IsListed (places_of schema (k + 1) references) (at n c)) (one_on i k) (all_of schema (k + 1) i c references reference column is too))

-- by references, then by columns
order_of : {T : Type 0} (schema : List (TableDef T)) (k : ℕ) (references : List Reference) → AreInOrder (places_of schema k references)
unfolding places_of
order_of schema k [] = tt
order_of schema k (reference ∷ references) =
    in_order_joined (places_in k 0 (columns_of schema reference)) (places_of schema (k + 1) references) (order_in k 0 (columns_of schema reference)) (order_of schema (k + 1) references)
    (λ a b left right. inl (below a.reference b.reference (there_of schema (k + 1) references b right).0 (there_in k 0 (columns_of schema reference) a left).0 (there_of schema (k + 1) references b right).3))
  where
    below : (m n i : ℕ) → m ≡ k → n ≡ i + (k + 1) → m < n
    below m n i is too = omega arith

-- so the list is what the rules ask of the asterisk: these places, all of them, in order
all_columns : {T : Type 0} (schema : List (TableDef T)) (references : List Reference) → AreAllColumns schema references (places_of schema 0 references)
unfolding at
all_columns {T} schema references = record {
  there = λ v is. let is_there = there_of schema 0 references v is in
      (is_there.1, is_there.2, subst (λ n. slice_get references n ≡ Some is_there.1) (to_end is_there.0 ∙ sym is_there.3) is_there.4, is_there.5);
  all = λ v is. subst (λ n. IsListed (places_of schema 0 references) (at n v.column)) (sym (to_end v.reference)) (all_of schema 0 v.reference v.column references is.0 is.1 is.2 is.3);
  in_order = order_of schema 0 references;
}

-- ---- no other list is

-- no two places come before one another
never_both : (a b : ColumnPlace) → AppliesBefore a b → AppliesBefore b a → ⊥
never_both a b (inl is) (inl too) = omega arith
never_both a b (inl is) (inr too) = less a.reference b.reference is too.0
  where
    less : (m n : ℕ) → m < n → n ≡ m → ⊥
    less m n is too = omega arith
never_both a b (inr is) (inl too) = less a.reference b.reference is.0 too
  where
    less : (m n : ℕ) → m ≡ n → n < m → ⊥
    less m n is too = omega arith
never_both a b (inr is) (inr too) = less a.column b.column is.1 too.1
  where
    less : (m n : ℕ) → m < n → n < m → ⊥
    less m n is too = omega arith

-- two lists in order with the same places are one: were their first places two, each would come before the other
one_order : (xs ys : List ColumnPlace) → AreInOrder xs → AreInOrder ys → ((v : ColumnPlace) → IsListed xs v → IsListed ys v) → ((v : ColumnPlace) → IsListed ys v → IsListed xs v) → xs ≡ ys
one_order [] [] are too to from = refl
one_order [] (y ∷ ys) are too to from = absurd (from y (inl refl))
one_order (x ∷ xs) [] are too to from = absurd (to x (inl refl))
one_order (x ∷ xs) (y ∷ ys) are too to from = ap₂ (λ v vs. v ∷ vs) first (one_order xs ys are.1 too.1 further back)
  where
    first : x ≡ y
    first = elim (to x (inl refl)) [
      | inl is ↦ sym is
      | inr behind ↦ elim (from y (inl refl)) [
        | inl is ↦ is
        | inr other ↦ absurd (never_both x y (are.0 y other) (too.0 x behind))
      ]
    ]

    further : (v : ColumnPlace) → IsListed xs v → IsListed ys v
    further v is = elim (to v (inr is)) [
      | inl same ↦ absurd (never_both x x (subst (λ p. AppliesBefore x p) (sym same ∙ sym first) (are.0 v is)) (subst (λ p. AppliesBefore x p) (sym same ∙ sym first) (are.0 v is)))
      | inr behind ↦ behind
    ]

    back : (v : ColumnPlace) → IsListed ys v → IsListed xs v
    back v is = elim (from v (inr is)) [
      | inl same ↦ absurd (never_both y y (subst (λ p. AppliesBefore y p) (sym same ∙ first) (too.0 v is)) (subst (λ p. AppliesBefore y p) (sym same ∙ first) (too.0 v is)))
      | inr behind ↦ behind
    ]

-- ---- agreement

items_in : {T D : Type 0} → ℕ → ℕ → List (ColumnDef T) → List (Item D)
items_in r k columns = map (λ c. items.Column (at r c.0)) (enumerate_from k columns)

-- the items of a reference's columns are those of the places listed for it
own_items : {T D : Type 0} (r k : ℕ) (columns : List (ColumnDef T)) → items_in {D = D} r k columns ≡ map items.Column (places_in r k columns)
unfolding places_in items_in
own_items r k [] = refl
own_items r k (c ∷ columns) = ap (λ is. items.Column (at r k) ∷ is) (own_items r (k + 1) columns)

-- and so are the items of all references
items_are : {T D : Type 0} (schema : List (TableDef T)) (k : ℕ) (references : List Reference)
    → flat_map (λ r. items_of {D = D} r.0 (columns_of schema r.1)) (enumerate_from k references) ≡ map items.Column (places_of schema k references)
unfolding places_of items_in at
items_are schema k [] = refl
items_are schema k (reference ∷ references) =
    ap₂ (λ is more. is ++ more) (own_items k 0 (columns_of schema reference)) (items_are schema (k + 1) references)
    ∙ sym (map-append items.Column (places_in k 0 (columns_of schema reference)) (places_of schema (k + 1) references))

-- the asterisk is bound to a list that the rules allow, and they allow just one
pub all_agree : {T D : Type 0} (schema : List (TableDef T)) (references : List Reference)
    → Agrees (Then (AreAllColumns schema references) (λ places listed. listed ≡ map items.Column places)) (λ fault. ⊥) (Ok (all_items {D = D} schema references))
all_agree schema references = record {
  applies = (places_of schema 0 references, all_columns schema references, items_are schema 0 references);
  refused = tt;
  answers = λ listed is. ap Ok (items_are schema 0 references
      ∙ ap (map items.Column) (one_order (places_of schema 0 references) is.0 (all_columns schema references).in_order is.1.in_order
      (λ v listed_there. is.1.all v ((all_columns schema references).there v listed_there)) (λ v listed_there. (all_columns schema references).all v (is.1.there v listed_there)))
      ∙ sym is.2);
  refuses = λ fault is. absurd is;
}
