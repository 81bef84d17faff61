-- The parts of the text of a plan.
use Rattle.std.proofs.Common.{◌≡◌, ◌≢◌, ℕ, List, [], ◌∷◌, ◌++◌, length, map, codes, decimal, slice_index_or, Option, Result, Err, refl, ap, append_assoc, append-nil}
use Rattle.std.specs.List.{concat, join_with_byte}
use Rattle.std.specs.Prelude.{IsErrAnd}
use Rattle.explain.proofs.PutLemmas.{puts-begun}
use Rattle.explain.specs.Puts.{Puts}
use Rattle.table_model.specs.ExplainTexts.{line, access_line, access_lines, conjunct_number, count_line, filters_text, limit_line}
use Rattle.table_model.specs.declared.conditions.Bound.{Bound}
use Rattle.table_model.specs.declared.plans.Plan.{Plan}
use Rattle.table_model.specs.declared.conditions.Reference.{Reference}
use Rattle.table_model.specs.declared.plans.AccessMethod.TheVariants as methods
use Rattle.table_model.specs.declared.plans.Access.{Access}

-- the parts of a line, joined
pub line_parts : (word text : List ℕ) → concat (word ∷ codes " " ∷ text ∷ codes "\n" ∷ []) ≡ line word text
line_parts word text = simp (append_assoc, append-nil)

-- the parts of an access's line, joined
pub access_parts : (role name method number : List ℕ)
    → concat (role ∷ codes " " ∷ name ∷ codes " " ∷ method ∷ number ∷ codes "\n" ∷ []) ≡ role ++ codes " " ++ name ++ codes " " ++ (method ++ number) ++ codes "\n"
access_parts role name method number = simp (append_assoc, append-nil)

-- the line of a scan
pub scan_line : (references : List Reference) (role name : List ℕ) (access : Access) → access.method ≡ methods.Scan → name ≡ slice_index_or (map (λ r. r.name) references) access.reference []
    → role ++ codes " " ++ name ++ codes " " ++ (codes "scan" ++ []) ++ codes "\n" ≡ access_line references role access
scan_line references role name access is named = rw (is, named) refl

-- the line of a probe
pub probe_line : (references : List Reference) (role name number : List ℕ) (access : Access) (place : ℕ) → access.method ≡ methods.Probe place
    → name ≡ slice_index_or (map (λ r. r.name) references) access.reference [] → number ≡ conjunct_number place
    → role ++ codes " " ++ name ++ codes " " ++ (codes "probe " ++ number) ++ codes "\n" ≡ access_line references role access
probe_line references role name number access place is named numbered = rw (is, named, numbered) refl

-- joining by spaces is putting a space before each but the first
join_spaced : (first : List ℕ) (more : List ℕ) → first ++ concat (map (λ k. codes " " ++ conjunct_number k) more) ≡ join_with_byte 32 (first ∷ map conjunct_number more)
join_spaced first [] = append-nil first
join_spaced first (k ∷ more) = ap (λ l. first ++ (32 ∷ l)) (join_spaced (conjunct_number k) more)

-- the line of some filters
pub filter_line : (places : List ℕ) → length places ≢ 0
    → codes "filter" ++ (concat (map (λ k. codes " " ++ conjunct_number k) places) ++ codes "\n") ≡ line (codes "filter") (filters_text places)
filter_line [] some = absurd (some refl)
filter_line (k ∷ more) some = ap (λ l. codes "filter " ++ (l ++ codes "\n")) (join_spaced (conjunct_number k) more)

-- the parts of the text of EXPLAIN
abbrev pub parts : {A C : Type 0} → Bound A C → Plan → List (List ℕ)
parts query plan =
    line (codes "cost") (decimal plan.cost) ∷ access_lines query.references plan.accesses ∷ line (codes "filter") (filters_text plan.filters)
    ∷ count_line query.counts ∷ limit_line query.limit ∷ []

-- where the first access's line failed, the lines are begun
pub outer_begun : {S A B E : Type 0} {taken : S → Option (List ℕ)} {count : S → ℕ} {a b : S} {e : E} (r : Result B E)
    (references : List Reference) (accesses : List Access) (d : Access) → length accesses ≢ 0
    → Puts {A = A} taken count a b (Err e) (access_line references (codes "outer") (slice_index_or accesses 0 d)) → IsErrAnd r (λ f. f ≡ e)
    → Puts taken count a b r (access_lines references accesses)
outer_begun r references [] d some put is = absurd (some refl)
outer_begun r references (outer ∷ []) d some put is = puts-begun r (access_line references (codes "outer") outer) [] put is
outer_begun r references (outer ∷ inner ∷ more) d some put is =
    puts-begun r (access_line references (codes "outer") outer) (access_line references (codes "inner") inner ∷ []) put is

-- the lines of two accesses are the lines
pub both_put : {S A E : Type 0} {taken : S → Option (List ℕ)} {count : S → ℕ} {a b : S} {r : Result A E} (references : List Reference)
    (accesses : List Access) (d e : Access) → length accesses ≢ 0 → length accesses ≢ 1
    → Puts taken count a b r
    (access_line references (codes "outer") (slice_index_or accesses 0 d) ++ access_line references (codes "inner") (slice_index_or accesses 1 e))
    → Puts taken count a b r (access_lines references accesses)
both_put references [] d e some more put = absurd (some refl)
both_put references (outer ∷ []) d e some more put = absurd (more refl)
both_put references (outer ∷ inner ∷ others) d e some more put = put
