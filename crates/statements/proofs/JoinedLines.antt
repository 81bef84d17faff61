-- Lines, one after another: those of the texts of EXPLAIN are these texts again.
use Rattle.std.proofs.Common.{◌≡◌, ◌≢◌, ℕ, Bool, true, false, List, [], ◌∷◌, ◌++◌, codes, Some, None, Option, map, refl, sym, ◌∙◌}
use Rattle.std.proofs.Common.{ap, eqb-true}
use Rattle.std.specs.Prelude.{decimal, slice_index_or}
use Rattle.std.specs.List.{concat}
use Rattle.statements.proofs.LineLemmas.{is_feed, lines_by, no_lines}
use Rattle.statements.specs.StatementRows.{line_records, lines, onto}
use Rattle.statements.specs.StatementTexts.{row_text}
use Rattle.table_model.specs.ExplainTexts.{access_line, access_lines, analyze_text, count_line, explain_text, filters_text}
use Rattle.table_model.specs.ExplainTexts.{limit_line, line, method_text}
use Rattle.table_model.specs.SpatialTables.{SpatialQuery}
use Rattle.table_model.specs.declared.conditions.Reference.{Reference}
use Rattle.table_model.specs.declared.plans.Access.{Access}
use Rattle.table_model.specs.declared.plans.Plan.{Plan}
use Rattle.table_model.specs.declared.queries.Explain.TheVariants as explains

-- ---- lines, one after another

-- some lines, each ended by a line feed
abbrev pub joined : List (List ℕ) → List ℕ
joined ls = concat (map (row_text explains.Plan) (map (λ line. line ∷ []) ls))

-- whether a line feed ends what begins with this byte
abbrev pub ended_by : ℕ → List ℕ → Bool
ended_by byte [] = is_feed byte
ended_by byte (next ∷ more) = ended_by next more

-- whether a text has no byte, or a line feed ends it
abbrev pub is_ended : List ℕ → Bool
is_ended [] = true
is_ended (byte ∷ more) = ended_by byte more

joined_onto : (byte : ℕ) (ls : List (List ℕ)) → ls ≢ [] → joined (onto byte ls) ≡ byte ∷ joined ls
joined_onto byte [] some = absurd (some refl)
joined_onto byte (line ∷ more) some = refl

onto_some : (byte : ℕ) (ls : List (List ℕ)) → onto byte ls ≢ []
onto_some byte [] e = cc e
onto_some byte (line ∷ more) e = cc e

some_lines : (byte : ℕ) (more : List ℕ) (at : Bool) → is_feed byte ≡ at → lines (byte ∷ more) ≢ []
some_lines byte more true is none = let e : [] ∷ lines more ≡ [] = sym (lines_by byte more ∙ rw is refl) ∙ none in cc e
some_lines byte more false is none = onto_some byte (lines more) (sym (lines_by byte more ∙ rw is refl) ∙ none)

ended_rest : (byte : ℕ) (more : List ℕ) → ended_by byte more ≡ true → is_ended more ≡ true
ended_rest byte [] e = refl
ended_rest byte (next ∷ more) e = e

joined_by : (byte : ℕ) (more : List ℕ) (at : Bool) → is_feed byte ≡ at → is_ended (byte ∷ more) ≡ true
    → (is_ended more ≡ true → joined (lines more) ≡ more) → joined (lines (byte ∷ more)) ≡ byte ∷ more
joined_by byte more true is ends next =
    let feed : byte ≡ 10 = eqb-true byte 10 is in
    let here : lines (byte ∷ more) ≡ [] ∷ lines more = lines_by byte more ∙ rw is refl in
    ap joined here ∙ ap (λ l. 10 ∷ l) (next (ended_rest byte more ends)) ∙ ap (λ b. b ∷ more) (sym feed)
joined_by byte [] false is ends next = let both : true ≡ false = sym ends ∙ is in cc both
joined_by byte (other ∷ more) false is ends next =
    let here : lines (byte ∷ other ∷ more) ≡ onto byte (lines (other ∷ more)) = lines_by byte (other ∷ more) ∙ rw is refl in
    ap joined here ∙ joined_onto byte (lines (other ∷ more)) (some_lines other more (is_feed other) refl)
    ∙ ap (λ l. byte ∷ l) (next ends)

joined_lines : (text : List ℕ) → is_ended text ≡ true → joined (lines text) ≡ text
joined_lines [] ends = ap joined no_lines
joined_lines (byte ∷ more) ends = joined_by byte more (is_feed byte) refl ends (joined_lines more)

-- the lines of a text that a line feed ends, each ended by a line feed, are the text
pub lines_joined : (text : List ℕ) → is_ended text ≡ true → concat (map (row_text explains.Plan) (line_records text)) ≡ text
lines_joined text ends = joined_lines text ends

-- ---- the texts of EXPLAIN end so

ends_after : (a : ℕ) (x : List ℕ) (b : ℕ) (y : List ℕ) → ended_by b y ≡ true → ended_by a (x ++ b ∷ y) ≡ true
ends_after a [] b y e = e
ends_after a (c ∷ x) b y e = ends_after c x b y e

ends_last : (x : List ℕ) (b : ℕ) (y : List ℕ) → ended_by b y ≡ true → is_ended (x ++ b ∷ y) ≡ true
ends_last [] b y e = e
ends_last (a ∷ x) b y e = ends_after a x b y e

ends_both_by : (a : ℕ) (x y : List ℕ) → ended_by a x ≡ true → is_ended y ≡ true → ended_by a (x ++ y) ≡ true
ends_both_by a [] [] e f = e
ends_both_by a [] (b ∷ y) e f = f
ends_both_by a (c ∷ x) y e f = ends_both_by c x y e f

ends_both : (x y : List ℕ) → is_ended x ≡ true → is_ended y ≡ true → is_ended (x ++ y) ≡ true
ends_both [] y e f = f
ends_both (a ∷ x) y e f = ends_both_by a x y e f

line_ends : (word text : List ℕ) → is_ended (line word text) ≡ true
line_ends word text = ends_last (word ++ codes " " ++ text) 10 [] refl

access_ends : (references : List Reference) (role : List ℕ) (access : Access)
    → is_ended (access_line references role access) ≡ true
access_ends references role access =
    let name = slice_index_or (map (λ (r : Reference). r.name) references) access.reference [] in
    ends_last (role ++ codes " " ++ name ++ codes " " ++ method_text access.method) 10 [] refl

accesses_end : (references : List Reference) (accesses : List Access) → is_ended (access_lines references accesses) ≡ true
accesses_end references [] = refl
accesses_end references (outer ∷ []) = access_ends references (codes "outer") outer
accesses_end references (outer ∷ inner ∷ more) =
    ends_both (access_line references (codes "outer") outer) (access_line references (codes "inner") inner)
    (access_ends references (codes "outer") outer) (access_ends references (codes "inner") inner)

count_ends : (counts : Bool) → is_ended (count_line counts) ≡ true
count_ends true = refl
count_ends false = refl

limit_ends : (limit : Option ℕ) → is_ended (limit_line limit) ≡ true
limit_ends (Some n) = line_ends (codes "limit") (decimal n)
limit_ends None = refl

pub explain_ends : (query : SpatialQuery) (plan : Plan) → is_ended (explain_text query plan) ≡ true
explain_ends query plan =
    let cost = line (codes "cost") (decimal plan.cost) in
    let accesses = access_lines query.references plan.accesses in
    let filters = line (codes "filter") (filters_text plan.filters) in
    let count = count_line query.counts in
    let limit = limit_line query.limit in
    ends_both (cost ++ accesses ++ filters ++ count) limit
    (ends_both (cost ++ accesses ++ filters) count
    (ends_both (cost ++ accesses) filters
    (ends_both cost accesses (line_ends (codes "cost") (decimal plan.cost)) (accesses_end query.references plan.accesses))
    (line_ends (codes "filter") (filters_text plan.filters))) (count_ends query.counts)) (limit_ends query.limit)

pub analyze_ends : (query : SpatialQuery) (plan : Plan) (work : ℕ) → is_ended (analyze_text query plan work) ≡ true
analyze_ends query plan work =
    ends_both (explain_text query plan) (line (codes "work") (decimal work))
    (explain_ends query plan) (line_ends (codes "work") (decimal work))
