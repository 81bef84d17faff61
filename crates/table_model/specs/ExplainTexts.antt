-- The text of EXPLAIN and of EXPLAIN ANALYZE. Each line is ended by a line feed.
use Rattle.std.specs.Prelude.{ℕ, ◌+◌, Bool, true, false, Option, Some, None, List, [], ◌∷◌, ◌++◌, map, slice_index_or, decimal, codes}
use Rattle.std.specs.List.{join_with_byte}
use Rattle.table_model.specs.declared.conditions.Bound.{Bound}
use Rattle.table_model.specs.declared.conditions.Reference.{Reference}
use Rattle.table_model.specs.declared.plans.AccessMethod.{AccessMethod}
use Rattle.table_model.specs.declared.plans.AccessMethod.TheVariants as methods
use Rattle.table_model.specs.declared.plans.Access.{Access}
use Rattle.table_model.specs.declared.plans.Plan.{Plan}

-- the number of the conjunct at a place: they are numbered from 1
abbrev pub conjunct_number : ℕ → List ℕ
conjunct_number place = decimal (place + 1)

-- a scan, or a probe with the number of its conjunct
abbrev pub method_text : AccessMethod → List ℕ
method_text methods.Scan = codes "scan"
method_text (methods.Probe k) = codes "probe " ++ conjunct_number k

-- the line of an access: outer or inner, its reference's name, and how its rows are found
abbrev pub access_line : List Reference → List ℕ → Access → List ℕ
access_line references role access =
    role ++ codes " " ++ slice_index_or (map (λ r. r.name) references) access.reference [] ++ codes " " ++ method_text access.method ++ codes "\n"

-- the lines of the accesses
abbrev pub access_lines : List Reference → List Access → List ℕ
access_lines references [] = []
access_lines references (outer ∷ []) = access_line references (codes "outer") outer
access_lines references (outer ∷ inner ∷ more) = access_line references (codes "outer") outer ++ access_line references (codes "inner") inner

-- the numbers of the filters, or a word where there are none
abbrev pub filters_text : List ℕ → List ℕ
filters_text [] = codes "none"
filters_text (place ∷ more) = join_with_byte 32 (map conjunct_number (place ∷ more))

-- a line with a word and a text
abbrev pub line : List ℕ → List ℕ → List ℕ
line word text = word ++ codes " " ++ text ++ codes "\n"

-- the line of COUNT(*), if there is one
abbrev pub count_line : Bool → List ℕ
count_line true = codes "count\n"
count_line false = []

-- the line of LIMIT, if there is one
abbrev pub limit_line : Option ℕ → List ℕ
limit_line (Some n) = line (codes "limit") (decimal n)
limit_line None = []

-- the text of EXPLAIN
abbrev pub explain_text : {A C : Type 0} → Bound A C → Plan → List ℕ
explain_text query plan =
    line (codes "cost") (decimal plan.cost)
    ++ access_lines query.references plan.accesses
    ++ line (codes "filter") (filters_text plan.filters)
    ++ count_line query.counts
    ++ limit_line query.limit

-- the text of EXPLAIN ANALYZE: the work ends it
abbrev pub analyze_text : {A C : Type 0} → Bound A C → Plan → ℕ → List ℕ
analyze_text query plan work = explain_text query plan ++ line (codes "work") (decimal work)
