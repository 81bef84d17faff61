-- The codes of faults, which of them a text has, what a page of one is, and what a list of them all is.
use Rattle.std.specs.Prelude.{◌≡◌, ◌++◌, ◌==◌, ◌<◌, ℕ, List, [], codes, get_or, length, map}
use Rattle.std.specs.Char.{to_ascii_lowercase}
use Rattle.std.specs.List.{before_first, slice_split}
use Rattle.std.specs.Str.Lines.{lines}
use Rattle.text_commands.specs.declared.fault_codes.TheConstants.{CODES}
use Rattle.text_commands.specs.declared.fault_codes.FaultCode.{FaultCode}
use Rattle.text_commands.specs.declared.fault_codes.FaultCode.TheVariants as c

-- a code as it is printed
abbrev pub code_text : FaultCode → List ℕ
code_text c.W1 = codes "W1"
code_text c.W2 = codes "W2"
code_text c.W3 = codes "W3"
code_text c.W4 = codes "W4"
code_text c.V1 = codes "V1"
code_text c.V2 = codes "V2"
code_text c.V3 = codes "V3"
code_text c.V4 = codes "V4"
code_text c.V5 = codes "V5"
code_text c.V6 = codes "V6"
code_text c.V7 = codes "V7"
code_text c.V8 = codes "V8"
code_text c.S1 = codes "S1"
code_text c.S2 = codes "S2"
code_text c.S3 = codes "S3"
code_text c.S4 = codes "S4"
code_text c.S5 = codes "S5"
code_text c.S6 = codes "S6"
code_text c.L1 = codes "L1"
code_text c.L2 = codes "L2"
code_text c.L3 = codes "L3"
code_text c.L4 = codes "L4"
code_text c.L5 = codes "L5"
code_text c.L6 = codes "L6"
code_text c.L7 = codes "L7"
code_text c.L8 = codes "L8"
code_text c.L9 = codes "L9"
code_text c.L10 = codes "L10"
code_text c.L11 = codes "L11"
code_text c.Q1 = codes "Q1"
code_text c.Q2 = codes "Q2"
code_text c.Q3 = codes "Q3"
code_text c.Q4 = codes "Q4"
code_text c.Q5 = codes "Q5"
code_text c.Q6 = codes "Q6"
code_text c.Q7 = codes "Q7"
code_text c.Q8 = codes "Q8"
code_text c.Q9 = codes "Q9"
code_text c.Q10 = codes "Q10"
code_text c.Q11 = codes "Q11"
code_text c.Q12 = codes "Q12"

-- a word is this code, in any ASCII case
abbrev pub IsCode : List ℕ → FaultCode → Type 0
IsCode word code = map to_ascii_lowercase (code_text code) ≡ map to_ascii_lowercase word

-- what blanks part in a text
abbrev pub parts_of : List ℕ → List (List ℕ)
parts_of text = slice_split (λ b. b == 32) text

-- a word is no code
abbrev pub IsNoCode : List ℕ → Type 0
IsNoCode word = (known : FaultCode) → IsCode word known → ⊥

-- no word of a list is a code
abbrev pub AreNoCodes : List (List ℕ) → Type 0
AreNoCodes words = (place : ℕ) → place < length words → IsNoCode (get_or words place [])

-- a code is the last one that a word of a list is
abbrev pub IsLastAmong : List (List ℕ) → FaultCode → Type 0
IsLastAmong words code = (place : ℕ) × (place < length words) × IsCode (get_or words place []) code
    × ((later : ℕ) → place < later → later < length words → IsNoCode (get_or words later []))

-- no part of a text is a code
abbrev pub HasNoCode : List ℕ → Type 0
HasNoCode text = AreNoCodes (parts_of text)

-- a code is the last one that a part of a text is
abbrev pub IsLastIn : List ℕ → FaultCode → Type 0
IsLastIn text = IsLastAmong (parts_of text)

-- no word has a code
abbrev pub HaveNoCode : List (List ℕ) → Type 0
HaveNoCode words = (place : ℕ) → place < length words → HasNoCode (get_or words place [])

-- a code is the last one that words have
abbrev pub IsLastOf : List (List ℕ) → FaultCode → Type 0
IsLastOf words code = (place : ℕ) × (place < length words) × IsLastIn (get_or words place []) code
    × ((later : ℕ) → place < later → later < length words → HasNoCode (get_or words later []))

-- a text is a list of all codes: what its lines have before their first colon are the codes, in order
abbrev pub ListsCodes : List ℕ → Type 0
ListsCodes text = map (before_first (λ b. b == 58)) (lines text) ≡ map code_text CODES

-- a text is a page of this code: it begins with the code, a colon and a blank
abbrev pub IsPageOf : FaultCode → List ℕ → Type 0
IsPageOf code page = (rest : List ℕ) × (page ≡ code_text code ++ (codes ": " ++ rest))

-- a text is the page of one code at most
abbrev pub OnePageEach : Type 0
OnePageEach = (a b : FaultCode) (page : List ℕ) → IsPageOf a page → IsPageOf b page → code_text a ≡ code_text b
