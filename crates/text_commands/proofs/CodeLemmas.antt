-- Where a code is in the list of codes, and that no code has a colon.
use Rattle.std.proofs.Common.{◌≡◌, ◌<◌, ◌==◌, ◌++◌, ◌∷◌, [], ℕ, List, arith, get_or, refl, ap, sym, ◌∙◌, cond, codes}
use Rattle.text_commands.specs.FaultPages.{IsPageOf, code_text}
use Rattle.text_commands.specs.declared.fault_codes.TheConstants.{CODES}
use Rattle.text_commands.specs.declared.fault_codes.FaultCode.{FaultCode}
use Rattle.text_commands.specs.declared.fault_codes.FaultCode.TheVariants as c

-- each code is in the list
pub at_place : (code : FaultCode) → (k : ℕ) × (k < 41) × (get_or CODES k c.W1 ≡ code)
at_place c.W1 = (0, omega arith, refl)
at_place c.W2 = (1, omega arith, refl)
at_place c.W3 = (2, omega arith, refl)
at_place c.W4 = (3, omega arith, refl)
at_place c.V1 = (4, omega arith, refl)
at_place c.V2 = (5, omega arith, refl)
at_place c.V3 = (6, omega arith, refl)
at_place c.V4 = (7, omega arith, refl)
at_place c.V5 = (8, omega arith, refl)
at_place c.V6 = (9, omega arith, refl)
at_place c.V7 = (10, omega arith, refl)
at_place c.V8 = (11, omega arith, refl)
at_place c.S1 = (12, omega arith, refl)
at_place c.S2 = (13, omega arith, refl)
at_place c.S3 = (14, omega arith, refl)
at_place c.S4 = (15, omega arith, refl)
at_place c.S5 = (16, omega arith, refl)
at_place c.S6 = (17, omega arith, refl)
at_place c.L1 = (18, omega arith, refl)
at_place c.L2 = (19, omega arith, refl)
at_place c.L3 = (20, omega arith, refl)
at_place c.L4 = (21, omega arith, refl)
at_place c.L5 = (22, omega arith, refl)
at_place c.L6 = (23, omega arith, refl)
at_place c.L7 = (24, omega arith, refl)
at_place c.L8 = (25, omega arith, refl)
at_place c.L9 = (26, omega arith, refl)
at_place c.L10 = (27, omega arith, refl)
at_place c.L11 = (28, omega arith, refl)
at_place c.Q1 = (29, omega arith, refl)
at_place c.Q2 = (30, omega arith, refl)
at_place c.Q3 = (31, omega arith, refl)
at_place c.Q4 = (32, omega arith, refl)
at_place c.Q5 = (33, omega arith, refl)
at_place c.Q6 = (34, omega arith, refl)
at_place c.Q7 = (35, omega arith, refl)
at_place c.Q8 = (36, omega arith, refl)
at_place c.Q9 = (37, omega arith, refl)
at_place c.Q10 = (38, omega arith, refl)
at_place c.Q11 = (39, omega arith, refl)
at_place c.Q12 = (40, omega arith, refl)

-- ---- different pages

-- what a text has before its first colon
before_colon : List ℕ → List ℕ
before_colon [] = []
before_colon (b ∷ bs) = cond (b == 58) [] (b ∷ before_colon bs)

-- what a page has before its first colon is its code
named : (code : FaultCode) (rest : List ℕ) → before_colon (code_text code ++ (codes ": " ++ rest)) ≡ code_text code
unfolding before_colon
named c.W1 rest = refl
named _ rest = refl

-- so a text is the page of one code at most
pub one_page : (a b : FaultCode) (page : List ℕ) → IsPageOf a page → IsPageOf b page → code_text a ≡ code_text b
one_page a b page (rest, of_a) (other, of_b) =
    sym (ap before_colon of_a ∙ named a rest) ∙ (ap before_colon of_b ∙ named b other)
