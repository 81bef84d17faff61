-- What is read of a reader up to a limit.
use Rattle.std.proofs.Common.{◌≡◌, ◌+◌, ◌<◌, ◌≤◌, ◌⊎◌, inl, inr, ℕ, List, length, take, Option, None, Some, IfSome, ◌∙◌, ap, subst, arith}
use Rattle.std.specs.Io.Take.{take_inner, take_limit, take_remaining}
use Rattle.std.specs.Option.{option_map}
use Rattle.std.specs.declared.io.traits.Take.{Take}
use Rattle.std.proofs.lemmas.Bool.{cases_lt}
use Rattle.std.proofs.lemmas.List.{length-take, take_all}
use Rattle.text_commands.specs.GivenTexts.{IsTextOf}

-- the bytes that are read up to a limit are those of the reader beneath
taken : (known : Option (List ℕ)) (limit : ℕ) (text : List ℕ) → IfSome (option_map (take limit) known) (λ bytes. text ≡ bytes) → IfSome known (λ bytes. text ≡ take limit bytes)
taken None limit text is = tt
taken (Some bytes) limit text is = is

pub taken-from : {R : Type 0} (remaining : R → Option (List ℕ)) (reading : Take R) (file : R) (limit : ℕ) (text : List ℕ) → take_limit reading ≡ limit → take_inner reading ≡ file
    → IfSome (take_remaining remaining reading) (λ bytes. text ≡ bytes) → IfSome (remaining file) (λ bytes. text ≡ take limit bytes)
taken-from remaining reading file limit text limited inner is =
    taken (remaining file) limit text
    (subst (λ known. IfSome known (λ bytes. text ≡ bytes))
    (ap (λ n. option_map (take n) (remaining (take_inner reading))) limited ∙ ap (λ r. option_map (take limit) (remaining r)) inner) is)

-- a text that is shorter than the limit is all there is
whole_by : (more : ℕ) (bytes text : List ℕ) → text ≡ take more bytes → length text < more → (more < length bytes) ⊎ (length bytes ≤ more) → text ≡ bytes
whole_by more bytes text is short (inl past) =
    let counted : length text ≡ length (take more bytes) = ap length is in
    let all : more ≤ length (take more bytes) = omega (arith, length-take {A = ℕ}) in
    absurd (omega arith)
whole_by more bytes text is short (inr within) = is ∙ take_all more bytes within

pub whole : (known : Option (List ℕ)) (limit : ℕ) (text : List ℕ) → IfSome known (λ bytes. text ≡ take (limit + 1) bytes) → length text ≤ limit → IsTextOf known text
whole None limit text read within = tt
whole (Some bytes) limit text read within = whole_by (limit + 1) bytes text read (omega arith) (cases_lt (limit + 1) (length bytes))

-- one that isn't has more bytes beneath it than the limit
pub past : (known : Option (List ℕ)) (limit : ℕ) (text : List ℕ) → IfSome known (λ bytes. text ≡ take (limit + 1) bytes) → limit < length text → IfSome known (λ bytes. limit < length bytes)
past None limit text read more = tt
past (Some bytes) limit text read more = by (cases_lt limit (length bytes))
  where
    by : (limit < length bytes) ⊎ (length bytes ≤ limit) → limit < length bytes
    by (inl longer) = longer
    by (inr shorter) =
        let same : take (limit + 1) bytes ≡ bytes = take_all (limit + 1) bytes (omega arith) in
        let counted : length text ≡ length bytes = ap length (read ∙ same) in
        absurd (omega arith)
