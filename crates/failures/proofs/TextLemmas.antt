-- How a text of several parts is written.
use Rattle.std.proofs.Common.{Result, Ok, Err, OnErr, codes, ◌≡◌, ℕ, List, [], ◌∷◌, ◌++◌, Option, subst, append_assoc, append-nil}
use Rattle.std.specs.List.{concat}
use Rattle.std.specs.Io.KnownBytes.{Appends}
use Rattle.streams.specs.Sinks.{AppendsFront}
use Rattle.failures.specs.Failures.{line_after}
use Rattle.streams.proofs.SinkLemmas.{AppendsFront-then}

-- the text of parts in which three numbers are
abbrev joined : (table words number code first between second : List ℕ) → List ℕ
joined table words number code first between second = ((table ++ words) ++ number) ++ ((code ++ first) ++ (between ++ second))

-- the parts of a line, joined
pub line_parts : (name table words number code first between second : List ℕ)
    → concat (name ∷ table ∷ words ∷ number ∷ code ∷ first ∷ between ∷ second ∷ codes "\n" ∷ []) ≡ line_after name (joined table words number code first between second)
line_parts name table words number code first between second = simp (append_assoc, append-nil)

-- a first text, and then what was put after it
pub first-front : {A E : Type 0} (r : Result A E) (a b c : Option (List ℕ)) (first text rest : List ℕ) → first ≡ text → Appends a b first
    → OnErr r (AppendsFront b c rest) → OnErr r (AppendsFront a c (text ++ rest))
first-front (Ok x) a b c first text rest is before after = tt
first-front (Err e) a b c first text rest is before after =
    subst (λ l. AppendsFront a c (l ++ rest)) is (AppendsFront-then a b c first rest before after)
