-- What explains the fault of a geometry, where more is asked for.
use Rattle.std.specs.Prelude.{◌≡◌, ◌⊎◌, ℕ, List, Option, None, Some, Ok, Err, codes}
use Rattle.explanations.specs.Faults.{text_place}
use Rattle.explanations.specs.Marks.{IsExplanation, SaysOfFile}
use Rattle.failures.specs.Ends.{End, Writes}
use Rattle.failures.specs.declared.failure.Failure.{Failure}
use Rattle.failures.specs.declared.failure.Failure.TheVariants as f
use Rattle.failures.specs.declared.failure.GeometryWord.{GeometryWord}
use Rattle.failures.specs.declared.failure.GeometryWord.TheVariants.{First, Second}
use Rattle.geometry_model.specs.CheckedTexts.{tested}
use Rattle.geometry_model.specs.Geometries.{Geometry}
use Rattle.geometry_model.specs.TextReading.{read_text}
use Rattle.geometry_model.specs.declared.geometry_faults.GeometryFault.{GeometryFault}
use Rattle.geometry_model.specs.declared.geometry_faults.GeometryFault.TheVariants as g
use Rattle.text_commands.specs.GivenTexts.{file_named}
use Rattle.witnesses.specs.VerdictTexts.{verdict_text}
use Rattle.witnesses.specs.Verdicts.{IsVerdictOf}
use Rattle.witnesses.specs.declared.verdict.Verdict.{Verdict}

-- the fault is the first of the text: of its grammar, else of the geometry that it spells (06-103r4, 7.2 and 6.1)
abbrev pub HasFirst : List ℕ → GeometryFault → Type 0
HasFirst text fault = tested (read_text text) ≡ Err fault

-- a text has no fault: it spells a geometry, and that is valid
abbrev pub HasNone : List ℕ → Type 0
HasNone text = (g : Geometry) × (tested (read_text text) ≡ Ok g)

-- the first fault of a text, or none where it has none
abbrev pub IsFirst : List ℕ → Option GeometryFault → Type 0
IsFirst text None = HasNone text
IsFirst text (Some fault) = HasFirst text fault

-- the word whose geometry is refused, and its fault, if a failure is that
abbrev pub refusal_in : Failure → Option (GeometryWord × GeometryFault)
refusal_in (f.Refused word fault) = Some (word, fault)
refusal_in failure = None

-- what is said of a query's file that isn't UTF-8, behind its path
abbrev pub not_utf8 : List ℕ
not_utf8 = codes " isn't UTF-8: save it as UTF-8"

module _ {E : Type 0} (taken : E → Option (List ℕ)) (failures : E → ℕ) where
  -- a text was written, or a beginning of it
  abbrev pub Adds : E → E → List ℕ → Type 0
  Adds old new text = Writes (taken old) (taken new) (failures old) (failures new) text

  -- the line that says this of the file at a path was written, or a beginning of it
  abbrev pub SaysOf : E → E → List ℕ → List ℕ → Type 0
  SaysOf old new path words = (line : List ℕ) × SaysOfFile path words line × Adds old new line

  -- nothing was written, or that line, or a beginning of it
  abbrev pub MaySayOf : E → E → List ℕ → List ℕ → Type 0
  MaySayOf old new path words = (new ≡ old) ⊎ SaysOf old new path words

  -- nothing was written, or the line that says that the file which a query's word names isn't UTF-8, or a beginning of it
  abbrev pub MayExplainEncoding : E → E → List ℕ → Type 0
  MayExplainEncoding old new word = (new ≡ old) ⊎ ((path : List ℕ) × (file_named word ≡ Some path) × MaySayOf old new path not_utf8)

  -- what explains a fault of a text was written, or a beginning of it: for a fault of its grammar the place, and for one of its geometry
  -- the line of its verdict; and what to do
  abbrev pub Explains : E → E → List ℕ → GeometryFault → Type 0
  Explains old new text (g.Text fault) = (e : List ℕ) × IsExplanation text (text_place fault) e × Adds old new e
  Explains old new text (g.Invalid fault) = (v : Verdict) × (e : List ℕ) × (second third : E) × IsVerdictOf text v × IsExplanation text None e
      × Adds old second (codes "sfq: ") × Adds second third (verdict_text v) × Adds third new e

  -- a command ended as the geometry that this word gives is refused, and what explains the fault of its text was written, or a beginning of it
  abbrev pub ExplainsRefusal : E → E → GeometryWord → List ℕ → End → Type 0
  ExplainsRefusal old new word text end = (fault : GeometryFault) × (end ≡ Err (f.Refused word fault)) × Explains old new text fault

  -- what explains the end of a command over the text of one geometry: nothing, or what explains that it is refused
  abbrev pub MayExplainText : E → E → List ℕ → End → Type 0
  MayExplainText old new text end = (new ≡ old) ⊎ ExplainsRefusal old new First text end

  -- what is written where one of the texts of two geometries may be refused
  abbrev pub MayExplainTexts : E → E → List ℕ → List ℕ → End → Type 0
  MayExplainTexts old new first second end = MayExplainText old new first end ⊎ ExplainsRefusal old new Second second end

  -- what is written of a refusal of one of two texts, or of none: what explains the fault of the text that is refused, or a beginning of it
  abbrev pub SaysOfRefusal : E → E → List ℕ → List ℕ → Option (GeometryWord × GeometryFault) → Type 0
  SaysOfRefusal old new first second None = new ≡ old
  SaysOfRefusal old new first second (Some (First, fault)) = Explains old new first fault
  SaysOfRefusal old new first second (Some (Second, fault)) = Explains old new second fault

  -- and where the command has the first text alone
  abbrev pub SaysOfFirst : E → E → List ℕ → Option (GeometryWord × GeometryFault) → Type 0
  SaysOfFirst old new text None = new ≡ old
  SaysOfFirst old new text (Some (First, fault)) = Explains old new text fault
  SaysOfFirst old new text (Some (Second, fault)) = new ≡ old
