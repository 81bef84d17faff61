-- What a bounded reader and a patient one show.
use Rattle.streams.specs.declared.interruptions.PatientReader.{PatientReader}
use Rattle.streams.specs.declared.readers.BoundedReader.{BoundedReader}
use Rattle.streams.specs.declared.tallies.Tally.{Tally}

-- the reader beneath
abbrev pub reader_under : {R : Type 0} → BoundedReader R → R
reader_under b = b.reader

-- the tally of the bytes that it gave
abbrev pub tally_of : {R : Type 0} → BoundedReader R → Tally
tally_of b = b.tally

-- the reader beneath a patient one
abbrev pub patient_under : {R : Type 0} → PatientReader R → R
patient_under p = p.reader
