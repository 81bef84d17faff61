-- How a record of an answer is written.
use Rattle.csv.specs.Writing.{row_text, default_writer}
use Rattle.table_model.specs.RunOutcomes.{RecordText}

-- a record as a line of CSV
abbrev pub record_text : RecordText
record_text = row_text default_writer
