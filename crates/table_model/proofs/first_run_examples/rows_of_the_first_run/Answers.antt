-- Loading computes.
use Rattle.std.proofs.Common.{refl}
use Rattle.std.specs.Str.{is_utf8, chars}
use lib.Utf8.{encode}
use Rattle.table_model.specs.Loading.{load, by_key, double_key, header_fault, checked_row, row_of, rows_of, value_of, integer_of}
use Rattle.table_model.specs.Texts.{same_name}
use Rattle.table_model.proofs.first_run_examples.rows_of_the_first_run.Goals as goal

pub returns : goal.returns
unfolding load by_key double_key header_fault checked_row row_of rows_of value_of integer_of same_name is_utf8 chars encode
returns c = refl
