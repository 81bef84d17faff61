-- Records of readers.
use Rattle.std.proofs.Common.{List, [], ◌∷◌, ℕ, Option, Some, None, refl}
use Rattle.table_model.specs.Loading.{Record}
use Rattle.feature_table.specs.Tables.{AreRecordsOf, EachRecordsOf, records_in}

-- there are records of each reader, whatever it gives
records-of : (known : Option (List ℕ)) → (records : List Record) × AreRecordsOf known records
records-of None = ([], tt)
records-of (Some text) = (records_in text, refl)

-- so there are records of all readers of a list
pub some-records : (known : List (Option (List ℕ))) → (records : List (List Record)) × EachRecordsOf known records
some-records [] = ([], tt)
some-records (one ∷ more) =
    let here = records-of one in
    let others = some-records more in
    (here.0 ∷ others.0, (here.1, others.1))
