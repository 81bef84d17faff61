-- The list of what was made, which the program prints.
use Rattle.std.specs.Prelude.{ℕ, ℤ, List, ◌++◌, ◌+◌, map, length, codes, decimal, Some, None, slice_get, unwrap_or}
use Rattle.std.specs.List.{concat, flat_map, range_with_len, slice_index_or}
use Rattle.std.specs.Fmt.{signed_decimal}
use Rattle.geometry_model.specs.Envelopes.{Envelope}
use Rattle.sfq_tiles.specs.declared.listing.Written.{Written}
use Rattle.table_laws.specs.Cells.{Cell, cells_of}

-- the line of a stretch: the name of its part, its number, and how many rows it has (RFC 4180, 2; the columns: this project's choice)
abbrev pub stretch_line : List ℕ → ℕ → ℕ → List ℕ
stretch_line name number rows = name ++ codes "," ++ decimal number ++ codes "," ++ decimal rows ++ codes "\n"

-- the lines of a part's stretches, by number from 1, of which each has so many rows
abbrev pub stretches_text : List ℕ → List ℕ → List ℕ
stretches_text name counts = flat_map (λ place. stretch_line name (place + 1) (slice_index_or counts place 0)) (range_with_len 0 (length counts))

-- two coordinates, each as a field that isn't the first
abbrev pub span_text : ℤ → ℤ → List ℕ
span_text least greatest = codes "," ++ signed_decimal least ++ codes "," ++ signed_decimal greatest

-- the sides of a cell; of that of the empty geometries they are empty
abbrev pub sides_text : Cell → List ℕ
sides_text None = codes ",,,,"
sides_text (Some box) = span_text box.least_x box.greatest_x ++ span_text box.least_y box.greatest_y

-- how many rows of each part are in the tile of a number
abbrev pub rows_text : List Written → ℕ → List ℕ
rows_text parts number = concat (map (λ part. codes "," ++ decimal (slice_index_or part.counts.items number 0)) parts)

-- the line of a tile: its number, its sides, and how many rows of each part it has (RFC 4180, 2; the columns: this project's choice)
abbrev pub tile_line : List Envelope → List Written → ℕ → List ℕ
tile_line boxes parts number = decimal number ++ sides_text (unwrap_or (slice_get (cells_of boxes) number) None) ++ rows_text parts number ++ codes "\n"

-- the list of the tiles of some parts: a header with their names, then a line for each tile by number; tile 0 is that of the empty geometries
abbrev pub tiles_header : List Written → List ℕ
tiles_header parts = codes "tile,least_x,greatest_x,least_y,greatest_y" ++ concat (map (λ part. codes "," ++ part.name.now) parts) ++ codes "\n"

abbrev pub tiles_text : List Written → List Envelope → List ℕ
tiles_text parts boxes = tiles_header parts ++ flat_map (tile_line boxes parts) (range_with_len 0 (length boxes + 1))

-- the list of the stretches of some parts, one part after another
abbrev pub stretches_list : List Written → List ℕ
stretches_list parts = codes "part,tile,rows\n" ++ concat (map (λ part. stretches_text part.name.now part.counts.items) parts)
