-- Files as a caller hands them in.
use Rattle.std.specs.Prelude.{◌≡◌, ◌==◌, ◌⊎◌, ℕ, Bool, true, false, if◌then◌else◌, codes, find, List, [], map, Option, Some, None}
use Rattle.std.specs.Option.{option_and_then, option_map, option_map_or}
use Rattle.std.specs.Str.{bytes_eq}
use denote.Ref.{Bor}
use Rattle.streams.specs.Readers.{reader_under}
use Rattle.text_commands.specs.Files.{Opening, path_of}
use Rattle.text_commands.specs.declared.files.File.{File}
use Rattle.text_commands.specs.declared.files.File.TheVariants as role
use Rattle.sfq_web.specs.declared.handed_files.Found.{Found}
use Rattle.sfq_web.specs.declared.handed_files.Found.TheVariants as found
use Rattle.sfq_web.specs.declared.handed_files.HandedFile.{HandedFile}
use Rattle.sfq_web.specs.declared.handed_files.HandedReader.{HandedReader}
use Rattle.sfq_web.specs.declared.handed_files.HandedReader.TheVariants as reader

-- what a number says of what was found at a path (the numbers: this project's choice)
abbrev pub found_of : ℕ → Found
found_of n =
    if n == 0 then found.Lasting
    else if n == 1 then found.Passing
    else if n == 2 then found.Folder
    else if n == 3 then found.Broken
    else if n == 4 then found.Nothing
    else if n == 5 then found.Denied
    else found.Closed

-- whether it can be opened
abbrev pub is_there : Found → Bool
is_there found.Lasting = true
is_there found.Passing = true
is_there found.Folder = true
is_there found.Broken = true
is_there found.Nothing = false
is_there found.Denied = false
is_there found.Closed = false

-- whether reading it fails behind what was read
abbrev pub fails_behind : Found → Bool
fails_behind found.Lasting = false
fails_behind found.Passing = false
fails_behind found.Folder = true
fails_behind found.Broken = true
fails_behind found.Nothing = false
fails_behind found.Denied = false
fails_behind found.Closed = false

-- what is said after a path where what was found there can't be opened or is a folder (the words: this project's choice)
abbrev pub words_of : Found → Option (List ℕ)
words_of found.Lasting = None
words_of found.Passing = None
words_of found.Folder = Some (codes " is a folder")
words_of found.Broken = None
words_of found.Nothing = Some (codes " isn't there")
words_of found.Denied = Some (codes " may not be read by this user")
words_of found.Closed = Some (codes " can't be opened")

-- the number of what a file is for a command (the numbers: this project's choice)
abbrev pub number_of : File → ℕ
number_of (role.Schema path) = 0
number_of (role.Table path) = 1
number_of (role.Query path) = 2
number_of (role.Geometry path) = 3
number_of (role.Pairs path) = 4

-- the bytes that a reader has yet to give
abbrev pub bytes_in : HandedReader → List ℕ
bytes_in (reader.Records bounded) = (reader_under bounded).rest.now
bytes_in (reader.Text text) = text.rest.now

-- whether reading a reader fails behind these bytes
abbrev pub fails_in : HandedReader → Bool
fails_in (reader.Records bounded) = (reader_under bounded).fails
fails_in (reader.Text text) = text.fails

-- whether it is of another text than CSV
abbrev pub is_text : HandedReader → Bool
is_text (reader.Records bounded) = false
is_text (reader.Text text) = true

-- whether a file of a command is of another text than CSV, which a table and pairs are (RFC 4180)
abbrev pub is_text_of : File → Bool
is_text_of (role.Schema path) = true
is_text_of (role.Table path) = false
is_text_of (role.Query path) = true
is_text_of (role.Geometry path) = true
is_text_of (role.Pairs path) = false

-- the bytes of a file that can be opened
abbrev pub opened_text : HandedFile → Option (List ℕ)
opened_text file = if is_there file.found then Some file.text.now else None

-- whether a path is that of standard input
abbrev pub is_dash : List ℕ → Bool
is_dash path = bytes_eq path (codes "-")

-- whether a file of a command is standard input: a query, a geometry and pairs may come from there (this project's choice)
abbrev pub is_standard : File → Bool
is_standard (role.Schema path) = false
is_standard (role.Table path) = false
is_standard (role.Query path) = is_dash path.now
is_standard (role.Geometry path) = is_dash path.now
is_standard (role.Pairs path) = is_dash path.now

-- the first of some files that is at a path
abbrev pub file_at : List HandedFile → List ℕ → Option HandedFile
file_at files path = find (λ file. bytes_eq file.path.now path) files

-- whether reading a file of a command fails behind its bytes, where reading standard input does or not
abbrev pub fails_as : List HandedFile → Bool → File → Bool
fails_as files broken file = if is_standard file then broken else option_map_or (λ it. fails_behind it.found) (file_at files (path_of file)) false

-- the files have these paths and bytes, and these numbers say what was found, in order
pub record AreFiles (files : List HandedFile) (paths texts : List (List ℕ)) (numbers : List ℕ) : Type 0 where
  pub are_paths : map (λ file. file.path.now) files ≡ paths
  pub are_texts : map (λ file. file.text.now) files ≡ texts
  pub are_found : map (λ file. file.found) files ≡ map found_of numbers

-- ---- what a command sees of them

-- the files that are handed in, and standard input, if that is
pub record Handed : Type 0 where
  pub files : List HandedFile
  pub input : Option (List ℕ)

-- the bytes of the file at a path, if it is handed in and can be opened
abbrev pub text_at : Handed → List ℕ → Option (List ℕ)
text_at handed path = option_and_then opened_text (file_at handed.files path)

-- standard input isn't handed in; or no file is, at a path
abbrev pub IsNotThere : Bool → Handed → List ℕ → Type 0
IsNotThere true handed path = handed.input ≡ None
IsNotThere false handed path = file_at handed.files path ≡ None

-- a file of a command isn't handed in
abbrev pub IsNotHanded : Handed → File → Type 0
IsNotHanded handed file = IsNotThere (is_standard file) handed (path_of file)

-- the file is what this number says for a command, at this path
abbrev pub IsFileOf : ℕ → List ℕ → File → Type 0
IsFileOf number path file = (number_of file ≡ number) × (path_of file ≡ path)

-- what this number says for a command, at this path, isn't handed in
abbrev pub IsNotHandedAs : Handed → ℕ → List ℕ → Type 0
IsNotHandedAs handed number path = (file : File) × IsFileOf number path file × IsNotHanded handed file

-- what is left of them once standard input was opened, if that is handed in: it has no more bytes
abbrev pub emptied : Handed → Handed
emptied handed = record handed { input = option_map (λ (text : List ℕ). []) handed.input }

-- the bytes of a file that is opened, if it can be, and what is left
abbrev pub OpensBy : Bool → Handed → List ℕ → Option (List ℕ) → Handed → Type 0
OpensBy true handed path text after = (text ≡ handed.input) × (after ≡ emptied handed)
OpensBy false handed path text after = (text ≡ text_at handed path) × (after ≡ handed)

-- a command that opens standard input gets this reader, or none, and these files are left
abbrev pub OpensInput : Handed → Option HandedReader → Handed → Type 0
OpensInput handed reader after = (option_map bytes_in reader ≡ handed.input) × (after ≡ emptied handed)

-- a command that opens a file gets this reader, or none, and these files are left
abbrev pub OpensAs : Handed → File → Option HandedReader → Handed → Type 0
OpensAs handed file reader after = OpensBy (is_standard file) handed (path_of file) (option_map bytes_in reader) after

-- the same, of what the file is for the command and of its path
abbrev pub OpensHanded : Opening Handed HandedReader
OpensHanded role handed path reader after = (shown : Bor (List ℕ)) × (shown.now ≡ path) × OpensAs handed (role shown) reader after
