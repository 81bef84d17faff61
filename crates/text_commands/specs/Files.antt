-- What contracts see of the files that commands open.
use Rattle.std.specs.Prelude.{◌≡◌, ℕ, List, Option}
use Rattle.std.specs.Fn.{Called, CalledAt, Mut}
use denote.Ref.{Bor}
use Rattle.text_commands.specs.declared.files.File.{File}
use Rattle.text_commands.specs.declared.files.File.TheVariants as role

-- where a file is
abbrev pub path_of : File → List ℕ
path_of (role.Schema path) = path.now
path_of (role.Table path) = path.now
path_of (role.Query path) = path.now
path_of (role.Geometry path) = path.now
path_of (role.Pairs path) = path.now

-- what a file is for the command that opens it, such as `role.Schema`
abbrev pub Role : Type 0
Role = Bor (List ℕ) → File

-- which calls open files: in this state, the file with this role at this path is opened with this reader, or can't be, which leaves that state
abbrev pub Opening : Type 0 → Type 0 → Type 1
Opening F R = Role → F → List ℕ → Option R → F → Type 0

-- a function of files opens them: it is called with the file
pub record OpensFile {F R : Type 0} (g : Mut F (File × Unit {0}) (Option R)) (role : Role) (opener : F) (path : List ℕ) (reader : Option R) (after : F) : Type 0 where
  pub shown : Bor (List ℕ)
  pub shows : shown.now ≡ path
  pub called : Called g opener (role shown, tt) reader after

-- a function of paths opens them: it is called with the path, whatever the file's role
abbrev pub OpensPath : {F R : Type 0} → Mut F (Bor (List ℕ) × Unit {0}) (Option R) → Opening F R
OpensPath g role opener path reader after = CalledAt g opener path reader after
