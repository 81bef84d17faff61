-- What the files so far have, and what is still to come, is the whole.
use Rattle.std.proofs.Common.{◌≡◌, ◌++◌, Bor, List, drop, map, ℕ}
use Rattle.sfq_web.specs.HandedFiles.{found_of}
use Rattle.sfq_web.specs.declared.handed_files.HandedFile.{HandedFile}
use Rattle.sfq_web.proofs.handed_in.files_of.Given as goal

abbrev pub invariant-loop-place : goal.invariant-loop-place
invariant-loop-place l = record {
  paths : map (λ (file : HandedFile). file.path.now) l.files.items ++ map (λ (path : Bor (List ℕ)). path.now) (drop l.place
      l.paths) ≡ map (λ path. path.now) l.paths;
  texts : map (λ (file : HandedFile). file.text.now) l.files.items ++ map (λ (text : Bor (List ℕ)). text.now) (drop l.place
      l.texts) ≡ map (λ text. text.now) l.texts;
  found : map (λ (file : HandedFile). file.found) l.files.items ++ map found_of (drop l.place l.found) ≡ map found_of l.found;
}
