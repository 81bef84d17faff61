-- Each turn adds the file of the next path, text and number.
use Rattle.std.proofs.Common.{◌<◌, ◌≤◌, ◌∙◌, arith, length, refl}
use Rattle.sfq_web.proofs.ServingFacts.{all_files, next_file, no_file}
use Rattle.sfq_web.specs.HandedFiles.{found_of}
use Rattle.sfq_web.proofs.handed_in.files_of.Goals as goal

pub loop-place-init : goal.loop-place-init
loop-place-init c = record {
  paths = no_file (λ file. file.path.now) (λ path. path.now) c.new-files.result.items c.args.paths.now c.new-files.ensures.items;
  texts = no_file (λ file. file.text.now) (λ text. text.now) c.new-files.result.items c.args.texts.now c.new-files.ensures.items;
  found = no_file (λ file. file.found) found_of c.new-files.result.items c.args.found.now c.new-files.ensures.items;
}

pub loop-place-preserved : goal.loop-place-preserved
loop-place-preserved c =
    let before = c.loop-place in
    let has_text : before.place < length c.args.texts.now = omega arith in
    let has_number : before.place < length c.args.found.now = omega arith in record {
      paths = next_file (λ file. file.path.now) (λ path. path.now) c.push.new.self.items before.files.items _ c.args.paths.now
          before.place _
          c.in_ok-push.ensures.items c.loop-place-test.true refl ∙ before.invariant.paths;
      texts = next_file (λ file. file.text.now) (λ text. text.now) c.push.new.self.items before.files.items _ c.args.texts.now
          before.place _
          c.in_ok-push.ensures.items has_text refl ∙ before.invariant.texts;
      found = next_file (λ file. file.found) found_of c.push.new.self.items before.files.items _ c.args.found.now before.place 0
          c.in_ok-push.ensures.items has_number c.of.ensures ∙ before.invariant.found;
    }

pub returns : goal.returns
returns c =
    let end = c.loop-place in
    let no_text : length c.args.texts.now ≤ end.place = omega arith in
    let no_number : length c.args.found.now ≤ end.place = omega arith in record {
      are_paths = all_files (λ file. file.path.now) (λ path. path.now) end.files.items c.args.paths.now end.place
          c.loop-place-test.false end.invariant.paths;
      are_texts = all_files (λ file. file.text.now) (λ text. text.now) end.files.items c.args.texts.now end.place no_text
          end.invariant.texts;
      are_found = all_files (λ file. file.found) found_of end.files.items c.args.found.now end.place no_number
          end.invariant.found;
    }
