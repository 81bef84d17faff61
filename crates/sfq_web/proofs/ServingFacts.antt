-- What came of words, by what came of the order that they are; and files that are handed in.
use Rattle.std.proofs.Common.{◌≡◌, ◌⊎◌, inl, inr, ◌∙◌, ◌+◌, ◌++◌, ◌<◌, ◌≤◌, [], ◌∷◌, Bool, Bor, Err, IfOk, IfSome, List, None, Ok, Option, Result, Some, String, ap, append_assoc, append-nil, drop, false, get_or, length, map, option_map, refl, string_bytes, subst, sym, ℕ}
use Rattle.std.proofs.lemmas.List.{at_drop_all, at_drop_more, map_push}
use Rattle.std.specs.Option.{option_and_then}
use Rattle.clap.specs.Words.{HasKind, fault_of}
use Rattle.command_line.specs.CommandWords.{sfq}
use Rattle.command_line.specs.Orders.{Orders}
use Rattle.command_line.specs.declared.known_commands.Order.{Order}
use Rattle.command_line.specs.declared.misuse.Misuse.{Misuse}
use Rattle.streams.specs.MemorySinks.{memory_bytes}
use Rattle.streams.specs.declared.memory.MemorySink.{MemorySink}
use Rattle.text_commands.specs.Files.{path_of}
use Rattle.text_commands.specs.declared.files.File.{File}
use Rattle.sfq_web.specs.HandedFiles.{AreFiles, Handed, IsNotHandedAs, OpensAs, OpensBy, bytes_in, file_at, found_of, is_standard, opened_text, text_at}
use Rattle.sfq_web.specs.Servings.{AreWritten, FailsOrder, HandsOutPath, HandsOutTexts, IsDone, IsMisuseOf, IsMisusedAs, IsPathOf, IsServed, IsServedOver, MissesGiven, ServesGiven, ServesWords, asking, handed_of, input_of, texts_in}
use Rattle.sfq_web.specs.declared.handed_files.HandedFile.{HandedFile}
use Rattle.sfq_web.specs.declared.handed_files.HandedReader.{HandedReader}
use Rattle.sfq_web.specs.declared.handed_in.HandedIn.{HandedIn}
use Rattle.sfq_web.specs.declared.handing.Missed.{Missed}
use Rattle.sfq_web.specs.declared.serve_call.Said.{Said}
use Rattle.sfq_web.specs.declared.served.Served.{Served}
use Rattle.sfq_web.specs.declared.served.Served.TheVariants as served
use Rattle.sfq_web.specs.declared.served.Written.{Written}

-- the order of the words was done
pub is_served : {E : Type 0} (words : List (List ℕ)) (asks : Bool) (order asked : Order) (files : Handed) (result : Result
    Served E)
    → Orders words order → asked ≡ asking asks order → IfOk result (IsDone asked files) → IfOk result (IsServed words asks files)
is_served words asks order asked files (Ok (served.Done w)) orders same done =
    (order, orders, subst (λ it. IsDone it files (served.Done w)) same done)
is_served words asks order asked files (Ok (served.Misused w)) orders same done = absurd done
is_served words asks order asked files (Ok (served.Missing missed)) orders same done =
    ((order, orders, subst (λ it. FailsOrder it files) same done.0), done.1)
is_served words asks order asked files (Err e) orders same done = done

-- what was said is kept as it is, or is nothing and something else holds
pub same_bytes : {said more : MemorySink} {Else : Type 0} → (more ≡ said) ⊎ ((memory_bytes said ≡ []) × Else)
    → (memory_bytes more ≡ memory_bytes said) ⊎ ((memory_bytes said ≡ []) × Else)
same_bytes (inl same) = inl (ap memory_bytes same)
same_bytes (inr nothing) = inr nothing

-- the words are no order
pub is_misused : {E : Type 0} (words : List (List ℕ)) (asks : Bool) (misuse : Misuse) (files : Handed) (result : Result Served E)
    → HasKind (fault_of sfq words) misuse.error → IfOk result (IsMisusedAs misuse) → IfOk result (IsServed words asks files)
is_misused words asks misuse files (Ok (served.Done w)) has said = absurd said
is_misused words asks misuse files (Ok (served.Misused w)) has said = ((misuse, has, said.0), said.1)
is_misused words asks misuse files (Ok (served.Missing missed)) has said = absurd said
is_misused words asks misuse files (Err e) has said = said

-- ---- files that are handed in

-- one file more of a list, which has the next of some values
pub next_file : {A B : Type 0} (f : HandedFile → B) (g : A → B) (all done : List HandedFile) (one : HandedFile) (xs : List A) (i
    : ℕ) (d : A)
    → all ≡ done ++ one ∷ [] → i < length xs → f one ≡ g (get_or xs i d)
    → map f all ++ map g (drop (i + 1) xs) ≡ map f done ++ map g (drop i xs)
next_file f g all done one xs i d grown some is =
    rw (grown, map_push f done one) (append_assoc (map f done) (f one ∷ []) (map g (drop (i + 1) xs))
    ∙ ap (λ more. map f done ++ more) (ap (λ y. y ∷ map g (drop (i + 1) xs)) is ∙ sym (at_drop_more (map g) xs i d some)))

-- at first no file is there
pub no_file : {A B : Type 0} (f : HandedFile → B) (g : A → B) (done : List HandedFile) (xs : List A) → done ≡ []
    → map f done ++ map g (drop 0 xs) ≡ map g xs
no_file f g done xs none = ap (λ all. map f all ++ map g (drop 0 xs)) none

-- at the end all are
pub all_files : {A B : Type 0} (f : HandedFile → B) (g : A → B) (done : List HandedFile) (xs : List A) (i : ℕ) → length xs ≤ i
    → map f done ++ map g (drop i xs) ≡ map g xs → map f done ≡ map g xs
all_files f g done xs i end cut =
    sym (ap (λ more. map f done ++ more) (at_drop_all (map g) xs i end) ∙ append-nil (map f done)) ∙ cut

-- a file that is found is opened, and is no standard input
pub opened_file : (files : Handed) (file : File) (path : List ℕ) (found : HandedFile) (reader : Option HandedReader) (standard :
    Bool)
    → standard ≡ is_standard file → standard ≡ false → path ≡ path_of file
    → Some found ≡ file_at files.files path → option_map bytes_in reader ≡ opened_text found
    → OpensAs files file reader files
opened_file files file path found reader standard is isnt same there opens =
    let given : option_map bytes_in reader ≡ text_at files (path_of file) =
    opens ∙ ap (λ it. option_and_then opened_text it) there ∙ ap (λ at. text_at files at) same in
    subst (λ b. OpensBy b files (path_of file) (option_map bytes_in reader) files) (sym isnt ∙ is) (given, refl)

-- what came of words over files came of them as they are handed in
pub served_over : (it : HandedIn) (files : List HandedFile) (lent : Option (Bor (List ℕ))) (came : Served)
    → AreFiles files (texts_in it.paths) (texts_in it.texts) it.found.now
    → option_map (λ bytes. bytes.now) lent ≡ input_of (found_of it.input_found) it.input.now
    → IsServed (texts_in it.words) it.asks (handed_of files lent) came → IsServedOver it came
served_over it files lent came are same is = (handed_of files lent, (are, same), is)

-- ---- what is handed out

-- what holds of what a command wrote holds of the texts that were written
of_written : (Are : ℕ → List ℕ → List ℕ → List ℕ → Type 0) (w : Written)
    → Are w.status (memory_bytes w.out) (memory_bytes w.err) (memory_bytes w.more)
    → (status : ℕ) (out err more : List ℕ) → AreWritten w status out err more → Are status out err more
of_written Are w it status out err more are =
    let by_status : Are status (memory_bytes w.out) (memory_bytes w.err) (memory_bytes w.more) =
    subst (λ n. Are n (memory_bytes w.out) (memory_bytes w.err) (memory_bytes w.more)) (sym are.0) it in
    let by_out : Are status out (memory_bytes w.err) (memory_bytes w.more) =
    subst (λ t. Are status t (memory_bytes w.err) (memory_bytes w.more)) (sym are.1) by_status in
    let by_err : Are status out err (memory_bytes w.more) =
    subst (λ t. Are status out t (memory_bytes w.more)) (sym are.2) by_out in
    subst (λ t. Are status out err t) (sym are.3) by_err

-- the texts of a command that was done over the files
given : (it : HandedIn) (w : Written) → IsServedOver it (served.Done w)
    → (status : ℕ) (out err more : List ℕ) → AreWritten w status out err more → ServesGiven it status out err more
given it w over status out err more are =
    (over.0, over.1, of_written (ServesWords (texts_in it.words) it.asks over.0) w over.2 status out err more are)

-- texts that are handed out as these are handed out as those too
more_texts : (Are Those : ℕ → List ℕ → List ℕ → List ℕ → Type 0) (old new : List ℕ) (said : Said) (code : ℕ)
    → ((status : ℕ) (out err more : List ℕ) → Are status out err more → Those status out err more)
    → HandsOutTexts Are old new said code → HandsOutTexts Those old new said code
more_texts Are Those old new said code those texts_of = record {
  out = texts_of.out;
  err = texts_of.err;
  more = texts_of.more;
  are = those said.code texts_of.out texts_of.err texts_of.more texts_of.are;
  out_is = texts_of.out_is;
  err_is = texts_of.err_is;
  handed_out = texts_of.handed_out;
}

-- the texts of a command that was done, as they are handed out
pub given_texts : (it : HandedIn) (w : Written) (old new : List ℕ) (said : Said) (code : ℕ)
    → IsServedOver it (served.Done w) → HandsOutTexts (AreWritten w) old new said code
    → HandsOutTexts (ServesGiven it) old new said code
given_texts it w old new said code over = more_texts (AreWritten w) (ServesGiven it) old new said code (given it w over)

-- and those of words that are no order
pub misused_texts : (it : HandedIn) (w : Written) (old new : List ℕ) (said : Said) (code : ℕ)
    → IsServedOver it (served.Misused w) → HandsOutTexts (AreWritten w) old new said code
    → HandsOutTexts (IsMisuseOf (texts_in it.words)) old new said code
misused_texts it w old new said code over =
    let Are : ℕ → List ℕ → List ℕ → List ℕ → Type 0 = IsMisuseOf (texts_in it.words) in
    more_texts (AreWritten w) Are old new said code (of_written Are w over.2)

-- a file that is missed isn't handed in
not_handed : {Z : Type 0} (files : Handed) (number : ℕ) (path : Option (String Z)) (text : List ℕ)
    → option_map string_bytes path ≡ Some text → IfSome path (λ it. IsNotHandedAs files number (string_bytes it))
    → IsNotHandedAs files number text
not_handed files number (Some path) text is missing =
    let same : string_bytes path ≡ text = cc in subst (IsNotHandedAs files number) same missing
not_handed files number None text is missing = let no : ⊥ = cc in absurd no

-- the path of a file that is missed, over the files that are handed in, and the number of what it is for the command
missed_path : (it : HandedIn) (missed : Missed) (number : ℕ) (path : List ℕ) → IsServedOver it (served.Missing missed)
    → IsPathOf missed number path → MissesGiven it number path
missed_path it missed number path over is =
    let files = over.0 in
    let here : IsNotHandedAs files missed.role path = not_handed files missed.role missed.path path is.1 over.2.1 in
    (files, over.1, (over.2.0, subst (λ n. IsNotHandedAs files n path) (sym is.0) here))

-- the same, as it is handed out
pub given_path : (it : HandedIn) (missed : Missed) (old new : List ℕ) (said : Said) (code : ℕ)
    → IsServedOver it (served.Missing missed) → HandsOutPath (IsPathOf missed) old new said code
    → HandsOutPath (MissesGiven it) old new said code
given_path it missed old new said code over path =
    let out = path.handed_out in record {
      no_out = path.no_out;
      no_err = path.no_err;
      handed_out = record {
        text = out.text;
        is_one = missed_path it missed said.code out.text over out.is_one;
        size_of = out.size_of;
        status_of = out.status_of;
        room = out.room;
      };
    }
