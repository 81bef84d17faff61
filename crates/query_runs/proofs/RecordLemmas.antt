-- The fields of a record, and the records of rows that come one after another.
use Rattle.std.proofs.Common.{◌≡◌, ◌<◌, ◌≤◌, ◌+◌, ℕ, List, [], ◌∷◌, ◌++◌, Option, None, Result, OnErr, OnOk}
use Rattle.std.proofs.Common.{drop, get_or, length, map, take, refl, sym, ◌∙◌, ap, subst, append_assoc, append-nil}
use Rattle.std.specs.List.{concat}
use Rattle.std.specs.Io.KnownBytes.{Appends}
use Rattle.std.proofs.lemmas.List.{map-append, take-append-drop, take_all, take_more}
use Rattle.csv.specs.Writing.{default_writer, row_body, row_text}
use Rattle.executor.specs.Streams.{GivesNext, Stream, to_come}
use Rattle.executor.specs.declared.row_pairs.RowPair.{RowPair}
use Rattle.query_runs.specs.Puts.{PutsText}
use Rattle.streams.specs.RecordWriters.{CountsPut, Holds}
use Rattle.streams.specs.declared.put_fault.PutFault.{PutFault}
use Rattle.streams.specs.declared.record_writer.RecordWriter.{RecordWriter}
use Rattle.streams.specs.Sinks.{AppendsFront}
use Rattle.streams.proofs.SinkLemmas.{Appends-none, Appends-then, AppendsFront-more, AppendsFront-then}
use Rattle.streams.proofs.WriterLemmas.{body-front}
use Rattle.table_model.specs.RunOutcomes.{MatrixOf}

-- ---- fields

-- one field more, where these are the items
fields-more : {X : Type 0} (of : X → List ℕ) (these items : List X) (i : ℕ) (d : X) → these ≡ items → i < length these
    → map of (take i items) ++ of (get_or these i d) ∷ [] ≡ map of (take (i + 1) items)
fields-more of these items i d is within =
    ap (λ xs. map of (take i xs) ++ of (get_or these i d) ∷ []) (sym is)
    ∙ sym (ap (map of) (take_more these i d within) ∙ map-append of (take i these) (get_or these i d ∷ []))
    ∙ ap (λ xs. map of (take (i + 1) xs)) is

-- a record with one field more
pub fields-held : {X : Type 0} (of : X → List ℕ) (these items : List X) (i : ℕ) (d : X) (w : RecordWriter) (a b : Option (List ℕ))
    → these ≡ items → i < length these → Holds w (map of (take i items) ++ of (get_or these i d) ∷ []) a b
    → Holds w (map of (take (i + 1) items)) a b
fields-held of these items i d w a b is within held =
    subst (λ fields. Holds w fields a b) (fields-more of these items i d is within) held

-- a beginning of the text of the fields up to one is a beginning of the record's text
pub fields-front : {X : Type 0} (of : X → List ℕ) (these items : List X) (i : ℕ) (d : X) (a b : Option (List ℕ))
    → these ≡ items → i < length these
    → AppendsFront a b (row_body default_writer (map of (take i items) ++ of (get_or these i d) ∷ []))
    → AppendsFront a b (row_text default_writer (map of items))
fields-front of these items i d a b is within put =
    let whole : map of (take (i + 1) items) ++ map of (drop (i + 1) items) ≡ map of items =
    sym (map-append of (take (i + 1) items) (drop (i + 1) items)) ∙ ap (map of) (take-append-drop (i + 1) items) in
    subst (λ fields. AppendsFront a b (row_text default_writer fields)) whole
    (body-front (map of (take (i + 1) items)) (map of (drop (i + 1) items)) a b
    (subst (λ fields. AppendsFront a b (row_body default_writer fields)) (fields-more of these items i d is within) put))

-- the record that ends after all items
pub fields-ended : {A X : Type 0} (r : Result A PutFault) (of : X → List ℕ) (these items : List X) (i : ℕ) (a b : Option (List ℕ)) (n m k : ℕ)
    → these ≡ items → length these ≤ i → OnOk r (Appends a b (row_text default_writer (map of (take i items))))
    → OnErr r (AppendsFront a b (row_text default_writer (map of (take i items)))) → m ≡ n → CountsPut m k r
    → PutsText r (row_text default_writer (map of items)) a b n k
fields-ended r of these items i a b n m k is past ok err same counts =
    let all : take i items ≡ items = take_all i items (subst (λ xs. length xs ≤ i) is past) in record {
      whole = subst (λ xs. OnOk r (Appends a b (row_text default_writer (map of xs)))) all ok;
      front = subst (λ xs. OnErr r (AppendsFront a b (row_text default_writer (map of xs)))) all err;
      failures = subst (λ x. CountsPut x k r) same counts;
    }

-- ---- records

-- all of a text was put but the rest
abbrev pub PutBut : List ℕ → List ℕ → Option (List ℕ) → Option (List ℕ) → Type 0
PutBut rest text old new = (front : List ℕ) × (text ≡ front ++ rest) × Appends old new front

-- before anything was put
pub but-all : (text : List ℕ) (a : Option (List ℕ)) → PutBut text text a a
but-all text a = ([], refl, Appends-none a)

-- so a beginning of it was put
pub but-front : (rest text : List ℕ) (a b : Option (List ℕ)) → PutBut rest text a b → AppendsFront a b text
but-front rest text a b (front, split, put) = (front, rest, split, put)

-- the first part of the rest of a list's texts comes first, and then the others
parted : {X : Type 0} (of : X → List ℕ) (old new : List X) (x : X) (text front : List ℕ) → old ≡ x ∷ new → text ≡ front ++ concat (map of old)
    → text ≡ (front ++ of x) ++ concat (map of new)
parted of old new x text front is split =
    split ∙ ap (λ xs. front ++ concat (map of xs)) is ∙ sym (append_assoc front (of x) (concat (map of new)))

-- one part more
pub but-next : {X : Type 0} (of : X → List ℕ) (old new : List X) (x : X) (part text : List ℕ) (a b c : Option (List ℕ)) → old ≡ x ∷ new → part ≡ of x
    → PutBut (concat (map of old)) text a b → Appends b c part → PutBut (concat (map of new)) text a c
but-next of old new x part text a b c is same (front, split, put) after =
    (front ++ of x, parted of old new x text front is split, Appends-then a b c front (of x) put (subst (λ p. Appends b c p) same after))

-- a beginning of one part more
pub next-front : {X : Type 0} (of : X → List ℕ) (old new : List X) (x : X) (part text : List ℕ) (a b c : Option (List ℕ)) → old ≡ x ∷ new → part ≡ of x
    → PutBut (concat (map of old)) text a b → AppendsFront b c part → AppendsFront a c text
next-front of old new x part text a b c is same (front, split, put) after =
    subst (λ t. AppendsFront a c t) (sym (parted of old new x text front is split))
    (AppendsFront-more a c (front ++ of x) (concat (map of new)) (AppendsFront-then a b c front (of x) put (subst (λ p. AppendsFront b c p) same after)))

-- where nothing is left all was put
pub but-none : {X : Type 0} (of : X → List ℕ) (old : List X) (text : List ℕ) (a b : Option (List ℕ)) → old ≡ [] → PutBut (concat (map of old)) text a b → Appends a b text
but-none of old text a b is (front, split, put) =
    subst (λ t. Appends a b t) (sym (split ∙ ap (λ xs. front ++ concat (map of xs)) is ∙ append-nil front)) put

-- where a stream gives no row, none is to come
pub none_left : {E : Type 0} (matrix : MatrixOf) (old new : Stream) (result : Option (Result RowPair E)) → result ≡ None → GivesNext matrix old result new → to_come matrix old ≡ []
none_left matrix old new result is gives = (subst (λ r. GivesNext matrix old r new) is gives).0
