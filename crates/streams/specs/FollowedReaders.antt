-- What a followed reader shows.
use Rattle.streams.specs.declared.followed_readers.Followed.{Followed}

-- the reader beneath
abbrev pub reader_under : {R O : Type 0} → Followed R O → R
reader_under f = f.reader
