-- What contracts see of the plain index.
use Rattle.std.specs.Prelude.{List, Option}
use Rattle.geometry_model.specs.Envelopes.{Envelope}
use Rattle.rtree.specs.declared.list_index.ListIndex.{ListIndex}

-- the envelopes of the list that it was built of
abbrev pub listed : ListIndex → List (Option Envelope)
listed index = index.envelopes.items
