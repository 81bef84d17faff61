use Rattle.std.proofs.Common.{◌≡◌, ◌<◌, ◌∙◌, sym, ap, subst, List, length, get_or, false, Option}
use Rattle.std.specs.Prelude.{is_some}
use Rattle.std.specs.List.{list_any}
use Rattle.geometry_model.specs.Labels.{SideLabels, side_labels, is_side_pair}
use Rattle.noding.specs.Nodings.{piece_of}
use Rattle.witnesses.specs.FirstWitnesses.{IsFirstOn}
use Rattle.witnesses.specs.Shown.{HasPairOn}
use Rattle.witnesses.proofs.PlaceFacts.{if_none}
use Rattle.witnesses.proofs.WitnessFacts.{side_number, position_none, found_at, found_within, AtPiece, at_piece, of_sides_within, not_upright, face_of_pair}
use Rattle.witnesses.proofs.finding.find_face.Goals as goal
use Rattle.witnesses.proofs.finding.find_face.Goals.{After-index-pieces-place}

pub returns-in_err-place-clause-exact : goal.returns-in_err-place-clause-exact
returns-in_err-place-clause-exact c = ap is_some c.from_residual.ensures
    ∙ sym (subst (λ (xs : List (Option SideLabels)). list_any (is_side_pair c.args.l c.args.k) xs ≡ false) c.sides.ensures (position_none (is_side_pair c.args.l c.args.k) c.sides.result.now (sym c.find_sides.ensures ∙ c.in_err-place.was)))

pub side_of-side-requires : goal.side_of-side-requires
side_of-side-requires c = found_at (is_side_pair c.args.l c.args.k) c.sides.result.now c.sides-2.result.now c.in_ok-place.place c.index-sides-place.result (c.sides.ensures ∙ sym c.sides-2.ensures) (sym c.find_sides.ensures ∙ c.in_ok-place.was) c.index-sides-place.is

-- the piece at the place found
at : (c : After-index-pieces-place) → AtPiece c.args.first.now c.args.second.now c.index-pieces-place.result c.in_ok-place.place c.args.found.now
at c = at_piece c.args.first.now c.args.second.now c.args.noded.now.nodes c.args.noded.now.pieces c.args.found.now c.pieces.result.now c.index-pieces-place.result c.in_ok-place.place c.requires c.pieces.ensures
    (of_sides_within c.args.first.now c.args.second.now c.args.noded.now.nodes c.args.noded.now.pieces c.args.found.now c.in_ok-place.place c.requires
    (subst (λ (xs : List (Option SideLabels)). c.in_ok-place.place < length xs) c.sides.ensures (found_within (is_side_pair c.args.l c.args.k) c.sides.result.now c.in_ok-place.place c.index-sides-place.result (sym c.find_sides.ensures ∙ c.in_ok-place.was)))) c.index-pieces-place.is

-- its sides' labels, on the side found
pair : (c : After-index-pieces-place) → HasPairOn c.args.l c.args.k (side_labels c.args.first.now c.args.second.now (piece_of c.index-pieces-place.result)) c.side_of-side.result
unfolding at
pair c = subst (λ (o : Option SideLabels). HasPairOn c.args.l c.args.k o c.side_of-side.result)
    ((at c).sides c.index-sides-place.result (c.index-sides-place.is ∙ ap
    (λ (zs : List (Option SideLabels)). get_or zs c.in_ok-place.place c.index-sides-place.result) c.sides-2.ensures))
    c.side_of-side.ensures.on

pub beside-requires-clause-piece : goal.beside-requires-clause-piece
beside-requires-clause-piece c = (at c).is_piece

pub beside-requires-clause-triples : goal.beside-requires-clause-triples
beside-requires-clause-triples c = (at c).triples

pub beside-requires-clause-not_upright : goal.beside-requires-clause-not_upright
beside-requires-clause-not_upright c = not_upright c.args.first.now c.args.second.now (piece_of c.index-pieces-place.result) c.args.l c.args.k c.side_of-side.result (pair c)

pub returns-clause-shows : goal.returns-clause-shows
returns-clause-shows c = face_of_pair c.args.first.now c.args.second.now (piece_of c.index-pieces-place.result) c.args.l
    c.args.k c.side_of-side.result c.beside.result (pair ((goal.at.returns-clause-shows c).After-index-pieces-place))
    c.beside.ensures.beside

pub returns-clause-first : goal.returns-clause-first
unfolding at
returns-clause-first c =
    let there = at ((goal.at.returns-clause-first c).After-index-pieces-place) in record {
      n = c.in_ok-place.place;
      piece = piece_of c.index-pieces-place.result;
      side = c.side_of-side.result;
      first = side_number c.args.first.now c.args.second.now c.args.noded.now.nodes c.args.noded.now.pieces c.args.found.now
          c.args.l c.args.k c.sides.result.now
          c.requires c.sides.ensures ∙ sym c.find_sides.ensures ∙ c.in_ok-place.was;
      there = there.there;
      side_first = subst (λ (o : Option SideLabels). IsFirstOn c.args.l c.args.k o c.side_of-side.result)
          (there.sides c.index-sides-place.result
          (c.index-sides-place.is ∙ ap (λ (zs : List (Option SideLabels)). get_or zs c.in_ok-place.place
          c.index-sides-place.result) c.sides-2.ensures))
          c.side_of-side.ensures.first;
      beside = c.beside.ensures.seen;
    }

pub returns-in_err-place-clause-none : goal.returns-in_err-place-clause-none
returns-in_err-place-clause-none c =
    if_none c.from_residual.result _
    (side_number c.args.first.now c.args.second.now c.args.noded.now.nodes c.args.noded.now.pieces c.args.found.now c.args.l
    c.args.k c.sides.result.now
    c.requires c.sides.ensures ∙ sym c.find_sides.ensures ∙ c.in_err-place.was)
