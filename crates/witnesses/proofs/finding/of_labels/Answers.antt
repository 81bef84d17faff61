use Rattle.witnesses.proofs.WitnessFacts.{all_first, all_good, all_shown, all_matrix}
use Rattle.witnesses.proofs.finding.of_labels.Goals as goal

pub returns-clause-matrix : goal.returns-clause-matrix
returns-clause-matrix c = all_matrix c.args.first.now c.args.second.now _
    (all_good c.args.first.now c.args.second.now c.args.found.now _ c.requires.labelled.first_closed
    c.requires.labelled.second_closed c.requires.labelled.exact
    c.find_witness.ensures.is c.find_witness-2.ensures.is c.find_witness-3.ensures.is c.find_witness-4.ensures.is
    c.find_witness-5.ensures.is c.find_witness-6.ensures.is c.find_witness-7.ensures.is c.find_witness-8.ensures.is
    c.find_exteriors.ensures.is)

pub returns-clause-shows : goal.returns-clause-shows
returns-clause-shows c = all_shown c.args.first.now c.args.second.now _
    (all_good c.args.first.now c.args.second.now c.args.found.now _ c.requires.labelled.first_closed
    c.requires.labelled.second_closed c.requires.labelled.exact
    c.find_witness.ensures.is c.find_witness-2.ensures.is c.find_witness-3.ensures.is c.find_witness-4.ensures.is
    c.find_witness-5.ensures.is c.find_witness-6.ensures.is c.find_witness-7.ensures.is c.find_witness-8.ensures.is
    c.find_exteriors.ensures.is)

pub returns-clause-first : goal.returns-clause-first
returns-clause-first c =
    all_first c.args.first.now c.args.second.now _ c.find_witness.ensures.first c.find_witness-2.ensures.first
    c.find_witness-3.ensures.first
    c.find_witness-4.ensures.first c.find_witness-5.ensures.first c.find_witness-6.ensures.first
    c.find_witness-7.ensures.first c.find_witness-8.ensures.first
    c.find_exteriors.ensures.first
