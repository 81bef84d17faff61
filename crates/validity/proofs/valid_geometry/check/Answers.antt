use Rattle.validity.proofs.Faults.{no_fault_valid}
use Rattle.validity.proofs.Kept.{brings}
use Rattle.validity.proofs.PolygonPromises.{holes_are_cut_out, holes_are_inside, interior_by_elements, elements_are_apart, stretches_stay, outside_exterior, rings_part_there, rings_have_sides}
use Rattle.validity.proofs.valid_geometry.check.Goals as goal

pub returns-in_ok-of_point-in-Point-clause-stretches : goal.returns-in_ok-of_point-in-Point-clause-stretches
returns-in_ok-of_point-in-Point-clause-stretches c = stretches_stay c.args.geometry (no_fault_valid c.args.geometry c.in_ok-of_point-in-Point.ensures.faultless)

pub returns-in_ok-of_point-in-Point-clause-outside : goal.returns-in_ok-of_point-in-Point-clause-outside
returns-in_ok-of_point-in-Point-clause-outside c = outside_exterior c.args.geometry (no_fault_valid c.args.geometry c.in_ok-of_point-in-Point.ensures.faultless)

pub returns-in_default : goal.returns-in_default
returns-in_default c =
    let geometry = c.args.geometry in
    let found = c.of_larger.result in
    let none = c.of_larger.ensures.faultless in
    record {
      same = c.of_larger.ensures.same;
      valid = brings found none (no_fault_valid geometry);
      faultless = none;
      holes = brings found none (λ n. holes_are_cut_out geometry (no_fault_valid geometry n));
      nested = brings found none (λ n. holes_are_inside geometry (no_fault_valid geometry n));
      elements = brings found none (λ n. interior_by_elements geometry (no_fault_valid geometry n));
      apart = brings found none (λ n. elements_are_apart geometry (no_fault_valid geometry n));
      stretches = brings found none (λ n. stretches_stay geometry (no_fault_valid geometry n));
      outside = brings found none (λ n. outside_exterior geometry (no_fault_valid geometry n));
      parted = brings found none (λ n. rings_part_there geometry (no_fault_valid geometry n));
      sides = brings found none (λ n. rings_have_sides geometry (no_fault_valid geometry n));
      fault = c.of_larger.ensures.fault;
      applies = c.of_larger.ensures.applies;
      first = c.of_larger.ensures.first;
    }
