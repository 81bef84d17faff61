use Rattle.geometry_model.specs.declared.validity_faults.ValidityFault.TheVariants.{RingNotClosed, HoleOutside, HolesNested, ElementInside}
use Rattle.witnesses.proofs.PlaceFacts.{shown}
use Rattle.witnesses.proofs.places.place_of.Goals as goal

pub returns-in-RingNotClosed-clause-applies : goal.returns-in-RingNotClosed-clause-applies
returns-in-RingNotClosed-clause-applies c = shown c.args.geometry.now c.args.fault (RingNotClosed c.in-RingNotClosed.ring) c.open_ring.result c.in-RingNotClosed.is c.open_ring.ensures.place

pub returns-in-HoleOutside-clause-applies : goal.returns-in-HoleOutside-clause-applies
returns-in-HoleOutside-clause-applies c = shown c.args.geometry.now c.args.fault (HoleOutside c.in-HoleOutside.hole) c.hole_outside.result c.in-HoleOutside.is c.hole_outside.ensures.place

pub returns-in-HolesNested-clause-applies : goal.returns-in-HolesNested-clause-applies
returns-in-HolesNested-clause-applies c = shown c.args.geometry.now c.args.fault (HolesNested c.in-HolesNested.hole c.in-HolesNested.later) c.nested_holes.result c.in-HolesNested.is c.nested_holes.ensures.place

pub returns-in-ElementInside-clause-applies : goal.returns-in-ElementInside-clause-applies
returns-in-ElementInside-clause-applies c = shown c.args.geometry.now c.args.fault (ElementInside c.in-ElementInside.element c.in-ElementInside.other) c.element_inside.result c.in-ElementInside.is c.element_inside.ensures.place
