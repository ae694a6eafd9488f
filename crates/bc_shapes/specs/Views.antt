-- What the code's values are as the definitions'.
use Rattle.std.specs.Prelude.{List}
use Rattle.bc_shapes.specs.declared.kinds.Kind.{Kind}
use Rattle.bc_shapes.specs.declared.kinds.Want.{Want}
use Rattle.bc_shapes.specs.declared.kinds.Give.{Give}
use Rattle.bc_shapes.specs.declared.kinds.Takes.{Takes}
use Rattle.bc_shapes.specs.declared.kinds.Gives.{Gives}
use Rattle.bc_shapes.specs.declared.shape.Shape.{Shape}
use Rattle.bc_shapes.specs.declared.slots.Slots.{Slots}
use Rattle.bc_shapes.specs.Shape.{At, takes, gives, after}

-- the slots that are taken, the topmost first
abbrev pub takes_of : Takes → List Want
takes_of t = takes t.values t.others.now

-- the slots that are given, the topmost first
abbrev pub gives_of : Gives → List Give
gives_of g = gives g.values g.others.now

-- what holds of a position
abbrev pub at_of : Shape → At
at_of s = record { slots = s.slots.items; entries = s.entries.items }

-- the slots that arrive
abbrev pub slots_of_rust : Slots → List Kind
slots_of_rust s = after (gives_of s.gives) s.taken s.found.now
