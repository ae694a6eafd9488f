use Rattle.snap_states.proofs.Ordering.{stand_orderly}
use Rattle.snap_states.proofs.Shaping.{shapes_once, kinds_stand, stand_kinds}
use Rattle.snap_states.proofs.shapes.kinds_at.Goals as goal

pub kinds_in-requires : goal.kinds_in-requires
kinds_in-requires c = shapes_once c.args.library.now c.args.module_number c.args.code c.in-Some.shapes (rw c.in-Some.is at c.in_ok-shapes_of.ensures.some)

pub returns-in-None-2-clause-none : goal.returns-in-None-2-clause-none
returns-in-None-2-clause-none c =
    let are = rw c.in-Some.is at c.in_ok-shapes_of.ensures.some in
    let none = rw c.in-None-2.is at c.in_ok-kinds_in-in-Some.ensures.none in
    λ s. none s.shape.slots (stand_kinds c.args.library.now c.args.module_number c.args.code c.args.at c.in-Some.shapes are s)

pub returns-clause-some : goal.returns-clause-some
returns-clause-some c =
    let are = rw c.in-Some.is at c.in_ok-shapes_of.ensures.some in
    let some = rw c.in-Some-2.is at c.in_ok-kinds_in-in-Some.ensures.some in
    kinds_stand c.args.library.now c.args.module_number c.args.code c.args.at c.in-Some.shapes c.in-Some-2.kinds.items are some

pub returns-clause-orderly : goal.returns-clause-orderly
returns-clause-orderly c =
    let are = rw c.in-Some.is at c.in_ok-shapes_of.ensures.some in
    λ s. stand_orderly c.frames_law.ensures.stands c.args.library.now c.args.module_number c.args.code c.args.at c.in-Some.shapes are s
