use Rattle.std.proofs.Common.{[], ◌∷◌, subst}
use Rattle.prim_types.specs.arena_heap.declared.value.Value.TheVariants as values
use Rattle.mpy_base.specs.declared.kind.Kind.{Kind}
use Rattle.mpy_base.specs.Val.{Val}
use Rattle.prim_types.specs.py_values.Shown.{PlainHeap}
use Rattle.prim_types.specs.py_primitives.Faults.{fault_kind, fault_value}
use Rattle.prim_types.specs.py_primitives.Outcome.{Outcome, fault_argument, making_exception}
use Rattle.prim_types.specs.prim_walks.Plain.{plain, plain_heap}
use Rattle.prim_types.specs.prim_faults.declared.stop.Stop.TheVariants as stops
use Rattle.prim_types.specs.prim_faults.Faults.{plain_fault}
use Rattle.prim_types.specs.prim_faults.Outcomes.{IsOutcome}
use Rattle.prim_types.proofs.Followed.{followed, stopped}
use Rattle.prim_raising.specs.Makings.{as_value}
use Rattle.prim_raising.proofs.makings.make_fault.Goals as goal

pub returns-in-Ok : goal.returns-in-Ok
returns-in-Ok g c =
    let texts = g.C.Constants.text_of c.args.consts.now in
    let tuples = g.C.Constants.items_of c.args.consts.now in
    let h = c.args.arena.now in
    let heap = plain_heap texts tuples h in
    let fault = plain_fault texts tuples h c.args.fault in
    let mid = c.fault_argument.new.arena in
    let new = c.make_with_argument.new.arena in
    let result = as_value (λ x. values.Exc x) c.make_with_argument.result in
    let next : Val → PlainHeap → Outcome Val = λ v behind. making_exception behind (fault_kind fault) (v ∷ []) in
    followed texts tuples h mid (fault_argument heap fault (fault_value fault)) next new c.in-Ok.v result c.in-Ok.ensures
    (subst (λ (kind : Kind). IsOutcome texts tuples mid new result (making_exception (plain_heap texts tuples mid) kind (plain texts tuples c.in-Ok.v ∷ []))) (c.fault_kind.ensures texts tuples h) c.make_with_argument.ensures)

pub returns-in-Err : goal.returns-in-Err
returns-in-Err g c =
    let texts = g.C.Constants.text_of c.args.consts.now in
    let tuples = g.C.Constants.items_of c.args.consts.now in
    let h = c.args.arena.now in
    let fault = plain_fault texts tuples h c.args.fault in
    let next : Val → PlainHeap → Outcome Val = λ v behind. making_exception behind (fault_kind fault) (v ∷ []) in
    stopped texts tuples h c.fault_argument.new.arena (fault_argument (plain_heap texts tuples h) fault (fault_value fault)) next (stops.Full c.in-Err.room) c.in-Err.ensures
