use Rattle.std.proofs.Common.{◌≡◌, ◌<◌, Some, length, drop, get_or, ap, subst, ◌∙◌, arith, rules}
use Rattle.std.specs.Prelude.{slice_get, option_copied}
use Rattle.bc_library.specs.bc_flow.Action.{action}
use Rattle.bc_library.specs.bc_shapes.Views.{at_of}
use Rattle.snap_states.specs.Frames.{assigned}
use Rattle.snap_states.specs.States.{Waits}
use Rattle.snap_states.specs.Stacks.{stack_as, jumps_lead_on}
use Rattle.snap_states.proofs.Framing.{get_there, stack_decides}
use Rattle.snap_states.proofs.frames.has_stack.Goals as goal

pub returns-in-Some-2 : goal.returns-in-Some-2
returns-in-Some-2 c =
    let l = c.args.known.now.library.now in
    let s = c.args.known.now.snapshot.now in
    let above = option_copied c.args.above in
    let items = c.args.shapes.now.code.items.items in
    let offsets = c.args.shapes.now.offsets.items in
    let a = assigned c.args.shapes.now in
    let shape = at_of c.args.shape.now in
    let position = c.args.position in
    let item = c.index-item.result.now in
    let taken = c.in-Some.taken in
    let lt : position < length items = omega (arith, c.len.ensures) in
    let read : item ≡ get_or items position item = search rules in
    let item_is : slice_get items position ≡ Some item = get_there items position item lt read in
    let many : c.len-2.result ≡ length items = search rules in
    let waits = subst (λ n. Waits above item (action n item) taken) many c.in-Some.ensures.some in
    let low = rw c.in-Some-2.is at c.in_ok-stack_of-in-Some.ensures.some in
    let kinds : c.behind-kinds.result.now ≡ drop taken shape.slots = c.behind-kinds.ensures ∙ ap (drop taken) c.deref.ensures.value in
    let leads : c.jumps_lead_on.result ≡ jumps_lead_on a shape.entries (stack_as c.in-Some-2.stack.items) =
    cc (c.jumps_lead_on.ensures, c.deref-in-Some-2.ensures.value, c.deref-in-Some-2-2.ensures.value, c.deref-in-Some-2-3.ensures.value) in
    stack_decides l s above c.args.f.now items offsets a position shape item item_is taken waits c.as_slice.result.now c.behind-kinds.result.now c.deref-in-Some.result.now (stack_as c.in-Some-2.stack.items) c.jumps_lead_on.result
    c.deref-in-Some.ensures.value c.as_slice.ensures kinds low leads
