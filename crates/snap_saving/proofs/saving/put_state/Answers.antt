use Rattle.std.proofs.Common.{◌≡◌, ◌++◌, ◌∙◌, Err, subst}
use Rattle.std.proofs.lemmas.Result.{err_from_is_err_and}
use Rattle.snap_saving.specs.Saved.{IsLong}
use Rattle.snap_saving.specs.Steps.{found, heap_bytes}
use Rattle.snap_saving.proofs.Adding.{exit, long_moved, ok_moved}
use Rattle.snap_saving.proofs.Whole.{heap_long, placed, state_added}
use Rattle.snap_saving.proofs.saving.put_state.Goals as goal

pub returns-in_err-put_heap-clause-fault : goal.returns-in_err-put_heap-clause-fault
returns-in_err-put_heap-clause-fault c =
    let p = err_from_is_err_and c.from_residual-in_err-put_heap.result c.from_residual-in_err-put_heap.ensures.1 in
    let same = placed c.args.library.now (found c.args.places.now) c.args.arena.now c.args.modules.now c.args.frames.now.calls c.args.paid c.args.places.now c.requires c.args.out.now.items in
    let is : c.from_residual-in_err-put_heap.result ≡ Err c.in_err-put_heap.field-0.0 = cc (p.1, p.2) in
    exit (IsLong (c.put_head.new.out.items ++ heap_bytes c.args.library.now (found c.args.places.now) c.args.arena.now)) _ c.from_residual-in_err-put_heap.result c.in_err-put_heap.field-0.0 is c.in_err-put_heap.ensures.fault
    (λ long. subst IsLong same (heap_long c.args.library.now (found c.args.places.now) c.args.arena.now c.args.modules.now c.args.frames.now.calls c.args.paid c.args.out.now.items c.put_head.new.out.items c.in_ok-put_head.ensures long))

pub returns-clause-ok : goal.returns-clause-ok
returns-clause-ok c =
    let same = placed c.args.library.now (found c.args.places.now) c.args.arena.now c.args.modules.now c.args.frames.now.calls c.args.paid c.args.places.now c.requires c.args.out.now.items in
    let e = state_added c.args.library.now (found c.args.places.now) c.args.arena.now c.args.modules.now c.args.frames.now.calls c.args.paid c.args.out.now.items c.put_head.new.out.items c.put_heap.new.out.items c.put_registry.new.out.items
    c.in_ok-put_head.ensures c.in_ok-put_heap.ensures.ok c.in_ok-put_registry.ensures in
    ok_moved c.put_calls.result c.put_calls.new.out.items _ _ (e ∙ same) c.put_calls.ensures.ok

pub returns-clause-fault : goal.returns-clause-fault
returns-clause-fault c =
    let same = placed c.args.library.now (found c.args.places.now) c.args.arena.now c.args.modules.now c.args.frames.now.calls c.args.paid c.args.places.now c.requires c.args.out.now.items in
    let e = state_added c.args.library.now (found c.args.places.now) c.args.arena.now c.args.modules.now c.args.frames.now.calls c.args.paid c.args.out.now.items c.put_head.new.out.items c.put_heap.new.out.items c.put_registry.new.out.items
    c.in_ok-put_head.ensures c.in_ok-put_heap.ensures.ok c.in_ok-put_registry.ensures in
    long_moved c.put_calls.result _ _ (e ∙ same) c.put_calls.ensures.fault
