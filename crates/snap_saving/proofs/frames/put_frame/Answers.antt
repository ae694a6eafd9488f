use Rattle.std.proofs.Common.{◌≡◌, ◌++◌, Err}
use Rattle.std.proofs.lemmas.Result.{err_from_is_err_and}
use Rattle.snap_saving.specs.Saved.{IsLong}
use Rattle.snap_saving.specs.Steps.{found, locals_bytes, slots_bytes}
use Rattle.snap_saving.proofs.Adding.{exit}
use Rattle.snap_saving.proofs.Whole.{frame_added, locals_long, slots_long}
use Rattle.snap_saving.proofs.frames.put_frame.Goals as goal

pub returns-in_err-put_all_locals-clause-fault : goal.returns-in_err-put_all_locals-clause-fault
returns-in_err-put_all_locals-clause-fault c =
    let p = err_from_is_err_and c.from_residual-in_err-put_all_locals.result c.from_residual-in_err-put_all_locals.ensures.1 in
    let same : c.from_residual-in_err-put_all_locals.result ≡ Err c.in_err-put_all_locals.field-0.0 = cc (p.1, p.2) in
    exit (IsLong (c.put_running.new.out.items ++ locals_bytes c.args.library.now (found c.args.places.now) c.locals.result.now)) _ c.from_residual-in_err-put_all_locals.result c.in_err-put_all_locals.field-0.0 same c.in_err-put_all_locals.ensures.fault
    (λ long. locals_long c.args.library.now (found c.args.places.now) c.args.frame.now.call c.args.out.now.items c.put_running.new.out.items c.in_ok-put_running.ensures
    (rw c.locals.ensures.are at long))

pub returns-in_err-put_all_slots-clause-fault : goal.returns-in_err-put_all_slots-clause-fault
returns-in_err-put_all_slots-clause-fault c =
    let p = err_from_is_err_and c.from_residual-in_err-put_all_slots.result c.from_residual-in_err-put_all_slots.ensures.1 in
    let same : c.from_residual-in_err-put_all_slots.result ≡ Err c.in_err-put_all_slots.field-0.0 = cc (p.1, p.2) in
    exit (IsLong (c.put_all_locals.new.out.items ++ slots_bytes c.args.library.now (found c.args.places.now) c.slots.result.now)) _ c.from_residual-in_err-put_all_slots.result c.in_err-put_all_slots.field-0.0 same c.in_err-put_all_slots.ensures.fault
    (λ long. slots_long c.args.library.now (found c.args.places.now) c.args.frame.now.call c.args.out.now.items c.put_running.new.out.items c.put_all_locals.new.out.items c.in_ok-put_running.ensures
    (rw c.locals.ensures.are at c.in_ok-put_all_locals.ensures.ok) (rw c.slots.ensures.are at long))

pub returns-clause-ok : goal.returns-clause-ok
returns-clause-ok c =
    frame_added c.args.library.now (found c.args.places.now) c.args.frame.now.call c.args.out.now.items c.put_running.new.out.items c.put_all_locals.new.out.items c.put_all_slots.new.out.items c.put_all_entries.new.out.items
    c.in_ok-put_running.ensures (rw c.locals.ensures.are at c.in_ok-put_all_locals.ensures.ok) (rw c.slots.ensures.are at c.in_ok-put_all_slots.ensures.ok)
    (rw (c.entries.ensures.are, c.at.ensures) at c.in_ok-put_all_entries.ensures)
