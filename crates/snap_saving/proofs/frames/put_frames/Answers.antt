use Rattle.std.proofs.Common.{◌≡◌, ◌+◌, ◌++◌, Err, reverse, arith}
use Rattle.std.proofs.lemmas.List.{length-reverse}
use Rattle.std.proofs.lemmas.Result.{err_from_is_err_and}
use Rattle.snap_saving.specs.Saved.{IsLong}
use Rattle.snap_saving.specs.Steps.{call_bytes, found}
use Rattle.snap_saving.proofs.Adding.{ended, exit, part_long, stepped, too_long}
use Rattle.snap_saving.proofs.frames.put_frames.Goals as goal

pub frame-requires : goal.frame-requires
frame-requires c = omega (arith, c.loop-i-test.true, c.depth-i-end.ensures)

pub returns-in_err-put_frame-clause-fault : goal.returns-in_err-put_frame-clause-fault
returns-in_err-put_frame-clause-fault c =
    let p = err_from_is_err_and c.from_residual.result c.from_residual.ensures.1 in
    let same : c.from_residual.result ≡ Err c.in_err-put_frame.field-0.0 = cc (p.1, p.2) in
    exit (IsLong (c.loop-i.out.items ++ call_bytes c.args.library.now (found c.args.places.now) c.frame.result.now.call)) _ c.from_residual.result c.in_err-put_frame.field-0.0 same c.in_err-put_frame.ensures.fault
    (part_long (call_bytes c.args.library.now (found c.args.places.now)) (reverse c.args.frames.now.calls) c.loop-i.i c.frame.result.now.call c.loop-i.out.items _ c.frame.ensures c.loop-i.invariant)

pub returns-then-is_long-clause-fault : goal.returns-then-is_long-clause-fault
returns-then-is_long-clause-fault c =
    let f = call_bytes c.args.library.now (found c.args.places.now) in
    let xs = reverse c.args.frames.now.calls in
    let next = stepped f xs c.loop-i.i c.frame.result.now.call c.loop-i.out.items c.put_frame.new.out.items _ c.frame.ensures c.in_ok-put_frame.ensures.ok c.loop-i.invariant in
    too_long f xs (c.loop-i.i + 1) c.put_frame.new.out.items _ next c.if-is_long.ensures.yes

pub loop-i-preserved : goal.loop-i-preserved
loop-i-preserved c =
    stepped (call_bytes c.args.library.now (found c.args.places.now)) (reverse c.args.frames.now.calls) c.loop-i.i c.frame.result.now.call c.loop-i.out.items c.put_frame.new.out.items _ c.frame.ensures c.in_ok-put_frame.ensures.ok c.loop-i.invariant

pub returns-clause-ok : goal.returns-clause-ok
returns-clause-ok c =
    let turned = length-reverse c.args.frames.now.calls in
    ended (call_bytes c.args.library.now (found c.args.places.now)) (reverse c.args.frames.now.calls) c.loop-i.i c.loop-i.out.items _ (omega (arith, c.loop-i-test.false, c.depth-i-end.ensures, turned)) c.loop-i.invariant
