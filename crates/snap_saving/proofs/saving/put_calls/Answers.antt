use Rattle.std.proofs.Common.{ℕ, ◌++◌, ◌∙◌, ap, length, reverse}
use Rattle.std.specs.List.{flat_map}
use Rattle.snap_saving.specs.Put.{number}
use Rattle.snap_saving.specs.Steps.{call_bytes, found}
use Rattle.snap_saving.proofs.Adding.{joined2, long_moved, ok_moved}
use Rattle.snap_saving.proofs.saving.put_calls.Goals as goal

pub returns-clause-ok : goal.returns-clause-ok
returns-clause-ok c =
    let items = flat_map (call_bytes c.args.library.now (found c.args.places.now)) (reverse c.args.frames.now.calls) in
    let e = joined2 c.args.out.now.items c.put_number.new.out.items (number (length c.args.frames.now.calls)) items (c.in_ok-put_number.ensures ∙ ap (λ (n : ℕ). c.args.out.now.items ++ number n) c.depth.ensures) in
    ok_moved c.put_frames.result c.put_frames.new.out.items _ _ e c.put_frames.ensures.ok

pub returns-clause-fault : goal.returns-clause-fault
returns-clause-fault c =
    let items = flat_map (call_bytes c.args.library.now (found c.args.places.now)) (reverse c.args.frames.now.calls) in
    let e = joined2 c.args.out.now.items c.put_number.new.out.items (number (length c.args.frames.now.calls)) items (c.in_ok-put_number.ensures ∙ ap (λ (n : ℕ). c.args.out.now.items ++ number n) c.depth.ensures) in
    long_moved c.put_frames.result _ _ e c.put_frames.ensures.fault
