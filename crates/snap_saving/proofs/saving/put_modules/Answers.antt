use Rattle.std.proofs.Common.{ℕ, ◌++◌, ◌∙◌, ap, arith}
use Rattle.snap_saving.specs.Put.{number}
use Rattle.snap_saving.specs.Steps.{found, registered_bytes}
use Rattle.snap_saving.proofs.Adding.{added_more, ended}
use Rattle.snap_saving.proofs.saving.put_modules.Goals as goal

pub loop-entry-preserved : goal.loop-entry-preserved
loop-entry-preserved c =
    added_more (registered_bytes (found c.args.places.now)) c.args.modules.now c.loop-entry.entry-index _ c.loop-entry.out.items c.put_number.new.out.items _ c.loop-entry-test.true
    (c.in_ok-put_number.ensures ∙ ap (λ (n : ℕ). c.loop-entry.out.items ++ number n) c.place.ensures) c.loop-entry.invariant

pub returns : goal.returns
returns c = ended (registered_bytes (found c.args.places.now)) c.args.modules.now c.loop-entry.entry-index c.loop-entry.out.items _ (omega (arith, c.loop-entry-test.false)) c.loop-entry.invariant
