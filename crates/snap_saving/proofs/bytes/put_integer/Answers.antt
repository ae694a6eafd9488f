use Rattle.std.proofs.Common.{List, ℕ, ◌++◌, ◌∙◌, ap}
use Rattle.bc_ops.specs.Signed.{signed}
use Rattle.snap_saving.proofs.Adding.{ok_moved}
use Rattle.snap_saving.proofs.Leaves.{in_range, no_integer, passed, small_integer, too_high, too_low}
use Rattle.snap_saving.proofs.bytes.put_integer.Goals as goal
use Rattle.snap_saving.proofs.bytes.put_integer.Goals.{then-z-lt-LEAST-via-then-z-lt-LEAST, then-z-lt-LEAST-via-else-z-lt-LEAST+then-z-gt-GREATEST}

pub returns-then-z-lt-LEAST : goal.returns-then-z-lt-LEAST
returns-then-z-lt-LEAST c =
    let none = no_integer c.args.z (elim c.then-z-lt-LEAST.branch [
      | then-z-lt-LEAST-via-then-z-lt-LEAST w ↦ too_low c.args.z c.ranges.z w.if-z-lt-LEAST.true
      | then-z-lt-LEAST-via-else-z-lt-LEAST+then-z-gt-GREATEST w ↦ too_high c.args.z c.ranges.z w.if-z-gt-GREATEST.true
    ]) in
    ok_moved c.put_overlong.result c.put_overlong.new.out.items _ _ (ap (λ (z : List ℕ). c.args.out.now.items ++ z) none) c.put_overlong.ensures

pub returns : goal.returns
returns c =
    let small = ap signed (passed c.args.z c.ranges.z) ∙ small_integer c.args.z (in_range c.args.z c.ranges.z c.if-z-lt-LEAST.false c.if-z-gt-GREATEST.false) in
    ok_moved c.write_signed.result c.write_signed.new.out.items _ _ (ap (λ (z : List ℕ). c.args.out.now.items ++ z) small) c.write_signed.ensures.ok
