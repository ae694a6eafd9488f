use Rattle.snap_laws.proofs.Framing.{is_framed, is_waiting, marks_at, on_top}
use Rattle.std.proofs.Common.{length}
use Rattle.snap_laws.proofs.flow.frames_law.Goals as goal

pub returns-clause-stands : goal.returns-clause-stands
returns-clause-stands c code a b p x st least holds is stands jumps = is_framed code a b least holds p x st is stands jumps

pub returns-clause-waits : goal.returns-clause-waits
returns-clause-waits c code a b p x st wants gives own least holds is action stands jumps =
    let r = is_waiting code a b own least holds p x wants gives st is action stands jumps in
    (on_top (length wants) x.slots st, r.1, r.0)

pub returns-clause-marks : goal.returns-clause-marks
returns-clause-marks c code a b p x least holds is = marks_at code a b least holds p x is
