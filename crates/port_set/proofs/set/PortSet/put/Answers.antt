use Rattle.std.proofs.Common.{rules, map, ap}
use Rattle.port_set.proofs.Counting.{put_rises, counts_are}
use Rattle.port_set.proofs.OneCall.{called_counts, called_one, kept_others, put_failed, put_here}
use Rattle.port_set.proofs.set.PortSet.put.Goals as goal

pub returns-in_err-put-clause-call : goal.returns-in_err-put-clause-call
returns-in_err-put-clause-call g c = λ within.
    called_one g.P.Port.seen _ _ c.args.i c.in_ok-port.port.now c.put.new.self _ c.self.view_is within (search rules)
    (put_failed _ _ _ c.put.result c.in_err-put.field-0.0 c.from_residual-in_err-put.result c.ranges.n c.in_err-put.was c.from_residual-in_err-put.ensures.0 c.put.ensures)

pub returns-in_err-put-clause-others : goal.returns-in_err-put-clause-others
returns-in_err-put-clause-others g c = λ k apart. kept_others _ _ c.args.i k c.put.new.self c.self.view_is apart

pub returns-clause-call : goal.returns-clause-call
returns-clause-call g c = λ within.
    called_one g.P.Port.seen _ _ c.args.i c.in_ok-port.port.now c.put.new.self _ c.self.view_is within (search rules) (put_here _ _ _ _ c.ranges.n c.in_ok-put.ensures)

pub returns-clause-others : goal.returns-clause-others
returns-clause-others g c = λ k apart. kept_others _ _ c.args.i k c.put.new.self c.self.view_is apart

pub returns-in_err-put-clause-faults : goal.returns-in_err-put-clause-faults
returns-in_err-put-clause-faults g c =
    called_counts g.P.Port.seen _ _ c.args.i c.in_ok-port.port.now c.put.new.self c.self.view_is (search rules) (put_rises _ _ _ _ c.put.ensures)

pub returns-clause-faults : goal.returns-clause-faults
returns-clause-faults g c =
    called_counts g.P.Port.seen _ _ c.args.i c.in_ok-port.port.now c.put.new.self c.self.view_is (search rules) (put_rises _ _ _ _ c.put.ensures)

pub returns-in_err-port-clause-faults : goal.returns-in_err-port-clause-faults
returns-in_err-port-clause-faults g c = counts_are _ _ (ap (map g.P.Port.seen) c.self.view_is)
