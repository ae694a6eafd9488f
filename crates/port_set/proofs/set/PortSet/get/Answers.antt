use Rattle.std.proofs.Common.{rules, map, ap}
use Rattle.port_set.proofs.Counting.{get_rises, counts_are}
use Rattle.port_set.proofs.OneCall.{called_counts, called_one, kept_others, get_failed, got}
use Rattle.port_set.proofs.set.PortSet.get.Goals as goal

pub returns-in_err-get-clause-call : goal.returns-in_err-get-clause-call
returns-in_err-get-clause-call g c = λ within.
    called_one g.P.Port.seen _ _ c.args.i c.in_ok-port.port.now c.get.new.self _ c.self.view_is within (search rules)
    (get_failed _ _ c.get.result c.in_err-get.field-0.0 c.from_residual-in_err-get.result c.in_err-get.was c.from_residual-in_err-get.ensures.0 c.get.ensures)

pub returns-in_err-get-clause-others : goal.returns-in_err-get-clause-others
returns-in_err-get-clause-others g c = λ k apart. kept_others _ _ c.args.i k c.get.new.self c.self.view_is apart

pub returns-clause-call : goal.returns-clause-call
returns-clause-call g c = λ within.
    called_one g.P.Port.seen _ _ c.args.i c.in_ok-port.port.now c.get.new.self _ c.self.view_is within (search rules)
    (got _ _ c.get.result _ c.in_ok-get.was c.get.ensures)

pub returns-clause-others : goal.returns-clause-others
returns-clause-others g c = λ k apart. kept_others _ _ c.args.i k c.get.new.self c.self.view_is apart

pub returns-in_err-get-clause-faults : goal.returns-in_err-get-clause-faults
returns-in_err-get-clause-faults g c =
    called_counts g.P.Port.seen _ _ c.args.i c.in_ok-port.port.now c.get.new.self c.self.view_is (search rules) (get_rises _ _ _ c.get.ensures)

pub returns-clause-faults : goal.returns-clause-faults
returns-clause-faults g c =
    called_counts g.P.Port.seen _ _ c.args.i c.in_ok-port.port.now c.get.new.self c.self.view_is (search rules) (get_rises _ _ _ c.get.ensures)

pub returns-in_err-port-clause-faults : goal.returns-in_err-port-clause-faults
returns-in_err-port-clause-faults g c = counts_are _ _ (ap (map g.P.Port.seen) c.self.view_is)
