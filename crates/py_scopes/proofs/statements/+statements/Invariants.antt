use Rattle.std.proofs.Common.{◌≡◌, ◌++◌, drop, map}
use Rattle.py_scopes.specs.Events.{body, stmt_events, branch_events, handler_events}
use Rattle.py_scopes.proofs.statements.+statements.Given as goal

abbrev pub invariant-statements-loop-stmt : goal.invariant-statements-loop-stmt
invariant-statements-loop-stmt l =
    l.events.items ++ body l.looped (map stmt_events (drop l.stmt-index l.stmts)) ≡ l.fn.events.items ++ body l.looped (map stmt_events l.stmts)

abbrev pub invariant-branch_bodies-loop-branch : goal.invariant-branch_bodies-loop-branch
invariant-branch_bodies-loop-branch l =
    l.events.items ++ body l.looped (map branch_events (drop l.branch-index l.branches)) ≡ l.fn.events.items ++ body l.looped (map branch_events l.branches)

abbrev pub invariant-handler_bodies-loop-handler : goal.invariant-handler_bodies-loop-handler
invariant-handler_bodies-loop-handler l =
    l.events.items ++ body l.looped (map handler_events (drop l.handler-index l.handlers)) ≡ l.fn.events.items ++ body l.looped (map handler_events l.handlers)
