use Rattle.std.proofs.Common.{[]}
use Rattle.meant_commands.specs.run_commands.Run.{room_of}
use Rattle.mpy_tool.specs.Call.{call_of}
use Rattle.mpy_tool.proofs.Stressing.{stress_unsaved}
use Rattle.mpy_tool.proofs.top.make.Goals as goal

pub returns-clause-ended : goal.returns-clause-ended
returns-clause-ended g c = c.stress.ensures.ended (g.F.Folder.count c.args.outside.now.folder) (g.F.Folder.files c.args.outside.now.folder)

pub returns-clause-handed_on : goal.returns-clause-handed_on
returns-clause-handed_on g c = λ s.
    let call = call_of g.F.Folder g.S.Sink g.P.Port g.E.Sink [] c.args.outside.now (record c.args.outside.now { out = c.stress.new.out; say = c.stress.new.say; ports = c.stress.new.ports }) c.stress.result in
    absurd (stress_unsaved c.args.order.seed c.args.order.count (room_of c.args.order) c.args.order.steps call.old call.new call.ports_old call.ports_new c.stress.result
    (c.stress.ensures.ended (g.F.Folder.count c.args.outside.now.folder) (g.F.Folder.files c.args.outside.now.folder)) s)
