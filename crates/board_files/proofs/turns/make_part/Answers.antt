use Rattle.std.proofs.Common.{ap}
use Rattle.mpy_io.specs.Memory.{SinkState}
use Rattle.board_files.proofs.Holding.{went_so, over_so}
use Rattle.board_files.proofs.Stopping.{starved_stops, went_stops}
use Rattle.board_files.proofs.turns.make_part.Goals as goal

pub returns-in-Went-clause-goes : goal.returns-in-Went-clause-goes
returns-in-Went-clause-goes g c =
    went_so c.stands_law.ensures.turn c.args.library.now c.args.task c.args.steps c.args.board.now c.turn.new.self c.new-out.result.bytes c.turn.new.out.bytes c.bytes.result.now
    (ap (λ (s : SinkState). s.bytes) c.new-out.ensures) c.bytes.ensures c.in-Went.ensures.turns c.requires.few (g.F.Folder.files c.args.folder.now) (g.F.Folder.files c.append_output.new.folder)
    c.append_output.result c.append_output.ensures.appended

pub returns-in-Over-clause-goes : goal.returns-in-Over-clause-goes
returns-in-Over-clause-goes g c =
    over_so c.stands_law.ensures.turn c.args.library.now c.args.task c.args.steps c.args.board.now c.turn.new.self c.new-out.result.bytes c.turn.new.out.bytes
    (ap (λ (s : SinkState). s.bytes) c.new-out.ensures) c.in-Over.ensures.turns c.requires.few (g.F.Folder.files c.args.folder.now)

pub returns-in-Went-clause-stopped : goal.returns-in-Went-clause-stopped
returns-in-Went-clause-stopped g c =
    went_stops c.stands_law.ensures.turn c.stands_law.ensures.output c.args.library.now c.args.task c.args.steps c.args.board.now c.turn.new.self c.new-out.result.bytes c.turn.new.out.bytes c.bytes.result.now
    (ap (λ (s : SinkState). s.bytes) c.new-out.ensures) c.bytes.ensures c.in-Went.ensures.turns c.requires.few (g.F.Folder.files c.args.folder.now) (g.F.Folder.files c.append_output.new.folder)
    c.append_output.result c.append_output.ensures.cut c.append_output.ensures.starved

pub returns-clause-stopped : goal.returns-clause-stopped
returns-clause-stopped g c = λ p is. starved_stops c.stands_law.ensures.output p c.args.task c.args.steps c.args.board.now (g.F.Folder.files c.args.folder.now)
