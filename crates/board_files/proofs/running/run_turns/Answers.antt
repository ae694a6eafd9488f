use Rattle.std.proofs.Common.{◌≡◌, ℕ, Some, Err, ap, subst}
use Rattle.std.specs.Io.KnownBytes.{Appends}
use Rattle.mpy_io.specs.Told.{AppendsFront}
use Rattle.board_files.specs.declared.stop.OutputStop.{OutputStop}
use Rattle.board_files.specs.Files.{cut_of}
use Rattle.board_files.specs.Stopped.{HasStoppedIn}
use Rattle.board_files.proofs.Stopping.{whole_stops}
use Rattle.board_files.proofs.Told.{ran_written}
use Rattle.board_files.proofs.running.run_turns.Goals as goal

pub returns-in-Ok-summarize-clause-ran : goal.returns-in-Ok-summarize-clause-ran
returns-in-Ok-summarize-clause-ran g c =
    ran_written c.stands_law.ensures.starts c.stands_law.ensures.output c.stands_law.ensures.end c.stands_law.ensures.room Appends c.args.library.now c.args.plan.now c.args.board.now c.write_output.new.board
    (g.F.Folder.files c.args.folder.now) (g.F.Folder.files c.write_output.new.folder) (g.S.Sink.told c.args.out.now) (g.S.Sink.told c.summarize.new.out)
    c.requires.opened c.in-Ok.ensures.written c.write_output.ensures.others c.in-Ok-summarize.ensures.put

pub returns-in-Err-WriteFault-clause-unput : goal.returns-in-Err-WriteFault-clause-unput
returns-in-Err-WriteFault-clause-unput g c e =
    ran_written c.stands_law.ensures.starts c.stands_law.ensures.output c.stands_law.ensures.end c.stands_law.ensures.room AppendsFront c.args.library.now c.args.plan.now c.args.board.now c.write_output.new.board
    (g.F.Folder.files c.args.folder.now) (g.F.Folder.files c.write_output.new.folder) (g.S.Sink.told c.args.out.now) (g.S.Sink.told c.summarize.new.out)
    c.requires.opened c.in-Ok.ensures.written c.write_output.ensures.others (c.in-Err-WriteFault.ensures.front (ap Err c.in-Err-WriteFault.field-0-is))

pub returns-in-Err-Unwritten-clause-cut : goal.returns-in-Err-Unwritten-clause-cut
returns-in-Err-Unwritten-clause-cut g c = λ task e p is.
    let same : c.in-Err-Unwritten.task ≡ task = cc in
    let old = g.F.Folder.files c.args.folder.now in
    let new = g.F.Folder.files c.write_output.new.folder in
    subst (λ (n : ℕ). HasStoppedIn p c.args.plan.now (Some n) old new) same
    (subst (λ (stop : OutputStop). HasStoppedIn p c.args.plan.now (cut_of stop) old new) c.in-Err-Unwritten.field-0-is (c.in-Err-Unwritten.ensures.stopped p is))

pub returns-in-Err-NoMemory-summarize-clause-short : goal.returns-in-Err-NoMemory-summarize-clause-short
returns-in-Err-NoMemory-summarize-clause-short g c = λ e p is.
    whole_stops c.stands_law.ensures.starts c.args.library.now c.args.plan.now c.args.board.now c.requires.opened c.stands_law.ensures.output c.write_output.new.board
    (g.F.Folder.files c.args.folder.now) (g.F.Folder.files c.write_output.new.folder) p is (c.in-Ok.ensures.written p is)

pub returns-in-Err-NoMemory-clause-short : goal.returns-in-Err-NoMemory-clause-short
returns-in-Err-NoMemory-clause-short g c = λ e p is.
    let old = g.F.Folder.files c.args.folder.now in
    let new = g.F.Folder.files c.write_output.new.folder in
    subst (λ (stop : OutputStop). HasStoppedIn p c.args.plan.now (cut_of stop) old new) c.in-Err-NoMemory.field-0-is (c.in-Err-NoMemory.ensures.stopped p is)
