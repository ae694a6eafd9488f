use Rattle.std.proofs.Common.{refl}
use Rattle.mpy_endings.proofs.Statuses.{not_two, two_unsaved}
use Rattle.mpy_tool.specs.Call.{call_of}
use Rattle.mpy_tool.proofs.Acting.{go_ordered, check_ordered, check_as_ordered, dump_ordered, cross_ordered, merge_ordered, freeze_ordered, migrate_ordered, run_ordered, resume_ordered, board_ordered, stress_ordered, go_means_ordered, run_means_ordered, stress_means_ordered, suspends_ordered, resume_means_ordered}
use Rattle.mpy_tool.proofs.Counting.{obeys_stay}
use Rattle.mpy_tool.proofs.top.mpy.Goals as goal

pub returns-in-Ok-clause-go : goal.returns-in-Ok-clause-go
returns-in-Ok-clause-go g c =
    let call = call_of g.F.Folder g.S.Sink g.P.Port g.E.Sink c.args.words.now c.args.outside.now c.obey.new.outside c.obey.result in
    go_ordered c.in-Ok.order call c.in-Ok.ensures.order c.obey.ensures.ended

pub returns-in-Ok-clause-check : goal.returns-in-Ok-clause-check
returns-in-Ok-clause-check g c =
    let call = call_of g.F.Folder g.S.Sink g.P.Port g.E.Sink c.args.words.now c.args.outside.now c.obey.new.outside c.obey.result in
    check_ordered c.in-Ok.order call c.in-Ok.ensures.order c.obey.ensures.ended

pub returns-in-Ok-clause-check_as : goal.returns-in-Ok-clause-check_as
returns-in-Ok-clause-check_as g c =
    let call = call_of g.F.Folder g.S.Sink g.P.Port g.E.Sink c.args.words.now c.args.outside.now c.obey.new.outside c.obey.result in
    check_as_ordered c.in-Ok.order call c.in-Ok.ensures.order c.obey.ensures.ended

pub returns-in-Ok-clause-dump : goal.returns-in-Ok-clause-dump
returns-in-Ok-clause-dump g c =
    let call = call_of g.F.Folder g.S.Sink g.P.Port g.E.Sink c.args.words.now c.args.outside.now c.obey.new.outside c.obey.result in
    dump_ordered c.in-Ok.order call c.in-Ok.ensures.order c.obey.ensures.ended

pub returns-in-Ok-clause-cross : goal.returns-in-Ok-clause-cross
returns-in-Ok-clause-cross g c =
    let call = call_of g.F.Folder g.S.Sink g.P.Port g.E.Sink c.args.words.now c.args.outside.now c.obey.new.outside c.obey.result in
    cross_ordered c.in-Ok.order call c.in-Ok.ensures.order c.obey.ensures.ended

pub returns-in-Ok-clause-merge : goal.returns-in-Ok-clause-merge
returns-in-Ok-clause-merge g c =
    let call = call_of g.F.Folder g.S.Sink g.P.Port g.E.Sink c.args.words.now c.args.outside.now c.obey.new.outside c.obey.result in
    merge_ordered c.in-Ok.order call c.in-Ok.ensures.order c.obey.ensures.ended

pub returns-in-Ok-clause-freeze : goal.returns-in-Ok-clause-freeze
returns-in-Ok-clause-freeze g c =
    let call = call_of g.F.Folder g.S.Sink g.P.Port g.E.Sink c.args.words.now c.args.outside.now c.obey.new.outside c.obey.result in
    freeze_ordered c.in-Ok.order call c.in-Ok.ensures.order c.obey.ensures.ended

pub returns-in-Ok-clause-migrate : goal.returns-in-Ok-clause-migrate
returns-in-Ok-clause-migrate g c =
    let call = call_of g.F.Folder g.S.Sink g.P.Port g.E.Sink c.args.words.now c.args.outside.now c.obey.new.outside c.obey.result in
    migrate_ordered c.in-Ok.order call c.in-Ok.ensures.order c.obey.ensures.ended

pub returns-in-Ok-clause-run : goal.returns-in-Ok-clause-run
returns-in-Ok-clause-run g c =
    let call = call_of g.F.Folder g.S.Sink g.P.Port g.E.Sink c.args.words.now c.args.outside.now c.obey.new.outside c.obey.result in
    run_ordered c.in-Ok.order call c.in-Ok.ensures.order c.obey.ensures.ended

pub returns-in-Ok-clause-resume : goal.returns-in-Ok-clause-resume
returns-in-Ok-clause-resume g c =
    let call = call_of g.F.Folder g.S.Sink g.P.Port g.E.Sink c.args.words.now c.args.outside.now c.obey.new.outside c.obey.result in
    resume_ordered c.in-Ok.order call c.in-Ok.ensures.order c.obey.ensures.ended

pub returns-in-Ok-clause-board : goal.returns-in-Ok-clause-board
returns-in-Ok-clause-board g c =
    let call = call_of g.F.Folder g.S.Sink g.P.Port g.E.Sink c.args.words.now c.args.outside.now c.obey.new.outside c.obey.result in
    board_ordered c.in-Ok.order call c.in-Ok.ensures.order c.obey.ensures.ended

pub returns-in-Ok-clause-stress : goal.returns-in-Ok-clause-stress
returns-in-Ok-clause-stress g c =
    let call = call_of g.F.Folder g.S.Sink g.P.Port g.E.Sink c.args.words.now c.args.outside.now c.obey.new.outside c.obey.result in
    stress_ordered c.in-Ok.order call c.in-Ok.ensures.order c.obey.ensures.ended

pub returns-in-Ok-clause-go_means : goal.returns-in-Ok-clause-go_means
returns-in-Ok-clause-go_means g c =
    let call = call_of g.F.Folder g.S.Sink g.P.Port g.E.Sink c.args.words.now c.args.outside.now c.obey.new.outside c.obey.result in
    go_means_ordered c.in-Ok.order call c.go_means_law.ensures c.in-Ok.ensures.order c.obey.ensures.ended

pub returns-in-Ok-clause-run_means : goal.returns-in-Ok-clause-run_means
returns-in-Ok-clause-run_means g c =
    let call = call_of g.F.Folder g.S.Sink g.P.Port g.E.Sink c.args.words.now c.args.outside.now c.obey.new.outside c.obey.result in
    run_means_ordered c.in-Ok.order call c.meant_law.ensures c.in-Ok.ensures.order c.obey.ensures.ended

pub returns-in-Ok-clause-suspends : goal.returns-in-Ok-clause-suspends
returns-in-Ok-clause-suspends g c =
    let call = call_of g.F.Folder g.S.Sink g.P.Port g.E.Sink c.args.words.now c.args.outside.now c.obey.new.outside c.obey.result in
    suspends_ordered c.in-Ok.order call c.leaves_law.ensures.leaves c.in-Ok.ensures.run.cells c.in-Ok.ensures.run.bytes c.in-Ok.ensures.order c.obey.ensures.ended

pub returns-in-Ok-clause-resume_means : goal.returns-in-Ok-clause-resume_means
returns-in-Ok-clause-resume_means g c =
    let call = call_of g.F.Folder g.S.Sink g.P.Port g.E.Sink c.args.words.now c.args.outside.now c.obey.new.outside c.obey.result in
    resume_means_ordered c.in-Ok.order call c.resume_means_law.ensures c.in-Ok.ensures.order c.obey.ensures.ended

pub returns-in-Ok-clause-stress_means : goal.returns-in-Ok-clause-stress_means
returns-in-Ok-clause-stress_means g c =
    let call = call_of g.F.Folder g.S.Sink g.P.Port g.E.Sink c.args.words.now c.args.outside.now c.obey.new.outside c.obey.result in
    stress_means_ordered c.in-Ok.order call c.go_means_law.ensures c.in-Ok.ensures.order c.obey.ensures.ended

pub returns-in-Err-clause-flushed : goal.returns-in-Err-clause-flushed
returns-in-Err-clause-flushed g c = λ s. absurd (not_two s)

pub returns-in-Err-clause-handed_on : goal.returns-in-Err-clause-handed_on
returns-in-Err-clause-handed_on g c = λ s. absurd (two_unsaved 2 refl s)

pub returns-in-Ok-clause-counts : goal.returns-in-Ok-clause-counts
returns-in-Ok-clause-counts g c =
    let call = call_of g.F.Folder g.S.Sink g.P.Port g.E.Sink c.args.words.now c.args.outside.now c.obey.new.outside c.obey.result in
    obeys_stay c.in-Ok.order call c.in-Ok.order.command c.obey.ensures.ended

pub returns-in-Err-clause-counts : goal.returns-in-Err-clause-counts
returns-in-Err-clause-counts g c = λ unread unwritten. (refl, refl)
