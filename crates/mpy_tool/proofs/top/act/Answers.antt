use Rattle.std.proofs.Common.{sym, ◌∙◌}
use Rattle.mpy_tool.specs.Below.{library_below}
use Rattle.mpy_tool.specs.Call.{call_of, texts}
use Rattle.mpy_tool.proofs.Acting.{acts_run, acts_do, acts_make, acts_resume, quiet, resume_changes, same_changes}
use Rattle.mpy_tool.proofs.top.act.Goals as goal

pub returns-then-runs-clause-ended : goal.returns-then-runs-clause-ended
returns-then-runs-clause-ended g c =
    let call = call_of g.F.Folder g.S.Sink g.P.Port g.E.Sink c.args.words.now c.args.outside.now c.run_order.new.outside c.run_order.result in
    acts_run c.args.order call (library_below c.args.below) c.args.order.command (sym c.runs.ensures ∙ c.if-runs.true) c.run_order.ensures.ended

pub returns-then-makes-clause-ended : goal.returns-then-makes-clause-ended
returns-then-makes-clause-ended g c =
    let call = call_of g.F.Folder g.S.Sink g.P.Port g.E.Sink c.args.words.now c.args.outside.now c.make.new.outside c.make.result in
    acts_make c.args.order call (library_below c.args.below) c.args.order.command (sym c.makes.ensures ∙ c.if-makes.true) c.make.ensures.ended

pub returns-then-makes-clause-files : goal.returns-then-makes-clause-files
returns-then-makes-clause-files g c =
    same_changes (texts c.args.words.now) c.args.order.save c.args.order.command (g.F.Folder.files c.args.outside.now.folder) (g.F.Folder.files c.make.new.outside.folder) c.make.ensures.files

pub returns-then-resumes-clause-ended : goal.returns-then-resumes-clause-ended
returns-then-resumes-clause-ended g c =
    let call = call_of g.F.Folder g.S.Sink g.P.Port g.E.Sink c.args.words.now c.args.outside.now c.resume_order.new.outside c.resume_order.result in
    acts_resume c.args.order call (library_below c.args.below) c.args.order.command (sym c.resumes.ensures ∙ c.if-resumes.true) c.resume_order.ensures.ended

pub returns-then-resumes-clause-files : goal.returns-then-resumes-clause-files
returns-then-resumes-clause-files g c =
    resume_changes (texts c.args.words.now) c.args.order.save c.args.order.command (g.F.Folder.files c.args.outside.now.folder) (g.F.Folder.files c.resume_order.new.outside.folder)
    (sym c.resumes.ensures ∙ c.if-resumes.true) c.resume_order.ensures.files

pub do_order-requires-clause-no_run : goal.do_order-requires-clause-no_run
do_order-requires-clause-no_run g c = quiet c.args.order.command (sym c.runs.ensures ∙ c.if-runs.false) (sym c.makes.ensures ∙ c.if-makes.false) (sym c.resumes.ensures ∙ c.if-resumes.false)

pub returns-clause-ended : goal.returns-clause-ended
returns-clause-ended g c =
    let call = call_of g.F.Folder g.S.Sink g.P.Port g.E.Sink c.args.words.now c.args.outside.now c.do_order.new.outside c.do_order.result in
    acts_do c.args.order call (library_below c.args.below) c.args.order.command
    (quiet c.args.order.command (sym c.runs.ensures ∙ c.if-runs.false) (sym c.makes.ensures ∙ c.if-makes.false) (sym c.resumes.ensures ∙ c.if-resumes.false)) c.do_order.ensures.ended
