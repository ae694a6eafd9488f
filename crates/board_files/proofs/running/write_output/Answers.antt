use Rattle.std.proofs.Common.{ℕ, ◌<◌, ◌≤◌, List, length, All, sym, subst, ◌∙◌}
use Rattle.mpy_base.specs.declared.limits.TheConstants.{MAX_TASKS}
use Rattle.board_plan.specs.declared.plan.Turn.{Turn}
use Rattle.board_files.specs.Files.{AreEmpty, KeepsOthers, StopsWithin, cut_of}
use Rattle.board_files.proofs.Holding.{opened_many, opened_runs, opened_unpaid}
use Rattle.board_files.proofs.Others.{others_on}
use Rattle.board_files.proofs.Stopping.{begun_stops, made_stops}
use Rattle.board_files.proofs.running.write_output.Goals as goal

pub make_turns-requires-clause-runs : goal.make_turns-requires-clause-runs
make_turns-requires-clause-runs g c = opened_runs c.args.library.now c.args.plan.now.tasks c.args.board.now c.requires.opened

pub make_turns-requires-clause-there : goal.make_turns-requires-clause-there
make_turns-requires-clause-there g c =
    let many = opened_many c.args.library.now c.args.plan.now.tasks c.args.board.now c.requires.opened in
    subst (λ (turns : List Turn). All (λ (t : Turn). t.task < length c.args.board.now) turns) (sym c.as_slice.ensures)
    (subst (λ (n : ℕ). All (λ (t : Turn). t.task < n) c.args.plan.now.turns) (sym many) c.requires.can_run.have_tasks)

pub make_turns-requires-clause-few : goal.make_turns-requires-clause-few
make_turns-requires-clause-few g c =
    subst (λ (n : ℕ). n ≤ MAX_TASKS) (sym (opened_many c.args.library.now c.args.plan.now.tasks c.args.board.now c.requires.opened)) c.requires.can_run.few

pub make_turns-requires-clause-unpaid : goal.make_turns-requires-clause-unpaid
make_turns-requires-clause-unpaid g c = opened_unpaid c.args.library.now c.args.plan.now.tasks c.args.board.now c.requires.opened

pub returns-in-Ok-clause-few : goal.returns-in-Ok-clause-few
returns-in-Ok-clause-few g c =
    subst (λ (n : ℕ). n ≤ MAX_TASKS) (sym (c.make_turns.ensures.as_many ∙ opened_many c.args.library.now c.args.plan.now.tasks c.args.board.now c.requires.opened)) c.requires.can_run.few

pub returns-in-Ok-clause-others : goal.returns-in-Ok-clause-others
returns-in-Ok-clause-others g c =
    let files = g.F.Folder.files in
    let many = opened_many c.args.library.now c.args.plan.now.tasks c.args.board.now c.requires.opened in
    others_on (length c.args.plan.now.tasks) (files c.args.folder.now) (files c.begin_files.new.folder) (files c.make_turns.new.folder)
    (subst (λ (n : ℕ). KeepsOthers n (files c.args.folder.now) (files c.begin_files.new.folder)) c.len-count.ensures c.begin_files.ensures.others)
    (subst (λ (n : ℕ). KeepsOthers n (files c.begin_files.new.folder) (files c.make_turns.new.folder)) many c.make_turns.ensures.others)

pub returns-in-Err-clause-runs : goal.returns-in-Err-clause-runs
returns-in-Err-clause-runs g c = opened_runs c.args.library.now c.args.plan.now.tasks c.args.board.now c.requires.opened

pub returns-in-Err-clause-few : goal.returns-in-Err-clause-few
returns-in-Err-clause-few g c =
    subst (λ (n : ℕ). n ≤ MAX_TASKS) (sym (opened_many c.args.library.now c.args.plan.now.tasks c.args.board.now c.requires.opened)) c.requires.can_run.few

pub returns-in-Ok-clause-within : goal.returns-in-Ok-clause-within
returns-in-Ok-clause-within g c =
    subst (λ (n : ℕ). StopsWithin n c.make_turns.result) (opened_many c.args.library.now c.args.plan.now.tasks c.args.board.now c.requires.opened) c.make_turns.ensures.within

pub returns-in-Ok-clause-stopped : goal.returns-in-Ok-clause-stopped
returns-in-Ok-clause-stopped g c =
    let files = g.F.Folder.files in
    made_stops c.stands_law.ensures.starts c.args.library.now c.args.plan.now c.args.board.now c.requires.opened c.as_slice.result.now (files c.args.folder.now) (files c.begin_files.new.folder) (files c.make_turns.new.folder) c.make_turns.result
    c.as_slice.ensures (subst (λ (n : ℕ). AreEmpty n (files c.args.folder.now) (files c.begin_files.new.folder)) c.len-count.ensures c.in-Ok.ensures.begun) c.make_turns.ensures.stopped

pub returns-in-Err-clause-stopped : goal.returns-in-Err-clause-stopped
returns-in-Err-clause-stopped g c = λ p is.
    begun_stops p c.args.plan.now (cut_of c.in-Err.stop) c.len-count.result (g.F.Folder.files c.args.folder.now) (g.F.Folder.files c.begin_files.new.folder) c.len-count.ensures c.in-Err.ensures.stopped
