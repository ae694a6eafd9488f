use Rattle.std.proofs.Common.{◌≡◌, ℕ, ◌<◌, ◌^◌, Result, Err, refl, sym, subst, ◌∙◌, add-one, arith}
use Rattle.std.specs.Prelude.{IfErr}
use Rattle.std.proofs.lemmas.Result.{err_from_is_err_and}
use Rattle.mpy_io.specs.Count.{Counts}
use Rattle.board_files.specs.declared.stop.OutputStop.{OutputStop}
use Rattle.board_files.specs.Files.{AreEmpty, StopsWithin, cut_of, is_unwritten}
use Rattle.board_files.specs.Stopped.{HasBegunIn}
use Rattle.board_files.proofs.Others.{none_empty, others_on, others_same, more_empty}
use Rattle.board_files.proofs.Stopping.{KeepsFrom, all_kept, begun_at, one_kept}
use Rattle.board_files.proofs.files.begin_files.Goals as goal

pub returns-in_err-begin_file-clause-others : goal.returns-in_err-begin_file-clause-others
returns-in_err-begin_file-clause-others g c =
    others_on c.args.count (g.F.Folder.files c.args.folder.now) (g.F.Folder.files c.loop-task.folder) (g.F.Folder.files c.begin_file.new.folder) c.loop-task.invariant.1 c.in_err-begin_file.ensures.others

pub returns-in_err-begin_file-clause-counts : goal.returns-in_err-begin_file-clause-counts
returns-in_err-begin_file-clause-counts g c =
    let p = err_from_is_err_and c.from_residual.result c.from_residual.ensures.1 in
    let same : c.from_residual.result ≡ Err c.in_err-begin_file.field-0.0 = cc (p.1, p.2) in
    let count = g.F.Folder.count in
    subst (λ (r : Result (Unit {0}) OutputStop). Counts (count c.args.folder.now) (count c.begin_file.new.folder) (is_unwritten r)) (sym same)
    (subst (λ (n : ℕ). Counts n (count c.begin_file.new.folder) (is_unwritten (Err c.in_err-begin_file.field-0.0))) c.loop-task.invariant.2 c.in_err-begin_file.ensures.counts)

pub loop-task-init : goal.loop-task-init
loop-task-init g c =
    let files = g.F.Folder.files c.args.folder.now in
    (none_empty files, others_same c.args.count files files refl, refl, all_kept 0 c.args.count files)

pub returns-in_err-begin_file-clause-stopped : goal.returns-in_err-begin_file-clause-stopped
returns-in_err-begin_file-clause-stopped g c =
    let p = err_from_is_err_and c.from_residual.result c.from_residual.ensures.1 in
    let same : c.from_residual.result ≡ Err c.in_err-begin_file.field-0.0 = cc (p.1, p.2) in
    let files = g.F.Folder.files in
    subst (λ (r : Result (Unit {0}) OutputStop). IfErr r (λ (stop : OutputStop). HasBegunIn c.args.count (cut_of stop) (files c.args.folder.now) (files c.begin_file.new.folder))) (sym same)
    (begun_at c.loop-task.task c.args.count (cut_of c.in_err-begin_file.field-0.0) (omega (arith, c.ranges.count.fits)) c.loop-task-test.true c.in_err-begin_file.ensures.cut.0
    (files c.args.folder.now) (files c.loop-task.folder) (files c.begin_file.new.folder) c.loop-task.invariant.0 c.loop-task.invariant.3 c.in_err-begin_file.ensures.cut.1)

pub loop-task-preserved : goal.loop-task-preserved
loop-task-preserved g c =
    let files = g.F.Folder.files in
    let small : c.loop-task.task < 2 ^ 64 = omega (arith, c.loop-task-test.true, c.ranges.count.fits) in (
      subst (λ (n : ℕ). AreEmpty n (files c.args.folder.now) (files c.begin_file.new.folder)) (sym (add-one c.loop-task.task))
          (more_empty (files c.args.folder.now) (files c.loop-task.folder) (files c.begin_file.new.folder) c.loop-task.task small c.loop-task.invariant.0 c.in_ok-begin_file.ensures.begun),
      others_on c.args.count (files c.args.folder.now) (files c.loop-task.folder) (files c.begin_file.new.folder) c.loop-task.invariant.1 c.begin_file.ensures.others,
      c.in_ok-begin_file.ensures.counts ∙ c.loop-task.invariant.2,
      subst (λ (n : ℕ). KeepsFrom n c.args.count (files c.args.folder.now) (files c.begin_file.new.folder)) (sym (add-one c.loop-task.task))
          (one_kept c.loop-task.task c.args.count (files c.args.folder.now) (files c.loop-task.folder) (files c.begin_file.new.folder) (omega (arith, c.ranges.count.fits)) c.loop-task-test.true c.loop-task.invariant.3 c.in_ok-begin_file.ensures.begun),
    )

pub returns-in_err-begin_file-clause-within : goal.returns-in_err-begin_file-clause-within
returns-in_err-begin_file-clause-within g c =
    let p = err_from_is_err_and c.from_residual.result c.from_residual.ensures.1 in
    let same : c.from_residual.result ≡ Err c.in_err-begin_file.field-0.0 = cc (p.1, p.2) in
    subst (StopsWithin c.args.count) (sym same) c.in_err-begin_file.ensures.within
