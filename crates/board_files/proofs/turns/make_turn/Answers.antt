use Rattle.std.proofs.Common.{◌≡◌, ◌≤◌, Result, Err, refl, sym, subst, ◌∙◌, arith}
use Rattle.std.specs.Prelude.{IfErr}
use Rattle.std.proofs.lemmas.Result.{err_from_is_err_and}
use Rattle.board_tasks.specs.vm_starting.vm_states.Means.{Program}
use Rattle.board_tasks.specs.vm_starting.Programs.{IsProgramOf}
use Rattle.board_files.specs.declared.stop.OutputStop.{OutputStop}
use Rattle.board_files.specs.Files.{cut_of}
use Rattle.board_files.specs.Runs.{StopsIn}
use Rattle.board_files.proofs.Stopping.{part_stops}
use Rattle.board_files.proofs.Loops.{none_made, more_made, all_made, whole_paid, part_countable, some_paid}
use Rattle.board_files.proofs.turns.make_turn.Goals as goal

pub parts-init : goal.parts-init
parts-init g c =
    (none_made c.args.library.now c.args.turn.task c.args.turn.steps c.args.board.now (g.F.Folder.files c.args.folder.now) c.requires.runs, refl, c.requires.kept)

pub make_part-requires-clause-paid : goal.make_part-requires-clause-paid
make_part-requires-clause-paid g c =
    let within : c.min-steps.result ≤ c.parts.left = omega (arith, c.min-steps.ensures) in
    part_countable c.args.library.now c.args.turn.task c.args.turn.steps c.parts.left c.min-steps.result c.args.board.now c.parts.board (g.F.Folder.files c.args.folder.now) (g.F.Folder.files c.parts.folder)
    within c.parts.invariant.0 c.requires.paid

pub returns-in_err-make_part-clause-paid : goal.returns-in_err-make_part-clause-paid
returns-in_err-make_part-clause-paid g c =
    let within : c.min-steps.result ≤ c.parts.left = omega (arith, c.min-steps.ensures) in
    some_paid c.args.library.now c.args.turn.task c.args.turn.steps c.parts.left c.min-steps.result c.args.board.now c.parts.board c.make_part.new.board (g.F.Folder.files c.args.folder.now) (g.F.Folder.files c.parts.folder)
    within c.parts.invariant.0 c.make_part.ensures.paid

pub parts-preserved : goal.parts-preserved
parts-preserved g c =
    let within : c.min-steps.result ≤ c.parts.left = omega (arith, c.min-steps.ensures) in (
      more_made c.args.library.now c.args.turn.task c.args.turn.steps c.parts.left c.min-steps.result c.args.board.now c.parts.board c.make_part.new.board
          (g.F.Folder.files c.args.folder.now) (g.F.Folder.files c.parts.folder) (g.F.Folder.files c.make_part.new.folder) within c.parts.invariant.0
          c.make_part.ensures.runs c.make_part.ensures.as_many c.make_part.ensures.paid c.in_ok-make_part.ensures.goes c.make_part.ensures.others,
      c.in_ok-make_part.ensures.counts ∙ c.parts.invariant.1,
      c.make_part.ensures.kept,
    )

pub returns-clause-paid : goal.returns-clause-paid
returns-clause-paid g c =
    let none : c.parts.left ≡ 0 = omega (arith, c.parts-test.false) in
    whole_paid c.args.library.now c.args.turn.task c.args.turn.steps c.args.board.now c.parts.board (g.F.Folder.files c.args.folder.now) (g.F.Folder.files c.parts.folder)
    (all_made c.args.library.now c.args.turn.task c.args.turn.steps c.parts.left c.args.board.now c.parts.board (g.F.Folder.files c.args.folder.now) (g.F.Folder.files c.parts.folder) none c.parts.invariant.0)

pub returns-in_err-make_part-clause-stopped : goal.returns-in_err-make_part-clause-stopped
returns-in_err-make_part-clause-stopped g c =
    let within : c.min-steps.result ≤ c.parts.left = omega (arith, c.min-steps.ensures) in
    let p = err_from_is_err_and c.from_residual.result c.from_residual.ensures.1 in
    let same : c.from_residual.result ≡ Err c.in_err-make_part.field-0.0 = cc (p.1, p.2) in
    let files = g.F.Folder.files in
    subst (λ (r : Result (Unit {0}) OutputStop). IfErr r (λ (stop : OutputStop). (p : Program) → IsProgramOf c.args.library.now p
    → StopsIn p c.args.turn.task c.args.turn.steps (cut_of stop) c.args.board.now (files c.args.folder.now) (files c.make_part.new.folder))) (sym same)
    (part_stops c.args.library.now c.args.turn.task c.args.turn.steps c.parts.left c.min-steps.result c.args.board.now c.parts.board (files c.args.folder.now) (files c.parts.folder) (files c.make_part.new.folder)
    (cut_of c.in_err-make_part.field-0.0) within c.parts.invariant.0 c.in_err-make_part.ensures.stopped)
