use Rattle.std.proofs.Common.{rules, ◌≡◌, length, Result, Err, refl, sym, subst, ◌∙◌}
use Rattle.std.specs.Prelude.{IfErr}
use Rattle.std.proofs.lemmas.Result.{err_from_is_err_and}
use Rattle.board_tasks.specs.vm_starting.vm_states.Means.{Program}
use Rattle.board_tasks.specs.vm_starting.Programs.{IsProgramOf}
use Rattle.board_files.specs.declared.stop.OutputStop.{OutputStop}
use Rattle.board_files.specs.Files.{cut_of}
use Rattle.board_files.specs.Runs.{StopsBy}
use Rattle.board_files.proofs.Stopping.{turn_stops}
use Rattle.board_files.proofs.Loops.{no_turns, more_turns, next_countable, next_there, all_turns}
use Rattle.board_files.proofs.turns.make_turns.Goals as goal

pub more-init : goal.more-init
more-init g c = (no_turns c.args.library.now c.args.turns.now c.args.board.now (g.F.Folder.files c.args.folder.now) c.requires.runs c.requires.unpaid c.requires.countable c.requires.there, refl, c.requires.kept)

pub make_turn-requires-clause-there : goal.make_turn-requires-clause-there
make_turn-requires-clause-there g c =
    next_there c.args.library.now c.args.turns.now c.in-Some.turn.now c.in-Some.behind.now c.more.rest.now c.args.board.now c.more.board (g.F.Folder.files c.args.folder.now) (g.F.Folder.files c.more.folder) c.in-Some.ensures.cases.0 c.more.invariant.0

pub make_turn-requires-clause-paid : goal.make_turn-requires-clause-paid
make_turn-requires-clause-paid g c =
    next_countable c.args.library.now c.args.turns.now c.in-Some.turn.now c.in-Some.behind.now c.more.rest.now c.args.board.now c.more.board (g.F.Folder.files c.args.folder.now) (g.F.Folder.files c.more.folder) c.in-Some.ensures.cases.0 c.more.invariant.0

pub more-preserved : goal.more-preserved
more-preserved g c = (
  more_turns c.args.library.now c.args.turns.now c.in-Some.turn.now c.in-Some.behind.now c.more.rest.now c.args.board.now c.more.board c.make_turn.new.board
      (g.F.Folder.files c.args.folder.now) (g.F.Folder.files c.more.folder) (g.F.Folder.files c.make_turn.new.folder) c.in-Some.ensures.cases.0 c.more.invariant.0
      c.make_turn.ensures.runs c.make_turn.ensures.as_many c.make_turn.ensures.paid c.in_ok-make_turn.ensures.goes c.make_turn.ensures.others,
  c.in_ok-make_turn.ensures.counts ∙ c.more.invariant.1,
  c.make_turn.ensures.kept,
)

pub returns-clause-goes : goal.returns-clause-goes
returns-clause-goes g c =
    let none : length c.more.rest.now ≡ 0 = search rules in
    all_turns c.args.library.now c.args.turns.now c.more.rest.now c.args.board.now c.more.board (g.F.Folder.files c.args.folder.now) (g.F.Folder.files c.more.folder) none c.more.invariant.0

pub returns-in_err-make_turn-clause-stopped : goal.returns-in_err-make_turn-clause-stopped
returns-in_err-make_turn-clause-stopped g c =
    let p = err_from_is_err_and c.from_residual.result c.from_residual.ensures.1 in
    let same : c.from_residual.result ≡ Err c.in_err-make_turn.field-0.0 = cc (p.1, p.2) in
    let files = g.F.Folder.files in
    subst (λ (r : Result (Unit {0}) OutputStop). IfErr r (λ (stop : OutputStop). (p : Program) → IsProgramOf c.args.library.now p
    → StopsBy p c.args.turns.now (cut_of stop) c.args.board.now (files c.args.folder.now) (files c.make_turn.new.folder))) (sym same)
    (turn_stops c.args.library.now c.args.turns.now c.in-Some.turn.now c.in-Some.behind.now c.more.rest.now c.args.board.now c.more.board (files c.args.folder.now) (files c.more.folder) (files c.make_turn.new.folder)
    (cut_of c.in_err-make_turn.field-0.0) c.in-Some.ensures.cases.0 c.more.invariant.0 c.in_err-make_turn.ensures.stopped)
