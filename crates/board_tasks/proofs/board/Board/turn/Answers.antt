use Rattle.std.proofs.Common.{◌≡◌, ◌<◌, List, length, set, refl, ap, subst, sym, Some}
use Rattle.std.specs.Prelude.{slice_get}
use Rattle.std.proofs.lemmas.Option.{slice_get_read}
use Rattle.board_tasks.specs.declared.turning.TaskRun.{TaskRun}
use Rattle.board_tasks.proofs.board.Board.turn.Goals as goal

pub returns-clause-turns : goal.returns-clause-turns
returns-clause-turns g c =
    let same : c.self.inside.runs.items ≡ c.args.self.now = c.self.view_is in
    let within : c.args.task < length c.self.inside.runs.items = subst (λ (runs : List TaskRun). c.args.task < length runs) (sym same) c.requires.there in
    record {
      was = c.index_mut.result.now;
      is = c.turn.new.self;
      here = subst (λ (runs : List TaskRun). slice_get runs c.args.task ≡ Some c.index_mut.result.now) same
          (slice_get_read c.self.inside.runs.items (length c.self.inside.runs.items) c.args.task c.index_mut.result.now refl within c.index_mut.ensures.value);
      others = ap (λ (runs : List TaskRun). set runs c.args.task c.turn.new.self) same;
      turn = c.turn.ensures.turns;
      paid = c.turn.ensures.paid;
    }
