use Rattle.board_tasks.proofs.Boards.{stands_first, stands_on, output_so, end_so, room_so}
use Rattle.board_tasks.proofs.laws.stands_law.Goals as goal

pub returns : goal.returns
returns c = record {
  starts = stands_first;
  turn = λ shelf p task total count printed old new before behind end is tells stands t made.
      stands_on c.ended_law.ensures.states c.runs_law.ensures shelf p task total count printed old new before behind is tells stands end t made;
  output = output_so;
  end = λ p task total printed run end stands has. end_so p task total printed run stands end has;
  room = λ p task total printed run room stands is. room_so p task total printed run stands room is;
}
