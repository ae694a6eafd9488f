use Rattle.tool_laws.proofs.Boards.{board_done, one_board}
use Rattle.tool_laws.proofs.images.board_law.Goals as goal

pub returns : goal.returns
returns c = record {
  one_ending = λ opened below files image plan one other before behind printed after place another is.
      one_board c.image_laws.ensures c.plan_laws.ensures opened below is image plan files one other before behind printed after place another;
  done = λ opened below files image name shelf plan new before behind place is.
      board_done c.image_laws.ensures c.plan_laws.ensures opened below is image name files new before behind place shelf plan;
}
