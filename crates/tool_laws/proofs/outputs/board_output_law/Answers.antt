use Rattle.tool_laws.proofs.Printed.{alike_boards}
use Rattle.tool_laws.proofs.outputs.board_output_law.Goals as goal

pub returns : goal.returns
returns c = record {
  files = λ opened below files image plan new_a new_b before behind printed after place another one other is s t p q.
      (alike_boards c.image_laws.ensures c.plan_laws.ensures c.program_law.ensures.exists opened below is image plan files new_a new_b before behind printed after
      place another one other s t p q).0;
  summary = λ opened below files image plan new_a new_b before behind printed after place another one other is s t p q.
      (alike_boards c.image_laws.ensures c.plan_laws.ensures c.program_law.ensures.exists opened below is image plan files new_a new_b before behind printed after
      place another one other s t p q).1;
}
