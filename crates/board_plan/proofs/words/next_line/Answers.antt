use Rattle.board_plan.proofs.Parts.{cut_line, cut_last_line}
use Rattle.board_plan.proofs.words.next_line.Goals as goal

pub returns-in-Some-clause-lines : goal.returns-in-Some-clause-lines
returns-in-Some-clause-lines c =
    cut_line c.args.text.now c.split_at.result.0.now c.split_at.result.1.now c.in-Some.rest.now c.in-Some._end.now c.front_length.result
    c.front_length.ensures.length c.split_at.ensures.front c.split_at.ensures.back c.in-Some.ensures.cases.0

pub returns-in-None-clause-lines : goal.returns-in-None-clause-lines
returns-in-None-clause-lines c =
    cut_last_line c.args.text.now c.split_at.result.0.now c.split_at.result.1.now c.front_length.result c.requires
    c.front_length.ensures.length c.split_at.ensures.front c.split_at.ensures.back c.in-None.ensures.cases
