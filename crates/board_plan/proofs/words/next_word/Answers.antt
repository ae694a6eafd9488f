use Rattle.board_plan.proofs.Parts.{cut_word, cut_last_word}
use Rattle.board_plan.proofs.words.next_word.Goals as goal

pub returns-in-Some : goal.returns-in-Some
returns-in-Some c =
    cut_word c.args.line.now c.split_at.result.0.now c.split_at.result.1.now c.in-Some.rest.now c.in-Some._space.now c.front_length.result
    c.front_length.ensures.length c.split_at.ensures.front c.split_at.ensures.back c.in-Some.ensures.cases.0

pub returns-in-None : goal.returns-in-None
returns-in-None c =
    cut_last_word c.args.line.now c.split_at.result.0.now c.split_at.result.1.now c.front_length.result
    c.front_length.ensures.length c.split_at.ensures.front c.split_at.ensures.back c.in-None.ensures.cases
