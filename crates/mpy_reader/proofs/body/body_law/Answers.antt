use Rattle.mpy_reader.proofs.Bodies.{body_found, body_read, body_single}
use Rattle.mpy_reader.proofs.body.body_law.Goals as goal

pub returns-clause-found : goal.returns-clause-found
returns-clause-found c = λ texts bytes rest x h. (body_found texts).found bytes rest x h

pub returns-clause-taken : goal.returns-clause-taken
returns-clause-taken c = λ texts text rest x s. body_read texts text rest x s

pub returns-clause-one : goal.returns-clause-one
returns-clause-one c = λ texts bytes a b h k. (body_single texts bytes).same a b h k
