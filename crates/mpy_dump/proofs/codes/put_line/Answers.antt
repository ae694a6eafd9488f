use Rattle.std.proofs.Common.{◌++◌, codes}
use Rattle.mpy_dump.specs.Instructions.{name_text_at}
use Rattle.mpy_dump.specs.Codes.{places, path_text, numbers_text}
use Rattle.mpy_dump.proofs.Putting.{begin, step, stop, last}
use Rattle.mpy_dump.proofs.codes.put_line.Goals as goal

pub returns-in_err-put : goal.returns-in_err-put
returns-in_err-put g c =
    let path = path_text (places c.args.path.now) in
    let behind = name_text_at c.args.module.now c.args.name ++ numbers_text c.args.prelude.now c.args.size in
    stop (path ++ (codes " " ++ behind)) c.from_residual.result c.from_residual.ensures.0 (begin _ _ _ _) c.in_err-put.ensures

pub returns-in_err-put_path : goal.returns-in_err-put_path
returns-in_err-put_path g c =
    let path = path_text (places c.args.path.now) in
    let behind = name_text_at c.args.module.now c.args.name ++ numbers_text c.args.prelude.now c.args.size in
    stop (codes " " ++ behind) c.from_residual-in_err-put_path.result c.from_residual-in_err-put_path.ensures.0
    (step (path ++ (codes " " ++ behind)) (begin _ _ _ _) c.in_ok-put.ensures) c.in_err-put_path.ensures

pub returns-in_err-put-2 : goal.returns-in_err-put-2
returns-in_err-put-2 g c =
    let path = path_text (places c.args.path.now) in
    let behind = name_text_at c.args.module.now c.args.name ++ numbers_text c.args.prelude.now c.args.size in
    stop behind c.from_residual-in_err-put-2.result c.from_residual-in_err-put-2.ensures.0
    (step (codes " " ++ behind) (step (path ++ (codes " " ++ behind)) (begin _ _ _ _) c.in_ok-put.ensures) c.in_ok-put_path.ensures) c.in_err-put-2.ensures

pub returns-in_err-put_name_at : goal.returns-in_err-put_name_at
returns-in_err-put_name_at g c =
    let path = path_text (places c.args.path.now) in
    let numbers = numbers_text c.args.prelude.now c.args.size in
    let behind = name_text_at c.args.module.now c.args.name ++ numbers in
    stop numbers c.from_residual-in_err-put_name_at.result c.from_residual-in_err-put_name_at.ensures.0
    (step behind (step (codes " " ++ behind) (step (path ++ (codes " " ++ behind)) (begin _ _ _ _) c.in_ok-put.ensures) c.in_ok-put_path.ensures) c.in_ok-put-2.ensures) c.in_err-put_name_at.ensures

pub returns : goal.returns
returns g c =
    let path = path_text (places c.args.path.now) in
    let numbers = numbers_text c.args.prelude.now c.args.size in
    let behind = name_text_at c.args.module.now c.args.name ++ numbers in
    last c.put_numbers.result (step numbers
    (step behind (step (codes " " ++ behind) (step (path ++ (codes " " ++ behind)) (begin _ _ _ _) c.in_ok-put.ensures) c.in_ok-put_path.ensures) c.in_ok-put-2.ensures)
    c.in_ok-put_name_at.ensures) c.put_numbers.ensures
