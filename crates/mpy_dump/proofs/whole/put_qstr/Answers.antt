use Rattle.std.proofs.Common.{◌++◌, [], codes, ap}
use Rattle.std.specs.Prelude.{unwrap_or}
use Rattle.mpy_tree.specs.Raw.{text_of}
use Rattle.mpy_dump.specs.Texts.{name_text}
use Rattle.mpy_dump.specs.Listing.{spelling_text}
use Rattle.mpy_dump.proofs.Putting.{begin, step, stop, last, puts_is}
use Rattle.mpy_dump.proofs.whole.put_qstr.Goals as goal

pub returns-in_err-put_numbered : goal.returns-in_err-put_numbered
returns-in_err-put_numbered g c =
    let qstr = c.args.qstr.now in
    let name = name_text (unwrap_or (text_of qstr) []) in
    stop (spelling_text qstr ++ (name ++ codes "\n")) c.from_residual.result c.from_residual.ensures.0 (begin _ _ _ _) c.in_err-put_numbered.ensures

pub returns-in_err-put_spelling : goal.returns-in_err-put_spelling
returns-in_err-put_spelling g c =
    let qstr = c.args.qstr.now in
    let name = name_text (unwrap_or (text_of qstr) []) in
    stop (name ++ codes "\n") c.from_residual-in_err-put_spelling.result c.from_residual-in_err-put_spelling.ensures.0
    (step (spelling_text qstr ++ (name ++ codes "\n")) (begin _ _ _ _) c.in_ok-put_numbered.ensures) c.in_err-put_spelling.ensures

pub returns-in_err-put_name : goal.returns-in_err-put_name
returns-in_err-put_name g c =
    let qstr = c.args.qstr.now in
    let name = name_text (unwrap_or (text_of qstr) []) in
    stop (codes "\n") c.from_residual-in_err-put_name.result c.from_residual-in_err-put_name.ensures.0
    (step (name ++ codes "\n") (step (spelling_text qstr ++ (name ++ codes "\n")) (begin _ _ _ _) c.in_ok-put_numbered.ensures) c.in_ok-put_spelling.ensures)
    (puts_is (ap name_text c.text_or_none.ensures) c.in_err-put_name.ensures)

pub returns : goal.returns
returns g c =
    let qstr = c.args.qstr.now in
    let name = name_text (unwrap_or (text_of qstr) []) in
    last c.put.result (step (codes "\n")
    (step (name ++ codes "\n") (step (spelling_text qstr ++ (name ++ codes "\n")) (begin _ _ _ _) c.in_ok-put_numbered.ensures) c.in_ok-put_spelling.ensures)
    (puts_is (ap name_text c.text_or_none.ensures) c.in_ok-put_name.ensures)) c.put.ensures
