use Rattle.std.proofs.lemmas.Result.{err_from_is_err_and}
use Rattle.py_tokens.proofs.Sources.{opens_adds}
use Rattle.py_tokens.proofs.lines.Lines.add_token.Goals as goal

pub returns-in_err-open_line-clause-adds : goal.returns-in_err-open_line-clause-adds
returns-in_err-open_line-clause-adds c =
    let p = err_from_is_err_and c.from_residual.result c.from_residual.ensures.1 in
    rw (p.1, p.2) (opens_adds c.args.tok c.args.text.now c.args.self.now c.open_line.new.self c.in_err-open_line.field-0.0 (c.in_err-open_line.ensures.opens c.args.tok c.args.text.now))
