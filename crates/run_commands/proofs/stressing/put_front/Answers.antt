use Rattle.std.proofs.lemmas.Result.{err_from_is_err_and}
use Rattle.std.proofs.Common.{◌++◌, codes, decimal}
use Rattle.command_files.proofs.mpy_endings_lemmas.Said.{cut, both}
use Rattle.run_commands.proofs.stressing.put_front.Goals as goal

pub returns-in_err-put_number : goal.returns-in_err-put_number
returns-in_err-put_number g c =
    let failed = err_from_is_err_and c.from_residual.result c.from_residual.ensures.1 in
    rw failed.1 (cut (g.S.Sink.told c.args.out.now) (g.S.Sink.told c.put_number.new.out) (g.S.Sink.count c.args.out.now) (g.S.Sink.count c.put_number.new.out) (codes "source " ++ decimal c.args.bytes ++ codes " bytes\n") (codes "codes " ++ decimal c.args.codes ++ codes "\n") failed.0 (c.in_err-put_number.ensures))

pub returns : goal.returns
returns g c =
    both (g.S.Sink.told c.args.out.now) (g.S.Sink.told c.put_number.new.out) (g.S.Sink.told c.put_number-2.new.out) (g.S.Sink.count c.args.out.now) (g.S.Sink.count c.put_number.new.out) (g.S.Sink.count c.put_number-2.new.out)
    (codes "source " ++ decimal c.args.bytes ++ codes " bytes\n") (codes "codes " ++ decimal c.args.codes ++ codes "\n") c.in_ok-put_number.field-0 c.put_number-2.result (c.in_ok-put_number.ensures) (c.put_number-2.ensures)
