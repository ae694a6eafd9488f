use Rattle.std.proofs.Common.{◌≡◌, [], Result, Err, inl, refl, sym, subst}
use Rattle.std.specs.Prelude.{IfErr}
use Rattle.std.proofs.lemmas.Result.{err_from_is_err_and}
use Rattle.mpy_io.specs.Files.{BecomesFront}
use Rattle.board_files.specs.declared.stop.OutputStop.{OutputStop}
use Rattle.board_files.specs.declared.stop.OutputStop.TheVariants.{NoMemory}
use Rattle.board_files.specs.Files.{cut_of, out_name}
use Rattle.board_files.specs.Stopped.{IsAt}
use Rattle.board_files.proofs.files.begin_file.Goals as goal

pub returns-in_err-name-clause-cut : goal.returns-in_err-name-clause-cut
returns-in_err-name-clause-cut g c =
    let p = err_from_is_err_and c.from_residual.result c.from_residual.ensures.1 in
    let same : c.from_residual.result ≡ Err NoMemory = cc (p.1, p.2) in
    let files = g.F.Folder.files c.args.folder.now in
    subst (λ (r : Result (Unit {0}) OutputStop). IfErr r (λ (stop : OutputStop). IsAt (cut_of stop) c.args.task × BecomesFront files files (out_name c.args.task) [])) (sym same) (tt, inl refl)
