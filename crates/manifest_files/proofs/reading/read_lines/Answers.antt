use Rattle.std.proofs.Common.{Ok, Err, IfSome, subst}
use Rattle.mpy_io.specs.Files.{FileOf, Reads}
use Rattle.mpy_io.specs.declared.fault.ReadFault.{ReadFault}
use Rattle.mpy_io.specs.declared.fault.ReadFault.TheVariants.{TooLong}
use Rattle.manifest_files.specs.Answers.{LinesOf}
use Rattle.manifest_files.proofs.Tells.{if_some_both, long_lines}
use Rattle.manifest_files.proofs.reading.read_lines.Goals as goal

pub returns-in_ok-bad_line-in-Err-TooLong-clause-lines : goal.returns-in_ok-bad_line-in-Err-TooLong-clause-lines
returns-in_ok-bad_line-in-Err-TooLong-clause-lines g c =
    let name = c.args.name.now in
    let lines = c.in_ok-bad_line-in-Err-TooLong.field-0 in
    let content = subst (λ (z : ReadFault). IfSome (g.F.Folder.files c.args.folder.now) (λ (files : FileOf). Reads (files name) (Err z))) c.in-Err-TooLong.field-0-is c.in-Err-TooLong.ensures.content in
    if_some_both (λ (files : FileOf). Reads (files name) (Err TooLong)) (λ (files : FileOf). LinesOf (files name) name (Ok lines)) (g.F.Folder.files c.args.folder.now) content
    (λ files r. long_lines (files name) name lines r c.in_ok-bad_line-in-Err-TooLong.ensures)
