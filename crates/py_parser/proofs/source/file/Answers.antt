use Rattle.std.proofs.Common.{subst}
use Rattle.py_parser.specs.Parsed.{ReadsAll}
use Rattle.py_parser.proofs.Parses.{reads_all, room}
use Rattle.py_parser.proofs.source.file.Goals as goal

pub returns : goal.returns
returns c = subst (λ o. ReadsAll o c.file_from.result) (room c.args.tokens.now) (reads_all _ _ c.file_from.new.tokens c.file_from.ensures)
