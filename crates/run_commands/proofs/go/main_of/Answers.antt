use Rattle.run_commands.proofs.Going.{source_from, long_refused}
use Rattle.run_commands.proofs.go.main_of.Goals as goal

pub returns-in-Err-TooLong-clause-refused : goal.returns-in-Err-TooLong-clause-refused
returns-in-Err-TooLong-clause-refused g c =
    long_refused c.args.level (g.F.Folder.files c.args.folder.now) c.args.name.now c.in-Err-TooLong.field-0 c.too_long.result c.in-Err-TooLong.field-0-is c.too_long.ensures c.in-Err-TooLong.ensures.content

pub returns-in-Ok-source_module-clause-main : goal.returns-in-Ok-source_module-clause-main
returns-in-Ok-source_module-clause-main g c =
    let main = c.in-Ok-source_module.main in
    source_from c.args.level (g.F.Folder.files c.args.folder.now) c.args.name.now c.as_bytes.result.now c.in-Ok.source.items c.deref.result.now main.0 main.1
    c.as_bytes.ensures.value c.deref.ensures.value c.in-Ok.ensures.content c.in-Ok-source_module.ensures
