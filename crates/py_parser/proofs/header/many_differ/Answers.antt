use Rattle.py_parser.proofs.Differ.{begun}
use Rattle.py_parser.proofs.header.many_differ.Goals as goal

pub loop-param-init : goal.loop-param-init
loop-param-init c = begun c.args.params.now c.new-table.result c.new-table.ensures
