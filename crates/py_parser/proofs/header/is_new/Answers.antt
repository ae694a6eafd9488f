use Rattle.std.proofs.Common.{◌≡◌, ◌∙◌, ap, not, rules, arith}
use Rattle.std.proofs.lemmas.Grind.{common_steps}
use Rattle.py_parser.proofs.Names.{is_new_any}
use Rattle.py_parser.proofs.header.is_new.Goals as goal

pub returns : goal.returns
returns c =
    let last = is_new_any c.args.params.now c.args.name.now in
    first_of (cc, search rules, grind (arith, common_steps))
