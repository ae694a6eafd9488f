use Rattle.std.proofs.Common.{◌+◌, ◌/◌, codes}
use Rattle.run_commands.specs.Source.{functions, calls, ending}
use Rattle.run_commands.proofs.Puts.{whole_put}
use Rattle.run_commands.proofs.source.stress_source.Goals as goal

pub returns : goal.returns
returns c =
    let many = (c.args.count + 499) / 500 in
    whole_put (codes "d = {}\n") (functions many c.args.seed 0 c.args.count) (calls many 0) ending _ _ _ _
    c.in_ok-text.ensures.items c.in_ok-put_functions.ensures c.in_ok-put_calls.ensures c.in_ok-extend_from_slice.ensures.items
