use Rattle.std.proofs.Common.{◌<◌, ◌≤◌, length, arith}
use Rattle.std.proofs.lemmas.List.Elements.{All-from_get_or}
use Rattle.bc_prelude.proofs.Counts.{few_lines}
use Rattle.vm_fetching.proofs.lines.line_in.Goals as goal

pub line_at-requires : goal.line_at-requires
line_at-requires c =
    let table = c.args.table.now in
    let few = few_lines table (All-from_get_or (λ byte. byte < 256) table 0 (λ i lt. (let small = c.type_inv.table i in omega (arith, small)))) in
    let short : length table ≤ 32767 = c.requires in
    omega (arith, few, short)
