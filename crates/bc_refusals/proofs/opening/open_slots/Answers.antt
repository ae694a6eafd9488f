use Rattle.std.proofs.Common.{◌<◌, ◌∙◌, ap, length, rules, set}
use Rattle.std.proofs.lemmas.List.{length-set}
use Rattle.std.proofs.lemmas.List.Edits.{map_over_more}
use Rattle.bc_refusals.specs.Stages.{open_kind}
use Rattle.bc_refusals.proofs.opening.open_slots.Goals as goal

pub loop-i-preserved : goal.loop-i-preserved
loop-i-preserved c =
    let xs = c.args.slots.now.items in
    let ys = c.loop-i.slots.items in
    let i = c.loop-i.i in
    let lt : i < length xs = search rules in
    record {
      long = length-set ys i c.open_kind.result ∙ c.loop-i.invariant.long;
      items = ap (set ys i) c.open_kind.ensures ∙ map_over_more open_kind xs ys i c.index.result.now lt c.loop-i.invariant.items c.index.ensures;
    }
