use Rattle.std.proofs.Common.{◌≡◌, ◌+◌, drop}
use Rattle.prim_builtins.specs.prim_walks.Plain.{plain, plain_heap}
use Rattle.prim_str_methods.specs.Parts.{strs_of, looked_at}
use Rattle.prim_str_methods.proofs.joins.visits_of.Given as goal

abbrev pub invariant-loop-at : goal.invariant-loop-at
invariant-loop-at g l =
    let texts = g.C.Constants.text_of l.consts in
    let tuples = g.C.Constants.items_of l.consts in
    let strs = strs_of (plain_heap texts tuples l.arena) (plain texts tuples l.over) in
    looked_at strs ≡ l.at + looked_at (drop l.at strs)
