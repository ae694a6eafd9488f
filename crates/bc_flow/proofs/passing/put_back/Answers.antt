use Rattle.std.proofs.Common.{◌≡◌, ◌≤◌, ◌∙◌, ap, arith, length, rules, sym}
use Rattle.bc_flow.specs.declared.walk.State.TheVariants as states
use Rattle.bc_flow.specs.Views.{table_of}
use Rattle.bc_flow.proofs.Holes.{set_past}
use Rattle.bc_flow.proofs.Tables.{map-set}
use Rattle.bc_flow.proofs.passing.put_back.Goals as goal

pub returns-then-p-len : goal.returns-then-p-len
returns-then-p-len c = map-set c.args.states.now.items c.args.p (states.Done c.args.x)

pub returns-else-p-len : goal.returns-else-p-len
returns-else-p-len c =
    let size : c.len.result ≡ length c.args.states.now.items = search rules in
    let le : length c.args.states.now.items ≤ c.args.p = omega (arith, size, c.if-p-len.false) in
    ap table_of (sym (set_past c.args.states.now.items c.args.p (states.Done c.args.x) le)) ∙ map-set c.args.states.now.items c.args.p (states.Done c.args.x)
