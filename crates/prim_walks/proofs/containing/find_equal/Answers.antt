use Rattle.std.proofs.Common.{ℕ, Bool, true, false, Option, Result, Ok, Err, ap, ◌∙◌, arith}
use Rattle.arena_objects.specs.Iterables.{items_in}
use Rattle.prim_walks.specs.declared.budget.Halt.{Halt}
use Rattle.prim_walks.specs.Plain.{plain, plain_heap}
use Rattle.prim_walks.proofs.RunSteps.{run_answers}
use Rattle.prim_walks.proofs.ContainSteps.{contains_step, contains_end}
use Rattle.prim_walks.proofs.containing.find_equal.Goals as goal

pub returns-in-Ok-true : goal.returns-in-Ok-true
returns-in-Ok-true g c =
    let texts = g.C.Constants.text_of c.args.consts.now in
    let tuples = g.C.Constants.items_of c.args.consts.now in
    let h = c.args.arena.now in
    let heap = plain_heap texts tuples h in
    let new = c.equal_values.new.budget.left in
    let pair : Bool → Result Bool Halt × Option ℕ = λ b. (Ok b, new) in
    c.loop-at.invariant ∙ (contains_step heap (plain texts tuples c.args.v) (plain texts tuples) (items_in tuples h c.args.over) c.loop-at.at c.item_at-item.result c.loop-at.budget.left new (Ok true) c.item_at-item.ensures.item (c.in-Ok-true.ensures ∙ ap pair c.in-Ok-true.field-0-test) ∙ run_answers true new)

pub returns-in-Err : goal.returns-in-Err
returns-in-Err g c =
    let texts = g.C.Constants.text_of c.args.consts.now in
    let tuples = g.C.Constants.items_of c.args.consts.now in
    let h = c.args.arena.now in
    let heap = plain_heap texts tuples h in
    let new = c.equal_values.new.budget.left in
    c.loop-at.invariant ∙ contains_step heap (plain texts tuples c.args.v) (plain texts tuples) (items_in tuples h c.args.over) c.loop-at.at c.item_at-item.result c.loop-at.budget.left new (Err c.in-Err.halt) c.item_at-item.ensures.item c.in-Err.ensures

pub loop-at-preserved : goal.loop-at-preserved
loop-at-preserved g c =
    let texts = g.C.Constants.text_of c.args.consts.now in
    let tuples = g.C.Constants.items_of c.args.consts.now in
    let h = c.args.arena.now in
    let heap = plain_heap texts tuples h in
    let new = c.equal_values.new.budget.left in
    let pair : Bool → Result Bool Halt × Option ℕ = λ b. (Ok b, new) in
    c.loop-at.invariant ∙ contains_step heap (plain texts tuples c.args.v) (plain texts tuples) (items_in tuples h c.args.over) c.loop-at.at c.item_at-item.result c.loop-at.budget.left new (Ok false) c.item_at-item.ensures.item (c.in-Ok-false.ensures ∙ ap pair c.in-Ok-false.field-0-test)

pub returns : goal.returns
returns g c =
    let texts = g.C.Constants.text_of c.args.consts.now in
    let tuples = g.C.Constants.items_of c.args.consts.now in
    let h = c.args.arena.now in
    let heap = plain_heap texts tuples h in
    c.loop-at.invariant ∙ contains_end heap (plain texts tuples c.args.v) (plain texts tuples) (items_in tuples h c.args.over) c.loop-at.at c.loop-at.budget.left (omega (arith, c.loop-at-test.false, c.item_count-at-end.ensures))
