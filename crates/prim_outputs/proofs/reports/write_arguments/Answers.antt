use Rattle.std.proofs.Common.{sym, ap, ◌∙◌}
use Rattle.prim_builtins.specs.arena_objects.Iterables.{items_in}
use Rattle.py_effects.specs.Ends.{arguments_text}
use Rattle.prim_builtins.specs.prim_walks.Plain.{plain_heap}
use Rattle.prim_builtins.proofs.prim_walks_lemmas.PenSteps.{wrote_nothing, wrote_as}
use Rattle.prim_outputs.proofs.ReportTexts.{no_argument, one_argument, more_arguments}
use Rattle.prim_outputs.proofs.reports.write_arguments.Goals as goal

pub returns-then-count-eq0 : goal.returns-then-count-eq0
returns-then-count-eq0 g c =
    let texts = g.C.Constants.text_of c.args.consts.now in
    let tuples = g.C.Constants.items_of c.args.consts.now in
    let h = c.args.arena.now in
    let count = c.argument_count-count.ensures in
    wrote_as (wrote_nothing c.args.pen.now)
    (sym (ap (arguments_text (plain_heap texts tuples h)) count.items ∙ no_argument texts tuples h (items_in tuples h c.args.args) (sym count.count ∙ c.if-count-eq0.true)))

pub returns-then-count-eq1 : goal.returns-then-count-eq1
returns-then-count-eq1 g c =
    let texts = g.C.Constants.text_of c.args.consts.now in
    let tuples = g.C.Constants.items_of c.args.consts.now in
    let h = c.args.arena.now in
    let count = c.argument_count-count.ensures in
    wrote_as c.write_sole.ensures
    (sym (ap (arguments_text (plain_heap texts tuples h)) count.items ∙ one_argument texts tuples h (items_in tuples h c.args.args) c.item_at-only.result (sym count.count ∙ c.if-count-eq1.true) c.item_at-only.ensures.item))

pub returns : goal.returns
returns g c =
    let texts = g.C.Constants.text_of c.args.consts.now in
    let tuples = g.C.Constants.items_of c.args.consts.now in
    let h = c.args.arena.now in
    let count = c.argument_count-count.ensures in
    wrote_as c.write.ensures
    (sym (ap (arguments_text (plain_heap texts tuples h)) count.items
    ∙ more_arguments texts tuples h (items_in tuples h c.args.args) (λ e. c.if-count-eq0.false (count.count ∙ e)) (λ e. c.if-count-eq1.false (count.count ∙ e))))
