use Rattle.std.proofs.Common.{refl, sym, ◌∙◌}
use Rattle.mpy_base.proofs.Worlds.{later_same}
use Rattle.frame_moves.specs.prim_walks.Plain.{plain, plain_name}
use Rattle.frame_calls.proofs.Tuples.{judged_well, judged_ill}
use Rattle.frame_calls.proofs.making.make_judged.Goals as goal

pub returns-else-fits : goal.returns-else-fits
returns-else-fits g c =
    let texts = g.C.Constants.text_of c.args.consts.now in
    let tuples = g.C.Constants.items_of c.args.consts.now in
    let h = c.args.arena.now in
    let child = c.args.child in
    record {
      effect = judged_ill texts tuples h child.given (plain_name texts tuples child.name) (plain_name texts tuples child.module_name) child.code c.args.names.cell (plain texts tuples c.args.defaults) _ refl (sym c.if-fits.false ∙ c.has_items-fits.ensures.judged);
      known = tt;
      later = later_same h.objects;
      all_told = c.requires.all_told;
    }

pub returns-then-fits-clause-effect : goal.returns-then-fits-clause-effect
returns-then-fits-clause-effect g c =
    let texts = g.C.Constants.text_of c.args.consts.now in
    let tuples = g.C.Constants.items_of c.args.consts.now in
    let h = c.args.arena.now in
    let child = c.args.child in
    judged_well texts tuples h child.given (plain_name texts tuples child.name) (plain_name texts tuples child.module_name) child.code c.args.names.cell (plain texts tuples c.args.defaults) c.make_function.new.arena c.make_function.result
    (sym c.if-fits.true ∙ c.has_items-fits.ensures.judged) c.make_function.ensures.effect
