use Rattle.std.proofs.Common.{Ok, refl, sym, subst, ◌∙◌}
use Rattle.frame_exits.specs.Ends.{with_modules}
use Rattle.frame_exits.specs.declared.ends.End.{End}
use Rattle.frame_exits.specs.declared.ends.After.TheVariants as afters
use Rattle.frame_exits.specs.Known.{IsKnownAfter}
use Rattle.frame_exits.specs.Thrown.{thrown}
use Rattle.frame_exits.proofs.Throws.{failing_thrown, ends_with}
use Rattle.frame_exits.proofs.finishing.throw_on.Goals as goal

pub returns-in-Some-clause-state : goal.returns-in-Some-clause-state
returns-in-Some-clause-state g c tables w are placed =
    sym (failing_thrown tables c.args.x (with_modules tables w c.args.modules.now) (Ok c.args.x) c.args.frames.now.calls c.requires.running refl)
    ∙ c.in-Some.ensures.state tables w are placed

pub returns-in-None-clause-state : goal.returns-in-None-clause-state
returns-in-None-clause-state g c tables w are placed =
    sym (failing_thrown tables c.args.x (with_modules tables w c.args.modules.now) (Ok c.args.x) c.args.frames.now.calls c.requires.running refl)
    ∙ c.in-None.ensures.state tables w are placed

pub returns-in-Some-clause-after : goal.returns-in-Some-clause-after
returns-in-Some-clause-after g c objects is =
    let texts = g.C.Constants.text_of c.args.consts.now in
    let tuples = g.C.Constants.items_of c.args.consts.now in
    subst (λ (e : End). IsKnownAfter texts tuples objects (afters.Ends e)) (sym (ends_with c.args.x c.in-Some.end (thrown c.args.x c.args.frames.now.calls) c.in-Some.ensures.end)) is
