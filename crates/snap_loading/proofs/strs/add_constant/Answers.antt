use Rattle.snap_loading.specs.Texts.{beside}
use Rattle.snap_loading.proofs.Besides.{constant_some, constant_none}
use Rattle.snap_loading.proofs.strs.add_constant.Goals as goal

pub returns-in_ok-add-in-Some : goal.returns-in_ok-add-in-Some
returns-in_ok-add-in-Some c = λ n x at in_it other.
    constant_some c.args.library.now c.args.number c.in-Some.text.now c.in-Some.ensures.text (beside c.args.strs.now.entries other) (beside c.add.new.strs.entries other) other (c.in_ok-add-in-Some.ensures other) n x at in_it

pub returns-in-None : goal.returns-in-None
returns-in-None c = λ n x at in_it other. constant_none c.args.library.now c.args.number c.in-None.ensures.text (beside c.args.strs.now.entries other) other n x at in_it
