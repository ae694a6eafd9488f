use Rattle.std.proofs.Common.{sym, subst}
use Rattle.state_values.specs.vm_fetching.declared.operations.ItemOp.{ItemOp}
use Rattle.state_values.specs.Moving.{fetched_item}
use Rattle.vm_at_once.specs.AtOnce.{ActsAtOnce}
use Rattle.vm_at_once.proofs.acting.item_at_once.Goals as goal

pub returns-in-LoadSubscr : goal.returns-in-LoadSubscr
returns-in-LoadSubscr g c =
    subst (λ (o : ItemOp). ActsAtOnce (g.C.Constants.text_of c.args.consts.now) (g.C.Constants.items_of c.args.consts.now) (fetched_item o c.args.end) c.args.arena.now c.args.frames.now c.load_item.new.frames c.load_item.result) (sym c.in-LoadSubscr.is) c.load_item.ensures
