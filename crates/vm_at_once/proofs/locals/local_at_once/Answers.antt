use Rattle.std.proofs.Common.{subst, sym}
use Rattle.state_values.specs.vm_fetching.declared.operations.LocalOp.{LocalOp}
use Rattle.state_values.specs.vm_fetching.declared.operations.LocalOp.TheVariants as local_ops
use Rattle.state_values.specs.vm_fetching.Instructions as fetched
use Rattle.vm_at_once.specs.AtOnce.{ActsAtOnce}
use Rattle.vm_at_once.proofs.Done.{at_once}
use Rattle.vm_at_once.proofs.locals.local_at_once.Goals as goal

pub returns-in-LoadFast : goal.returns-in-LoadFast
returns-in-LoadFast g c =
    subst (λ (o : LocalOp). ActsAtOnce (g.C.Constants.text_of c.args.consts.now) (g.C.Constants.items_of c.args.consts.now) (record { instruction = fetched.local o c.args.n; end = c.args.end }) c.args.arena.now c.args.frames.now c.load_short.new.frames c.load_short.result) (sym c.in-LoadFast.is) c.load_short.ensures

pub returns-in-LoadFastN : goal.returns-in-LoadFastN
returns-in-LoadFastN g c =
    subst (λ (o : LocalOp). ActsAtOnce (g.C.Constants.text_of c.args.consts.now) (g.C.Constants.items_of c.args.consts.now) (record { instruction = fetched.local o c.args.n; end = c.args.end }) c.args.arena.now c.args.frames.now c.load_long.new.frames c.load_long.result) (sym c.in-LoadFastN.is) c.load_long.ensures

pub returns-in-StoreFast : goal.returns-in-StoreFast
returns-in-StoreFast g c =
    subst (λ (o : LocalOp). ActsAtOnce (g.C.Constants.text_of c.args.consts.now) (g.C.Constants.items_of c.args.consts.now) (record { instruction = fetched.local o c.args.n; end = c.args.end }) c.args.arena.now c.args.frames.now c.store_fast.new.frames c.done.result) (sym c.in-StoreFast.is)
    (at_once (g.C.Constants.text_of c.args.consts.now) (g.C.Constants.items_of c.args.consts.now) (record { instruction = fetched.local local_ops.StoreFast c.args.n; end = c.args.end }) c.args.arena.now c.args.frames.now c.store_fast.new.frames c.store_fast.result c.done.result c.done.ensures c.store_fast.ensures.acts)

pub returns-in-StoreFastN : goal.returns-in-StoreFastN
returns-in-StoreFastN g c =
    subst (λ (o : LocalOp). ActsAtOnce (g.C.Constants.text_of c.args.consts.now) (g.C.Constants.items_of c.args.consts.now) (record { instruction = fetched.local o c.args.n; end = c.args.end }) c.args.arena.now c.args.frames.now c.store_fast_n.new.frames c.done-in-StoreFastN.result) (sym c.in-StoreFastN.is)
    (at_once (g.C.Constants.text_of c.args.consts.now) (g.C.Constants.items_of c.args.consts.now) (record { instruction = fetched.local local_ops.StoreFastN c.args.n; end = c.args.end }) c.args.arena.now c.args.frames.now c.store_fast_n.new.frames c.store_fast_n.result c.done-in-StoreFastN.result c.done-in-StoreFastN.ensures c.store_fast_n.ensures.acts)
