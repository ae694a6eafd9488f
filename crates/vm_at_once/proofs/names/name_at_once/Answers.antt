use Rattle.std.proofs.Common.{subst, sym}
use Rattle.state_values.specs.vm_fetching.declared.operations.NameOp.{NameOp}
use Rattle.state_values.specs.vm_fetching.Instructions as fetched
use Rattle.vm_at_once.specs.AtOnce.{ActsAtOnce}
use Rattle.vm_at_once.proofs.names.name_at_once.Goals as goal

pub returns-in-LoadName : goal.returns-in-LoadName
returns-in-LoadName g c =
    subst (λ (o : NameOp). ActsAtOnce (g.C.Constants.text_of c.args.consts.now) (g.C.Constants.items_of c.args.consts.now) (record { instruction = fetched.name o c.args.name; end = c.args.end }) c.args.arena.now c.args.frames.now c.load_name.new.frames c.load_name.result) (sym c.in-LoadName.is) c.load_name.ensures

pub returns-in-LoadGlobal : goal.returns-in-LoadGlobal
returns-in-LoadGlobal g c =
    subst (λ (o : NameOp). ActsAtOnce (g.C.Constants.text_of c.args.consts.now) (g.C.Constants.items_of c.args.consts.now) (record { instruction = fetched.name o c.args.name; end = c.args.end }) c.args.arena.now c.args.frames.now c.load_global.new.frames c.load_global.result) (sym c.in-LoadGlobal.is) c.load_global.ensures
