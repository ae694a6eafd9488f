use Rattle.vm_fetching.proofs.Operating.{not_plain}
use Rattle.vm_fetching.proofs.operations.plain.Goals as goal

pub unreachable-requires : goal.unreachable-requires
unreachable-requires c = not_plain c.args.op c.in_default.not-LoadConstFalse c.in_default.not-LoadConstNone c.in_default.not-LoadConstTrue c.in_default.not-LoadNull c.in_default.not-LoadSubscr c.in_default.not-StoreSubscr c.in_default.not-DupTop c.in_default.not-DupTopTwo c.in_default.not-PopTop c.in_default.not-RotTwo c.in_default.not-RotThree c.in_default.not-EndFinally c.in_default.not-GetIterStack c.in_default.not-StoreMap c.in_default.not-ReturnValue c.in_default.not-RaiseLast c.in_default.not-RaiseObj c.requires
