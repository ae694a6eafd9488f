use Rattle.vm_fetching.proofs.Operating.{not_name}
use Rattle.vm_fetching.proofs.operations.named.Goals as goal

pub unreachable-requires : goal.unreachable-requires
unreachable-requires c = not_name c.args.op c.in_default.not-LoadConstString c.in_default.not-LoadName c.in_default.not-LoadGlobal c.in_default.not-StoreName c.in_default.not-StoreGlobal c.in_default.not-DeleteName c.in_default.not-DeleteGlobal c.in_default.not-LoadAttr c.in_default.not-LoadMethod c.in_default.not-StoreAttr c.in_default.not-ImportName c.in_default.not-ImportFrom c.requires
