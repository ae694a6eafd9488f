use Rattle.std.proofs.Common.{sym, ◌∙◌}
use Rattle.snap_states.proofs.Judging.{module_named, named_place}
use Rattle.snap_states.proofs.objects.is_module_name.Goals as goal

pub returns : goal.returns
returns c = (
  λ t. let m = c.is_module.ensures.0 t in module_named c.args.library.now c.args.name.now m.0 (sym c.find.ensures ∙ m.1),
  λ h. let m = named_place c.args.library.now c.args.name.now h in c.is_module.ensures.1 (m.0, c.find.ensures ∙ m.1),
)
