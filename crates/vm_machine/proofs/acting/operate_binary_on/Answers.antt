use Rattle.std.proofs.Common.{refl}
use Rattle.vm_kept.specs.state_calls.vm_fetching.Instructions as fetched
use Rattle.vm_machine.proofs.Fetched.{in_program, runs_with}
use Rattle.vm_machine.proofs.acting.operate_binary_on.Goals as goal

pub operate_binary-ended-requires : goal.operate_binary-ended-requires
operate_binary-ended-requires c = record { runs = (c.args.library.now, runs_with c.args.library.now c.args.vm.now c.args.row.now (record { instruction = fetched.binary c.args.number; end = c.args.end }) c.requires.fetched c.deref.result.now c.deref.ensures.value) }

pub returns : goal.returns
returns c = record {
  comes = λ p of. in_program c.args.library.now c.args.vm.now c.args.row.now (record { instruction = fetched.binary c.args.number; end = c.args.end }) c.requires.fetched p of c.deref.result.now c.deref.ensures.value (c.operate_binary-ended.ensures.comes p);
  memory = record { frames = c.operate_binary-ended.ensures.rooms; modules = c.operate_binary-ended.ensures.registry; names = refl; operands = refl; bindings = refl; items = refl };
  paid = refl;
}
