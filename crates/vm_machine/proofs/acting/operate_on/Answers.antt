use Rattle.std.proofs.Common.{◌≡◌, length, refl, ap, arith}
use Rattle.std.proofs.lemmas.List.{with_items_is}
use Rattle.vm_kept.specs.state_calls.vm_fetching.Instructions as fetched
use Rattle.vm_machine.proofs.Fetched.{in_program, runs_with}
use Rattle.vm_machine.proofs.acting.operate_on.Goals as goal

pub operate-ended-requires-clause-places : goal.operate-ended-requires-clause-places
operate-ended-requires-clause-places c =
    let m = c.requires.fetched.is_vm.memory in
    let room = m.slot_room in
    let items = m.items in
    let same = ap length c.deref_mut.ensures.value in
    omega (arith, room, items, same)

pub operate-ended-requires-clause-runs : goal.operate-ended-requires-clause-runs
operate-ended-requires-clause-runs c = (c.args.library.now, runs_with c.args.library.now c.args.vm.now c.args.row.now (record { instruction = fetched.stays c.args.step; end = c.args.end }) c.requires.fetched c.deref.result.now c.deref.ensures.value)

pub returns : goal.returns
returns c =
    let vec = c.args.vm.now.items in
    let long : length c.operate-ended.new.items ≡ vec.len = omega (arith, c.operate-ended.auto.items, c.deref_mut.ensures.len) in
    let same = ap length c.deref_mut.ensures.value in
    let kept = ap length (with_items_is vec c.operate-ended.new.items long) in
    record {
      comes = λ p of. in_program c.args.library.now c.args.vm.now c.args.row.now (record { instruction = fetched.stays c.args.step; end = c.args.end }) c.requires.fetched p of c.deref.result.now c.deref.ensures.value (c.operate-ended.ensures.comes p);
      memory = record { frames = c.operate-ended.ensures.rooms; modules = c.operate-ended.ensures.registry; names = refl; operands = refl; bindings = refl; items = omega (arith, kept, same, c.operate-ended.auto.items) };
      paid = refl;
    }
