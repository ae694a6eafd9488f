use Rattle.std.proofs.Common.{◌≡◌, ◌+◌, ◌-◌, ◌≤◌, length, map, drop, reverse, slice_get, Some, None, sym, ap, ◌∙◌, subst, arith}
use Rattle.std.proofs.lemmas.List.{length-replicate}
use Rattle.arena_heap.specs.declared.value.DictNo.{DictNo}
use Rattle.vm_frames.specs.Calls.{Calls, OfRunning, on_running}
use Rattle.snap_states.specs.Decoded.{local_of, handler_of, stack_of}
use Rattle.snap_loading.specs.Framing.{IsLow, slots_in}
use Rattle.snap_loading.proofs.Placing.{call_put}
use Rattle.snap_loading.proofs.Stacking.{with_slots, with_entries, all_get}
use Rattle.snap_loading.proofs.frames.put_frame.Goals as goal

pub push_call-requires-clause-room : goal.push_call-requires-clause-room
push_call-requires-clause-room c = let size = ap length c.as_slice-locals.ensures in omega (arith, c.requires.place.locals, size)

pub set_offset-requires : goal.set_offset-requires
set_offset-requires c = let long = ap (λ (s : Calls). length s.calls) c.push_call.ensures in omega (arith, long)

pub set_locals-requires-clause-as_many : goal.set_locals-requires-clause-as_many
set_locals-requires-clause-as_many c =
    let is = c.set_offset.ensures ∙ ap (on_running (λ k. record k { at = c.args.frame.now.at })) c.push_call.ensures in
    subst (λ (s : Calls). OfRunning (λ k. length k.locals ≡ length c.as_slice-locals.result.now) s.calls) (sym is) (length-replicate (length c.as_slice-locals.result.now) None)

pub set_locals-requires-clause-few : goal.set_locals-requires-clause-few
set_locals-requires-clause-few c = let size = ap length c.as_slice-locals.ensures in omega (arith, c.requires.place.locals, c.room_law.ensures, size)

pub push_slots-requires-clause-room : goal.push_slots-requires-clause-room
push_slots-requires-clause-room c =
    let f = c.args.frame.now in
    let own = local_of c.args.lookup.now.library.now c.args.lookup.now.snapshot.now in
    let parts = c.as_slice.result.now in
    let is =
    c.set_locals.ensures
    ∙ ap (on_running (λ k. record k { locals = map own c.as_slice-locals.result.now })) (c.set_offset.ensures ∙ ap (on_running (λ k. record k { at = f.at })) c.push_call.ensures) in
    let same = ap slots_in c.as_slice.ensures in
    let few : 0 + slots_in parts ≤ c.args.frames.now.slot_room = omega (arith, c.requires.place.slots, same) in
    subst (λ (s : Calls). OfRunning (λ k. length k.slots + slots_in parts ≤ s.slot_room) s.calls) (sym is) few

pub add_entries-requires-clause-room : goal.add_entries-requires-clause-room
add_entries-requires-clause-room c =
    let shelf = c.args.lookup.now.library.now in
    let s = c.args.lookup.now.snapshot.now in
    let f = c.args.frame.now in
    let slots = c.as_slice.result.now in
    let kinds = c.args.kinds.now in
    let taken = length kinds - slots_in slots in
    let same = ap slots_in c.as_slice.ensures in
    let missing : taken + slots_in slots ≡ length kinds = omega (arith, c.requires.place.among, same) in
    let is =
    c.push_slots.ensures taken missing
    ∙ ap (on_running (with_slots (stack_of shelf s (drop taken kinds) (reverse slots))))
    (c.set_locals.ensures
    ∙ ap (on_running (λ k. record k { locals = map (local_of shelf s) c.as_slice-locals.result.now })) (c.set_offset.ensures ∙ ap (on_running (λ k. record k { at = f.at })) c.push_call.ensures)) in
    let size = ap length c.as_slice-2.ensures in
    let few : 0 + length c.as_slice-2.result.now ≤ c.args.frames.now.entry_room = omega (arith, c.requires.place.entries, size) in
    subst (λ (z : Calls). OfRunning (λ k. length k.entries + length c.as_slice-2.result.now ≤ z.entry_room) z.calls) (sym is) few

pub add_entries-requires-clause-low : goal.add_entries-requires-clause-low
add_entries-requires-clause-low c at part e =
    let shelf = c.args.lookup.now.library.now in
    let s = c.args.lookup.now.snapshot.now in
    let f = c.args.frame.now in
    let slots = c.as_slice.result.now in
    let kinds = c.args.kinds.now in
    let taken = length kinds - slots_in slots in
    let same = ap slots_in c.as_slice.ensures in
    let missing : taken + slots_in slots ≡ length kinds = omega (arith, c.requires.place.among, same) in
    let is =
    c.push_slots.ensures taken missing
    ∙ ap (on_running (with_slots (stack_of shelf s (drop taken kinds) (reverse slots))))
    (c.set_locals.ensures
    ∙ ap (on_running (λ k. record k { locals = map (local_of shelf s) c.as_slice-locals.result.now })) (c.set_offset.ensures ∙ ap (on_running (λ k. record k { at = f.at })) c.push_call.ensures)) in
    let wide : c.push_slots.new.frames.slot_room ≡ c.args.frames.now.slot_room = ap (λ (z : Calls). z.slot_room) is in
    let low = all_get (IsLow c.args.frames.now.slot_room) f.entries at part c.requires.place.low (subst (λ ps. slice_get ps at ≡ Some part) c.as_slice-2.ensures e) in
    omega (arith, low, wide)

pub returns : goal.returns
returns c taken e =
    let shelf = c.args.lookup.now.library.now in
    let s = c.args.lookup.now.snapshot.now in
    let f = c.args.frame.now in
    let ks = drop taken c.args.kinds.now in
    let count = ap slots_in c.as_slice.ensures in
    call_put shelf s ks f (record { cell = c.cell_of-cell.result }) c.role_of-role.result (length c.as_slice-locals.result.now)
    c.args.frames.now c.push_call.new.self c.set_offset.new.self c.set_locals.new.frames c.push_slots.new.frames c.add_entries.new.frames
    (ap (λ n. let z : DictNo = record { cell = n } in z) c.cell_of-cell.ensures) c.role_of-role.ensures c.push_call.ensures c.set_offset.ensures
    (c.set_locals.ensures ∙ ap (λ ps. on_running (λ k. record k { locals = map (local_of shelf s) ps }) c.set_offset.new.self) c.as_slice-locals.ensures)
    (c.push_slots.ensures taken (omega (arith, e, count)) ∙ ap (λ ps. on_running (with_slots (stack_of shelf s ks (reverse ps))) c.set_locals.new.frames) c.as_slice.ensures)
    (c.add_entries.ensures ∙ ap (λ ps. on_running (with_entries (map (handler_of shelf s) (reverse ps))) c.push_slots.new.frames) c.as_slice-2.ensures)
