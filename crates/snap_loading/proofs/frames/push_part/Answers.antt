use Rattle.std.proofs.Common.{ℕ, ◌+◌, ◌≤◌, [], ◌∷◌, length, sym, ap, ◌∙◌, subst}
use Rattle.vm_frames.specs.declared.slot.Slot.TheVariants as stacked
use Rattle.vm_frames.specs.Calls.{OfRunning, on_running}
use Rattle.snap_states.specs.Decoded.{filled, iterator_of, slots_of, value_of}
use Rattle.snap_loading.proofs.Stacking.{with_slots, room_one, iterator_long}
use Rattle.snap_loading.proofs.frames.push_part.Goals as goal

pub push-requires : goal.push-requires
push-requires c =
    let shelf = c.args.lookup.now.library.now in
    let s = c.args.lookup.now.snapshot.now in
    let kind = c.args.kind in
    let old = c.args.frames.now in
    let room = subst (λ p. OfRunning (λ k. length k.slots + length (slots_of shelf s kind p) ≤ old.slot_room) old.calls) c.in-Value.is c.requires.room in
    room_one old room

pub push-requires-in-Empty : goal.push-requires-in-Empty
push-requires-in-Empty c =
    let shelf = c.args.lookup.now.library.now in
    let s = c.args.lookup.now.snapshot.now in
    let kind = c.args.kind in
    let old = c.args.frames.now in
    let room = subst (λ p. OfRunning (λ k. length k.slots + length (slots_of shelf s kind p) ≤ old.slot_room) old.calls) c.in-Empty.is c.requires.room in
    room_one old room

pub push-requires-in-Return : goal.push-requires-in-Return
push-requires-in-Return c =
    let shelf = c.args.lookup.now.library.now in
    let s = c.args.lookup.now.snapshot.now in
    let kind = c.args.kind in
    let old = c.args.frames.now in
    let room = subst (λ p. OfRunning (λ k. length k.slots + length (slots_of shelf s kind p) ≤ old.slot_room) old.calls) c.in-Return.is c.requires.room in
    room_one old room

pub returns-in-Value : goal.returns-in-Value
returns-in-Value c =
    let shelf = c.args.lookup.now.library.now in
    let s = c.args.lookup.now.snapshot.now in
    let kind = c.args.kind in
    let old = c.args.frames.now in
    let room = subst (λ p. OfRunning (λ k. length k.slots + length (slots_of shelf s kind p) ≤ old.slot_room) old.calls) c.in-Value.is c.requires.room in
    c.push.ensures
    ∙ (ap (λ x. on_running (with_slots (x ∷ [])) old) (c.filled-slot.ensures ∙ ap (filled kind) c.value_of-value.ensures)
    ∙ ap (λ p. on_running (with_slots (slots_of shelf s kind p)) old) (sym c.in-Value.is))

pub returns-in-Empty : goal.returns-in-Empty
returns-in-Empty c =
    let shelf = c.args.lookup.now.library.now in
    let s = c.args.lookup.now.snapshot.now in
    let kind = c.args.kind in
    let old = c.args.frames.now in
    let room = subst (λ p. OfRunning (λ k. length k.slots + length (slots_of shelf s kind p) ≤ old.slot_room) old.calls) c.in-Empty.is c.requires.room in
    c.push-in-Empty.ensures
    ∙ (ap (λ x. on_running (with_slots (x ∷ [])) old) c.vacant-slot.ensures
    ∙ ap (λ p. on_running (with_slots (slots_of shelf s kind p)) old) (sym c.in-Empty.is))

pub push_iterator-requires : goal.push_iterator-requires
push_iterator-requires c =
    let shelf = c.args.lookup.now.library.now in
    let s = c.args.lookup.now.snapshot.now in
    let kind = c.args.kind in
    let old = c.args.frames.now in
    let room = subst (λ p. OfRunning (λ k. length k.slots + length (slots_of shelf s kind p) ≤ old.slot_room) old.calls) c.in-Iterator.is c.requires.room in
    room

pub returns-in-Iterator : goal.returns-in-Iterator
returns-in-Iterator c =
    let shelf = c.args.lookup.now.library.now in
    let s = c.args.lookup.now.snapshot.now in
    let kind = c.args.kind in
    let old = c.args.frames.now in
    let room = subst (λ p. OfRunning (λ k. length k.slots + length (slots_of shelf s kind p) ≤ old.slot_room) old.calls) c.in-Iterator.is c.requires.room in
    c.push_iterator.ensures
    ∙ (ap (λ x. on_running (with_slots (iterator_of 4 x c.in-Iterator.at)) old) c.value_of-value-in-Iterator.ensures
    ∙ ap (λ p. on_running (with_slots (slots_of shelf s kind p)) old) (sym c.in-Iterator.is))

pub returns-in-Return : goal.returns-in-Return
returns-in-Return c =
    let shelf = c.args.lookup.now.library.now in
    let s = c.args.lookup.now.snapshot.now in
    let kind = c.args.kind in
    let old = c.args.frames.now in
    let room = subst (λ p. OfRunning (λ k. length k.slots + length (slots_of shelf s kind p) ≤ old.slot_room) old.calls) c.in-Return.is c.requires.room in
    c.push-in-Return.ensures
    ∙ (ap (λ x. on_running (with_slots (stacked.Return x ∷ [])) old) c.value_of-value-in-Return.ensures
    ∙ ap (λ p. on_running (with_slots (slots_of shelf s kind p)) old) (sym c.in-Return.is))

pub push_iterator-requires-in-Left : goal.push_iterator-requires-in-Left
push_iterator-requires-in-Left c =
    let shelf = c.args.lookup.now.library.now in
    let s = c.args.lookup.now.snapshot.now in
    let kind = c.args.kind in
    let old = c.args.frames.now in
    let room = subst (λ p. OfRunning (λ k. length k.slots + length (slots_of shelf s kind p) ≤ old.slot_room) old.calls) c.in-Left.is c.requires.room in
    let v = value_of shelf s c.in-Left.over in
    let long = iterator_long c.in-Left.slots v c.in-Left.at in
    subst (λ (n : ℕ). OfRunning (λ k. length k.slots + n ≤ old.slot_room) old.calls) long room

pub returns-in-Left : goal.returns-in-Left
returns-in-Left c =
    let shelf = c.args.lookup.now.library.now in
    let s = c.args.lookup.now.snapshot.now in
    let kind = c.args.kind in
    let old = c.args.frames.now in
    let room = subst (λ p. OfRunning (λ k. length k.slots + length (slots_of shelf s kind p) ≤ old.slot_room) old.calls) c.in-Left.is c.requires.room in
    c.push_iterator-in-Left.ensures
    ∙ (ap (λ x. on_running (with_slots (iterator_of c.in-Left.slots x c.in-Left.at)) old) c.value_of-value-in-Left.ensures
    ∙ ap (λ p. on_running (with_slots (slots_of shelf s kind p)) old) (sym c.in-Left.is))

pub push-requires-in-Jump : goal.push-requires-in-Jump
push-requires-in-Jump c =
    let shelf = c.args.lookup.now.library.now in
    let s = c.args.lookup.now.snapshot.now in
    let kind = c.args.kind in
    let old = c.args.frames.now in
    let room = subst (λ p. OfRunning (λ k. length k.slots + length (slots_of shelf s kind p) ≤ old.slot_room) old.calls) c.in-Jump.is c.requires.room in
    room_one old room

pub returns-in-Jump : goal.returns-in-Jump
returns-in-Jump c =
    let shelf = c.args.lookup.now.library.now in
    let s = c.args.lookup.now.snapshot.now in
    let kind = c.args.kind in
    let old = c.args.frames.now in
    let room = subst (λ p. OfRunning (λ k. length k.slots + length (slots_of shelf s kind p) ≤ old.slot_room) old.calls) c.in-Jump.is c.requires.room in
    c.push-in-Jump.ensures ∙ ap (λ p. on_running (with_slots (slots_of shelf s kind p)) old) (sym c.in-Jump.is)
