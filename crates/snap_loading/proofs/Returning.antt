-- The snapshot of what a snapshot stands for is that snapshot.
use Rattle.std.proofs.Common.{◌≡◌, ℕ, ◌+◌, ◌-◌, ◌<◌, List, [], ◌∷◌, length, map, drop, replicate, reverse, Option, Some, None, refl, sym, ap, ap₂, ◌∙◌, arith, All, length-append}
use Rattle.std.specs.List.{flat_map}
use Rattle.std.proofs.lemmas.List.{length-replicate, reverse-reverse}
use Rattle.std.proofs.lemmas.List.Elements.{All-head, All-tail}
use Rattle.mpy_base.specs.World.{Heap, ADict, AModule}
use Rattle.arena_heap.specs.declared.value.Value.{Value}
use Rattle.arena_heap.specs.Values.{ArenaObject}
use Rattle.bc_flow.specs.bc_shapes.Shape.{At}
use Rattle.bc_flow.specs.Code as flow
use Rattle.bc_flow.specs.Machine.{remark}
use Rattle.bc_flow.specs.Verified.{Assigned, Holds, IsLeastOf}
use Rattle.bc_flow.proofs.Sound.{stands-length}
use Rattle.bc_library.specs.bc_verify.Body as verify
use Rattle.bc_library.specs.Constants.{items_at, text_at}
use Rattle.bc_library.specs.Shelf.{Shelf}
use Rattle.vm_starting.specs.vm_states.frame_moves.Shown.{Tables}
use Rattle.vm_starting.specs.vm_states.prim_modules.Registry.{Registry}
use Rattle.vm_starting.specs.vm_states.vm_frames.Calls.{Call}
use Rattle.vm_starting.specs.Programs.{IsRunnable}
use Rattle.snap_saving.specs.Shown.{place_in, object_part, registered_part, frame_part, role_part, local_part, slot_part, shown_slots, entry_part, snapshot_of}
use Rattle.snap_grammar.specs.declared.parts.ObjectPart.{ObjectPart}
use Rattle.snap_grammar.specs.declared.parts.SlotPart.{SlotPart}
use Rattle.snap_grammar.specs.declared.parts.EntryPart.{EntryPart}
use Rattle.snap_grammar.specs.declared.parts.RolePart.{RolePart}
use Rattle.snap_grammar.specs.declared.parts.RolePart.TheVariants as roles
use Rattle.snap_grammar.specs.declared.parts.FramePart.{FramePart}
use Rattle.snap_grammar.specs.declared.parts.Snapshot.{Snapshot}
use Rattle.snap_states.specs.Parts.{cells_of_parts, cell_of}
use Rattle.snap_states.specs.States.{IsAt, KeepsFine, IsFineFrame, AreFineFrames, IsShaped}
use Rattle.snap_states.specs.Decoded.{object_of, heap_of, entry_of, modules_of, handler_of, call_of, IsCallOf, AreCallsOf, IsDecoded}
use Rattle.snap_loading.specs.Given.{IsLibrary}
use Rattle.snap_loading.proofs.Counting.{place_at, all_long, objects_back}
use Rattle.snap_loading.proofs.Lying.{cells_in}
use Rattle.snap_loading.proofs.Showing.{stack_long}
use Rattle.snap_loading.proofs.Slotting.{map_reverse, slots_back, locals_back, role_back, entries_back}
use Rattle.snap_loading.proofs.Standing.{all_reverse, shape_once, same_drop}
use Rattle.snap_loading.proofs.Valuing.{at_within, object_back}

-- what the laws of the lower crates say
abbrev pub Marks : Type 0
Marks = (code : flow.Code) (a b : Assigned) (p : ℕ) (x : At) → IsLeastOf code a → Holds code b → a p ≡ Some x → map (remark p) x.entries ≡ x.entries

pub no_tables : Shelf → Tables
no_tables shelf = record { texts = text_at shelf; tuples = items_at shelf; module_name = λ i. []; starts = λ i k. [] }

module _ (marks : Marks) (shelf : Shelf) (s : Snapshot) (title : ℕ → ℕ → ℕ) (is : IsLibrary shelf) (run : IsRunnable shelf) (shaped : IsShaped shelf s) where
  -- the heap
  -- ========

  abbrev place : ℕ → ℕ
  place = place_in (heap_of shelf s title)

  in_place : (n : ℕ) → n < length s.objects → place (cell_of s.objects n) ≡ n
  in_place n lt = place_at (object_of shelf s title) s.objects (replicate (s.used_cells - cells_of_parts s.objects) None) n (omega (arith, lt))

  used_is : length (heap_of shelf s title).objects ≡ s.used_cells
  used_is =
      let empty : Option ArenaObject = None in
      let rest = s.used_cells - cells_of_parts s.objects in
      let a = length-append (flat_map (cells_in (object_of shelf s title)) s.objects) (replicate rest empty) in
      let b = all_long (object_of shelf s title) s.objects in
      let c = length-replicate rest empty in
      let d = shaped.room.cells_held in
      let sum : length (heap_of shelf s title).objects ≡ cells_of_parts s.objects + rest = a ∙ ap₂ (λ x y. x + y) b c in
      omega (arith, sum, d)

  -- registered modules
  modules_back : (ns : List ℕ) → All (IsAt s AModule) ns → map (registered_part place) (map (entry_of shelf s) ns) ≡ ns
  modules_back [] h = refl
  modules_back (n ∷ ns) h = ap₂ (λ a zs. a ∷ zs) (in_place n (at_within s AModule n (All-head (IsAt s AModule) n ns h))) (modules_back ns (All-tail (IsAt s AModule) n ns h))

  -- frames
  -- ======

  module _ (above : Option RolePart) (f : FramePart) (fine : IsFineFrame shelf s above f) where
    abbrev call : Call
    call = call_of shelf s (drop fine.taken fine.stands.shape.slots) f

    call_is : (c : Call) → IsCallOf shelf s f c → c ≡ call
    call_is c h =
        let shape = shape_once shelf f.module_number f.code f.at h.stands fine.stands in
        let kinds_there : c ≡ call_of shelf s (drop h.taken fine.stands.shape.slots) f = h.is ∙ ap (λ (z : At). call_of shelf s (drop h.taken z.slots) f) shape in
        let long = stack_long (no_tables shelf) shelf s title fine.stands.offsets (reverse f.slots) fine.stack (drop h.taken fine.stands.shape.slots) fine.shows in
        let slots_long : length c.slots ≡ length fine.stack = ap (λ (z : Call). length z.slots) kinds_there ∙ long in
        let size = stands-length fine.stack (drop fine.taken fine.stands.shape.slots) fine.slots in
        let whole : h.taken + length c.slots ≡ length fine.stands.shape.slots = h.slots_are ∙ ap (λ (z : At). length z.slots) shape in
        let dropped = same_drop fine.stands.shape.slots fine.taken h.taken (length c.slots) (sym (slots_long ∙ size)) whole in
        kinds_there ∙ ap (λ z. call_of shelf s z f) dropped

    marked : map (remark fine.stands.position) fine.stands.shape.entries ≡ fine.stands.shape.entries
    marked = marks (verify.flow_of fine.stands.body) fine.stands.a fine.stands.a fine.stands.position fine.stands.shape fine.stands.least fine.stands.holds fine.stands.is

    entries_are : map (entry_part place f.at) (reverse (map (handler_of shelf s) (reverse f.entries))) ≡ f.entries
    entries_are =
        map_reverse (entry_part place f.at) (map (handler_of shelf s) (reverse f.entries))
        ∙ (ap reverse
        (entries_back shelf s is place in_place fine.stands.says.begins.instructions (record { items = fine.stands.body.items; offsets = fine.stands.offsets }) fine.stands.says.lists fine.stands.position f.at fine.stands.here (reverse f.entries)
        fine.stands.shape.entries fine.entries marked (all_reverse (KeepsFine s) f.entries fine.kept))
        ∙ reverse-reverse f.entries)

    slots_are : map (slot_part shelf place) (shown_slots (reverse call.slots)) ≡ f.slots
    slots_are =
        slots_back shelf s is place in_place fine.stands.offsets (reverse f.slots) fine.stack (drop fine.taken fine.stands.shape.slots) fine.shows fine.slots ∙ reverse-reverse f.slots

    frame_back : frame_part shelf place call ≡ f
    frame_back =
        let make : ℕ → RolePart → List SlotPart → List SlotPart → List EntryPart → FramePart = λ names role locals slots entries.
        record { module_number = f.module_number; code = f.code; at = f.at; names = names; role = role; locals = locals; slots = slots; entries = entries } in
        let n = in_place f.names (at_within s ADict f.names fine.names.dict) in
        let r = role_back shelf s is place in_place f.role fine.role in
        let l = locals_back shelf s is place in_place f.locals fine.locals in
        ap (λ z. make z (role_part place call.role) (map (local_part shelf place) call.locals) (map (slot_part shelf place) (shown_slots (reverse call.slots))) (map (entry_part place f.at) (reverse call.entries))) n
        ∙ (ap (λ z. make f.names z (map (local_part shelf place) call.locals) (map (slot_part shelf place) (shown_slots (reverse call.slots))) (map (entry_part place f.at) (reverse call.entries))) r
        ∙ (ap (λ z. make f.names f.role z (map (slot_part shelf place) (shown_slots (reverse call.slots))) (map (entry_part place f.at) (reverse call.entries))) l
        ∙ (ap (λ z. make f.names f.role f.locals z (map (entry_part place f.at) (reverse call.entries))) slots_are ∙ ap (λ z. make f.names f.role f.locals f.slots z) entries_are)))

  below : (above : Option RolePart) (f : FramePart) (fs : List FramePart) → AreFineFrames shelf s above (f ∷ fs) → IsFineFrame shelf s above f × AreFineFrames shelf s (Some f.role) fs
  below None f fs h = h
  below (Some roles.Main) f fs h = absurd h
  below (Some roles.Call) f fs h = h
  below (Some (roles.Import m)) f fs h = h

  frames_back : (above : Option RolePart) (fs : List FramePart) (cs : List Call) → AreFineFrames shelf s above fs → AreCallsOf shelf s fs cs → map (frame_part shelf place) cs ≡ fs
  frames_back above [] [] fine are = refl
  frames_back above [] (c ∷ cs) fine are = absurd are
  frames_back above (f ∷ fs) [] fine are = absurd are
  frames_back above (f ∷ fs) (c ∷ cs) fine are =
      let q = below above f fs fine in
      ap₂ (λ a zs. a ∷ zs) (ap (frame_part shelf place) (call_is above f q.0 c are.0) ∙ frame_back above f q.0) (frames_back (Some f.role) fs cs q.1 are.1)

  -- the whole
  whole_back : (calls : List Call) → AreCallsOf shelf s (reverse s.frames) calls → snapshot_of shelf (heap_of shelf s title) (modules_of shelf s) calls s.paid ≡ s
  whole_back calls are =
      let make : ℕ → List ObjectPart → List ℕ → List FramePart → Snapshot = λ used objects modules frames.
      record { cells = s.cells; bytes = s.bytes; used_cells = used; used_bytes = s.used_bytes; paid = s.paid; objects = objects; modules = modules; frames = frames } in
      let os = objects_back (object_of shelf s title) (object_part shelf place) s.objects (s.used_cells - cells_of_parts s.objects) (λ i o e. object_back shelf s is place in_place run title i o (shaped.objects i o e)) in
      let ms = modules_back s.modules shaped.registered.modules in
      let fs : map (frame_part shelf place) (reverse calls) ≡ s.frames = map_reverse (frame_part shelf place) calls ∙ (ap reverse (frames_back None (reverse s.frames) calls shaped.frames are) ∙ reverse-reverse s.frames) in
      let start = snapshot_of shelf (heap_of shelf s title) (modules_of shelf s) calls s.paid in
      ap (λ z. make z start.objects start.modules start.frames) used_is
      ∙ (ap (λ z. make s.used_cells z start.modules start.frames) os ∙ (ap (λ z. make s.used_cells s.objects z start.frames) ms ∙ ap (λ z. make s.used_cells s.objects s.modules z) fs))

pub shown_back : (marks : Marks) (shelf : Shelf) (s : Snapshot) (heap : Heap Value ℕ) (modules : Registry) (calls : List Call) → IsLibrary shelf → IsRunnable shelf → IsShaped shelf s → IsDecoded shelf s heap modules calls
    → snapshot_of shelf heap modules calls s.paid ≡ s
shown_back marks shelf s heap modules calls is run shaped d =
    ap (λ (h : Heap Value ℕ). snapshot_of shelf h modules calls s.paid) d.heap_is
    ∙ (ap (λ (m : Registry). snapshot_of shelf (heap_of shelf s d.title) m calls s.paid) d.modules_are ∙ whole_back marks shelf s d.title is run shaped calls d.calls_are)
