-- The machine of a snapshot is in the state of the machine that was saved so, but for the numbers of objects.
use Rattle.std.proofs.Common.{◌≡◌, ℕ, zero, suc, ◌-◌, ◌<◌, ◌≤◌, Bool, true, false, List, [], ◌∷◌, length, map, drop, replicate, reverse, Option, Some, None, slice_get, refl, sym, ap, ap₂, ◌∙◌, subst, arith, All}
use Rattle.std.specs.Prelude.{is_some, IfSome}
use Rattle.std.specs.List.{filter_map, AllByRecursion as Each}
use Rattle.std.specs.Option.{option_map}
use Rattle.std.proofs.lemmas.List.{length-map, reverse-reverse}
use Rattle.std.proofs.lemmas.List.Elements.{All-head, All-tail, recursion_from_All}
use Rattle.mpy_base.specs.World.{Heap, Objects, Object, ListObject, TupleObject, TextObject, DictObject, FunctionObject, ExceptionObject, MethodObject, RangeObject, ModuleObject, ObjectKind, AnException, AModule, IsA, object, kind_of}
use Rattle.mpy_base.specs.Val.{Val}
use Rattle.arena_heap.specs.declared.value.Value.{Value}
use Rattle.arena_heap.specs.declared.value.ExcNo.{ExcNo}
use Rattle.arena_heap.specs.declared.value.StrNo.TheVariants as strs
use Rattle.arena_heap.specs.Values.{ArenaObject}
use Rattle.bc_flow.specs.bc_shapes.declared.kinds.Kind.{Kind as SlotKind}
use Rattle.bc_flow.specs.bc_shapes.declared.kinds.Want.{Want}
use Rattle.bc_flow.specs.bc_shapes.declared.kinds.Give.{Give}
use Rattle.bc_flow.specs.bc_shapes.declared.kinds.Give.TheVariants.{New}
use Rattle.bc_flow.specs.bc_shapes.declared.kinds.Kind.TheVariants as kinds
use Rattle.bc_flow.specs.bc_shapes.Shape.{At}
use Rattle.bc_flow.specs.Action.{Action, Straight, action}
use Rattle.bc_flow.specs.Code as flow
use Rattle.bc_flow.specs.Verified.{Assigned}
use Rattle.bc_flow.proofs.Sound.{stands_drop}
use Rattle.bc_labels.specs.Positions.{position_in}
use Rattle.bc_library.specs.bc_verify.Body as verify
use Rattle.bc_library.specs.Constants.{items_at, text_at}
use Rattle.bc_library.specs.Shelf.{Shelf, Named}
use Rattle.bc_machine.specs.py_values.Shown.{PlainHeap}
use Rattle.bc_machine.specs.Library.{Code, code_at}
use Rattle.bc_machine.specs.State as states
use Rattle.vm_kept.specs.Kept.{KeepCalls}
use Rattle.vm_starting.specs.vm_states.bc_progress.Known.{facts_of}
use Rattle.vm_starting.specs.vm_states.bc_progress.Fits.{StandsIn, WaitsIn, BelowIn}
use Rattle.vm_starting.specs.vm_states.bc_progress.Plans.{flow_of}
use Rattle.vm_starting.specs.vm_states.frame_exits.Known.{KeepsException}
use Rattle.vm_starting.specs.vm_states.frame_moves.Shown.{view_of}
use Rattle.vm_starting.specs.vm_states.prim_modules.declared.entry.Entry.{Entry as Registered}
use Rattle.vm_starting.specs.vm_states.prim_modules.Registry.{Registry, plain_entry, plain_modules}
use Rattle.vm_starting.specs.vm_states.vm_frames.declared.slot.Entry.{Entry}
use Rattle.vm_starting.specs.vm_states.vm_frames.declared.slot.Role.{Role}
use Rattle.vm_starting.specs.vm_states.vm_frames.declared.slot.Role.TheVariants as ends
use Rattle.vm_starting.specs.vm_states.vm_frames.Calls.{Call}
use Rattle.vm_starting.specs.vm_states.vm_frames.Views.{frame_of, role_of}
use Rattle.vm_starting.specs.vm_states.Means.{Program, Means}
use Rattle.vm_starting.specs.vm_states.State.{IsKnownCall}
use Rattle.vm_starting.specs.Programs.{FindsAll}
use Rattle.vm_starting.specs.declared.opening.Vm.{Vm}
use Rattle.vm_machine.specs.Machine.{RunsProgram, world_in}
use Rattle.vm_machine.specs.prim_walks.Plain.{plain_name, plain_object, plain_heap}
use Rattle.snap_saving.specs.Shown.{place_in, name_of, object_part, registered_part, role_part, frame_part, snapshot_of}
use Rattle.snap_laws.specs.Renamed.{Renaming, IsRenamed, object_as}
use Rattle.snap_laws.specs.Worlds.{module_as}
use Rattle.snap_laws.specs.States.{frame_as}
use Rattle.snap_kept.specs.Values.{IsThere, title_of, NamesOf, AreFine}
use Rattle.snap_kept.specs.Frames.{IsRole, IsFrame}
use Rattle.snap_grammar.specs.declared.parts.ObjectPart.{ObjectPart}
use Rattle.snap_grammar.specs.declared.parts.RolePart.{RolePart}
use Rattle.snap_grammar.specs.declared.parts.RolePart.TheVariants as roles
use Rattle.snap_grammar.specs.declared.parts.FramePart.{FramePart}
use Rattle.snap_grammar.specs.declared.parts.Snapshot.{Snapshot}
use Rattle.snap_states.specs.Parts.{cells_of_parts, cell_of}
use Rattle.snap_states.specs.States.{Waits, IsFineObject, AreFineObjects, IsFineFrame, AreFineFrames, IsShaped}
use Rattle.snap_states.specs.Decoded.{AreTitles, name_number, name_in_part, object_of, heap_of, entry_of, IsCallOf, AreCallsOf, IsDecoded}
use Rattle.snap_loading.specs.Given.{IsLibrary, HasRow, HasCodeRows, HasNames}
use Rattle.snap_loading.proofs.Bridging.{get_map, get_there}
use Rattle.snap_loading.proofs.Counting.{place_at}
use Rattle.snap_loading.proofs.Decoding.{seen, named, object_as as decoded_as, frame_is}
use Rattle.snap_loading.proofs.Gathering.{some_world, Gathered}
use Rattle.snap_loading.proofs.Lying.{object_at}
use Rattle.snap_loading.proofs.Matching.{has, count, before, object_cell, blank_cell, object_back, blank_has, before_is, before_count, part_at, parts_count, matched, matched_object, matched_blank}
use Rattle.snap_loading.proofs.Reframing.{is_upper, marks, drop_map, Marked, marked, marks_below, Led, led, KeptThere, RoleThere, Leads, frame_by}
use Rattle.snap_loading.proofs.Registering.{name_known}
use Rattle.snap_loading.proofs.Saming.{there_of, given, told, object_by, value_by, has_one, has_none, plain_there, spaces, fine_at}
use Rattle.snap_loading.proofs.Saving.{modules_titled, plain_at, plain_kind}
use Rattle.snap_loading.proofs.Slotting.{map_reverse}
use Rattle.snap_loading.proofs.Standing.{Laws, call_action, import_takes, grown, own, meets, least, position_is, call_is}

some_is : {A : Type 0} (x y : A) → Some x ≡ Some y → x ≡ y
some_is x y e = cc

same_wants : (ws vs : List Want) (gs hs : List Give) → Straight ws gs ≡ Straight vs hs → ws ≡ vs
same_wants ws vs gs hs e = cc

each_of : {A : Type 0} (P Q : A → Type 0) → ((x : A) → P x → Q x) → (xs : List A) → Each P xs → Each Q xs
each_of P Q f [] h = tt
each_of P Q f (x ∷ xs) h = (f x h.0, each_of P Q f xs h.1)

-- the role of a call's part, and of its frame
abbrev IsAbove : Option RolePart → states.Role → Type 0
IsAbove (Some roles.Main) states.Main = Unit {0}
IsAbove (Some roles.Call) states.Called = Unit {0}
IsAbove (Some (roles.Import m)) (states.Imported name x) = Unit {0}
IsAbove _ _ = ⊥

module _ (laws : Laws) (p : Program) (means : Means p) (finds : FindsAll p.shelf p.library) (some_names : HasNames p.shelf) (is : IsLibrary p.shelf) (rows : HasCodeRows p.shelf)
    (s : Snapshot) (title : ℕ → ℕ → ℕ) (titles : AreTitles p.shelf title) (fine_objects : AreFineObjects p.shelf s) (h : Heap Value ℕ) (fine : AreFine p.library (plain_heap p.tables.texts p.tables.tuples h))
    (parts : filter_map (option_map (object_part p.shelf (place_in h))) h.objects ≡ s.objects) (r : Renaming) (to_is : (n : ℕ) → r.to n ≡ matched h.objects (heap_of p.shelf s title).objects n) where
  abbrev heap : PlainHeap
  heap = plain_heap p.tables.texts p.tables.tuples h

  abbrev k : Heap Value ℕ
  k = heap_of p.shelf s title

  texts_are : p.tables.texts ≡ text_at p.shelf
  texts_are = means.constants.texts

  tuples_are : p.tables.tuples ≡ items_at p.shelf
  tuples_are = means.constants.tuples

  -- cells
  -- =====

  as_many : count h.objects ≡ length s.objects
  as_many = sym (parts_count (object_part p.shelf (place_in h)) h.objects) ∙ ap (λ z. length z) parts

  there_to : (n : ℕ) → IsThere heap n → has h.objects n ≡ true
  there_to n t = plain_there p.shelf p.library p.tables.texts p.tables.tuples texts_are tuples_are finds some_names.some h n t

  -- an object lies at the cell of its place
  lies_at : (i : ℕ) → i < length s.objects → object_cell k.objects i ≡ cell_of s.objects i
  lies_at i lt =
      let o = get_there s.objects i lt in
      let here : has k.objects (cell_of s.objects i) ≡ true = ap is_some (object_at p.shelf s title i o.0 o.1) in
      let front : before k.objects (cell_of s.objects i) ≡ i =
      sym (before_is k.objects (cell_of s.objects i)) ∙ place_at (object_of p.shelf s title) s.objects (replicate (s.used_cells - cells_of_parts s.objects) None) i (omega (arith, lt)) in
      ap (object_cell k.objects) (sym front) ∙ object_back k.objects (cell_of s.objects i) here

  cell_to : (n : ℕ) → has h.objects n ≡ true → r.to n ≡ cell_of s.objects (before h.objects n)
  cell_to n e =
      let low = before_count h.objects n e in
      let many = as_many in
      to_is n ∙ (matched_object h.objects k.objects n e ∙ lies_at (before h.objects n) (omega (arith, low, many)))

  at_is : (n : ℕ) → IsThere heap n → cell_of s.objects (place_in h n) ≡ r.to n
  at_is n t = ap (cell_of s.objects) (before_is h.objects n) ∙ sym (cell_to n (there_to n t))

  part_of : (n : ℕ) (a : ArenaObject) → object h.objects n ≡ Some a → slice_get s.objects (before h.objects n) ≡ Some (object_part p.shelf (place_in h) a)
  part_of n a e = ap (λ z. slice_get z (before h.objects n)) (sym parts) ∙ part_at (object_part p.shelf (place_in h)) h.objects n a e

  -- objects
  -- =======

  loaded_at : (n : ℕ) (a : ArenaObject) → object h.objects n ≡ Some a → object k.objects (r.to n) ≡ Some (object_of p.shelf s title (object_part p.shelf (place_in h) a))
  loaded_at n a e =
      ap (object k.objects) (cell_to n (ap is_some e)) ∙ object_at p.shelf s title (before h.objects n) (object_part p.shelf (place_in h) a) (part_of n a e)

  pub objects_same : (n : ℕ) → object (plain_heap p.tables.texts p.tables.tuples k).objects (r.to n) ≡ option_map (object_as r) (object heap.objects n)
  objects_same n =
      plain_at p.tables.texts p.tables.tuples k.objects (r.to n) ∙ (by (has h.objects n) refl ∙ ap (option_map (object_as r)) (sym (plain_at p.tables.texts p.tables.tuples h.objects n)))
    where
      by : (b : Bool) → has h.objects n ≡ b
          → plain_object p.tables.texts p.tables.tuples (object k.objects (r.to n)) ≡ option_map (object_as r) (plain_object p.tables.texts p.tables.tuples (object h.objects n))
      by true e =
          let a = has_one h.objects n e in
          let part = object_part p.shelf (place_in h) a.0 in
          ap (plain_object p.tables.texts p.tables.tuples) (loaded_at n a.0 a.1)
          ∙ (decoded_as laws.code p means s is rows title titles (before h.objects n) part (fine_objects (before h.objects n) part (part_of n a.0 a.1))
          ∙ (object_by p.shelf p.library p.tables.texts p.tables.tuples texts_are tuples_are finds some_names.some heap r (place_in h) (cell_of s.objects) at_is
          (spaces p.shelf p.library p.tables.texts p.tables.tuples texts_are tuples_are finds some_names.some h fine) n a.0
          (fine_at p.shelf p.library p.tables.texts p.tables.tuples texts_are tuples_are finds some_names.some h fine n a.0 a.1)
          ∙ ap (λ z. option_map (object_as r) (plain_object p.tables.texts p.tables.tuples z)) (sym a.1)))
      by false e =
          let cell = to_is n ∙ matched_blank h.objects k.objects n e in
          ap (plain_object p.tables.texts p.tables.tuples) (ap (object k.objects) cell ∙ has_none k.objects (blank_cell k.objects (n - before h.objects n)) (blank_has k.objects (n - before h.objects n)))
          ∙ ap (λ z. option_map (object_as r) (plain_object p.tables.texts p.tables.tuples z)) (sym (has_none h.objects n e))

  -- the heaps differ by the numbers of their objects alone
  pub heaps_same : length k.objects ≡ length h.objects → k.bytes ≡ h.bytes → k.cell_size ≡ h.cell_size → k.byte_size ≡ h.byte_size → r.limit ≤ length h.objects
      → IsRenamed r heap (plain_heap p.tables.texts p.tables.tuples k)
  heaps_same cells bytes cell_size byte_size above = record {
    objects = objects_same;
    cells = length-map k.objects (plain_object p.tables.texts p.tables.tuples) ∙ (cells ∙ sym (length-map h.objects (plain_object p.tables.texts p.tables.tuples)));
    bytes = bytes;
    cell_size = cell_size;
    byte_size = byte_size;
    above = subst (λ z. r.limit ≤ z) (sym (length-map h.objects (plain_object p.tables.texts p.tables.tuples))) above;
  }

  -- registered modules
  -- ==================

  abbrev IsModuleIn : List ℕ × ℕ → Type 0
  IsModuleIn m = IsA heap.objects AModule m.1

  abbrev IsTitledIn : List ℕ × ℕ → Type 0
  IsTitledIn m = title_of (object heap.objects m.1) ≡ Some m.0

  -- the name of a registered module
  name_to : (n : ℕ) (name : List ℕ) → title_of (object heap.objects n) ≡ Some name
      → plain_name p.tables.texts p.tables.tuples (name_number p.shelf (name_in_part (slice_get s.objects (before h.objects n)))) ≡ name
  name_to n name e = by (object h.objects n) refl (ap title_of (sym (plain_at p.tables.texts p.tables.tuples h.objects n)) ∙ e)
    where
      by : (o : Option ArenaObject) → object h.objects n ≡ o → title_of (plain_object p.tables.texts p.tables.tuples o) ≡ Some name
          → plain_name p.tables.texts p.tables.tuples (name_number p.shelf (name_in_part (slice_get s.objects (before h.objects n)))) ≡ name
      by (Some (ModuleObject number names)) f g =
          let part = object_part p.shelf (place_in h) (ModuleObject number names) in
          let there = part_of n (ModuleObject number names) f in
          let own_fine = fine_objects (before h.objects n) part there in
          let known = name_known p.shelf is (name_of p.shelf number) own_fine.known in
          ap (λ z. plain_name p.tables.texts p.tables.tuples (name_number p.shelf (name_in_part z))) there
          ∙ (named laws.code p means s is rows (name_of p.shelf number) known
          ∙ (sym (told p.shelf p.library p.tables.texts p.tables.tuples texts_are tuples_are finds some_names.some (strs.Pool number)) ∙ some_is _ _ g))
      by (Some (ListObject items room)) f g = absurd cc
      by (Some (TupleObject items)) f g = absurd cc
      by (Some (TextObject bytes)) f g = absurd cc
      by (Some (DictObject pairs room)) f g = absurd cc
      by (Some (FunctionObject own_name module_name code names defaults)) f g = absurd cc
      by (Some (ExceptionObject kind args file line own_name)) f g = absurd cc
      by (Some (MethodObject v method)) f g = absurd cc
      by (Some (RangeObject start stop step)) f g = absurd cc
      by None f g = absurd cc

  entry_same : (e : Registered) → IsModuleIn (plain_entry p.tables.texts p.tables.tuples e) → IsTitledIn (plain_entry p.tables.texts p.tables.tuples e)
      → plain_entry p.tables.texts p.tables.tuples (entry_of p.shelf s (registered_part (place_in h) e)) ≡ module_as r (plain_entry p.tables.texts p.tables.tuples e)
  entry_same e a t =
      let n = e.object.cell in
      ap₂ (λ x y. (x, y))
      (ap (λ z. plain_name p.tables.texts p.tables.tuples (name_number p.shelf (name_in_part (slice_get s.objects z)))) (before_is h.objects n) ∙ name_to n (plain_name p.tables.texts p.tables.tuples e.name) t)
      (at_is n (there_of heap AModule n a))

  pub modules_same : (es : List Registered) → Each IsModuleIn (map (plain_entry p.tables.texts p.tables.tuples) es) → Each IsTitledIn (map (plain_entry p.tables.texts p.tables.tuples) es)
      → map (plain_entry p.tables.texts p.tables.tuples) (map (entry_of p.shelf s) (map (registered_part (place_in h)) es)) ≡ map (module_as r) (map (plain_entry p.tables.texts p.tables.tuples) es)
  modules_same [] a t = refl
  modules_same (e ∷ es) a t = ap₂ (λ x y. x ∷ y) (entry_same e a.0 t.0) (modules_same es a.1 t.1)

  -- frames
  -- ======

  abbrev frame : Call → states.Frame
  frame c = frame_of (view_of p.tables) c

  abbrev part : Call → FramePart
  part c = frame_part p.shelf (place_in h) c

  there_in : (kind : ObjectKind) (n : ℕ) → IsA h.objects kind n → IsThere heap n
  there_in kind n e =
      there_of heap kind n (ap kind_of (plain_at p.tables.texts p.tables.tuples h.objects n) ∙ (plain_kind p.tables.texts p.tables.tuples (object h.objects n) ∙ e))

  role_there : (role : Role) (name : List ℕ) → IsRole p.library heap (role_of (view_of p.tables) name role) → RoleThere heap role
  role_there ends.Main name g = tt
  role_there ends.Call name g = tt
  role_there (ends.Import m) name g = there_of heap AModule m.cell g.1

  kept_there : (e : Entry) → KeepsException h.objects e → KeptThere heap e
  kept_there e g = by e.kept g
    where
      by : (o : Option ExcNo) → IfSome o (λ x. IsA h.objects AnException x.cell) → IfSome o (λ (x : ExcNo). IsThere heap x.cell)
      by None f = tt
      by (Some x) f = there_in AnException x.cell f

  leads_of : (bs : List Bool) (c : Call) → IsFrame p.library heap (frame c) → IsKnownCall p h.objects c → Marked (frame c).slots bs → Leads p.library heap p.tables bs c
  leads_of bs c f known m = record {
    names = spaces p.shelf p.library p.tables.texts p.tables.tuples texts_are tuples_are finds some_names.some h fine f.names.0 c.names.cell f.names.1;
    role = role_there c.role (p.tables.module_name c.module_number) f.role;
    locals = f.locals;
    slots = led p.library heap (frame c).slots f.slots;
    marks = m;
    entries = each_of (KeepsException h.objects) (KeptThere heap) kept_there c.entries (recursion_from_All (KeepsException h.objects) c.entries known.entries);
  }

  module _ (above : Option RolePart) (c : Call) (own_fine : IsFineFrame p.shelf s above (part c)) where
    row : HasRow p.shelf (part c)
    row = rows.rows c.module_number c.code own_fine.stands.placed own_fine.stands.there

    abbrev kinds_are : List SlotKind
    kinds_are = drop own_fine.taken own_fine.stands.shape.slots

    abbrev plan_here : Assigned
    plan_here = (p.plans (p.tables.module_name c.module_number) c.code).assigned

    -- what the plan has here lies above the shape
    shape_marks : (x : At) → plan_here (position_in (p.tables.starts c.module_number c.code) c.at) ≡ Some x → marks own_fine.stands.shape.slots ≡ marks x.slots
    shape_marks x e =
        let at = ap plan_here (sym (position_is laws p s title is means above (part c) own_fine row)) ∙ e in
        let up = least laws p s title is means above (part c) own_fine row plan_here (meets laws p s title is means above (part c) own_fine row) in
        marks_below own_fine.stands.shape.slots x.slots (grown own_fine.stands.a plan_here own_fine.stands.position own_fine.stands.shape x up own_fine.stands.is at).slots

    stands_marks : own_fine.taken ≡ 0 → StandsIn (facts_of h.objects) p.plans p.library (frame c) → Marked (frame c).slots (marks kinds_are)
    stands_marks none g =
        let x = g.planned.runs.at in
        let same : marks x.slots ≡ marks kinds_are = sym (shape_marks x g.planned.runs.is) ∙ ap (λ n. marks (drop n own_fine.stands.shape.slots)) (sym none) in
        subst (Marked (frame c).slots) same (marked (facts_of h.objects) (frame c).slots g.stack x.slots g.shows g.planned.runs.slots)

    taken_is : above ≡ Some roles.Call → (g : WaitsIn (facts_of h.objects) p.plans p.library (frame c)) → own_fine.taken ≡ length g.wants
    taken_is is_call g =
        let size = length own_fine.stands.body.items in
        let o = own laws p s title is means above (part c) own_fine row in
        let code_same : g.code ≡ o.code = some_is g.code o.code (sym g.code_is ∙ o.code_is) in
        let plan = p.plans (p.tables.module_name c.module_number) c.code in
        let position = position_is laws p s title is means above (part c) own_fine row in
        let acts : slice_get (verify.flow_of own_fine.stands.body).actions own_fine.stands.position ≡ Some (Straight g.wants (New kinds.Value ∷ [])) =
        sym (ap (λ (z : flow.Code). slice_get z.actions own_fine.stands.position) o.flow_is)
        ∙ (ap₂ (λ (z : Code) n. slice_get (flow_of plan z).actions n) (sym code_same) (sym position) ∙ g.call) in
        let at = get_map (action size) own_fine.stands.body.items own_fine.stands.position own_fine.action own_fine.action_is in
        let item_same : at.0 ≡ own_fine.item = some_is at.0 own_fine.item (sym at.1 ∙ own_fine.item_is) in
        let does : own_fine.action ≡ action size own_fine.item = sym at.2 ∙ ap (action size) item_same in
        let w = call_action own_fine.item own_fine.action own_fine.taken size (subst (λ z. Waits z own_fine.item own_fine.action own_fine.taken) is_call own_fine.waits) does in
        let action_same : own_fine.action ≡ Straight g.wants (New kinds.Value ∷ []) = some_is _ _ (sym own_fine.action_is ∙ acts) in
        w.2 ∙ ap (λ z. length z) (same_wants w.0 g.wants (New kinds.Value ∷ []) (New kinds.Value ∷ []) (sym w.1 ∙ action_same))

    waits_marks : above ≡ Some roles.Call → WaitsIn (facts_of h.objects) p.plans p.library (frame c) → Marked (frame c).slots (marks kinds_are)
    waits_marks is_call g =
        let x = g.planned.runs.at in
        let n = length g.wants in
        let same : marks (drop n x.slots) ≡ marks kinds_are =
        drop_map is_upper n x.slots
        ∙ (ap (drop n) (sym (shape_marks x g.planned.runs.is))
        ∙ (sym (drop_map is_upper n own_fine.stands.shape.slots) ∙ ap (λ z. marks (drop z own_fine.stands.shape.slots)) (sym (taken_is is_call g)))) in
        subst (Marked (frame c).slots) same
        (marked (facts_of h.objects) (frame c).slots (drop n g.stack) (drop n x.slots) g.shows (stands_drop n g.stack x.slots g.planned.runs.slots))

    -- the call that the part stands for has the frame, with the other numbers
    frame_same : (d : Call) → IsCallOf p.shelf s (part c) d → IsFrame p.library heap (frame c) → IsKnownCall p h.objects c → Marked (frame c).slots (marks kinds_are) → frame d ≡ frame_as r (frame c)
    frame_same d is_call f known m =
        ap frame (call_is laws p s title is means above (part c) own_fine row d is_call)
        ∙ (frame_is laws.code p means s is rows kinds_are own_fine.stands.offsets own_fine.stack (part c) own_fine.shows own_fine.locals
        ∙ frame_by p.library heap p.tables p.shelf r (place_in h) (cell_of s.objects) (seen laws.code p means s is rows)
        (value_by p.shelf p.library p.tables.texts p.tables.tuples texts_are tuples_are finds some_names.some heap r (place_in h) (cell_of s.objects) at_is) at_is (marks kinds_are) c (leads_of (marks kinds_are) c f known m))

  above_is : (role : Role) (name : List ℕ) → IsAbove (Some (role_part (place_in h) role)) (role_of (view_of p.tables) name role)
  above_is ends.Main name = tt
  above_is ends.Call name = tt
  above_is (ends.Import m) name = tt

  below_same : (above : Option RolePart) (role : states.Role) (cs ds : List Call) → IsAbove above role → AreFineFrames p.shelf s above (map part cs) → AreCallsOf p.shelf s (map part cs) ds
      → BelowIn (facts_of h.objects) p.plans p.library role (map frame cs) → Each (IsFrame p.library heap) (map frame cs) → Each (IsKnownCall p h.objects) cs → map frame ds ≡ map (frame_as r) (map frame cs)
  below_same above role [] [] i fines are below frames known = refl
  below_same above role [] (d ∷ ds) i fines are below frames known = absurd are
  below_same above role (c ∷ cs) [] i fines are below frames known = absurd are
  below_same (Some roles.Main) states.Main (c ∷ cs) (d ∷ ds) i fines are below frames known = absurd fines
  below_same (Some roles.Call) states.Called (c ∷ cs) (d ∷ ds) i fines are below frames known =
      ap₂ (λ x y. x ∷ y) (frame_same (Some roles.Call) c fines.0 d are.0 frames.0 known.0 (waits_marks (Some roles.Call) c fines.0 refl below.0))
      (below_same (Some (part c).role) (frame c).role cs ds (above_is c.role (p.tables.module_name c.module_number)) fines.1 are.1 below.1 frames.1 known.1)
  below_same (Some (roles.Import m)) (states.Imported name x) (c ∷ cs) (d ∷ ds) i fines are below frames known =
      let f = fines.0 in
      ap₂ (λ x y. x ∷ y) (frame_same (Some (roles.Import m)) c f d are.0 frames.0 known.0 (stands_marks (Some (roles.Import m)) c f (import_takes m f.item f.action f.taken f.waits) below.0))
      (below_same (Some (part c).role) (frame c).role cs ds (above_is c.role (p.tables.module_name c.module_number)) fines.1 are.1 below.1 frames.1 known.1)
  below_same _ _ (c ∷ cs) (d ∷ ds) i fines are below frames known = absurd i

  pub frames_same : (cs ds : List Call) → AreFineFrames p.shelf s None (map part cs) → AreCallsOf p.shelf s (map part cs) ds
      → KeepCalls p h.objects cs → Each (IsFrame p.library heap) (map frame cs) → Each (IsKnownCall p h.objects) cs → map frame ds ≡ map (frame_as r) (map frame cs)
  frames_same [] ds fines are kept frames known = absurd kept
  frames_same (c ∷ cs) [] fines are kept frames known = absurd are
  frames_same (c ∷ cs) (d ∷ ds) fines are kept frames known =
      ap₂ (λ x y. x ∷ y) (frame_same None c fines.0 d are.0 frames.0 known.0 (stands_marks None c fines.0 fines.0.waits kept.0))
      (below_same (Some (part c).role) (frame c).role cs ds (above_is c.role (p.tables.module_name c.module_number)) fines.1 are.1 kept.1 frames.1 known.1)

-- the parts of frames, the innermost first
pub parts_back : (shelf : Shelf) (place : ℕ → ℕ) (cs : List Call) → reverse (map (frame_part shelf place) (reverse cs)) ≡ map (frame_part shelf place) cs
parts_back shelf place cs = sym (map_reverse (frame_part shelf place) (reverse cs)) ∙ ap (map (frame_part shelf place)) (reverse-reverse cs)

-- two machines
-- ============

cell_first : (os : List ObjectPart) → cell_of os 0 ≡ 0
cell_first [] = refl
cell_first (o ∷ os) = refl

-- a snapshot with objects stands for a heap that begins with one
pub begins_too : (shelf : Shelf) (s : Snapshot) (title : ℕ → ℕ → ℕ) (k : Heap Value ℕ) → k ≡ heap_of shelf s title → 0 < length s.objects → has k.objects 0 ≡ true
begins_too shelf s title k e lt =
    let o = get_there s.objects 0 lt in
    ap (λ (z : Heap Value ℕ). has z.objects 0) e
    ∙ (ap (λ n. has (heap_of shelf s title).objects n) (sym (cell_first s.objects)) ∙ ap is_some (object_at shelf s title 0 o.0 o.1))

-- what is the same of them in a program
abbrev pub Alike : Program → (vm other : Vm) → Renaming → Type 0
Alike p vm other r =
    IsRenamed r (plain_heap p.tables.texts p.tables.tuples vm.arena) (plain_heap p.tables.texts p.tables.tuples other.arena)
    × (plain_modules p.tables.texts p.tables.tuples other.modules ≡ map (module_as r) (plain_modules p.tables.texts p.tables.tuples vm.modules))
    × (map (frame_of (view_of p.tables)) other.frames.calls ≡ map (frame_as r) (map (frame_of (view_of p.tables)) vm.frames.calls))

abbrev From : Program → (vm other : Vm) → Renaming → Snapshot → Shelf → Type 0
From p vm other r s shelf =
    HasNames shelf → IsLibrary shelf → HasCodeRows shelf → FindsAll shelf p.library → IsShaped shelf s → IsDecoded shelf s other.arena other.modules other.frames.calls
    → snapshot_of shelf vm.arena vm.modules vm.frames.calls vm.paid ≡ s → Alike p vm other r

module _ (laws : Laws) (p : Program) (vm other : Vm) (r : Renaming) (s : Snapshot) (means : Means p) (g : Gathered p vm) (runs : RunsProgram p vm)
    (to_is : (n : ℕ) → r.to n ≡ matched vm.arena.objects other.arena.objects n) (limit_is : r.limit ≤ length vm.arena.objects) (long : length other.arena.objects ≡ length vm.arena.objects) where
  own_alike : From p vm other r s p.shelf
  own_alike names is rows finds shaped decodes e =
      let h = vm.arena in
      let title = decodes.title in
      let texts = p.tables.texts in
      let tuples = p.tables.tuples in
      let parts = ap (λ (z : Snapshot). z.objects) e in
      let to : (n : ℕ) → r.to n ≡ matched h.objects (heap_of p.shelf s title).objects n = λ n. to_is n ∙ ap (λ (z : Heap Value ℕ). matched h.objects z.objects n) decodes.heap_is in
      let frames_are : reverse s.frames ≡ map (frame_part p.shelf (place_in h)) vm.frames.calls = ap (λ (z : Snapshot). reverse z.frames) (sym e) ∙ parts_back p.shelf (place_in h) vm.frames.calls in
      let heaps =
      heaps_same laws p means finds names is rows s title decodes.titles shaped.objects h g.sound.heap parts r to
      (sym (ap (λ (z : Heap Value ℕ). length z.objects) decodes.heap_is) ∙ long)
      (sym (ap (λ (z : Snapshot). z.used_bytes) e)) (sym (ap (λ (z : Snapshot). z.cells) e)) (sym (ap (λ (z : Snapshot). z.bytes) e)) limit_is in
      let modules =
      ap (λ z. map (plain_entry texts tuples) (map (entry_of p.shelf s) z)) (sym (ap (λ (z : Snapshot). z.modules) e))
      ∙ modules_same laws p means finds names is rows s title decodes.titles shaped.objects h g.sound.heap parts r to vm.modules.entries (modules_titled (world_in p vm some_world) g.sound.titles) g.sound.titles in (
        subst (λ (z : Heap Value ℕ). IsRenamed r (plain_heap texts tuples h) (plain_heap texts tuples z)) (sym decodes.heap_is) heaps,
        ap (λ (z : Registry). plain_modules texts tuples z) decodes.modules_are ∙ modules,
        frames_same laws p means finds names is rows s title decodes.titles shaped.objects h g.sound.heap parts r to vm.frames.calls other.frames.calls
            (subst (λ z. AreFineFrames p.shelf s None z) frames_are shaped.frames) (subst (λ z. AreCallsOf p.shelf s z other.frames.calls) frames_are decodes.calls_are)
            runs.kept.calls g.frames (recursion_from_All (IsKnownCall p h.objects) vm.frames.calls runs.state.known),
      )

  pub alike : (shelf : Shelf) → p.shelf ≡ shelf → From p vm other r s shelf
  alike shelf is = subst (From p vm other r s) is own_alike
