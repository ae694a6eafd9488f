-- A frame of a state has its place in a machine of the library, and is the call that stands there.
use Rattle.std.proofs.Common.{◌≡◌, ◌⊎◌, inl, inr, ℕ, zero, suc, ◌+◌, ◌-◌, ◌<◌, ◌≤◌, Bool, true, List, [], ◌∷◌, ◌++◌, length, map, take, drop, reverse, replicate, Option, Some, None, slice_get, refl, sym, ap, ◌∙◌, subst, arith, All, append_assoc, length-append, length-drop}
use Rattle.std.specs.Prelude.{option_and_then}
use Rattle.std.proofs.lemmas.Bool.{and_parts, cases_lt, leb-true}
use Rattle.std.proofs.lemmas.List.{append-nil, length-reverse, reverse-reverse}
use Rattle.std.proofs.lemmas.List.Elements.{All-nil, All-cons}
use Rattle.arena_heap.specs.declared.value.DictNo.{DictNo}
use Rattle.bc_flow.specs.bc_shapes.declared.kinds.Kind.{Kind as SlotKind}
use Rattle.bc_flow.specs.bc_shapes.declared.shape.Entry.{Entry as FlowEntry}
use Rattle.bc_flow.specs.bc_shapes.Shape.{At}
use Rattle.bc_flow.specs.Action.{Action}
use Rattle.bc_flow.specs.Code as flow
use Rattle.bc_flow.specs.Edges.{room}
use Rattle.bc_flow.specs.Machine.{Slot as FlowSlot, KeptJump, Stack, cut}
use Rattle.bc_flow.specs.Verified.{Assigned}
use Rattle.bc_flow.proofs.Sound.{Stands, more, jump, stands-length, Fits}
use Rattle.bc_library.specs.bc_verify.bc_prelude.declared.prelude.Prelude.{Prelude}
use Rattle.bc_library.specs.bc_verify.bc_prelude.Prelude.{Begins}
use Rattle.bc_library.specs.bc_verify.Body.{flow_of}
use Rattle.bc_library.specs.mpy_tree.Raw.{Module}
use Rattle.bc_library.specs.mpy_tree.Codes.{Placed, codes_of}
use Rattle.bc_library.specs.Greatest.{ShelfHas}
use Rattle.bc_library.specs.Shelf.{Shelf, module_at}
use Rattle.bc_library.proofs.bc_verify_lemmas.mpy_tree_lemmas.Codes.{module_placed}
use Rattle.vm_starting.specs.vm_states.bc_rows.Codes.{code_numbered}
use Rattle.vm_frames.specs.declared.slot.Entry.{Entry}
use Rattle.vm_frames.specs.declared.slot.Role.{Role}
use Rattle.vm_frames.specs.declared.slot.Slot.{Slot}
use Rattle.vm_frames.specs.Calls.{Call, Calls, on_running}
use Rattle.snap_grammar.specs.declared.parts.EntryPart.{EntryPart}
use Rattle.snap_grammar.specs.declared.parts.FramePart.{FramePart}
use Rattle.snap_grammar.specs.declared.parts.RolePart.{RolePart}
use Rattle.snap_grammar.specs.declared.parts.RolePart.TheVariants as roles
use Rattle.snap_grammar.specs.declared.parts.SlotPart.{SlotPart}
use Rattle.snap_grammar.specs.declared.parts.SlotPart.TheVariants as slots
use Rattle.snap_grammar.specs.declared.parts.Snapshot.{Snapshot}
use Rattle.snap_grammar.specs.declared.parts.ValuePart.TheVariants as parts
use Rattle.snap_states.specs.Parts.{cell_of}
use Rattle.snap_states.specs.Shapes.{HasHeight, LieOnEntries, IsOrderly, StandsAt, LeadsOn, JumpsLeadOn}
use Rattle.snap_states.specs.States.{AreEntriesAt, ShowsParts, IsFineFrame, AreFineFrames}
use Rattle.snap_states.specs.Decoded.{local_of, handler_of, role_of, stack_of, call_of, IsCallOf, AreCallsOf}
use Rattle.snap_states.proofs.Causing.{lie_drop}
use Rattle.snap_loading.specs.Framing.{FitsSlot, IsLow, HasPlace, HasRoomFor, slots_in}
use Rattle.snap_loading.proofs.Returning.{no_tables}
use Rattle.snap_loading.proofs.Showing.{stack_long}
use Rattle.snap_loading.proofs.Stacking.{with_slots, with_entries, back_next, count_back, parts_long}
use Rattle.snap_loading.proofs.Standing.{all_reverse, shape_once}

-- kept jumps
-- ==========

-- a jump that leads on leaves no more entries than there are
leads_few : (a : Assigned) (t : ℕ) (it : Bool) (d : ℕ) (es : List FlowEntry) (st : Stack) → LeadsOn a t it d es st → d ≤ length es
leads_few a t it zero es st h = omega arith
leads_few a t it (suc d) [] st h = absurd h
leads_few a t it (suc d) (e ∷ es) st h = let few = leads_few a t it d es (cut e.height st) h.1 in omega (arith, few)

height_low : (es : List FlowEntry) (n h : ℕ) → Fits es n → HasHeight es h → h ≤ n
height_low [] n h f p = absurd p
height_low (e ∷ es) n h f (inl p) = omega (arith, f.0, p)
height_low (e ∷ es) n h f (inr p) = let low = height_low es e.height h f.1 p in omega (arith, f.0, low)

-- what lies deep enough stays in a cut
drop_front : {A : Type 0} (k : ℕ) (xs ys : List A) → k ≤ length xs → drop k (xs ++ ys) ≡ drop k xs ++ ys
drop_front zero xs ys le = refl
drop_front (suc k) [] ys le = absurd (omega (arith, le))
drop_front (suc k) (x ∷ xs) ys le = drop_front k xs ys (omega (arith, le))

cut_deep : {A : Type 0} (h : ℕ) (above : List A) (x : A) (rest : List A) → length rest < h → (front : List A) × (cut h (above ++ x ∷ rest) ≡ front ++ x ∷ rest)
cut_deep h above x rest lt =
    let n = length (above ++ x ∷ rest) - h in
    let long : length (above ++ x ∷ rest) ≡ length above + suc (length rest) = length-append above (x ∷ rest) in
    (drop n above, drop_front n above (x ∷ rest) (omega (arith, long, lt)))

-- a jump on the height of an entry leaves fewer entries than there are
jump_few : (a : Assigned) (es : List FlowEntry) (st above rest : Stack) (t d : ℕ) (it : Bool) (n : ℕ) → Fits es n → HasHeight es (length rest) → JumpsLeadOn a es st → st ≡ above ++ KeptJump t d it ∷ rest → d < length es
jump_few a [] st above rest t d it n f p j e = absurd p
jump_few a (x ∷ es) st above rest t d it n f p j e =
    by (cases_lt (length rest) x.height) p
    (λ lt q. let c = cut_deep x.height above (KeptJump t d it) rest lt in jump_few a es (cut x.height st) c.0 rest t d it x.height f.1 q j.1 (ap (cut x.height) e ∙ c.1))
  where
    here : length rest ≡ x.height → d < length (x ∷ es)
    here same = let few = leads_few a t it d es rest (j.0 above rest t d it e same) in omega (arith, few)

    by : (length rest < x.height) ⊎ (x.height ≤ length rest) → HasHeight (x ∷ es) (length rest) → (length rest < x.height → HasHeight es (length rest) → d < length es) → d < length (x ∷ es)
    by o (inl q) deeper = here (sym q)
    by (inr le) (inr q) deeper = let low = height_low es x.height (length rest) f.1 q in here (omega (arith, le, low))
    by (inl lt) (inr q) deeper = let few = deeper lt q in omega (arith, few)

module _ (shelf : Shelf) (s : Snapshot) (offsets : List ℕ) (es : List FlowEntry) (whole : Stack) (few : (above rest : Stack) (t d : ℕ) (it : Bool) → HasHeight es (length rest) → whole ≡ above ++ KeptJump t d it ∷ rest → d < 256) where
  next : (above : Stack) (x : FlowSlot) (st : Stack) → whole ≡ above ++ x ∷ st → whole ≡ (above ++ x ∷ []) ++ st
  next above x st e = e ∙ sym (append_assoc above (x ∷ []) st)

  first : (p : SlotPart) (ps : List SlotPart) → FitsSlot p → All FitsSlot ps → All FitsSlot (p ∷ ps)
  first p ps h k = All-cons FitsSlot p ps h k

  one : 1 < 256
  one = omega arith

  two : 2 < 256
  two = omega arith

  three : 3 < 256
  three = omega arith

  -- numbers of the parts fit a machine's slots
  parts_fit : (above : Stack) (ps : List SlotPart) (st : Stack) (ks : List SlotKind) → ShowsParts shelf s offsets ps st → Stands st ks → LieOnEntries es ks → whole ≡ above ++ st → All FitsSlot ps
  parts_fit above ps st ks ShowsParts.none q l e = All-nil FitsSlot
  parts_fit above ps st ks (ShowsParts.value {v = v} {ps = qs} {st = su} plain r) (more {s = x} {ks = ls} f q) l e = first (slots.Value v) qs tt (parts_fit (above ++ x ∷ []) qs su ls r q l.1 (next above x su e))
  parts_fit above ps st ks (ShowsParts.nothing {ps = qs} {st = su} r) (more {s = x} {ks = ls} f q) l e = first _ qs tt (parts_fit (above ++ x ∷ []) qs su ls r q l.1 (next above x su e))
  parts_fit above ps st ks (ShowsParts.exception {ps = qs} {st = su} is r) (more {s = x} {ks = ls} f q) l e = first _ qs tt (parts_fit (above ++ x ∷ []) qs su ls r q l.1 (next above x su e))
  parts_fit above ps st ks (ShowsParts.null {ps = qs} {st = su} r) (more {s = x} {ks = ls} f q) l e = first slots.Empty qs tt (parts_fit (above ++ x ∷ []) qs su ls r q l.1 (next above x su e))
  parts_fit above ps st ks (ShowsParts.bound {v = v} {name = name} {ps = qs} {st = su} b r) (more {s = x} f (more {s = y} {ks = ls} g q)) l e =
      first (slots.Value v) (slots.Value (parts.Named name) ∷ qs) tt (first (slots.Value (parts.Named name)) qs tt (parts_fit ((above ++ x ∷ []) ++ y ∷ []) qs su ls r q l.1.1 (next (above ++ x ∷ []) y su (next above x (y ∷ su) e))))
  parts_fit above ps st ks (ShowsParts.free {v = v} {ps = qs} {st = su} plain r) (more {s = x} f (more {s = y} {ks = ls} g q)) l e =
      first slots.Empty (slots.Value v ∷ qs) tt (first (slots.Value v) qs tt (parts_fit ((above ++ x ∷ []) ++ y ∷ []) qs su ls r q l.1.1 (next (above ++ x ∷ []) y su (next above x (y ∷ su) e))))
  parts_fit above ps st ks (ShowsParts.kept_return {ps = qs} {st = su} plain r) (more {s = x} {ks = ls} f q) l e = first _ qs tt (parts_fit (above ++ x ∷ []) qs su ls r q l.1 (next above x su e))
  parts_fit above ps st ks (ShowsParts.kept_jump {target = target} {t = t} {d = d} {it = it} {ps = qs} {st = su} is r) (more {ks = ls} jump q) l e =
      let size = stands-length su ls q in
      first (slots.Jump target d it) qs (few above su t d it (subst (HasHeight es) (sym size) (l.0 refl)) e) (parts_fit (above ++ KeptJump t d it ∷ []) qs su ls r q l.1 (next above (KeptJump t d it) su e))
  parts_fit above ps st ks (ShowsParts.whole {ps = qs} {st = su} over r) (more {s = x} f (more {s = y} g (more {s = z} h (more {s = w} {ks = ls} i q)))) l e =
      first _ qs tt (parts_fit ((((above ++ x ∷ []) ++ y ∷ []) ++ z ∷ []) ++ w ∷ []) qs su ls r q l.1.1.1.1
      (next (((above ++ x ∷ []) ++ y ∷ []) ++ z ∷ []) w su (next ((above ++ x ∷ []) ++ y ∷ []) z (w ∷ su) (next (above ++ x ∷ []) y (z ∷ w ∷ su) (next above x (y ∷ z ∷ w ∷ su) e)))))
  parts_fit above ps st ks (ShowsParts.three {over = over} {at = at} {ps = qs} {st = su} fine r) (more {s = x} f (more {s = y} g (more {s = z} {ks = ls} h q))) l e =
      first (slots.Left 3 over at) qs three (parts_fit (((above ++ x ∷ []) ++ y ∷ []) ++ z ∷ []) qs su ls r q l.1.1.1
      (next ((above ++ x ∷ []) ++ y ∷ []) z su (next (above ++ x ∷ []) y (z ∷ su) (next above x (y ∷ z ∷ su) e))))
  parts_fit above ps st ks (ShowsParts.two {over = over} {at = at} {ps = qs} {st = su} fine r) (more {s = x} f (more {s = y} {ks = ls} g q)) l e =
      first (slots.Left 2 over at) qs two (parts_fit ((above ++ x ∷ []) ++ y ∷ []) qs su ls r q l.1.1 (next (above ++ x ∷ []) y su (next above x (y ∷ su) e)))
  parts_fit above ps st ks (ShowsParts.one {over = over} {at = at} {ps = qs} {st = su} fine r) (more {s = x} {ks = ls} f q) l e =
      first (slots.Left 1 over at) qs one (parts_fit (above ++ x ∷ []) qs su ls r q l.1 (next above x su e))

-- rooms
-- =====

-- the prelude of a code that has a number is one of the library's
shelf_has : (shelf : Shelf) (i k : ℕ) (n : Placed) (p : Prelude) → code_numbered shelf i k ≡ Some n → Begins n.bytes p → ShelfHas shelf p
shelf_has shelf i k n p e begins = by (module_at shelf i) refl e
  where
    by : (o : Option Module) → module_at shelf i ≡ o → option_and_then (λ (m : Module). slice_get (codes_of m) k) o ≡ Some n → ShelfHas shelf p
    by None f g = absurd cc
    by (Some m) f g =
        let place = module_placed m k n g in
        record { i = i; m = m; there = f; has = record { path = n.path; code = place.code; is = place.there; begins = subst (λ z. Begins z p) place.bytes begins } }

-- the locals and the slots of a position have their room
room_before : (code : flow.Code) (i : Action) (x : At) → room code i x ≡ true → code.locals + length x.slots ≤ code.n_state
unfolding room
room_before code i x h = leb-true _ _ (and_parts _ _ (and_parts _ _ h).0).0

entries_long : (offsets : List ℕ) (es : List EntryPart) (xs : List FlowEntry) → AreEntriesAt offsets es xs → length es ≡ length xs
entries_long offsets [] [] h = refl
entries_long offsets [] (x ∷ xs) h = absurd h
entries_long offsets (e ∷ es) [] h = absurd h
entries_long offsets (e ∷ es) (x ∷ xs) h = ap suc (entries_long offsets es xs h.1)

entries_low : (offsets : List ℕ) (es : List EntryPart) (xs : List FlowEntry) (n slot_room : ℕ) → AreEntriesAt offsets es xs → Fits xs n → n < slot_room → All (IsLow slot_room) es
entries_low offsets [] xs n slot_room h f lt = All-nil (IsLow slot_room)
entries_low offsets (e ∷ es) [] n slot_room h f lt = absurd h
entries_low offsets (e ∷ es) (x ∷ xs) n slot_room h f lt =
    All-cons (IsLow slot_room) e es (omega (arith, h.0.height, f.0, lt)) (entries_low offsets es xs x.height slot_room h.1 f.1 (omega (arith, f.0, lt)))

pub all_forward : {A : Type 0} (P : A → Type 0) (xs : List A) → All P (reverse xs) → All P xs
all_forward P xs h = subst (All P) (reverse-reverse xs) (all_reverse P (reverse xs) h)

-- one frame
-- =========

module _ (shelf : Shelf) (s : Snapshot) (above : Option RolePart) (f : FramePart) (fine : IsFineFrame shelf s above f) (kinds : List SlotKind) (is : (x : StandsAt shelf f.module_number f.code f.at) × (x.shape.slots ≡ kinds)) (orderly : (x : StandsAt shelf f.module_number f.code f.at) → IsOrderly (flow_of x.body) x.shape) where
  order : IsOrderly (flow_of fine.stands.body) fine.stands.shape
  order = orderly fine.stands

  kinds_are : fine.stands.shape.slots ≡ kinds
  kinds_are = ap (λ (z : At). z.slots) (shape_once shelf f.module_number f.code f.at fine.stands is.0) ∙ is.1

  -- as many slots of the machine as the stack has
  slots_are : slots_in f.slots ≡ length fine.stack
  slots_are =
      sym (count_back f.slots) ∙ (sym (parts_long shelf s [] (reverse f.slots))
      ∙ stack_long (no_tables shelf) shelf s (λ m k. 0) fine.stands.offsets (reverse f.slots) fine.stack [] fine.shows)

  slots_among : slots_in f.slots ≤ length fine.stands.shape.slots
  slots_among =
      let a = slots_are in
      let b = stands-length fine.stack (drop fine.taken fine.stands.shape.slots) fine.slots in
      let c = length-drop fine.taken fine.stands.shape.slots in
      omega (arith, a, b, c)

  few_entries : length fine.stands.shape.entries ≤ 255
  few_entries =
      let signature = fine.stands.says.begins.is_signature in
      let a = order.few in
      let b : fine.stands.body.n_exc ≡ fine.stands.says.prelude.n_exc = fine.stands.says.n_exc in
      let c = signature.n_exc in
      let d = signature.small.handlers in
      omega (arith, a, b, c, d)

  all_fit : All FitsSlot f.slots
  all_fit =
      all_forward FitsSlot f.slots
      (parts_fit shelf s fine.stands.offsets fine.stands.shape.entries fine.stack
      (λ above rest t d it height e.
      let less = jump_few fine.stands.a fine.stands.shape.entries fine.stack above rest t d it (length fine.stands.shape.slots) order.heights height fine.jumps e in
      let few = few_entries in omega (arith, less, few))
      [] (reverse f.slots) fine.stack (drop fine.taken fine.stands.shape.slots) fine.shows fine.slots
      (lie_drop fine.taken fine.stands.shape.entries fine.stands.shape.slots order.causes) refl)

  -- the slots that it lacks of those of its code
  abbrev pub missing : ℕ
  missing = length kinds - slots_in f.slots

  pub missing_is : missing + slots_in f.slots ≡ length kinds
  missing_is = let a = slots_among in let b = ap length kinds_are in omega (arith, a, b)

  pub is_call : IsCallOf shelf s f (call_of shelf s (drop missing kinds) f)
  is_call = record {
    stands = is.0;
    taken = missing;
    slots_are =
        let a : length (stack_of shelf s (drop missing kinds) (reverse f.slots)) ≡ slots_in f.slots = parts_long shelf s (drop missing kinds) (reverse f.slots) ∙ count_back f.slots in
        let b = missing_is in
        let c = ap length is.1 in
        omega (arith, a, b, c);
    is = ap (λ ks. call_of shelf s (drop missing ks) f) (sym is.1);
  }

  pub has_place : (m : Calls) → HasRoomFor shelf m → HasPlace m.slot_room m.entry_room (length kinds) f
  has_place m h =
      let says = fine.stands.says in
      let has = shelf_has shelf f.module_number f.code fine.stands.placed says.prelude fine.stands.there says.begins in
      let g = fine.stands.holds.closed fine.stands.position fine.stands.shape fine.stands.is in
      let room : (flow_of fine.stands.body).locals + length fine.stands.shape.slots ≤ fine.stands.body.n_state = room_before (flow_of fine.stands.body) g.action fine.stands.shape g.state in
      let state : fine.stands.body.n_state ≡ says.prelude.n_state = says.n_state in
      let most : says.prelude.n_state ≤ h.slots = h.greatest.most_state says.prelude has in
      let exc : fine.stands.body.n_exc ≡ says.prelude.n_exc = says.n_exc in
      let most_exc : says.prelude.n_exc ≤ m.entry_room = h.greatest.most_exc says.prelude has in
      let wide : m.slot_room ≡ h.slots + 1 = h.slot_room in
      let among = slots_among in
      let few = order.few in
      let long = entries_long fine.stands.offsets (reverse f.entries) fine.stands.shape.entries fine.entries in
      let back = length-reverse f.entries in
      let as_many = fine.as_many_locals in
      record {
        locals = omega (arith, room, state, most, wide, as_many);
        slots = omega (arith, among, room, state, most, wide);
        among = let same = ap length kinds_are in omega (arith, among, same);
        fit = all_fit;
        entries = omega (arith, few, long, back, exc, most_exc);
        low =
            all_forward (IsLow m.slot_room) f.entries
            (entries_low fine.stands.offsets (reverse f.entries) fine.stands.shape.entries (length fine.stands.shape.slots) m.slot_room fine.entries order.heights (omega (arith, room, state, most, wide)));
      }

-- the frames
-- ==========

-- each is fine
pub each_fine : (shelf : Shelf) (s : Snapshot) (above : Option RolePart) (fs : List FramePart) → AreFineFrames shelf s above fs → All (λ f. (r : Option RolePart) × IsFineFrame shelf s r f) fs
each_fine shelf s above [] h = All-nil (λ f. (r : Option RolePart) × IsFineFrame shelf s r f)
each_fine shelf s None (f ∷ fs) h = All-cons (λ z. (r : Option RolePart) × IsFineFrame shelf s r z) f fs (None, h.0) (each_fine shelf s (Some f.role) fs h.1)
each_fine shelf s (Some roles.Main) (f ∷ fs) h = absurd h
each_fine shelf s (Some roles.Call) (f ∷ fs) h = All-cons (λ z. (r : Option RolePart) × IsFineFrame shelf s r z) f fs (Some roles.Call, h.0) (each_fine shelf s (Some f.role) fs h.1)
each_fine shelf s (Some (roles.Import m)) (f ∷ fs) h =
    All-cons (λ z. (r : Option RolePart) × IsFineFrame shelf s r z) f fs (Some (roles.Import m), h.0) (each_fine shelf s (Some f.role) fs h.1)

pub calls_long : (shelf : Shelf) (s : Snapshot) (fs : List FramePart) (cs : List Call) → AreCallsOf shelf s fs cs → length cs ≡ length fs
calls_long shelf s [] [] h = refl
calls_long shelf s [] (c ∷ cs) h = absurd h
calls_long shelf s (f ∷ fs) [] h = absurd h
calls_long shelf s (f ∷ fs) (c ∷ cs) h = ap suc (calls_long shelf s fs cs h.1)

-- a call more
pub calls_next : (shelf : Shelf) (s : Snapshot) (fs : List FramePart) (k : ℕ) (f : FramePart) (cs : List Call) (c : Call) → slice_get fs k ≡ Some f → AreCallsOf shelf s (reverse (take k fs)) cs → IsCallOf shelf s f c
    → AreCallsOf shelf s (reverse (take (suc k) fs)) (c ∷ cs)
calls_next shelf s fs k f cs c e are is = subst (λ zs. AreCallsOf shelf s zs (c ∷ cs)) (sym (back_next fs k f e)) (is, are)

-- a call that is put
-- ==================

module _ (shelf : Shelf) (s : Snapshot) (ks : List SlotKind) (f : FramePart) where
  abbrev pub begun : DictNo → Role → ℕ → Call
  begun names role locals = record {
    module_number = f.module_number;
    code = f.code;
    at = 0;
    names = names;
    role = role;
    locals = replicate locals None;
    slots = [];
    entries = [];
  }

  -- the moves one behind another
  pub call_put : (names : DictNo) (role : Role) (locals : ℕ) (s0 s1 s2 s3 s4 s5 : Calls) → names ≡ record { cell = cell_of s.objects f.names } → role ≡ role_of shelf s f.role
      → s1 ≡ record s0 { calls = begun names role locals ∷ s0.calls }
      → s2 ≡ on_running (λ c. record c { at = f.at }) s1
      → s3 ≡ on_running (λ c. record c { locals = map (local_of shelf s) f.locals }) s2
      → s4 ≡ on_running (with_slots (stack_of shelf s ks (reverse f.slots))) s3
      → s5 ≡ on_running (with_entries (map (handler_of shelf s) (reverse f.entries))) s4
      → s5 ≡ record s0 { calls = call_of shelf s ks f ∷ s0.calls }
  call_put names role locals s0 s1 s2 s3 s4 s5 a b d1 d2 d3 d4 d5 =
      let stack = stack_of shelf s ks (reverse f.slots) in
      let entries = map (handler_of shelf s) (reverse f.entries) in
      let make : DictNo → Role → List Slot → List Entry → Call = λ n r xs es. record {
        module_number = f.module_number;
        code = f.code;
        at = f.at;
        names = n;
        role = r;
        locals = map (local_of shelf s) f.locals;
        slots = xs;
        entries = es;
      } in
      let whole : s5 ≡ record s0 { calls = make names role (stack ++ []) (entries ++ []) ∷ s0.calls } =
      d5 ∙ ap (on_running (with_entries entries))
      (d4 ∙ ap (on_running (with_slots stack)) (d3 ∙ ap (on_running (λ c. record c { locals = map (local_of shelf s) f.locals })) (d2 ∙ ap (on_running (λ c. record c { at = f.at })) d1))) in
      whole
      ∙ (ap (λ n. let z : Calls = record s0 { calls = make n role (stack ++ []) (entries ++ []) ∷ s0.calls } in z) a
      ∙ (ap (λ r. let z : Calls = record s0 { calls = make (record { cell = cell_of s.objects f.names }) r (stack ++ []) (entries ++ []) ∷ s0.calls } in z) b
      ∙ (ap (λ xs. let z : Calls = record s0 { calls = make (record { cell = cell_of s.objects f.names }) (role_of shelf s f.role) xs (entries ++ []) ∷ s0.calls } in z) (append-nil stack)
      ∙ ap (λ es. let z : Calls = record s0 { calls = make (record { cell = cell_of s.objects f.names }) (role_of shelf s f.role) stack es ∷ s0.calls } in z) (append-nil entries))))

-- the rooms stay
pub same_room : (shelf : Shelf) (s new : Calls) → new ≡ record s { calls = new.calls } → HasRoomFor shelf s → HasRoomFor shelf new
same_room shelf s new e h = subst (HasRoomFor shelf) (sym e) (record { slots = h.slots; greatest = h.greatest; slot_room = h.slot_room })
