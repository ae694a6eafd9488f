-- The frames of a snapshot stand and wait as the plans of their codes have it.
use Rattle.std.proofs.Common.{◌≡◌, ℕ, zero, suc, ◌+◌, ◌-◌, ◌<◌, Bool, List, [], ◌∷◌, length, map, drop, reverse, Option, Some, slice_get, refl, sym, ap, ◌∙◌, subst, arith, All, length-drop}
use Rattle.std.specs.Prelude.{IfSome}
use Rattle.std.specs.Option.{option_map}
use Rattle.std.proofs.lemmas.List.{length-map, length-reverse, get_or-reverse}
use Rattle.std.proofs.lemmas.List.Elements.{All-nil, All-cons, All-head, All-tail, All-from_recursion, recursion_from_All}
use Rattle.mpy_base.specs.World.{Objects, ADict, AModule}
use Rattle.arena_heap.specs.declared.value.Value.{Value}
use Rattle.arena_heap.specs.declared.value.StrNo.{StrNo}
use Rattle.arena_heap.specs.declared.value.ConstNo.{ConstNo}
use Rattle.bc_ops.specs.declared.instr.Op.TheVariants as ops
use Rattle.bc_ops.specs.declared.instr.Instr.TheVariants as instrs
use Rattle.bc_ops.specs.declared.listing.Item.{Item}
use Rattle.bc_ops.specs.declared.listing.Item.TheVariants as items
use Rattle.bc_flow.specs.bc_shapes.declared.kinds.Kind.{Kind as SlotKind}
use Rattle.bc_flow.specs.bc_shapes.declared.kinds.Kind.TheVariants as kinds
use Rattle.bc_flow.specs.bc_shapes.declared.kinds.Want.{Want}
use Rattle.bc_flow.specs.bc_shapes.declared.kinds.Give.{Give}
use Rattle.bc_flow.specs.bc_shapes.declared.kinds.Give.TheVariants.{New}
use Rattle.bc_flow.specs.bc_shapes.declared.shape.Entry.{Entry as FlowEntry}
use Rattle.bc_flow.specs.bc_shapes.Shape.{At, Belows, Under}
use Rattle.bc_flow.specs.Action.{Action, Straight, action, instr_action, op_action}
use Rattle.bc_flow.specs.Code as flow
use Rattle.bc_flow.specs.Edges.{takes, edges, ways}
use Rattle.bc_flow.specs.Machine.{Stack, Run, remark, cut}
use Rattle.bc_flow.specs.Verified.{Assigned, Each, Holds, Grows, IsLeastOf}
use Rattle.bc_flow.proofs.bc_shapes_lemmas.Joins.{opens_below, belows_same}
use Rattle.bc_flow.proofs.Mono.{fine_under}
use Rattle.bc_flow.proofs.Never.{Good}
use Rattle.bc_flow.proofs.Sound.{Stands, stands-length}
use Rattle.bc_labels.specs.Positions.{Starts, position_in}
use Rattle.bc_labels.proofs.Pieces as pieces
use Rattle.bc_library.specs.bc_verify.Body as verify
use Rattle.bc_library.specs.bc_verify.Body.{Body, Says}
use Rattle.bc_library.specs.mpy_tree.Codes.{Placed}
use Rattle.bc_library.proofs.bc_verify_lemmas.Bodies.{one_body}
use Rattle.bc_library.specs.Constants.{items_at, text_at}
use Rattle.bc_library.specs.Shelf.{Shelf}
use Rattle.vm_starting.specs.vm_states.bc_machine.State as states
use Rattle.vm_starting.specs.vm_states.bc_progress.Slots.{Facts, ShowsAllIn, flow_entry}
use Rattle.vm_starting.specs.vm_states.bc_progress.Plans.{Plan, flow_of}
use Rattle.vm_starting.specs.vm_states.bc_progress.Fits.{IsPlanned, StandsIn, WaitsIn}
use Rattle.vm_starting.specs.vm_states.bc_rows.declared.row.Row.{Row}
use Rattle.vm_starting.specs.vm_states.bc_rows.Rows.{IsRow}
use Rattle.vm_starting.specs.vm_states.frame_exits.Known as known
use Rattle.vm_starting.specs.vm_states.frame_exits.Known.{HasModule}
use Rattle.vm_starting.specs.vm_states.frame_moves.Shown.{view_of}
use Rattle.vm_starting.specs.vm_states.vm_frames.declared.slot.Entry.{Entry}
use Rattle.vm_starting.specs.vm_states.vm_frames.Calls.{Call}
use Rattle.vm_starting.specs.vm_states.vm_frames.Placed.{IsPlaced}
use Rattle.vm_starting.specs.vm_states.vm_frames.Views.{frame_of}
use Rattle.vm_starting.specs.vm_states.Means.{Program, Means}
use Rattle.vm_starting.specs.vm_states.Running.{IsOfModule}
use Rattle.vm_starting.specs.frame_calls.prim_faults.Faults.{IsKnown}
use Rattle.vm_starting.specs.Codes.{IsCodeOf}
use Rattle.snap_laws.specs.Jumps as laws
use Rattle.snap_grammar.specs.declared.parts.SlotPart.{SlotPart}
use Rattle.snap_grammar.specs.declared.parts.SlotPart.TheVariants as slots
use Rattle.snap_grammar.specs.declared.parts.EntryPart.{EntryPart}
use Rattle.snap_grammar.specs.declared.parts.RolePart.{RolePart}
use Rattle.snap_grammar.specs.declared.parts.RolePart.TheVariants as roles
use Rattle.snap_grammar.specs.declared.parts.FramePart.{FramePart}
use Rattle.snap_grammar.specs.declared.parts.Snapshot.{Snapshot}
use Rattle.snap_grammar.specs.Spelling.{IsSlot, IsFrame}
use Rattle.snap_states.specs.Shapes.{StandsAt, LeadsOn, JumpsLeadOn}
use Rattle.snap_states.specs.States.{Waits, AreEntriesAt, IsFineLocal, KeepsFine, IsFineRole, IsFineFrame}
use Rattle.snap_states.specs.Decoded as decoded
use Rattle.snap_states.specs.Decoded.{local_of, handler_of, call_of, IsCallOf, AreCallsOf}
use Rattle.snap_loading.specs.Given.{IsLibrary, HasRow}
use Rattle.snap_loading.proofs.Bridging.{IsFlow, is_flow, get_map}
use Rattle.snap_loading.proofs.Lying.{objects_in, is_at}
use Rattle.snap_loading.proofs.Showing.{HasFacts, shows_slots, part_known, known_slots, stack_long, entries_seen, entries_keep, entries_known}

some_is : {A : Type 0} (x y : A) → Some x ≡ Some y → x ≡ y
some_is x y e = cc

pub all_reverse : {A : Type 0} (P : A → Type 0) (xs : List A) → All P xs → All P (reverse xs)
all_reverse P xs h k d lt =
    let n = length-reverse xs in
    let within : k < length xs = omega (arith, n, lt) in
    subst P (sym (get_or-reverse xs k d within)) (h (length xs - 1 - k) d (omega (arith, within)))

-- what the laws of the lower crates say
pub record Laws : Type 0 where
  pub code : (p : Program) (i k : ℕ) (row : Row) → Means p → IsRow p.shelf i k row → IsCodeOf p i k row
  pub rooms : (code : flow.Code) (a : Assigned) (n_state n_exc : ℕ) → Holds code a → IsLeastOf code a → IsLeastOf (record code { n_state = n_state; n_exc = n_exc }) a
  pub stands : (code : flow.Code) (a b : Assigned) (p : ℕ) (x : At) (st : Stack) → IsLeastOf code a → Holds code b → a p ≡ Some x → Stands st x.slots → laws.JumpsLeadOn a x.entries st → Good code b (Run p st x.entries)
  pub waits : (code : flow.Code) (a b : Assigned) (p : ℕ) (x : At) (st : Stack) (wants : List Want) (gives : List Give) → Holds code a → IsLeastOf code a → Holds code b → a p ≡ Some x
      → slice_get code.actions p ≡ Some (Straight wants gives) → Stands st (drop (length wants) x.slots) → laws.JumpsLeadOn a x.entries st → (whole : Stack) × (drop (length wants) whole ≡ st) × Good code b (Run p whole x.entries)
  pub marks : (code : flow.Code) (a b : Assigned) (p : ℕ) (x : At) → IsLeastOf code a → Holds code b → a p ≡ Some x → map (remark p) x.entries ≡ x.entries

-- kept jumps
-- ==========

leads_to : (a : Assigned) (t : ℕ) (it : Bool) (d : ℕ) (es : List FlowEntry) (st : Stack) → LeadsOn a t it d es st → laws.LeadsOn a t it d es st
leads_to a t it zero es st h = (h.0, record { at = h.1.shape; is = h.1.is; entries = h.1.entries; slots = h.1.slots })
leads_to a t it (suc d) [] st h = h
leads_to a t it (suc d) (e ∷ es) st h = leads_to a t it d es (cut e.height st) h.1

jumps_to : (a : Assigned) (es : List FlowEntry) (st : Stack) → JumpsLeadOn a es st → laws.JumpsLeadOn a es st
jumps_to a [] st h = tt
jumps_to a (e ∷ es) st h = (λ above rest t d it parts height. leads_to a t it d es rest (h.0 above rest t d it parts height), jumps_to a es (cut e.height st) h.1)

-- one shape
-- =========

belows_both : (ks ls : List SlotKind) → Belows ks ls → Belows ls ks → ks ≡ ls
belows_both ks ls h g = let a = opens_below ks ls h in let b = opens_below ls ks g in sym (belows_same ks ls h (omega (arith, a, b)))

pub grown : (a b : Assigned) (p : ℕ) (x y : At) → Grows a b → a p ≡ Some x → b p ≡ Some y → Under x y
grown a b p x y up e f = let l = up.each p x e in subst (Under x) (some_is l.at y (sym l.is ∙ f)) l.under

least_once : (code : flow.Code) (a b : Assigned) (p : ℕ) (x y : At) → Holds code a → IsLeastOf code a → Holds code b → IsLeastOf code b → a p ≡ Some x → b p ≡ Some y → x ≡ y
least_once code a b p x y ha la hb lb e f =
    let u = grown a b p x y (la b hb) e f in
    let v = grown b a p y x (lb a ha) f e in
    let slots_same = belows_both x.slots y.slots u.slots v.slots in
    ap (λ z. let w : At = record { slots = z; entries = x.entries } in w) slots_same ∙ ap (λ z. let w : At = record { slots = y.slots; entries = z } in w) u.entries

one_place : (bytes : List ℕ) (body : Body) (offsets : List ℕ) (p at : ℕ) → Says bytes body offsets → slice_get offsets p ≡ Some at → position_in offsets at ≡ p
one_place bytes body offsets p at says e = pieces.one says.begins.instructions (record { items = body.items; offsets = offsets }) p at says.lists e

pub shape_once : (shelf : Shelf) (m k at : ℕ) (x y : StandsAt shelf m k at) → x.shape ≡ y.shape
shape_once shelf m k at x y =
    let placed : x.placed ≡ y.placed = some_is x.placed y.placed (sym x.there ∙ y.there) in
    let own = one_body y.placed.bytes x.body y.body x.offsets y.offsets (subst (λ (z : Placed). Says z.bytes x.body x.offsets) placed x.says) y.says in
    let position : x.position ≡ y.position =
    sym (one_place x.placed.bytes x.body x.offsets x.position at x.says x.here) ∙ (ap (λ z. position_in z at) own.1 ∙ one_place y.placed.bytes y.body y.offsets y.position at y.says y.here) in
    least_once (verify.flow_of y.body) x.a y.a y.position x.shape y.shape
    (subst (λ z. Holds (verify.flow_of z) x.a) own.0 x.holds) (subst (λ z. IsLeastOf (verify.flow_of z) x.a) own.0 x.least) y.holds y.least (ap x.a (sym position) ∙ x.is) y.is

pub same_drop : {A : Type 0} (xs : List A) (t u n : ℕ) → length (drop t xs) ≡ n → u + n ≡ length xs → drop u xs ≡ drop t xs
same_drop [] zero zero n e f = refl
same_drop [] zero (suc u) n e f = refl
same_drop [] (suc t) zero n e f = refl
same_drop [] (suc t) (suc u) n e f = refl
same_drop (x ∷ xs) zero u n e f = let z : u ≡ 0 = omega (arith, e, f) in ap (λ k. drop k (x ∷ xs)) z
same_drop (x ∷ xs) (suc t) zero n e f = let l = length-drop t xs in absurd (omega (arith, e, f, l))
same_drop (x ∷ xs) (suc t) (suc u) n e f = same_drop xs t u n e (omega (arith, f))

-- rooms
-- =====

module _ (laws_are : Laws) (code : flow.Code) (a b : Assigned) (n m : ℕ) (h : Holds code a) (least : IsLeastOf code a) (g : Holds (record code { n_state = n; n_exc = m }) b) where
  with_rooms : flow.Code
  with_rooms = record code { n_state = n; n_exc = m }

  same_edges : (i : Action) (p : ℕ) (z : At) → edges code i p z ≡ edges (record code { n_state = n; n_exc = m }) i p z
  unfolding ways
  same_edges i p z = refl

  action_is : (o : Option Action) (i j : Action) → o ≡ Some i → o ≡ Some j → i ≡ j
  action_is o i j e f = cc

  -- the least assignment keeps the rules with the rooms of each other one
  pub holds_rooms : Holds (record code { n_state = n; n_exc = m }) a
  holds_rooms =
      let up : Grows a b = laws_are.rooms code a n m h least b g in
      record {
        start = h.start;
        closed = λ p x e.
            let l = up.each p x e in
            let f = fine_under (record code { n_state = n; n_exc = m }) b p x l.at l.under (g.closed p l.at l.is) in
            let k = h.closed p x e in
            let along = subst (λ j. Each a (edges code j p x)) (action_is (slice_get code.actions p) k.action f.action k.is f.is) k.along in
            record {
              action = f.action;
              is = f.is;
              handlers = f.handlers;
              height = f.height;
              state = f.state;
              falls = f.falls;
              along = subst (λ es. Each a es) (same_edges f.action p x) along;
            };
      }

-- what a call takes
-- =================

pub call_action : (item : Item) (a : Action) (taken size : ℕ) → Waits (Some roles.Call) item a taken → a ≡ action size item → (ws : List Want) × (a ≡ Straight ws (New kinds.Value ∷ [])) × (taken ≡ length ws)
unfolding action instr_action op_action takes
call_action (items.Plain (instrs.Num ops.CallFunction n)) a taken size w e = (_, e, w ∙ ap (λ (z : Action). length (takes z)) e)
call_action (items.Plain (instrs.Num ops.CallMethod n)) a taken size w e = (_, e, w ∙ ap (λ (z : Action). length (takes z)) e)
call_action _ a taken size w e = absurd w

pub import_takes : (m : ℕ) (item : Item) (a : Action) (taken : ℕ) → Waits (Some (roles.Import m)) item a taken → taken ≡ 0
import_takes m (items.Plain (instrs.Name ops.ImportName n)) a taken w = w
import_takes m _ a taken w = absurd w

-- one frame
-- =========

module _ (laws_are : Laws) (p : Program) (s : Snapshot) (title : ℕ → ℕ → ℕ) (is : IsLibrary p.shelf) (means : Means p) (above : Option RolePart) (f : FramePart) (fine : IsFineFrame p.shelf s above f) (row : HasRow p.shelf f) where
  abbrev pub plan : Plan
  plan = p.plans (p.tables.module_name f.module_number) f.code

  abbrev pub call : Call
  call = call_of p.shelf s (drop fine.taken fine.stands.shape.slots) f

  abbrev pub code_of : flow.Code
  code_of = record (verify.flow_of fine.stands.body) { n_state = plan.n_state; n_exc = plan.n_exc }

  pub own : IsFlow p f.module_number f.code fine.stands.body fine.stands.offsets
  own =
      is_flow p f.module_number f.code row.0 fine.stands.placed fine.stands.body fine.stands.offsets means row.1 (laws_are.code p f.module_number f.code row.0 means row.1) fine.stands.there fine.stands.says

  pub meets : Holds code_of plan.assigned
  meets = subst (λ c. Holds c plan.assigned) own.flow_is own.meets

  pub least : IsLeastOf code_of fine.stands.a
  least = laws_are.rooms (verify.flow_of fine.stands.body) fine.stands.a plan.n_state plan.n_exc fine.stands.holds fine.stands.least

  -- offsets and positions
  in_code : (t at : ℕ) → slice_get fine.stands.offsets t ≡ Some at → position_in fine.stands.offsets at ≡ t
  in_code t at e = pieces.one own.bytes (record { items = fine.stands.body.items; offsets = fine.stands.offsets }) t at own.is_list e

  in_starts : (t at : ℕ) → slice_get fine.stands.offsets t ≡ Some at → position_in (p.tables.starts f.module_number f.code) at ≡ t
  in_starts t at e = ap (λ z. position_in z at) own.starts_are ∙ in_code t at e

  pub position_is : position_in (p.tables.starts f.module_number f.code) f.at ≡ fine.stands.position
  position_is = in_starts fine.stands.position f.at fine.stands.here

  starts_at : (t at : ℕ) → slice_get fine.stands.offsets t ≡ Some at → Starts fine.stands.offsets at
  starts_at t at e = ap (λ z. slice_get fine.stands.offsets z) (in_code t at e) ∙ e

  -- the frame
  abbrev pub frame : states.Frame
  frame = frame_of (view_of p.tables) call

  entries_are : map flow_entry frame.entries ≡ fine.stands.shape.entries
  entries_are =
      entries_seen p.tables p.shelf s title (p.tables.starts f.module_number f.code) fine.stands.offsets in_starts (position_in (p.tables.starts f.module_number f.code) f.at) (reverse f.entries) fine.stands.shape.entries fine.entries
      ∙ (ap (λ z. map (remark z) fine.stands.shape.entries) position_is
      ∙ laws_are.marks code_of fine.stands.a plan.assigned fine.stands.position fine.stands.shape least meets fine.stands.is)

  planned : (st : Stack) → Good code_of plan.assigned (Run fine.stands.position st fine.stands.shape.entries) → IsPlanned plan own.code frame st
  planned st g =
      subst (λ es. Good (flow_of plan own.code) plan.assigned (Run (position_in (p.tables.starts f.module_number f.code) f.at) st es)) (sym entries_are)
      (subst (λ z. Good (flow_of plan own.code) plan.assigned (Run z st fine.stands.shape.entries)) (sym position_is)
      (subst (λ c. Good c plan.assigned (Run fine.stands.position st fine.stands.shape.entries)) (sym own.flow_is) g))

  jumps : laws.JumpsLeadOn fine.stands.a fine.stands.shape.entries fine.stack
  jumps = jumps_to fine.stands.a fine.stands.shape.entries fine.stack fine.jumps

  locals_are : length frame.locals ≡ own.code.locals
  locals_are = length-map (map (local_of p.shelf s) f.locals) (option_map (view_of p.tables).plain) ∙ (length-map f.locals (local_of p.shelf s) ∙ (fine.as_many_locals ∙ sym own.locals_are))

  module _ (facts : Facts) (h : HasFacts p.tables p.shelf s title facts) where
    -- at an instruction
    pub stands_in : fine.taken ≡ 0 → StandsIn facts p.plans p.library frame
    stands_in zero_taken = record {
      code = own.code;
      code_is = own.code_is;
      locals = locals_are;
      stack = fine.stack;
      shows = shows_slots p.tables p.shelf s title facts h (p.tables.starts f.module_number f.code) fine.stands.offsets in_starts (reverse f.slots) fine.stack (drop fine.taken fine.stands.shape.slots) fine.shows fine.slots;
      kept = entries_keep p.tables p.shelf s title (p.tables.starts f.module_number f.code) fine.stands.offsets in_starts (position_in (p.tables.starts f.module_number f.code) f.at) facts h (reverse f.entries) (all_reverse (KeepsFine s) f.entries fine.kept);
      planned = planned fine.stack (laws_are.stands code_of fine.stands.a plan.assigned fine.stands.position fine.stands.shape fine.stack least meets fine.stands.is (subst (λ t. Stands fine.stack (drop t fine.stands.shape.slots)) zero_taken fine.slots) jumps);
    }

    -- at a call, without its operands
    pub waits_in : above ≡ Some roles.Call → WaitsIn facts p.plans p.library frame
    waits_in is_call =
        let size = length fine.stands.body.items in
        let at = get_map (action size) fine.stands.body.items fine.stands.position fine.action fine.action_is in
        let item_same : at.0 ≡ fine.item = some_is at.0 fine.item (sym at.1 ∙ fine.item_is) in
        let does : fine.action ≡ action size fine.item = sym at.2 ∙ ap (action size) item_same in
        let c = call_action fine.item fine.action fine.taken size (subst (λ r. Waits r fine.item fine.action fine.taken) is_call fine.waits) does in
        let ws = c.0 in
        let acts : slice_get code_of.actions fine.stands.position ≡ Some (Straight ws (New kinds.Value ∷ [])) = fine.action_is ∙ ap (λ z. Some z) c.1 in
        let holds = holds_rooms laws_are (verify.flow_of fine.stands.body) fine.stands.a plan.assigned plan.n_state plan.n_exc fine.stands.holds fine.stands.least meets in
        let stack = subst (λ t. Stands fine.stack (drop t fine.stands.shape.slots)) c.2 fine.slots in
        let w = laws_are.waits code_of fine.stands.a plan.assigned fine.stands.position fine.stands.shape fine.stack ws (New kinds.Value ∷ []) holds least meets fine.stands.is acts stack jumps in
        let shows = shows_slots p.tables p.shelf s title facts h (p.tables.starts f.module_number f.code) fine.stands.offsets in_starts (reverse f.slots) fine.stack (drop fine.taken fine.stands.shape.slots) fine.shows fine.slots in
        record {
          code = own.code;
          code_is = own.code_is;
          locals = locals_are;
          stack = w.0;
          wants = ws;
          call = ap (λ (z : flow.Code). slice_get z.actions (position_in (p.tables.starts f.module_number f.code) f.at)) own.flow_is ∙ (ap (λ z. slice_get code_of.actions z) position_is ∙ acts);
          shows = subst (λ z. ShowsAllIn facts frame.slots z) (sym w.1) shows;
          kept = entries_keep p.tables p.shelf s title (p.tables.starts f.module_number f.code) fine.stands.offsets in_starts (position_in (p.tables.starts f.module_number f.code) f.at) facts h (reverse f.entries) (all_reverse (KeepsFine s) f.entries fine.kept);
          planned = planned w.0 w.2;
        }

  -- where it stands
  handlers_start : (es : List EntryPart) (xs : List FlowEntry) → AreEntriesAt fine.stands.offsets es xs → All (λ (e : Entry). Starts fine.stands.offsets e.handler) (map (handler_of p.shelf s) es)
  handlers_start [] [] h = All-nil (λ (e : Entry). Starts fine.stands.offsets e.handler)
  handlers_start [] (x ∷ xs) h = absurd h
  handlers_start (e ∷ es) [] h = absurd h
  handlers_start (e ∷ es) (x ∷ xs) h = All-cons (λ (z : Entry). Starts fine.stands.offsets z.handler) (handler_of p.shelf s e) (map (handler_of p.shelf s) es) (starts_at x.handler e.handler h.0.handler) (handlers_start es xs h.1)

  pub is_placed : IsPlaced (view_of p.tables) call
  is_placed = record {
    bytes = own.bytes;
    list = record { items = fine.stands.body.items; offsets = fine.stands.offsets };
    listed = own.is_list;
    starts_are = own.starts_are;
    here = starts_at fine.stands.position f.at fine.stands.here;
    handlers = handlers_start (reverse f.entries) fine.stands.shape.entries fine.entries;
  }

  pub of_module : IsOfModule p call
  of_module = own.of_module

  -- what lies in it
  abbrev objs : Objects Value ℕ
  objs = objects_in p.shelf s title

  abbrev IsKnownLocal : Option Value → Type 0
  IsKnownLocal v = IfSome v (IsKnown (text_at p.shelf) (items_at p.shelf) objs)

  local_known : (part : SlotPart) → IsFineLocal p.shelf s part → IsSlot part → IsKnownLocal (local_of p.shelf s part)
  local_known (slots.Value v) g i = part_known p.tables p.shelf s title is v g i
  local_known slots.Empty g i = tt
  local_known (slots.Iterator over at) g i = absurd g
  local_known (slots.Left count over at) g i = absurd g
  local_known (slots.Return v) g i = absurd g
  local_known (slots.Jump target entries iterator) g i = absurd g

  locals_known : (ls : List SlotPart) → All (IsFineLocal p.shelf s) ls → All IsSlot ls → All IsKnownLocal (map (local_of p.shelf s) ls)
  locals_known [] g i = All-nil IsKnownLocal
  locals_known (l ∷ ls) g i =
      All-cons IsKnownLocal (local_of p.shelf s l) (map (local_of p.shelf s) ls) (local_known l (All-head (IsFineLocal p.shelf s) l ls g) (All-head IsSlot l ls i)) (locals_known ls (All-tail (IsFineLocal p.shelf s) l ls g) (All-tail IsSlot l ls i))

  role_known : (r : RolePart) → IsFineRole s r → HasModule objs (decoded.role_of p.shelf s r)
  role_known roles.Main h = tt
  role_known roles.Call h = tt
  role_known (roles.Import number) h = is_at p.shelf s title AModule number h

  pub is_known : IsFrame f → known.IsKnownCall p.tables.texts p.tables.tuples (length p.shelf.modules) objs call
  is_known i =
      let it : known.IsKnownCall (text_at p.shelf) (items_at p.shelf) (length p.shelf.modules) objs call = record {
        of_module = own.of_module;
        names = is_at p.shelf s title ADict f.names fine.names.dict;
        role = role_known f.role fine.role;
        locals = locals_known f.locals fine.locals (All-from_recursion IsSlot f.locals i.locals.1);
        slots =
            All-from_recursion (known.IsKnownSlot (text_at p.shelf) (items_at p.shelf) objs) call.slots
            (known_slots p.tables p.shelf s title is fine.stands.offsets (reverse f.slots) fine.stack (drop fine.taken fine.stands.shape.slots) fine.shows fine.slots
            (recursion_from_All IsSlot (reverse f.slots) (all_reverse IsSlot f.slots (All-from_recursion IsSlot f.slots i.slots.1))));
        entries = entries_known p.tables p.shelf s title (reverse f.entries) (all_reverse (KeepsFine s) f.entries fine.kept);
      } in
      subst (λ (t : StrNo → Option (List ℕ)). known.IsKnownCall t p.tables.tuples (length p.shelf.modules) objs call) (sym means.constants.texts)
      (subst (λ (t : ConstNo → Option (List Value)). known.IsKnownCall (text_at p.shelf) t (length p.shelf.modules) objs call) (sym means.constants.tuples) it)

  -- the frame's call is the one that is meant
  pub call_is : (c : Call) → IsCallOf p.shelf s f c → c ≡ call
  call_is c h =
      let shape = shape_once p.shelf f.module_number f.code f.at h.stands fine.stands in
      let kinds_there : c ≡ call_of p.shelf s (drop h.taken fine.stands.shape.slots) f = h.is ∙ ap (λ (z : At). call_of p.shelf s (drop h.taken z.slots) f) shape in
      let long = stack_long p.tables p.shelf s title fine.stands.offsets (reverse f.slots) fine.stack (drop h.taken fine.stands.shape.slots) fine.shows in
      let slots_long : length c.slots ≡ length fine.stack = ap (λ (z : Call). length z.slots) kinds_there ∙ long in
      let size = stands-length fine.stack (drop fine.taken fine.stands.shape.slots) fine.slots in
      let whole : h.taken + length c.slots ≡ length fine.stands.shape.slots = h.slots_are ∙ ap (λ (z : At). length z.slots) shape in
      let dropped = same_drop fine.stands.shape.slots fine.taken h.taken (length c.slots) (sym (slots_long ∙ size)) whole in
      kinds_there ∙ ap (λ z. call_of p.shelf s z f) dropped
