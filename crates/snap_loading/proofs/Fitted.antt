-- Each frame of a run's snapshot stands or waits as its code has it: so the snapshot's frames are those of a state.
use Rattle.std.proofs.Common.{◌≡◌, inl, inr, ℕ, zero, suc, ◌<◌, ◌≤◌, Bool, List, [], ◌∷◌, ◌++◌, length, map, take, drop, reverse, Option, Some, None, slice_get, refl, sym, ap, ap₂, ◌∙◌, subst, arith, All}
use Rattle.std.specs.Prelude.{◌⊎◌, unwrap_or}
use Rattle.std.specs.List.{AllByRecursion as Each}
use Rattle.std.specs.Option.{option_map, option_and_then}
use Rattle.std.proofs.lemmas.List.{append_assoc, length-map, reverse-reverse, take-append-drop}
use Rattle.std.proofs.lemmas.List.Elements.{All-from_recursion, recursion_from_All}
use Rattle.std.proofs.lemmas.Option.{slice_get_within}
use Rattle.mpy_base.specs.World.{Objects}
use Rattle.mpy_base.specs.Val.{Nil}
use Rattle.arena_heap.specs.declared.value.Value.{Value}
use Rattle.bc_ops.specs.declared.instr.Op.{Op}
use Rattle.bc_ops.specs.declared.instr.Op.TheVariants as ops
use Rattle.bc_ops.specs.declared.instr.Instr.{Instr}
use Rattle.bc_ops.specs.declared.instr.Instr.TheVariants as instrs
use Rattle.bc_ops.specs.declared.listing.Item as listings
use Rattle.bc_ops.specs.declared.listing.Item.TheVariants as listed
use Rattle.bc_flow.specs.bc_shapes.declared.kinds.Kind.TheVariants as kinds
use Rattle.bc_flow.specs.bc_shapes.declared.kinds.Want.{Want}
use Rattle.bc_flow.specs.bc_shapes.declared.kinds.Give.{Give}
use Rattle.bc_flow.specs.bc_shapes.declared.kinds.Give.TheVariants.{New}
use Rattle.bc_flow.specs.bc_shapes.declared.shape.Entry.{Entry as FlowEntry}
use Rattle.bc_flow.specs.bc_shapes.Shape.{At}
use Rattle.bc_flow.specs.Action.{Action, Straight, action}
use Rattle.bc_flow.specs.Code as flow
use Rattle.bc_flow.specs.Edges.{takes}
use Rattle.bc_flow.specs.Machine as machine
use Rattle.bc_flow.specs.Machine.{Stack, KeptJump}
use Rattle.bc_flow.specs.Verified.{Assigned, Holds, IsLeastOf, Verified}
use Rattle.bc_flow.proofs.Sound.{Stands, stands_drop}
use Rattle.bc_labels.proofs.Order.{each}
use Rattle.bc_labels.specs.Positions.{CodeList, Listed, Starts, position_in}
use Rattle.bc_library.specs.bc_verify.Body as verify
use Rattle.bc_library.specs.bc_verify.Body.{Body, Says}
use Rattle.bc_library.specs.bc_verify.Verified.{IsVerifiedCode}
use Rattle.bc_library.specs.mpy_tree.Codes.{Placed, codes_of}
use Rattle.bc_library.specs.mpy_tree.File.{IsModule}
use Rattle.bc_library.specs.mpy_tree.Raw as raw
use Rattle.bc_library.specs.mpy_tree.Resolved.{ResolvedModule, Resolves, name_at, resolved}
use Rattle.bc_library.specs.mpy_tree.Resolved as trees
use Rattle.bc_library.specs.mpy_tree.Values.{value_of}
use Rattle.bc_library.specs.mpy_tree.declared.module.Constant.{Constant}
use Rattle.bc_library.proofs.bc_verify_lemmas.mpy_tree_lemmas.Codes.{module_placed}
use Rattle.bc_library.specs.Shelf.{Shelf, Named, module_at}
use Rattle.bc_machine.specs.py_values.Shown.{PlainHeap}
use Rattle.bc_machine.specs.Library.{Name, Item, Plain, Names, Loads, Jumps as JumpsTo, Unwinds, Line, Code, Module, Entry, Holds as Has, Library, entry_in, module_in, code_in, code_at, item_of, module_of}
use Rattle.bc_machine.specs.Step.{line_at}
use Rattle.bc_machine.specs.State as states
use Rattle.vm_kept.specs.Kept.{KeepCalls}
use Rattle.vm_starting.specs.vm_states.bc_progress.Known.{facts_of}
use Rattle.vm_starting.specs.vm_states.bc_progress.Fits.{IsPlanned, StandsIn, WaitsIn, BelowIn}
use Rattle.vm_starting.specs.vm_states.bc_progress.Plans.{Plan, Plans, Follows, flow_of}
use Rattle.vm_starting.specs.vm_states.bc_progress.Slots.{ShowsAllIn, flow_entry}
use Rattle.vm_starting.specs.vm_states.bc_rows.declared.row.Row.{Row}
use Rattle.vm_starting.specs.vm_states.bc_rows.Codes.{code_numbered}
use Rattle.vm_starting.specs.vm_states.bc_rows.Rows.{IsRow}
use Rattle.vm_starting.specs.vm_states.frame_exits.Known.{KeepsException}
use Rattle.vm_starting.specs.vm_states.frame_moves.Shown.{view_of}
use Rattle.vm_starting.specs.vm_states.vm_frames.declared.slot.Entry.{Entry as Held}
use Rattle.vm_starting.specs.vm_states.vm_frames.declared.slot.Role.{Role}
use Rattle.vm_starting.specs.vm_states.vm_frames.declared.slot.Role.TheVariants as ends
use Rattle.vm_starting.specs.vm_states.vm_frames.Calls.{Call}
use Rattle.vm_starting.specs.vm_states.vm_frames.Placed.{IsPlaced}
use Rattle.vm_starting.specs.vm_states.vm_frames.Views.{frame_of, role_of, slots_of}
use Rattle.vm_starting.specs.vm_states.Means.{Program, IsMeant, Means}
use Rattle.vm_starting.specs.vm_states.State.{IsKnownCall}
use Rattle.vm_starting.specs.Codes.{IsCodeOf}
use Rattle.vm_starting.specs.Programs.{IsProgramOf}
use Rattle.snap_saving.specs.Shown.{place_in, role_part, local_part, slot_part, entry_part, frame_part}
use Rattle.snap_laws.specs.Kept.{IsCall, function, method, IsImport, import, item_at, WaitBelow}
use Rattle.snap_kept.specs.Values as kept
use Rattle.snap_kept.specs.Frames.{KeepsNone, IsFrame}
use Rattle.snap_grammar.specs.declared.parts.RolePart.{RolePart}
use Rattle.snap_grammar.specs.declared.parts.RolePart.TheVariants as roles
use Rattle.snap_grammar.specs.declared.parts.FramePart.{FramePart}
use Rattle.snap_grammar.specs.declared.parts.Snapshot.{Snapshot}
use Rattle.snap_states.specs.Shapes.{StandsAt, JumpsLeadOn}
use Rattle.snap_states.specs.States.{IsNamespace, IsFineLocal, KeepsFine, AreEntriesAt, ShowsParts, Waits, IsFineFrame, AreFineFrames}
use Rattle.snap_loading.proofs.Bridging.{IsFlow, is_flow, held_by, get_map, get_there}
use Rattle.snap_loading.proofs.Causing.{GiveNoCause, items_fine, jump_leads}
use Rattle.snap_loading.proofs.Framewise.{Parts_are, Lie, lie, Plainly, plainly, Jumps, jumps_by, shows_by, locals_fine, role_fine, entries_at, entries_fine, lead_on, position_found}
use Rattle.snap_loading.proofs.Leasting.{least_of}
use Rattle.snap_loading.proofs.Reframing.{parts_down, shown_down}
use Rattle.snap_loading.proofs.Slotting.{map_reverse}
use Rattle.snap_loading.proofs.Standing.{Laws, holds_rooms, all_reverse}
use Rattle.snap_loading.specs.Given.{HasCodeRows}

some_is : {A : Type 0} (x y : A) → Some x ≡ Some y → x ≡ y
some_is x y e = cc

-- the program whose plans are the least
-- =====================================

module _ (p : Program) (means : Means p) where
  -- a plan with the rooms of the old one, which is the least of its code
  pub record Better (name : Name) (number : ℕ) : Type 0 where
    pub plan : Plan
    pub n_state : plan.n_state ≡ (p.plans name number).n_state
    pub n_exc : plan.n_exc ≡ (p.plans name number).n_exc
    pub least : (code : Code) → code_at p.library name number ≡ Some code → Holds (flow_of plan code) plan.assigned × IsLeastOf (flow_of plan code) plan.assigned

  pub better : (name : Name) (number : ℕ) → Better name number
  better name number = by (code_at p.library name number) refl
    where
      by : (o : Option Code) → code_at p.library name number ≡ o → Better name number
      by None e = record { plan = p.plans name number; n_state = refl; n_exc = refl; least = λ code f. absurd (let no : None ≡ Some code = sym e ∙ f in cc) }
      by (Some code) e =
          let h = held_by (entry_in p.library name) number code e in
          let plan = p.plans name number in
          let l = least_of (flow_of plan code) (plan.assigned, ((means.follows name h.0 h.1).codes number code h.2).meets) in
          record {
            plan = record plan { assigned = l.0 };
            n_state = refl;
            n_exc = refl;
            least = λ other f. subst (λ z. Holds (flow_of plan z) l.0 × IsLeastOf (flow_of plan z) l.0) (some_is code other (sym e ∙ f)) (l.1, l.2);
          }

  abbrev pub least_program : Program
  least_program = record p { plans = λ name number. (better name number).plan }

  least_follows : Follows (λ name number. (better name number).plan) p.library
  least_follows name m e =
      let old = means.follows name m e in
      record {
        begins = old.begins;
        codes = λ number code f.
            let v = old.codes number code f in
            let there : code_at p.library name number ≡ Some code = ap (λ z. code_in (module_in z) number) e ∙ f in
            record { params = v.params; known = v.known; children = v.children; meets = ((better name number).least code there).0 };
      }

  pub least_means : Means least_program
  least_means = record {
    constants = means.constants;
    follows = least_follows;
    modules = λ i n e.
        let k = means.modules i n e in
        record { is_module = k.is_module; is_verified = k.is_verified; name_is = k.name_is; tree = k.tree; resolves = k.resolves; held = k.held; starts_are = k.starts_are };
    refused = means.refused;
    others = means.others;
  }

  pub least_is : (name : Name) (number : ℕ) (code : Code) → code_at p.library name number ≡ Some code
      → IsLeastOf (flow_of (least_program.plans name number) code) (least_program.plans name number).assigned
  least_is name number code e = ((better name number).least code e).1

  pub least_runs : (shelf : Shelf) → IsProgramOf shelf p → IsProgramOf shelf least_program
  least_runs shelf program = record {
    shelf_is = program.shelf_is;
    library_is = program.library_is;
    means = least_means;
    rooms = λ n_state n_exc g name number code e.
        let k = program.rooms n_state n_exc g name number code e in
        let b = better name number in
        (subst (λ z. z ≤ n_state) (sym b.n_state) k.0, subst (λ z. z ≤ n_exc) (sym b.n_exc) k.1);
  }

-- instructions of files
-- =====================

no_import : (x : Instr) → IsImport (Some (Plain x)) → ⊥
no_import x h = elim h [ ]

import_op : (op : Op) (text : Name) → IsImport (Some (Names op text)) → op ≡ ops.ImportName
import_op op text import = refl

abbrev IsImportItem : listings.Item → Type 0
IsImportItem i = (n : ℕ) × (i ≡ listed.Plain (instrs.Name ops.ImportName n))

named_import : (size : ℕ) (op : Op) (n : ℕ) (o : Option (List ℕ)) → IsImport (Some (item_of size (unwrap_or (option_map (trees.named op) o) (trees.plain (instrs.Name op n))))) → IsImportItem (listed.Plain (instrs.Name op n))
named_import size op n (Some text) h = (n, ap (λ z. listed.Plain (instrs.Name z n)) (import_op op text h))
named_import size op n None h = absurd (no_import (instrs.Name op n) h)

object_import : (size n : ℕ) (o : Option Constant) → IsImport (Some (item_of size (unwrap_or (option_map (λ constant. trees.object (value_of constant)) o) (trees.plain (instrs.Num ops.LoadConstObj n))))) → ⊥
object_import size n (Some c) h = elim h [ ]
object_import size n None h = no_import (instrs.Num ops.LoadConstObj n) h

import_item : (m : raw.Module) (size : ℕ) (i : listings.Item) → IsImport (Some (item_of size (resolved m i))) → IsImportItem i
import_item m size (listed.Plain (instrs.Name op n)) h = named_import size op n (name_at m n) h
import_item m size (listed.Plain (instrs.Num ops.LoadConstObj n)) h = absurd (object_import size n (slice_get m.objects n) h)
import_item m size (listed.Plain instr) h = absurd (no_import instr h)
import_item m size (listed.Jump op target) h = elim h [ ]
import_item m size (listed.Unwind target byte) h = elim h [ ]

abbrev IsCallInstr : Instr → Type 0
IsCallInstr x = (n : ℕ) × ((x ≡ instrs.Num ops.CallFunction n) ⊎ (x ≡ instrs.Num ops.CallMethod n))

call_instr : (x : Instr) → IsCall (Some (Plain x)) → IsCallInstr x
call_instr x (function {n = n}) = (n, inl refl)
call_instr x (method {n = n}) = (n, inr refl)

abbrev IsCallItem : listings.Item → Type 0
IsCallItem i = (x : Instr) × (i ≡ listed.Plain x) × IsCallInstr x

named_call : (size : ℕ) (op : Op) (n : ℕ) (o : Option (List ℕ)) → IsCall (Some (item_of size (unwrap_or (option_map (trees.named op) o) (trees.plain (instrs.Name op n))))) → IsCallItem (listed.Plain (instrs.Name op n))
named_call size op n (Some text) h = elim h [ ]
named_call size op n None h = (instrs.Name op n, refl, call_instr (instrs.Name op n) h)

object_call : (size n : ℕ) (o : Option Constant) → IsCall (Some (item_of size (unwrap_or (option_map (λ constant. trees.object (value_of constant)) o) (trees.plain (instrs.Num ops.LoadConstObj n))))) → IsCallItem (listed.Plain (instrs.Num ops.LoadConstObj n))
object_call size n (Some c) h = elim h [ ]
object_call size n None h = (instrs.Num ops.LoadConstObj n, refl, call_instr (instrs.Num ops.LoadConstObj n) h)

call_item : (m : raw.Module) (size : ℕ) (i : listings.Item) → IsCall (Some (item_of size (resolved m i))) → IsCallItem i
call_item m size (listed.Plain (instrs.Name op n)) h = named_call size op n (name_at m n) h
call_item m size (listed.Plain (instrs.Num ops.LoadConstObj n)) h = object_call size n (slice_get m.objects n) h
call_item m size (listed.Plain instr) h = (instr, refl, call_instr instr h)
call_item m size (listed.Jump op target) h = elim h [ ]
call_item m size (listed.Unwind target byte) h = elim h [ ]

-- what a call waits for
call_waits : (x : Instr) (a : Action) (ws : List Want) (gs : List Give) → IsCallInstr x → a ≡ Straight ws gs → Waits (Some roles.Call) (listed.Plain x) a (length ws)
unfolding takes
call_waits x a ws gs (n, inl e) f = subst (λ z. Waits (Some roles.Call) (listed.Plain z) a (length ws)) (sym e) (sym (ap (λ z. length (takes z)) f))
call_waits x a ws gs (n, inr e) f = subst (λ z. Waits (Some roles.Call) (listed.Plain z) a (length ws)) (sym e) (sym (ap (λ z. length (takes z)) f))

import_waits : (m : ℕ) (i : listings.Item) (a : Action) → IsImportItem i → Waits (Some (roles.Import m)) i a 0
import_waits m i a h = subst (λ z. Waits (Some (roles.Import m)) z a 0) (sym h.1) refl

-- one frame
-- =========

-- how many codes a module has
abbrev pub CodesLaw : Type 0
CodesLaw = (m : raw.Module) (tree : ResolvedModule) → IsModule m → Resolves m tree → length (module_of tree).codes ≡ length (codes_of m)

abbrev pub EntriesLaw : Type 0
EntriesLaw = (library : Library) (heap : PlainHeap) (frame : states.Frame) → IsFrame library heap frame → Each KeepsNone frame.entries

module _ (laws : Laws) (as_many : CodesLaw) (entries_law : EntriesLaw) (p : Program) (means : Means p) (rows : HasCodeRows p.shelf)
    (leasts : (name : Name) (number : ℕ) (code : Code) → code_at p.library name number ≡ Some code → IsLeastOf (flow_of (p.plans name number) code) (p.plans name number).assigned)
    (heap : PlainHeap) (objects : Objects Value ℕ) (s : Snapshot) (place : ℕ → ℕ) (known : Parts_are p.library heap objects p.tables p.shelf s place)
    (space : (n : ℕ) → kept.IsNamespace heap n → IsNamespace s (place n)) where
  abbrev frame : Call → states.Frame
  frame c = frame_of (view_of p.tables) c

  abbrev part : Call → FramePart
  part c = frame_part p.shelf place c

  -- the file's code of these numbers, verified
  record Coded (m k : ℕ) : Type 0 where
    placed : Placed
    there : code_numbered p.shelf m k ≡ Some placed
    body : Body
    offsets : List ℕ
    says : Says placed.bytes body offsets
    verified : Verified (verify.flow_of body)

  coded : (m k : ℕ) (code : Code) → m < length p.shelf.modules → code_at p.library (p.tables.module_name m) k ≡ Some code → Coded m k
  coded m k code lt e =
      let n = get_there p.shelf.modules m lt in
      let is = means.modules m n.0 n.1 in
      let own : slice_get (module_of is.tree).codes k ≡ Some code = sym (ap (λ z. code_in (module_in z) k) is.held) ∙ (ap (λ z. code_at p.library z k) (sym is.name_is) ∙ e) in
      let within = slice_get_within (module_of is.tree).codes k code own in
      let many = as_many n.0.held is.tree is.is_module is.resolves in
      let place_of = get_there (codes_of n.0.held) k (omega (arith, within, many)) in
      let at = module_placed n.0.held k place_of.0 place_of.1 in
      let v = is.is_verified place_of.0.path at.code at.there in
      record {
        placed = place_of.0;
        there = ap (λ z. option_and_then (λ h. slice_get (codes_of h) k) (option_and_then (λ (q : Named). Some q.held) z)) n.1 ∙ place_of.1;
        body = v.body;
        offsets = v.offsets;
        says = subst (λ z. Says z v.body v.offsets) (sym at.bytes) v.says;
        verified = v.flow;
      }

  -- a frame that stands, or waits without what its call took
  record Stood (c : Call) : Type 0 where
    code : Code
    code_is : code_at p.library (frame c).module_name (frame c).code ≡ Some code
    locals : length (frame c).locals ≡ code.locals
    stack : Stack
    taken : ℕ
    shows : ShowsAllIn (facts_of objects) (frame c).slots (drop taken stack)
    planned : IsPlanned (p.plans (frame c).module_name (frame c).code) code (frame c) stack

  stood : (c : Call) → StandsIn (facts_of objects) p.plans p.library (frame c) → Stood c
  stood c g = record { code = g.code; code_is = g.code_is; locals = g.locals; stack = g.stack; taken = 0; shows = g.shows; planned = g.planned }

  waited : (c : Call) → WaitsIn (facts_of objects) p.plans p.library (frame c) → Stood c
  waited c g = record { code = g.code; code_is = g.code_is; locals = g.locals; stack = g.stack; taken = length g.wants; shows = g.shows; planned = g.planned }

  module _ (c : Call) (g : Stood c) (f : IsFrame p.library heap (frame c)) (known_call : IsKnownCall p objects c) (placed_call : IsPlaced (view_of p.tables) c) where
    abbrev plan : Plan
    plan = p.plans (p.tables.module_name c.module_number) c.code

    cd : Coded c.module_number c.code
    cd = coded c.module_number c.code g.code known_call.of_module g.code_is

    own : IsFlow p c.module_number c.code cd.body cd.offsets
    own =
        let row = rows.rows c.module_number c.code cd.placed cd.there in
        is_flow p c.module_number c.code row.0 cd.placed cd.body cd.offsets means row.1 (laws.code p c.module_number c.code row.0 means row.1) cd.there cd.says

    code_same : g.code ≡ own.code
    code_same = some_is g.code own.code (sym g.code_is ∙ own.code_is)

    abbrev with_rooms : flow.Code
    with_rooms = record (verify.flow_of cd.body) { n_state = plan.n_state; n_exc = plan.n_exc }

    flow_same : flow_of plan g.code ≡ with_rooms
    flow_same = ap (λ z. flow_of plan z) code_same ∙ own.flow_is

    meets : Holds with_rooms plan.assigned
    meets = subst (λ z. Holds z plan.assigned) own.flow_is own.meets

    least_with : IsLeastOf with_rooms plan.assigned
    least_with = subst (λ z. IsLeastOf z plan.assigned) flow_same (leasts (p.tables.module_name c.module_number) c.code g.code g.code_is)

    holds : Holds (verify.flow_of cd.body) plan.assigned
    holds = holds_rooms laws with_rooms plan.assigned cd.verified.0 cd.body.n_state cd.body.n_exc meets least_with cd.verified.1

    least : IsLeastOf (verify.flow_of cd.body) plan.assigned
    least = laws.rooms with_rooms plan.assigned cd.body.n_state cd.body.n_exc meets least_with

    abbrev starts : List ℕ
    starts = p.tables.starts c.module_number c.code

    offsets_are : cd.offsets ≡ placed_call.list.offsets
    offsets_are = sym own.starts_are ∙ placed_call.starts_are

    here : slice_get cd.offsets (position_in starts c.at) ≡ Some c.at
    here = ap₂ (λ x y. slice_get x (position_in y c.at)) offsets_are placed_call.starts_are ∙ placed_call.here

    stands : StandsAt p.shelf c.module_number c.code c.at
    stands = record {
      placed = cd.placed;
      there = cd.there;
      body = cd.body;
      offsets = cd.offsets;
      says = cd.says;
      a = plan.assigned;
      holds = holds;
      least = least;
      position = position_in starts c.at;
      here = here;
      shape = g.planned.runs.at;
      is = g.planned.runs.is;
    }

    -- kept jumps lead to instructions
    no_cause : GiveNoCause (verify.flow_of cd.body)
    no_cause q i e = items_fine (length cd.body.items) cd.body.items q i e

    leads : (above : Stack) (target count : ℕ) (it : Bool) (rest : Stack) → g.stack ≡ above ++ KeptJump (position_in starts target) count it ∷ rest
        → slice_get cd.offsets (position_in starts target) ≡ Some target
    leads above target count it rest e =
        let x = jump_leads (verify.flow_of cd.body) plan.assigned holds no_cause least (position_in starts c.at) g.stack (map flow_entry (frame c).entries) g.planned.runs above (position_in starts target) count it rest e in
        let fine = holds.closed (position_in starts target) x.0 x.1 in
        let within = slice_get_within (verify.flow_of cd.body).actions (position_in starts target) fine.action fine.is in
        let long = length-map cd.body.items (action (length cd.body.items)) in
        let many = each own.bytes (record { items = cd.body.items; offsets = cd.offsets }) own.is_list in
        let lt : position_in starts target < length cd.offsets = omega (arith, within, long, many) in
        ap (λ z. slice_get cd.offsets (position_in z target)) own.starts_are ∙ position_found cd.offsets target (subst (λ z. position_in z target < length cd.offsets) own.starts_are lt)

    lies : Lie (facts_of objects) (frame c).slots (drop g.taken g.stack)
    lies = lie (facts_of objects) (frame c).slots (drop g.taken g.stack) g.shows

    jumps : Jumps p.library heap objects p.tables p.shelf s place known starts cd.offsets c.slots
    jumps = jumps_by p.library heap objects p.tables p.shelf s place known starts cd.offsets c.slots (drop g.taken g.stack) lies (take g.taken g.stack) g.stack (sym (take-append-drop g.taken g.stack)) leads

    -- the instruction there
    action_there : (a : Action) × (slice_get (verify.flow_of cd.body).actions (position_in starts c.at) ≡ Some a)
    action_there = let fine = holds.closed (position_in starts c.at) g.planned.runs.at g.planned.runs.is in (fine.action, fine.is)

    item_there : (i : listings.Item) × (slice_get cd.body.items (position_in starts c.at) ≡ Some i)
    item_there = let m = get_map (action (length cd.body.items)) cd.body.items (position_in starts c.at) action_there.0 action_there.1 in (m.0, m.1)

    -- what the machine finds there
    found_item : (P : Option Item → Type 0) → (P None → ⊥) → P (item_at p.library (frame c)) → P (Some (item_of (length cd.body.items) (resolved own.file item_there.0)))
    found_item P none h = by (slice_get own.code.lines (position_in starts c.at)) refl (subst (λ z. P (option_map (λ (l : Line). l.item) (line_at z (position_in starts c.at)))) own.code_is h)
      where
        by : (o : Option Line) → slice_get own.code.lines (position_in starts c.at) ≡ o → P (option_map (λ (l : Line). l.item) o) → P (Some (item_of (length cd.body.items) (resolved own.file item_there.0)))
        by None e k = absurd (none k)
        by (Some line) e k = subst (λ z. P (Some z)) (own.lines_are (position_in starts c.at) item_there.0 line item_there.1 e) k

    fine_frame : (above : Option RolePart) → Waits above item_there.0 action_there.0 g.taken → IsFineFrame p.shelf s above (part c)
    unfolding stands cd
    fine_frame above waits =
        let found = shows_by p.library heap objects p.tables p.shelf s place known starts cd.offsets c.slots None zero Nil 0 (drop g.taken g.stack) (λ k. refl) tt (plainly p.library heap (frame c).slots f.slots) lies jumps in
        let slots_are : reverse (part c).slots ≡ map (slot_part p.shelf place) (shown_down None c.slots) = parts_down (slot_part p.shelf place) c.slots in
        let entries_are : reverse (part c).entries ≡ map (entry_part place c.at) c.entries = sym (map_reverse (entry_part place c.at) (reverse c.entries)) ∙ ap (map (entry_part place c.at)) (reverse-reverse c.entries) in
        let handlers = recursion_from_All (λ (e : Held). Starts placed_call.list.offsets e.handler) c.entries placed_call.handlers in
        let at_entries = entries_at p.library heap objects p.tables p.shelf s place known starts cd.offsets placed_call.bytes placed_call.list placed_call.listed placed_call.starts_are offsets_are c.at placed_call.here c.entries handlers in
        let fine_entries = entries_fine p.library heap objects p.tables p.shelf s place known starts cd.offsets placed_call.bytes placed_call.list placed_call.listed placed_call.starts_are offsets_are c.at placed_call.here c.entries handlers
        (recursion_from_All (KeepsException objects) c.entries known_call.entries) (entries_law p.library heap (frame c) f) in
        record {
          stands = stands;
          names = space c.names.cell f.names;
          role = role_fine p.library heap objects p.tables p.shelf s place known starts cd.offsets (p.tables.module_name c.module_number) c.role f.role;
          as_many_locals =
              length-map c.locals (local_part p.shelf place)
              ∙ (sym (length-map c.locals (option_map (view_of p.tables).plain)) ∙ (g.locals ∙ (ap (λ (z : Code). z.locals) code_same ∙ own.locals_are)));
          locals = All-from_recursion (IsFineLocal p.shelf s) (part c).locals (locals_fine p.library heap objects p.tables p.shelf s place known starts cd.offsets c.locals f.locals);
          item = item_there.0;
          item_is = item_there.1;
          action = action_there.0;
          action_is = action_there.1;
          taken = g.taken;
          waits = waits;
          stack = drop g.taken g.stack;
          shows = subst (λ z. ShowsParts p.shelf s cd.offsets z (drop g.taken g.stack)) (sym slots_are)
              (subst (λ z. ShowsParts p.shelf s cd.offsets (map (slot_part p.shelf place) (shown_down None c.slots)) z) (sym found.1) found.2);
          slots = stands_drop g.taken g.stack g.planned.runs.at.slots g.planned.runs.slots;
          entries = subst (λ z. AreEntriesAt cd.offsets z g.planned.runs.at.entries) (sym entries_are)
              (subst (λ z. AreEntriesAt cd.offsets (map (entry_part place c.at) c.entries) z) (sym g.planned.runs.entries) at_entries);
          kept = subst (λ z. All (KeepsFine s) z) (ap reverse (sym entries_are) ∙ reverse-reverse (part c).entries) (all_reverse (KeepsFine s) (map (entry_part place c.at) c.entries) (All-from_recursion (KeepsFine s) (map (entry_part place c.at) c.entries) fine_entries));
          jumps = subst (λ z. JumpsLeadOn plan.assigned z (drop g.taken g.stack)) (sym g.planned.runs.entries)
              (lead_on plan.assigned g.planned.runs.bound (map flow_entry (frame c).entries) g.stack g.taken g.planned.runs.sound);
        }

  -- the frames of all calls
  -- =======================

  abbrev IsAbove : Option RolePart → states.Role → Type 0
  IsAbove (Some roles.Main) states.Main = Unit {0}
  IsAbove (Some roles.Call) states.Called = Unit {0}
  IsAbove (Some (roles.Import m)) (states.Imported name x) = Unit {0}
  IsAbove _ _ = ⊥

  above_is : (role : Role) (name : List ℕ) → IsAbove (Some (role_part place role)) (role_of (view_of p.tables) name role)
  above_is ends.Main name = tt
  above_is ends.Call name = tt
  above_is (ends.Import m) name = tt

  below_fine : (above : Option RolePart) (role : states.Role) (cs : List Call) → IsAbove above role → BelowIn (facts_of objects) p.plans p.library role (map frame cs) → WaitBelow p.library role (map frame cs)
      → Each (IsFrame p.library heap) (map frame cs) → Each (IsKnownCall p objects) cs → Each (IsPlaced (view_of p.tables)) cs → AreFineFrames p.shelf s above (map part cs)
  unfolding waited stood
  below_fine (Some roles.Main) states.Main [] i b w fs ks ps = refl
  below_fine (Some roles.Main) states.Main (c ∷ cs) i b w fs ks ps = absurd b
  below_fine (Some roles.Call) states.Called [] i b w fs ks ps = absurd b
  below_fine (Some roles.Call) states.Called (c ∷ cs) i b w fs ks ps =
      let g = waited c b.0 in
      let call = call_item (own c g fs.0 ks.0 ps.0).file _ (item_there c g fs.0 ks.0 ps.0).0 (found_item c g fs.0 ks.0 ps.0 IsCall (λ h. elim h [ ]) w.0) in
      let acts : (action_there c g fs.0 ks.0 ps.0).0 ≡ Straight b.0.wants (New kinds.Value ∷ []) =
      some_is _ _ (sym (action_there c g fs.0 ks.0 ps.0).1 ∙ (sym (ap (λ (z : flow.Code). slice_get z.actions (frame c).position) (flow_same c g fs.0 ks.0 ps.0)) ∙ b.0.call)) in (
        fine_frame c g fs.0 ks.0 ps.0 (Some roles.Call)
            (subst (λ z. Waits (Some roles.Call) z (action_there c g fs.0 ks.0 ps.0).0 (length b.0.wants)) (sym call.1) (call_waits call.0 (action_there c g fs.0 ks.0 ps.0).0 b.0.wants (New kinds.Value ∷ []) call.2 acts)),
        below_fine (Some (part c).role) (frame c).role cs (above_is c.role (p.tables.module_name c.module_number)) b.1 w.1 fs.1 ks.1 ps.1,
      )
  below_fine (Some (roles.Import m)) (states.Imported name x) [] i b w fs ks ps = absurd b
  below_fine (Some (roles.Import m)) (states.Imported name x) (c ∷ cs) i b w fs ks ps =
      let g = stood c b.0 in
      let imports = import_item (own c g fs.0 ks.0 ps.0).file _ (item_there c g fs.0 ks.0 ps.0).0 (found_item c g fs.0 ks.0 ps.0 IsImport (λ h. elim h [ ]) w.0) in (
        fine_frame c g fs.0 ks.0 ps.0 (Some (roles.Import m)) (import_waits m (item_there c g fs.0 ks.0 ps.0).0 (action_there c g fs.0 ks.0 ps.0).0 imports),
        below_fine (Some (part c).role) (frame c).role cs (above_is c.role (p.tables.module_name c.module_number)) b.1 w.1 fs.1 ks.1 ps.1,
      )
  below_fine _ _ cs i b w fs ks ps = absurd i

  pub frames_fine : (cs : List Call) → KeepCalls p objects cs → Each (IsFrame p.library heap) (map frame cs) → Each (IsKnownCall p objects) cs → Each (IsPlaced (view_of p.tables)) cs
      → ((c : Call) (rest : List Call) → cs ≡ c ∷ rest → WaitBelow p.library (frame c).role (map frame rest)) → AreFineFrames p.shelf s None (map part cs)
  unfolding stood
  frames_fine [] kept_calls fs ks ps w = absurd kept_calls
  frames_fine (c ∷ cs) kept_calls fs ks ps w =
      (fine_frame c (stood c kept_calls.0) fs.0 ks.0 ps.0 None refl, below_fine (Some (part c).role) (frame c).role cs (above_is c.role (p.tables.module_name c.module_number)) kept_calls.1 (w c cs refl) fs.1 ks.1 ps.1)
