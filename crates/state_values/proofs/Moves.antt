-- What moves slots finds what it needs, and goes on.
use Rattle.std.proofs.Common.{◌≡◌, ℕ, zero, suc, ◌≤◌, ◌<◌, List, [], ◌∷◌, length, Bool, true, false, Option, Some, All, refl, sym, ap, subst, ◌∙◌, arith, if◌then◌else◌}
use Rattle.std.proofs.lemmas.List.Elements.{All-cons, All-head, All-tail}
use Rattle.vm_states.specs.mpy_base.Val.{PlainWorld}
use Rattle.vm_states.specs.bc_ops.declared.instr.Instr.TheVariants as instrs
use Rattle.frame_moves.specs.py_effects.Ends.{new_world}
use Rattle.vm_states.specs.bc_machine.Library.{Plain, Code, Library}
use Rattle.vm_states.specs.bc_machine.State.{Frame}
use Rattle.vm_states.specs.bc_progress.Plans.{Plan}
use Rattle.vm_states.specs.bc_rows.declared.row.Row.{Row}
use Rattle.vm_states.specs.prim_names.arena_heap.declared.value.Value.{Value}
use Rattle.vm_states.specs.vm_frames.declared.slot.Slot.{Slot}
use Rattle.vm_states.specs.vm_frames.declared.slot.Slot.TheVariants as slots
use Rattle.vm_states.specs.vm_frames.declared.slot.Entry.{Entry}
use Rattle.vm_states.specs.vm_frames.Calls.{Call, Calls, OfRunning, change_first, on_running}
use Rattle.vm_states.specs.vm_frames.Moves.{Moved, is_run, cut, jumped}
use Rattle.vm_states.specs.vm_frames.Placed.{IsPlaced}
use Rattle.vm_states.specs.bc_machine.Step.{step}
use Rattle.vm_states.specs.vm_frames.Views.{starts_of, frame_of}
use Rattle.vm_states.specs.bc_labels.Positions.{Starts, position_in}
use Rattle.vm_states.specs.frame_moves.Shown.{Tables, Steps, IsNext, IsAt, view_of, running_of, step_of}
use Rattle.vm_states.specs.frame_moves.Stacks.{gone}
use Rattle.vm_states.specs.Finds.{FindsPlain, GoesOn}
use Rattle.vm_states.specs.vm_fetching.declared.operations.MoveOp.{MoveOp}
use Rattle.vm_states.specs.vm_fetching.declared.operations.MoveOp.TheVariants as move_ops
use Rattle.vm_states.specs.vm_fetching.declared.instruction.Fetched.{Fetched}
use Rattle.vm_states.specs.vm_fetching.Operations.{move_op}
use Rattle.vm_states.specs.Means.{Program, Means}
use Rattle.vm_states.specs.Ready.{item_at, IsReady}
use Rattle.vm_states.specs.Running.{IsOfModule, IsRunning}
use Rattle.state_values.specs.Moving.{moved_slots, fetched_move, Goes}
use Rattle.state_values.specs.Needs.{HasRoom, Needs}

goes_on : (op : MoveOp) → GoesOn (Plain (instrs.Plain (move_op op)))
goes_on move_ops.LoadConstFalse = tt
goes_on move_ops.LoadConstNone = tt
goes_on move_ops.LoadConstTrue = tt
goes_on move_ops.LoadNull = tt
goes_on move_ops.DupTop = tt
goes_on move_ops.DupTopTwo = tt
goes_on move_ops.PopTop = tt
goes_on move_ops.RotTwo = tt
goes_on move_ops.RotThree = tt

-- what is found on the frame of a call whose slots are counted
module _ (plan : Plan) (library : Library) (code : Code) (frame : Frame) (c : Call) (cs : List Call) (slot_room entry_room : ℕ)
    (count : length frame.slots ≡ length c.slots) (room : length c.slots < slot_room) (planned : plan.n_state < slot_room) where
  abbrev S : Calls
  S = record { calls = c ∷ cs; slot_room = slot_room; entry_room = entry_room }

  needs : (op : MoveOp) → FindsPlain plan library code frame (move_op op) → Needs op S
  needs move_ops.LoadConstFalse f = room
  needs move_ops.LoadConstNone f = room
  needs move_ops.LoadConstTrue f = room
  needs move_ops.LoadNull f = room
  needs move_ops.DupTop f = let n = ap length f.0.are in (omega (arith, n, count), room)
  needs move_ops.DupTopTwo f = let n = ap length f.0.are in let k = f.1 in (omega (arith, n, count), omega (arith, n, k, count, planned))
  needs move_ops.PopTop f = let n = ap length f.are in omega (arith, n, count)
  needs move_ops.RotTwo f = let n = ap length f.are in omega (arith, n, count)
  needs move_ops.RotThree f = let n = ap length f.are in omega (arith, n, count)

pub finds_needs : ((t : Tables) (c : Call) → length (frame_of (view_of t) c).slots ≡ length c.slots)
    → (p : Program) (s : Calls) (row : Row) (op : MoveOp) (end : ℕ) → IsRunning p s → (r : IsReady p s row (fetched_move op end)) → Needs op s
finds_needs count p s row op end run r =
    let plan = p.plans (p.tables.module_name r.first.module_number) r.first.code in
    let h : Needs op (record s { calls = r.first ∷ r.others }) =
    needs plan p.library r.code (frame_of (view_of p.tables) r.first) r.first r.others s.slot_room s.entry_room (count p.tables r.first) r.slots
    (run.rooms.slots (p.tables.module_name r.first.module_number) r.first.code r.code r.code_is) op r.finds in
    subst (λ (z : List Call). Needs op (record s { calls = z })) (sym r.are) h

abbrev Keeps : Type 0
Keeps = (p : Program) (s new : Calls) (row : Row) (fetched : Fetched) (r : IsReady p s row fetched) (at : ℕ) (st : Call → List Slot) (locals : Call → List (Option Value)) (paid : ℕ) (before behind : PlainWorld)
    → Means p → IsRunning p s → Starts (starts_of (view_of p.tables) r.first) at
    → new ≡ on_running (λ c. record c { at = at; slots = st c; locals = locals c }) s
    → step_of p.tables p.library r.place paid s.calls before (item_at p r.first fetched) ≡ running_of p.tables 0 new.calls behind → IsRunning p new

-- the first of the calls goes on behind what was fetched, with other slots and locals
pub goes_behind : Keeps → (s new : Calls) (fetched : Fetched) (st : Call → List Slot) (locals : Call → List (Option Value)) (p : Program) (row : Row) → Means p → IsRunning p s → (r : IsReady p s row fetched)
    → GoesOn (item_at p r.first fetched) → ((w : PlainWorld) → IsNext p.tables fetched.end s.calls → Steps p.tables w (item_at p r.first fetched) s.calls new.calls)
    → new ≡ on_running (λ c. record c { at = fetched.end; slots = st c; locals = locals c }) s → Goes p s new
goes_behind keeps s new fetched st locals p row means run r on steps moved =
    let none : PlainWorld = new_world 0 0 [] in
    record {
      steps = λ paid w. r.steps paid w ∙ steps w r.next p.library r.place paid;
      runs = keeps p s new row fetched r fetched.end st locals 0 none none means run (r.begins on) moved (steps none r.next p.library r.place 0);
    }

pub goes : Keeps → (s new : Calls) (op : MoveOp) (end : ℕ)
    → ((tables : Tables) (w : PlainWorld) → IsNext tables end s.calls → Steps tables w (Plain (instrs.Plain (move_op op))) s.calls new.calls)
    → new ≡ on_running (λ c. gone end (moved_slots op c.slots) c) s
    → (p : Program) (row : Row) → Means p → IsRunning p s → IsReady p s row (fetched_move op end) → Goes p s new
goes keeps s new op end steps moved p row means run r =
    goes_behind keeps s new (fetched_move op end) (λ c. moved_slots op c.slots) (λ c. c.locals) p row means run r (goes_on op) (steps p.tables) moved

-- a frame always has room for a slot more
pub room : (p : Program) (s : Calls) (row : Row) (fetched : Fetched) → IsReady p s row fetched → HasRoom s
room p s row fetched r = subst (λ (z : List Call). OfRunning (λ c. length c.slots < s.slot_room) z) (sym r.are) r.slots

abbrev Went : Type 0
Went = (p : Program) (s new : Calls) (paid again : ℕ) (before behind : PlainWorld) → Means p → IsRunning p s
    → step p.library (running_of p.tables paid s.calls before) ≡ running_of p.tables again new.calls behind
    → All (IsPlaced (view_of p.tables)) new.calls → All (IsOfModule p) new.calls → new ≡ record s { calls = new.calls } → IsRunning p new

-- the first of the calls changes, and stays placed and of its module
pub goes_with : Went → (s new : Calls) (fetched : Fetched) (change : Call → Call) (p : Program) (row : Row) → Means p → IsRunning p s → (r : IsReady p s row fetched)
    → (IsPlaced (view_of p.tables) r.first → IsPlaced (view_of p.tables) (change r.first)) → (change r.first).module_number ≡ r.first.module_number
    → ((w : PlainWorld) → Steps p.tables w (item_at p r.first fetched) s.calls new.calls)
    → new ≡ on_running change s → Goes p s new
goes_with went s new fetched change p row means run r stays same steps moved =
    let none : PlainWorld = new_world 0 0 [] in
    let P : Call → Type 0 = λ z. IsPlaced (view_of p.tables) z in
    let to : new.calls ≡ change r.first ∷ r.others = ap (λ (z : Calls). z.calls) moved ∙ ap (change_first change) r.are in
    let placed : All P (r.first ∷ r.others) = subst (All P) r.are run.placed in
    let of_modules : All (IsOfModule p) (r.first ∷ r.others) = subst (All (IsOfModule p)) r.are run.of_modules in
    let number : IsOfModule p (change r.first) = subst (λ (n : ℕ). n < length p.shelf.modules) (sym same) (All-head (IsOfModule p) r.first r.others of_modules) in
    record {
      steps = λ paid w. r.steps paid w ∙ steps w p.library r.place paid;
      runs = went p s new 0 0 none none means run (r.steps 0 none ∙ steps none p.library r.place 0)
          (subst (All P) (sym to) (All-cons P (change r.first) r.others (stays (All-head P r.first r.others placed)) (All-tail P r.first r.others placed)))
          (subst (All (IsOfModule p)) (sym to) (All-cons (IsOfModule p) (change r.first) r.others number (All-tail (IsOfModule p) r.first r.others of_modules)))
          (moved ∙ ap (λ (z : List Call). record s { calls = z }) (sym (ap (λ (z : Calls). z.calls) moved)));
    }

-- an offset is that of its position in the first of the calls
pub at_first : (p : Program) (s : Calls) (row : Row) (fetched : Fetched) (r : IsReady p s row fetched) (offset : ℕ)
    → IsAt p.tables offset (position_in (starts_of (view_of p.tables) r.first) offset) s.calls
at_first p s row fetched r offset =
    subst (IsAt p.tables offset (position_in (starts_of (view_of p.tables) r.first) offset)) (sym r.are) refl

pub of_first : (P : Call → Type 0) (p : Program) (s : Calls) (row : Row) (fetched : Fetched) (r : IsReady p s row fetched) → P r.first → OfRunning P s.calls
of_first P p s row fetched r h = subst (OfRunning P) (sym r.are) h

pub some_run : (p : Program) (s : Calls) (row : Row) (fetched : Fetched) → IsReady p s row fetched → 0 < length s.calls
some_run p s row fetched r = let n = ap (λ (z : List Call). length z) r.are in omega (arith, n)

either_module : (b : Bool) (x y : Moved) (n : ℕ) → x.call.module_number ≡ n → y.call.module_number ≡ n → (if b then x else y).call.module_number ≡ n
either_module true x y n h k = h
either_module false x y n h k = k

-- a jump out of entries leaves the module
pub jumped_module : (target count : ℕ) (it : Bool) (es : List Entry) (st : List Slot) (c : Call) → (jumped target count it es st c).call.module_number ≡ c.module_number
jumped_module target zero it es st c = refl
jumped_module target (suc count) it [] st c = refl
jumped_module target (suc count) it (e ∷ es) st c =
    either_module (is_run c.at e) (record { handler = Some e.handler; call = record c { at = e.handler; slots = slots.Jump target count it ∷ cut e.height st; entries = e ∷ es } })
    (jumped target count it es (cut e.height st) c) c.module_number refl (jumped_module target count it es (cut e.height st) c)

pub entry_fits : ((t : Tables) (c : Call) → length (frame_of (view_of t) c).entries ≡ length c.entries)
    → (p : Program) (s : Calls) (row : Row) (fetched : Fetched) → IsRunning p s → (r : IsReady p s row fetched)
    → suc (length (frame_of (view_of p.tables) r.first).entries) ≤ (p.plans (p.tables.module_name r.first.module_number) r.first.code).n_exc
    → OfRunning (λ c. length c.entries < s.entry_room) s.calls
entry_fits count p s row fetched run r h =
    let n = count p.tables r.first in
    let k = run.rooms.entries (p.tables.module_name r.first.module_number) r.first.code r.code r.code_is in
    of_first (λ c. length c.entries < s.entry_room) p s row fetched r (omega (arith, n, k, h))

pub first_placed : (p : Program) (s : Calls) (row : Row) (fetched : Fetched) → IsRunning p s → (r : IsReady p s row fetched) → OfRunning (IsPlaced (view_of p.tables)) s.calls
first_placed p s row fetched run r =
    of_first (IsPlaced (view_of p.tables)) p s row fetched r (All-head (IsPlaced (view_of p.tables)) r.first r.others (subst (All (IsPlaced (view_of p.tables))) r.are run.placed))
