-- What a finally has kept at its end.
use Rattle.std.proofs.Common.{◌≡◌, ℕ, zero, suc, ◌<◌, List, [], ◌∷◌, map, length, Bool, true, false, Option, Some, refl, sym, ap, ◌∙◌, subst, arith, if◌then◌else◌}
use Rattle.std.specs.Prelude.{slice_get}
use Rattle.std.proofs.lemmas.List.{length-map}
use Rattle.std.proofs.lemmas.Option.{same_Some, slice_get_within}
use Rattle.state_calls.specs.mpy_base.World.{ObjectKind, AList, ATuple, AText, ADict, AFunction, AnException, AMethod, ARange, AModule, Objects, object, kind_of, IsA}
use Rattle.state_calls.specs.mpy_base.Val.{Val, Nil, At}
use Rattle.state_calls.specs.arena_heap.declared.value.Value.{Value}
use Rattle.state_calls.specs.arena_heap.declared.value.Value.TheVariants as values
use Rattle.state_calls.specs.arena_heap.declared.value.StrNo.{StrNo}
use Rattle.state_calls.specs.arena_heap.declared.value.ConstNo.{ConstNo}
use Rattle.state_calls.specs.arena_heap.declared.value.ExcNo.{ExcNo}
use Rattle.state_calls.specs.arena_heap.Values.{Leads}
use Rattle.bc_progress.specs.bc_flow.bc_shapes.declared.shape.Entry.{Entry as FlowEntry}
use Rattle.bc_progress.specs.bc_flow.bc_shapes.Shape.{At as Shape}
use Rattle.bc_progress.specs.bc_ops.declared.instr.Op.TheVariants as ops
use Rattle.bc_progress.specs.bc_ops.declared.instr.Instr.TheVariants as instrs
use Rattle.bc_progress.specs.bc_flow.Action.{EndFinally, op_action, instr_action}
use Rattle.bc_progress.specs.bc_flow.Code as flows
use Rattle.bc_progress.specs.bc_flow.Verified.{Assigned, Holds as Meets}
use Rattle.bc_progress.specs.bc_flow.Machine as flow
use Rattle.bc_progress.specs.bc_flow.Machine.{Stack, St}
use Rattle.bc_progress.proofs.bc_flow_lemmas.Going.{Here}
use Rattle.bc_progress.proofs.bc_flow_lemmas.Never.{Good, end_height}
use Rattle.bc_progress.proofs.bc_flow_lemmas.Sound.{Fits as Heights, stands-length, Sound, CanUnwind}
use Rattle.state_calls.specs.bc_machine.Library.{Line, Library, Plain}
use Rattle.state_calls.specs.bc_machine.State as states
use Rattle.state_calls.specs.bc_machine.State.{Frame}
use Rattle.state_calls.specs.bc_progress.Slots.{Facts, ShowsIn, value, nothing, exception, null, kept_return, kept_jump, iterator1, iterator2, iterator3, iterator4, ShowsAllIn, none, more, bound, free, flow_entry}
use Rattle.state_calls.specs.bc_progress.Plans.{Plans, Follows, action_of, flow_of}
use Rattle.state_calls.specs.bc_progress.Fits.{StandsIn}
use Rattle.state_calls.proofs.bc_progress_lemmas.Flowing.{acts}
use Rattle.state_calls.proofs.bc_progress_lemmas.Frames.{meets}
use Rattle.state_calls.proofs.bc_progress_lemmas.Items.{fine}
use Rattle.state_calls.specs.prim_walks.Plain.{fixed_of, fixed_within, plain}
use Rattle.vm_kept.proofs.Plain.{get_map}

-- where a kept jump goes, the code has an instruction
-- ===================================================

can_reach : (a : Assigned) (keeps : List FlowEntry → Stack → Type 0) (to : ℕ) (it : Bool) (count : ℕ) (entries : List FlowEntry) (stack : Stack) → CanUnwind a keeps to it count entries stack → (x : Shape) × (a to ≡ Some x)
can_reach a keeps to it zero entries stack u = (u.1.at, u.1.is)
can_reach a keeps to it (suc count) [] stack u = absurd u
can_reach a keeps to it (suc count) (e ∷ entries) stack u = can_reach a keeps to it count entries (flow.cut e.height stack) u.1

sound_reach : (a : Assigned) (n to count : ℕ) (it : Bool) (e : FlowEntry) (entries : List FlowEntry) (stack : Stack) → length stack ≡ e.height → Sound a n (e ∷ entries) (flow.KeptJump to count it ∷ stack) → (x : Shape) × (a to ≡ Some x)
sound_reach a zero to count it e entries stack q w = absurd w
sound_reach a (suc n) to count it e entries stack q w = can_reach a (Sound a n) to it count entries stack (w.0 [] (flow.KeptJump to count it) stack refl q)

abbrev flow_jump : states.Slot → flow.Slot
flow_jump (states.KeptJump to count it) = flow.KeptJump to count it
flow_jump _ = flow.Null

jump_slot : (facts : Facts) (s : states.Slot) (t : flow.Slot) (to count : ℕ) (it : Bool) → ShowsIn facts s t → s ≡ states.KeptJump to count it → t ≡ flow.KeptJump to count it
jump_slot facts s t to count it kept_jump e = ap flow_jump e
jump_slot facts s t to count it value e = cc
jump_slot facts s t to count it nothing e = cc
jump_slot facts s t to count it (exception is) e = cc
jump_slot facts s t to count it null e = cc
jump_slot facts s t to count it kept_return e = cc
jump_slot facts s t to count it iterator1 e = cc
jump_slot facts s t to count it iterator2 e = cc
jump_slot facts s t to count it iterator3 e = cc
jump_slot facts s t to count it iterator4 e = cc

jump_stack : (facts : Facts) (st : List states.Slot) (stack : Stack) (to count : ℕ) (it : Bool) → ShowsAllIn facts st stack → slice_get st 0 ≡ Some (states.KeptJump to count it) → (rest : Stack) × (stack ≡ flow.KeptJump to count it ∷ rest)
jump_stack facts st stack to count it none e = absurd cc
jump_stack facts st stack to count it (more {s = s} {t = t} {stack = ss} h r) e = (ss, ap (λ z. z ∷ ss) (jump_slot facts s t to count it h (same_Some s (states.KeptJump to count it) e)))
jump_stack facts st stack to count it (bound is r) e = absurd cc
jump_stack facts st stack to count it (free r) e = absurd cc

same_at : (x n : ℕ) → states.Value (At x) ≡ states.Value (At n) → x ≡ n
same_at x n e = cc

module _ (facts : Facts) (plans : Plans) (library : Library) (follows : Follows plans library) (frame : Frame) (s : StandsIn facts plans library frame)
    (line : Line) (line_is : slice_get s.code.lines frame.position ≡ Some line) (item_is : line.item ≡ Plain (instrs.Plain ops.EndFinally)) where
  abbrev F : flows.Code
  F = flow_of (plans frame.module_name frame.code) s.code

  abbrev A : Assigned
  A = (plans frame.module_name frame.code).assigned

  abbrev G : St → Type 0
  G st = Good F A st

  abbrev es : List FlowEntry
  es = map flow_entry frame.entries

  its_meets : Meets F A
  its_meets = meets plans library follows frame.module_name frame.code s.code s.code_is

  does : slice_get F.actions frame.position ≡ Some EndFinally
  unfolding instr_action op_action
  does = get_map (λ (l : Line). action_of l.item) s.code.lines frame.position line line_is ∙ ap (λ z. Some (action_of z)) item_is

  good : G (flow.act EndFinally true frame.position s.stack es)
  good = acts F A (fine (plans frame.module_name frame.code) s.code) its_meets EndFinally true frame.position s.stack es s.planned does

  -- what the rules say of the instruction
  here : Here F A EndFinally frame.position s.planned.runs.at.slots es s.planned.runs.bound s.stack
  here =
      let r = s.planned.runs in
      let f = its_meets.closed frame.position r.at r.is in
      let is : f.action ≡ EndFinally = same_Some f.action EndFinally (sym f.is ∙ does) in
      let first : Here F A f.action frame.position r.at.slots r.at.entries r.bound s.stack = record {
        handlers = f.handlers;
        height = f.height;
        falls_on = f.falls;
        along = f.along;
        stands = r.slots;
        fits_in = subst (λ z. Heights z (length s.stack)) (sym r.entries) r.fits;
        sound = subst (λ z. Sound A r.bound z s.stack) (sym r.entries) r.sound;
      } in
      subst (λ z. Here F A z frame.position r.at.slots es r.bound s.stack) is (subst (λ z. Here F A f.action frame.position r.at.slots z r.bound s.stack) r.entries first)

  if_found : (b : Bool) (st : St) → G (if b then st else flow.Stuck) → G st
  if_found true st g = g
  if_found false st g = absurd g.runs

  resumed : (t : flow.Slot) (x : states.Slot) (stack : Stack) (entries : List FlowEntry) (n : ℕ) → ShowsIn facts x t → G (flow.resume t true frame.position entries stack) → x ≡ states.Value (At n) → facts.exception n
  resumed t x stack entries n value g e = absurd g.runs
  resumed t x stack entries n (exception {x = m} is) g e = subst facts.exception (same_at m n e) is
  resumed t x stack entries n nothing g e = cc
  resumed t x stack entries n null g e = cc
  resumed t x stack entries n kept_return g e = cc
  resumed t x stack entries n kept_jump g e = cc
  resumed t x stack entries n iterator1 g e = cc
  resumed t x stack entries n iterator2 g e = cc
  resumed t x stack entries n iterator3 g e = cc
  resumed t x stack entries n iterator4 g e = cc

  on_top : (st : List states.Slot) (stack : Stack) (entries : List FlowEntry) (n : ℕ) → ShowsAllIn facts st stack → G (flow.act EndFinally true frame.position stack entries) → slice_get st 0 ≡ Some (states.Value (At n)) → facts.exception n
  on_top st stack entries n none g e = absurd cc
  on_top st stack [] n (more h r) g e = absurd g.runs
  on_top st stack (x ∷ entries) n (more {s = top} {t = t} {stack = ss} h r) g e =
      resumed t top ss entries n h (if_found x.active (flow.resume t true frame.position entries ss) g) (same_Some top (states.Value (At n)) e)
  on_top st stack entries n (bound is r) g e = absurd cc
  on_top st stack entries n (free r) g e = absurd cc

  -- an exception is known
  pub exception_known : (n : ℕ) → slice_get frame.slots 0 ≡ Some (states.Value (At n)) → facts.exception n
  exception_known n e = on_top frame.slots s.stack es n s.shows good e

  reached : (to count : ℕ) (it : Bool) (stack : Stack) (e : FlowEntry) (entries : List FlowEntry) → s.stack ≡ flow.KeptJump to count it ∷ stack → es ≡ e ∷ entries → (x : Shape) × (A to ≡ Some x)
  reached to count it stack e entries same_stack same_entries =
      let r = s.planned.runs in
      let h : Here F A EndFinally frame.position r.at.slots (e ∷ entries) r.bound (flow.KeptJump to count it ∷ stack) =
      subst (λ z. Here F A EndFinally frame.position r.at.slots (e ∷ entries) r.bound z) same_stack
      (subst (λ z. Here F A EndFinally frame.position r.at.slots z r.bound s.stack) same_entries here) in
      let height = end_height F A frame.position r.at.slots e entries r.bound (flow.KeptJump to count it ∷ stack) h in
      let n = stands-length (flow.KeptJump to count it ∷ stack) r.at.slots h.stands in
      sound_reach A r.bound to count it e entries stack (omega (arith, height, n)) h.sound

  -- a jump goes to an instruction
  pub target_within : (to count : ℕ) (it : Bool) (e : states.Entry) (others : List states.Entry) → slice_get frame.slots 0 ≡ Some (states.KeptJump to count it) → frame.entries ≡ e ∷ others → to < length s.code.lines
  target_within to count it e others top entries_are =
      let stack = jump_stack facts frame.slots s.stack to count it s.shows top in
      let x = reached to count it stack.0 (flow_entry e) (map flow_entry others) stack.1 (ap (map flow_entry) entries_are) in
      let f = its_meets.closed to x.0 x.1 in
      let lt = slice_get_within F.actions to f.action f.is in
      let n = length-map s.code.lines (λ (l : Line). action_of l.item) in
      omega (arith, lt, n)

-- values of an arena that show as causes
-- ======================================

same_number : (n k : ℕ) → At n ≡ At k → n ≡ k
same_number n k e = cc

module _ (texts : StrNo → Option (List ℕ)) (tuples : ConstNo → Option (List Value)) (objects : Objects Value ℕ) where
  fixed_nil : (items : List Val) → fixed_of items ≡ Nil → ⊥
  fixed_nil [] e = cc
  fixed_nil (v ∷ vs) e = cc

  fixed_at : (items : List Val) (k : ℕ) → fixed_of items ≡ At k → ⊥
  fixed_at [] k e = cc
  fixed_at (v ∷ vs) k e = cc

  pub nil_is : (v : Value) → plain texts tuples v ≡ Nil → v ≡ values.None
  unfolding fixed_within
  nil_is values.None e = refl
  nil_is (values.Fixed c) e = absurd (fixed_nil _ e)
  nil_is (values.Bool b) e = cc
  nil_is (values.Int z) e = cc
  nil_is (values.Str s) e = cc
  nil_is values.Empty e = cc
  nil_is (values.List l) e = cc
  nil_is (values.Dict d) e = cc
  nil_is (values.Tuple t) e = cc
  nil_is (values.Text t) e = cc
  nil_is (values.Fun f) e = cc
  nil_is (values.Exc x) e = cc
  nil_is (values.Method m) e = cc
  nil_is (values.Range r) e = cc
  nil_is (values.Module m) e = cc
  nil_is (values.Built b) e = cc

  -- an object that is an exception is of no other kind
  clash : (kind : ObjectKind) (n k : ℕ) → IsA objects kind n → At n ≡ At k → IsA objects AnException k → kind ≡ AnException
  clash kind n k is e raised = same_Some kind AnException (sym is ∙ (ap (λ z. kind_of (object objects z)) (same_number n k e) ∙ raised))

  abbrev Exception : Value → Type 0
  Exception v = (x : ExcNo) × (v ≡ values.Exc x)

  pub exception_is : (v : Value) (k : ℕ) → Leads objects v → plain texts tuples v ≡ At k → IsA objects AnException k → Exception v
  unfolding fixed_within
  exception_is (values.Exc x) k leads e is = (x, refl)
  exception_is (values.List l) k leads e is = absurd (let q = clash AList l.cell k leads.meets e is in cc)
  exception_is (values.Dict d) k leads e is = absurd (let q = clash ADict d.cell k leads.meets e is in cc)
  exception_is (values.Tuple t) k leads e is = absurd (let q = clash ATuple t.cell k leads.meets e is in cc)
  exception_is (values.Text t) k leads e is = absurd (let q = clash AText t.cell k leads.meets e is in cc)
  exception_is (values.Fun f) k leads e is = absurd (let q = clash AFunction f.cell k leads.meets e is in cc)
  exception_is (values.Method m) k leads e is = absurd (let q = clash AMethod m.cell k leads.meets e is in cc)
  exception_is (values.Range r) k leads e is = absurd (let q = clash ARange r.cell k leads.meets e is in cc)
  exception_is (values.Module m) k leads e is = absurd (let q = clash AModule m.cell k leads.meets e is in cc)
  exception_is (values.Fixed c) k leads e is = absurd (fixed_at _ k e)
  exception_is values.None k leads e is = absurd cc
  exception_is (values.Bool b) k leads e is = absurd cc
  exception_is (values.Int z) k leads e is = absurd cc
  exception_is (values.Str s) k leads e is = absurd cc
  exception_is values.Empty k leads e is = absurd cc
  exception_is (values.Built b) k leads e is = absurd cc
