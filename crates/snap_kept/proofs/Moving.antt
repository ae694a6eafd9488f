-- The machine's moves keep what slots and entries hold: raises, returns, and jumps out of handlers.
use Rattle.std.proofs.Common.{◌≡◌, ℕ, zero, suc, ◌≤◌, List, [], ◌∷◌, map, length, drop, Bool, true, false, cond, Some, refl, subst, arith, inr}
use Rattle.std.specs.List.{AllByRecursion as Each}
use Rattle.bc_progress.specs.bc_machine.Library.{Library}
use Rattle.bc_progress.specs.mpy_base.World.{AnException, IsA}
use Rattle.bc_progress.specs.mpy_base.Val.{Val, At, PlainWorld}
use Rattle.bc_progress.specs.bc_flow.Action.{iterator}
use Rattle.bc_progress.specs.bc_flow.Code as flows
use Rattle.bc_progress.specs.bc_flow.Verified.{Assigned}
use Rattle.bc_progress.specs.bc_flow.Edges.{floor}
use Rattle.bc_progress.specs.bc_flow.Machine as flow
use Rattle.bc_progress.specs.bc_flow.Machine.{Stack}
use Rattle.bc_progress.proofs.bc_flow_lemmas.Never.{Good}
use Rattle.bc_progress.proofs.bc_flow_lemmas.Runs.{floor_fits}
use Rattle.bc_progress.specs.py_values.Shown.{PlainHeap}
use Rattle.bc_progress.specs.py_effects.Effect.{Effect, Place, Given, Gives, Throws, Fills, Fails, Thrown, Filled, given}
use Rattle.bc_progress.specs.py_effects.Modules.{store_module}
use Rattle.bc_progress.specs.bc_machine.State.{Slot, Value, Null, Object, Iter, KeptReturn, KeptJump, Entry, Role, Main, Called, Imported, Frame, State, Running, cut, go, enter, abandoned, throw_in, throw_out, throw, fail, on_given, give, is_run, leave, without_iter, unwind}
use Rattle.bc_progress.specs.Slots.{Facts, ShowsAllIn, flow_entry}
use Rattle.bc_progress.specs.Known.{facts_of}
use Rattle.bc_progress.proofs.Showing.{shows-length, shows_cut, one_iterator}
use Rattle.bc_progress.proofs.Knowing.{own_covered, ThrowsKnown, GivesKnown, given_known}
use Rattle.snap_kept.specs.Texts.{IsName}
use Rattle.snap_kept.specs.Values.{IsNamespace, IsPlain}
use Rattle.snap_kept.specs.Effects.{AreLocals, IsSound}
use Rattle.snap_kept.specs.Frames.{LiesOn, AreHeld, LeadsHeld, AreSlots, AreEntries, IsRole, IsFrame, IsKept}
use Rattle.snap_kept.proofs.Marking.{held_up}
use Rattle.snap_kept.proofs.Onward.{Onward, namespace_on, plain_on}
use Rattle.snap_kept.proofs.Changes.{plain_at}
use Rattle.snap_kept.proofs.Acting.{WorldComes, world_same, FailsIn, GivenIn, given_in}
use Rattle.snap_kept.proofs.Moduling.{forget_in, store_module_in}
use Rattle.snap_kept.proofs.Framing.{AreBelow, below_of, top_height, entries_on, locals_on, role_on, frames_on, entries_swap, entries_up, entries_enter, goes_in}

-- what is thrown is an exception
abbrev pub IsThrown : Fails → Type 0
IsThrown (Thrown x u) = IsA u.heap.objects AnException x
IsThrown (Filled e u) = Unit {0}

abbrev pub IsGivenThrown : {A : Type 0} → Given A → Type 0
IsGivenThrown (Gives a u) = Unit {0}
IsGivenThrown (Throws x u) = IsA u.heap.objects AnException x
IsGivenThrown (Fills e u) = Unit {0}

pub thrown_is : (f : Fails) → ((facts : Facts) → ThrowsKnown facts f) → IsThrown f
thrown_is (Thrown x u) known = known (facts_of u.heap.objects) (own_covered u.heap.objects)
thrown_is (Filled e u) known = tt

given_thrown_by : {A : Type 0} (g : Given A) → ((facts : Facts) → GivesKnown facts g) → IsGivenThrown g
given_thrown_by (Gives a u) known = tt
given_thrown_by (Throws x u) known = known (facts_of u.heap.objects) (own_covered u.heap.objects)
given_thrown_by (Fills e u) known = tt

pub given_thrown : {A : Type 0} (place : Place) (e : Effect A) → IsGivenThrown (given place e)
given_thrown place e = given_thrown_by (given place e) (λ facts. given_known facts place e)

floor_is : (q : ℕ) (entries : List Entry) → floor (map (flow.remark q) (map flow_entry entries)) ≡ top_height entries
floor_is q [] = refl
floor_is q (e ∷ entries) = refl

module _ (library : Library) where
  -- a frame but for its slots and entries
  pub record Own (h : PlainHeap) (frame : Frame) : Type 0 where
    pub names : IsNamespace h frame.names
    pub locals : AreLocals library h frame.locals
    pub role : IsRole library h frame.role

  pub own : (h : PlainHeap) (frame : Frame) → IsFrame library h frame → Own h frame
  own h frame f = record { names = f.names; locals = f.locals; role = f.role }

  pub own_on : (h k : PlainHeap) → Onward h k → (frame : Frame) → Own h frame → Own k frame
  own_on h k on frame o = record { names = namespace_on h k on frame.names o.names; locals = locals_on library h k on frame.locals o.locals; role = role_on library h k on frame.role o.role }

  pub exception_plain : (w : PlainWorld) (x : ℕ) → IsSound library w → IsA w.heap.objects AnException x → IsPlain library w.heap (At x)
  exception_plain w x s is = plain_at library w.heap x AnException s.heap is (λ e. cc)

  pub top_low : (h : PlainHeap) (slots : List Slot) (entries : List Entry) → AreEntries library h slots entries → top_height entries ≤ length slots
  top_low h slots [] p = omega arith
  top_low h slots (e ∷ entries) p = p.0

  -- into the handler of an entry
  pub enter_in : (e : Entry) (entries : List Entry) (s : Slot) (slots : List Slot) (frame : Frame) (frames : List Frame) (w : PlainWorld) → IsSound library w → Own w.heap frame → AreSlots library w.heap (s ∷ cut e.height slots)
      → AreBelow library w.heap slots (e ∷ entries) → LeadsHeld entries (Some s) → Each (IsFrame library w.heap) frames → IsKept library (enter e entries s slots frame frames w)
  enter_in e entries s slots frame frames w sound o p q lead fs =
      goes_in library e.handler (s ∷ cut e.height slots) (e ∷ entries) frame frames w sound o.names o.locals o.role p (entries_enter library w.heap e entries s slots q lead) (inr (omega arith), q.3) fs

  -- a raise
  pub throws_in : (x : ℕ) (entries : List Entry) (frame : Frame) (frames : List Frame) (w : PlainWorld) (out : State) → IsSound library w → IsPlain library w.heap (At x) → Own w.heap frame → AreBelow library w.heap frame.slots entries
      → Each (IsFrame library w.heap) frames → IsKept library out → IsKept library (throw_in x entries frame frames w out)
  throws_in x [] frame frames w out s p o q fs k = k
  throws_in x (e ∷ entries) frame frames w out s p o q fs k = by e.active (throws_in x entries frame frames w out s p o (entries_up library w.heap e.height frame.slots entries (q.0) (q.2)) fs k)
    where
      by : (b : Bool) → IsKept library (throw_in x entries frame frames w out) → IsKept library (cond b (throw_in x entries frame frames w out) (enter (record e { kept = Some x }) entries (Value (At x)) frame.slots frame frames w))
      by true rest = rest
      by false rest = enter_in (record e { kept = Some x }) entries (Value (At x)) frame.slots frame frames w s o (p, q.1) (q.0, q.1, q.2, q.3) tt fs

  pub abandoned_in : (role : Role) (w : PlainWorld) → IsSound library w → WorldComes library w (abandoned role w)
  abandoned_in Main w s = world_same library w s
  abandoned_in Called w s = world_same library w s
  abandoned_in (Imported name m) w s = forget_in library w s name

  pub throws_out : (x : ℕ) (frames : List Frame) (w : PlainWorld) → IsSound library w → IsPlain library w.heap (At x) → Each (IsFrame library w.heap) frames → IsKept library (throw_out x frames w)
  throws_out x [] w s p fs = tt
  throws_out x (frame ∷ frames) w s p fs =
      let c = abandoned_in frame.role w s in
      let u = abandoned frame.role w in
      throws_in x frame.entries frame frames w (throw_out x frames u) s p (own w.heap frame (fs.0)) (below_of library w.heap frame.slots frame.entries (fs.0).entries) (fs.1)
      (throws_out x frames u c.sound (plain_on w.heap u.heap c.onward library (At x) p) (frames_on library w.heap u.heap c.onward frames (fs.1)))

  pub throw_kept : (x : ℕ) (frame : Frame) (frames : List Frame) (w : PlainWorld) → IsSound library w → IsPlain library w.heap (At x) → Own w.heap frame → AreBelow library w.heap frame.slots frame.entries → Each (IsFrame library w.heap) frames → IsKept library (throw x frame frames w)
  throw_kept x frame frames w s p o q fs =
      let c = abandoned_in frame.role w s in
      let u = abandoned frame.role w in
      throws_in x frame.entries frame frames w (throw_out x frames u) s p o q fs
      (throws_out x frames u c.sound (plain_on w.heap u.heap c.onward library (At x) p) (frames_on library w.heap u.heap c.onward frames fs))

  -- a failure, and what an effect gives
  module _ (w : PlainWorld) (frame : Frame) (frames : List Frame) (o : Own w.heap frame) (q : AreEntries library w.heap frame.slots frame.entries) (fs : Each (IsFrame library w.heap) frames) where
    thrown_kept : (x : ℕ) (u : PlainWorld) → WorldComes library w u → IsA u.heap.objects AnException x → IsKept library (throw x frame frames u)
    thrown_kept x u c is =
        throw_kept x frame frames u c.sound (exception_plain u x c.sound is) (own_on w.heap u.heap c.onward frame o) (below_of library u.heap frame.slots frame.entries (entries_on library w.heap u.heap c.onward frame.slots frame.entries q)) (frames_on library w.heap u.heap c.onward frames fs)

    pub fail_kept : (f : Fails) → FailsIn library w f → IsThrown f → IsKept library (fail f frame frames)
    fail_kept (Thrown x u) c is = thrown_kept x u c is
    fail_kept (Filled e u) c is = tt

    pub given_kept : {A : Type 0} (In : PlainHeap → A → Type 0) (g : Given A) (next : A → PlainWorld → State) → GivenIn library In w g → IsGivenThrown g → ((a : A) (u : PlainWorld) → WorldComes library w u → In u.heap a → IsKept library (next a u)) → IsKept library (on_given g frame frames next)
    given_kept In (Gives a u) next p is on = on a u (p.0) (p.1)
    given_kept In (Throws x u) next p is on = thrown_kept x u p is
    given_kept In (Fills e u) next p is on = tt

  -- a value that goes to the frame below
  pub gives_in : (v : Val) (role : Role) (frames : List Frame) (w : PlainWorld) → IsSound library w → IsPlain library w.heap v → IsRole library w.heap role → Each (IsFrame library w.heap) frames → IsKept library (give v role frames w)
  gives_in v Main [] w s p r fs = tt
  gives_in v Main (frame ∷ frames) w s p r fs = tt
  gives_in v Called [] w s p r fs = tt
  gives_in v (Imported name m) [] w s p r fs = tt
  gives_in v Called (frame ∷ frames) w s p r fs =
      let f = fs.0 in
      goes_in library (suc frame.position) (Value v ∷ frame.slots) frame.entries frame frames w s f.names f.locals f.role (p, f.slots)
      (entries_swap library w.heap (Value v ∷ []) [] frame.slots frame.entries f.entries (top_low w.heap frame.slots frame.entries f.entries) refl) (held_up frame.position frame.entries f.held) (fs.1)
  gives_in v (Imported name m) (frame ∷ frames) w s p r fs =
      let place : Place = record { file = []; line = 0; name = [] } in
      let f = fs.0 in
      given_kept w frame frames (own w.heap frame f) f.entries (fs.1) (IsPlain library) (given place (store_module w name m)) (λ stored. Running 0 frame frames)
      (given_in library place (record { file = IsName.nameless; name = IsName.nameless }) (IsPlain library) w (store_module w name m) (store_module_in library w s name m (r.0) (r.1))) (given_thrown place (store_module w name m))
      (λ a u c x. (c.sound, frames_on library w.heap u.heap c.onward (frame ∷ frames) fs))

  -- a return
  pub leaves_in : (v : Val) (entries : List Entry) (frame : Frame) (frames : List Frame) (w : PlainWorld) → IsSound library w → IsPlain library w.heap v → Own w.heap frame → AreBelow library w.heap frame.slots entries → Each (IsFrame library w.heap) frames → IsKept library (leave v entries frame frames w)
  leaves_in v [] frame frames w s p o q fs = gives_in v frame.role frames w s p o.role fs
  leaves_in v (e ∷ entries) frame frames w s p o q fs = by (is_run e) (leaves_in v entries frame frames w s p o (entries_up library w.heap e.height frame.slots entries (q.0) (q.2)) fs)
    where
      by : (b : Bool) → IsKept library (leave v entries frame frames w) → IsKept library (cond b (enter e entries (KeptReturn v) frame.slots frame frames w) (leave v entries frame frames w))
      by true rest = enter_in e entries (KeptReturn v) frame.slots frame frames w s o (p, q.1) q tt fs
      by false rest = rest

  -- the slots below an iterator
  lower_slots : (h : PlainHeap) (over : Val) (at part : ℕ) (c : Slot) (rest : List Slot) → LiesOn over at (suc part) (c ∷ rest) → AreSlots library h (c ∷ rest) → LiesOn over at part rest × AreSlots library h rest
  lower_slots h over at part (Iter o place p) rest l s =
      let low : LiesOn o place p rest = (s.0).2 in
      (subst (λ z. LiesOn z at part rest) (l.0) (subst (λ z. LiesOn o z part rest) (l.1) (subst (λ z. LiesOn o place z rest) (l.2) low)), s.1)
  lower_slots h over at part (Value v) rest l s = absurd l
  lower_slots h over at part Null rest l s = absurd l
  lower_slots h over at part (Object o) rest l s = absurd l
  lower_slots h over at part (KeptReturn v) rest l s = absurd l
  lower_slots h over at part (KeptJump target count it) rest l s = absurd l

  pub below_iterator : (h : PlainHeap) (over : Val) (at : ℕ) (c b a : Slot) (rest : List Slot) → AreSlots library h (Iter over at 3 ∷ c ∷ b ∷ a ∷ rest) → AreSlots library h rest
  below_iterator h over at c b a rest s =
      let x = lower_slots h over at 2 c (b ∷ a ∷ rest) ((s.0).2) (s.1) in
      let y = lower_slots h over at 1 b (a ∷ rest) (x.0) (x.1) in
      (lower_slots h over at 0 a rest (y.0) (y.1)).1

  -- a jump out of entries
  module _ (facts : Facts) (F : flows.Code) (A : Assigned) (frame : Frame) (frames : List Frame) (w : PlainWorld) (s : IsSound library w) (o : Own w.heap frame) (fs : Each (IsFrame library w.heap) frames) where
    without_in : (target : ℕ) (it : Bool) (entries : List Entry) (slots : List Slot) (stack : Stack) → ShowsAllIn facts slots stack → Good F A (flow.without_iter target it stack (map flow_entry entries)) → AreSlots library w.heap slots → AreEntries library w.heap slots entries → AreHeld target entries
        → IsKept library (go target (without_iter it slots) entries frame frames w)
    without_in target false entries slots stack r g p q held = goes_in library target slots entries frame frames w s o.names o.locals o.role p q held fs
    without_in target true entries slots stack r g p q held = by (flow.all_wanted iterator stack) refl g
      where
        by : (b : Bool) → flow.all_wanted iterator stack ≡ b → Good F A (cond b (flow.go target (drop 4 stack) (map flow_entry entries)) flow.Stuck) → IsKept library (go target (drop 4 slots) entries frame frames w)
        by false e g2 = absurd g2.runs
        by true e g2 =
            let low : top_height entries ≤ length (drop 4 stack) = subst (λ z. z ≤ length (drop 4 stack)) (floor_is target entries) (floor_fits (map (flow.remark target) (map flow_entry entries)) (length (drop 4 stack)) g2.runs.fits) in
            one_iterator (λ st ss. AreSlots library w.heap st → AreEntries library w.heap st entries → top_height entries ≤ length (drop 4 ss) → IsKept library (go target (drop 4 st) entries frame frames w))
            (λ over at x y z rest below r2 p2 q2 le2.
            goes_in library target rest entries frame frames w s o.names o.locals o.role (below_iterator w.heap over at x y z rest p2)
            (entries_swap library w.heap [] (Iter over at 3 ∷ x ∷ y ∷ z ∷ []) rest entries q2 (let n = shows-length rest below r2 in omega (arith, n, le2)) refl) held fs)
            slots stack r e p q low

    pub unwinds_in : (target : ℕ) (it : Bool) (count : ℕ) (entries : List Entry) (slots : List Slot) (stack : Stack) → ShowsAllIn facts slots stack → Good F A (flow.unwind target it count (map flow_entry entries) stack) → AreSlots library w.heap slots → AreEntries library w.heap slots entries → AreHeld target (drop count entries)
        → IsKept library (unwind target it count entries slots frame frames w)
    unwinds_in target it zero entries slots stack r g p q held = without_in target it entries slots stack r g p q held
    unwinds_in target it (suc count) [] slots stack r g p q held = tt
    unwinds_in target it (suc count) (e ∷ entries) slots stack r g p q held =
        by (is_run e) g (λ g2. unwinds_in target it count entries (cut e.height slots) (flow.cut e.height stack) (shows_cut e.height slots stack r) g2 (q.1) (q.2) held)
      where
        by : (b : Bool) → Good F A (cond b (flow.enter (flow_entry e) (map flow_entry entries) (flow.KeptJump target count it) stack) (flow.unwind target it count (map flow_entry entries) (flow.cut e.height stack)))
            → (Good F A (flow.unwind target it count (map flow_entry entries) (flow.cut e.height stack)) → IsKept library (unwind target it count entries (cut e.height slots) frame frames w))
            → IsKept library (cond b (enter e entries (KeptJump target count it) slots frame frames w) (unwind target it count entries (cut e.height slots) frame frames w))
        by true g2 rest = enter_in e entries (KeptJump target count it) slots frame frames w s o (q.1) (q.0, q.1, q.2, q.3) held fs
        by false g2 rest = rest g2
