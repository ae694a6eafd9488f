-- A step keeps what slots, locals and the world hold.
use Rattle.std.proofs.Common.{◌≡◌, ◌⊎◌, ℕ, zero, suc, ◌+◌, ◌*◌, ◌/◌, ◌%◌, ◌-◌, ◌≤◌, List, [], ◌∷◌, ◌++◌, map, length, take, drop, Bool, true, false, cond, ◌&&◌, Option, Some, None, inl, inr, refl, sym, ap, ◌∙◌, subst, arith, length-append, length-drop}
use Rattle.std.specs.Prelude.{slice_get, nat_eq, nat_lt, nat_le, reverse, IsSome}
use Rattle.std.specs.List.{AllByRecursion as Each}
use Rattle.std.proofs.lemmas.Bool.{eqb-true, false≢true, true≢false, and_parts, and_from, leb-true, ltb-true}
use Rattle.std.proofs.lemmas.List.{reverse-append, drop-drop, drop-map, take-append-drop, append_assoc}
use Rattle.bc_progress.specs.mpy_base.World.{DictObject}
use Rattle.bc_progress.specs.mpy_base.Weights.{room_for}
use Rattle.bc_progress.specs.mpy_base.Val.{Val, Nil, Truth, Int, Str, Built, PlainWorld}
use Rattle.bc_progress.specs.bc_ops.declared.instr.Op.{Op}
use Rattle.bc_progress.specs.bc_ops.declared.instr.Op.TheVariants as ops
use Rattle.bc_progress.specs.bc_ops.declared.instr.Instr.{Instr}
use Rattle.bc_progress.specs.bc_ops.declared.instr.Instr.TheVariants as instrs
use Rattle.bc_progress.specs.bc_flow.bc_shapes.declared.kinds.Want.{Want}
use Rattle.bc_progress.specs.bc_flow.bc_shapes.declared.kinds.Want.TheVariants as wants
use Rattle.bc_progress.specs.bc_flow.bc_shapes.declared.kinds.Give.{Give}
use Rattle.bc_progress.specs.bc_flow.bc_shapes.declared.shape.Entry.{Entry as FlowEntry}
use Rattle.bc_progress.specs.bc_flow.bc_shapes.Shape.{At as FlowAt, takes as values_on, fits}
use Rattle.bc_progress.specs.bc_flow.Action.{Setup, PopExcept, Action, Straight, Branch, EndFinally, Unwind, Return, op_action, jump_action, instr_action, iterator, arguments}
use Rattle.bc_progress.specs.bc_flow.Code as flows
use Rattle.bc_progress.specs.bc_flow.Edges.{target, falls, mark, is_marked, all_marked, raise_ways, way_in, rest_of, takes, change, floor, finds, base, deep}
use Rattle.bc_progress.specs.bc_flow.Verified.{Assigned, Holds as Meets}
use Rattle.bc_progress.specs.bc_flow.Machine as flow
use Rattle.bc_progress.specs.bc_flow.Machine.{Stack, St, is_wanted, all_wanted}
use Rattle.bc_progress.proofs.bc_flow_lemmas.Never.{Good}
use Rattle.bc_progress.proofs.bc_flow_lemmas.Sound.{stands-length, cut_all}
use Rattle.bc_progress.specs.py_values.Shown.{PlainHeap, Shown, Nothing, Number, Text, Tuple, Items, Pairs, Range, Other, shown, truth}
use Rattle.bc_progress.specs.py_primitives.Faults.{Fault, TooDeep, NoModule, RelativeImport, IncompatibleFile, BadDefaults, NothingToRaise}
use Rattle.bc_progress.specs.py_primitives.Outcome.{Outcome, making, making_tuple, making_list}
use Rattle.bc_progress.specs.py_primitives.Iterables.{items_in, use_iter, item_of, length_of}
use Rattle.bc_progress.specs.py_primitives.Uses.{get_item, set_item, delete_item, get_attr, set_attr, unpack}
use Rattle.bc_progress.specs.py_effects.Effect.{Effect, on_heap, Place, Fails, fault_at, given}
use Rattle.bc_progress.specs.py_effects.Names.{Locals, load_global, store_global, delete_global, load_local, with_local, without_local, Looked, Bound, Free, load_method, import_from, store_pair, raise_value, raise_again}
use Rattle.bc_progress.specs.py_effects.Calling.{Keys, Function, Callee, Runs, Acts, callee_of, call_method, bind}
use Rattle.bc_progress.specs.py_effects.Modules.{Made, make_function, has_items, make_module, module_named, prefixes}
use Rattle.bc_progress.specs.bc_machine.Library.{Name, Item, Plain, Names, Loads, Jumps, Unwinds, Code, Module, Holds, Refused, Entry, Library, entry_in, code_at}
use Rattle.bc_progress.specs.bc_machine.State as states
use Rattle.bc_progress.specs.bc_machine.State.{Slot, Value, Null, Object, Iter, KeptReturn, KeptJump, Role, Imported, Called, Frame, State, Running, Halted, Stuck, cut, go, fail, leave, resume, unwind, throw}
use Rattle.bc_progress.specs.bc_machine.Parts.{has_depth, iter_on, looked_on, is_zero, first_absent}
use Rattle.bc_progress.specs.bc_machine.Operations.{TwoValued, operator_at, unary_at, value_in, values, paired, operands, kept_of}
use Rattle.bc_progress.specs.bc_machine.Step as machine
use Rattle.bc_progress.specs.bc_machine.Step.{line_at, run_line, step}
use Rattle.bc_progress.specs.Slots.{Facts, ShowsIn, value, nothing, exception, null, kept_return, kept_jump, iterator1, iterator2, iterator3, iterator4, ShowsAllIn, none, more, bound, free, flow_entry}
use Rattle.bc_progress.specs.Plans.{flow_of, action_of, Plans, Follows}
use Rattle.bc_progress.specs.Fits.{StandsIn}
use Rattle.bc_progress.specs.Known.{facts_of}
use Rattle.bc_progress.proofs.Flowing.{acts, low, straight_on, branch_on}
use Rattle.bc_progress.proofs.Showing.{shows-length, top, as_value_or_null, one_value, two_values, one_iterator}
use Rattle.bc_progress.proofs.Knowing.{own_covered, ThrowsKnown, fault_known, value_known, again_known}
use Rattle.bc_progress.proofs.Items.{fine}
use Rattle.bc_progress.proofs.Frames.{meets}
use Rattle.snap_kept.specs.Texts.{IsConstant, IsName}
use Rattle.snap_kept.specs.Values.{IsNamespace, count_shown, count_of, IsPlain}
use Rattle.snap_kept.specs.Effects.{IsLocal, AreLocals, IsSound}
use Rattle.snap_kept.specs.Frames.{IsHeld, AreHeld, IsMarked, LeadsHeld, AreSlots, AreEntries, IsFrame, IsKept}
use Rattle.snap_kept.proofs.Marking.{held_up, held_go, held_back, held_marked, all_marks, next_marks, jump_marks, jump_kept, raise_marks}
use Rattle.bc_progress.proofs.Moves.{flow_remarked}
use Rattle.snap_kept.proofs.Onward.{namespace_on}
use Rattle.snap_kept.proofs.Changes.{constant_plain}
use Rattle.snap_kept.proofs.Lists.{each_append, each_set, each_drop}
use Rattle.snap_kept.proofs.Making.{Plains, FaultIn, IsIn, tuple_in, list_in, dict_in}
use Rattle.snap_kept.proofs.Using.{item_in, iter_in, get_in, set_in_item, delete_in, get_attr_in, set_attr_in, unpack_in}
use Rattle.snap_kept.proofs.Acting.{WorldComes, world_same, EffectIn, heap_in, IsPlace, FailsIn, fault_fails, value_fails, again_fails, given_in, LookedIn, load_in, store_in, delete_in as delete_name_in, local_in, load_method_in, import_in, pair_in}
use Rattle.snap_kept.proofs.Binding.{KeysIn, bind_in, method_call_in, CalleeIn, callee_in}
use Rattle.snap_kept.proofs.Moduling.{MadeIn, module_in as made_module_in, function_in, named_module_in}
use Rattle.snap_kept.proofs.Operating.{one_in, two_in}
use Rattle.snap_kept.proofs.Framing.{no_jump, no_jumps, below_of, on_top, cut_more, top_height, slots_on, entries_on, locals_on, role_on, frames_on, entries_swap, entries_new, new_in, goes_in}
use Rattle.snap_kept.proofs.Moving.{IsThrown, thrown_is, given_thrown, own, own_on, top_low, below_iterator, throw_kept, fail_kept, given_kept, leaves_in, unwinds_in}

each_reverse : {A : Type 0} (P : A → Type 0) (xs : List A) → Each P xs → Each P (reverse xs)
each_reverse P [] p = tt
each_reverse P (x ∷ xs) p = subst (Each P) (sym (reverse-append (x ∷ []) xs)) (each_append P (reverse xs) (x ∷ []) (each_reverse P xs (p.1)) (p.0, tt))

floor_top : (entries : List states.Entry) → floor (map flow_entry entries) ≡ top_height entries
floor_top [] = refl
floor_top (e ∷ entries) = refl

cut_drop : {A : Type 0} (h n : ℕ) (xs : List A) → n ≤ length xs → h ≤ length (drop n xs) → flow.cut h (drop n xs) ≡ flow.cut h xs
cut_drop h n xs le lh =
    drop-drop (length (drop n xs) - h) n xs
    ∙ ap (λ k. drop k xs) (let q = length-drop n xs in let e : n + (length (drop n xs) - h) ≡ length xs - h = omega (arith, q, le, lh) in e)

pairs_of_values : (library : Library) (h : PlainHeap) (vs : List Val) → Plains library h vs → KeysIn library h (paired vs)
pairs_of_values library h [] p = tt
pairs_of_values library h (x ∷ []) p = tt
pairs_of_values library h (x ∷ v ∷ vs) p = ((p.1).0, pairs_of_values library h vs ((p.1).1))

-- the entries lie below the cause of a finally that ends
deep_end : (x : FlowAt) → finds EndFinally x ≡ true → floor x.entries ≡ length x.slots - 1
unfolding finds base change takes
deep_end x h =
    let all = drop (length x.slots - length x.slots) x.slots in
    let e : length all - 1 ≡ floor x.entries = eqb-true _ _ (and_parts _ _ (and_parts (fits (takes EndFinally) all) _ h).1).1 in
    let n = length-drop (length x.slots - length x.slots) x.slots in
    omega (arith, e, n)

deep_pop : (to : ℕ) (x : FlowAt) → finds (PopExcept to) x ≡ true → floor x.entries ≡ length x.slots
unfolding finds base change takes
deep_pop to x h =
    let all = drop (length x.slots - length x.slots) x.slots in
    let e : length all - 0 ≡ floor x.entries = eqb-true _ _ (and_parts _ _ (and_parts (fits (takes (PopExcept to)) all) _ h).1).1 in
    let n = length-drop (length x.slots - length x.slots) x.slots in
    omega (arith, e, n)

some_action : (x y : Action) → Some x ≡ Some y → x ≡ y
some_action x y e = cc

low_end : (code : flows.Code) (a : Assigned) → Meets code a → (p : ℕ) (st : Stack) (es : List FlowEntry) → Good code a (flow.Run p st es) → slice_get code.actions p ≡ Some EndFinally → floor es ≡ length st - 1
low_end code a holds p st es g e =
    let r = g.runs in
    let f = holds.closed p r.at r.is in
    let is : f.action ≡ EndFinally = some_action f.action EndFinally (sym f.is ∙ e) in
    let q = deep_end r.at (subst (λ z. finds z r.at ≡ true) is f.height) in
    let le = subst (λ z. floor z ≡ length r.at.slots - 1) r.entries q in
    let n = stands-length st r.at.slots r.slots in
    omega (arith, le, n)

low_pop : (code : flows.Code) (a : Assigned) → Meets code a → (to p : ℕ) (st : Stack) (es : List FlowEntry) → Good code a (flow.Run p st es) → slice_get code.actions p ≡ Some (PopExcept to) → floor es ≡ length st
low_pop code a holds to p st es g e =
    let r = g.runs in
    let f = holds.closed p r.at r.is in
    let is : f.action ≡ PopExcept to = some_action f.action (PopExcept to) (sym f.is ∙ e) in
    let q = deep_pop to r.at (subst (λ z. finds z r.at ≡ true) is f.height) in
    let le = subst (λ z. floor z ≡ length r.at.slots) r.entries q in
    let n = stands-length st r.at.slots r.slots in
    omega (arith, le, n)

module _ (library : Library) where
  -- slots that are shown
  some_slot : (facts : Facts) (h : PlainHeap) (s : Slot) (t : flow.Slot) (rest : List Slot) → ShowsIn facts s t → AreSlots library h (s ∷ rest) → AreSlots library h rest
  some_slot facts h s t rest value p = p.1
  some_slot facts h s t rest nothing p = p.1
  some_slot facts h s t rest (exception is) p = p.1
  some_slot facts h s t rest null p = p
  some_slot facts h s t rest kept_return p = p.1
  some_slot facts h s t rest kept_jump p = p
  some_slot facts h s t rest iterator1 p = p.1
  some_slot facts h s t rest iterator2 p = p.1
  some_slot facts h s t rest iterator3 p = p.1
  some_slot facts h s t rest iterator4 p = p.1

  -- the values on top of others
  record Topmost (facts : Facts) (h : PlainHeap) (n : ℕ) (ws : List Want) (st : List Slot) (ss : Stack) : Type 0 where
    plain : Plains library h (map value_in (take n st))
    slots : AreSlots library h (drop n st)
    shows : ShowsAllIn facts (drop n st) (drop n ss)
    wanted : all_wanted ws (drop n ss) ≡ true

  topmost : (facts : Facts) (h : PlainHeap) (n : ℕ) (ws : List Want) (st : List Slot) (ss : Stack) → ShowsAllIn facts st ss → all_wanted (values_on n ws) ss ≡ true → AreSlots library h st → Topmost facts h n ws st ss
  topmost facts h zero ws st ss r e p = record { plain = tt; slots = p; shows = r; wanted = e }
  topmost facts h (suc n) ws st ss r e p =
      one_value (values_on n ws) (λ a b. AreSlots library h a → Topmost facts h (suc n) ws a b)
      (λ v t rest below hv r2 w p2. let q = topmost facts h n ws rest below r2 w (p2.1) in record { plain = (p2.0, q.plain); slots = q.slots; shows = q.shows; wanted = q.wanted }) st ss r e p

  values_slots : (h : PlainHeap) (vs : List Val) (rest : List Slot) → Plains library h vs → AreSlots library h rest → AreSlots library h (map Value vs ++ rest)
  values_slots h [] rest p q = q
  values_slots h (v ∷ vs) rest p q = (p.0, values_slots h vs rest (p.1) q)

  iter_slots : (h : PlainHeap) (over : Val) (at : ℕ) (rest : List Slot) → IsPlain library h over → IsSome (items_in h over) → AreSlots library h rest → AreSlots library h (iter_on over at rest)
  iter_slots h over at rest p some q = ((p, some, (refl, refl, refl)), ((p, some, (refl, refl, refl)), ((p, some, (refl, refl, refl)), ((p, some, tt), q))))

not_le : (m n : ℕ) → suc n ≤ m → nat_le m n ≡ false
not_le m n le = by (nat_le m n) refl
  where
    by : (b : Bool) → nat_le m n ≡ b → nat_le m n ≡ false
    by false e = e
    by true e = let le2 : m ≤ n = leb-true m n e in absurd (omega (arith, le, le2))

values_none : (vs : List Val) → no_jumps (map Value vs) ≡ true
values_none [] = refl
values_none (v ∷ vs) = values_none vs

module _ (library : Library) (plans : Plans) (follows : Follows plans library) (place : Place) (paid : ℕ) (frame : Frame) (frames : List Frame) (w : PlainWorld) (s : StandsIn (facts_of w.heap.objects) plans library frame)
    (sound : IsSound library w) (fr : IsFrame library w.heap frame) (fs : Each (IsFrame library w.heap) frames) (at : IsPlace library place) where
  abbrev facts : Facts
  facts = facts_of w.heap.objects

  abbrev F : flows.Code
  F = flow_of (plans frame.module_name frame.code) s.code

  abbrev A : Assigned
  A = (plans frame.module_name frame.code).assigned

  abbrev es : List FlowEntry
  es = map flow_entry frame.entries

  abbrev D : Action → Type 0
  D i = slice_get F.actions frame.position ≡ Some i

  abbrev K : State → Type 0
  K state = IsKept library state

  m : Meets F A
  m = meets plans library follows frame.module_name frame.code s.code s.code_is

  -- the slots that stand, with what holds of them
  record Here (st : List Slot) : Type 0 where
    slots : AreSlots library w.heap st
    entries : AreEntries library w.heap st frame.entries
    shows : ShowsAllIn facts st s.stack

  whole : Here frame.slots
  whole = record { slots = fr.slots; entries = fr.entries; shows = s.shows }

  act : (i : Action) (b : Bool) → D i → Good F A (flow.act i b frame.position s.stack es)
  act i b d = acts F A (fine (plans frame.module_name frame.code) s.code) m i b frame.position s.stack es s.planned d

  straight : (ws : List Want) (gs : List Give) → D (Straight ws gs) → all_wanted ws s.stack ≡ true
  straight ws gs d = (straight_on F A (fine (plans frame.module_name frame.code) s.code) m ws gs frame.position s.stack es s.planned d).0

  lows : (i : Action) → change i ≡ change Return → D i → (st : List Slot) → Here st → (length (takes i) ≤ length st) × (top_height frame.entries ≤ length st - length (takes i))
  lows i k d st h =
      let q = low F A (fine (plans frame.module_name frame.code) s.code) m i frame.position s.stack es k s.planned d in
      let n = shows-length st s.stack h.shows in
      let f = floor_top frame.entries in
      let a = q.0 in
      let b = q.1 in
      (omega (arith, a, n), omega (arith, b, n, f))

  -- the entries on what lies below the slots that are taken
  pops : (n : ℕ) (i : Action) → change i ≡ change Return → length (takes i) ≡ n → D i → (xs rest : List Slot) → length xs ≡ n → Here (xs ++ rest) → AreEntries library w.heap rest frame.entries
  pops n i k t d xs rest e h =
      let q = (lows i k d (xs ++ rest) h).1 in
      let l = length-append xs rest in
      entries_swap library w.heap [] xs rest frame.entries h.entries (omega (arith, q, l, t, e)) refl

  drops : (n : ℕ) (i : Action) → change i ≡ change Return → length (takes i) ≡ n → D i → AreEntries library w.heap (drop n frame.slots) frame.entries
  drops n i k t d =
      let q = lows i k d frame.slots whole in
      let a = q.0 in
      let b = q.1 in
      let l = length-drop n frame.slots in
      let le : top_height frame.entries ≤ length (drop n frame.slots) = omega (arith, b, l, t) in
      entries_swap library w.heap [] (take n frame.slots) (drop n frame.slots) frame.entries (subst (λ z. AreEntries library w.heap z frame.entries) (sym (take-append-drop n frame.slots)) fr.entries) le refl

  -- the entries are held at the next instruction, and where the flow jumps
  up : AreHeld (suc frame.position) frame.entries
  up = held_up frame.position frame.entries fr.held

  jump_held : (i : Action) (to : ℕ) → D i → target i ≡ Some to → change i ≡ change Return → AreHeld to frame.entries
  jump_held i to d t k = held_go frame.position to frame.entries (jump_kept F A m frame.position s.stack es s.planned i to d t k) fr.marked fr.held

  -- on at a position, with slots on what is left
  land : (q : ℕ) → AreHeld q frame.entries → (xs : List Slot) → no_jumps xs ≡ true → (rest : List Slot) (u : PlainWorld) → WorldComes library w u → AreEntries library w.heap rest frame.entries → AreSlots library u.heap (xs ++ rest) → K (go q (xs ++ rest) frame.entries frame frames u)
  land q held xs free_of rest u c e p =
      goes_in library q (xs ++ rest) frame.entries frame frames u c.sound (namespace_on w.heap u.heap c.onward frame.names fr.names) (locals_on library w.heap u.heap c.onward frame.locals fr.locals) (role_on library w.heap u.heap c.onward frame.role fr.role) p
      (entries_swap library u.heap xs [] rest frame.entries (entries_on library w.heap u.heap c.onward rest frame.entries e) (top_low library w.heap rest frame.entries e) free_of) held
      (frames_on library w.heap u.heap c.onward frames fs)

  here : WorldComes library w w
  here = world_same library w sound

  -- failures
  fails : (f : Fails) → FailsIn library w f → IsThrown f → K (fail f frame frames)
  fails f p is = fail_kept library w frame frames (own library w.heap frame fr) fr.entries fs f p is

  faults : (fault : Fault) → FaultIn library w.heap fault → K (fail (fault_at place w fault) frame frames)
  faults fault p = fails (fault_at place w fault) (fault_fails library place at w fault sound p) (thrown_is (fault_at place w fault) (λ facts. fault_known facts place w fault))

  -- effects
  paying : {A : Type 0} (In : PlainHeap → A → Type 0) (b : Bool) (effect : Effect A) (behind : A → PlainWorld → State) → EffectIn library In w effect → ((a : A) (u : PlainWorld) → WorldComes library w u → In u.heap a → K (behind a u)) → K (machine.paying library place paid frame frames w b effect behind)
  paying In true effect behind p on = (sound, (fr, fs))
  paying In false effect behind p on = given_kept library w frame frames (own library w.heap frame fr) fr.entries fs In (given place effect) behind (given_in library place at In w effect p) (given_thrown place effect) on

  does : {A : Type 0} (In : PlainHeap → A → Type 0) (effect : Effect A) (behind : A → PlainWorld → State) → EffectIn library In w effect → ((a : A) (u : PlainWorld) → WorldComes library w u → In u.heap a → K (behind a u)) → K (machine.does library place paid frame frames w effect behind)
  does In effect behind p on = paying In (nat_lt paid effect.visits) effect behind p on

  gives : (rest : List Slot) (effect : Effect Val) → EffectIn library (IsPlain library) w effect → AreEntries library w.heap rest frame.entries → AreSlots library w.heap rest → K (machine.gives library place paid frame frames w rest effect)
  gives rest effect p e q = does (IsPlain library) effect _ p (λ v u c x. land (suc frame.position) up (Value v ∷ []) refl rest u c e (x, slots_on library w.heap u.heap c.onward rest q))

  puts : (rest : List Slot) (effect : Effect Val) → EffectIn library (IsPlain library) w effect → AreEntries library w.heap rest frame.entries → AreSlots library w.heap rest → K (machine.puts library place paid frame frames w rest effect)
  puts rest effect p e q = does (IsPlain library) effect _ p (λ v u c x. land (suc frame.position) up [] refl rest u c e (slots_on library w.heap u.heap c.onward rest q))

  on : (o : Outcome Val) → IsIn library (IsPlain library) w.heap o → EffectIn library (IsPlain library) w (on_heap w o)
  on o p = heap_in library (IsPlain library) w o sound p

  -- calls
  -- =====

  entered : (rest : List Slot) (c : Function) (code : Code) (slots : Locals) (b : Bool) (u : PlainWorld) → WorldComes library w u → AreEntries library w.heap rest frame.entries → AreSlots library w.heap rest → IsNamespace w.heap c.names → AreLocals library u.heap slots → K (machine.entered library place paid frame frames w rest c code slots b u)
  entered rest c code slots true u x e p space l = (
    x.sound,
    (
      new_in library u.heap c.module_name c.code code slots c.names Called (namespace_on w.heap u.heap x.onward c.names space) l tt,
      (
        record {
          names = namespace_on w.heap u.heap x.onward frame.names fr.names;
          locals = locals_on library w.heap u.heap x.onward frame.locals fr.locals;
          role = role_on library w.heap u.heap x.onward frame.role fr.role;
          slots = slots_on library w.heap u.heap x.onward rest p;
          entries = entries_on library w.heap u.heap x.onward rest frame.entries e;
          held = fr.held;
          marked = fr.marked;
        },
        frames_on library w.heap u.heap x.onward frames fs,
      ),
    ),
  )
  entered rest c code slots false u x e p space l =
      let ux = x.sound in
      fail_kept library u frame frames (own_on library w.heap u.heap x.onward frame (own library w.heap frame fr)) (entries_on library w.heap u.heap x.onward frame.slots frame.entries fr.entries) (frames_on library w.heap u.heap x.onward frames fs)
      (fault_at place u TooDeep) (fault_fails library place at u TooDeep ux tt) (thrown_is (fault_at place u TooDeep) (λ facts. fault_known facts place u TooDeep))

  run_code : (rest : List Slot) (c : Function) (o : Option Code) (args : List Val) (keys : Keys) → AreEntries library w.heap rest frame.entries → AreSlots library w.heap rest → IsNamespace w.heap c.names → IsPlain library w.heap c.defaults → Plains library w.heap args → KeysIn library w.heap keys → K (machine.run_code library place paid frame frames w rest c o args keys)
  run_code rest c None args keys e p space d q r = land (suc frame.position) up (Value Nil ∷ []) refl rest w here e (tt, p)
  run_code rest c (Some code) args keys e p space d q r = does (AreLocals library) (bind w code.params code.given c.defaults args keys) _ (bind_in library w sound code.params code.given c.defaults args keys d q r) (λ slots u x l. entered rest c code slots (has_depth frames) u x e p space l)

  run_callee : (rest : List Slot) (c : Callee) (args : List Val) (keys : Keys) → AreEntries library w.heap rest frame.entries → AreSlots library w.heap rest → CalleeIn library w sound c → Plains library w.heap args → KeysIn library w.heap keys → K (machine.run_callee library place paid frame frames w rest c args keys)
  run_callee rest (Acts a) args keys e p x q r = gives rest (a args keys) (x args keys q) e p
  run_callee rest (Runs c) args keys e p x q r = run_code rest c (code_at library c.module_name c.code) args keys e p (x.0) (x.1) q r

  -- the operands of a call
  record Operated (n : ℕ) (ws : List Want) : Type 0 where
    args : Plains library w.heap (operands n frame.slots).args
    keys : KeysIn library w.heap (operands n frame.slots).keys
    slots : AreSlots library w.heap (operands n frame.slots).below
    stack : Stack
    shows : ShowsAllIn facts (operands n frame.slots).below stack
    wanted : all_wanted ws stack ≡ true

  values_more : (a b : ℕ) (ws : List Want) → values_on (a + b) ws ≡ values_on a (values_on b ws)
  values_more zero b ws = ap (λ n. values_on n ws) (let e : 0 + b ≡ b = omega arith in e)
  values_more (suc a) b ws = ap (λ n. values_on n ws) (let e : suc a + b ≡ suc (a + b) = omega arith in e) ∙ ap (λ (z : List Want). wants.Value ∷ z) (values_more a b ws)

  called : (n : ℕ) (ws : List Want) → all_wanted (values_on (arguments n) ws) s.stack ≡ true → Operated n ws
  called n ws e =
      let k = 2 * (n / 256) in
      let p = n % 256 in
      let order : arguments n ≡ k + p = omega arith in
      let wanted : all_wanted (values_on k (values_on p ws)) s.stack ≡ true = subst (λ z. all_wanted z s.stack ≡ true) (ap (λ j. values_on j ws) order ∙ values_more k p ws) e in
      let a = topmost library facts w.heap k (values_on p ws) frame.slots s.stack s.shows wanted fr.slots in
      let b = topmost library facts w.heap p ws (drop k frame.slots) (drop k s.stack) a.shows a.wanted a.slots in
      record {
        args = each_reverse (IsPlain library w.heap) (map value_in (take p (drop k frame.slots))) b.plain;
        keys = pairs_of_values library w.heap (values k frame.slots) (each_reverse (IsPlain library w.heap) (map value_in (take k frame.slots)) a.plain);
        slots = b.slots;
        stack = drop p (drop k s.stack);
        shows = b.shows;
        wanted = b.wanted;
      }

  below_is : (n : ℕ) → (operands n frame.slots).below ≡ drop (arguments n) frame.slots
  below_is n = drop-drop (n % 256) (2 * (n / 256)) frame.slots ∙ ap (λ k. drop k frame.slots) (let q : 2 * (n / 256) + n % 256 ≡ arguments n = omega arith in q)

  -- the entries on what lies below a call
  below_entries : (n k : ℕ) (i : Action) → change i ≡ change Return → length (takes i) ≡ arguments n + k → D i → (xs rest : List Slot) → length xs ≡ k → (operands n frame.slots).below ≡ xs ++ rest → AreEntries library w.heap rest frame.entries
  below_entries n k i c t d xs rest l e =
      let q = lows i c d frame.slots whole in
      let a = q.0 in
      let b = q.1 in
      let same : xs ++ rest ≡ drop (arguments n) frame.slots = sym e ∙ below_is n in
      let la = length-append xs rest in
      let ld = length-drop (arguments n) frame.slots in
      let long : length (xs ++ rest) ≡ length (drop (arguments n) frame.slots) = ap length same in
      let le : top_height frame.entries ≤ length rest = omega (arith, b, t, la, ld, long, l) in
      let front : List Slot = take (arguments n) frame.slots in
      let all : frame.slots ≡ (front ++ xs) ++ rest = sym (take-append-drop (arguments n) frame.slots) ∙ ap (λ (z : List Slot). front ++ z) (sym same) ∙ sym (append_assoc front xs rest) in
      entries_swap library w.heap [] (front ++ xs) rest frame.entries (subst (λ z. AreEntries library w.heap z frame.entries) all fr.entries) le refl

  function_by : (n : ℕ) (i : Action) → change i ≡ change Return → length (takes i) ≡ arguments n + 1 → D i → (c : Operated n (wants.Value ∷ [])) (st : List Slot) → (operands n frame.slots).below ≡ st → AreSlots library w.heap st → K (machine.call_function library place paid frame frames w (operands n frame.slots) st)
  function_by n i k t d c (Value v ∷ rest) e p =
      run_callee rest (callee_of w v) (operands n frame.slots).args (operands n frame.slots).keys (below_entries n 1 i k t d (Value v ∷ []) rest refl e) (p.1) (callee_in library w sound v) c.args c.keys
  function_by n i k t d c _ e p = tt

  looked_by : (n : ℕ) (i : Action) → change i ≡ change Return → length (takes i) ≡ arguments n + 2 → D i → (c : Operated n (wants.Method ∷ wants.Value ∷ [])) (st : List Slot) → (operands n frame.slots).below ≡ st → AreSlots library w.heap st → K (machine.call_looked library place paid frame frames w (operands n frame.slots) st)
  looked_by n i k t d c (Object (Some o) ∷ Value (Built method) ∷ rest) e p =
      gives rest (call_method w method o (operands n frame.slots).args (operands n frame.slots).keys) (method_call_in library w sound method o (operands n frame.slots).args (operands n frame.slots).keys ((p.0).0) c.args)
      (below_entries n 2 i k t d (Object (Some o) ∷ Value (Built method) ∷ []) rest refl e) (p.1)
  looked_by n i k t d c (Object None ∷ Value v ∷ rest) e p =
      run_callee rest (callee_of w v) (operands n frame.slots).args (operands n frame.slots).keys (below_entries n 2 i k t d (Object None ∷ Value v ∷ []) rest refl e) (p.1) (callee_in library w sound v) c.args c.keys
  looked_by n i k t d c _ e p = tt

  -- functions that are made
  -- =======================

  made_by : (number : ℕ) (rest : List Slot) (d : Val) (o : Option Code) → code_at library frame.module_name number ≡ o → AreEntries library w.heap rest frame.entries → AreSlots library w.heap rest → IsPlain library w.heap d
      → ((code : Code) → o ≡ Some code → (d ≡ Nil) ⊎ (count_of w.heap d ≡ Some code.given)) → K (machine.made_function library place paid frame frames w number rest d o)
  made_by number rest d (Some code) is e p q count =
      gives rest (make_function w code.name frame.module_name number frame.names d)
      (function_in library w sound code.name frame.module_name number frame.names d (record { namespace = fr.names; plain = q; its = code; there = is; named = refl; count = count code refl })) e p
  made_by number rest d None is e p q count = tt

  make_by : (rest : List Slot) (o : Option ℕ) → AreEntries library w.heap rest frame.entries → AreSlots library w.heap rest → K (machine.make library place paid frame frames w rest Nil o)
  make_by rest (Some number) e p = made_by number rest Nil (code_at library frame.module_name number) refl e p tt (λ code q. inl refl)
  make_by rest None e p = tt

  -- a tuple of as many items as a code has defaults
  has_counted : (count : ℕ) (t : Shown) → has_items count t ≡ true → count_shown t ≡ Some count
  has_counted count (Tuple items) e = ap Some (eqb-true (length items) count e)
  has_counted count Nothing e = absurd (false≢true e)
  has_counted count (Number z) e = absurd (false≢true e)
  has_counted count (Text bytes) e = absurd (false≢true e)
  has_counted count (Items items) e = absurd (false≢true e)
  has_counted count (Pairs pairs) e = absurd (false≢true e)
  has_counted count (Range start stop step) e = absurd (false≢true e)
  has_counted count Other e = absurd (false≢true e)

  counted_by : (d : Val) (o : Option Code) (code : Code) → has_items (machine.given_by library place paid frame frames w o) (shown w.heap d) ≡ true → o ≡ Some code → count_of w.heap d ≡ Some code.given
  counted_by d o code x is = has_counted code.given (shown w.heap d) (subst (λ z. has_items (machine.given_by library place paid frame frames w z) (shown w.heap d) ≡ true) is x)

  with_by : (rest : List Slot) (d : Val) (o : Option ℕ) → AreEntries library w.heap rest frame.entries → AreSlots library w.heap rest → IsPlain library w.heap d → K (machine.make_with library place paid frame frames w rest d o)
  with_by rest d (Some number) e p q = by (has_items (machine.given_by library place paid frame frames w (code_at library frame.module_name number)) (shown w.heap d)) refl
    where
      by : (b : Bool) → has_items (machine.given_by library place paid frame frames w (code_at library frame.module_name number)) (shown w.heap d) ≡ b
          → K (cond b (machine.made_function library place paid frame frames w number rest d (code_at library frame.module_name number)) (fail (fault_at place w BadDefaults) frame frames))
      by true x = made_by number rest d (code_at library frame.module_name number) refl e p q (λ code is. inr (counted_by d (code_at library frame.module_name number) code x is))
      by false x = faults BadDefaults tt
  with_by rest d None e p q = tt

  -- imports
  -- =======

  begun_in : (name : Name) (held : Module) → entry_in library name ≡ Some (Holds held) → (o : Option Code) (made : Made) (u : PlainWorld) → WorldComes library w u → MadeIn library u.heap made → K (machine.begun library place paid frame frames w name o made u)
  begun_in name held e (Some code) made u c x = (
    c.sound,
    (new_in library u.heap name 0 code [] made.names (Imported name made.number) (x.1) tt (IsName.part name held e, x.0), frames_on library w.heap u.heap c.onward (frame ∷ frames) (fr, fs)),
  )
  begun_in name held e None made u c x = tt

  begin_in : (name : Name) (o : Option Entry) (deep : Bool) → entry_in library name ≡ o → K (machine.begin library place paid frame frames w name o deep)
  begin_in name None deep e = faults (NoModule name) tt
  begin_in name (Some Refused) deep e = faults IncompatibleFile tt
  begin_in name (Some (Holds held)) true e = does (MadeIn library) (make_module w name) _ (made_module_in library w sound name (inr (held, e)) (inl (IsName.of_module name held e))) (λ made u c x. begun_in name held e (slice_get held.codes 0) made u c x)
  begin_in name (Some (Holds held)) false e = faults TooDeep tt

  absent_in : (names : Val) (ps : List Name) (rest : List Slot) (o : Option Name) → AreEntries library w.heap rest frame.entries → AreSlots library w.heap rest → K (machine.import_absent library place paid frame frames w names ps rest o)
  absent_in names ps rest (Some name) e p = begin_in name (entry_in library name) (has_depth frames) refl
  absent_in names ps rest None e p = land (suc frame.position) up (Value (module_named w (machine.wanted library place paid frame frames w names ps)) ∷ []) refl rest w here e (named_module_in library w sound (machine.wanted library place paid frame frames w names ps), p)

  either : (b : Bool) (x y : State) → K x → K y → K (cond b x y)
  either true x y p q = p
  either false x y p q = q

  -- instructions that name a text
  -- =============================

  looked_slots : (u : PlainWorld) (looked : Looked) (rest : List Slot) → LookedIn library u.heap looked → AreSlots library u.heap rest → AreSlots library u.heap (looked_on looked rest)
  looked_slots u (Bound method object) rest l p = (l, p)
  looked_slots u (Free v) rest l p = (l, p)

  looked_lands : (looked : Looked) (rest : List Slot) (u : PlainWorld) → WorldComes library w u → AreEntries library w.heap rest frame.entries → AreSlots library w.heap rest → LookedIn library u.heap looked → K (machine.next library place paid frame frames w (looked_on looked rest) u)
  looked_lands (Bound method object) rest u c e p l = land (suc frame.position) up (Object (Some object) ∷ Value (Built method) ∷ []) refl rest u c e (looked_slots u (Bound method object) rest l (slots_on library w.heap u.heap c.onward rest p))
  looked_lands (Free v) rest u c e p l = land (suc frame.position) up (Object None ∷ Value v ∷ []) refl rest u c e (looked_slots u (Free v) rest l (slots_on library w.heap u.heap c.onward rest p))

  name_in : (op : Op) (name : Name) (st : List Slot) → D (op_action op 0) → IsName library name → Here st → K (machine.name_step library place paid frame frames w op name st)
  unfolding op_action takes change
  name_in ops.LoadConstString name st d n h = land (suc frame.position) up (Value (Str name) ∷ []) refl st w here h.entries (inl n, h.slots)
  name_in ops.LoadName name st d n h = gives st (load_global w frame.names name) (load_in library w sound frame.names name fr.names) h.entries h.slots
  name_in ops.LoadGlobal name st d n h = gives st (load_global w frame.names name) (load_in library w sound frame.names name fr.names) h.entries h.slots
  name_in ops.StoreName name (Value v ∷ st) d n h = puts st (store_global w frame.names name v) (store_in library w sound frame.names name v fr.names n (h.slots.0)) (pops 1 (op_action ops.StoreName 0) refl refl d (Value v ∷ []) st refl h) (h.slots.1)
  name_in ops.StoreGlobal name (Value v ∷ st) d n h = puts st (store_global w frame.names name v) (store_in library w sound frame.names name v fr.names n (h.slots.0)) (pops 1 (op_action ops.StoreGlobal 0) refl refl d (Value v ∷ []) st refl h) (h.slots.1)
  name_in ops.DeleteName name st d n h = puts st (delete_global w frame.names name) (delete_name_in library w sound frame.names name fr.names) h.entries h.slots
  name_in ops.DeleteGlobal name st d n h = puts st (delete_global w frame.names name) (delete_name_in library w sound frame.names name fr.names) h.entries h.slots
  name_in ops.LoadAttr name (Value o ∷ st) d n h = gives st (on_heap w (get_attr w.heap o name)) (on (get_attr w.heap o name) (get_attr_in library w.heap sound.heap o name (h.slots.0))) (pops 1 (op_action ops.LoadAttr 0) refl refl d (Value o ∷ []) st refl h) (h.slots.1)
  name_in ops.LoadMethod name (Value o ∷ st) d n h =
      does (LookedIn library) (load_method w o name) _ (load_method_in library w sound o name (h.slots.0)) (λ looked u c l. looked_lands looked st u c (pops 1 (op_action ops.LoadMethod 0) refl refl d (Value o ∷ []) st refl h) (h.slots.1) l)
  name_in ops.StoreAttr name (Value o ∷ Value v ∷ st) d n h = puts st (on_heap w (set_attr w.heap o name v)) (on (set_attr w.heap o name v) (set_attr_in library w.heap sound.heap o name v n ((h.slots.1).0))) (pops 2 (op_action ops.StoreAttr 0) refl refl d (Value o ∷ Value v ∷ []) st refl h) ((h.slots.1).1)
  name_in ops.ImportName name (Value names ∷ Value level ∷ st) d n h =
      either (is_zero (shown w.heap level)) _ _ (absent_in names (prefixes name) st (first_absent w (prefixes name)) (pops 2 (op_action ops.ImportName 0) refl refl d (Value names ∷ Value level ∷ []) st refl h) ((h.slots.1).1)) (faults RelativeImport tt)
  name_in ops.ImportFrom name (Value o ∷ st) d n h =
      does (IsPlain library) (import_from w o name) _ (import_in library w sound o name (h.slots.0)) (λ v u c x. land (suc frame.position) up (Value v ∷ []) refl (Value o ∷ st) u c h.entries (x, slots_on library w.heap u.heap c.onward (Value o ∷ st) h.slots))
  name_in _ name st d n h = tt

  -- instructions with a number
  -- ==========================

  locals_land : (locals : Locals) (rest : List Slot) (u : PlainWorld) → WorldComes library w u → AreEntries library w.heap rest frame.entries → AreSlots library w.heap rest → AreLocals library w.heap locals → K (machine.with_locals library place paid frame frames w locals rest u)
  locals_land locals rest u c e p l =
      goes_in library (suc frame.position) rest frame.entries (record frame { locals = locals }) frames u c.sound (namespace_on w.heap u.heap c.onward frame.names fr.names) (locals_on library w.heap u.heap c.onward locals l) (role_on library w.heap u.heap c.onward frame.role fr.role)
      (slots_on library w.heap u.heap c.onward rest p) (entries_on library w.heap u.heap c.onward rest frame.entries e) up (frames_on library w.heap u.heap c.onward frames fs)

  takes_many : (n : ℕ) → length (values_on n []) ≡ n
  takes_many zero = refl
  takes_many (suc n) = ap suc (takes_many n)

  takes_more : (n : ℕ) (ws : List Want) → length (values_on n ws) ≡ n + length ws
  takes_more zero ws = let e : length ws ≡ 0 + length ws = omega arith in e
  takes_more (suc n) ws = let q = takes_more n ws in let e : suc (length (values_on n ws)) ≡ suc n + length ws = omega (arith, q) in e

  -- the values that an instruction takes
  taken : (n : ℕ) (gs : List Give) → D (Straight (values_on n []) gs) → Topmost library facts w.heap n [] frame.slots s.stack
  taken n gs d = topmost library facts w.heap n [] frame.slots s.stack s.shows (straight (values_on n []) gs d) fr.slots

  store_fast : (n : ℕ) → D (op_action ops.StoreFast n) → (st : List Slot) → Here st → K (machine.number_step library place paid frame frames w ops.StoreFast n st)
  unfolding op_action takes change
  store_fast n d (Value v ∷ st) h = locals_land (with_local frame.locals n v) st w here (pops 1 (op_action ops.StoreFast n) refl refl d (Value v ∷ []) st refl h) (h.slots.1) (each_set (IsLocal library w.heap) frame.locals n (Some v) fr.locals (h.slots.0))
  store_fast n d _ h = tt

  store_fast_n : (n : ℕ) → D (op_action ops.StoreFastN n) → (st : List Slot) → Here st → K (machine.number_step library place paid frame frames w ops.StoreFastN n st)
  unfolding op_action takes change
  store_fast_n n d (Value v ∷ st) h = locals_land (with_local frame.locals n v) st w here (pops 1 (op_action ops.StoreFastN n) refl refl d (Value v ∷ []) st refl h) (h.slots.1) (each_set (IsLocal library w.heap) frame.locals n (Some v) fr.locals (h.slots.0))
  store_fast_n n d _ h = tt

  unpacks : (n : ℕ) → D (op_action ops.UnpackSequence n) → (st : List Slot) → Here st → K (machine.number_step library place paid frame frames w ops.UnpackSequence n st)
  unfolding op_action takes change
  unpacks n d (Value v ∷ st) h =
      does (Plains library) (on_heap w (unpack w.heap n v)) _ (heap_in library (Plains library) w (unpack w.heap n v) sound (unpack_in library w.heap sound.heap n v (h.slots.0))) (λ vs u c x.
      land (suc frame.position) up (map Value vs) (values_none vs) st u c (pops 1 (op_action ops.UnpackSequence n) refl refl d (Value v ∷ []) st refl h) (values_slots library u.heap vs st x (slots_on library w.heap u.heap c.onward st (h.slots.1))))
  unpacks n d _ h = tt

  with_defaults : (n : ℕ) → D (op_action ops.MakeFunctionDefargs n) → (st : List Slot) → Here st → K (machine.number_step library place paid frame frames w ops.MakeFunctionDefargs n st)
  unfolding op_action takes change
  with_defaults n d (Null ∷ Value v ∷ st) h = with_by st v (machine.child library place paid frame frames w n) (pops 2 (op_action ops.MakeFunctionDefargs n) refl refl d (Null ∷ Value v ∷ []) st refl h) (h.slots.1) (h.slots.0)
  with_defaults n d _ h = tt

  number_in : (op : Op) (n : ℕ) → D (op_action op n) → K (machine.number_step library place paid frame frames w op n frame.slots)
  unfolding op_action takes change
  number_in ops.LoadFast n d = gives frame.slots (load_local w frame.locals n) (local_in library w sound frame.locals n fr.locals) fr.entries fr.slots
  number_in ops.LoadFastN n d = gives frame.slots (load_local w frame.locals n) (local_in library w sound frame.locals n fr.locals) fr.entries fr.slots
  number_in ops.StoreFast n d = store_fast n d frame.slots whole
  number_in ops.StoreFastN n d = store_fast_n n d frame.slots whole
  number_in ops.DeleteFast n d = does (IsPlain library) (load_local w frame.locals n) _ (local_in library w sound frame.locals n fr.locals) (λ v u c x. locals_land (without_local frame.locals n) frame.slots u c fr.entries fr.slots (each_set (IsLocal library w.heap) frame.locals n None fr.locals tt))
  number_in ops.BuildTuple n d =
      let t = taken n _ d in
      let vs = values n frame.slots in
      gives (drop n frame.slots) (on_heap w (making_tuple w.heap vs)) (on (making_tuple w.heap vs) (tuple_in library w.heap vs sound.heap (each_reverse (IsPlain library w.heap) (map value_in (take n frame.slots)) t.plain))) (drops n (op_action ops.BuildTuple n) refl (takes_many n) d) t.slots
  number_in ops.BuildList n d =
      let t = taken n _ d in
      let vs = values n frame.slots in
      gives (drop n frame.slots) (on_heap w (making_list w.heap vs)) (on (making_list w.heap vs) (list_in library w.heap vs sound.heap (each_reverse (IsPlain library w.heap) (map value_in (take n frame.slots)) t.plain))) (drops n (op_action ops.BuildList n) refl (takes_many n) d) t.slots
  number_in ops.BuildMap n d = gives frame.slots (on_heap w (making w.heap (DictObject [] (room_for n)))) (on (making w.heap (DictObject [] (room_for n))) (dict_in library w.heap (room_for n) sound.heap)) fr.entries fr.slots
  number_in ops.UnpackSequence n d = unpacks n d frame.slots whole
  number_in ops.MakeFunction n d = make_by frame.slots (machine.child library place paid frame frames w n) fr.entries fr.slots
  number_in ops.MakeFunctionDefargs n d = with_defaults n d frame.slots whole
  number_in ops.CallFunction n d =
      let wanted : all_wanted (values_on (arguments n) (wants.Value ∷ [])) s.stack ≡ true = subst (λ z. all_wanted z s.stack ≡ true) (values_more (arguments n) 1 []) (straight (values_on (arguments n + 1) []) _ d) in
      let c = called n (wants.Value ∷ []) wanted in
      function_by n (op_action ops.CallFunction n) refl (takes_many (arguments n + 1)) d c (operands n frame.slots).below refl c.slots
  number_in ops.CallMethod n d =
      let c = called n (wants.Method ∷ wants.Value ∷ []) (straight (values_on (arguments n) (wants.Method ∷ wants.Value ∷ [])) _ d) in
      looked_by n (op_action ops.CallMethod n) refl (takes_more (arguments n) (wants.Method ∷ wants.Value ∷ [])) d c (operands n frame.slots).below refl c.slots
  number_in _ n d = tt

  -- no operand
  -- ==========

  -- what lies below the slots that are taken
  straight_low : (ws : List Want) (gs : List Give) → D (Straight ws gs) → top_height frame.entries ≤ length frame.slots - length ws
  unfolding takes change
  straight_low ws gs d = (lows (Straight ws gs) refl d frame.slots whole).1

  abbrev L : Op → List Slot → State
  L op st = machine.plain_step library place paid frame frames w op st

  -- a value or the empty slot
  abbrev AnySlot : Slot → Type 0
  AnySlot (Value v) = IsPlain library w.heap v
  AnySlot Null = Unit {0}
  AnySlot (Object o) = ⊥
  AnySlot (Iter over place part) = ⊥
  AnySlot (KeptReturn v) = ⊥
  AnySlot (KeptJump target count it) = ⊥

  slot_of : (x : Slot) (t : flow.Slot) → ShowsIn facts x t → is_wanted wants.ValueOrNull t ≡ true → (rest : List Slot) → AreSlots library w.heap (x ∷ rest) → AnySlot x × AreSlots library w.heap rest
  slot_of x t h e = as_value_or_null (λ z. (rest : List Slot) → AreSlots library w.heap (z ∷ rest) → AnySlot z × AreSlots library w.heap rest) x t (λ v rest p. p) (λ rest p. (tt, p)) h e

  onto : (x : Slot) (rest : List Slot) → AnySlot x → AreSlots library w.heap rest → AreSlots library w.heap (x ∷ rest)
  onto (Value v) rest a p = (a, p)
  onto Null rest a p = p
  onto (Object o) rest a p = absurd a
  onto (Iter over place part) rest a p = absurd a
  onto (KeptReturn v) rest a p = absurd a
  onto (KeptJump target count it) rest a p = absurd a

  any_none : (x : Slot) → AnySlot x → no_jump x ≡ true
  any_none (Value v) a = refl
  any_none Null a = refl
  any_none (Object o) a = absurd a
  any_none (Iter over place part) a = absurd a
  any_none (KeptReturn v) a = absurd a
  any_none (KeptJump target count it) a = absurd a

  pop_top : D (Straight (wants.Top ∷ []) []) → K (L ops.PopTop frame.slots)
  pop_top d =
      top wants.Top [] (λ st ss. AreSlots library w.heap st → AreEntries library w.heap st frame.entries → top_height frame.entries ≤ length st - 1 → K (L ops.PopTop st)) refl
      (λ x t rest below h is r wr p q le. land (suc frame.position) up [] refl rest w here (entries_swap library w.heap [] (x ∷ []) rest frame.entries q (omega (arith, le)) refl) (some_slot library facts w.heap x t rest h p))
      frame.slots s.stack s.shows (straight (wants.Top ∷ []) [] d) fr.slots fr.entries (straight_low (wants.Top ∷ []) [] d)

  dup_top : (gs : List Give) → D (Straight (wants.Value ∷ []) gs) → K (L ops.DupTop frame.slots)
  dup_top gs d =
      one_value [] (λ st ss. AreSlots library w.heap st → AreEntries library w.heap st frame.entries → K (L ops.DupTop st))
      (λ v t rest below h r wr p q. land (suc frame.position) up (Value v ∷ []) refl (Value v ∷ rest) w here q (p.0, p)) frame.slots s.stack s.shows (straight (wants.Value ∷ []) gs d) fr.slots fr.entries

  dup_two : (gs : List Give) → D (Straight (wants.Value ∷ wants.Value ∷ []) gs) → K (L ops.DupTopTwo frame.slots)
  dup_two gs d =
      two_values [] (λ st ss. AreSlots library w.heap st → AreEntries library w.heap st frame.entries → K (L ops.DupTopTwo st))
      (λ u v t1 t2 rest below h1 h2 r wr p q. land (suc frame.position) up (Value u ∷ Value v ∷ []) refl (Value u ∷ Value v ∷ rest) w here q (p.0, ((p.1).0, p))) frame.slots s.stack s.shows (straight (wants.Value ∷ wants.Value ∷ []) gs d) fr.slots fr.entries

  rot_two : (gs : List Give) → D (Straight (wants.ValueOrNull ∷ wants.ValueOrNull ∷ []) gs) → K (L ops.RotTwo frame.slots)
  rot_two gs d =
      top wants.ValueOrNull (wants.ValueOrNull ∷ []) (λ st ss. AreSlots library w.heap st → AreEntries library w.heap st frame.entries → top_height frame.entries ≤ length st - 2 → K (L ops.RotTwo st)) refl
      (λ x t st ss h wt r wr. top wants.ValueOrNull [] (λ st2 ss2. AreSlots library w.heap (x ∷ st2) → AreEntries library w.heap (x ∷ st2) frame.entries → top_height frame.entries ≤ length (x ∷ st2) - 2 → K (L ops.RotTwo (x ∷ st2))) refl
      (λ y u rest below h2 wt2 r2 wr2 p q le.
      let a = slot_of x t h wt (y ∷ rest) p in
      let b = slot_of y u h2 wt2 rest (a.1) in
      land (suc frame.position) up (y ∷ x ∷ []) (and_from (no_jump y) (no_jump x && true) (any_none y (b.0)) (and_from (no_jump x) true (any_none x (a.0)) refl)) rest w here (entries_swap library w.heap [] (x ∷ y ∷ []) rest frame.entries q (omega (arith, le)) refl) (onto y (x ∷ rest) (b.0) (onto x rest (a.0) (b.1)))) st ss r wr)
      frame.slots s.stack s.shows (straight (wants.ValueOrNull ∷ wants.ValueOrNull ∷ []) gs d) fr.slots fr.entries (straight_low (wants.ValueOrNull ∷ wants.ValueOrNull ∷ []) gs d)

  rot_three : (gs : List Give) → D (Straight (wants.ValueOrNull ∷ wants.ValueOrNull ∷ wants.ValueOrNull ∷ []) gs) → K (L ops.RotThree frame.slots)
  rot_three gs d =
      let ws : List Want = wants.ValueOrNull ∷ wants.ValueOrNull ∷ wants.ValueOrNull ∷ [] in
      top wants.ValueOrNull (wants.ValueOrNull ∷ wants.ValueOrNull ∷ []) (λ st ss. AreSlots library w.heap st → AreEntries library w.heap st frame.entries → top_height frame.entries ≤ length st - 3 → K (L ops.RotThree st)) refl
      (λ x t st ss h wt r wr. top wants.ValueOrNull (wants.ValueOrNull ∷ []) (λ st2 ss2. AreSlots library w.heap (x ∷ st2) → AreEntries library w.heap (x ∷ st2) frame.entries → top_height frame.entries ≤ length (x ∷ st2) - 3 → K (L ops.RotThree (x ∷ st2))) refl
      (λ y u st2 ss2 h2 wt2 r2 wr2. top wants.ValueOrNull [] (λ st3 ss3. AreSlots library w.heap (x ∷ y ∷ st3) → AreEntries library w.heap (x ∷ y ∷ st3) frame.entries → top_height frame.entries ≤ length (x ∷ y ∷ st3) - 3 → K (L ops.RotThree (x ∷ y ∷ st3))) refl
      (λ z v rest below h3 wt3 r3 wr3 p q le.
      let a = slot_of x t h wt (y ∷ z ∷ rest) p in
      let b = slot_of y u h2 wt2 (z ∷ rest) (a.1) in
      let c = slot_of z v h3 wt3 rest (b.1) in
      land (suc frame.position) up (y ∷ z ∷ x ∷ []) (and_from (no_jump y) (no_jump z && (no_jump x && true)) (any_none y (b.0)) (and_from (no_jump z) (no_jump x && true) (any_none z (c.0)) (and_from (no_jump x) true (any_none x (a.0)) refl))) rest w here (entries_swap library w.heap [] (x ∷ y ∷ z ∷ []) rest frame.entries q (omega (arith, le)) refl) (onto y (z ∷ x ∷ rest) (b.0) (onto z (x ∷ rest) (c.0) (onto x rest (a.0) (c.1))))) st2 ss2 r2 wr2) st ss r wr)
      frame.slots s.stack s.shows (straight ws gs d) fr.slots fr.entries (straight_low ws gs d)

  -- the end of a finally
  -- ====================

  if_found : (b : Bool) (st : St) → Good F A (cond b st flow.Stuck) → (b ≡ true) × Good F A st
  if_found true st g = (refl, g)
  if_found false st g = absurd g.runs

  resumes : (cause : Slot) (t : flow.Slot) (rest : List Slot) (stack : Stack) (entries : List states.Entry) → ShowsIn facts cause t → ShowsAllIn facts rest stack → ((b : Bool) → Good F A (flow.resume t b frame.position (map flow_entry entries) stack))
      → AreSlots library w.heap (cause ∷ rest) → AreEntries library w.heap rest entries → AreHeld frame.position entries → LeadsHeld entries (Some cause) → K (resume cause rest entries frame frames w)
  resumes cause t rest stack entries nothing r g p q held lead = goes_in library (suc frame.position) rest entries frame frames w sound fr.names fr.locals fr.role (p.1) q (held_up frame.position entries held) fs
  resumes cause t rest stack entries (exception {x = x} is) r g p q held lead = throw_kept library x (record frame { slots = rest; entries = entries }) frames w sound (p.0) (record { names = fr.names; locals = fr.locals; role = fr.role }) (below_of library w.heap rest entries q) fs
  resumes cause t rest stack entries (kept_return {v = v}) r g p q held lead = leaves_in library v entries (record frame { slots = rest }) frames w sound (p.0) (record { names = fr.names; locals = fr.locals; role = fr.role }) (below_of library w.heap rest entries q) fs
  resumes cause t rest stack entries (kept_jump {target = target} {count = count} {iterator = it}) r g p q held lead = unwinds_in library facts F A frame frames w sound (own library w.heap frame fr) fs target it count entries rest stack r (g true) p q lead
  resumes cause t rest stack entries value r g p q held lead = absurd (g true).runs
  resumes cause t rest stack entries null r g p q held lead = absurd (g true).runs
  resumes cause t rest stack entries iterator1 r g p q held lead = absurd (g true).runs
  resumes cause t rest stack entries iterator2 r g p q held lead = absurd (g true).runs
  resumes cause t rest stack entries iterator3 r g p q held lead = absurd (g true).runs
  resumes cause t rest stack entries iterator4 r g p q held lead = absurd (g true).runs

  ends : (cause : Slot) (t : flow.Slot) (rest : List Slot) (stack : Stack) (entries : List states.Entry) → ShowsIn facts cause t → ShowsAllIn facts rest stack → ((b : Bool) → Good F A (flow.act EndFinally b frame.position (t ∷ stack) (map flow_entry entries)))
      → AreSlots library w.heap (cause ∷ rest) → AreEntries library w.heap (cause ∷ rest) entries → AreHeld frame.position entries → top_height entries ≡ length rest → K (machine.end_finally library place paid frame frames w cause rest entries)
  ends cause t rest stack [] h r g p q held low = tt
  ends cause t rest stack (e ∷ entries) h r g p q held low =
      let same : cut e.height (cause ∷ rest) ≡ rest = cut_more e.height (cause ∷ []) rest (omega (arith, low)) ∙ cut_all e.height rest (omega (arith, low)) in
      resumes cause t rest stack entries h r (λ b. (if_found e.active (flow.resume t b frame.position (map flow_entry entries) stack) (g b)).1) p
      (subst (λ z. AreEntries library w.heap z entries) same (q.2)) (held.1) (subst (LeadsHeld entries) (on_top e.height cause rest (sym low)) (q.4))

  end_by : (st : List Slot) (stack : Stack) (entries : List states.Entry) → ShowsAllIn facts st stack → entries ≡ frame.entries → ((b : Bool) → Good F A (flow.act EndFinally b frame.position stack (map flow_entry entries))) → AreSlots library w.heap st → AreEntries library w.heap st entries → AreHeld frame.position entries → top_height entries ≡ length st - 1 → K (L ops.EndFinally st)
  end_by st stack entries none e g p q held le = absurd (g true).runs
  end_by st stack entries (more {s = x} {t = t} {slots = rest} {stack = ss} sh r) e g p q held le = subst (λ z. K (machine.end_finally library place paid frame frames w x rest z)) e (ends x t rest ss entries sh r g p q held (omega (arith, le)))
  end_by st stack [] (bound is r) e g p q held le = absurd (g true).runs
  end_by st stack (x ∷ entries) (bound is r) e g p q held le = absurd (if_found x.active _ (g true)).1.runs
  end_by st stack [] (free r) e g p q held le = absurd (g true).runs
  end_by st stack (x ∷ entries) (free r) e g p q held le = absurd (if_found x.active _ (g true)).1.runs

  end_in : D EndFinally → K (L ops.EndFinally frame.slots)
  end_in d =
      let n = shows-length frame.slots s.stack s.shows in
      let f = floor_top frame.entries in
      let l = low_end F A m frame.position s.stack es s.planned d in
      end_by frame.slots s.stack frame.entries s.shows refl (λ b. act EndFinally b d) fr.slots fr.entries fr.held (omega (arith, n, f, l))

  -- raises
  again_by : (handled : List ℕ) → ThrowsKnown facts (raise_again place w handled) → IsThrown (raise_again place w handled)
  again_by [] known = thrown_is (fault_at place w NothingToRaise) (λ facts. fault_known facts place w NothingToRaise)
  again_by (x ∷ handled) known = known (own_covered w.heap.objects)

  plain_in : (op : Op) (st : List Slot) → D (op_action op 0) → st ≡ frame.slots → Here st → K (L op st)
  unfolding op_action takes change
  plain_in ops.LoadConstFalse st d is h = land (suc frame.position) up (Value (Truth false) ∷ []) refl st w here h.entries (tt, h.slots)
  plain_in ops.LoadConstTrue st d is h = land (suc frame.position) up (Value (Truth true) ∷ []) refl st w here h.entries (tt, h.slots)
  plain_in ops.LoadConstNone st d is h = land (suc frame.position) up (Value Nil ∷ []) refl st w here h.entries (tt, h.slots)
  plain_in ops.LoadNull st d is h = land (suc frame.position) up (Null ∷ []) refl st w here h.entries h.slots
  plain_in ops.LoadSubscr (Value i ∷ Value o ∷ st) d is h = gives st (on_heap w (get_item w.heap o i)) (on (get_item w.heap o i) (get_in library w.heap sound.heap o i ((h.slots.1).0) (h.slots.0))) (pops 2 (op_action ops.LoadSubscr 0) refl refl d (Value i ∷ Value o ∷ []) st refl h) ((h.slots.1).1)
  plain_in ops.StoreSubscr (Value i ∷ Value o ∷ Value v ∷ st) d is h = puts st (on_heap w (set_item w.heap o i v)) (on (set_item w.heap o i v) (set_in_item library w.heap sound.heap o i v ((h.slots.1).0) (h.slots.0) (((h.slots.1).1).0))) (pops 3 (op_action ops.StoreSubscr 0) refl refl d (Value i ∷ Value o ∷ Value v ∷ []) st refl h) (((h.slots.1).1).1)
  plain_in ops.StoreSubscr (Value i ∷ Value o ∷ Null ∷ st) d is h = puts st (on_heap w (delete_item w.heap o i)) (on (delete_item w.heap o i) (delete_in library w.heap sound.heap o i ((h.slots.1).0) (h.slots.0))) (pops 3 (op_action ops.StoreSubscr 0) refl refl d (Value i ∷ Value o ∷ Null ∷ []) st refl h) ((h.slots.1).1)
  plain_in ops.DupTop st d is h = subst (λ z. K (L ops.DupTop z)) (sym is) (dup_top _ d)
  plain_in ops.DupTopTwo st d is h = subst (λ z. K (L ops.DupTopTwo z)) (sym is) (dup_two _ d)
  plain_in ops.PopTop st d is h = subst (λ z. K (L ops.PopTop z)) (sym is) (pop_top d)
  plain_in ops.RotTwo st d is h = subst (λ z. K (L ops.RotTwo z)) (sym is) (rot_two _ d)
  plain_in ops.RotThree st d is h = subst (λ z. K (L ops.RotThree z)) (sym is) (rot_three _ d)
  plain_in ops.GetIterStack (Value v ∷ st) d is h =
      does (λ k u. (u ≡ v) × IsSome (items_in w.heap v)) (on_heap w (use_iter w.heap v)) _ (heap_in library (λ k u. (u ≡ v) × IsSome (items_in w.heap v)) w (use_iter w.heap v) sound (iter_in library w.heap sound.heap v (h.slots.0))) (λ over u c x.
      land (suc frame.position) up (iter_on over 0 []) refl st u c (pops 1 (op_action ops.GetIterStack 0) refl refl d (Value v ∷ []) st refl h)
      (subst (λ z. AreSlots library u.heap (iter_on z 0 st)) (sym (x.0)) (slots_on library w.heap u.heap c.onward (iter_on v 0 st) (iter_slots library w.heap v 0 st (h.slots.0) (x.1) (h.slots.1)))))
  plain_in ops.StoreMap (Value k ∷ Value v ∷ Value o ∷ st) d is h =
      let e = pops 3 (op_action ops.StoreMap 0) refl refl d (Value k ∷ Value v ∷ Value o ∷ []) st refl h in
      puts (Value o ∷ st) (store_pair w o k v) (pair_in library w sound o k v (((h.slots.1).1).0) (h.slots.0) ((h.slots.1).0)) (entries_swap library w.heap (Value o ∷ []) [] st frame.entries e (top_low library w.heap st frame.entries e) refl) ((h.slots.1).1)
  plain_in ops.ReturnValue (Value v ∷ st) d is h =
      leaves_in library v frame.entries (record frame { slots = st }) frames w sound (h.slots.0) (record { names = fr.names; locals = fr.locals; role = fr.role }) (below_of library w.heap st frame.entries (pops 1 (op_action ops.ReturnValue 0) refl refl d (Value v ∷ []) st refl h)) fs
  plain_in ops.RaiseObj (Value v ∷ st) d is h = fails (raise_value place w v) (value_fails library place at w v sound) (thrown_is (raise_value place w v) (λ facts. value_known facts place w v))
  plain_in ops.RaiseLast st d is h = fails (raise_again place w (kept_of frame.entries)) (again_fails library place at w (kept_of frame.entries) sound) (again_by (kept_of frame.entries) (again_known facts place w frame.entries s.kept))
  plain_in ops.EndFinally st d is h = subst (λ z. K (L ops.EndFinally z)) (sym is) (end_in d)
  plain_in _ st d is h = tt

  -- jumps
  -- =====

  abbrev J : Op → ℕ → List Slot → State
  J op to st = machine.jump_step library place paid frame frames w op to st

  -- the entries below a new one are held at its handler
  new_held : (to : ℕ) (last : Bool) → D (Setup to last) → AreHeld to frame.entries
  unfolding falls change
  new_held to last d = by (nat_eq to (suc frame.position)) refl first
    where
      q : ℕ
      q = suc frame.position

      new : FlowEntry
      new = record { handler = to; is_finally = last; active = false; height = length s.stack }

      first : cond (nat_eq to q) (nat_le to q) (nat_lt q to) ≡ true
      first = (and_parts (cond (nat_eq to q) (nat_le to q) (nat_lt q to)) (is_marked q (map (mark q) es)) (next_marks F A m frame.position s.stack es s.planned (Setup to last) d refl)).0

      raised : all_marked (cond (nat_le to q) (raise_ways (map (flow.remark q) es)) (way_in (flow.remark q new) (map (flow.remark q) es) ∷ [])) ≡ true
      raised = raise_marks F A m q s.stack (map (flow.remark q) (new ∷ es)) (act (Setup to last) true d)

      inner : (b : Bool) → nat_le to q ≡ b → b ≡ false → is_marked to (map (mark to) (map (flow.remark q) es)) ≡ true
      inner true e f = absurd (true≢false f)
      inner false e f =
          let way : all_marked (way_in (flow.remark q new) (map (flow.remark q) es) ∷ []) ≡ true = subst (λ z. all_marked (cond z (raise_ways (map (flow.remark q) es)) (way_in (flow.remark q new) (map (flow.remark q) es) ∷ [])) ≡ true) e raised in
          (and_parts _ (is_marked to (map (mark to) (map (flow.remark q) es))) (and_parts _ true way).0).1

      further : nat_lt q to ≡ true → AreHeld to frame.entries
      further lt =
          let less : suc q ≤ to = ltb-true q to lt in
          let off : nat_le to q ≡ false = not_le to q (omega (arith, less)) in
          let marks : is_marked to (map (mark to) (map flow_entry (map (states.remark q) frame.entries))) ≡ true = subst (λ z. is_marked to (map (mark to) z) ≡ true) (flow_remarked q frame.entries) (inner (nat_le to q) refl off) in
          held_back to q frame.entries (held_go q to (map (states.remark q) frame.entries) marks (all_marks q frame.entries) (held_marked q q frame.entries up))

      by : (b : Bool) → nat_eq to q ≡ b → cond b (nat_le to q) (nat_lt q to) ≡ true → AreHeld to frame.entries
      by true e f = subst (λ z. AreHeld z frame.entries) (sym (eqb-true to q e)) up
      by false e f = further f

  sets_up : (to : ℕ) (last : Bool) (st : List Slot) → D (Setup to last) → Here st → K (machine.set_up library place paid frame frames w to last st)
  sets_up to last st d h =
      let new : states.Entry = record { handler = to; is_finally = last; height = length st; active = false; kept = None } in
      goes_in library (suc frame.position) st (new ∷ frame.entries) frame frames w sound fr.names fr.locals fr.role h.slots (entries_new library w.heap new st frame.entries refl h.slots h.entries (new_held to last d)) (inl refl, up) fs

  pops_by : (to : ℕ) (st : List Slot) (entries : List states.Entry) → AreSlots library w.heap st → AreEntries library w.heap st entries → is_marked to (map (mark to) (rest_of (map flow_entry entries))) ≡ true → Each (IsMarked frame.position) entries → AreHeld frame.position entries → top_height entries ≡ length st
      → K (machine.pop_except library place paid frame frames w to st entries)
  pops_by to st [] p q mk k held low = tt
  pops_by to st (e ∷ entries) p q mk k held low =
      goes_in library to st entries frame frames w sound fr.names fr.locals fr.role p (subst (λ z. AreEntries library w.heap z entries) (cut_all e.height st (omega (arith, low))) (q.2)) (held_go frame.position to entries mk (k.1) (held.1)) fs

  pops_in : (to : ℕ) → D (PopExcept to) → K (J ops.PopExceptJump to frame.slots)
  unfolding target change
  pops_in to d =
      let n = shows-length frame.slots s.stack s.shows in
      let f = floor_top frame.entries in
      let l = low_pop F A m to frame.position s.stack es s.planned d in
      pops_by to frame.slots frame.entries fr.slots fr.entries (jump_marks F A m frame.position s.stack es s.planned (PopExcept to) to d refl) fr.marked fr.held (omega (arith, n, f, l))

  next_in : (b : Bool) (to : ℕ) (over : Val) (place_at : ℕ) (rest : List Slot) → IsPlain library w.heap over → IsSome (items_in w.heap over) → AreSlots library w.heap rest → AreEntries library w.heap rest frame.entries → AreHeld to frame.entries → K (machine.next_item library place paid frame frames w b to over place_at rest)
  next_in true to over place_at rest p some q e held =
      does (IsPlain library) (on_heap w (item_of w.heap over place_at)) _ (heap_in library (IsPlain library) w (item_of w.heap over place_at) sound (item_in library w.heap sound.heap over place_at p)) (λ v u c x.
      land (suc frame.position) up (Value v ∷ iter_on over (suc place_at) []) refl rest u c e (x, slots_on library w.heap u.heap c.onward (iter_on over (suc place_at) rest) (iter_slots library w.heap over (suc place_at) rest p some q)))
  next_in false to over place_at rest p some q e held = land to held [] refl rest w here e q

  for_in : (to : ℕ) (gs there : List Give) → D (Branch iterator gs there to) → K (J ops.ForIter to frame.slots)
  unfolding takes change target
  for_in to gs there d =
      let g = (branch_on F A (fine (plans frame.module_name frame.code) s.code) m iterator gs there to frame.position s.stack es s.planned d).0 in
      one_iterator (λ st ss. AreSlots library w.heap st → AreEntries library w.heap st frame.entries → top_height frame.entries ≤ length st - 4 → K (J ops.ForIter to st))
      (λ over place_at x y z rest below r p q le. next_in (nat_lt place_at (length_of w.heap over)) to over place_at rest ((p.0).0) ((p.0).1) (below_iterator library w.heap over place_at x y z rest p)
      (entries_swap library w.heap [] (Iter over place_at 3 ∷ x ∷ y ∷ z ∷ []) rest frame.entries q (omega (arith, le)) refl) (jump_held (Branch iterator gs there to) to d refl refl))
      frame.slots s.stack s.shows g fr.slots fr.entries ((lows (Branch iterator gs there to) refl d frame.slots whole).1)

  jump_in : (op : Op) (to : ℕ) (st : List Slot) → D (jump_action op to) → st ≡ frame.slots → Here st → K (J op to st)
  unfolding jump_action takes change target
  jump_in ops.Jump to st d is h = land to (jump_held (jump_action ops.Jump to) to d refl refl) [] refl st w here h.entries h.slots
  jump_in ops.PopJumpIfTrue to (Value v ∷ st) d is h = let e = pops 1 (jump_action ops.PopJumpIfTrue to) refl refl d (Value v ∷ []) st refl h in either (truth w.heap v) _ _ (land to (jump_held (jump_action ops.PopJumpIfTrue to) to d refl refl) [] refl st w here e (h.slots.1)) (land (suc frame.position) up [] refl st w here e (h.slots.1))
  jump_in ops.PopJumpIfFalse to (Value v ∷ st) d is h = let e = pops 1 (jump_action ops.PopJumpIfFalse to) refl refl d (Value v ∷ []) st refl h in either (truth w.heap v) _ _ (land (suc frame.position) up [] refl st w here e (h.slots.1)) (land to (jump_held (jump_action ops.PopJumpIfFalse to) to d refl refl) [] refl st w here e (h.slots.1))
  jump_in ops.JumpIfTrueOrPop to (Value v ∷ st) d is h = let e = pops 1 (jump_action ops.JumpIfTrueOrPop to) refl refl d (Value v ∷ []) st refl h in either (truth w.heap v) _ _ (land to (jump_held (jump_action ops.JumpIfTrueOrPop to) to d refl refl) [] refl (Value v ∷ st) w here h.entries h.slots) (land (suc frame.position) up [] refl st w here e (h.slots.1))
  jump_in ops.JumpIfFalseOrPop to (Value v ∷ st) d is h = let e = pops 1 (jump_action ops.JumpIfFalseOrPop to) refl refl d (Value v ∷ []) st refl h in either (truth w.heap v) _ _ (land (suc frame.position) up [] refl st w here e (h.slots.1)) (land to (jump_held (jump_action ops.JumpIfFalseOrPop to) to d refl refl) [] refl (Value v ∷ st) w here h.entries h.slots)
  jump_in ops.SetupExcept to st d is h = sets_up to false st d h
  jump_in ops.SetupFinally to st d is h = sets_up to true st d h
  jump_in ops.PopExceptJump to st d is h = subst (λ z. K (J ops.PopExceptJump to z)) (sym is) (pops_in to d)
  jump_in ops.ForIter to st d is h = subst (λ z. K (J ops.ForIter to z)) (sym is) (for_in to _ _ d)
  jump_in _ to st d is h = tt

  unwind_held : (to count : ℕ) (it : Bool) → D (Unwind to count it) → AreHeld to (drop count frame.entries)
  unfolding target change
  unwind_held to count it d =
      held_go frame.position to (drop count frame.entries)
      (subst (λ z. is_marked to (map (mark to) z) ≡ true) (drop-map flow_entry count frame.entries) (jump_marks F A m frame.position s.stack es s.planned (Unwind to count it) to d refl))
      (each_drop (IsMarked frame.position) count frame.entries fr.marked) (each_drop (IsHeld frame.position) count frame.entries fr.held)

  -- any instruction
  -- ===============

  one_by : (n : ℕ) (st : List Slot) (o : Option (PlainHeap → Val → Outcome Val)) → unary_at n ≡ o → D (instr_action (instrs.Unary n)) → Here st → K (machine.one_step library place paid frame frames w st o)
  unfolding instr_action takes change
  one_by n (Value v ∷ st) (Some op) e d h = gives st (on_heap w (op w.heap v)) (on (op w.heap v) (one_in library n op e w.heap sound.heap v (h.slots.0))) (pops 1 (instr_action (instrs.Unary n)) refl refl d (Value v ∷ []) st refl h) (h.slots.1)
  one_by n _ o e d h = tt

  two_by : (n : ℕ) (st : List Slot) (o : Option TwoValued) → operator_at n ≡ o → D (instr_action (instrs.Binary n)) → Here st → K (machine.two_step library place paid frame frames w st o)
  unfolding instr_action takes change
  two_by n (Value b ∷ Value a ∷ st) (Some op) e d h = gives st (on_heap w (op w.heap a b)) (on (op w.heap a b) (two_in library n op e w.heap sound.heap a b ((h.slots.1).0) (h.slots.0))) (pops 2 (instr_action (instrs.Binary n)) refl refl d (Value b ∷ Value a ∷ []) st refl h) ((h.slots.1).1)
  two_by n _ o e d h = tt

  instr_in : (instr : Instr) → D (instr_action instr) → K (machine.instr_step library place paid frame frames w instr frame.slots)
  unfolding instr_action
  instr_in (instrs.Plain op) d = plain_in op frame.slots d refl whole
  instr_in (instrs.Num op n) d = number_in op n d
  instr_in (instrs.Int z) d = land (suc frame.position) up (Value (Int z) ∷ []) refl frame.slots w here fr.entries (tt, fr.slots)
  instr_in (instrs.Unary n) d = one_by n frame.slots (unary_at n) refl d whole
  instr_in (instrs.Binary n) d = two_by n frame.slots (operator_at n) refl d whole
  instr_in _ d = tt

  pub instruction_in : (item : Item) → D (action_of item) → ((op : Op) (text : Name) → item ≡ Names op text → IsName library text) → ((v : Val) → item ≡ Loads v → IsConstant library v) → K (machine.item_step library place paid frame frames w item)
  instruction_in (Plain instr) d names loads = instr_in instr d
  instruction_in (Names op text) d names loads = name_in op text frame.slots d (names op text refl) whole
  instruction_in (Loads v) d names loads = land (suc frame.position) up (Value v ∷ []) refl frame.slots w here fr.entries (constant_plain library w.heap v (loads v refl), fr.slots)
  instruction_in (Jumps op to) d names loads = jump_in op to frame.slots d refl whole
  instruction_in (Unwinds to byte) d names loads = unwinds_in library facts F A frame frames w sound (own library w.heap frame fr) fs to (nat_le 128 byte) (byte % 128) frame.entries frame.slots s.stack s.shows (act (Unwind to (byte % 128) (nat_le 128 byte)) true d) fr.slots fr.entries (unwind_held to (byte % 128) (nat_le 128 byte) d)
