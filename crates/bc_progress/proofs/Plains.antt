-- Instructions without an operand, and jumps: each of a verified code goes on, raises or ends.
use Rattle.std.proofs.Common.{◌≡◌, ℕ, suc, ◌-◌, ◌%◌, ◌≤◌, List, [], ◌∷◌, map, drop, length, Bool, true, false, None, refl, sym, ap, subst, arith, if◌then◌else◌}
use Rattle.std.specs.Prelude.{nat_lt, nat_le}
use Rattle.std.proofs.lemmas.Bool.{false≢true}
use Rattle.std.proofs.lemmas.List.Elements.{All-cons, All-tail}
use Rattle.bc_machine.specs.mpy_base.Val.{Val, Nil, Truth, PlainWorld}
use Rattle.bc_machine.specs.bc_ops.declared.form.Form.{Form}
use Rattle.bc_machine.specs.bc_ops.declared.form.Form.TheVariants as forms
use Rattle.bc_machine.specs.bc_ops.declared.instr.Op.{Op}
use Rattle.bc_machine.specs.bc_ops.declared.instr.Op.TheVariants as ops
use Rattle.bc_machine.specs.bc_ops.declared.instr.Instr.TheVariants as instrs
use Rattle.bc_machine.specs.bc_ops.Table.{code_of, form_of, name_form, number_form, jump_form, plain_form, short_form}
use Rattle.bc_flow.specs.bc_shapes.declared.kinds.Kind.TheVariants as kinds
use Rattle.bc_flow.specs.bc_shapes.declared.kinds.Want.TheVariants as wants
use Rattle.bc_flow.specs.bc_shapes.declared.kinds.Give.{Give}
use Rattle.bc_flow.specs.bc_shapes.declared.kinds.Give.TheVariants.{New, Again}
use Rattle.bc_flow.specs.bc_shapes.declared.shape.Entry.{Entry as FlowEntry}
use Rattle.bc_flow.specs.Action.{Action, Setup, PopExcept, EndFinally, Unwind, Return, op_action, jump_action, iterator}
use Rattle.bc_flow.specs.Edges.{change, takes, floor}
use Rattle.bc_flow.specs.Machine as flow
use Rattle.bc_flow.specs.Machine.{Stack, St, is_wanted, all_wanted}
use Rattle.bc_flow.proofs.Never.{Good}
use Rattle.bc_flow.proofs.Runs.{fits_floor}
use Rattle.bc_flow.proofs.Sound.{Fits as Heights, cut_push}
use Rattle.bc_machine.specs.py_values.Shown.{truth}
use Rattle.bc_machine.specs.py_primitives.Iterables.{use_iter, item_of, length_of}
use Rattle.bc_machine.specs.py_primitives.Uses.{get_item, set_item, delete_item}
use Rattle.bc_machine.specs.py_effects.Effect.{on_heap, Place}
use Rattle.bc_machine.specs.py_effects.Names.{store_pair, raise_value, raise_again}
use Rattle.bc_machine.specs.Library.{Library}
use Rattle.bc_machine.specs.State as states
use Rattle.bc_machine.specs.State.{Slot, Value, Null, Iter, Frame, State, cut, resume, leave, abandoned, go}
use Rattle.bc_machine.specs.Parts.{iter_on}
use Rattle.bc_machine.specs.Operations.{kept_of}
use Rattle.bc_machine.specs.Step as machine
use Rattle.bc_progress.specs.Slots.{Facts, ShowsIn, value, nothing, exception, null, kept_return, kept_jump, iterator1, iterator2, iterator3, iterator4, ShowsAllIn, none, more, bound, free, KeepIn, flow_entry}
use Rattle.bc_progress.specs.Plans.{flow_of, Plans, Follows}
use Rattle.bc_progress.specs.Fits.{StandsIn, BelowIn}
use Rattle.bc_progress.proofs.Flowing.{jump_on, raise_on, low}
use Rattle.bc_progress.proofs.Showing.{shows-length, shows_cut, top, as_value, one_value, two_values, one_iterator, as_value_or_null}
use Rattle.bc_progress.proofs.Knowing.{K, FitsBehind, value_known, again_known}
use Rattle.bc_progress.proofs.Moves.{agree_all, lands, caught, returns, unwinds}
use Rattle.bc_progress.proofs.Items.{fine}
use Rattle.bc_progress.proofs.Frames.{out_fits, gives_fit}
use Rattle.bc_progress.proofs.Steps.{F, A, Does, Comes, its_meets, act, goes, nexts, fails, does, gives, puts, either, straight, branch, push, pop, pop_two, pop_branch}

abbrev is_plain : Form → Bool
is_plain (forms.Whole (instrs.Plain op)) = true
is_plain _ = false

abbrev is_offset : Form → Bool
is_offset (forms.Offset op signed) = true
is_offset _ = false

module _ (facts : Facts) (plans : Plans) (library : Library) (follows : Follows plans library) (place : Place) (paid : ℕ) (frame : Frame) (frames : List Frame) (w : PlainWorld) (s : StandsIn facts plans library frame) (below : BelowIn facts plans library frame.role frames) where
  abbrev D : Action → Type 0
  D i = Does facts plans library follows place paid frame frames w s below i

  abbrev P : State → Type 0
  P state = FitsBehind facts plans library state

  abbrev C : ℕ → Stack → Type 0
  C q stack = Comes facts plans library follows place paid frame frames w s below q stack

  abbrev G : St → Type 0
  G st = Good (flow_of (plans frame.module_name frame.code) s.code) (plans frame.module_name frame.code).assigned st

  abbrev es : List FlowEntry
  es = map flow_entry frame.entries

  abbrev L : Op → List Slot → State
  L op st = machine.plain_step library place paid frame frames w op st

  if_found : (b : Bool) (st : St) → G (if b then st else flow.Stuck) → (b ≡ true) × G st
  if_found true st g = (refl, g)
  if_found false st g = absurd g.runs

  -- a return
  -- ========

  value_returns : (v : Val) (t : flow.Slot) (rest : List Slot) (stack : Stack) → ShowsAllIn facts rest stack → G (flow.leave es (t ∷ stack)) → Heights es (suc (length stack)) → floor es ≤ length stack → P (L ops.ReturnValue (Value v ∷ rest))
  value_returns v t rest stack r g h f =
      returns facts plans library (record frame { slots = rest }) s.code s.code_is s.locals frames below v w (gives_fit facts plans library follows v frame.role frames below w) frame.entries (t ∷ stack) (length stack) s.kept
      (λ n le. subst (ShowsAllIn facts (cut n rest)) (sym (cut_push n t stack le)) (shows_cut n rest stack r))
      (fits_floor es (suc (length stack)) (length stack) h f) g

  return_by : (slots : List Slot) (stack : Stack) → ShowsAllIn facts slots stack → G (flow.act Return true frame.position stack es) → Heights es (length stack) → floor es ≤ length stack - 1 → P (L ops.ReturnValue slots)
  return_by slots stack none g h f = absurd g.runs
  return_by slots stack (more {s = x} {t = t} {slots = rest} {stack = ss} sh r) g h f =
      let q = if_found (is_wanted wants.Value t) (flow.leave es (t ∷ ss)) g in
      as_value (λ z. P (L ops.ReturnValue (z ∷ rest))) x t (λ v hv. value_returns v t rest ss r q.1 h (omega (arith, f))) sh q.0
  return_by slots stack (bound is r) g h f = absurd g.runs
  return_by slots stack (free r) g h f = absurd g.runs

  return_fits : D Return → P (L ops.ReturnValue frame.slots)
  unfolding change takes
  return_fits a =
      let l = low (F facts plans library follows place paid frame frames w s below) (A facts plans library follows place paid frame frames w s below) (fine (plans frame.module_name frame.code) s.code) (its_meets facts plans library follows place paid frame frames w s below) Return frame.position s.stack es refl s.planned a in
      return_by frame.slots s.stack s.shows (act facts plans library follows place paid frame frames w s below Return true a) s.planned.runs.fits l.1

  -- the end of a finally
  -- ====================

  resumes : (cause : Slot) (t : flow.Slot) (rest : List Slot) (stack : Stack) (entries : List states.Entry) (n : ℕ) → ShowsIn facts cause t → ShowsAllIn facts rest stack → KeepIn facts entries
      → ((b : Bool) → G (flow.resume t b frame.position (map flow_entry entries) stack)) → Heights (map flow_entry entries) n → P (resume cause rest entries frame frames w)
  resumes cause t rest stack entries n nothing r kept g h = λ covers. lands facts plans library frame s.code s.code_is s.locals frames below (suc frame.position) rest entries stack w r kept (g false)
  resumes cause t rest stack entries n (exception {x = x} is) r kept g h = λ covers.
      caught facts plans library (record frame { slots = rest; entries = entries }) s.code s.code_is s.locals frames below x is w _ (out_fits facts plans library follows x is frame.role frames below (abandoned frame.role w)) entries stack n kept
      (agree_all facts n rest stack r) h (g true)
  resumes cause t rest stack entries n (kept_return {v = v}) r kept g h =
      returns facts plans library (record frame { slots = rest }) s.code s.code_is s.locals frames below v w (gives_fit facts plans library follows v frame.role frames below w) entries stack n kept (agree_all facts n rest stack r) h (g true)
  resumes cause t rest stack entries n (kept_jump {target = target} {count = count} {iterator = it}) r kept g h = unwinds facts plans library frame s.code s.code_is s.locals frames below target it count entries rest stack w r kept (g true)
  resumes cause t rest stack entries n value r kept g h = absurd (g true).runs
  resumes cause t rest stack entries n null r kept g h = absurd (g true).runs
  resumes cause t rest stack entries n iterator1 r kept g h = absurd (g true).runs
  resumes cause t rest stack entries n iterator2 r kept g h = absurd (g true).runs
  resumes cause t rest stack entries n iterator3 r kept g h = absurd (g true).runs
  resumes cause t rest stack entries n iterator4 r kept g h = absurd (g true).runs

  ends : (cause : Slot) (t : flow.Slot) (rest : List Slot) (stack : Stack) (entries : List states.Entry) (n : ℕ) → ShowsIn facts cause t → ShowsAllIn facts rest stack → KeepIn facts entries
      → ((b : Bool) → G (flow.act EndFinally b frame.position (t ∷ stack) (map flow_entry entries))) → Heights (map flow_entry entries) n → P (machine.end_finally library place paid frame frames w cause rest entries)
  ends cause t rest stack [] n sh r kept g h = absurd (g true).runs
  ends cause t rest stack (e ∷ entries) n sh r kept g h = resumes cause t rest stack entries e.height sh r (All-tail (K facts) e entries kept) (λ b. (if_found e.active _ (g b)).1) h.1

  end_by : (slots : List Slot) (stack : Stack) (entries : List states.Entry) (n : ℕ) → ShowsAllIn facts slots stack → KeepIn facts entries → entries ≡ frame.entries → ((b : Bool) → G (flow.act EndFinally b frame.position stack (map flow_entry entries))) → Heights (map flow_entry entries) n → P (L ops.EndFinally slots)
  end_by slots stack entries n none kept e g h = absurd (g true).runs
  end_by slots stack entries n (more {s = x} {t = t} {slots = rest} {stack = ss} sh r) kept e g h = subst (λ z. P (machine.end_finally library place paid frame frames w x rest z)) e (ends x t rest ss entries n sh r kept g h)
  end_by slots stack [] n (bound is r) kept e g h = absurd (g true).runs
  end_by slots stack (x ∷ entries) n (bound is r) kept e g h = absurd (if_found x.active _ (g true)).1.runs
  end_by slots stack [] n (free r) kept e g h = absurd (g true).runs
  end_by slots stack (x ∷ entries) n (free r) kept e g h = absurd (if_found x.active _ (g true)).1.runs

  -- no operand
  -- ==========

  pub plain_fits : (op : Op) → form_of (code_of op) ≡ forms.Whole (instrs.Plain op) → D (op_action op 0) → P (L op frame.slots)
  unfolding op_action form_of name_form number_form jump_form plain_form short_form
  plain_fits ops.LoadConstFalse k a = push facts plans library follows place paid frame frames w s below (Truth false) a
  plain_fits ops.LoadConstTrue k a = push facts plans library follows place paid frame frames w s below (Truth true) a
  plain_fits ops.LoadConstNone k a = nexts facts plans library follows place paid frame frames w s below (Value Nil ∷ frame.slots) (flow.NoneOrException ∷ s.stack) w (more nothing s.shows) (straight facts plans library follows place paid frame frames w s below [] (New kinds.Either ∷ []) a).1
  plain_fits ops.LoadNull k a = nexts facts plans library follows place paid frame frames w s below (Null ∷ frame.slots) (flow.Null ∷ s.stack) w (more null s.shows) (straight facts plans library follows place paid frame frames w s below [] (New kinds.Null ∷ []) a).1
  plain_fits ops.LoadSubscr k a = pop_two facts plans library follows place paid frame frames w s below (New kinds.Value ∷ []) (L ops.LoadSubscr) a (λ i o t1 t2 rest stack h1 h2 r c. gives facts plans library follows place paid frame frames w s below rest stack (on_heap w (get_item w.heap o i)) r c)
  plain_fits ops.StoreSubscr k a =
      let g = straight facts plans library follows place paid frame frames w s below (wants.Value ∷ wants.Value ∷ wants.ValueOrNull ∷ []) [] a in
      two_values (wants.ValueOrNull ∷ []) (λ st ss. C (suc frame.position) (drop 3 ss) → P (L ops.StoreSubscr st))
      (λ i o t1 t2 st ss h1 h2 r wr. top wants.ValueOrNull [] (λ st3 ss3. C (suc frame.position) (drop 3 (t1 ∷ t2 ∷ ss3)) → P (L ops.StoreSubscr (Value i ∷ Value o ∷ st3))) refl
      (λ x t rest stack h wt r3 w3 c. as_value_or_null (λ z. P (L ops.StoreSubscr (Value i ∷ Value o ∷ z ∷ rest))) x t
      (λ v. puts facts plans library follows place paid frame frames w s below rest stack (on_heap w (set_item w.heap o i v)) r3 c)
      (puts facts plans library follows place paid frame frames w s below rest stack (on_heap w (delete_item w.heap o i)) r3 c) h wt) st ss r wr)
      frame.slots s.stack s.shows g.0 g.1
  plain_fits ops.DupTop k a = pop facts plans library follows place paid frame frames w s below (Again 0 ∷ Again 0 ∷ []) (L ops.DupTop) a (λ v t rest stack h r c. nexts facts plans library follows place paid frame frames w s below (Value v ∷ Value v ∷ rest) (t ∷ t ∷ stack) w (more h (more h r)) c)
  plain_fits ops.DupTopTwo k a = pop_two facts plans library follows place paid frame frames w s below (Again 0 ∷ Again 1 ∷ Again 0 ∷ Again 1 ∷ []) (L ops.DupTopTwo) a
      (λ u v t1 t2 rest stack h1 h2 r c. nexts facts plans library follows place paid frame frames w s below (Value u ∷ Value v ∷ Value u ∷ Value v ∷ rest) (t1 ∷ t2 ∷ t1 ∷ t2 ∷ stack) w (more h1 (more h2 (more h1 (more h2 r)))) c)
  plain_fits ops.PopTop k a =
      let g = straight facts plans library follows place paid frame frames w s below (wants.Top ∷ []) [] a in
      top wants.Top [] (λ st ss. C (suc frame.position) (drop 1 ss) → P (L ops.PopTop st)) refl (λ x t rest stack h wt r wr c. nexts facts plans library follows place paid frame frames w s below rest stack w r c) frame.slots s.stack s.shows g.0 g.1
  plain_fits ops.RotTwo k a =
      let g = straight facts plans library follows place paid frame frames w s below (wants.ValueOrNull ∷ wants.ValueOrNull ∷ []) (Again 1 ∷ Again 0 ∷ []) a in
      top wants.ValueOrNull (wants.ValueOrNull ∷ []) (λ st ss. C (suc frame.position) (flow.given (Again 1 ∷ Again 0 ∷ []) 2 ss) → P (L ops.RotTwo st)) refl
      (λ x t st ss h wt r wr. top wants.ValueOrNull [] (λ st2 ss2. C (suc frame.position) (flow.given (Again 1 ∷ Again 0 ∷ []) 2 (t ∷ ss2)) → P (L ops.RotTwo (x ∷ st2))) refl
      (λ y u rest stack h2 wt2 r2 wr2 c. nexts facts plans library follows place paid frame frames w s below (y ∷ x ∷ rest) (u ∷ t ∷ stack) w (more h2 (more h r2)) c) st ss r wr)
      frame.slots s.stack s.shows g.0 g.1
  plain_fits ops.RotThree k a =
      let gs : List Give = Again 1 ∷ Again 2 ∷ Again 0 ∷ [] in
      let g = straight facts plans library follows place paid frame frames w s below (wants.ValueOrNull ∷ wants.ValueOrNull ∷ wants.ValueOrNull ∷ []) gs a in
      top wants.ValueOrNull (wants.ValueOrNull ∷ wants.ValueOrNull ∷ []) (λ st ss. C (suc frame.position) (flow.given gs 3 ss) → P (L ops.RotThree st)) refl
      (λ x t st ss h wt r wr. top wants.ValueOrNull (wants.ValueOrNull ∷ []) (λ st2 ss2. C (suc frame.position) (flow.given gs 3 (t ∷ ss2)) → P (L ops.RotThree (x ∷ st2))) refl
      (λ y u st2 ss2 h2 wt2 r2 wr2. top wants.ValueOrNull [] (λ st3 ss3. C (suc frame.position) (flow.given gs 3 (t ∷ u ∷ ss3)) → P (L ops.RotThree (x ∷ y ∷ st3))) refl
      (λ z v rest stack h3 wt3 r3 wr3 c. nexts facts plans library follows place paid frame frames w s below (y ∷ z ∷ x ∷ rest) (u ∷ v ∷ t ∷ stack) w (more h2 (more h3 (more h r3))) c) st2 ss2 r2 wr2) st ss r wr)
      frame.slots s.stack s.shows g.0 g.1
  plain_fits ops.GetIterStack k a =
      pop facts plans library follows place paid frame frames w s below (New kinds.Iter4 ∷ New kinds.Iter3 ∷ New kinds.Iter2 ∷ New kinds.Iter1 ∷ []) (L ops.GetIterStack) a (λ v t rest stack h r c. does facts plans library follows place paid frame frames w s below (on_heap w (use_iter w.heap v)) _
      (λ over w1 e. nexts facts plans library follows place paid frame frames w s below (iter_on over 0 rest) (flow.Iter4 ∷ flow.Iter3 ∷ flow.Iter2 ∷ flow.Iter1 ∷ stack) w1 (more iterator4 (more iterator3 (more iterator2 (more iterator1 r)))) c))
  plain_fits ops.StoreMap k a =
      let gs : List Give = Again 2 ∷ [] in
      let g = straight facts plans library follows place paid frame frames w s below (wants.Value ∷ wants.Value ∷ wants.Value ∷ []) gs a in
      two_values (wants.Value ∷ []) (λ st ss. C (suc frame.position) (flow.given gs 3 ss) → P (L ops.StoreMap st))
      (λ key v t1 t2 st ss h1 h2 r wr. one_value [] (λ st3 ss3. C (suc frame.position) (flow.given gs 3 (t1 ∷ t2 ∷ ss3)) → P (L ops.StoreMap (Value key ∷ Value v ∷ st3)))
      (λ d t3 rest stack h3 r3 w3 c. puts facts plans library follows place paid frame frames w s below (Value d ∷ rest) (t3 ∷ stack) (store_pair w d key v) (more h3 r3) c) st ss r wr)
      frame.slots s.stack s.shows g.0 g.1
  plain_fits ops.ReturnValue k a = return_fits a
  plain_fits ops.RaiseObj k a =
      one_value [] (λ st ss. P (L ops.RaiseObj st)) (λ v t rest stack h r wr. fails facts plans library follows place paid frame frames w s below (raise_value place w v) (value_known facts place w v)) frame.slots s.stack s.shows
      (raise_on (F facts plans library follows place paid frame frames w s below) (A facts plans library follows place paid frame frames w s below) (fine (plans frame.module_name frame.code) s.code) (its_meets facts plans library follows place paid frame frames w s below) 1 frame.position s.stack es s.planned a)
  plain_fits ops.RaiseLast k a = fails facts plans library follows place paid frame frames w s below (raise_again place w (kept_of frame.entries)) (again_known facts place w frame.entries s.kept)
  plain_fits ops.EndFinally k a = end_by frame.slots s.stack frame.entries (length s.stack) s.shows s.kept refl (λ b. act facts plans library follows place paid frame frames w s below EndFinally b a) s.planned.runs.fits
  plain_fits op k a = absurd (false≢true (ap is_plain k))

  -- jumps
  -- =====

  abbrev J : Op → ℕ → List Slot → State
  J op to st = machine.jump_step library place paid frame frames w op to st

  sets_up : (to : ℕ) (last : Bool) → D (Setup to last) → P (machine.set_up library place paid frame frames w to last frame.slots)
  sets_up to last a =
      let n = shows-length frame.slots s.stack s.shows in
      let new : states.Entry = record { handler = to; is_finally = last; height = length frame.slots; active = false; kept = None } in
      λ covers. lands facts plans library frame s.code s.code_is s.locals frames below (suc frame.position) frame.slots (new ∷ frame.entries) s.stack w s.shows (All-cons (K facts) new frame.entries tt s.kept)
      (subst (λ (z : ℕ). G (flow.go (suc frame.position) s.stack (record { handler = to; is_finally = last; active = false; height = z } ∷ es))) (sym n) (act facts plans library follows place paid frame frames w s below (Setup to last) true a))

  pops_by : (to : ℕ) (entries : List states.Entry) → KeepIn facts entries → G (flow.act (PopExcept to) true frame.position s.stack (map flow_entry entries)) → P (machine.pop_except library place paid frame frames w to frame.slots entries)
  pops_by to [] kept g = absurd g.runs
  pops_by to (e ∷ entries) kept g = by e.is_finally g
    where
      by : (b : Bool) → G (if b then flow.Stuck else flow.go to s.stack (map flow_entry entries)) → P (go to frame.slots entries frame frames w)
      by true g = absurd g.runs
      by false g = λ covers. lands facts plans library frame s.code s.code_is s.locals frames below to frame.slots entries s.stack w s.shows (All-tail (K facts) e entries kept) g

  items_fit : (b : Bool) (to : ℕ) (over : Val) (at : ℕ) (rest : List Slot) (stack : Stack) → ShowsAllIn facts rest stack → C (suc frame.position) (flow.Value ∷ flow.Iter4 ∷ flow.Iter3 ∷ flow.Iter2 ∷ flow.Iter1 ∷ stack) → C to stack
      → P (machine.next_item library place paid frame frames w b to over at rest)
  items_fit true to over at rest stack r c d = does facts plans library follows place paid frame frames w s below (on_heap w (item_of w.heap over at)) _ (λ v w1 e.
      nexts facts plans library follows place paid frame frames w s below (Value v ∷ iter_on over (suc at) rest) (flow.Value ∷ flow.Iter4 ∷ flow.Iter3 ∷ flow.Iter2 ∷ flow.Iter1 ∷ stack) w1 (more value (more iterator4 (more iterator3 (more iterator2 (more iterator1 r))))) c)
  items_fit false to over at rest stack r c d = goes facts plans library follows place paid frame frames w s below to rest stack w r d

  pub jump_fits : (op : Op) (to : ℕ) (signed : Bool) → form_of (code_of op) ≡ forms.Offset op signed → D (jump_action op to) → P (J op to frame.slots)
  unfolding jump_action form_of name_form number_form jump_form plain_form short_form
  jump_fits ops.Jump to b k a = goes facts plans library follows place paid frame frames w s below to frame.slots s.stack w s.shows (jump_on (F facts plans library follows place paid frame frames w s below) (A facts plans library follows place paid frame frames w s below) (fine (plans frame.module_name frame.code) s.code) (its_meets facts plans library follows place paid frame frames w s below) to frame.position s.stack es s.planned a)
  jump_fits ops.PopJumpIfTrue to b k a = pop_branch facts plans library follows place paid frame frames w s below [] [] to (J ops.PopJumpIfTrue to) a (λ v t rest stack h r c d. either facts plans library follows place paid frame frames w s below (truth w.heap v) _ _ (goes facts plans library follows place paid frame frames w s below to rest stack w r d) (nexts facts plans library follows place paid frame frames w s below rest stack w r c))
  jump_fits ops.PopJumpIfFalse to b k a = pop_branch facts plans library follows place paid frame frames w s below [] [] to (J ops.PopJumpIfFalse to) a (λ v t rest stack h r c d. either facts plans library follows place paid frame frames w s below (truth w.heap v) _ _ (nexts facts plans library follows place paid frame frames w s below rest stack w r c) (goes facts plans library follows place paid frame frames w s below to rest stack w r d))
  jump_fits ops.JumpIfTrueOrPop to b k a = pop_branch facts plans library follows place paid frame frames w s below [] (Again 0 ∷ []) to (J ops.JumpIfTrueOrPop to) a
      (λ v t rest stack h r c d. either facts plans library follows place paid frame frames w s below (truth w.heap v) _ _ (goes facts plans library follows place paid frame frames w s below to (Value v ∷ rest) (t ∷ stack) w (more h r) d) (nexts facts plans library follows place paid frame frames w s below rest stack w r c))
  jump_fits ops.JumpIfFalseOrPop to b k a = pop_branch facts plans library follows place paid frame frames w s below [] (Again 0 ∷ []) to (J ops.JumpIfFalseOrPop to) a
      (λ v t rest stack h r c d. either facts plans library follows place paid frame frames w s below (truth w.heap v) _ _ (nexts facts plans library follows place paid frame frames w s below rest stack w r c) (goes facts plans library follows place paid frame frames w s below to (Value v ∷ rest) (t ∷ stack) w (more h r) d))
  jump_fits ops.SetupExcept to b k a = sets_up to false a
  jump_fits ops.SetupFinally to b k a = sets_up to true a
  jump_fits ops.PopExceptJump to b k a = pops_by to frame.entries s.kept (act facts plans library follows place paid frame frames w s below (PopExcept to) true a)
  jump_fits ops.ForIter to b k a =
      let gs : List Give = New kinds.Value ∷ Again 0 ∷ Again 1 ∷ Again 2 ∷ Again 3 ∷ [] in
      let g = branch facts plans library follows place paid frame frames w s below iterator gs [] to a in
      one_iterator (λ st ss. C (suc frame.position) (flow.given gs 4 ss) → C to (drop 4 ss) → P (J ops.ForIter to st))
      (λ over at y3 y2 y1 rest stack r c d. items_fit (nat_lt at (length_of w.heap over)) to over at rest stack r c d)
      frame.slots s.stack s.shows g.0 g.1 g.2
  jump_fits op to b k a = absurd (false≢true (ap is_offset k))

  pub unwind_fits : (to byte : ℕ) → D (Unwind to (byte % 128) (nat_le 128 byte)) → P (states.unwind to (nat_le 128 byte) (byte % 128) frame.entries frame.slots frame frames w)
  unwind_fits to byte a = unwinds facts plans library frame s.code s.code_is s.locals frames below to (nat_le 128 byte) (byte % 128) frame.entries frame.slots s.stack w s.shows s.kept (act facts plans library follows place paid frame frames w s below (Unwind to (byte % 128) (nat_le 128 byte)) true a)
