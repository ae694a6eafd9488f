-- What each instruction finds.
use Rattle.std.proofs.Common.{◌≡◌, ℕ, zero, suc, ◌+◌, ◌-◌, ◌%◌, ◌<◌, ◌≤◌, List, [], ◌∷◌, ◌++◌, map, drop, length, replicate, Bool, true, false, Some, refl, sym, ap, ◌∙◌, subst, arith, if◌then◌else◌}
use Rattle.std.specs.Prelude.{nat_le}
use Rattle.std.proofs.lemmas.Bool.{false≢true, leb-true, le-leb}
use Rattle.std.proofs.lemmas.List.{length-map}
use Rattle.bc_progress.specs.bc_ops.declared.form.Form.{Form}
use Rattle.bc_progress.specs.bc_ops.declared.form.Form.TheVariants as forms
use Rattle.bc_progress.specs.bc_ops.declared.instr.Op.{Op}
use Rattle.bc_progress.specs.bc_ops.declared.instr.Op.TheVariants as ops
use Rattle.bc_progress.specs.bc_ops.declared.instr.Instr.{Instr}
use Rattle.bc_progress.specs.bc_ops.declared.instr.Instr.TheVariants as instrs
use Rattle.bc_progress.specs.bc_ops.Table.{code_of, form_of, name_form, number_form, jump_form, plain_form, short_form}
use Rattle.bc_progress.specs.bc_ops.Code.{TakesNumber}
use Rattle.frame_exits.specs.bc_shapes.declared.kinds.Kind.TheVariants as kinds
use Rattle.frame_exits.specs.bc_shapes.declared.kinds.Want.{Want}
use Rattle.frame_exits.specs.bc_shapes.declared.kinds.Want.TheVariants as wants
use Rattle.frame_exits.specs.bc_shapes.declared.kinds.Give.{Give}
use Rattle.frame_exits.specs.bc_shapes.declared.kinds.Give.TheVariants.{New, Again}
use Rattle.frame_exits.specs.bc_shapes.declared.shape.Entry.{Entry as FlowEntry}
use Rattle.frame_exits.specs.bc_shapes.Shape.{takes, gives}
use Rattle.bc_progress.specs.bc_flow.Action.{Action, Straight, Branch, Setup, PopExcept, EndFinally, Unwind, Return, Raise, op_action, jump_action, instr_action, arguments, iterator}
use Rattle.bc_progress.specs.bc_flow.Edges.{change}
use Rattle.bc_progress.specs.bc_flow.Verified.{Assigned}
use Rattle.bc_progress.specs.bc_flow.Machine as flow
use Rattle.bc_progress.specs.bc_flow.Machine.{Stack, St, is_wanted, all_wanted}
use Rattle.bc_progress.proofs.bc_flow_lemmas.Going.{Here}
use Rattle.bc_progress.proofs.bc_flow_lemmas.Never.{end_height}
use Rattle.bc_progress.proofs.bc_flow_lemmas.Sound.{stands-length, Sound, CanUnwind}
use Rattle.bc_progress.specs.bc_machine.Library.{Item, Plain, Names, Loads, Jumps, Unwinds, Library}
use Rattle.bc_progress.specs.bc_machine.State as states
use Rattle.bc_progress.specs.bc_machine.State.{Slot, Value, Frame}
use Rattle.bc_progress.specs.Slots.{Shows, value, nothing, exception, null, kept_return, kept_jump, iterator1, iterator2, iterator3, iterator4, ShowsAll, none, more, bound, free, flow_entry}
use Rattle.bc_progress.specs.Plans.{action_of, IsKnown, IsChild, MakesChild, Plans, Follows}
use Rattle.bc_progress.specs.Fits.{Stands}
use Rattle.bc_progress.proofs.Flowing.{raise_on}
use Rattle.bc_progress.proofs.Frames.{verified}
use Rattle.bc_progress.proofs.Items.{fine}
use Rattle.bc_progress.proofs.Operators.{unary_is, operator_is}
use Rattle.bc_progress.proofs.Showing.{takes-length, shows-length}
use Rattle.bc_progress.proofs.Steps.{get_there, code_is_there}
use Rattle.vm_states.specs.OnTop as tops
use Rattle.vm_states.specs.OnTop.{OneValue, Values, Anything, IsCause, Ending, Except}
use Rattle.vm_states.specs.Finds.{HasRoom, HasEntryRoom, HasChild, FindsPlain, FindsNames, FindsNumber, FindsJump, FindsInstr, Finds}
use Rattle.vm_states.proofs.Flow.{F, A, es, G, Does, its_meets, act, straight, branch, room_at, straight_room, branch_room, here, asked, raising}
use Rattle.vm_states.proofs.Tops.{one, two, three, many, stored, two_operands, three_operands, defaults, looked, iterating, dropped}

-- forms of first bytes
abbrev pub is_plain : Form → Bool
is_plain (forms.Whole (instrs.Plain op)) = true
is_plain _ = false

abbrev pub is_name : Form → Bool
is_name (forms.Name op) = true
is_name _ = false

abbrev pub is_offset : Form → Bool
is_offset (forms.Offset op signed) = true
is_offset _ = false

abbrev has_number : Form → Bool
has_number (forms.Number op) = true
has_number (forms.Call op) = true
has_number (forms.Whole (instrs.Num op n)) = true
has_number _ = false

pub takes_none : (form : Form) (op : Op) (n : ℕ) → has_number form ≡ false → TakesNumber form op n → ⊥
takes_none (forms.Number o) op n e t = false≢true (sym e)
takes_none (forms.Call o) op n e t = false≢true (sym e)
takes_none (forms.Whole (instrs.Num o k)) op n e t = false≢true (sym e)
takes_none (forms.Whole (instrs.Plain o)) op n e t = cc t.0
takes_none (forms.Whole (instrs.Name o k)) op n e t = cc t.0
takes_none (forms.Whole (instrs.Int z)) op n e t = cc t.0
takes_none (forms.Whole (instrs.Jump o z wide)) op n e t = cc t.0
takes_none (forms.Whole (instrs.Unwind z wide byte)) op n e t = cc t.0
takes_none (forms.Whole (instrs.Unary o)) op n e t = cc t.0
takes_none (forms.Whole (instrs.Binary o)) op n e t = cc t.0
takes_none (forms.Name o) op n e t = t
takes_none forms.Signed op n e t = t
takes_none (forms.Offset o signed) op n e t = t
takes_none forms.Unwind op n e t = t
takes_none forms.Outside op n e t = t
takes_none forms.Unknown op n e t = t

-- a jump that goes on out of `count` entries has as many
unwinds_few : (a : Assigned) (keeps : List FlowEntry → Stack → Type 0) (to : ℕ) (it : Bool) (count : ℕ) (entries : List FlowEntry) (stack : Stack) → CanUnwind a keeps to it count entries stack → count ≤ length entries
unwinds_few a keeps to it zero entries stack u = omega arith
unwinds_few a keeps to it (suc count) [] stack u = absurd u
unwinds_few a keeps to it (suc count) (e ∷ entries) stack u = let h = unwinds_few a keeps to it count entries (flow.cut e.height stack) u.1 in omega (arith, h)

sound_few : (a : Assigned) (n to count : ℕ) (it : Bool) (e : FlowEntry) (entries : List FlowEntry) (stack : Stack) → length stack ≡ e.height → Sound a n (e ∷ entries) (flow.KeptJump to count it ∷ stack) → count ≤ length entries
sound_few a zero to count it e entries stack q w = absurd w
sound_few a (suc n) to count it e entries stack q w = unwinds_few a (Sound a n) to it count entries stack (w.0 [] (flow.KeptJump to count it) stack refl q)

gives-length : (n : ℕ) (gs : List Give) → length (gives n gs) ≡ n + length gs
gives-length zero gs = omega arith
gives-length (suc n) gs = let h = gives-length n gs in omega (arith, h)

module _ (plans : Plans) (library : Library) (follows : Follows plans library) (frame : Frame) (s : Stands plans library frame) where
  abbrev D : Action → Type 0
  D i = Does plans library follows frame s i

  abbrev Good : St → Type 0
  Good st = G plans library follows frame s st

  abbrev R : ℕ → ℕ → Type 0
  R taken put = HasRoom (plans frame.module_name frame.code) library s.code frame taken put

  wanted : (ws : List Want) (gs : List Give) → D (Straight ws gs) → all_wanted ws s.stack ≡ true
  wanted ws gs a = (straight plans library follows frame s ws gs a).0

  room : (ws : List Want) (gs : List Give) → D (Straight ws gs) → R (length ws) (length gs)
  room ws gs a = straight_room plans library follows frame s ws gs a

  on_top : {P : List Slot → Type 0} (ws : List Want) (gs : List Give) → ((slots : List Slot) (stack : Stack) → ShowsAll slots stack → all_wanted ws stack ≡ true → P slots) → D (Straight ws gs) → P frame.slots
  on_top ws gs k a = k frame.slots s.stack s.shows (wanted ws gs a)

  on_branch : {P : List Slot → Type 0} (ws : List Want) (gs there : List Give) (to : ℕ) → ((slots : List Slot) (stack : Stack) → ShowsAll slots stack → all_wanted ws stack ≡ true → P slots) → D (Branch ws gs there to) → P frame.slots
  on_branch ws gs there to k a = k frame.slots s.stack s.shows (branch plans library follows frame s ws gs there to a).0

  if_found : (b : Bool) (st : St) → Good (if b then st else flow.Stuck) → (b ≡ true) × Good st
  if_found true st g = (refl, g)
  if_found false st g = absurd g.runs

  if_not : (b : Bool) (st : St) → Good (if b then flow.Stuck else st) → b ≡ false
  if_not true st g = absurd g.runs
  if_not false st g = refl

  -- the end of a finally
  -- ====================

  few_left : (to count : ℕ) (it : Bool) (stack : Stack) (e : FlowEntry) (entries : List FlowEntry) → s.stack ≡ flow.KeptJump to count it ∷ stack → es plans library follows frame s ≡ e ∷ entries → D EndFinally → count ≤ length entries
  few_left to count it stack e entries same_stack same_entries a =
      let r = s.planned.runs in
      let code = F plans library follows frame s in
      let assigned = A plans library follows frame s in
      let first = here plans library follows frame s EndFinally a in
      let h : Here code assigned EndFinally frame.position r.at.slots (e ∷ entries) r.bound (flow.KeptJump to count it ∷ stack) =
      subst (λ z. Here code assigned EndFinally frame.position r.at.slots (e ∷ entries) r.bound z) same_stack
      (subst (λ z. Here code assigned EndFinally frame.position r.at.slots z r.bound s.stack) same_entries first) in
      let height = end_height code assigned frame.position r.at.slots e entries r.bound (flow.KeptJump to count it ∷ stack) h in
      let n = stands-length (flow.KeptJump to count it ∷ stack) r.at.slots h.stands in
      sound_few assigned r.bound to count it e entries stack (omega (arith, height, n)) h.sound

  cause_is : (x : Slot) (t : flow.Slot) (stack : Stack) (e : states.Entry) (others : List states.Entry) → Shows x t → t ∷ stack ≡ s.stack → e ∷ others ≡ frame.entries → D EndFinally
      → Good (flow.resume t true frame.position (map flow_entry others) stack) → IsCause (length others) x
  cause_is x t stack e others nothing p q a g = tops.nothing
  cause_is x t stack e others (exception {x = n} is) p q a g = tops.exception n
  cause_is x t stack e others (kept_return {v = v}) p q a g = tops.returned v
  cause_is x t stack e others (kept_jump {target = to} {count = count} {iterator = it}) p q a g =
      let few = few_left to count it stack (flow_entry e) (map flow_entry others) (sym p) (ap (map flow_entry) (sym q)) a in
      let n = length-map others flow_entry in
      tops.jump to count it (omega (arith, few, n))
  cause_is x t stack e others value p q a g = absurd g.runs
  cause_is x t stack e others null p q a g = absurd g.runs
  cause_is x t stack e others iterator1 p q a g = absurd g.runs
  cause_is x t stack e others iterator2 p q a g = absurd g.runs
  cause_is x t stack e others iterator3 p q a g = absurd g.runs
  cause_is x t stack e others iterator4 p q a g = absurd g.runs

  ending_by : (slots : List Slot) (stack : Stack) (entries : List states.Entry) → ShowsAll slots stack → stack ≡ s.stack → entries ≡ frame.entries → D EndFinally
      → Good (flow.act EndFinally true frame.position stack (map flow_entry entries)) → Ending slots entries
  ending_by slots stack entries none p q a g = absurd g.runs
  ending_by slots stack [] (more sh r) p q a g = absurd g.runs
  ending_by slots stack (e ∷ entries) (more {s = x} {t = t} {slots = rest} {stack = ss} sh r) p q a g =
      let f = if_found e.active (flow.resume t true frame.position (map flow_entry entries) ss) g in
      record {
        cause = x;
        below = rest;
        slots_are = refl;
        entry = e;
        others = entries;
        entries_are = refl;
        active = f.0;
        is = cause_is x t ss e entries sh p q a f.1;
      }
  ending_by slots stack [] (bound is r) p q a g = absurd g.runs
  ending_by slots stack (x ∷ entries) (bound is r) p q a g = absurd (if_found x.active flow.Stuck g).1.runs
  ending_by slots stack [] (free r) p q a g = absurd g.runs
  ending_by slots stack (x ∷ entries) (free r) p q a g = absurd (if_found x.active flow.Stuck g).1.runs

  ending : D EndFinally → Ending frame.slots frame.entries
  ending a = ending_by frame.slots s.stack frame.entries s.shows refl refl a (act plans library follows frame s EndFinally true a)

  -- returns and raises
  -- ==================

  returning_by : (slots : List Slot) (stack : Stack) → ShowsAll slots stack → Good (flow.act Return true frame.position stack (es plans library follows frame s)) → all_wanted (wants.Value ∷ []) stack ≡ true
  returning_by slots stack none g = absurd g.runs
  returning_by slots stack (more {t = t} {stack = ss} sh r) g =
      let f = if_found (is_wanted wants.Value t) (flow.leave (es plans library follows frame s) (t ∷ ss)) g in
      Rattle.std.proofs.lemmas.Bool.and_from (is_wanted wants.Value t) true f.0 refl
  returning_by slots stack (bound is r) g = absurd g.runs
  returning_by slots stack (free r) g = absurd g.runs

  returning : D Return → OneValue frame.slots
  returning a = one frame.slots s.stack s.shows (returning_by frame.slots s.stack s.shows (act plans library follows frame s Return true a))

  raises_one : D (Raise 1) → OneValue frame.slots
  raises_one a = one frame.slots s.stack s.shows (raise_on (F plans library follows frame s) (A plans library follows frame s) (fine (plans frame.module_name frame.code) s.code) (its_meets plans library follows frame s) 1 frame.position s.stack (es plans library follows frame s) s.planned a)

  -- no operand
  -- ==========

  plain_finds : (op : Op) → form_of (code_of op) ≡ forms.Whole (instrs.Plain op) → D (op_action op 0) → FindsPlain (plans frame.module_name frame.code) library s.code frame op
  unfolding op_action form_of name_form number_form jump_form plain_form short_form
  plain_finds ops.LoadConstFalse k a = room [] (New kinds.Value ∷ []) a
  plain_finds ops.LoadConstNone k a = room [] (New kinds.Either ∷ []) a
  plain_finds ops.LoadConstTrue k a = room [] (New kinds.Value ∷ []) a
  plain_finds ops.LoadNull k a = room [] (New kinds.Null ∷ []) a
  plain_finds ops.LoadSubscr k a = on_top (wants.Value ∷ wants.Value ∷ []) (New kinds.Value ∷ []) two a
  plain_finds ops.StoreSubscr k a = on_top (wants.Value ∷ wants.Value ∷ wants.ValueOrNull ∷ []) [] stored a
  plain_finds ops.DupTop k a = (on_top (wants.Value ∷ []) (Again 0 ∷ Again 0 ∷ []) one a, room (wants.Value ∷ []) (Again 0 ∷ Again 0 ∷ []) a)
  plain_finds ops.DupTopTwo k a =
      let gs : List Give = Again 0 ∷ Again 1 ∷ Again 0 ∷ Again 1 ∷ [] in
      (on_top (wants.Value ∷ wants.Value ∷ []) gs two a, room (wants.Value ∷ wants.Value ∷ []) gs a)
  plain_finds ops.PopTop k a = on_top (wants.Top ∷ []) [] dropped a
  plain_finds ops.RotTwo k a = on_top (wants.ValueOrNull ∷ wants.ValueOrNull ∷ []) (Again 1 ∷ Again 0 ∷ []) two_operands a
  plain_finds ops.RotThree k a = on_top (wants.ValueOrNull ∷ wants.ValueOrNull ∷ wants.ValueOrNull ∷ []) (Again 1 ∷ Again 2 ∷ Again 0 ∷ []) three_operands a
  plain_finds ops.EndFinally k a = ending a
  plain_finds ops.GetIterStack k a =
      let gs : List Give = New kinds.Iter4 ∷ New kinds.Iter3 ∷ New kinds.Iter2 ∷ New kinds.Iter1 ∷ [] in
      (on_top (wants.Value ∷ []) gs one a, room (wants.Value ∷ []) gs a)
  plain_finds ops.StoreMap k a = on_top (wants.Value ∷ wants.Value ∷ wants.Value ∷ []) (Again 2 ∷ []) three a
  plain_finds ops.ReturnValue k a = returning a
  plain_finds ops.RaiseLast k a = tt
  plain_finds ops.RaiseObj k a = raises_one a
  plain_finds op k a = absurd (false≢true (ap is_plain k))

  -- texts
  -- =====

  name_finds : (op : Op) → form_of (code_of op) ≡ forms.Name op → D (op_action op 0) → FindsNames (plans frame.module_name frame.code) library s.code frame op
  unfolding op_action form_of name_form number_form jump_form plain_form short_form
  name_finds ops.LoadConstString k a = room [] (New kinds.Value ∷ []) a
  name_finds ops.LoadName k a = room [] (New kinds.Value ∷ []) a
  name_finds ops.LoadGlobal k a = room [] (New kinds.Value ∷ []) a
  name_finds ops.StoreName k a = on_top (wants.Value ∷ []) [] one a
  name_finds ops.StoreGlobal k a = on_top (wants.Value ∷ []) [] one a
  name_finds ops.DeleteName k a = tt
  name_finds ops.DeleteGlobal k a = tt
  name_finds ops.LoadAttr k a = on_top (wants.Value ∷ []) (New kinds.Value ∷ []) one a
  name_finds ops.LoadMethod k a =
      let gs : List Give = New kinds.Method ∷ New kinds.Value ∷ [] in
      (on_top (wants.Value ∷ []) gs one a, room (wants.Value ∷ []) gs a)
  name_finds ops.StoreAttr k a = on_top (wants.Value ∷ wants.Value ∷ []) [] two a
  name_finds ops.ImportName k a = on_top (wants.Value ∷ wants.Value ∷ []) (New kinds.Value ∷ []) two a
  name_finds ops.ImportFrom k a =
      let gs : List Give = New kinds.Value ∷ Again 0 ∷ [] in
      (on_top (wants.Value ∷ []) gs one a, room (wants.Value ∷ []) gs a)
  name_finds op k a = absurd (false≢true (ap is_name k))

  -- numbers
  -- =======

  child_there : (n : ℕ) → IsChild (length (verified plans library follows frame.module_name frame.code s.code s.code_is).0.codes) s.code.children n → HasChild (plans frame.module_name frame.code) library s.code frame n
  child_there n h =
      let v = verified plans library follows frame.module_name frame.code s.code s.code_is in
      let c = get_there v.0.codes h.0 h.2 in
      record { number = h.0; number_is = h.1; child = c.0; child_is = code_is_there library frame.module_name v.0 h.0 v.1 ∙ c.1 }

  built : (n : ℕ) → D (Straight (takes n []) (New kinds.Value ∷ [])) → Values n Anything frame.slots × R n 1
  built n a =
      let r = room (takes n []) (New kinds.Value ∷ []) a in
      let k = takes-length n [] in
      (on_top (takes n []) (New kinds.Value ∷ []) (many n [] Anything (λ slots stack r e. tt)) a, omega (arith, r, k))

  function_on : (n : ℕ) → D (Straight (takes (n + 1) []) (New kinds.Value ∷ [])) → Values n OneValue frame.slots
  function_on n a = many n (wants.Value ∷ []) OneValue one frame.slots s.stack s.shows (subst (λ ws. all_wanted ws s.stack ≡ true) (one_more n) (wanted (takes (n + 1) []) (New kinds.Value ∷ []) a))
    where
      one_more : (n : ℕ) → takes (n + 1) [] ≡ takes n (wants.Value ∷ [])
      one_more zero = refl
      one_more (suc n) =
          let e : suc n + 1 ≡ suc (n + 1) = omega arith in
          ap (λ m. takes m []) e ∙ ap (λ (ws : List Want). wants.Value ∷ ws) (one_more n)

  unpacked_room : (n : ℕ) → D (Straight (wants.Value ∷ []) (gives n [])) → R 1 n
  unpacked_room n a =
      let r = room (wants.Value ∷ []) (gives n []) a in
      let k = gives-length n [] in
      omega (arith, r, k)

  abbrev pub M : ℕ
  M = length (verified plans library follows frame.module_name frame.code s.code s.code_is).0.codes

  number_finds : (op : Op) (n : ℕ) → IsKnown (Plain (instrs.Num op n)) → MakesChild M s.code.children (Plain (instrs.Num op n)) → D (op_action op n) → FindsNumber (plans frame.module_name frame.code) library s.code frame op n
  unfolding op_action form_of name_form number_form jump_form plain_form short_form
  number_finds ops.LoadFast n k m a = room [] (New kinds.Value ∷ []) a
  number_finds ops.LoadFastN n k m a = room [] (New kinds.Value ∷ []) a
  number_finds ops.StoreFast n k m a = on_top (wants.Value ∷ []) [] one a
  number_finds ops.StoreFastN n k m a = on_top (wants.Value ∷ []) [] one a
  number_finds ops.DeleteFast n k m a = tt
  number_finds ops.BuildTuple n k m a = built n a
  number_finds ops.BuildList n k m a = built n a
  number_finds ops.BuildMap n k m a = room [] (New kinds.Value ∷ []) a
  number_finds ops.UnpackSequence n k m a = (on_top (wants.Value ∷ []) (gives n []) one a, unpacked_room n a)
  number_finds ops.MakeFunction n k m a = (child_there n m, room [] (New kinds.Value ∷ []) a)
  number_finds ops.MakeFunctionDefargs n k m a = (child_there n m, on_top (wants.Null ∷ wants.Value ∷ []) (New kinds.Value ∷ []) defaults a)
  number_finds ops.CallFunction n k m a = function_on (arguments n) a
  number_finds ops.CallMethod n k m a = on_top (takes (arguments n) (wants.Method ∷ wants.Value ∷ [])) (New kinds.Value ∷ []) (many (arguments n) (wants.Method ∷ wants.Value ∷ []) tops.IsLooked looked) a
  number_finds ops.LoadConstObj n k m a = absurd k
  number_finds op n k m a = absurd (takes_none (form_of (code_of op)) op n refl k)

  -- jumps
  -- =====

  set_up : (to : ℕ) (last : Bool) → D (Setup to last) → HasEntryRoom (plans frame.module_name frame.code) library s.code frame to
  set_up to last a =
      let g = act plans library follows frame s (Setup to last) true a in
      let next = suc frame.position in
      let fresh : FlowEntry = record { handler = to; is_finally = last; active = false; height = length s.stack } in
      let after = map (flow.remark next) (fresh ∷ es plans library follows frame s) in
      let r = room_at plans library follows frame s next s.stack after g in
      let n = length-map (fresh ∷ es plans library follows frame s) (flow.remark next) in
      let m = length-map frame.entries flow_entry in
      record { entry = omega (arith, r.1, n, m); slot = λ lt. handler_room lt (raising plans library follows frame s next s.stack after g) }
    where
      handler_room : suc frame.position < to → Good (flow.throw (map (flow.remark (suc frame.position)) (record { handler = to; is_finally = last; active = false; height = length s.stack } ∷ es plans library follows frame s)) s.stack) → R 0 1
      handler_room lt g = by (nat_le to (suc frame.position)) refl g
        where
          below : List FlowEntry
          below = map (flow.remark (suc frame.position)) (es plans library follows frame s)

          by : (b : Bool) → nat_le to (suc frame.position) ≡ b
              → Good (if b then flow.throw (map (flow.remark (suc frame.position)) (es plans library follows frame s)) (flow.cut (length s.stack) s.stack) else flow.enter (record { handler = to; is_finally = last; active = b; height = length s.stack }) (map (flow.remark (suc frame.position)) (es plans library follows frame s)) flow.NoneOrException s.stack)
              → R 0 1
          by true e g = absurd (let le = leb-true to (suc frame.position) e in omega (arith, le, lt))
          by false e g =
              let r = (room_at plans library follows frame s to (flow.NoneOrException ∷ flow.cut (length s.stack) s.stack) _ g).0 in
              let n = shows-length frame.slots s.stack s.shows in
              let c = Rattle.std.proofs.Common.length-drop (length s.stack - length s.stack) s.stack in
              omega (arith, r, n, c)

  except_by : (to : ℕ) (entries : List states.Entry) → Good (flow.act (PopExcept to) true frame.position s.stack (map flow_entry entries)) → Except entries
  except_by to [] g = absurd g.runs
  except_by to (e ∷ entries) g = record { entry = e; others = entries; entries_are = refl; is_except = if_not e.is_finally (flow.go to s.stack (map flow_entry entries)) g }

  jump_finds : (op : Op) (to : ℕ) (signed : Bool) → form_of (code_of op) ≡ forms.Offset op signed → D (jump_action op to) → FindsJump (plans frame.module_name frame.code) library s.code frame op to
  unfolding jump_action form_of name_form number_form jump_form plain_form short_form
  jump_finds ops.Jump to b k a = tt
  jump_finds ops.PopJumpIfTrue to b k a = on_branch (wants.Value ∷ []) [] [] to one a
  jump_finds ops.PopJumpIfFalse to b k a = on_branch (wants.Value ∷ []) [] [] to one a
  jump_finds ops.JumpIfTrueOrPop to b k a = on_branch (wants.Value ∷ []) [] (Again 0 ∷ []) to one a
  jump_finds ops.JumpIfFalseOrPop to b k a = on_branch (wants.Value ∷ []) [] (Again 0 ∷ []) to one a
  jump_finds ops.SetupExcept to b k a = set_up to false a
  jump_finds ops.SetupFinally to b k a = set_up to true a
  jump_finds ops.PopExceptJump to b k a = except_by to frame.entries (act plans library follows frame s (PopExcept to) true a)
  jump_finds ops.ForIter to b k a =
      let gs : List Give = New kinds.Value ∷ Again 0 ∷ Again 1 ∷ Again 2 ∷ Again 3 ∷ [] in
      (on_branch iterator gs [] to iterating a, branch_room plans library follows frame s iterator gs [] to a)
  jump_finds op to b k a = absurd (false≢true (ap is_offset k))

  unwind_finds : (to byte : ℕ) → D (Unwind to (byte % 128) (nat_le 128 byte)) → byte % 128 ≤ length frame.entries
  unfolding change
  unwind_finds to byte a =
      let le = leb-true _ _ (asked plans library follows frame s (Unwind to (byte % 128) (nat_le 128 byte)) a) in
      let n = length-map frame.entries flow_entry in
      omega (arith, le, n)

  instr_finds : (instr : Instr) → IsKnown (Plain instr) → MakesChild M s.code.children (Plain instr) → D (instr_action instr) → FindsInstr (plans frame.module_name frame.code) library s.code frame instr
  unfolding instr_action
  instr_finds (instrs.Plain op) k m a = plain_finds op k a
  instr_finds (instrs.Name op n) k m a = k
  instr_finds (instrs.Num op n) k m a = number_finds op n k m a
  instr_finds (instrs.Int z) k m a = room [] (New kinds.Value ∷ []) a
  instr_finds (instrs.Jump op offset wide) k m a = k
  instr_finds (instrs.Unwind offset wide byte) k m a = k
  instr_finds (instrs.Unary n) k m a = let o = unary_is n k in (record { operator = o.0; is = o.1 }, on_top (wants.Value ∷ []) (New kinds.Value ∷ []) one a)
  instr_finds (instrs.Binary n) k m a = let o = operator_is n k.0 k.1 in (record { operator = o.0; is = o.1 }, on_top (wants.Value ∷ wants.Value ∷ []) (New kinds.Value ∷ []) two a)

  loads_finds : D (op_action ops.LoadConstObj 0) → R 0 1
  unfolding op_action
  loads_finds a = room [] (New kinds.Value ∷ []) a

  pub item_finds : (item : Item) → IsKnown item → MakesChild M s.code.children item → D (action_of item) → Finds (plans frame.module_name frame.code) library s.code frame item
  item_finds (Plain instr) k m a = instr_finds instr k m a
  item_finds (Names op name) k m a = name_finds op k a
  item_finds (Loads v) k m a = loads_finds a
  item_finds (Jumps op to) k m a = jump_finds op to k.0 k.1 a
  item_finds (Unwinds to byte) k m a = unwind_finds to byte a
