-- Each instruction of a verified code goes on, raises or ends.
use Rattle.std.proofs.Common.{◌≡◌, ℕ, suc, ◌+◌, ◌*◌, ◌/◌, ◌%◌, List, [], ◌∷◌, ◌++◌, map, drop, length, Bool, true, false, Option, Some, None, refl, sym, ap, ◌∙◌, subst, arith}
use Rattle.std.specs.Prelude.{slice_get}
use Rattle.std.proofs.lemmas.Bool.{false≢true}
use Rattle.std.proofs.lemmas.List.{drop-drop}
use Rattle.bc_machine.specs.mpy_base.Val.{Val, Nil, Str, PlainWorld}
use Rattle.bc_machine.specs.mpy_base.World.{DictObject}
use Rattle.bc_machine.specs.mpy_base.Weights.{room_for}
use Rattle.bc_machine.specs.bc_ops.declared.form.Form.{Form}
use Rattle.bc_machine.specs.bc_ops.declared.form.Form.TheVariants as forms
use Rattle.bc_machine.specs.bc_ops.declared.instr.Op.{Op}
use Rattle.bc_machine.specs.bc_ops.declared.instr.Op.TheVariants as ops
use Rattle.bc_machine.specs.bc_ops.declared.instr.Instr.TheVariants as instrs
use Rattle.bc_machine.specs.bc_ops.Table.{code_of, form_of, name_form, number_form, jump_form, plain_form, short_form}
use Rattle.bc_machine.specs.bc_ops.Code.{TakesNumber}
use Rattle.bc_flow.specs.bc_shapes.declared.kinds.Kind.TheVariants as kinds
use Rattle.bc_flow.specs.bc_shapes.declared.kinds.Want.{Want}
use Rattle.bc_flow.specs.bc_shapes.declared.kinds.Want.TheVariants as wants
use Rattle.bc_flow.specs.bc_shapes.declared.kinds.Give.{Give}
use Rattle.bc_flow.specs.bc_shapes.declared.kinds.Give.TheVariants.{New, Again}
use Rattle.bc_flow.specs.bc_shapes.Shape.{takes, gives as gives_values}
use Rattle.bc_flow.specs.Action.{Action, Straight, op_action, arguments}
use Rattle.bc_flow.specs.Machine as flow
use Rattle.bc_flow.specs.Machine.{Stack, give_slot}
use Rattle.bc_machine.specs.py_values.Shown.{shown}
use Rattle.bc_machine.specs.py_primitives.Faults.{TooDeep, NoModule, IncompatibleFile, RelativeImport, BadDefaults}
use Rattle.bc_machine.specs.py_primitives.Outcome.{making, making_tuple, making_list}
use Rattle.bc_machine.specs.py_primitives.Uses.{Attribute, Found, Method, Absent, attribute, no_attribute, get_attr, set_attr, unpack}
use Rattle.bc_machine.specs.py_effects.Effect.{on_heap, Place, Given, Gives, Throws, Fills, given}
use Rattle.bc_machine.specs.py_effects.Names.{Looked, Bound, Free, looked_up, load_global, store_global, delete_global, load_local, with_local, without_local, load_method, import_from}
use Rattle.bc_machine.specs.py_effects.Calling.{callee_of, call_method}
use Rattle.bc_machine.specs.py_effects.Modules.{Made, make_function, has_items, make_module, prefixes, module_named}
use Rattle.bc_machine.specs.Library.{Name, Plain, Code, Module, Holds, Refused, Entry, Library, entry_in, code_at}
use Rattle.bc_machine.specs.State.{Slot, Value, Null, Imported, Frame, State}
use Rattle.bc_machine.specs.Parts.{has_depth, looked_on, is_zero, first_absent}
use Rattle.bc_machine.specs.Operations.{values, operands}
use Rattle.bc_machine.specs.Step as machine
use Rattle.bc_progress.specs.Slots.{Facts, value, ShowsAllIn, more, bound, free}
use Rattle.bc_progress.specs.Known.{HasMethod}
use Rattle.bc_progress.specs.Plans.{IsKnown, IsChild, MakesChild, Plans, Follows}
use Rattle.bc_progress.specs.Fits.{StandsIn, BelowIn}
use Rattle.bc_progress.proofs.Showing.{shows_drop, top, one_value, one_method, as_null, takes-length, wanted_drop, wanted_more, values_show}
use Rattle.bc_progress.proofs.Knowing.{FitsBehind, method_found}
use Rattle.bc_progress.proofs.Frames.{verified}
use Rattle.bc_progress.proofs.Binding.{length-slice_set, answer_is, unpack_count}
use Rattle.bc_progress.proofs.Steps.{get_there, code_is_there, new_stands, Does, Comes, stores, nexts, faults, does, gives, puts, either, straight, push, pushes, pop, pop_two, Calls, runs}

-- a method that was found is one of its object's type
abbrev IsLookedUp : Looked → PlainWorld → Type 0
IsLookedUp (Bound method object) w = HasMethod w.heap.objects object method
IsLookedUp (Free v) w = Unit {0}

abbrev OfGiven : Given Looked → Type 0
OfGiven (Gives looked w) = IsLookedUp looked w
OfGiven (Throws x w) = Unit {0}
OfGiven (Fills e w) = Unit {0}

-- forms of first bytes
abbrev is_name : Form → Bool
is_name (forms.Name op) = true
is_name _ = false

abbrev has_number : Form → Bool
has_number (forms.Number op) = true
has_number (forms.Call op) = true
has_number (forms.Whole (instrs.Num op n)) = true
has_number _ = false

takes_none : (form : Form) (op : Op) (n : ℕ) → has_number form ≡ false → TakesNumber form op n → ⊥
takes_none (forms.Number o) op n e t = false≢true (sym e)
takes_none (forms.Call o) op n e t = false≢true (sym e)
takes_none (forms.Whole (instrs.Num o k)) op n e t = false≢true (sym e)
takes_none (forms.Whole (instrs.Plain o)) op n e t = cc t.0
takes_none (forms.Whole (instrs.Name o k)) op n e t = cc t.0
takes_none (forms.Whole (instrs.Int z)) op n e t = cc t.0
takes_none (forms.Whole (instrs.Jump o z wide)) op n e t = cc t.0
takes_none (forms.Whole (instrs.Unwind z wide byte)) op n e t = cc t.0
takes_none (forms.Whole (instrs.Unary o)) op n e t = cc t.0
takes_none (forms.Whole (instrs.Binary o)) op n e t = cc t.0
takes_none (forms.Name o) op n e t = t
takes_none forms.Signed op n e t = t
takes_none (forms.Offset o signed) op n e t = t
takes_none forms.Unwind op n e t = t
takes_none forms.Outside op n e t = t
takes_none forms.Unknown op n e t = t

module _ (facts : Facts) (plans : Plans) (library : Library) (follows : Follows plans library) (place : Place) (paid : ℕ) (frame : Frame) (frames : List Frame) (w : PlainWorld) (s : StandsIn facts plans library frame) (below : BelowIn facts plans library frame.role frames) where
  abbrev D : Action → Type 0
  D i = Does facts plans library follows place paid frame frames w s below i

  abbrev P : State → Type 0
  P state = FitsBehind facts plans library state

  abbrev C : ℕ → Stack → Type 0
  C q stack = Comes facts plans library follows place paid frame frames w s below q stack

  -- imports
  -- =======

  begun_fits : (name : Name) (m : Module) (e : entry_in library name ≡ Some (Holds m)) (made : Made) (w1 : PlainWorld) → P (machine.begun library place paid frame frames w name (slice_get m.codes 0) made w1)
  begun_fits name m e made w1 =
      let c = get_there m.codes 0 (follows name m e).begins in
      subst (λ o. P (machine.begun library place paid frame frames w name o made w1)) (sym c.1)
      (λ covers. (new_stands facts plans library follows name 0 c.0 [] made.names (Imported name made.number) (code_is_there library name m 0 e ∙ c.1) (omega arith), (s, below)))

  begin_fits : (name : Name) (o : Option Entry) (deep : Bool) → entry_in library name ≡ o → P (machine.begin library place paid frame frames w name o deep)
  begin_fits name None deep e = faults facts plans library follows place paid frame frames w s below w (NoModule name)
  begin_fits name (Some Refused) deep e = faults facts plans library follows place paid frame frames w s below w IncompatibleFile
  begin_fits name (Some (Holds m)) true e = does facts plans library follows place paid frame frames w s below (make_module w name) _ (λ made w1 q. begun_fits name m e made w1)
  begin_fits name (Some (Holds m)) false e = faults facts plans library follows place paid frame frames w s below w TooDeep

  absent_fits : (names : Val) (ps : List Name) (rest : List Slot) (stack : Stack) (o : Option Name) → ShowsAllIn facts rest stack → C (suc frame.position) (flow.Value ∷ stack) → P (machine.import_absent library place paid frame frames w names ps rest o)
  absent_fits names ps rest stack (Some name) r c = begin_fits name (entry_in library name) (has_depth frames) refl
  absent_fits names ps rest stack None r c = nexts facts plans library follows place paid frame frames w s below (Value (module_named w _) ∷ rest) (flow.Value ∷ stack) w (more value r) c

  -- instructions that name a text
  -- =============================

  abbrev N : Op → Name → List Slot → State
  N op name st = machine.name_step library place paid frame frames w op name st

  -- a method that a look-up finds is one of its object's type
  looked_is : (o : Val) (name : Name) (found : Attribute) (looked : Looked) (w1 : PlainWorld) → attribute w.heap o name ≡ found → given place (looked_up w o name found) ≡ Gives looked w1 → IsLookedUp looked w1
  looked_is o name (Found v) looked w1 is e = subst (λ (g : Given Looked). OfGiven g) e tt
  looked_is o name (Method method) looked w1 is e = subst (λ (g : Given Looked). OfGiven g) e (method_found w.heap o name method is)
  looked_is o name Absent looked w1 is e = absurd (cc (answer_is place _ w1 (on_heap w (no_attribute {A = Looked} w.heap o name)).answer looked e))

  looked_fits : (looked : Looked) (rest : List Slot) (stack : Stack) (w1 : PlainWorld) → IsLookedUp looked w1 → ShowsAllIn facts rest stack → C (suc frame.position) (flow.Method ∷ flow.Value ∷ stack) → P (machine.next library place paid frame frames w (looked_on looked rest) w1)
  looked_fits (Bound method object) rest stack w1 is r c = λ covers.
      nexts facts plans library follows place paid frame frames w s below _ (flow.Method ∷ flow.Value ∷ stack) w1 (bound (covers.method object method is) r) c covers
  looked_fits (Free v) rest stack w1 is r c = nexts facts plans library follows place paid frame frames w s below _ (flow.Method ∷ flow.Value ∷ stack) w1 (free r) c

  pub name_fits : (op : Op) (name : Name) → form_of (code_of op) ≡ forms.Name op → D (op_action op 0) → P (N op name frame.slots)
  unfolding op_action form_of name_form number_form jump_form plain_form short_form
  name_fits ops.LoadConstString name k a = push facts plans library follows place paid frame frames w s below (Str name) a
  name_fits ops.LoadName name k a = pushes facts plans library follows place paid frame frames w s below (load_global w frame.names name) a
  name_fits ops.LoadGlobal name k a = pushes facts plans library follows place paid frame frames w s below (load_global w frame.names name) a
  name_fits ops.StoreName name k a = pop facts plans library follows place paid frame frames w s below [] (N ops.StoreName name) a (λ v t rest stack h r c. puts facts plans library follows place paid frame frames w s below rest stack (store_global w frame.names name v) r c)
  name_fits ops.StoreGlobal name k a = pop facts plans library follows place paid frame frames w s below [] (N ops.StoreGlobal name) a (λ v t rest stack h r c. puts facts plans library follows place paid frame frames w s below rest stack (store_global w frame.names name v) r c)
  name_fits ops.DeleteName name k a = puts facts plans library follows place paid frame frames w s below frame.slots s.stack (delete_global w frame.names name) s.shows (straight facts plans library follows place paid frame frames w s below [] [] a).1
  name_fits ops.DeleteGlobal name k a = puts facts plans library follows place paid frame frames w s below frame.slots s.stack (delete_global w frame.names name) s.shows (straight facts plans library follows place paid frame frames w s below [] [] a).1
  name_fits ops.LoadAttr name k a = pop facts plans library follows place paid frame frames w s below (New kinds.Value ∷ []) (N ops.LoadAttr name) a (λ o t rest stack h r c. gives facts plans library follows place paid frame frames w s below rest stack (on_heap w (get_attr w.heap o name)) r c)
  name_fits ops.LoadMethod name k a = pop facts plans library follows place paid frame frames w s below (New kinds.Method ∷ New kinds.Value ∷ []) (N ops.LoadMethod name) a (λ o t rest stack h r c.
      does facts plans library follows place paid frame frames w s below (load_method w o name) _ (λ looked w1 e. looked_fits looked rest stack w1 (looked_is o name (attribute w.heap o name) looked w1 refl e) r c))
  name_fits ops.StoreAttr name k a = pop_two facts plans library follows place paid frame frames w s below [] (N ops.StoreAttr name) a (λ o v t1 t2 rest stack h1 h2 r c. puts facts plans library follows place paid frame frames w s below rest stack (on_heap w (set_attr w.heap o name v)) r c)
  name_fits ops.ImportName name k a = pop_two facts plans library follows place paid frame frames w s below (New kinds.Value ∷ []) (N ops.ImportName name) a (λ names level t1 t2 rest stack h1 h2 r c.
      either facts plans library follows place paid frame frames w s below (is_zero (shown w.heap level)) _ _ (absent_fits names (prefixes name) rest stack (first_absent w (prefixes name)) r c) (faults facts plans library follows place paid frame frames w s below w RelativeImport))
  name_fits ops.ImportFrom name k a = pop facts plans library follows place paid frame frames w s below (New kinds.Value ∷ Again 0 ∷ []) (N ops.ImportFrom name) a (λ m t rest stack h r c. gives facts plans library follows place paid frame frames w s below (Value m ∷ rest) (t ∷ stack) (import_from w m name) (more h r) c)
  name_fits op name k a = absurd (false≢true (ap is_name k))

  -- instructions with a number
  -- ==========================

  abbrev U : Op → ℕ → List Slot → State
  U op n st = machine.number_step library place paid frame frames w op n st

  -- the slots below `n` values
  below_values : (n : ℕ) (gs : List Give) → D (Straight (takes n []) gs) → ShowsAllIn facts (drop n frame.slots) (drop n s.stack) × C (suc frame.position) (map (give_slot s.stack) gs ++ drop n s.stack)
  below_values n gs a =
      let g = straight facts plans library follows place paid frame frames w s below (takes n []) gs a in
      let e : length (takes n []) ≡ n = takes-length n [] ∙ (let q : n + 0 ≡ n = omega arith in q) in
      (shows_drop n frame.slots s.stack s.shows, subst (λ k. C (suc frame.position) (map (give_slot s.stack) gs ++ drop k s.stack)) e g.1)

  made_fits : (number : ℕ) (slots : List Slot) (stack : Stack) (d : Val) (o : Option Code) (code : Code) → o ≡ Some code → ShowsAllIn facts slots stack → C (suc frame.position) (flow.Value ∷ stack) → P (machine.made_function library place paid frame frames w number slots d o)
  made_fits number slots stack d None code e r c = cc
  made_fits number slots stack d (Some own) code e r c = gives facts plans library follows place paid frame frames w s below slots stack (make_function w own.name frame.module_name number frame.names d) r c

  -- the child is a code of the running module
  child_fits : (n : ℕ) (K : Option ℕ → State) → IsChild (length (verified plans library follows frame.module_name frame.code s.code s.code_is).0.codes) s.code.children n
      → ((number : ℕ) (code : Code) → code_at library frame.module_name number ≡ Some code → P (K (Some number))) → P (K (machine.child library place paid frame frames w n))
  child_fits n K h k =
      let v = verified plans library follows frame.module_name frame.code s.code s.code_is in
      let c = get_there v.0.codes h.0 h.2 in
      subst (λ o. P (K o)) (sym (ap (λ o. machine.child_of library place paid frame frames w o n) s.code_is ∙ h.1))
      (k h.0 c.0 (code_is_there library frame.module_name v.0 h.0 v.1 ∙ c.1))

  -- a call's operands, and what lies below them
  operands_below : (n : ℕ) → (operands n frame.slots).below ≡ drop (arguments n) frame.slots
  operands_below n =
      drop-drop (n % 256) (2 * (n / 256)) frame.slots
      ∙ ap (λ k. drop k frame.slots) (let q : 2 * (n / 256) + n % 256 ≡ arguments n = omega arith in q)

  calls_at : (ws : List Want) (rest : List Slot) (stack : Stack) → D (Straight ws (New kinds.Value ∷ [])) → stack ≡ drop (length ws) s.stack → ShowsAllIn facts rest stack → Calls facts plans library follows place paid frame frames w s below rest stack
  calls_at ws rest stack a e r =
      let g = straight facts plans library follows place paid frame frames w s below ws (New kinds.Value ∷ []) a in
      record {
        shows = r;
        comes = subst (λ z. C (suc frame.position) (flow.Value ∷ z)) (sym e) g.1;
        waits = record { code = s.code; code_is = s.code_is; locals = s.locals; stack = s.stack; wants = ws; call = a; shows = subst (ShowsAllIn facts rest) e r; kept = s.kept; planned = s.planned };
      }

  -- the stack below the top of what lies below `k` others
  one_below : (k n : ℕ) (t : flow.Slot) (stack : Stack) → t ∷ stack ≡ drop k s.stack → n ≡ k + 1 → stack ≡ drop n s.stack
  one_below k n t stack e q = ap (drop 1) e ∙ (drop-drop 1 k s.stack ∙ ap (λ z. drop z s.stack) (sym q))

  two_below : (k n : ℕ) (t u : flow.Slot) (stack : Stack) → t ∷ u ∷ stack ≡ drop k s.stack → n ≡ k + 2 → stack ≡ drop n s.stack
  two_below k n t u stack e q = ap (drop 2) e ∙ (drop-drop 2 k s.stack ∙ ap (λ z. drop z s.stack) (sym q))

  function_fits : (n : ℕ) → D (Straight (takes (arguments n + 1) []) (New kinds.Value ∷ [])) → P (U ops.CallFunction n frame.slots)
  function_fits n a =
      let k = arguments n in
      let ws = takes (k + 1) [] in
      let g = straight facts plans library follows place paid frame frames w s below ws (New kinds.Value ∷ []) a in
      let o = operands n frame.slots in
      let many : length ws ≡ k + 1 = takes-length (k + 1) [] ∙ (let q : k + 1 + 0 ≡ k + 1 = omega arith in q) in
      subst (λ z. P (machine.call_function library place paid frame frames w o z)) (sym (operands_below n))
      (one_value [] (λ st ss. ss ≡ drop k s.stack → P (machine.call_function library place paid frame frames w o st))
      (λ v t rest stack h r x e. runs facts plans library follows place paid frame frames w s below rest stack (callee_of w v) o.args o.keys (calls_at ws rest stack a (one_below k (length ws) t stack e many) r))
      (drop k frame.slots) (drop k s.stack) (shows_drop k frame.slots s.stack s.shows) (wanted_more k s.stack g.0).0 refl)

  method_fits : (n : ℕ) → D (Straight (takes (arguments n) (wants.Method ∷ wants.Value ∷ [])) (New kinds.Value ∷ [])) → P (U ops.CallMethod n frame.slots)
  method_fits n a =
      let k = arguments n in
      let ws = takes k (wants.Method ∷ wants.Value ∷ []) in
      let g = straight facts plans library follows place paid frame frames w s below ws (New kinds.Value ∷ []) a in
      let o = operands n frame.slots in
      let many : length ws ≡ k + 2 = takes-length k (wants.Method ∷ wants.Value ∷ []) in
      subst (λ z. P (machine.call_looked library place paid frame frames w o z)) (sym (operands_below n))
      (one_method (λ st ss. ss ≡ drop k s.stack → P (machine.call_looked library place paid frame frames w o st))
      (λ object method rest stack r e. (let c = calls_at ws rest stack a (two_below k (length ws) flow.Method flow.Value stack e many) r in gives facts plans library follows place paid frame frames w s below rest stack (call_method w method object o.args o.keys) c.shows c.comes))
      (λ v rest stack r e. runs facts plans library follows place paid frame frames w s below rest stack (callee_of w v) o.args o.keys (calls_at ws rest stack a (two_below k (length ws) flow.Method flow.Value stack e many) r))
      (drop k frame.slots) (drop k s.stack) (shows_drop k frame.slots s.stack s.shows) (wanted_drop k (wants.Method ∷ wants.Value ∷ []) s.stack g.0).0 refl)

  unpacked_fits : (n : ℕ) (v : Val) (old : Stack) (rest : List Slot) (stack : Stack) (vs : List Val) (w1 : PlainWorld) → given place (on_heap w (unpack w.heap n v)) ≡ Gives vs w1 → ShowsAllIn facts rest stack
      → C (suc frame.position) (map (give_slot old) (gives_values n []) ++ stack) → P (machine.next library place paid frame frames w (map Value vs ++ rest) w1)
  unpacked_fits n v old rest stack vs w1 e r c =
      let many : length vs ≡ n = unpack_count w.heap n v vs (answer_is place _ w1 (unpack w.heap n v).answer vs e) in
      nexts facts plans library follows place paid frame frames w s below (map Value vs ++ rest) (map (give_slot old) (gives_values (length vs) []) ++ stack) w1 (values_show vs old rest stack r)
      (subst (λ k. C (suc frame.position) (map (give_slot old) (gives_values k []) ++ stack)) (sym many) c)

  abbrev pub M : ℕ
  M = length (verified plans library follows frame.module_name frame.code s.code s.code_is).0.codes

  pub number_fits : (op : Op) (n : ℕ) → IsKnown (Plain (instrs.Num op n)) → MakesChild M s.code.children (Plain (instrs.Num op n)) → D (op_action op n) → P (U op n frame.slots)
  unfolding op_action form_of name_form number_form jump_form plain_form short_form
  number_fits ops.LoadFast n k m a = pushes facts plans library follows place paid frame frames w s below (load_local w frame.locals n) a
  number_fits ops.LoadFastN n k m a = pushes facts plans library follows place paid frame frames w s below (load_local w frame.locals n) a
  number_fits ops.StoreFast n k m a = pop facts plans library follows place paid frame frames w s below [] (U ops.StoreFast n) a (λ v t rest stack h r c. stores facts plans library follows place paid frame frames w s below (with_local frame.locals n v) rest stack w (length-slice_set frame.locals n (Some v)) r c)
  number_fits ops.StoreFastN n k m a = pop facts plans library follows place paid frame frames w s below [] (U ops.StoreFastN n) a (λ v t rest stack h r c. stores facts plans library follows place paid frame frames w s below (with_local frame.locals n v) rest stack w (length-slice_set frame.locals n (Some v)) r c)
  number_fits ops.DeleteFast n k m a =
      let c = (straight facts plans library follows place paid frame frames w s below [] [] a).1 in
      does facts plans library follows place paid frame frames w s below (load_local w frame.locals n) _ (λ v w1 e. stores facts plans library follows place paid frame frames w s below (without_local frame.locals n) frame.slots s.stack w1 (length-slice_set frame.locals n None) s.shows c)
  number_fits ops.BuildTuple n k m a = let q = below_values n (New kinds.Value ∷ []) a in gives facts plans library follows place paid frame frames w s below (drop n frame.slots) (drop n s.stack) (on_heap w (making_tuple w.heap (values n frame.slots))) q.0 q.1
  number_fits ops.BuildList n k m a = let q = below_values n (New kinds.Value ∷ []) a in gives facts plans library follows place paid frame frames w s below (drop n frame.slots) (drop n s.stack) (on_heap w (making_list w.heap (values n frame.slots))) q.0 q.1
  number_fits ops.BuildMap n k m a = pushes facts plans library follows place paid frame frames w s below (on_heap w (making w.heap (DictObject [] (room_for n)))) a
  number_fits ops.UnpackSequence n k m a = pop facts plans library follows place paid frame frames w s below (gives_values n []) (U ops.UnpackSequence n) a (λ v t rest stack h r c. does facts plans library follows place paid frame frames w s below (on_heap w (unpack w.heap n v)) _ (λ vs w1 e. unpacked_fits n v (t ∷ stack) rest stack vs w1 e r c))
  number_fits ops.MakeFunction n k m a =
      let c = (straight facts plans library follows place paid frame frames w s below [] (New kinds.Value ∷ []) a).1 in
      child_fits n (machine.make library place paid frame frames w frame.slots Nil) m (λ number code e. made_fits number frame.slots s.stack Nil (code_at library frame.module_name number) code e s.shows c)
  number_fits ops.MakeFunctionDefargs n k m a =
      let g = straight facts plans library follows place paid frame frames w s below (wants.Null ∷ wants.Value ∷ []) (New kinds.Value ∷ []) a in
      top wants.Null (wants.Value ∷ []) (λ st ss. C (suc frame.position) (flow.given (New kinds.Value ∷ []) 2 ss) → P (U ops.MakeFunctionDefargs n st)) refl
      (λ x t st ss h wt r wr. as_null (λ z. C (suc frame.position) (flow.given (New kinds.Value ∷ []) 2 (t ∷ ss)) → P (U ops.MakeFunctionDefargs n (z ∷ st))) x t
      (one_value [] (λ st2 ss2. C (suc frame.position) (flow.given (New kinds.Value ∷ []) 2 (t ∷ ss2)) → P (U ops.MakeFunctionDefargs n (Null ∷ st2)))
      (λ d t2 rest stack hd r2 x2 c. child_fits n (machine.make_with library place paid frame frames w rest d) m (λ number code e.
      either facts plans library follows place paid frame frames w s below (has_items (machine.given_by library place paid frame frames w (code_at library frame.module_name number)) (shown w.heap d)) _ _
      (made_fits number rest stack d (code_at library frame.module_name number) code e r2 c) (faults facts plans library follows place paid frame frames w s below w BadDefaults))) st ss r wr) h wt)
      frame.slots s.stack s.shows g.0 g.1
  number_fits ops.CallFunction n k m a = function_fits n a
  number_fits ops.CallMethod n k m a = method_fits n a
  number_fits ops.LoadConstObj n k m a = absurd k
  number_fits op n k m a = absurd (takes_none (form_of (code_of op)) op n refl k)
