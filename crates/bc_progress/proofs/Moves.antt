-- The machine's moves keep what fits: raises, returns, and jumps out of handlers.
use Rattle.std.proofs.Common.{◌≡◌, ℕ, zero, suc, ◌≤◌, List, [], ◌∷◌, map, drop, length, Bool, true, false, Some, refl, sym, ap, subst, arith, if◌then◌else◌}
use Rattle.std.proofs.lemmas.List.Elements.{All-cons, All-tail}
use Rattle.bc_machine.specs.mpy_base.Val.{Val, At, PlainWorld}
use Rattle.bc_flow.specs.bc_shapes.declared.shape.Entry.{Entry as FlowEntry}
use Rattle.bc_flow.specs.Action.{iterator}
use Rattle.bc_flow.specs.Code as flows
use Rattle.bc_flow.specs.Verified.{Assigned}
use Rattle.bc_flow.specs.Machine as flow
use Rattle.bc_flow.specs.Machine.{Stack}
use Rattle.bc_flow.proofs.Never.{Good}
use Rattle.bc_flow.proofs.Sound.{Fits as Heights, cut_cut}
use Rattle.bc_machine.specs.Library.{Code, Library, code_at}
use Rattle.bc_machine.specs.State.{Slot, Value, KeptReturn, KeptJump, Entry, Frame, State, remark, go, cut, enter, throw_in, give, is_run, leave, without_iter, unwind}
use Rattle.bc_progress.specs.Slots.{Facts, ShowsIn, exception, kept_return, kept_jump, ShowsAllIn, more, KeepIn, flow_entry}
use Rattle.bc_progress.specs.Plans.{flow_of, Plans}
use Rattle.bc_progress.specs.Fits.{BelowIn, FitsIn}
use Rattle.bc_progress.proofs.Showing.{shows_drop, shows_cut}
use Rattle.bc_progress.proofs.Knowing.{K, FitsBehind, kept_remarked}

pub flow_remarked : (q : ℕ) (es : List Entry) → map (flow.remark q) (map flow_entry es) ≡ map flow_entry (map (remark q) es)
flow_remarked q [] = refl
flow_remarked q (e ∷ es) = ap (λ (z : List FlowEntry). flow_entry (remark q e) ∷ z) (flow_remarked q es)

-- the slots are as the flow's down from each height up to this one
abbrev pub Agree : Facts → ℕ → List Slot → Stack → Type 0
Agree facts n slots st = (h : ℕ) → h ≤ n → ShowsAllIn facts (cut h slots) (flow.cut h st)

pub agree_all : (facts : Facts) (n : ℕ) (slots : List Slot) (st : Stack) → ShowsAllIn facts slots st → Agree facts n slots st
agree_all facts n slots st r h le = shows_cut h slots st r

pub agree_lower : (facts : Facts) (m n : ℕ) (slots : List Slot) (st : Stack) → m ≤ n → Agree facts n slots st → Agree facts m slots (flow.cut m st)
agree_lower facts m n slots st lt a h le = subst (ShowsAllIn facts (cut h slots)) (sym (cut_cut h m st le)) (a h (omega (arith, le, lt)))

module _ (facts : Facts) (plans : Plans) (library : Library) (frame : Frame) (code : Code) (code_is : code_at library frame.module_name frame.code ≡ Some code) (locals : length frame.locals ≡ code.locals) (frames : List Frame) (below : BelowIn facts plans library frame.role frames) where
  abbrev F : flows.Code
  F = flow_of (plans frame.module_name frame.code) code

  abbrev A : Assigned
  A = (plans frame.module_name frame.code).assigned

  -- where the flow comes to, the frame does
  pub lands : (q : ℕ) (slots : List Slot) (entries : List Entry) (stack : Stack) (w : PlainWorld) → ShowsAllIn facts slots stack → KeepIn facts entries → Good F A (flow.go q stack (map flow_entry entries)) → FitsIn facts plans library (go q slots entries frame frames w)
  lands q slots entries stack w r k g = (
    record {
      code = code;
      code_is = code_is;
      locals = locals;
      stack = stack;
      shows = r;
      kept = kept_remarked facts q entries k;
      planned = subst (λ (z : List FlowEntry). Good F A (flow.Run q stack z)) (flow_remarked q entries) g;
    },
    below,
  )

  enters : (e : Entry) (entries : List Entry) (s : Slot) (t : flow.Slot) (slots : List Slot) (stack : Stack) (w : PlainWorld) → ShowsIn facts s t → ShowsAllIn facts (cut e.height slots) (flow.cut e.height stack)
      → KeepIn facts (e ∷ entries) → Good F A (flow.enter (flow_entry e) (map flow_entry entries) t stack) → FitsIn facts plans library (enter e entries s slots frame frames w)
  enters e entries s t slots stack w h r k g = lands e.handler (s ∷ cut e.height slots) (e ∷ entries) (t ∷ flow.cut e.height stack) w (more h r) k g

  enters_or : (b : Bool) (e : Entry) (entries : List Entry) (s : Slot) (t : flow.Slot) (slots : List Slot) (stack : Stack) (w : PlainWorld) (other : State) (goes_on : flow.St) → ShowsIn facts s t → ShowsAllIn facts (cut e.height slots) (flow.cut e.height stack)
      → KeepIn facts (e ∷ entries) → (Good F A goes_on → FitsBehind facts plans library other) → Good F A (if b then flow.enter (flow_entry e) (map flow_entry entries) t stack else goes_on)
      → FitsBehind facts plans library (if b then enter e entries s slots frame frames w else other)
  enters_or true e entries s t slots stack w other goes_on h r kept k g = λ covers. enters e entries s t slots stack w h r kept g
  enters_or false e entries s t slots stack w other goes_on h r kept k g = k g

  -- a raise of an exception that is known
  pub caught : (x : ℕ) → facts.exception x → (w : PlainWorld) (out : State) → FitsIn facts plans library out → (entries : List Entry) (stack : Stack) (n : ℕ) → KeepIn facts entries → Agree facts n frame.slots stack → Heights (map flow_entry entries) n
      → Good F A (flow.throw (map flow_entry entries) stack) → FitsIn facts plans library (throw_in x entries frame frames w out)
  caught x is w out o [] stack n kept a f g = o
  caught x is w out o (e ∷ entries) stack n kept a f g =
      by e.active (λ g2. caught x is w out o entries (flow.cut e.height stack) e.height (All-tail (K facts) e entries kept) (agree_lower facts e.height n frame.slots stack f.0 a) f.1 g2) g
    where
      by : (b : Bool) → (Good F A (flow.throw (map flow_entry entries) (flow.cut e.height stack)) → FitsIn facts plans library (throw_in x entries frame frames w out))
          → Good F A (if b then flow.throw (map flow_entry entries) (flow.cut e.height stack) else flow.enter (flow_entry e) (map flow_entry entries) flow.NoneOrException stack)
          → FitsIn facts plans library (if b then throw_in x entries frame frames w out else enter (record e { kept = Some x }) entries (Value (At x)) frame.slots frame frames w)
      by true k g = k g
      by false k g =
          enters (record e { kept = Some x }) entries (Value (At x)) flow.NoneOrException frame.slots stack w (exception is) (a e.height f.0) (All-cons (K facts) (record e { kept = Some x }) entries is (All-tail (K facts) e entries kept)) g

  -- a return
  pub returns : (v : Val) (w : PlainWorld) → FitsBehind facts plans library (give v frame.role frames w) → (entries : List Entry) (stack : Stack) (n : ℕ) → KeepIn facts entries → Agree facts n frame.slots stack → Heights (map flow_entry entries) n
      → Good F A (flow.leave (map flow_entry entries) stack) → FitsBehind facts plans library (leave v entries frame frames w)
  returns v w o [] stack n kept a f g = o
  returns v w o (e ∷ entries) stack n kept a f g =
      enters_or (is_run e) e entries (KeptReturn v) flow.KeptReturn frame.slots stack w (leave v entries frame frames w) (flow.leave (map flow_entry entries) (flow.cut e.height stack)) kept_return (a e.height f.0) kept
      (λ g2. returns v w o entries (flow.cut e.height stack) e.height (All-tail (K facts) e entries kept) (agree_lower facts e.height n frame.slots stack f.0 a) f.1 g2) g

  -- a jump out of entries
  without : (target : ℕ) (it : Bool) (entries : List Entry) (slots : List Slot) (stack : Stack) (w : PlainWorld) → ShowsAllIn facts slots stack → KeepIn facts entries → Good F A (flow.without_iter target it stack (map flow_entry entries)) → FitsIn facts plans library (go target (without_iter it slots) entries frame frames w)
  without target false entries slots stack w r kept g = lands target slots entries stack w r kept g
  without target true entries slots stack w r kept g = by (flow.all_wanted iterator stack) g
    where
      by : (b : Bool) → Good F A (if b then flow.go target (drop 4 stack) (map flow_entry entries) else flow.Stuck) → FitsIn facts plans library (go target (drop 4 slots) entries frame frames w)
      by true g = lands target (drop 4 slots) entries (drop 4 stack) w (shows_drop 4 slots stack r) kept g
      by false g = absurd g.runs

  pub unwinds : (target : ℕ) (it : Bool) (count : ℕ) (entries : List Entry) (slots : List Slot) (stack : Stack) (w : PlainWorld) → ShowsAllIn facts slots stack → KeepIn facts entries → Good F A (flow.unwind target it count (map flow_entry entries) stack)
      → FitsBehind facts plans library (unwind target it count entries slots frame frames w)
  unwinds target it zero entries slots stack w r kept g = λ covers. without target it entries slots stack w r kept g
  unwinds target it (suc count) [] slots stack w r kept g = absurd g.runs
  unwinds target it (suc count) (e ∷ entries) slots stack w r kept g =
      enters_or (is_run e) e entries (KeptJump target count it) (flow.KeptJump target count it) slots stack w (unwind target it count entries (cut e.height slots) frame frames w) (flow.unwind target it count (map flow_entry entries) (flow.cut e.height stack)) kept_jump (shows_cut e.height slots stack r) kept
      (λ g2. unwinds target it count entries (cut e.height slots) (flow.cut e.height stack) w (shows_cut e.height slots stack r) (All-tail (K facts) e entries kept) g2) g
