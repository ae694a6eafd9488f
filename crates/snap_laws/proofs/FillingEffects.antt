-- No effect, and so no step of the machine, makes an empty tuple or text, or uses fewer bytes than its texts have.
use Rattle.std.proofs.Common.{ℕ, List, [], ◌∷◌, Option, Some, None, Result, Ok, Err, arith}
use Rattle.std.specs.Prelude.{codes}
use Rattle.bc_machine.specs.mpy_base.declared.builtin.Builtin.{Builtin}
use Rattle.bc_machine.specs.mpy_base.declared.builtin.Builtin.TheVariants as builtins
use Rattle.bc_machine.specs.mpy_base.declared.kind.Kind.{Kind}
use Rattle.bc_machine.specs.mpy_base.World.{PortState, DictObject, FunctionObject, MethodObject, ModuleObject, ExceptionObject, object, names_of, pairs_at, with_names}
use Rattle.bc_machine.specs.mpy_base.Val.{Val, Nil, Str, Empty, Built, At, PlainWorld}
use Rattle.bc_machine.specs.py_values.Shown.{PlainHeap}
use Rattle.bc_machine.specs.py_values.Keys.{without_key}
use Rattle.bc_machine.specs.py_primitives.Faults.{Fault, NotAnException}
use Rattle.bc_machine.specs.py_primitives.Output.{Ends, printed, printed_with, ends_from}
use Rattle.bc_machine.specs.py_primitives.Walks.{walk_all}
use Rattle.bc_machine.specs.py_primitives.Texts.{str_of}
use Rattle.bc_machine.specs.py_primitives.Operators.{named_kind, exception_kind}
use Rattle.bc_machine.specs.py_primitives.Outcome.{Stop, Raises, Full, Outcome, making, making_fault}
use Rattle.bc_machine.specs.py_primitives.Uses.{Attribute, Found, Method, Absent, attribute, put_pair}
use Rattle.bc_machine.specs.py_effects.Effect.{Effect, does, Place, number_of, raised_new, raise_made}
use Rattle.bc_machine.specs.py_effects.Names.{raise_by, named_in, deleted_global, looked_up, imported_from}
use Rattle.bc_machine.specs.py_effects.Calling.{Keys, written, call_builtin, callee_object, callee_of}
use Rattle.bc_machine.specs.py_effects.Modules.{Made, last_part, registered, making_module, make_module, registered_as, outer_name, stored_in, stored_under}
use Rattle.bc_machine.specs.py_effects.Ends.{new_world}
use Rattle.bc_machine.specs.py_effects.Growth.{fails_world, Keeps, Growth}
use Rattle.bc_machine.specs.Library.{Name, Library}
use Rattle.bc_machine.specs.State.{Role, Main, Called, Imported, Frame, State, Running, Halted, Stuck}
use Rattle.bc_machine.specs.Step.{step}
use Rattle.bc_machine.specs.Machine.{steps, start}
use Rattle.bc_machine.specs.Growth.{world_of, OfModule, FramesHold, StateHolds, MachineGrowth, Within}
use Rattle.bc_machine.proofs.Grows.{step_grows}
use Rattle.bc_machine.proofs.Laws.{start_grows, run_grows}
use Rattle.snap_laws.specs.Filled.{AreFilled, HoldsBytes}
use Rattle.snap_laws.proofs.Filling.{Obj, Filling, same, on, place_filled, names_filled, F, f_followed, f_walk, f_making, f_tuple, f_list, f_fault, f_binary, f_in_place, f_item, f_get, f_put, f_with_dict, f_set, f_delete, f_get_attr, f_set_attr, f_unpack}
use Rattle.snap_laws.proofs.FillingCalls.{f_call, f_method}

abbrev WorldFilling : PlainWorld → PlainWorld → Type 0
WorldFilling a b = Filling a.heap b.heap

-- raising
raised_by : (place : Place) (h : PlainHeap) (w : PlainWorld) (r : Result Val Stop) → Filling h w.heap → Filling h (fails_world (raised_new place w r)).heap
raised_by place h w (Ok v) p = on h w.heap _ p (place_filled w.heap (number_of v) place.file place.line place.name)
raised_by place h w (Err (Full e)) p = p
raised_by place h w (Err (Raises f)) p = p

made_raised : (place : Place) (w : PlainWorld) (o : Outcome Val) → F w.heap o → WorldFilling w (fails_world (raise_made place w o))
made_raised place w o p = raised_by place w.heap (record w { heap = o.heap }) o.answer p

value_raised : (place : Place) (w : PlainWorld) (v : Val) (a b : Option Kind) → WorldFilling w (fails_world (raise_by place w v a b))
value_raised place w v (Some k) b = made_raised place w (making w.heap (ExceptionObject k Empty [] 0 [])) (f_making w.heap (ExceptionObject k Empty [] 0 []) tt)
value_raised place w (At n) None (Some k) = place_filled w.heap n place.file place.line place.name
value_raised place w v None b = made_raised place w (making_fault w.heap NotAnException) (f_fault w.heap NotAnException)

-- names
deleted_filling : (w : PlainWorld) (n : ℕ) (name : List ℕ) (o : Option Val) → WorldFilling w (deleted_global w n name o).world
deleted_filling w n name (Some v) = f_with_dict w.heap n (without_key w.heap (pairs_at w.heap n) (Str name))
deleted_filling w n name None = same w.heap

looked_filling : (w : PlainWorld) (v : Val) (name : List ℕ) (a : Attribute) → WorldFilling w (looked_up w v name a).world
looked_filling w v name (Found u) = same w.heap
looked_filling w v name (Method m) = same w.heap
looked_filling w v name Absent = same w.heap

from_filling : (h : PlainHeap) (v : Val) (name : List ℕ) (a : Attribute) → F h (imported_from h v name a)
from_filling h v name (Found u) = same h
from_filling h v name (Method m) = f_making h (MethodObject v m) tt
from_filling h v name Absent = same h

-- calls
printed_by : (h : PlainHeap) (args : List Val) (r : Result Ends Fault) → F h (printed_with h args r)
printed_by h args (Ok ends) = f_walk h (walk_all (str_of h) args) _ (λ texts. same h)
printed_by h args (Err f) = same h

written_filling : (w : PlainWorld) (o : Outcome (List ℕ)) (r : Result (List ℕ) Stop) → F w.heap o → WorldFilling w (written w o r).world
written_filling w o (Ok text) p = p
written_filling w o (Err stop) p = p

built_filling : (w : PlainWorld) (b : Builtin) (args : List Val) (keys : Keys) → WorldFilling w (call_builtin w b args keys).world
built_filling w builtins.Print args keys = written_filling w (printed w.heap args keys) (printed w.heap args keys).answer (printed_by w.heap args (ends_from w.heap (Ok (record { sep = None; last = None })) keys))
built_filling w builtins.PortPut args keys = same w.heap
built_filling w builtins.PortGet args keys = same w.heap
built_filling w builtins.PortCount args keys = same w.heap
built_filling w builtins.Port args keys = same w.heap
built_filling w b args keys = f_call w.heap b args keys

-- any dict of names fits
abbrev Fit : ℕ → PlainWorld → Type 0
Fit n w = Unit {0}

object_filling : (w : PlainWorld) (n : ℕ) (o : Obj) → Keeps WorldFilling Fit w (callee_object w (At n) o)
object_filling w n (Some (FunctionObject name module_name code names defaults)) = tt
object_filling w n (Some (MethodObject obj m)) = λ args keys. f_method w.heap m obj args keys
object_filling w n _ = λ args keys. same w.heap

callee_filling : (w : PlainWorld) (v : Val) → Keeps WorldFilling Fit w (callee_of w v)
callee_filling w (At n) = object_filling w n (object w.heap.objects n)
callee_filling w (Built b) = λ args keys. built_filling w b args keys
callee_filling w v = λ args keys. same w.heap

-- modules
making_filling : (w : PlainWorld) (name : List ℕ) → WorldFilling w (making_module w name).world
making_filling w name =
    let first = making w.heap (ModuleObject name None) in
    f_followed w.heap first _ (f_making w.heap (ModuleObject name None) tt) (λ m e.
    f_followed first.heap (making first.heap (DictObject [] 4)) _ (f_making first.heap (DictObject [] 4) tt) (λ names q.
    let last = (making first.heap (DictObject [] 4)).heap in
    let roomy = with_names last (number_of m) (number_of names) in
    on last roomy _ (names_filled last (number_of m) (number_of names))
    (f_followed roomy (put_pair roomy (number_of names) (Str (codes "__name__")) (Str name)) _ (f_put roomy (number_of names) (Str (codes "__name__")) (Str name)) (λ stored s. same _))))

on_made_filling : (w : PlainWorld) (name : List ℕ) (e : Effect Made) (r : Result Made Stop) → WorldFilling w e.world
    → WorldFilling w (Effect.world (elim r [ Ok m ↦ record { answer = Ok m; world = registered e.world name m; visits = 0 } | Err stop ↦ e ]))
on_made_filling w name e (Ok m) p = p
on_made_filling w name e (Err stop) p = p

module_filling : (w : PlainWorld) (name : List ℕ) → WorldFilling w (make_module w name).world
module_filling w name = on_made_filling w name (making_module w name) (making_module w name).answer (making_filling w name)

in_filling : (w : PlainWorld) (name : List ℕ) (m : ℕ) (o : Option ℕ) → WorldFilling w (stored_in w name m o).world
in_filling w name m (Some names) = f_put w.heap names (Str (last_part name)) (At m)
in_filling w name m None = same w.heap

under_by : (w : PlainWorld) (name : List ℕ) (m : ℕ) (o : Option ℕ) → WorldFilling w (Effect.world (elim o [ Some n ↦ stored_in w name m (names_of (object w.heap.objects n)) | None ↦ does Nil w ]))
under_by w name m (Some n) = in_filling w name m (names_of (object w.heap.objects n))
under_by w name m None = same w.heap

under_filling : (w : PlainWorld) (name : List ℕ) (m : ℕ) (o : Option (List ℕ)) → WorldFilling w (stored_under w name m o).world
under_filling w name m (Some outer) = under_by w name m (registered_as w.modules outer)
under_filling w name m None = same w.heap

-- each effect
abbrev fillings : Growth
fillings = record {
  rel = WorldFilling;
  sound = λ w. Unit {0};
  fits = Fit;
  fits_sound = λ n w f. tt;
  same = λ w. same w.heap;
  on = λ a b c p q. on a.heap b.heap c.heap p q;
  stays = λ n a b p f. tt;
  fault = λ place w f. made_raised place w (making_fault w.heap f) (f_fault w.heap f);
  raise = λ place w v. value_raised place w v (named_kind v) (exception_kind w.heap v);
  store = λ n w name v f. f_put w.heap n (Str name) v;
  delete = λ n w name f. deleted_filling w n name (named_in w n name);
  method = λ w v name. looked_filling w v name (attribute w.heap v name);
  from = λ w v name. from_filling w.heap v name (attribute w.heap v name);
  callee = λ n w v f. callee_filling w v;
  method_call = λ w m o args keys. f_method w.heap m o args keys;
  function = λ n w name module_name code d f. f_making w.heap (FunctionObject name module_name code n d) tt;
  made = module_filling;
  made_fits = λ w name m s e. tt;
  store_made = λ w name m. under_filling w name m (outer_name name);
  forget = λ w w1 name none p. p;
  op_binary = λ w op u v. f_binary w.heap op u v;
  op_in_place = λ w op u v. f_in_place w.heap op u v;
  tuples = λ w vs. f_tuple w.heap vs;
  lists = λ w vs. f_list w.heap vs;
  dicts = λ w room. f_making w.heap (DictObject [] room) tt;
  get = λ w o i. f_get w.heap o i;
  set = λ w o i v. f_set w.heap o i v;
  remove = λ w o i. f_delete w.heap o i;
  get_attribute = λ w o name. f_get_attr w.heap o name;
  set_attribute = λ w o name v. f_set_attr w.heap o name v;
  unpacks = λ w n v. f_unpack w.heap n v;
  item = λ w v at. f_item w.heap v at;
}

-- the machine
abbrev machine_fillings : MachineGrowth
machine_fillings = record { growth = fillings; over = λ name. Unit {0}; begins = λ names w name f none. tt; forgets = λ w name o. same w.heap }

any_role : (role : Role) → OfModule (λ name. Unit {0}) role
any_role Main = tt
any_role Called = tt
any_role (Imported name m) = tt

any_frames : (frames : List Frame) (w : PlainWorld) → FramesHold (Within machine_fillings) frames w
any_frames [] w = tt
any_frames (frame ∷ frames) w = (record { names = tt; role = any_role frame.role }, any_frames frames w)

any_state : (s : State) → StateHolds (Within machine_fillings) s
any_state (Running paid frame frames w) = any_frames (frame ∷ frames) w
any_state (Halted end w) = tt
any_state (Stuck w) = tt

pub step_filled : (library : Library) (s : State) → AreFilled (world_of s).heap → AreFilled (world_of (step library s)).heap
step_filled library s f = (step_grows machine_fillings library s (any_state s)).by.by f

pub start_filled : (library : Library) (name : Name) (w : PlainWorld) → AreFilled w.heap → AreFilled (world_of (start library name w)).heap
start_filled library name w f = (start_grows machine_fillings library name w tt).by.by f

pub run_filled : (library : Library) (name : Name) (cells bytes : ℕ) (ports : List PortState) (n : ℕ) → AreFilled (world_of (steps library n (start library name (new_world cells bytes ports)))).heap
run_filled library name cells bytes ports n = (run_grows machine_fillings library name (new_world cells bytes ports) n tt).by.by (record { filled = λ n. tt })

pub step_holds : (library : Library) (s : State) → HoldsBytes (world_of s).heap → HoldsBytes (world_of (step library s)).heap
step_holds library s b = (step_grows machine_fillings library s (any_state s)).by.bytes b

pub start_holds : (library : Library) (name : Name) (w : PlainWorld) → HoldsBytes w.heap → HoldsBytes (world_of (start library name w)).heap
start_holds library name w b = (start_grows machine_fillings library name w tt).by.bytes b

pub run_holds : (library : Library) (name : Name) (cells bytes : ℕ) (ports : List PortState) (n : ℕ) → HoldsBytes (world_of (steps library n (start library name (new_world cells bytes ports)))).heap
run_holds library name cells bytes ports n = (run_grows machine_fillings library name (new_world cells bytes ports) n tt).by.bytes (record { held = omega arith })
