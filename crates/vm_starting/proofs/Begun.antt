-- The main module begins.
use Rattle.std.proofs.Common.{◌≡◌, ℕ, zero, suc, ◌-◌, ◌<◌, List, [], ◌∷◌, ◌++◌, length, replicate, Option, Some, None, Result, Ok, Err, All, refl, sym, ap, ◌∙◌, subst, arith}
use Rattle.std.specs.Prelude.{IfSome, codes, slice_get, option_and_then}
use Rattle.std.proofs.lemmas.Option.{slice_get_within}
use Rattle.std.proofs.lemmas.List.Elements.{All-nil, All-cons}
use Rattle.mpy_base.specs.declared.room.NoRoom.{NoRoom}
use Rattle.mpy_base.specs.World.{Heap, Objects}
use Rattle.mpy_base.specs.Val.{PlainWorld}
use Rattle.frame_calls.specs.arena_heap.declared.value.Value.{Value}
use Rattle.frame_calls.specs.arena_heap.declared.value.StrNo.{StrNo}
use Rattle.frame_calls.specs.arena_heap.declared.value.ConstNo.{ConstNo}
use Rattle.frame_calls.specs.arena_objects.Keys.{AllTold}
use Rattle.frame_calls.specs.arena_objects.Iterables.{or_nothing}
use Rattle.bc_resolved.specs.bc_verify.mpy_tree.Raw as raw
use Rattle.vm_states.specs.bc_library.Constants.{items_at, text_at}
use Rattle.vm_states.specs.bc_library.Shelf.{Shelf, Named, module_at}
use Rattle.frame_calls.specs.bc_labels.Positions.{CodeList, Listed}
use Rattle.bc_progress.specs.py_effects.py_primitives.Outcome as primitives
use Rattle.bc_progress.specs.py_effects.Effect.{Place, given_answer}
use Rattle.bc_progress.specs.py_effects.Modules as plain
use Rattle.bc_progress.specs.py_effects.Modules.{make_module}
use Rattle.bc_progress.specs.py_effects.Ends.{Memory}
use Rattle.frame_calls.specs.bc_machine.Library.{Name, Code, Module, Entry, Holds, Refused, Library, entry_in, code_at, code_in, module_in}
use Rattle.frame_calls.specs.bc_machine.State as states
use Rattle.frame_calls.specs.bc_machine.State.{State, Running, Halted, Main}
use Rattle.frame_calls.specs.bc_machine.Parts.{new_frame}
use Rattle.frame_calls.specs.bc_machine.Machine.{start, opened, begun}
use Rattle.vm_states.specs.bc_progress.Plans.{Plans, Follows}
use Rattle.vm_states.specs.bc_progress.Fits.{Fits}
use Rattle.frame_calls.specs.prim_faults.declared.fault.Fault.{Fault}
use Rattle.frame_calls.specs.prim_faults.Faults.{IsKnown}
use Rattle.frame_calls.specs.prim_faults.declared.stop.Stop.{Stop}
use Rattle.frame_calls.specs.prim_faults.declared.stop.Stop.TheVariants as stops
use Rattle.frame_calls.specs.arena_heap.declared.value.DictNo.{DictNo}
use Rattle.vm_states.specs.vm_frames.declared.slot.Role.{Role}
use Rattle.vm_states.specs.vm_frames.declared.slot.Role.TheVariants as roles
use Rattle.vm_states.specs.vm_frames.Calls.{Call, Calls}
use Rattle.frame_calls.specs.prim_modules.declared.makings.Made.{Made}
use Rattle.frame_calls.specs.prim_modules.Registry.{Registry}
use Rattle.frame_calls.specs.prim_modules.Effects.{IsMaking, AreMade, made_answer, world_with}
use Rattle.vm_states.specs.vm_frames.Views.{View, role_of, locals_of, starts_of, frame_of}
use Rattle.vm_states.specs.vm_frames.Placed.{IsPlaced}
use Rattle.vm_states.specs.frame_moves.Shown.{view_of, running_of}
use Rattle.vm_states.specs.frame_moves.Outcomes.{world_of}
use Rattle.vm_states.specs.frame_exits.Ends.{with_modules}
use Rattle.vm_states.specs.frame_exits.Known as known
use Rattle.vm_states.specs.Means.{Program, Means}
use Rattle.vm_states.specs.Running.{FitCalls, HasRooms, IsOfModule}
use Rattle.vm_states.specs.State.{IsKnownCall, IsState}
use Rattle.vm_starting.specs.Codes.{IsCodeOf}
use Rattle.frame_calls.specs.prim_walks.Plain.{plain_name, plain_heap}
use Rattle.vm_starting.proofs.Never.{make_never}
use Rattle.vm_starting.proofs.Texts.{main_text}
use Rattle.vm_starting.specs.Starting.{IsMain, main_call}

abbrev main_name : List ℕ
main_name = codes "__main__"

abbrev no_place : Place
no_place = record { file = []; line = 0; name = [] }

-- the frame of a call that begins
abbrev pub BeginsLaw : Type 0
BeginsLaw =
    (view : View) (module_number number : ℕ) (code : Code) (vs : List (Option Value)) (names : DictNo) (role : Role) (bytes : List ℕ) (l : CodeList)
    → Listed bytes l → view.starts module_number number ≡ l.offsets
    → new_frame (view.module_name module_number) number code (locals_of view vs) names.cell (role_of view (view.module_name module_number) role)
    ≡ frame_of view (record { module_number = module_number; code = number; at = 0; names = names; role = role; locals = vs ++ replicate (code.locals - length vs) None; slots = []; entries = [] })

-- some world
abbrev pub no_world : PlainWorld
no_world = record { heap = record { objects = []; bytes = 0; cell_size = 0; byte_size = 0 }; modules = []; ports = []; output = [] }

-- the making of a main module, over a program's texts and tuples
abbrev pub IsMade : Program → (old new : Heap Value ℕ) → (before after : Registry) → Result Made Stop → Type 0
IsMade p old new before after result = IsMaking p.tables.texts p.tables.tuples old new before after result (λ v. make_module v main_name)

pub made_in : (p : Program) (shelf : Shelf) (old new : Heap Value ℕ) (before after : Registry) (result : Result Made Stop) → p.shelf ≡ shelf → Means p
    → IsMaking (text_at shelf) (items_at shelf) old new before after result (λ v. make_module v (plain_name (text_at shelf) (items_at shelf) 21)) → IsMade p old new before after result
made_in p shelf old new before after result e means is =
    let texts : text_at shelf ≡ p.tables.texts = sym (means.constants.texts ∙ ap text_at e) in
    let tuples : items_at shelf ≡ p.tables.tuples = sym (means.constants.tuples ∙ ap items_at e) in
    let named = subst (λ (n : List ℕ). IsMaking (text_at shelf) (items_at shelf) old new before after result (λ v. make_module v n)) (ap or_nothing (main_text shelf)) is in
    subst (λ (t : StrNo → Option (List ℕ)). IsMaking t p.tables.tuples old new before after result (λ v. make_module v main_name)) texts
    (subst (λ (t : ConstNo → Option (List Value)). IsMaking (text_at shelf) t old new before after result (λ v. make_module v main_name)) tuples named)

pub told_in : (p : Program) (shelf : Shelf) (objects : Objects Value ℕ) → p.shelf ≡ shelf → Means p → AllTold (text_at shelf) (items_at shelf) objects → AllTold p.tables.texts p.tables.tuples objects
told_in p shelf objects e means is =
    let texts : text_at shelf ≡ p.tables.texts = sym (means.constants.texts ∙ ap text_at e) in
    let tuples : items_at shelf ≡ p.tables.tuples = sym (means.constants.tuples ∙ ap items_at e) in
    subst (λ (t : StrNo → Option (List ℕ)). AllTold t p.tables.tuples objects) texts (subst (λ (t : ConstNo → Option (List Value)). AllTold (text_at shelf) t objects) tuples is)

-- a making raises nothing
pub never : (shelf : Shelf) (old new : Heap Value ℕ) (before after : Registry) (stop : Stop) (fault : Fault) → stop ≡ stops.Raises fault
    → IsMaking (text_at shelf) (items_at shelf) old new before after (Err stop) (λ v. make_module v (plain_name (text_at shelf) (items_at shelf) 21)) → ⊥
never shelf old new before after stop fault e is =
    let w : PlainWorld = record { heap = plain_heap (text_at shelf) (items_at shelf) old; modules = []; ports = []; output = [] } in
    let raised = subst (λ (s : Stop). IsMaking (text_at shelf) (items_at shelf) old new before after (Err s) (λ v. make_module v (plain_name (text_at shelf) (items_at shelf) 21))) e is in
    make_never (world_with (text_at shelf) (items_at shelf) w old before) (plain_name (text_at shelf) (items_at shelf) 21) _ (sym (raised.answer w))

module _ (p : Program) (w : PlainWorld) (old new : Heap Value ℕ) (before after : Registry) where
  abbrev W : PlainWorld
  W = world_of p.tables (with_modules p.tables w before) old

  abbrev W1 : PlainWorld
  W1 = world_of p.tables (with_modules p.tables w after) new

  opens : (name : Name) (result : Result Made Stop) → IsMade p old new before after result → start p.library name W ≡ opened p.library name (given_answer no_place W1 (made_answer p.tables.texts p.tables.tuples new result))
  opens name result is =
      ap (λ (z : PlainWorld). opened p.library name (given_answer no_place z (make_module W main_name).answer)) (sym (is.world w))
      ∙ ap (λ (z : Result plain.Made primitives.Stop). opened p.library name (given_answer no_place W1 z)) (sym (is.answer w))

  pub full : (name : Name) (stop : Stop) (room : NoRoom) → stop ≡ stops.Full room → IsMade p old new before after (Err stop) → start p.library name W ≡ Halted (Memory room) W1
  full name stop room e is = opens name (Err (stops.Full room)) (subst (λ (s : Stop). IsMade p old new before after (Err s)) e is)

  module _ (law : BeginsLaw) (number locals : ℕ) (name : Name) (main : IsMain p number locals name) (code_is : IsCodeOf p number 0 main.row) where
    begun_so : (made : Made) → new_frame name 0 code_is.code [] made.names.cell Main ≡ frame_of (view_of p.tables) (main_call number locals made)
    begun_so made =
        let all : code_is.code.locals - 0 ≡ code_is.code.locals = omega arith in
        let vs : List (Option Value) = [] in
        ap (λ (n : Name). new_frame n 0 code_is.code [] made.names.cell Main) (sym main.name_is)
        ∙ (law (view_of p.tables) number 0 code_is.code vs made.names roles.Main main.row.instructions.now code_is.list code_is.listed code_is.starts_are
        ∙ ap (λ (k : ℕ). frame_of (view_of p.tables) (main_call number k made)) (all ∙ (sym code_is.runs.locals ∙ sym main.locals_are)))

    pub begins : (made : Made) → IsMade p old new before after (Ok made) → start p.library name W ≡ running_of p.tables 0 (main_call number locals made ∷ []) W1
    begins made is =
        let there : code_at p.library name 0 ≡ Some code_is.code = ap (λ (n : Name). code_at p.library n 0) (sym main.name_is) ∙ code_is.there in
        opens name (Ok made) is
        ∙ (ap (λ (o : Option Code). begun name o (record { number = made.number.cell; names = made.names.cell }) W1) there
        ∙ ap (λ (f : states.Frame). Running 0 f [] W1) (begun_so made))

-- a module that is there has a number below
pub counted : (shelf : Shelf) (i : ℕ) (m : raw.Module) → module_at shelf i ≡ Some m → i < length shelf.modules
counted shelf i m e = by (slice_get shelf.modules i) refl e
  where
    by : (o : Option Named) → slice_get shelf.modules i ≡ o → option_and_then (λ (n : Named). Some n.held) o ≡ Some m → i < length shelf.modules
    by None f g = absurd cc
    by (Some n) f g = slice_get_within shelf.modules i n f

pub same_rooms : (p : Program) (s new : Calls) → new ≡ record s { calls = new.calls } → HasRooms p s → HasRooms p new
same_rooms p s new e h =
    let slots : new.slot_room ≡ s.slot_room = ap (λ (z : Calls). z.slot_room) e in
    let entries : new.entry_room ≡ s.entry_room = ap (λ (z : Calls). z.entry_room) e in
    record {
      slots = λ name number code is. let r = h.slots name number code is in omega (arith, r, slots);
      entries = λ name number code is. let r = h.entries name number code is in omega (arith, r, entries);
    }

-- the calls are a state
-- =====================

-- a code that is there is of a module that is held
held_by : (o : Option Entry) (number : ℕ) (code : Code) → code_in (module_in o) number ≡ Some code → (m : Module) × (o ≡ Some (Holds m))
held_by None number code e = absurd cc
held_by (Some Refused) number code e = absurd cc
held_by (Some (Holds m)) number code e = (m, refl)

module _ (p : Program) (objects : Objects Value ℕ) (number locals : ℕ) (made : Made) where
  empty_known : (n : ℕ) → All (λ v. IfSome v (IsKnown p.tables.texts p.tables.tuples objects)) (replicate n None)
  empty_known zero = All-nil (λ v. IfSome v (IsKnown p.tables.texts p.tables.tuples objects))
  empty_known (suc n) = All-cons (λ v. IfSome v (IsKnown p.tables.texts p.tables.tuples objects)) None (replicate n None) tt (empty_known n)

  call_known : number < length p.shelf.modules → AreMade objects made → IsKnownCall p objects (main_call number locals made)
  call_known counted are = record {
    of_module = counted;
    names = are.names;
    role = tt;
    locals = empty_known locals;
    slots = All-nil (known.IsKnownSlot p.tables.texts p.tables.tuples objects);
    entries = All-nil (known.KeepsException objects);
  }

  module _ (name : Name) (main : IsMain p number locals name) (code_is : IsCodeOf p number 0 main.row) (means : Means p) (new : Calls) (calls_are : new.calls ≡ main_call number locals made ∷ []) where
    -- the laws of the lower crates
    module _ (placed : (view : View) (c : Call) (bytes : List ℕ) (l : CodeList) → Listed bytes l → 0 < length bytes → starts_of view c ≡ l.offsets → c.at ≡ 0 → c.entries ≡ [] → IsPlaced view c)
        (fits : (plans : Plans) (library : Library) (name : Name) (m : Module) (w : PlainWorld) → Follows plans library → entry_in library name ≡ Some (Holds m) → Fits plans library (start library name w)) where
      call_placed : IsPlaced (view_of p.tables) (main_call number locals made)
      call_placed = placed (view_of p.tables) (main_call number locals made) main.row.instructions.now code_is.list code_is.listed code_is.some code_is.starts_are refl refl

      calls_fit : (w w1 : PlainWorld) → start p.library name w ≡ running_of p.tables 0 (main_call number locals made ∷ []) w1 → FitCalls p (main_call number locals made ∷ [])
      calls_fit w w1 e =
          let there : code_at p.library name 0 ≡ Some code_is.code = ap (λ (n : Name). code_at p.library n 0) (sym main.name_is) ∙ code_is.there in
          let held = held_by (entry_in p.library name) 0 code_is.code there in
          subst (Fits p.plans p.library) e (fits p.plans p.library name held.0 w means.follows held.1)

      pub is_state : (w w1 : PlainWorld) → start p.library name w ≡ running_of p.tables 0 (main_call number locals made ∷ []) w1 → number < length p.shelf.modules → AreMade objects made → HasRooms p new
          → AllTold p.tables.texts p.tables.tuples objects → IsState p objects new
      is_state w w1 e counted are rooms told =
          let P : Call → Type 0 = λ c. IsPlaced (view_of p.tables) c in
          let K : Call → Type 0 = λ c. IsKnownCall p objects c in
          let M : Call → Type 0 = λ c. IsOfModule p c in
          record {
            running = record {
              fits = subst (FitCalls p) (sym calls_are) (calls_fit w w1 e);
              placed = subst (All P) (sym calls_are) (All-cons P (main_call number locals made) [] call_placed (All-nil P));
              of_modules = subst (All M) (sym calls_are) (All-cons M (main_call number locals made) [] counted (All-nil M));
              rooms = rooms;
            };
            known = subst (All K) (sym calls_are) (All-cons K (main_call number locals made) [] (call_known counted are) (All-nil K));
            all_told = told;
          }
