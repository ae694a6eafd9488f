-- Imports, where a run comes to.
use Rattle.std.proofs.Common.{◌≡◌, ◌<◌, ◌≤◌, ℕ, suc, List, [], ◌∷◌, ◌++◌, length, map, take, Bool, true, false, cond, Option, Some, None, Result, Ok, Err, All, slice_get, refl, sym, ap, ◌∙◌, subst, arith}
use Rattle.std.specs.Prelude.{Contains, IfErr, IsSome, bytes_eq, nat_lt}
use Rattle.std.proofs.lemmas.Bool.{ltb-true}
use Rattle.std.proofs.lemmas.List.{length-map, map-append}
use Rattle.vm_states.specs.mpy_base.declared.limits.TheConstants.{MAX_CALLS}
use Rattle.vm_states.specs.mpy_base.World.{Objects, Heap, AModule, IsA, object, kind_of}
use Rattle.vm_states.specs.mpy_base.Val.{At, PlainWorld}
use Rattle.prim_faults.specs.arena_heap.declared.value.Value.{Value}
use Rattle.prim_faults.specs.arena_heap.declared.value.StrNo.{StrNo}
use Rattle.prim_faults.specs.arena_heap.declared.value.StrNo.TheVariants as strs
use Rattle.prim_faults.specs.arena_heap.declared.value.ConstNo.{ConstNo}
use Rattle.prim_faults.specs.py_values.Shown.{PlainHeap}
use Rattle.bc_progress.specs.py_effects.Effect as effects
use Rattle.bc_progress.specs.py_effects.Ends.{new_world}
use Rattle.bc_progress.specs.py_effects.Heaps.{HasNames, Registered}
use Rattle.bc_progress.specs.py_effects.Modules.{prefixes, registered_as, module_or_port, module_named}
use Rattle.vm_states.specs.bc_library.declared.fault.Member.TheVariants as members
use Rattle.vm_states.specs.bc_library.Shelf.{Shelf, Named, member_of}
use Rattle.vm_states.specs.bc_machine.Library.{Name}
use Rattle.vm_states.specs.bc_rows.declared.row.Row.{Row}
use Rattle.prim_faults.specs.prim_walks.Plain.{plain, plain_name, plain_object, plain_heap}
use Rattle.prim_faults.proofs.prim_walks_lemmas.PlainValues.{object_plain}
use Rattle.prim_faults.specs.declared.stop.Stop.{Stop}
use Rattle.prim_faults.specs.Outcomes.{IsKnownAnswer}
use Rattle.prim_faults.proofs.Heaps.{kind_plain}
use Rattle.vm_states.specs.prim_modules.declared.entry.Entry.{Entry}
use Rattle.vm_states.specs.prim_modules.declared.makings.Made.{Made}
use Rattle.vm_states.specs.prim_modules.Registry.{Registry, plain_entry, plain_modules, with_entry}
use Rattle.vm_states.specs.vm_frames.declared.slot.Slot.{Slot}
use Rattle.vm_states.specs.vm_frames.Calls.{Calls, OfRunning}
use Rattle.vm_states.specs.vm_frames.Placed.{IsPlaced}
use Rattle.vm_states.specs.frame_moves.Shown.{view_of}
use Rattle.vm_states.specs.frame_moves.Outcomes.{outcome_of}
use Rattle.vm_states.specs.frame_values.Effects.{IsKnownStop}
use Rattle.vm_states.specs.frame_exits.declared.names.ModuleName.{ModuleName}
use Rattle.vm_states.specs.frame_exits.Ends.{with_modules}
use Rattle.vm_states.specs.frame_exits.Known.{Keeps}
use Rattle.vm_states.specs.frame_exits.declared.importing.Import.{Import}
use Rattle.vm_states.specs.frame_exits.declared.importing.Import.TheVariants as imports
use Rattle.vm_states.specs.frame_exits.Importing.{HasOperands, AreOperands, IsModule, registered, port, IsImport}
use Rattle.vm_states.specs.frame_exits.Beginning.{begun, HasImported}
use Rattle.vm_states.specs.Tops.{TwoValues}
use Rattle.vm_states.specs.Means.{Program, Means}
use Rattle.vm_states.specs.Ready.{IsReady}
use Rattle.vm_states.specs.State.{IsState, IsKnownValue}
use Rattle.vm_states.specs.Acting.{Tells}
use Rattle.state_exits.specs.Own.{AreOwn}
use Rattle.state_exits.specs.Modules.{registered_names, AreNames, AreRegistered}
use Rattle.state_exits.specs.Running.{stepped_with}
use Rattle.state_exits.specs.Importing.{fetched_import, Imports}
use Rattle.state_exits.proofs.Registered.{few, own_more}
use Rattle.state_exits.proofs.Sounds.{SoundLaw}
use Rattle.state_exits.proofs.Tellings.{into}
use Rattle.state_exits.proofs.Places.{on_first}
use Rattle.state_exits.proofs.Ends.{Went, registered_behind, is_run, keeps_here}
use Rattle.state_exits.proofs.Returns.{same_calls}
use Rattle.state_exits.proofs.Shelves.{member_stands, stands_within, stands_named, contains_at, absent_none}

-- a module that is given is known
-- ===============================

has_by : (m : Name × ℕ) (o : Option ℕ) (n : ℕ) (heap : PlainHeap) (b : Bool) → cond b (Some (m.1)) o ≡ Some n → HasNames heap (m.1) → (o ≡ Some n → HasNames heap n) → HasNames heap n
has_by m o n heap true e h f = let same : m.1 ≡ n = cc in subst (HasNames heap) same h
has_by m o n heap false e h f = f e

some_has : (ms : List (Name × ℕ)) (name : Name) (n : ℕ) (heap : PlainHeap) → registered_as ms name ≡ Some n → Registered ms heap → HasNames heap n
some_has [] name n heap e h = absurd cc
some_has (m ∷ ms) name n heap e h = has_by m (registered_as ms name) n heap (bytes_eq (m.0) name) e h.0 (λ f. some_has ms name n heap f h.1)

module _ (p : Program) (heap : Heap Value ℕ) (modules : Registry) (reg : AreRegistered p heap modules) where
  module_there : (n : ℕ) → IsA (map (plain_object p.tables.texts p.tables.tuples) heap.objects) AModule n → IsA heap.objects AModule n
  module_there n h = sym (kind_plain p.tables.texts p.tables.tuples (object heap.objects n)) ∙ sym (ap kind_of (object_plain p.tables.texts p.tables.tuples heap.objects n)) ∙ h

  given_by : (name : Name) (n : ℕ) (o : Option ℕ) → registered_as (plain_modules p.tables.texts p.tables.tuples modules) name ≡ o → At n ≡ module_or_port o → IsA heap.objects AModule n
  given_by name n (Some k) e f =
      let same : n ≡ k = cc in
      module_there n (subst (λ (z : ℕ). IsA (map (plain_object p.tables.texts p.tables.tuples) heap.objects) AModule z) (sym same) (some_has _ name k (plain_heap p.tables.texts p.tables.tuples heap) e reg.registered).is_module)
  given_by name n None e f = absurd cc

  pub given_known : (v : Value) (name : Name) (w : PlainWorld) → IsModule v
      → plain p.tables.texts p.tables.tuples v ≡ module_named (record w { modules = plain_modules p.tables.texts p.tables.tuples modules }) name → IsKnownValue p heap.objects v
  given_known v name w (registered m) e =
      record { leads = record { meets = given_by name m.cell (registered_as (plain_modules p.tables.texts p.tables.tuples modules) name) refl e; small = tt }; told = tt }
  given_known v name w port e = record { leads = record { meets = tt; small = tt }; told = tt }

  -- room for a module that isn't registered
  pub room_for : (name : Name) → Contains (registered_names p) name → registered_as (plain_modules p.tables.texts p.tables.tuples modules) name ≡ None → length modules.entries < modules.room
  room_for name has none =
      let ms = plain_modules p.tables.texts p.tables.tuples modules in
      let n = few (registered_names p) ms name reg.own has none in
      let counted = length-map modules.entries (plain_entry p.tables.texts p.tables.tuples) in
      let named = length-map p.shelf.modules (λ (m : Named). m.name) in
      let room = reg.room in
      omega (arith, n, counted, named, room)

-- the operands
-- ============

pub operands_here : (p : Program) (s : Calls) (row : Row) (name end : ℕ) (r : IsReady p s row (fetched_import name end)) (t : TwoValues r.first.slots) → AreOperands t.top t.second s.calls
operands_here p s row name end r t =
    let has : HasOperands t.top t.second r.first = record { from_is = ap (λ (z : List Slot). slice_get z 0) t.are; level_is = ap (λ (z : List Slot). slice_get z 1) t.are } in
    on_first p s row (fetched_import name end) r (HasOperands t.top t.second) has

pub two_there : (p : Program) (s : Calls) (row : Row) (name end : ℕ) (r : IsReady p s row (fetched_import name end)) (t : TwoValues r.first.slots) → OfRunning (λ c. 2 ≤ length c.slots) s.calls
two_there p s row name end r t =
    let n = ap (λ (z : List Slot). length z) t.are in
    on_first p s row (fetched_import name end) r (λ c. 2 ≤ length c.slots) (omega (arith, n))

-- the text of the name is told
pub text_there : (p : Program) → Means p → (s : Calls) (row : Row) (name end : ℕ) → IsReady p s row (fetched_import name end) → IsSome (p.tables.texts (strs.Pool name))
text_there p means s row name end r = subst (λ (f : StrNo → Option (List ℕ)). IsSome (f (strs.Pool name))) (sym means.constants.texts) r.text

-- what it comes to, by the program's texts and shelf
pub import_here : (texts : StrNo → Option (List ℕ)) (tuples : ConstNo → Option (List Value)) (p : Program) → Tells texts tuples p → (shelf : Shelf) → p.shelf ≡ shelf → (w : PlainWorld) (modules : Registry) (deep : Bool) (name : ℕ) (from level : Value) (import : Import)
    → IsImport texts tuples shelf (record w { modules = plain_modules texts tuples modules }) deep (plain_name texts tuples name) from level import
    → IsImport p.tables.texts p.tables.tuples p.shelf (record w { modules = plain_modules p.tables.texts p.tables.tuples modules }) deep (plain_name p.tables.texts p.tables.tuples name) from level import
import_here texts tuples p tells shelf same w modules deep name from level import h =
    subst (λ (z : Shelf). IsImport p.tables.texts p.tables.tuples z (record w { modules = plain_modules p.tables.texts p.tables.tuples modules }) deep (plain_name p.tables.texts p.tables.tuples name) from level import) (sym same)
    (into texts tuples p tells (λ x y. IsImport x y shelf (record w { modules = plain_modules x y modules }) deep (plain_name x y name) from level import) h)

-- what a stop tells
pub stop_here : (texts : StrNo → Option (List ℕ)) (tuples : ConstNo → Option (List Value)) (objects : Objects Value ℕ) (result : Result (Unit {0}) Stop) → IfErr result (λ stop. IsKnownAnswer texts tuples objects (Err stop)) → IsKnownStop texts tuples objects result
stop_here texts tuples objects (Ok done) h = tt
stop_here texts tuples objects (Err stop) h = h

-- a module begins
-- ===============

-- what begins: the module with the number, whose name isn't registered
pub record Begins (p : Program) (modules : Registry) (depth number : ℕ) : Type 0 where
  pub title : Name
  pub member : member_of p.shelf title ≡ Some (members.Module number)
  pub none : registered_as (plain_modules p.tables.texts p.tables.tuples modules) title ≡ None
  pub shallow : nat_lt depth MAX_CALLS ≡ true

pub begins_here : (p : Program) (modules : Registry) (w : PlainWorld) (depth number : ℕ) (name : Name) (from level : Value)
    → IsImport p.tables.texts p.tables.tuples p.shelf (record w { modules = plain_modules p.tables.texts p.tables.tuples modules }) (nat_lt depth MAX_CALLS) name from level (imports.Begin number)
    → Begins p modules depth number
begins_here p modules w depth number name from level (len, absent, is) = record {
  title = take len name;
  member = is.0;
  none = absent_none (record w { modules = plain_modules p.tables.texts p.tables.tuples modules }) (prefixes name) (take len name) absent.absent;
  shallow = is.1;
}

module _ (p : Program) (modules : Registry) (depth number : ℕ) (b : Begins p modules depth number) where
  pub number_within : number < length p.shelf.modules
  number_within = stands_within p.shelf b.title number (member_stands p.shelf b.title number b.member)

  pub has_title : Contains (registered_names p) b.title
  has_title = contains_at (registered_names p) (suc number) b.title (stands_named p.shelf b.title number (member_stands p.shelf b.title number b.member))

  pub is_shallow : depth < MAX_CALLS
  is_shallow = ltb-true depth MAX_CALLS b.shallow

module _ (went : Went) (sounds : SoundLaw) (texts : StrNo → Option (List ℕ)) (tuples : ConstNo → Option (List Value)) (names : List ModuleName)
    (p : Program) (means : Means p) (tells : Tells texts tuples p) (named : AreNames p names)
    (before behind : Heap Value ℕ) (earlier later : Registry) (old new : Calls) (state : IsState p before.objects old) (reg : AreRegistered p before earlier)
    (keeps : Keeps texts tuples (length names) before.objects behind.objects old.calls new.calls) (placed : All (IsPlaced (view_of p.tables)) new.calls) (place : effects.Place) where
  abbrev Nothing : PlainWorld
  Nothing = new_world 0 0 []

  here : Keeps p.tables.texts p.tables.tuples (length p.shelf.modules) before.objects behind.objects old.calls new.calls
  here = keeps_here texts tuples p tells names named before.objects behind.objects old.calls new.calls keeps

  abbrev Steps : Result (Unit {0}) Stop → Type 0
  Steps result = (paid : ℕ) (w : PlainWorld) → stepped_with p paid old w before earlier ≡ outcome_of p.tables place (with_modules p.tables w later) behind old.calls new.calls result

  module _ (number locals : ℕ) (m : ModuleName) (m_is : slice_get names number ≡ Some m) (title : Name) (title_is : p.tables.module_name number ≡ title) (has : Contains (registered_names p) title)
      (none : registered_as (plain_modules p.tables.texts p.tables.tuples earlier) title ≡ None) where
    own_later : (made : Made) → later ≡ with_entry earlier (record { name = m.name; object = made.number }) → AreOwn (registered_names p) (plain_modules p.tables.texts p.tables.tuples later)
    own_later made is =
        let e : Entry = record { name = m.name; object = made.number } in
        let same : plain_name p.tables.texts p.tables.tuples m.name ≡ title = sym (named.names_are number m m_is) ∙ title_is in
        let more = own_more (registered_names p) (plain_modules p.tables.texts p.tables.tuples earlier) title made.number.cell reg.own has none in
        subst (AreOwn (registered_names p))
        (sym (ap (plain_modules p.tables.texts p.tables.tuples) is ∙ map-append (plain_entry p.tables.texts p.tables.tuples) earlier.entries (e ∷ [])
        ∙ ap (λ (n : Name). plain_modules p.tables.texts p.tables.tuples earlier ++ (n, made.number.cell) ∷ []) same)) more

    pub imports_so : (result : Result (Unit {0}) Stop) → Steps result → HasImported number locals m.name old new earlier later result → IsKnownStop p.tables.texts p.tables.tuples behind.objects result
        → Imports p place before behind earlier later old new result
    imports_so (Ok done) steps (made, begun_is) stop =
        let again = registered_behind went sounds p means before behind earlier later old new None state reg 0 Nothing Nothing (steps 0 Nothing) (own_later made begun_is.registered) (ap (λ (z : Registry). z.room) begun_is.registered) in
        record {
          steps = steps;
          state = (is_run went sounds p means before behind earlier later old new None state reg 0 Nothing Nothing (steps 0 Nothing) (here.known state.known) here.all_told placed
              (same_calls old new (begun number locals made ∷ old.calls) begun_is.calls) again tt).state;
          registered = again;
          stays = tt;
          objects = here.later;
          stop = stop;
        }
    imports_so (Err stopped) steps stayed stop = record {
      steps = steps;
      state = record {
        running = subst (Rattle.vm_states.specs.Running.IsRunning p) (sym stayed.calls) state.running;
        known = here.known state.known;
        all_told = here.all_told;
      };
      registered = tt;
      stays = record { calls = stayed.calls; registered = stayed.registered };
      objects = here.later;
      stop = stop;
    }

-- the rooms stay
-- ==============

pub imported_rooms : (number locals name : ℕ) (old new : Calls) (before behind : Registry) (result : Result (Unit {0}) Stop) → HasImported number locals name old new before behind result → new ≡ record old { calls = new.calls }
imported_rooms number locals name old new before behind (Ok done) (made, is) = same_calls old new (begun number locals made ∷ old.calls) is.calls
imported_rooms number locals name old new before behind (Err stop) is = same_calls old new old.calls is.calls

pub imported_registry : (number locals name : ℕ) (old new : Calls) (before behind : Registry) (result : Result (Unit {0}) Stop) → HasImported number locals name old new before behind result → behind.room ≡ before.room
imported_registry number locals name old new before behind (Ok done) (made, is) = ap (λ (z : Registry). z.room) is.registered
imported_registry number locals name old new before behind (Err stop) is = ap (λ (z : Registry). z.room) is.registered
