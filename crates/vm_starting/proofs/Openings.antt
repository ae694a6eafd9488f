-- Runs that are opened.
use Rattle.std.proofs.Common.{◌≡◌, ℕ, zero, suc, ◌+◌, ◌<◌, ◌≤◌, List, [], ◌∷◌, length, Option, Some, None, refl, sym, ap, subst, ◌∙◌, arith}
use Rattle.std.specs.Prelude.{slice_get, option_and_then}
use Rattle.std.proofs.lemmas.List.Elements.{All-nil}
use Rattle.mpy_base.specs.declared.limits.TheConstants.{MAX_DEPTH}
use Rattle.mpy_base.specs.World.{Heap, PortState}
use Rattle.mpy_base.specs.Weights.{empty}
use Rattle.frame_calls.specs.arena_heap.declared.value.Value.{Value}
use Rattle.frame_calls.specs.arena_heap.declared.value.StrNo.{StrNo}
use Rattle.frame_calls.specs.arena_heap.declared.value.ConstNo.{ConstNo}
use Rattle.frame_calls.specs.arena_heap.Constants.{IsTold}
use Rattle.frame_calls.specs.arena_objects.Keys.{AllTold}
use Rattle.bc_resolved.specs.bc_verify.bc_prelude.declared.prelude.Prelude.{Prelude}
use Rattle.bc_resolved.specs.bc_verify.mpy_tree.Raw.{Module}
use Rattle.vm_states.specs.bc_library.Greatest.{ShelfHas, IsGreatestIn}
use Rattle.vm_states.specs.bc_library.Shelf.{Shelf, Named}
use Rattle.frame_calls.specs.bc_machine.Library.{Name}
use Rattle.vm_states.specs.bc_rows.declared.row.Row.{Row}
use Rattle.bc_resolved.specs.bc_verify.mpy_tree.Codes.{Placed, codes_of}
use Rattle.bc_library.proofs.bc_verify_lemmas.mpy_tree_lemmas.Codes.{own_place, codes_open}
use Rattle.vm_states.specs.bc_rows.Codes.{code_numbered}
use Rattle.vm_states.specs.bc_rows.Rows.{IsRow}
use Rattle.bc_progress.specs.py_effects.Ends.{new_world}
use Rattle.vm_states.specs.vm_frames.Calls.{Calls}
use Rattle.frame_calls.specs.prim_modules.Registry.{Registry}
use Rattle.vm_states.specs.frame_moves.Outcomes.{world_of}
use Rattle.vm_states.specs.frame_exits.Ends.{with_modules}
use Rattle.vm_states.specs.Means.{Program}
use Rattle.vm_states.specs.Running.{HasRooms}
use Rattle.vm_starting.specs.Codes.{IsCodeOf}
use Rattle.vm_starting.specs.Programs.{IsProgramOf}
use Rattle.vm_starting.specs.Starting.{IsMain}

-- slots
-- =====

prelude_few : (shelf : Shelf) (p : Prelude) → ShelfHas shelf p → p.n_state ≤ 4096
prelude_few shelf p h = let s = h.has.begins.is_signature in omega (arith, s.n_state, s.small.slots)

pub few_slots : (shelf : Shelf) (n_state n_exc : ℕ) → IsGreatestIn (ShelfHas shelf) n_state n_exc → n_state ≤ 4096
few_slots shelf zero n_exc g = omega arith
few_slots shelf (suc n) n_exc g = let f = g.some_state (omega arith) in let few = prelude_few shelf f.0 f.1 in omega (arith, few, f.2)

module _ (p : Program) (shelf : Shelf) (of : IsProgramOf shelf p) (n_state n_exc : ℕ) (greatest : IsGreatestIn (ShelfHas shelf) n_state n_exc) where
  greatest_in : IsGreatestIn (ShelfHas p.shelf) n_state n_exc
  greatest_in = subst (λ (s : Shelf). IsGreatestIn (ShelfHas s) n_state n_exc) (sym of.shelf_is) greatest

  pub rooms : (s : Calls) → s.slot_room ≡ n_state + 1 → s.entry_room ≡ n_exc → HasRooms p s
  rooms s slots entries = record {
    slots = λ name number code is. let r = of.rooms n_state n_exc greatest_in name number code is in omega (arith, r.0, slots);
    entries = λ name number code is. let r = of.rooms n_state n_exc greatest_in name number code is in omega (arith, r.1, entries);
  }

  pub locals_few : (i : ℕ) (row : Row) → IsCodeOf p i 0 row → row.locals ≤ n_state
  locals_few i row is =
      let r = of.rooms n_state n_exc greatest_in (p.tables.module_name i) 0 is.code is.there in
      omega (arith, r.0, is.fits, is.runs.locals)

-- the first code
-- ==============

first_code : (m : Module) → (n : Placed) × (slice_get (codes_of m) 0 ≡ Some n)
first_code m = (own_place 31 [] 0 m.code, ap (λ z. slice_get z 0) (codes_open MAX_DEPTH 31 [] 0 m.code refl))

code_in : (modules : List Named) (i : ℕ) → i < length modules → option_and_then (λ (m : Module). slice_get (codes_of m) 0) (option_and_then (λ (n : Named). Some n.held) (slice_get modules i)) ≡ None → ⊥
code_in [] i lt e = omega (arith, lt)
code_in (n ∷ modules) zero lt e = let first = first_code n.held in let wrong : Some first.0 ≡ None = sym first.1 ∙ e in cc
code_in (n ∷ modules) (suc i) lt e = code_in modules i (omega (arith, lt)) e

pub code_there : (shelf : Shelf) (i : ℕ) → i < length shelf.modules → code_numbered shelf i 0 ≡ None → ⊥
code_there shelf i lt e = code_in shelf.modules i lt e

-- an empty world
-- ==============

pub fresh_world : (p : Program) (cells bytes : ℕ) (ports : List PortState) (m : Registry) (arena : Heap Value ℕ) → m.entries ≡ [] → arena ≡ empty cells bytes
    → world_of p.tables (with_modules p.tables (new_world cells bytes ports) m) arena ≡ new_world cells bytes ports
fresh_world p cells bytes ports m arena none fresh =
    ap (λ (h : Heap Value ℕ). world_of p.tables (with_modules p.tables (new_world cells bytes ports) m) h) fresh
    ∙ ap (λ es. let r : Registry = record { entries = es; room = m.room } in world_of p.tables (with_modules p.tables (new_world cells bytes ports) r) (empty cells bytes)) none

pub nothing_told : (texts : StrNo → Option (List ℕ)) (tuples : ConstNo → Option (List Value)) (cells bytes : ℕ) (arena : Heap Value ℕ) → arena ≡ empty cells bytes → AllTold texts tuples arena.objects
nothing_told texts tuples cells bytes arena fresh =
    subst (λ (h : Heap Value ℕ). AllTold texts tuples h.objects) (sym fresh) (record { told = λ n. All-nil (IsTold texts tuples) })

-- programs
-- ========

pub main_in : (p : Program) (shelf rows : Shelf) (number locals : ℕ) (name : Name) → IsProgramOf shelf p → rows ≡ shelf → p.tables.module_name number ≡ name
    → (row : Row) → IsRow rows number 0 row → locals ≡ row.locals → IsMain p number locals name
main_in p shelf rows number locals name of e name_is row is locals_are = record {
  name_is = name_is;
  row = row;
  is_row = subst (λ (s : Shelf). IsRow s number 0 row) (e ∙ sym of.shelf_is) is;
  locals_are = locals_are;
}
