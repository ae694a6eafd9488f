-- A program's texts, tuples and names, and those of its constants.
use Rattle.std.proofs.Common.{◌≡◌, ◌<◌, ℕ, List, length, Option, Some, All, slice_get, sym, subst}
use Rattle.prim_faults.specs.arena_heap.declared.value.Value.{Value}
use Rattle.prim_faults.specs.arena_heap.declared.value.StrNo.{StrNo}
use Rattle.prim_faults.specs.arena_heap.declared.value.ConstNo.{ConstNo}
use Rattle.vm_states.specs.mpy_base.World.{Objects, Heap}
use Rattle.bc_progress.specs.py_effects.Heaps.{Registered}
use Rattle.prim_faults.specs.prim_walks.Plain.{plain_name, plain_heap}
use Rattle.vm_states.specs.prim_modules.Registry.{Registry, plain_modules}
use Rattle.vm_states.specs.vm_frames.Calls.{Call}
use Rattle.vm_states.specs.frame_exits.declared.names.ModuleName.{ModuleName}
use Rattle.vm_states.specs.frame_exits.Names.{AreTablesOf}
use Rattle.vm_states.specs.frame_exits.Known.{IsKnownCall}
use Rattle.vm_states.specs.frame_exits.Left.{HasLast}
use Rattle.vm_states.specs.Means.{Program}
use Rattle.vm_states.specs.Running.{IsOfModule}
use Rattle.vm_states.specs.Acting.{Tells}
use Rattle.state_exits.specs.Modules.{AreNames, AreRegistered}

module _ (texts : StrNo → Option (List ℕ)) (tuples : ConstNo → Option (List Value)) (p : Program) (tells : Tells texts tuples p) where
  -- from the program's
  pub out : (P : (StrNo → Option (List ℕ)) → (ConstNo → Option (List Value)) → Type 0) → P p.tables.texts p.tables.tuples → P texts tuples
  out P h = subst (λ (z : ConstNo → Option (List Value)). P texts z) tells.tuples_are (subst (λ (z : StrNo → Option (List ℕ)). P z p.tables.tuples) tells.texts_are h)

  -- and to them
  pub into : (P : (StrNo → Option (List ℕ)) → (ConstNo → Option (List Value)) → Type 0) → P texts tuples → P p.tables.texts p.tables.tuples
  into P h = subst (λ (z : StrNo → Option (List ℕ)). P z p.tables.tuples) (sym tells.texts_are) (subst (λ (z : ConstNo → Option (List Value)). P texts z) (sym tells.tuples_are) h)

  module _ (names : List ModuleName) (named : AreNames p names) where
    pub tables_are : AreTablesOf texts tuples names p.tables
    tables_are = record {
      texts_are = tells.texts_are;
      tuples_are = tells.tuples_are;
      names_are = out (λ x y. (number : ℕ) (m : ModuleName) → slice_get names number ≡ Some m → p.tables.module_name number ≡ plain_name x y m.name) named.names_are;
    }

    pub counted : (cs : List Call) → All (IsOfModule p) cs → All (λ c. c.module_number < length names) cs
    counted cs h = subst (λ (n : ℕ). All (λ (c : Call). c.module_number < n) cs) (sym named.as_many) h

    pub known_out : (objects : Objects Value ℕ) (cs : List Call) → All (IsKnownCall p.tables.texts p.tables.tuples (length p.shelf.modules) objects) cs → All (IsKnownCall texts tuples (length names) objects) cs
    known_out objects cs h =
        subst (λ (n : ℕ). All (IsKnownCall texts tuples n objects) cs) (sym named.as_many) (out (λ x y. All (IsKnownCall x y (length p.shelf.modules) objects) cs) h)

    pub last_out : All (HasLast texts tuples) names
    last_out = out (λ x y. All (HasLast x y) names) named.last

    pub registered_out : (heap : Heap Value ℕ) (modules : Registry) → AreRegistered p heap modules → Registered (plain_modules texts tuples modules) (plain_heap texts tuples heap)
    registered_out heap modules h = out (λ x y. Registered (plain_modules x y modules) (plain_heap x y heap)) h.registered
