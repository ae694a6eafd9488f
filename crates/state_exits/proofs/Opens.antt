-- The main module is registered first.
use Rattle.std.proofs.Common.{◌≡◌, ◌<◌, ℕ, zero, List, [], ◌∷◌, ◌++◌, length, map, Ok, refl, sym, ap, ◌∙◌, subst}
use Rattle.std.specs.Prelude.{Contains, codes}
use Rattle.std.specs.List.{IsDistinct}
use Rattle.std.proofs.lemmas.List.Elements.{All-nil}
use Rattle.vm_states.specs.mpy_base.World.{Heap}
use Rattle.vm_states.specs.mpy_base.Val.{PlainWorld}
use Rattle.prim_faults.specs.arena_heap.declared.value.Value.{Value}
use Rattle.bc_progress.specs.py_effects.Ends.{new_world}
use Rattle.bc_progress.specs.py_effects.Heaps.{Formed, Registered, Sound}
use Rattle.bc_progress.specs.py_effects.Modules.{make_module}
use Rattle.bc_machine.proofs.py_effects_lemmas.ModuleGrows.{made_sound}
use Rattle.vm_states.specs.bc_machine.Library.{Name}
use Rattle.prim_faults.specs.prim_walks.Plain.{plain_name, plain_heap}
use Rattle.vm_states.specs.prim_modules.declared.entry.Entry.{Entry}
use Rattle.vm_states.specs.prim_modules.declared.makings.Made.{Made}
use Rattle.vm_states.specs.prim_modules.Registry.{Registry, plain_entry, plain_modules, with_entry}
use Rattle.vm_states.specs.prim_modules.Effects.{world_with, IsMaking}
use Rattle.vm_states.specs.Means.{Program}
use Rattle.state_exits.specs.Own.{AreOwn}
use Rattle.state_exits.specs.Modules.{registered_names, AreRegistered}
use Rattle.state_exits.proofs.Registered.{own_more}
use Rattle.state_exits.proofs.Shelves.{contains_at}

own_none : (names : List Name) → AreOwn names []
unfolding IsDistinct
own_none names = record { named = All-nil (λ (m : Name × ℕ). Contains names (m.0)); once = tt }

pub main_registered : (p : Program) (old new : Heap Value ℕ) (before after : Registry) (made : Made) (name : ℕ) → Formed (plain_heap p.tables.texts p.tables.tuples old) → before.entries ≡ [] → length p.shelf.modules < before.room
    → plain_name p.tables.texts p.tables.tuples name ≡ codes "__main__"
    → IsMaking p.tables.texts p.tables.tuples old new before after (Ok made) (λ w. make_module w (plain_name p.tables.texts p.tables.tuples name))
    → after ≡ with_entry before (record { name = name; object = made.number }) → AreRegistered p new after
main_registered p old new before after made name formed none room titled making is =
    let texts = p.tables.texts in
    let tuples = p.tables.tuples in
    let w : PlainWorld = new_world 0 0 [] in
    let title : Name = plain_name texts tuples name in
    let e : Entry = record { name = name; object = made.number } in
    let no_modules : plain_modules texts tuples before ≡ [] = ap (map (plain_entry texts tuples)) none in
    let sound : Sound (world_with texts tuples w old before) = record { formed = formed; registered = subst (λ (ms : List (Name × ℕ)). Registered ms (plain_heap texts tuples old)) (sym no_modules) tt } in
    let f = (made_sound (world_with texts tuples w old before) title).by sound in
    let made_so : Sound (make_module (world_with texts tuples w old before) title).world = record { formed = f.heap.formed; registered = f.registered } in
    let behind : Sound (world_with texts tuples w new after) = subst Sound (sym (making.world w)) made_so in
    let listed : plain_modules texts tuples after ≡ (codes "__main__", made.number.cell) ∷ [] =
    ap (plain_modules texts tuples) is ∙ ap (λ (es : List Entry). map (plain_entry texts tuples) (es ++ e ∷ [])) none ∙ ap (λ (n : Name). (n, made.number.cell) ∷ []) titled in
    record {
      formed = behind.formed;
      registered = behind.registered;
      own = subst (AreOwn (registered_names p)) (sym listed)
          (own_more (registered_names p) [] (codes "__main__") made.number.cell (own_none (registered_names p)) (contains_at (registered_names p) zero (codes "__main__") refl) refl);
      room = subst (λ (n : ℕ). length p.shelf.modules < n) (sym (ap (λ (z : Registry). z.room) is)) room;
    }
