-- What a program, the library and the arena give of a machine whose snapshot was saved.
use Rattle.std.proofs.Common.{◌≡◌, ℕ, zero, suc, List, [], ◌∷◌, length, Option, Some, slice_get, sym, ap, ◌∙◌, subst, arith, All}
use Rattle.std.specs.Prelude.{option_and_then}
use Rattle.std.proofs.lemmas.List.Elements.{All-head, All-tail}
use Rattle.std.proofs.lemmas.Option.{slice_get_within}
use Rattle.arena_heap.specs.declared.value.Value.{Value}
use Rattle.arena_heap.specs.declared.value.StrNo.{StrNo}
use Rattle.arena_heap.specs.declared.value.ConstNo.{ConstNo}
use Rattle.bc_library.specs.mpy_tree.Codes.{codes_of}
use Rattle.bc_library.specs.mpy_tree.File.{IsModule}
use Rattle.bc_library.specs.mpy_tree.Raw as raw
use Rattle.bc_library.specs.mpy_tree.Resolved.{ResolvedModule, Resolves}
use Rattle.bc_library.specs.Constants.{items_at, text_at}
use Rattle.bc_library.specs.Shelf.{Shelf, Named, module_at}
use Rattle.bc_library.specs.Texts.{text_numbered}
use Rattle.bc_machine.specs.py_effects.Modules.{last_part}
use Rattle.bc_machine.specs.Library.{Code, module_of}
use Rattle.vm_starting.specs.frame_calls.arena_objects.Iterables.{or_nothing}
use Rattle.vm_starting.specs.vm_states.bc_rows.declared.row.Row.{Row}
use Rattle.vm_starting.specs.vm_states.bc_rows.Codes.{code_numbered}
use Rattle.vm_starting.specs.vm_states.bc_rows.Rows.{IsRow}
use Rattle.vm_starting.specs.vm_states.bc_rows.Runs.{RunsAs}
use Rattle.vm_starting.specs.vm_states.frame_exits.declared.names.ModuleName.{ModuleName}
use Rattle.vm_starting.specs.vm_states.frame_exits.Left.{HasLast}
use Rattle.vm_starting.specs.vm_states.Means.{Program, Means}
use Rattle.vm_starting.specs.Programs.{FindsAll, IsRunnable, IsProgramOf}
use Rattle.vm_starting.specs.Titles.{AreTitles}
use Rattle.vm_starting.specs.declared.opening.Vm.{Vm}
use Rattle.vm_machine.specs.prim_walks.Plain.{plain_heap}
use Rattle.vm_machine.specs.Machine.{IsVm}
use Rattle.snap_laws.specs.Filled.{AreFilled}
use Rattle.snap_kept.specs.Values.{AreFine}
use Rattle.snap_states.specs.States.{AreFineObjects}
use Rattle.snap_loading.specs.Saved.{IsRoomy, snapshot_in}
use Rattle.snap_loading.proofs.Bridging.{get_there}
use Rattle.snap_loading.proofs.Gathering.{Gathered}
use Rattle.snap_loading.proofs.Tabled.{HasNumbers}
use Rattle.snap_loading.proofs.Objectwise.{HasCodes, fine_objects}
use Rattle.snap_loading.specs.Given.{HasCodeRows, HasNames, HasTexts}

some_is : {A : Type 0} (x y : A) → Some x ≡ Some y → x ≡ y
some_is x y e = cc

all_at : {A : Type 0} (P : A → Type 0) (xs : List A) (i : ℕ) (x : A) → All P xs → slice_get xs i ≡ Some x → P x
all_at P [] i x h e = absurd cc
all_at P (y ∷ xs) zero x h e = subst P (some_is y x e) (All-head P y xs h)
all_at P (y ∷ xs) (suc i) x h e = all_at P xs i x (All-tail P y xs h) e

-- what is said of a program's strs and constant tuples is said of the library's
pub of_shelf : (shelf : Shelf) (p : Program) → IsProgramOf shelf p → (P : (StrNo → Option (List ℕ)) → (ConstNo → Option (List Value)) → Type 0)
    → P p.tables.texts p.tables.tuples → P (text_at shelf) (items_at shelf)
of_shelf shelf p program P h =
    subst (λ t. P (text_at shelf) t) (program.means.constants.tuples ∙ ap items_at program.shelf_is)
    (subst (λ t. P t p.tables.tuples) (program.means.constants.texts ∙ ap text_at program.shelf_is) h)

-- what laws below say
-- ===================

abbrev pub AsMany : Type 0
AsMany = (m : raw.Module) (tree : ResolvedModule) → IsModule m → Resolves m tree → length (module_of tree).codes ≡ length (codes_of m)

abbrev pub RowsRun : Type 0
RowsRun =
    (shelf : Shelf) (i k : ℕ) (m : raw.Module) (tree : ResolvedModule) (row : Row) → IsModule m → module_at shelf i ≡ Some m → Resolves m tree → IsRow shelf i k row
    → (code : Code) × (slice_get (module_of tree).codes k ≡ Some code) × RunsAs shelf m row code

abbrev pub LastsTold : Type 0
LastsTold = (p : Program) (names : List ModuleName) → Means p → AreTitles p.shelf names → All (HasLast p.tables.texts p.tables.tuples) names

-- the library
-- ===========

module _ (shelf : Shelf) (runnable : IsRunnable shelf) (rows : HasCodeRows shelf) (many : AsMany) (runs : RowsRun) where
  has_codes : HasCodes shelf
  has_codes = λ i n tree k c e resolves at.
      let here : module_at shelf i ≡ Some n.held = ap (option_and_then (λ (z : Named). Some z.held)) e in
      let is_module = runnable.are_modules i n.held here in
      let within = slice_get_within (module_of tree).codes k c at in
      let as_many = many n.held tree is_module resolves in
      let placed = get_there (codes_of n.held) k (omega (arith, within, as_many)) in
      let there : code_numbered shelf i k ≡ Some placed.0 = ap (option_and_then (λ (m : raw.Module). slice_get (codes_of m) k)) here ∙ placed.1 in
      let row = rows.rows i k placed.0 there in
      let own = runs shelf i k n.held tree row.0 is_module here resolves row.1 in
      let same : own.0 ≡ c = some_is own.0 c (sym own.1 ∙ at) in
      record {
        placed = row.1.code;
        there = row.1.there;
        prelude = row.1.is_row.prelude;
        begins = row.1.is_row.begins;
        defaults = ap (λ (z : Code). z.given) (sym same) ∙ (sym own.2.given ∙ row.1.is_row.given);
      }

module _ (shelf : Shelf) (p : Program) (program : IsProgramOf shelf p) (names : List ModuleName) (titles : AreTitles shelf names) (texts : HasTexts shelf) (lasts : LastsTold) where
  title_there : (i : ℕ) (n : Named) → slice_get shelf.modules i ≡ Some n → (m : ModuleName) × (slice_get names i ≡ Some m)
  title_there i n e =
      let within = slice_get_within shelf.modules i n e in
      let as_many = titles.as_many in
      get_there names i (omega (arith, within, as_many))

  last_told : (i : ℕ) (n : Named) (m : ModuleName) → slice_get shelf.modules i ≡ Some n → slice_get names i ≡ Some m → text_numbered shelf.pool m.last ≡ Some (last_part n.name)
  last_told i n m e f =
      let own : AreTitles p.shelf names = subst (λ (z : Shelf). AreTitles z names) (sym program.shelf_is) titles in
      let has : HasLast (text_at shelf) (items_at shelf) m = of_shelf shelf p program (λ t u. HasLast t u m) (all_at (HasLast p.tables.texts p.tables.tuples) names i m (lasts p names program.means own) f) in
      has ∙ ap (λ o. Some (last_part (or_nothing o))) (titles.each i m n f e).name_is

  pub has_numbers : HasNumbers shelf
  has_numbers = record {
    texts = texts.texts;
    titles = λ i n e. let m = title_there i n e in (m.0.name, (titles.each i m.0 n m.1 e).name_is);
    lasts = λ i n e. let m = title_there i n e in (m.0.last, last_told i n m.0 e m.1);
  }

-- the machine
-- ===========

pub objects_fine : (shelf : Shelf) (vm : Vm) (p : Program) → IsVm shelf vm → IsProgramOf shelf p → HasNames shelf → HasTexts shelf → HasCodeRows shelf → IsRoomy vm.arena.objects → Gathered p vm
    → FindsAll shelf p.library → AsMany → RowsRun → LastsTold → AreFineObjects shelf (snapshot_in shelf vm)
objects_fine shelf vm p is program named texts rows roomy g finds many runs lasts =
    fine_objects shelf vm.arena vm.modules vm.frames.calls vm.paid p.library
    (of_shelf shelf p program (λ t u. AreFine p.library (plain_heap t u vm.arena)) g.sound.heap)
    (record {
      finds = finds;
      numbers = has_numbers shelf p program vm.names.items is.memory.names texts lasts;
      codes = has_codes shelf is.runnable rows many runs;
      some_names = named.some;
      sound = roomy.sound;
      rooms = roomy.rooms;
      own_rooms = roomy.own_rooms;
    })
    (of_shelf shelf p program (λ t u. AreFilled (plain_heap t u vm.arena)) g.filled)
