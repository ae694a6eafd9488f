-- Modules, codes and rows of a program of a library.
use Rattle.std.proofs.Common.{◌≡◌, ℕ, zero, suc, ◌<◌, ◌≤◌, List, [], ◌∷◌, length, Option, Some, None, refl, sym, ap, subst, ◌∙◌, arith}
use Rattle.std.specs.Prelude.{IsSome, slice_get, option_and_then}
use Rattle.std.proofs.lemmas.Option.{same_Some, slice_get_within, slice_get_past}
use Rattle.vm_states.specs.mpy_tree.File.{IsModule}
use Rattle.vm_states.specs.mpy_tree.Raw as raw
use Rattle.vm_states.specs.mpy_tree.Resolved.{ResolvedModule, Resolves}
use Rattle.vm_states.specs.mpy_tree.Codes.{codes_of}
use Rattle.vm_states.specs.bc_library.Constants.{items_at, text_at}
use Rattle.vm_states.specs.bc_library.Shelf.{Shelf, Named, module_at}
use Rattle.frame_calls.specs.arena_heap.declared.value.Value.{Value}
use Rattle.frame_calls.specs.arena_heap.declared.value.StrNo.{StrNo}
use Rattle.frame_calls.specs.arena_heap.declared.value.ConstNo.{ConstNo}
use Rattle.frame_calls.specs.bc_machine.Library.{Code, Holds, Entry, entry_in, module_in, code_in, code_at, module_of}
use Rattle.vm_states.proofs.bc_progress_lemmas.Steps.{get_there}
use Rattle.vm_states.specs.bc_rows.declared.row.Row.{Row}
use Rattle.vm_states.specs.bc_rows.Codes.{code_numbered}
use Rattle.vm_states.specs.bc_rows.Rows.{IsRow}
use Rattle.vm_states.specs.bc_rows.Runs.{RunsAs}
use Rattle.vm_states.specs.Means.{Program, IsMeant, Means}

-- the laws of rows
pub record Laws : Type 0 where
  pub runs : (shelf : Shelf) (i k : ℕ) (m : raw.Module) (tree : ResolvedModule) (row : Row) → IsModule m → module_at shelf i ≡ Some m
      → Resolves m tree → IsRow shelf i k row → (code : Code) × (slice_get (module_of tree).codes k ≡ Some code) × RunsAs shelf m row code
  pub as_many : (m : raw.Module) (tree : ResolvedModule) → IsModule m → Resolves m tree → length (module_of tree).codes ≡ length (codes_of m)

pub past : {A : Type 0} (xs : List A) (k : ℕ) → slice_get xs k ≡ None → length xs ≤ k
past [] k e = omega arith
past (x ∷ xs) zero e = cc
past (x ∷ xs) (suc k) e = let h = past xs k e in omega (arith, h)

module _ (p : Program) (means : Means p) (i : ℕ) (within : i < length p.shelf.modules) where
  -- a module of the program
  pub record At : Type 0 where
    pub n : Named
    pub is : slice_get p.shelf.modules i ≡ Some n
    pub meant : IsMeant p i n
    pub there : module_at p.shelf i ≡ Some n.held
    pub entry : entry_in p.library (p.tables.module_name i) ≡ Some (Holds (module_of meant.tree))

  pub here : At
  here =
      let n = get_there p.shelf.modules i within in
      let meant = means.modules i n.0 n.1 in
      record {
        n = n.0;
        is = n.1;
        meant = meant;
        there = ap (λ (o : Option Named). option_and_then (λ (m : Named). Some m.held) o) n.1;
        entry = ap (entry_in p.library) meant.name_is ∙ meant.held;
      }

  machine_code : (k : ℕ) → code_at p.library (p.tables.module_name i) k ≡ slice_get (module_of here.meant.tree).codes k
  machine_code k = ap (λ (o : Option Entry). code_in (module_in o) k) here.entry

  shelf_code : (k : ℕ) → code_numbered p.shelf i k ≡ slice_get (codes_of here.n.held) k
  shelf_code k = ap (λ (o : Option raw.Module). option_and_then (λ (m : raw.Module). slice_get (codes_of m) k) o) here.there

  module _ (laws : Laws) where
    count : length (module_of here.meant.tree).codes ≡ length (codes_of here.n.held)
    count = laws.as_many here.n.held here.meant.tree here.meant.is_module here.meant.resolves

    -- a code of the machine has a row
    pub row_there : (k : ℕ) (code : Code) → code_at p.library (p.tables.module_name i) k ≡ Some code → IsSome (code_numbered p.shelf i k)
    row_there k code e =
        let few = slice_get_within (module_of here.meant.tree).codes k code (sym (machine_code k) ∙ e) in
        let same = count in
        let found = get_there (codes_of here.n.held) k (omega (arith, few, same)) in
        subst IsSome (sym (shelf_code k ∙ found.1)) refl

    -- a code that has no row isn't one of the machine
    pub code_absent : (k : ℕ) → code_numbered p.shelf i k ≡ None → code_at p.library (p.tables.module_name i) k ≡ None
    code_absent k e =
        let many = past (codes_of here.n.held) k (sym (shelf_code k) ∙ e) in
        let same = count in
        machine_code k ∙ slice_get_past (module_of here.meant.tree).codes k (omega (arith, many, same))

    -- the machine's code of a row
    pub record Running (k : ℕ) (row : Row) : Type 0 where
      pub code : Code
      pub code_is : code_at p.library (p.tables.module_name i) k ≡ Some code
      pub runs : RunsAs p.shelf here.n.held row code

    pub running : (k : ℕ) (row : Row) → IsRow p.shelf i k row → Running k row
    running k row is =
        let found = laws.runs p.shelf i k here.n.held here.meant.tree row here.meant.is_module here.there here.meant.resolves is in
        record { code = found.0; code_is = machine_code k ∙ found.1; runs = found.2 }

    -- the row says of a code that is there what a run asks for
    pub runs_as : (k : ℕ) (row : Row) (code : Code) → IsRow p.shelf i k row → code_at p.library (p.tables.module_name i) k ≡ Some code → RunsAs p.shelf here.n.held row code
    runs_as k row code is e =
        let r = running k row is in
        subst (RunsAs p.shelf here.n.held row) (same_Some r.code code (sym r.code_is ∙ e)) r.runs

-- texts and constant tuples of a library and of its program
module _ (p : Program) (means : Means p) (shelf : Shelf) (shelf_is : p.shelf ≡ shelf) where
  pub texts_are : p.tables.texts ≡ text_at shelf
  texts_are = means.constants.texts ∙ ap text_at shelf_is

  pub tuples_are : p.tables.tuples ≡ items_at shelf
  tuples_are = means.constants.tuples ∙ ap items_at shelf_is

  pub over : (P : (StrNo → Option (List ℕ)) → (ConstNo → Option (List Value)) → Type 0) → P (text_at shelf) (items_at shelf) → P p.tables.texts p.tables.tuples
  over P h =
      subst (λ (u : ConstNo → Option (List Value)). P p.tables.texts u) (sym tuples_are) (subst (λ (t : StrNo → Option (List ℕ)). P t (items_at shelf)) (sym texts_are) h)

  pub under : (P : (StrNo → Option (List ℕ)) → (ConstNo → Option (List Value)) → Type 0) → P p.tables.texts p.tables.tuples → P (text_at shelf) (items_at shelf)
  under P h =
      subst (λ (u : ConstNo → Option (List Value)). P (text_at shelf) u) tuples_are (subst (λ (t : StrNo → Option (List ℕ)). P t p.tables.tuples) texts_are h)
