-- The names of codes have numbers, and each has one.
use Rattle.std.proofs.Common.{◌≡◌, ℕ, Option, Some, sym, ap, subst, ◌∙◌}
use Rattle.std.specs.Prelude.{unwrap_or, slice_get}
use Rattle.std.specs.Option.{option_map}
use Rattle.bc_library.specs.bc_verify.qstr_pool.declared.table.TheConstants.{FIRST_OWN}
use Rattle.bc_library.specs.bc_verify.Verified.{IsVerified}
use Rattle.bc_library.specs.mpy_tree.File.{IsModule}
use Rattle.bc_library.specs.mpy_tree.Raw.{Module}
use Rattle.bc_library.specs.Shelf.{Shelf, Named, module_at}
use Rattle.bc_library.specs.Texts.{text_numbered}
use Rattle.bc_machine.specs.Library.{Code, code_at}
use Rattle.vm_starting.specs.vm_states.bc_rows.declared.row.Row.{Row}
use Rattle.vm_starting.specs.vm_states.bc_rows.Rows.{IsRow}
use Rattle.vm_starting.specs.vm_states.Means.{Program, Means}
use Rattle.vm_starting.specs.Codes.{IsCodeOf}
use Rattle.vm_starting.specs.Programs.{IsProgramOf, IsRunnable}
use Rattle.snap_states.specs.Decoded.{AreTitles, name_number}
use Rattle.snap_loading.proofs.Finding.{name_found}
use Rattle.snap_loading.proofs.Numbering.{OneNumber}

-- a library whose modules are such runs
pub runs : (shelf : Shelf) → ((i k : ℕ) (a b : Named) → slice_get shelf.modules i ≡ Some a → slice_get shelf.modules k ≡ Some b → a.name ≡ b.name → i ≡ k)
    → ((i : ℕ) (m : Module) → module_at shelf i ≡ Some m → IsModule m) → ((i : ℕ) (m : Module) → module_at shelf i ≡ Some m → IsVerified m) → IsRunnable shelf
runs shelf distinct files verified = record { distinct = distinct; are_modules = files; are_verified = verified }

-- what the law of codes says
abbrev pub CodeLaw : Type 0
CodeLaw = (p : Program) (i k : ℕ) (row : Row) → Means p → IsRow p.shelf i k row → IsCodeOf p i k row

-- the number of the name of a code, if it is there
abbrev pub title_in : Shelf → Option Code → ℕ
title_in shelf code = unwrap_or (option_map (λ (c : Code). name_number shelf c.name) code) 0

-- the numbers of the names of a program's codes
abbrev pub title_of : Shelf → Program → ℕ → ℕ → ℕ
title_of shelf p m k = title_in shelf (code_at p.library (p.tables.module_name m) k)

module _ (law : CodeLaw) (shelf : Shelf) (p : Program) (of : IsProgramOf shelf p) where
  -- the code of a row, and its name
  named : (m k : ℕ) (row : Row) → IsRow shelf m k row → (code : Code) × (code_at p.library (p.tables.module_name m) k ≡ Some code) × (text_numbered shelf.pool row.name ≡ Some code.name)
  named m k row is =
      let c = law p m k row of.means (subst (λ (z : Shelf). IsRow z m k row) (sym of.shelf_is) is) in
      (c.code, c.there, subst (λ (z : Shelf). text_numbered z.pool row.name ≡ Some c.code.name) of.shelf_is c.runs.name)

  pub titles : shelf.pool.first ≡ FIRST_OWN → AreTitles shelf (title_of shelf p)
  titles first m k row is =
      let n = named m k row is in
      ap (λ (o : Option Code). text_numbered shelf.pool (title_in shelf o)) n.1 ∙ (name_found shelf n.0.name row.name first n.2 ∙ sym n.2)

  -- the number of a row's name is that of its code
  pub one_title : OneNumber shelf.pool → (m k : ℕ) (row : Row) → IsRow shelf m k row → (title : ℕ → ℕ → ℕ) → AreTitles shelf title → row.name ≡ title m k
  one_title one m k row is title are = let n = named m k row is in one n.0.name row.name (title m k) n.2 (are m k row is ∙ n.2)

  pub titles_agree : OneNumber shelf.pool → (m k : ℕ) (row : Row) → IsRow shelf m k row → (a b : ℕ → ℕ → ℕ) → AreTitles shelf a → AreTitles shelf b → a m k ≡ b m k
  titles_agree one m k row is a b are others = sym (one_title one m k row is a are) ∙ one_title one m k row is b others
