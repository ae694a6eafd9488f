-- The outermost code of a module that a name leads to.
use Rattle.std.proofs.Common.{◌≡◌, ◌<◌, ℕ, zero, suc, List, [], ◌∷◌, length, Option, Some, slice_get, refl, sym, ap, ◌∙◌, subst, arith}
use Rattle.std.specs.Prelude.{IsSome, option_and_then}
use Rattle.std.specs.List.{AllByRecursion}
use Rattle.std.proofs.lemmas.List.{length-append}
use Rattle.std.proofs.lemmas.Option.{same_Some, slice_get_within}
use Rattle.vm_states.specs.mpy_tree.File.{IsModule}
use Rattle.vm_states.specs.mpy_tree.Raw as raw
use Rattle.vm_states.specs.mpy_tree.Resolved.{ResolvedModule, Resolves}
use Rattle.vm_states.specs.mpy_tree.Codes.{codes_of}
use Rattle.vm_states.specs.bc_ops.Listing.{Piece, IsPiece, joined, starts, items_at}
use Rattle.vm_states.specs.bc_labels.Positions.{CodeList, Listed}
use Rattle.vm_states.proofs.bc_labels_lemmas.Pieces.{some_text, all_spelled}
use Rattle.vm_states.specs.bc_library.declared.fault.Member.TheVariants as members
use Rattle.vm_states.specs.bc_library.Shelf.{Shelf, Named, module_at, member_of}
use Rattle.vm_states.specs.bc_machine.Library as machine
use Rattle.vm_states.specs.bc_machine.Library.{Name, Code, Line, Module, Holds, Library, entry_in, module_in, code_in, code_at, module_of}
use Rattle.vm_states.specs.bc_machine.State.{Frame, Main}
use Rattle.vm_states.specs.bc_machine.Parts.{new_frame}
use Rattle.vm_states.specs.bc_progress.Slots.{anything}
use Rattle.vm_states.specs.bc_progress.Plans.{Plans, Follows}
use Rattle.vm_states.specs.bc_progress.Fits.{Stands, IsWithin}
use Rattle.vm_states.proofs.bc_progress_lemmas.Steps.{new_stands}
use Rattle.vm_states.specs.bc_rows.declared.row.Row.{Row}
use Rattle.vm_states.specs.bc_rows.Codes.{code_numbered}
use Rattle.vm_states.specs.bc_rows.Rows.{IsRow}
use Rattle.vm_states.specs.bc_rows.Runs.{RunsAs}
use Rattle.vm_states.specs.vm_frames.Calls.{Calls}
use Rattle.vm_states.specs.frame_exits.Importing.{StandsFor}
use Rattle.vm_states.specs.frame_exits.Beginning.{IsOutermost}
use Rattle.vm_states.specs.Means.{Program, IsMeant, Means}
use Rattle.vm_states.specs.Running.{HasRooms}
use Rattle.state_exits.proofs.Shelves as shelves
use Rattle.state_exits.proofs.Shelves.{member_stands}

-- the machine's library holds what the shelf has
-- ==============================================

pub stands_for : (p : Program) → Means p → StandsFor p.tables p.shelf p.library
stands_for p means = record {
  absent = means.others;
  refused = means.refused;
  modules = λ name number is.
      let h = member_stands p.shelf name number is in
      let meant = means.modules number h.named h.there in
      (module_of meant.tree, subst (λ (n : Name). entry_in p.library n ≡ Some (Holds (module_of meant.tree))) h.name_is meant.held, meant.name_is ∙ h.name_is);
}

-- bytes with an instruction
-- =========================

joined_some : (ps : List Piece) (offsets : List ℕ) (at : ℕ) → AllByRecursion IsPiece ps → 0 < length (items_at offsets at ps) → 0 < length (joined ps)
joined_some [] offsets at s h = absurd (omega (arith, h))
joined_some (p ∷ ps) offsets at s h = let n = length-append p.text (joined ps) in let k = some_text p s.0 in omega (arith, n, k)

bytes_some : (bytes : List ℕ) (l : CodeList) → Listed bytes l → 0 < length l.items → 0 < length bytes
bytes_some bytes l ls h =
    let ps = ls.is_list.pieces in
    let items = ap length ls.is_list.items_are in
    let k = joined_some ps (starts 0 ps) 0 (all_spelled bytes l ls) (omega (arith, h, items)) in
    let same = ap length ls.is_list.bytes_are in
    omega (arith, k, same)

pub at_least : {A : Type 0} (xs : List A) (i : ℕ) → i < length xs → (x : A) × (slice_get xs i ≡ Some x)
at_least [] i h = absurd (omega (arith, h))
at_least (x ∷ xs) zero h = (x, refl)
at_least (x ∷ xs) (suc i) h = at_least xs i (omega (arith, h))

-- the outermost code
-- ==================

module _ (p : Program) (means : Means p) (name : Name) (number : ℕ) (is : member_of p.shelf name ≡ Some (members.Module number)) where
  abbrev h : shelves.Stands p.shelf name number
  h = member_stands p.shelf name number is

  meant : IsMeant p number h.named
  meant = means.modules number h.named h.there

  abbrev M : Module
  M = module_of meant.tree

  pub title_is : p.tables.module_name number ≡ name
  title_is = meant.name_is ∙ h.name_is

  held : entry_in p.library (p.tables.module_name number) ≡ Some (Holds M)
  held = ap (entry_in p.library) meant.name_is ∙ meant.held

  there : module_at p.shelf number ≡ Some h.named.held
  there = ap (λ (o : Option Named). option_and_then (λ (m : Named). Some m.held) o) h.there

  record First : Type 0 where
    pub code : Code
    pub listed : slice_get M.codes 0 ≡ Some code
    pub code_is : code_at p.library (p.tables.module_name number) 0 ≡ Some code

  first : First
  first =
      let c = at_least M.codes 0 (means.follows (p.tables.module_name number) M held).begins in
      record { code = c.0; listed = c.1; code_is = ap (λ (o : Option machine.Entry). code_in (module_in o) 0) held ∙ c.1 }

  abbrev F : Frame
  F = new_frame (p.tables.module_name number) 0 first.code [] 0 Main

  stands : Stands p.plans p.library F
  stands = new_stands anything p.plans p.library means.follows (p.tables.module_name number) 0 first.code [] 0 Main first.code_is (omega arith)

  code_same : stands.code ≡ first.code
  code_same = same_Some stands.code first.code (sym stands.code_is ∙ first.code_is)

  pub outermost_there : ((m : raw.Module) (tree : ResolvedModule) → IsModule m → Resolves m tree → length (module_of tree).codes ≡ length (codes_of m)) → IsSome (code_numbered p.shelf number 0)
  outermost_there as_many =
      let count = as_many h.named.held meant.tree meant.is_module meant.resolves in
      let few = slice_get_within M.codes 0 first.code first.listed in
      let found = at_least (codes_of h.named.held) 0 (subst (λ k. 0 < k) count few) in
      let e : code_numbered p.shelf number 0 ≡ Some found.0 = ap (λ (o : Option raw.Module). option_and_then (λ (m : raw.Module). slice_get (codes_of m) 0) o) there ∙ found.1 in
      subst IsSome (sym e) refl

  module _ (runs : (shelf : Shelf) (i k : ℕ) (m : raw.Module) (tree : ResolvedModule) (r : Row) → IsModule m → module_at shelf i ≡ Some m
      → Resolves m tree → IsRow shelf i k r → (code : Code) × (slice_get (module_of tree).codes k ≡ Some code) × RunsAs shelf m r code)
      (row : Row) (is_row : IsRow p.shelf number 0 row) where
    runs_as : RunsAs p.shelf h.named.held row first.code
    runs_as =
        let found = runs p.shelf number 0 h.named.held meant.tree row meant.is_module there meant.resolves is_row in
        subst (RunsAs p.shelf h.named.held row) (same_Some found.0 first.code (sym found.1 ∙ first.listed)) found.2

    -- its locals fit into any frame
    pub locals_fit : ((plans : Plans) (library : Library) (g : Frame) → Follows plans library → (k : Stands plans library g) → IsWithin (plans g.module_name g.code) k.code g)
        → (s : Calls) → HasRooms p s → row.locals < s.slot_room
    locals_fit rooms s has =
        let slots = (rooms p.plans p.library F means.follows stands).slots in
        let planned = has.slots (p.tables.module_name number) 0 first.code first.code_is in
        let same = runs_as.locals in
        let code = ap (λ (c : Code). c.locals) code_same in
        omega (arith, slots, planned, same, code)

    pub is_outermost : ((plans : Plans) (library : Library) (g : Frame) → Follows plans library → (k : Stands plans library g) → (line : Line) × (slice_get k.code.lines g.position ≡ Some line))
        → IsOutermost p.tables p.library number row.locals
    is_outermost lines =
        let l = is_row.is_row.list in
        let line = lines p.plans p.library F means.follows stands in
        let some = slice_get_within stands.code.lines 0 line.0 line.1 in
        let code = ap (λ (c : Code). length c.lines) code_same in
        let count = runs_as.as_many l is_row.is_row.listed in
        record {
          code = first.code;
          there = first.code_is;
          locals_are = runs_as.locals;
          bytes = row.instructions.now;
          list = l;
          listed = is_row.is_row.listed;
          starts_are = meant.starts_are 0 row l is_row is_row.is_row.listed;
          some = bytes_some row.instructions.now l is_row.is_row.listed (omega (arith, some, count, code));
        }
