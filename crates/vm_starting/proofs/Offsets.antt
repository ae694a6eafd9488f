-- The offsets that the instructions of a code start at, by the module that has it.
use Rattle.std.proofs.Common.{◌≡◌, ℕ, List, [], ◌∷◌, length, Option, Some, None, refl, sym, subst, ◌∙◌}
use Rattle.std.specs.Prelude.{slice_get, option_and_then}
use Rattle.mpy_base.specs.declared.limits.TheConstants.{MAX_DEPTH}
use Rattle.vm_states.specs.bc_ops.declared.listing.Item.{Item}
use Rattle.vm_states.specs.bc_ops.Listing.{Lists, starts}
use Rattle.frame_calls.specs.bc_labels.Positions.{CodeList, Listed}
use Rattle.bc_resolved.specs.bc_verify.mpy_tree.declared.raw.RawCode.{RawCode, out-RawCode}
use Rattle.bc_resolved.specs.bc_verify.mpy_tree.Raw.{Module}
use Rattle.bc_resolved.specs.bc_verify.mpy_tree.File.{IsOwnCode, IsModule}
use Rattle.bc_resolved.specs.bc_verify.mpy_tree.Codes.{code_at, Placed, codes_of}
use Rattle.bc_library.proofs.bc_verify_lemmas.mpy_tree_lemmas.Codes.{children, Nests, whole, module_nests, some_is, and_then_some, module_placed}
use Rattle.vm_states.specs.bc_library.Shelf.{Shelf, module_at}
use Rattle.vm_states.specs.bc_rows.declared.row.Row.{Row}
use Rattle.vm_states.specs.bc_rows.Codes.{code_numbered}
use Rattle.vm_states.specs.bc_rows.Rows.{IsRowOf, IsRow}
use Rattle.vm_states.proofs.bc_rows_lemmas.Preludes.{SameParts, same_parts}

-- the bytes are those of a code of a file
abbrev pub IsOwned : Placed → Type 0
IsOwned n = (texts : ℕ) × IsOwnCode texts n.bytes

owned_in : (texts levels : ℕ) (root : RawCode) (path : List ℕ) (code : RawCode) → Nests texts levels root → code_at path root ≡ Some code → IsOwnCode texts (out-RawCode code).bytes
owned_in texts levels root [] code nests e = subst (λ z. IsOwnCode texts (out-RawCode z).bytes) (some_is root code e) (whole texts levels root nests).own
owned_in texts levels root (n ∷ path) code nests e =
    let s = and_then_some (slice_get (children root) n) (code_at path) code e in
    let w = whole texts levels root nests in
    owned_in texts w.below s.0 path code (w.each n s.0 s.1) s.2

module_owned : (m : Module) (k : ℕ) (n : Placed) → IsModule m → slice_get (codes_of m) k ≡ Some n → IsOwned n
module_owned m k n is e =
    let p = module_placed m k n e in
    (length m.qstrs, subst (IsOwnCode (length m.qstrs)) (sym p.bytes) (owned_in (length m.qstrs) MAX_DEPTH m.code n.path p.code (module_nests m is) p.there))

pub code_of_module : (shelf : Shelf) → ((i : ℕ) (m : Module) → module_at shelf i ≡ Some m → IsModule m) → (i k : ℕ) (n : Placed) → code_numbered shelf i k ≡ Some n → IsOwned n
code_of_module shelf modules i k n e = by (module_at shelf i) refl e
  where
    by : (o : Option Module) → module_at shelf i ≡ o → option_and_then (λ (m : Module). slice_get (codes_of m) k) o ≡ Some n → IsOwned n
    by None f g = absurd cc
    by (Some m) f g = module_owned m k n (modules i m f) g

-- the offsets
-- ===========

abbrev offsets_in : (n : Placed) → IsOwned n → List ℕ
offsets_in n own = starts 0 own.1.listed.pieces

abbrev pub offsets_of : (o : Option Placed) → ((n : Placed) → o ≡ Some n → IsOwned n) → List ℕ
offsets_of None owned = []
offsets_of (Some n) owned = offsets_in n (owned n refl)

-- what files have of a code
pub record Once : Type 0 where
  pub one_start : (bytes : List ℕ) (a b : List Item) (m n : List ℕ) → Lists bytes a m → Lists bytes b n → (a ≡ b) × (m ≡ n)

module _ (once : Once) (shelf : Shelf) (i k : ℕ) (row : Row) (l : CodeList) (is : IsRow shelf i k row) (listed : Listed row.instructions.now l) where
  same_offsets : (n : Placed) (own : IsOwned n) → IsRowOf shelf i n row → offsets_in n own ≡ l.offsets
  same_offsets n own r =
      let parts : SameParts n.bytes own.1.prelude r.prelude own.1.begins r.begins = same_parts n.bytes own.1.prelude r.prelude own.1.begins r.begins in
      let instructions : own.1.begins.instructions ≡ row.instructions.now = parts.instructions ∙ sym r.instructions in
      let lists : Lists own.1.begins.instructions own.1.items (offsets_in n own) = record { is_list = own.1.listed; offsets_are = refl } in
      (once.one_start row.instructions.now own.1.items l.items (offsets_in n own) l.offsets (subst (λ z. Lists z own.1.items (offsets_in n own)) instructions lists) listed).1

  pub starts_are : (o : Option Placed) (owned : (n : Placed) → o ≡ Some n → IsOwned n) → o ≡ Some is.code → offsets_of o owned ≡ l.offsets
  starts_are None owned e = absurd cc
  starts_are (Some n) owned e =
      let same : is.code ≡ n = cc in
      same_offsets n (owned n refl) (subst (λ (z : Placed). IsRowOf shelf i z row) same is.is_row)
