-- What holds of the objects and texts of a file.
use Rattle.std.specs.Prelude.{◌≡◌, ℕ, zero, suc, ◌^◌, ◌<◌, ◌≤◌, List, length, Some, slice_get}
use Rattle.bc_verify.specs.qstr_pool.declared.table.TheConstants.{STATIC_COUNT}
use Rattle.arena_heap.specs.Values.{IsSmall}
use Rattle.mpy_tree.specs.declared.module.Constant.{Constant, out-Constant}
use Rattle.mpy_tree.specs.declared.module.Constant.TheOpen.{Constant-F}
use Rattle.mpy_tree.specs.declared.raw.Qstr.{Qstr}
use Rattle.mpy_tree.specs.declared.raw.Qstr.TheVariants.{Static, Own}
use Rattle.bc_library.specs.Texts.{IsPlain}

-- such a fact holds of each element
abbrev pub Each : {A : Type 0} → (A → Type 0) → List A → Type 0
Each {A} P xs = (k : ℕ) (x : A) → slice_get xs k ≡ Some x → P x

-- texts are plain, numbers small, and such a fact holds of the items of a tuple
abbrev pub FineBy : (List Constant → Type 0) → Constant-F Constant → Type 0
FineBy P (Constant-F.Str text) = IsPlain text
FineBy P (Constant-F.Int n) = IsSmall n
FineBy P (Constant-F.Tuple items) = P items
FineBy P object = Unit {0}

-- the items of a tuple: fewer than 2^31, and the fact holds of each
pub record AreFew (P : Constant → Type 0) (items : List Constant) : Type 0 where
  pub few : length items < 2 ^ 31
  pub each : Each P items

-- an object with that number of levels of tuples at most
unfoldable pub Fine : ℕ → Constant → Type 0
Fine zero object = FineBy (λ items. ⊥) (out-Constant object)
Fine (suc levels) object = FineBy (AreFew (Fine levels)) (out-Constant object)

-- an entry of a table of texts
abbrev pub FineQstr : Qstr → Type 0
FineQstr (Static number) = (1 ≤ number) × (number ≤ STATIC_COUNT)
FineQstr (Own text) = IsPlain text
