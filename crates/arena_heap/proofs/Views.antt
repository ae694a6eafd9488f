-- What contracts see of an arena's fields.
use Rattle.std.proofs.Common.{ℕ, ◌+◌, ◌-◌, ◌^◌, ◌≤◌, ◌<◌, ◌≡◌, min, List, length, Some, Result, Ok, Err, refl, sym, ◌∙◌, ap, arith, true, false, inl, inr}
use Rattle.std.specs.Result.{OnErr}
use Rattle.std.proofs.lemmas.Bool.{le-leb, lt-leb, cond-true, cond-false, cases_lt}
use Rattle.arena_heap.specs.declared.value.Value.{Value}
use Rattle.arena_heap.specs.declared.cells.Cell.{Cell}
use Rattle.arena_heap.specs.declared.cells.Cell.TheVariants as variants
use Rattle.qstr_pool.specs.mpy_base.World.{Heap, ObjectKind, kind_of, IsA}
use Rattle.qstr_pool.specs.mpy_base.Weights.{Fits, no_room, used}
use Rattle.qstr_pool.proofs.mpy_base_lemmas.Worlds.{is_within}
use Rattle.arena_heap.specs.Cells.{heads, read, kind_at, objects_of, heap_of}
use Rattle.arena_heap.proofs.Frame.{length-objects, object_is}

pub used_is : (cells : List Cell) (bytes : List ℕ) (a b : ℕ) → used (heap_of cells bytes a b) ≡ length cells
used_is cells bytes a b = length-objects cells bytes

kind_read : (n : ℕ) (h : Cell) (cells : List Cell) (bytes : List ℕ) → kind_of (read n h cells bytes) ≡ kind_at h
kind_read n (variants.ListHead r) cells bytes = refl
kind_read n _ cells bytes = refl

-- a number of a kind leads to a head of that kind
pub head_is : (cells : List Cell) (bytes : List ℕ) (kind : ObjectKind) (n : ℕ) → IsA (objects_of cells bytes) kind n → kind_at (heads cells n) ≡ Some kind
head_is cells bytes kind n e = sym (kind_read n (heads cells n) cells bytes) ∙ (sym (ap kind_of (object_is cells bytes n)) ∙ e)

pub head_within : (cells : List Cell) (bytes : List ℕ) (kind : ObjectKind) (n : ℕ) → IsA (objects_of cells bytes) kind n → n < length cells
head_within cells bytes kind n e = omega (arith, is_within (objects_of cells bytes) kind n e, length-objects cells bytes)

pub no_cells : (cells : List Cell) (bytes : List ℕ) (a b x y : ℕ) → a < length cells + x
    → no_room (heap_of cells bytes a b) x y ≡ record { asked = min x (2 ^ 64 - 1); used = length cells; size = a; bytes = false }
no_cells cells bytes a b x y h =
    cond-false _ _ _ (lt-leb (used (heap_of cells bytes a b) + x) a (omega (arith, used_is cells bytes a b)))
    ∙ ap (λ u. record { asked = min x (2 ^ 64 - 1); used = u; size = a; bytes = false }) (used_is cells bytes a b)

pub no_bytes : (cells : List Cell) (bytes : List ℕ) (a b x y : ℕ) → length cells + x ≤ a
    → no_room (heap_of cells bytes a b) x y ≡ record { asked = min y (2 ^ 64 - 1); used = length bytes; size = b; bytes = true }
no_bytes cells bytes a b x y h = cond-true _ _ _ (le-leb (used (heap_of cells bytes a b) + x) a (omega (arith, used_is cells bytes a b)))

pub fits_is : (cells : List Cell) (bytes : List ℕ) (a b x y : ℕ) → length cells + x ≤ a → length bytes + y ≤ b → Fits (heap_of cells bytes a b) x y
fits_is cells bytes a b x y p q = record { cells_fit = omega (arith, used_is cells bytes a b); bytes_fit = q }

pub fits_cells : (cells : List Cell) (bytes : List ℕ) (a b x y : ℕ) → Fits (heap_of cells bytes a b) x y → length cells + x ≤ a
fits_cells cells bytes a b x y f = omega (arith, f.cells_fit, used_is cells bytes a b)

-- asking for more than every number is as asking for the greatest one
pub no_room-capped : (h : Heap Value ℕ) (x y : ℕ) → h.cell_size < 2 ^ 32 → no_room h (min x (2 ^ 64 - 1)) y ≡ no_room h x y
no_room-capped h x y few = elim (cases_lt x (2 ^ 64)) [
  | inl low ↦ let same : min x (2 ^ 64 - 1) ≡ x = omega arith in ap (λ (k : ℕ). no_room h k y) same
  | inr high ↦
      let top : min x (2 ^ 64 - 1) ≡ 2 ^ 64 - 1 = omega arith in
      let again : min (min x (2 ^ 64 - 1)) (2 ^ 64 - 1) ≡ min x (2 ^ 64 - 1) = omega arith in
      cond-false _ _ _ (lt-leb (used h + min x (2 ^ 64 - 1)) h.cell_size (omega arith))
      ∙ (ap (λ (k : ℕ). record { asked = k; used = used h; size = h.cell_size; bytes = false }) again
      ∙ sym (cond-false _ _ _ (lt-leb (used h + x) h.cell_size (omega arith))))
]

pub fits_capped : {h : Heap Value ℕ} {y : ℕ} (x : ℕ) → h.cell_size < 2 ^ 32 → Fits h x y → Fits h (min x (2 ^ 64 - 1)) y
fits_capped {h} {y} x few f = record { cells_fit = omega (arith, f.cells_fit); bytes_fit = f.bytes_fit }

pub fits_uncapped : {h : Heap Value ℕ} {y : ℕ} (x : ℕ) → h.cell_size < 2 ^ 32 → Fits h (min x (2 ^ 64 - 1)) y → Fits h x y
fits_uncapped {h} {y} x few f = record { cells_fit = omega (arith, f.cells_fit); bytes_fit = f.bytes_fit }

pub on_err : {T E : Type 0} (r : Result T E) (P : Type 0) → P → OnErr r P
on_err (Ok x) P p = tt
on_err (Err e) P p = p
