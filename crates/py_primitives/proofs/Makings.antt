-- Makings that fit, and those that don't.
use Rattle.std.proofs.Common.{◌≡◌, ℕ, List, Ok, Err, Bool, true, false, cond, refl, arith}
use Rattle.py_values.specs.mpy_base.declared.room.NoRoom.{NoRoom}
use Rattle.py_values.specs.mpy_base.World.{Object}
use Rattle.py_values.specs.mpy_base.Weights.{used, does_fit, Fits, Made, Refused, cells_of, bytes_of, with_made}
use Rattle.py_values.specs.mpy_base.Val.{Val, At}
use Rattle.py_values.specs.Shown.{PlainHeap}
use Rattle.py_primitives.specs.Outcome.{Outcome, Full, gives, is_full, making}

pub fits_by : (heap : PlainHeap) (cells bytes : ℕ) → does_fit heap cells bytes ≡ true → Fits heap cells bytes
fits_by heap cells bytes e = record { cells_fit = grind arith; bytes_fit = grind arith }

pub no_fit_by : (heap : PlainHeap) (cells bytes : ℕ) → does_fit heap cells bytes ≡ false → Fits heap cells bytes → ⊥
no_fit_by heap cells bytes e f = let p = f.cells_fit in let q = f.bytes_fit in grind arith

-- the making by its test
abbrev tried : PlainHeap → Object Val (List ℕ) → Bool → Outcome Val
tried heap o b = cond b (gives (At (used heap)) (with_made heap o)) (is_full heap (cells_of o) (bytes_of o))

made_by : (heap : PlainHeap) (o : Object Val (List ℕ)) (b : Bool) (v : Val) → does_fit heap (cells_of o) (bytes_of o) ≡ b → (tried heap o b).answer ≡ Ok v → (n : ℕ) × (v ≡ At n) × Made heap (tried heap o b).heap n o
made_by heap o true v e is = (used heap, cc, record { fits = fits_by heap _ _ e; number = refl; world = refl })
made_by heap o false v e is = absurd cc

pub made : (heap : PlainHeap) (o : Object Val (List ℕ)) (v : Val) → (making heap o).answer ≡ Ok v → (n : ℕ) × (v ≡ At n) × Made heap (making heap o).heap n o
made heap o v is = made_by heap o (does_fit heap (cells_of o) (bytes_of o)) v refl is

refused_by : (heap : PlainHeap) (o : Object Val (List ℕ)) (b : Bool) (e : NoRoom) → does_fit heap (cells_of o) (bytes_of o) ≡ b → (tried heap o b).answer ≡ Err (Full e) → Refused heap (tried heap o b).heap e (cells_of o) (bytes_of o)
refused_by heap o true e fit is = absurd cc
refused_by heap o false e fit is = record { too_much = no_fit_by heap _ _ fit; told = cc; unchanged = refl }

pub refused : (heap : PlainHeap) (o : Object Val (List ℕ)) (e : NoRoom) → (making heap o).answer ≡ Err (Full e) → Refused heap (making heap o).heap e (cells_of o) (bytes_of o)
refused heap o e is = refused_by heap o (does_fit heap (cells_of o) (bytes_of o)) e refl is
