-- Reports and lines, computed.
use Rattle.std.proofs.Common.{◌≡◌, ℕ, List, [], true, false, Some, pos, negsuc, codes, refl}
use Rattle.std.specs.Fmt.{digits}
use Rattle.mpy_base.specs.declared.kind.Kind.{Kind}
use Rattle.mpy_base.specs.declared.kind.Kind.TheVariants as kinds
use Rattle.mpy_base.specs.Val.{Val, Nil, Truth, Int, Str, Fixed, Empty, Only, Then}
use Rattle.mpy_base.specs.World.{ExceptionObject}
use Rattle.prim_builtins.specs.py_values.Shown.{PlainHeap}
use Rattle.py_effects.specs.Ends.{report_of}
use Rattle.prim_outputs.specs.Rooms.{room_line}

-- an exception with these arguments, raised in a.py
abbrev raised : Kind → Val → ℕ → List ℕ → List ℕ
raised kind args line name =
    let heap : PlainHeap = record { objects = []; bytes = 0; cell_size = 0; byte_size = 0 } in report_of heap (Some (ExceptionObject kind args (codes "a.py") line name))

no_argument : raised kinds.ValueError Empty 2 (codes "<module>") ≡ codes "Traceback (most recent call last):\n  File \"a.py\", line 2, in <module>\nValueError: \n"
unfolding digits
no_argument = refl

a_text : raised kinds.ZeroDivisionError (Fixed (Only (Str (codes "divide by zero")))) 12 (codes "f") ≡ codes "Traceback (most recent call last):\n  File \"a.py\", line 12, in f\nZeroDivisionError: divide by zero\n"
unfolding digits
a_text = refl

a_number : raised kinds.KeyError (Fixed (Only (Int (negsuc 6)))) 1 (codes "<module>") ≡ codes "Traceback (most recent call last):\n  File \"a.py\", line 1, in <module>\nKeyError: -7\n"
unfolding digits
a_number = refl

a_truth : raised kinds.KeyError (Fixed (Only (Truth true))) 1 (codes "<module>") ≡ codes "Traceback (most recent call last):\n  File \"a.py\", line 1, in <module>\nKeyError: True\n"
unfolding digits
a_truth = refl

none : raised kinds.ValueError (Fixed (Only Nil)) 1 (codes "<module>") ≡ codes "Traceback (most recent call last):\n  File \"a.py\", line 1, in <module>\nValueError: None\n"
unfolding digits
none = refl

a_tuple : raised kinds.IndexError (Fixed (Only Empty)) 1 (codes "<module>") ≡ codes "Traceback (most recent call last):\n  File \"a.py\", line 1, in <module>\nIndexError: ...\n"
unfolding digits
a_tuple = refl

two_arguments : raised kinds.ValueError (Fixed (Then (Int (pos 1)) (Only (Int (pos 2))))) 1 (codes "<module>") ≡ codes "Traceback (most recent call last):\n  File \"a.py\", line 1, in <module>\nValueError: ...\n"
unfolding digits
two_arguments = refl

cells_line : room_line (record { asked = 7; used = 19; size = 25; bytes = false }) ≡ codes "MemoryError: asked 7 used 19 size 25 cells\n"
unfolding digits
cells_line = refl

bytes_line : room_line (record { asked = 1000000000; used = 0; size = 262144; bytes = true }) ≡ codes "MemoryError: asked 1000000000 used 0 size 262144 bytes\n"
unfolding digits
bytes_line = refl
