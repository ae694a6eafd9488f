-- The built-ins that show a value.
use Rattle.std.proofs.Common.{◌≡◌, ℕ, List, [], ◌∷◌, Bool, true, false, Option, Some, None, refl, arith}
use Rattle.std.specs.Prelude.{if◌then◌else◌}
use Rattle.mpy_base.specs.Val.{Val}
use Rattle.prim_builtins.specs.py_values.Shown.{PlainHeap}
use Rattle.mpy_base.specs.World.{TextObject}
use Rattle.mpy_base.specs.Weights.{used, does_fit, cells_of, bytes_of, with_made}
use Rattle.prim_builtins.specs.py_primitives.Outcome.{Outcome, gives, is_full, after_answer, after_walk, making, making_text}
use Rattle.prim_builtins.specs.py_primitives.Calls.{Exactly, counts_of, called}
use Rattle.prim_builtins.specs.prim_walks.Whole.{text_of}
use Rattle.prim_types.specs.Texts.{shown_by}

-- each takes one argument
pub one_count : (raw : Bool) → counts_of (shown_by raw) ≡ Exactly 1
one_count true = refl
one_count false = refl

-- and makes the text of it
pub shown_called : (raw : Bool) (heap : PlainHeap) (v : Val)
    → after_walk heap (text_of heap raw v) (making_text heap) ≡ called heap (shown_by raw) (v ∷ [])
shown_called true heap v = refl
shown_called false heap v = refl

-- making it takes no visits but those of the walk
either_free : (b : Bool) (x y : Outcome Val) → x.visits ≡ 0 → y.visits ≡ 0 → (if b then x else y).visits ≡ 0
either_free true x y one two = one
either_free false x y one two = two

answer_free : (heap : PlainHeap) (answer : Option (List ℕ)) → (after_answer answer heap (making_text heap)).visits ≡ 0
answer_free heap None = refl
answer_free heap (Some []) = refl
answer_free heap (Some (byte ∷ bytes)) = either_free (does_fit heap _ _) (gives _ _) (is_full heap _ _) refl refl

pub shown_visits : (raw : Bool) (heap : PlainHeap) (v : Val)
    → (after_walk heap (text_of heap raw v) (making_text heap)).visits ≡ (text_of heap raw v).visits
shown_visits raw heap v = let none = answer_free heap (text_of heap raw v).answer in omega (arith, none)
