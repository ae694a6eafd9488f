-- More turns: units.
use Rattle.std.proofs.Common.{ℕ, suc, ◌+◌, ◌≤◌}
use Rattle.std.specs.Prelude.{[]}
use Rattle.py_effects.specs.mpy_base.Val.{Val, Nil, PlainWorld}
use Rattle.py_effects.specs.py_primitives.Faults.{TooDeep}
use Rattle.py_effects.specs.Effect.{fault_at}
use Rattle.py_effects.specs.Modules.{make_function}
use Rattle.py_effects.proofs.Prints.{prints}
use Rattle.py_meaning.specs.Tree.{Name}
use Rattle.py_meaning.specs.Program.{Unit, Single, Merge, Units, Part, Parts, size, module_name}
use Rattle.py_meaning.specs.Outcomes.{Out}
use Rattle.py_meaning.specs.Frames.{Exec, has_depth}
use Rattle.py_meaning.specs.Imports.{unit_frame, part_place, call_part, run_unit, run_parts}
use Rattle.py_meaning.specs.Bounds.{LaterE, LateS}
use Rattle.py_meaning.proofs.Later.{later_e, later_e_turn, later_then, later_e_choose, later_does, later_e_fails, later_block, later_body}

-- units
module _ (ex ex1 : Exec) (ps : LateS ex ex1) where
  module _ (file name : Name) (names : ℕ) where
    abbrev LaterRun : (run run1 : ℕ → PlainWorld → Out Val) → Type 0
    LaterRun run run1 = (t s : ℕ) (w : PlainWorld) → t ≤ s → LaterE w (run t w) (run1 s w)

    later_part : (base depth : ℕ) (run run1 : ℕ → PlainWorld → Out Val) → LaterRun run run1 → (t s : ℕ) (w : PlainWorld) → t ≤ s → LaterE w (call_part ex file name names base depth run t w) (call_part ex1 file name names base depth run1 s w)
    later_part base depth run run1 f t s w l =
        later_e_turn t s w _ _ l (λ t1 s1 l1. later_then w _ _ _ _ (later_does (part_place file) (make_function w module_name name base names Nil) t1 s1 w l1 (prints.function names w module_name name base Nil tt)) (λ u t2 s2 w2 l2.
        later_e_choose (has_depth (unit_frame file name names base depth 0)) run _ run1 _ t2 s2 w2 (f t2 s2 w2 l2) (later_e_fails Val w2 (fault_at (part_place file) w2 TooDeep) t2 s2 l2 (prints.fault (part_place file) w2 TooDeep))))

    mutual
      pub later_unit : (u : Unit) (base depth t s : ℕ) (w : PlainWorld) → t ≤ s → LaterE w (run_unit ex file name names u base depth t w) (run_unit ex1 file name names u base depth s w)
      later_unit (Single source) base depth t s w l = later_body w _ _ (later_block ex ex1 ps (unit_frame file name names base depth source.level) [] source.body [] t s w l)
      later_unit (Merge units) base depth t s w l = later_then w _ _ _ _ (later_units units (suc base) depth t s w l) (λ v t1 s1 w1 l1. later_e Nil t1 s1 w1 l1)

      pub later_units : (us : Units) (base depth t s : ℕ) (w : PlainWorld) → t ≤ s → LaterE w (run_parts ex file name names us base depth t w) (run_parts ex1 file name names us base depth s w)
      later_units (Part u) base depth t s w l = later_part base depth _ _ (λ t1 s1 w1 l1. later_unit u base (suc depth) t1 s1 w1 l1) t s w l
      later_units (Parts u us) base depth t s w l =
          later_then w _ _ _ _ (later_part base depth (run_unit ex file name names u base (suc depth)) (run_unit ex1 file name names u base (suc depth)) (λ t1 s1 w1 l1. later_unit u base (suc depth) t1 s1 w1 l1) t s w l)
          (λ v t1 s1 w1 l1. later_units us (base + size u) depth t1 s1 w1 l1)
