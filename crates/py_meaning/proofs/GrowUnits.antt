-- Growth of units.
use Rattle.std.proofs.Common.{ℕ, suc, ◌+◌}
use Rattle.py_effects.specs.mpy_base.Val.{Val, Nil, PlainWorld}
use Rattle.py_effects.specs.py_primitives.Faults.{TooDeep}
use Rattle.py_effects.specs.Effect.{fault_at}
use Rattle.py_effects.specs.Modules.{make_function}
use Rattle.py_effects.specs.Growth.{Growth}
use Rattle.py_meaning.specs.Tree.{Name}
use Rattle.py_meaning.specs.Program.{Unit, Single, Merge, Units, Part, Parts, size, module_name}
use Rattle.py_meaning.specs.Outcomes.{Out}
use Rattle.py_meaning.specs.Frames.{Exec, has_depth}
use Rattle.py_meaning.specs.Imports.{unit_frame, part_place, call_part, run_unit, run_parts}
use Rattle.py_meaning.specs.Bounds.{OutE, GrowS}
use Rattle.py_meaning.proofs.Grow.{e_same, grow_e_turn, grow_then, grow_e_choose, grow_does, grow_e_fails, grow_block, grow_body}
use Rattle.std.specs.Prelude.{[]}

module _ (g : Growth) where
  module _ (ex : Exec) (gs : GrowS g ex) where
    module _ (file name : Name) (names : ℕ) where
      grow_part : (base depth : ℕ) (run : ℕ → PlainWorld → Out Val) → ((t : ℕ) (w : PlainWorld) → g.fits names w → OutE g t w (run t w)) → (t : ℕ) (w : PlainWorld) → g.fits names w → OutE g t w (call_part ex file name names base depth run t w)
      grow_part base depth run f t w o =
          grow_e_turn g t w _ (λ t1. grow_then g names t1 w _ _ o (grow_does g (part_place file) (make_function w module_name name base names Nil) t1 w (g.function names w module_name name base Nil o)) (λ u t2 w2 o2.
          grow_e_choose g (has_depth (unit_frame file name names base depth 0)) run _ t2 w2 (f t2 w2 o2) (grow_e_fails g Val w2 (fault_at (part_place file) w2 TooDeep) t2 (g.fault (part_place file) w2 TooDeep))))

      mutual
        pub grow_unit : (u : Unit) (base depth t : ℕ) (w : PlainWorld) → g.fits names w → OutE g t w (run_unit ex file name names u base depth t w)
        grow_unit (Single source) base depth t w o = grow_body g t w _ (grow_block g ex gs (unit_frame file name names base depth source.level) [] source.body [] t w o)
        grow_unit (Merge units) base depth t w o = grow_then g names t w _ _ o (grow_units units (suc base) depth t w o) (λ v t1 w1 o1. e_same g Nil t1 w1)

        pub grow_units : (us : Units) (base depth t : ℕ) (w : PlainWorld) → g.fits names w → OutE g t w (run_parts ex file name names us base depth t w)
        grow_units (Part u) base depth t w o = grow_part base depth (run_unit ex file name names u base (suc depth)) (λ t1 w1 o1. grow_unit u base (suc depth) t1 w1 o1) t w o
        grow_units (Parts u us) base depth t w o =
            grow_then g names t w _ _ o (grow_part base depth (run_unit ex file name names u base (suc depth)) (λ t1 w1 o1. grow_unit u base (suc depth) t1 w1 o1) t w o)
            (λ v t1 w1 o1. grow_units us (base + size u) depth t1 w1 o1)
