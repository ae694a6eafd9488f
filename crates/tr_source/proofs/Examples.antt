-- Sources and what a reference says of them.
use Rattle.std.proofs.Common.{◌≡◌, List, [], ◌∷◌, codes, map, refl, pos}
use Rattle.bc_resolved.specs.mpy_base.Val.{Int, Str}
use Rattle.emit_measures.specs.bc_scheme.bc_ops.declared.instr.Op.TheVariants as ops
use Rattle.emit_measures.specs.bc_scheme.bc_ops.declared.instr.Instr.TheVariants as instrs
use Rattle.emit_measures.specs.bc_scheme.bc_machine.Library.{Item, Plain, Names, Loads, Jumps, Unwinds, Line}
use Rattle.emit_measures.specs.bc_scheme.py_meaning.Tree.{Constant, Named, DictOf, Call, NoExpr, More, NoPair, Pair, NoKey, Key, ToName, Only, Assign, Assert, Return, Def, Block, End, Next}
use Rattle.emit_measures.specs.Wide.{wide_length}
use Rattle.tr_source.specs.Nested.{nested}
use Rattle.tr_source.specs.Within.{most_arguments, most_pairs}

abbrev lines_of : List Item → List Line
lines_of items = map (λ item. record { item = item; line = 1 }) items

-- while x:
--   f(1, -17)
loop : wide_length (lines_of (
    Names ops.LoadName (codes "x") ∷ Jumps ops.PopJumpIfFalse 9 ∷ Names ops.LoadName (codes "f") ∷ Plain (instrs.Int (pos 1)) ∷ Plain (instrs.Int (pos 17))
    ∷ Plain (instrs.Unary 1) ∷ Plain (instrs.Num ops.CallFunction 2) ∷ Plain (instrs.Plain ops.PopTop) ∷ Jumps ops.Jump 0
    ∷ Plain (instrs.Plain ops.LoadConstNone) ∷ Plain (instrs.Plain ops.ReturnValue) ∷ []
    )) ≡ 24
loop = refl

-- for i in a:
--   try:
--     break
--   finally:
--     x = 'abcdefghijkl'
leaving : wide_length (lines_of (
    Names ops.LoadName (codes "a") ∷ Plain (instrs.Plain ops.GetIterStack) ∷ Jumps ops.ForIter 11 ∷ Names ops.StoreName (codes "i")
    ∷ Jumps ops.SetupFinally 7 ∷ Unwinds 11 129 ∷ Plain (instrs.Plain ops.LoadConstNone) ∷ Loads (Str (codes "abcdefghijkl"))
    ∷ Names ops.StoreName (codes "x") ∷ Plain (instrs.Plain ops.EndFinally) ∷ Jumps ops.Jump 2 ∷ Plain (instrs.Plain ops.LoadConstNone)
    ∷ Plain (instrs.Plain ops.ReturnValue) ∷ []
    )) ≡ 34
leaving = refl

-- x = 300, in a function
local : wide_length (lines_of (Plain (instrs.Int (pos 300)) ∷ Plain (instrs.Num ops.StoreFast 0) ∷ Plain (instrs.Plain ops.LoadConstNone) ∷ Plain (instrs.Plain ops.ReturnValue) ∷ [])) ≡ 9
local = refl

-- def f(a, b=1):
--   def g():
--     return h(1, 2, k=3)
--   return g
-- x = {1: 2, 3: f(1)}
-- assert h(1, 2)
abbrev inner : Block
inner = Next 3 (Return (Call (Named (codes "h")) (More (Constant (Int (pos 1))) (More (Constant (Int (pos 2))) NoExpr)) (Key (codes "k") (Constant (Int (pos 3))) NoKey))) End

abbrev whole : Block
whole =
    Next 1 (Def 1 (codes "f") (codes "a" ∷ codes "b" ∷ []) (More (Constant (Int (pos 1))) NoExpr) (Next 2 (Def 2 (codes "g") [] NoExpr inner) (Next 4 (Return (Named (codes "g"))) End)))
    (Next 5 (Assign (Only (ToName (codes "x")))
    (DictOf (Pair (Constant (Int (pos 1))) (Constant (Int (pos 2))) (Pair (Constant (Int (pos 3))) (Call (Named (codes "f")) (More (Constant (Int (pos 1))) NoExpr) NoKey) NoPair))))
    (Next 6 (Assert (Call (Named (codes "h")) (More (Constant (Int (pos 1))) (More (Constant (Int (pos 2))) NoExpr)) NoKey)) End))

depth : nested whole ≡ 2
depth = refl

arguments : (most_arguments 0 whole ≡ 2) × (most_arguments 1 whole ≡ 1) × (most_arguments 0 inner ≡ 2)
arguments = (refl, refl, refl)

pairs : (most_pairs 0 whole ≡ 2) × (most_pairs 0 inner ≡ 0)
pairs = (refl, refl)
