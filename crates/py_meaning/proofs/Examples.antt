-- Sources and what a reference says of them.
use Rattle.std.proofs.Common.{◌≡◌, ℕ, List, [], ◌∷◌, true, false, Option, Some, None, codes, map, refl, sym, ap, ap₂, ◌∙◌, pos}
use Rattle.py_effects.specs.mpy_base.Val.{Int}
use Rattle.py_scopes.specs.py_tree.declared.stmt.Alias.{Alias}
use Rattle.py_scopes.specs.py_tree.declared.expr.BinaryOp.TheVariants as binaries
use Rattle.py_meaning.specs.Tree.{Constant, Named, ListOf, TupleOf, NoExpr, More, ToName, ToAttr, ToIndex, ToEach, Only, Then, Assign, AugName, Delete, Pass, Break, Continue, ReturnNone, Return, Import, From, If, While, For, TryFinally, Def, Block, End, Next, Else, Case, NoHandler, On, OnAs, functions}
use Rattle.py_scopes.specs.py_tree.declared.stmt.Param.{Param}
use Rattle.py_scopes.specs.py_tree.declared.stmt.Stmt.{Stmt, roll-Stmt}
use Rattle.py_scopes.specs.py_tree.declared.stmt.StmtKind.TheOpen.{StmtKind-F}
use Rattle.py_scopes.specs.py_tree.declared.stmt.StmtKind.TheVariants as s
use Rattle.py_scopes.specs.py_tree.declared.stmt.StmtKind.TheFolds.{fold-roll-StmtKind, fold-roll-Stmt}
use Rattle.py_meaning.specs.Globals.{Globals, all, function, kind_step, branch_step, handler_step, stmt_step, stmt_globals, globals_of}
use Rattle.py_meaning.proofs.Steps.{kind_globals}
use Rattle.py_meaning.specs.Locals.{locals_of}
use Rattle.py_meaning.specs.Numbers.{numbers_in}
use Rattle.py_meaning.specs.Imported.{imported, parts_of}
use Rattle.py_meaning.specs.Words.{WellPlaced}

abbrev alias : List ℕ → Option (List ℕ) → Alias
alias name bound = record { name = name; bound = bound }

-- ---- locals: stores of each form, a name that is declared global, and a nested function
--     def f(b, a=d):
--       global g
--       x = [1]
--       for i, (j, k) in x:
--         x[0] = i
--         y.z = j
--       import m.n, q.r as s
--       from m import t as u, v
--       try:
--         w += 1
--       except E as e:
--         a = 1
--       except KeyError:
--         b = 2
--       else:
--         l = 2
--       finally:
--         o = 3
--       def h(p, q=c):
--         global g, r
--         z, p = 1, 2
--         g = r
--         return z
--       g = 1
--       del c
--       while c:
--         if x:
--           n = 1
--         elif x:
--           n = 2
--         else:
--           x = 3
--       else:
--         b = 1
--     def k():
--       return k
abbrev stores : Block
stores = (Next 1 (Def 1 (codes "f") ((codes "b") ∷ (codes "a") ∷ []) (More (Named (codes "d")) NoExpr) (Next 2 Pass
    (Next 3 (Assign (Only (ToName (codes "x"))) (ListOf (More (Constant (Int (pos 1))) NoExpr)))
    (Next 4 (For (ToEach (Then (ToName (codes "i")) (Only (ToEach (Then (ToName (codes "j")) (Only (ToName (codes "k")))))))) (Named (codes "x")) (Next 5 (Assign (Only (ToIndex (Named (codes "x")) (Constant (Int (pos 0))))) (Named (codes "i")))
    (Next 6 (Assign (Only (ToAttr (Named (codes "y")) (codes "z"))) (Named (codes "j")))
    End)) End)
    (Next 7 (Import ((alias (codes "m.n") None) ∷ (alias (codes "q.r") (Some (codes "s"))) ∷ []))
    (Next 8 (From (codes "m") ((alias (codes "t") (Some (codes "u"))) ∷ (alias (codes "v") None) ∷ []))
    (Next 9 (TryFinally (Next 10 (AugName (codes "w") binaries.Add (Constant (Int (pos 1))))
    End) (OnAs 11 (Named (codes "E")) (codes "e") (Next 12 (Assign (Only (ToName (codes "a"))) (Constant (Int (pos 1))))
    End) (On 13 (Named (codes "KeyError")) (Next 14 (Assign (Only (ToName (codes "b"))) (Constant (Int (pos 2))))
    End) NoHandler)) (Next 16 (Assign (Only (ToName (codes "l"))) (Constant (Int (pos 2))))
    End) (Next 18 (Assign (Only (ToName (codes "o"))) (Constant (Int (pos 3))))
    End))
    (Next 19 (Def 2 (codes "h") ((codes "p") ∷ (codes "q") ∷ []) (More (Named (codes "c")) NoExpr) (Next 20 Pass
    (Next 21 (Assign (Only (ToEach (Then (ToName (codes "z")) (Only (ToName (codes "p")))))) (TupleOf (More (Constant (Int (pos 1))) (More (Constant (Int (pos 2))) NoExpr))))
    (Next 22 (Assign (Only (ToName (codes "g"))) (Named (codes "r")))
    (Next 23 (Return (Named (codes "z")))
    End)))))
    (Next 24 (Assign (Only (ToName (codes "g"))) (Constant (Int (pos 1))))
    (Next 25 (Delete (Only (ToName (codes "c"))))
    (Next 26 (While (Named (codes "c")) (Next 27 (If (Case 27 (Named (codes "x")) (Next 28 (Assign (Only (ToName (codes "n"))) (Constant (Int (pos 1))))
    End) (Case 29 (Named (codes "x")) (Next 30 (Assign (Only (ToName (codes "n"))) (Constant (Int (pos 2))))
    End) (Else (Next 32 (Assign (Only (ToName (codes "x"))) (Constant (Int (pos 3))))
    End)))))
    End) (Next 34 (Assign (Only (ToName (codes "b"))) (Constant (Int (pos 1))))
    End))
    End)))))))))))
    (Next 35 (Def 3 (codes "k") [] NoExpr (Next 36 (Return (Named (codes "k")))
    End))
    End))

stores_locals : locals_of (functions stores) (((codes "g") ∷ []) ∷ ((codes "g") ∷ (codes "r") ∷ []) ∷ [] ∷ []) ≡ (((codes "b") ∷ (codes "a") ∷ (codes "x") ∷ (codes "i") ∷ (codes "j") ∷ (codes "k") ∷ (codes "m") ∷ (codes "s") ∷ (codes "u") ∷ (codes "v") ∷ (codes "w") ∷ (codes "e") ∷ (codes "l") ∷ (codes "o") ∷ (codes "h") ∷ (codes "c") ∷ (codes "n") ∷ []) ∷ ((codes "p") ∷ (codes "q") ∷ (codes "z") ∷ []) ∷ [] ∷ [])
stores_locals = refl

-- the second function is defined in the text of the first one
stores_numbers : numbers_in stores ≡ (1 ∷ 3 ∷ [])
stores_numbers = refl

-- ---- imports
--     import a.b.c, d as e
--     from m.n import x, y as z
--     def f():
--       try:
--         import g
--       except ImportError:
--         import h
--       finally:
--         from i import j
--     for k in l:
--       import a.b.c
--     else:
--       if k:
--         import n
--       elif l:
--         pass
--       else:
--         import o
abbrev imports : Block
imports = (Next 1 (Import ((alias (codes "a.b.c") None) ∷ (alias (codes "d") (Some (codes "e"))) ∷ []))
    (Next 2 (From (codes "m.n") ((alias (codes "x") None) ∷ (alias (codes "y") (Some (codes "z"))) ∷ []))
    (Next 3 (Def 1 (codes "f") [] NoExpr (Next 4 (TryFinally (Next 5 (Import ((alias (codes "g") None) ∷ []))
    End) (On 6 (Named (codes "ImportError")) (Next 7 (Import ((alias (codes "h") None) ∷ []))
    End) NoHandler) End (Next 9 (From (codes "i") ((alias (codes "j") None) ∷ []))
    End))
    End))
    (Next 10 (For (ToName (codes "k")) (Named (codes "l")) (Next 11 (Import ((alias (codes "a.b.c") None) ∷ []))
    End) (Next 13 (If (Case 13 (Named (codes "k")) (Next 14 (Import ((alias (codes "n") None) ∷ []))
    End) (Case 15 (Named (codes "l")) (Next 16 Pass
    End) (Else (Next 18 (Import ((alias (codes "o") None) ∷ []))
    End)))))
    End))
    End))))

imports_names : imported imports ≡ ((codes "a.b.c") ∷ (codes "d") ∷ (codes "m.n") ∷ (codes "g") ∷ (codes "h") ∷ (codes "i") ∷ (codes "a.b.c") ∷ (codes "n") ∷ (codes "o") ∷ [])
imports_names = refl

-- ---- parts of names

parts_three : parts_of (codes "a.bc.d") ≡ ((codes "a") ∷ (codes "bc") ∷ (codes "d") ∷ [])
parts_three = refl

parts_one : parts_of (codes "abc") ≡ ((codes "abc") ∷ [])
parts_one = refl

parts_empty : parts_of (codes "a..b") ≡ ((codes "a") ∷ [] ∷ (codes "b") ∷ [])
parts_empty = refl

parts_none : parts_of [] ≡ ([] ∷ [])
parts_none = refl

-- ---- words

-- for i in x:
--   break
-- else:
--   continue
abbrev behind_loop : Block
behind_loop = Next 1 (For (ToName (codes "i")) (Named (codes "x")) (Next 2 Break End) (Next 4 Continue End)) End

in_no_loop : WellPlaced false false behind_loop → ⊥
in_no_loop h = let e : false ≡ true = h.0.1.0 in cc

in_a_loop : WellPlaced false true behind_loop
in_a_loop = (((refl, tt), (refl, tt)), tt)

-- while x:
--   def f():
--     return
--     break
abbrev inside : Block
inside = Next 1 (While (Named (codes "x")) (Next 2 (Def 1 (codes "f") [] NoExpr (Next 3 ReturnNone (Next 4 Break End))) End) End) End

in_no_own_loop : WellPlaced false false inside → ⊥
in_no_own_loop h = let e : false ≡ true = h.0.0.0.1.0 in cc

-- return x
in_no_function : WellPlaced false true (Next 1 (Return (Named (codes "x"))) End) → ⊥
in_no_function h = let e : false ≡ true = h.0 in cc

-- ---- names declared global

pub global_stmt : (line : ℕ) (names : List (List ℕ)) → stmt_globals (roll-Stmt (record { line = line; kind = s.Global names })) ≡ record { own = names; inner = [] }
global_stmt line names =
    fold-roll-Stmt Globals Globals Globals Globals kind_step branch_step handler_step stmt_step (record { line = line; kind = s.Global names })
    ∙ ap kind_globals (sym (s.rolls-Global names)) ∙ fold-roll-StmtKind Globals Globals Globals Globals kind_step branch_step handler_step stmt_step (StmtKind-F.Global names)

pub def_stmt : (line : ℕ) (name : List ℕ) (params : List Param) (body : List Stmt) → stmt_globals (roll-Stmt (record { line = line; kind = s.Def name params body })) ≡ function (all (map stmt_globals body))
def_stmt line name params body =
    fold-roll-Stmt Globals Globals Globals Globals kind_step branch_step handler_step stmt_step (record { line = line; kind = s.Def name params body })
    ∙ ap kind_globals (sym (s.rolls-Def name params body)) ∙ fold-roll-StmtKind Globals Globals Globals Globals kind_step branch_step handler_step stmt_step (StmtKind-F.Def name params body)

-- def f():
--   global g, h
--   global i
abbrev two : List Stmt
two = roll-Stmt (record { line = 2; kind = s.Global ((codes "g") ∷ (codes "h") ∷ []) }) ∷ roll-Stmt (record { line = 3; kind = s.Global ((codes "i") ∷ []) }) ∷ []

of_one_function : globals_of (record { body = roll-Stmt (record { line = 1; kind = s.Def (codes "f") [] two }) ∷ [] }) ≡ ((codes "g") ∷ (codes "h") ∷ (codes "i") ∷ []) ∷ []
of_one_function =
    ap (λ (g : Globals). (all (g ∷ [])).inner) (def_stmt 1 (codes "f") [] two)
    ∙ ap₂ (λ (g h : Globals). (all (function (all (g ∷ h ∷ [])) ∷ [])).inner) (global_stmt 2 ((codes "g") ∷ (codes "h") ∷ [])) (global_stmt 3 ((codes "i") ∷ []))
