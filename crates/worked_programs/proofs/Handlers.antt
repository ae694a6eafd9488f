-- Exceptions, and what handles them.
use Rattle.std.proofs.Common.{◌≡◌, [], ◌∷◌, codes, refl, pos}
use Rattle.bc_scheme.specs.mpy_base.Val.{Int, Str}
use Rattle.bc_scheme.specs.bc_ops.declared.instr.Op.TheVariants as ops
use Rattle.bc_scheme.specs.bc_ops.declared.instr.Instr.TheVariants as instrs
use Rattle.bc_scheme.specs.bc_ops.declared.listing.Target.TheVariants.{Position}
use Rattle.bc_scheme.specs.mpy_tree.Resolved.{lines_of, plain, named, jump, unwind, node, no_more, more, ResolvedModule}
use Rattle.bc_scheme.specs.py_tree.declared.expr.BinaryOp.TheVariants as binaries
use Rattle.bc_scheme.specs.py_meaning.Tree.{Constant, Named, Binary, Call, NoExpr, More, NoKey, ToName, Only, Do, Assign, Break, Continue, Return, Reraise, For, Try, Finally, Def, End, Next, NoHandler, On, OnAs}
use Rattle.bc_scheme.specs.py_meaning.Program.{Source}
use Rattle.bc_scheme.specs.Expressions.{literal, name, two, call, no_expr, next, last, no_key}
use Rattle.bc_scheme.specs.Statements.{to_name, one_assign, part, unwound, bare, «do», assign, «break», «continue», «return», reraise, raise, «for», «try», finally, def, no_stmt, stmt, «except», no_clause, on, on_as}
use Rattle.bc_scheme.specs.Translation.{Translates}
use Rattle.bc_scheme.specs.py_values.Small.{checked}
use Rattle.bc_scheme.specs.py_values.Power.{power}
use Rattle.bc_scheme.specs.py_values.Equality.{equal}
use Rattle.bc_scheme.specs.py_primitives.Order.{order}
use Rattle.bc_scheme.specs.py_primitives.Texts.{str_of, repr_of}
use Rattle.std.specs.Fmt.{digits}
use Rattle.worked_programs.proofs.Telling.{Tells, room, alone, only}

-- a bare raise looks at the running call alone
-- ============================================

-- a.py:
--     def g():
--         raise
--     try:
--         1 // 0
--     except ZeroDivisionError:
--         g()
abbrev none_active_source : Source
none_active_source = record {
  file = (codes "a.py");
  level = 0;
  body = (Next 1 (Def 1 (codes "g") [] NoExpr (Next 2 Reraise
      End))
      (Next 3 (Try (Next 4 (Do (Binary binaries.FloorDiv (Constant (Int (pos 1))) (Constant (Int (pos 0)))))
      End) (On 5 (Named (codes "ZeroDivisionError")) (Next 6 (Do (Call (Named (codes "g")) NoExpr NoKey))
      End) NoHandler) End)
      End));
  locals = ([] ∷ []);
}

abbrev none_active_module : ResolvedModule
none_active_module = record {
  source = (codes "a.py");
  code = (node (record {
    name = (codes "<module>");
    args = [];
    defaults = 0;
    n_state = 3;
    n_exc = 1;
    lines = lines_of (plain (instrs.Num ops.MakeFunction 0) ∷
        named ops.StoreName (codes "g") ∷
        jump ops.SetupExcept (Position 8) ∷
        plain (instrs.Int (pos 1)) ∷
        plain (instrs.Int (pos 0)) ∷
        plain (instrs.Binary 31) ∷
        plain (instrs.Plain ops.PopTop) ∷
        jump ops.PopExceptJump (Position 18) ∷
        plain (instrs.Plain ops.DupTop) ∷
        named ops.LoadName (codes "ZeroDivisionError") ∷
        plain (instrs.Binary 8) ∷
        jump ops.PopJumpIfFalse (Position 17) ∷
        plain (instrs.Plain ops.PopTop) ∷
        named ops.LoadName (codes "g") ∷
        plain (instrs.Num ops.CallFunction 0) ∷
        plain (instrs.Plain ops.PopTop) ∷
        jump ops.PopExceptJump (Position 18) ∷
        plain (instrs.Plain ops.EndFinally) ∷
        plain (instrs.Plain ops.LoadConstNone) ∷
        plain (instrs.Plain ops.ReturnValue) ∷
        []) (1 ∷ 1 ∷ 3 ∷ 4 ∷ 4 ∷ 4 ∷ 4 ∷ 4 ∷ 5 ∷ 5 ∷ 5 ∷ 5 ∷ 5 ∷ 6 ∷ 6 ∷ 6 ∷ 6 ∷ 6 ∷ 6 ∷ 6 ∷ []);
  }) (more (node (record {
    name = (codes "g");
    args = [];
    defaults = 0;
    n_state = 1;
    n_exc = 0;
    lines = lines_of (plain (instrs.Plain ops.RaiseLast) ∷
        plain (instrs.Plain ops.LoadConstNone) ∷
        plain (instrs.Plain ops.ReturnValue) ∷
        []) (2 ∷ 2 ∷ 2 ∷ []);
  }) no_more) no_more));
}

none_active_translates : Translates none_active_source none_active_module
none_active_translates = record {
  file = refl;
  codes = (
    _,
    _,
    refl,
    record {
      name = refl;
      params = refl;
      given = refl;
      locals = refl;
      children = refl;
      last = 18;
      length = refl;
      body = (stmt {m = 2} {q = 18} (def {m = 1} (record { child = _; found = refl; named = refl; with_given = refl }) (bare {i = 0} refl refl) refl)
          (stmt {m = 18} {q = 18} («try» {q = 18} («except» {j = 7} {k = 17} {q = 18} refl (stmt {m = 7} {q = 7} («do» {m = 6} (two {m = 4} {n = 5} (literal {p = 3} refl) (literal {p = 4} refl) refl) refl)
          no_stmt) refl (on {m = 10} {j = 16} {q = 17} refl (name {p = 9} refl) refl refl refl (stmt {m = 16} {q = 16} («do» {m = 15} (call {m = 14} {n = 14} {k = 14} refl (name {p = 13} refl) no_expr no_key refl) refl)
          no_stmt) refl no_clause) refl no_stmt))
          no_stmt));
      none = refl;
      return = refl;
    },
    (
      _,
      _,
      refl,
      record {
        name = refl;
        params = refl;
        given = refl;
        locals = refl;
        children = refl;
        last = 1;
        length = refl;
        body = (stmt {m = 1} {q = 1} (reraise {p = 0} refl)
            no_stmt);
        none = refl;
        return = refl;
      },
      refl,
    ),
  );
  states = (_, _, refl, record { n_state = refl; n_exc = refl }, (_, _, refl, record { n_state = refl; n_exc = refl }, refl));
}

none_active_tells : Tells (alone none_active_source) (only none_active_module) (room 2000 2000) [] 11 14 (record { output = []; report = codes "Traceback (most recent call last):\n  File \"a.py\", line 2, in g\nRuntimeError: no active exception to reraise\n"; cells = 43 })
unfolding checked equal order str_of repr_of digits power
none_active_tells = record { means = refl; runs = refl; same = refl; one_turn_less = refl; one_step_less = refl }

-- a break in a last part replaces the exception
-- =============================================

-- a.py:
--     for i in range(2):
--         try:
--             print(i)
--             x = 1 // 0
--         finally:
--             break
--     print("end")
abbrev break_ends_source : Source
break_ends_source = record {
  file = (codes "a.py");
  level = 0;
  body = (Next 1 (For (ToName (codes "i")) (Call (Named (codes "range")) (More (Constant (Int (pos 2))) NoExpr) NoKey) (Next 2 (Finally (Next 3 (Do (Call (Named (codes "print")) (More (Named (codes "i")) NoExpr) NoKey))
      (Next 4 (Assign (Only (ToName (codes "x"))) (Binary binaries.FloorDiv (Constant (Int (pos 1))) (Constant (Int (pos 0)))))
      End)) (Next 6 Break
      End))
      End) End)
      (Next 7 (Do (Call (Named (codes "print")) (More (Constant (Str (codes "end"))) NoExpr) NoKey))
      End));
  locals = [];
}

abbrev break_ends_module : ResolvedModule
break_ends_module = record {
  source = (codes "a.py");
  code = (node (record {
    name = (codes "<module>");
    args = [];
    defaults = 0;
    n_state = 6;
    n_exc = 1;
    lines = lines_of (named ops.LoadName (codes "range") ∷
        plain (instrs.Int (pos 2)) ∷
        plain (instrs.Num ops.CallFunction 1) ∷
        plain (instrs.Plain ops.GetIterStack) ∷
        jump ops.ForIter (Position 19) ∷
        named ops.StoreName (codes "i") ∷
        jump ops.SetupFinally (Position 16) ∷
        named ops.LoadName (codes "print") ∷
        named ops.LoadName (codes "i") ∷
        plain (instrs.Num ops.CallFunction 1) ∷
        plain (instrs.Plain ops.PopTop) ∷
        plain (instrs.Int (pos 1)) ∷
        plain (instrs.Int (pos 0)) ∷
        plain (instrs.Binary 31) ∷
        named ops.StoreName (codes "x") ∷
        plain (instrs.Plain ops.LoadConstNone) ∷
        unwind (Position 19) 129 ∷
        plain (instrs.Plain ops.EndFinally) ∷
        jump ops.Jump (Position 4) ∷
        named ops.LoadName (codes "print") ∷
        named ops.LoadConstString (codes "end") ∷
        plain (instrs.Num ops.CallFunction 1) ∷
        plain (instrs.Plain ops.PopTop) ∷
        plain (instrs.Plain ops.LoadConstNone) ∷
        plain (instrs.Plain ops.ReturnValue) ∷
        []) (1 ∷ 1 ∷ 1 ∷ 1 ∷ 1 ∷ 1 ∷ 2 ∷ 3 ∷ 3 ∷ 3 ∷ 3 ∷ 4 ∷ 4 ∷ 4 ∷ 4 ∷ 4 ∷ 6 ∷ 6 ∷ 6 ∷ 7 ∷ 7 ∷ 7 ∷ 7 ∷ 7 ∷ 7 ∷ []);
  }) no_more);
}

break_ends_translates : Translates break_ends_source break_ends_module
break_ends_translates = record {
  file = refl;
  codes = (
    _,
    _,
    refl,
    record {
      name = refl;
      params = refl;
      given = refl;
      locals = refl;
      children = refl;
      last = 23;
      length = refl;
      body = (stmt {m = 19} {q = 23} («for» {m = 3} {n = 6} {j = 18} {q = 19} (call {m = 1} {n = 2} {k = 2} refl (name {p = 0} refl) (next {m = 2} {q = 2} (literal {p = 1} refl) no_expr) no_key refl) refl refl (to_name {p = 5} refl) (stmt {m = 18} {q = 18} (finally {j = 15} {k = 17} refl (stmt {m = 11} {q = 15} («do» {m = 10} (call {m = 8} {n = 9} {k = 9} refl (name {p = 7} refl) (next {m = 9} {q = 9} (name {p = 8} refl) no_expr) no_key refl) refl)
          (stmt {m = 15} {q = 15} (assign {m = 14} {q = 15} (two {m = 12} {n = 13} (literal {p = 11} refl) (literal {p = 12} refl) refl) (one_assign (to_name {p = 14} refl)))
          no_stmt)) refl (stmt {m = 17} {q = 17} («break» {q = 17} (unwound {p = 16} {n = 0} refl refl))
          no_stmt) refl)
          no_stmt) refl no_stmt)
          (stmt {m = 23} {q = 23} («do» {m = 22} (call {m = 20} {n = 21} {k = 21} refl (name {p = 19} refl) (next {m = 21} {q = 21} (literal {p = 20} refl) no_expr) no_key refl) refl)
          no_stmt));
      none = refl;
      return = refl;
    },
    refl,
  );
  states = (_, _, refl, record { n_state = refl; n_exc = refl }, refl);
}

break_ends_tells : Tells (alone break_ends_source) (only break_ends_module) (room 2000 2000) [] 22 23 (record { output = codes "0\nend\n"; report = []; cells = 33 })
unfolding checked equal order str_of repr_of digits power
break_ends_tells = record { means = refl; runs = refl; same = refl; one_turn_less = refl; one_step_less = refl }

-- a continue in a last part drops the return
-- ==========================================

-- a.py:
--     def f():
--         for i in range(2):
--             try:
--                 return i
--             finally:
--                 continue
--         return 9
--     print(f())
abbrev continue_ends_source : Source
continue_ends_source = record {
  file = (codes "a.py");
  level = 0;
  body = (Next 1 (Def 1 (codes "f") [] NoExpr (Next 2 (For (ToName (codes "i")) (Call (Named (codes "range")) (More (Constant (Int (pos 2))) NoExpr) NoKey) (Next 3 (Finally (Next 4 (Return (Named (codes "i")))
      End) (Next 6 Continue
      End))
      End) End)
      (Next 7 (Return (Constant (Int (pos 9))))
      End)))
      (Next 8 (Do (Call (Named (codes "print")) (More (Call (Named (codes "f")) NoExpr NoKey) NoExpr) NoKey))
      End));
  locals = (((codes "i") ∷ []) ∷ []);
}

abbrev continue_ends_module : ResolvedModule
continue_ends_module = record {
  source = (codes "a.py");
  code = (node (record {
    name = (codes "<module>");
    args = [];
    defaults = 0;
    n_state = 2;
    n_exc = 0;
    lines = lines_of (plain (instrs.Num ops.MakeFunction 0) ∷
        named ops.StoreName (codes "f") ∷
        named ops.LoadName (codes "print") ∷
        named ops.LoadName (codes "f") ∷
        plain (instrs.Num ops.CallFunction 0) ∷
        plain (instrs.Num ops.CallFunction 1) ∷
        plain (instrs.Plain ops.PopTop) ∷
        plain (instrs.Plain ops.LoadConstNone) ∷
        plain (instrs.Plain ops.ReturnValue) ∷
        []) (1 ∷ 1 ∷ 8 ∷ 8 ∷ 8 ∷ 8 ∷ 8 ∷ 8 ∷ 8 ∷ []);
  }) (more (node (record {
    name = (codes "f");
    args = [];
    defaults = 0;
    n_state = 6;
    n_exc = 1;
    lines = lines_of (named ops.LoadGlobal (codes "range") ∷
        plain (instrs.Int (pos 2)) ∷
        plain (instrs.Num ops.CallFunction 1) ∷
        plain (instrs.Plain ops.GetIterStack) ∷
        jump ops.ForIter (Position 13) ∷
        plain (instrs.Num ops.StoreFast 0) ∷
        jump ops.SetupFinally (Position 10) ∷
        plain (instrs.Num ops.LoadFast 0) ∷
        plain (instrs.Plain ops.ReturnValue) ∷
        plain (instrs.Plain ops.LoadConstNone) ∷
        unwind (Position 4) 1 ∷
        plain (instrs.Plain ops.EndFinally) ∷
        jump ops.Jump (Position 4) ∷
        plain (instrs.Int (pos 9)) ∷
        plain (instrs.Plain ops.ReturnValue) ∷
        plain (instrs.Plain ops.LoadConstNone) ∷
        plain (instrs.Plain ops.ReturnValue) ∷
        []) (2 ∷ 2 ∷ 2 ∷ 2 ∷ 2 ∷ 2 ∷ 3 ∷ 4 ∷ 4 ∷ 4 ∷ 6 ∷ 6 ∷ 6 ∷ 7 ∷ 7 ∷ 7 ∷ 7 ∷ []);
  }) no_more) no_more));
}

continue_ends_translates : Translates continue_ends_source continue_ends_module
continue_ends_translates = record {
  file = refl;
  codes = (
    _,
    _,
    refl,
    record {
      name = refl;
      params = refl;
      given = refl;
      locals = refl;
      children = refl;
      last = 7;
      length = refl;
      body = (stmt {m = 2} {q = 7} (def {m = 1} (record { child = _; found = refl; named = refl; with_given = refl }) (bare {i = 0} refl refl) refl)
          (stmt {m = 7} {q = 7} («do» {m = 6} (call {m = 3} {n = 5} {k = 5} refl (name {p = 2} refl) (next {m = 5} {q = 5} (call {m = 4} {n = 4} {k = 4} refl (name {p = 3} refl) no_expr no_key refl) no_expr) no_key refl) refl)
          no_stmt));
      none = refl;
      return = refl;
    },
    (
      _,
      _,
      refl,
      record {
        name = refl;
        params = refl;
        given = refl;
        locals = refl;
        children = refl;
        last = 15;
        length = refl;
        body = (stmt {m = 13} {q = 15} («for» {m = 3} {n = 6} {j = 12} {q = 13} (call {m = 1} {n = 2} {k = 2} refl (name {p = 0} refl) (next {m = 2} {q = 2} (literal {p = 1} refl) no_expr) no_key refl) refl refl (to_name {p = 5} refl) (stmt {m = 12} {q = 12} (finally {j = 9} {k = 11} refl (stmt {m = 9} {q = 9} («return» {m = 8} (name {p = 7} refl) refl)
            no_stmt) refl (stmt {m = 11} {q = 11} («continue» {q = 11} (unwound {p = 10} {n = 0} refl refl))
            no_stmt) refl)
            no_stmt) refl no_stmt)
            (stmt {m = 15} {q = 15} («return» {m = 14} (literal {p = 13} refl) refl)
            no_stmt));
        none = refl;
        return = refl;
      },
      refl,
    ),
  );
  states = (_, _, refl, record { n_state = refl; n_exc = refl }, (_, _, refl, record { n_state = refl; n_exc = refl }, refl));
}

continue_ends_tells : Tells (alone continue_ends_source) (only continue_ends_module) (room 2000 2000) [] 25 29 (record { output = codes "9\n"; report = []; cells = 27 })
unfolding checked equal order str_of repr_of digits power
continue_ends_tells = record { means = refl; runs = refl; same = refl; one_turn_less = refl; one_step_less = refl }

-- the name of a clause is gone behind it
-- ======================================

-- a.py:
--     try:
--         1 // 0
--     except ZeroDivisionError as e:
--         print(e)
--     print(e)
abbrev clause_name_source : Source
clause_name_source = record {
  file = (codes "a.py");
  level = 0;
  body = (Next 1 (Try (Next 2 (Do (Binary binaries.FloorDiv (Constant (Int (pos 1))) (Constant (Int (pos 0)))))
      End) (OnAs 3 (Named (codes "ZeroDivisionError")) (codes "e") (Next 4 (Do (Call (Named (codes "print")) (More (Named (codes "e")) NoExpr) NoKey))
      End) NoHandler) End)
      (Next 5 (Do (Call (Named (codes "print")) (More (Named (codes "e")) NoExpr) NoKey))
      End));
  locals = [];
}

abbrev clause_name_module : ResolvedModule
clause_name_module = record {
  source = (codes "a.py");
  code = (node (record {
    name = (codes "<module>");
    args = [];
    defaults = 0;
    n_state = 3;
    n_exc = 2;
    lines = lines_of (jump ops.SetupExcept (Position 6) ∷
        plain (instrs.Int (pos 1)) ∷
        plain (instrs.Int (pos 0)) ∷
        plain (instrs.Binary 31) ∷
        plain (instrs.Plain ops.PopTop) ∷
        jump ops.PopExceptJump (Position 23) ∷
        plain (instrs.Plain ops.DupTop) ∷
        named ops.LoadName (codes "ZeroDivisionError") ∷
        plain (instrs.Binary 8) ∷
        jump ops.PopJumpIfFalse (Position 22) ∷
        named ops.StoreName (codes "e") ∷
        jump ops.SetupFinally (Position 17) ∷
        named ops.LoadName (codes "print") ∷
        named ops.LoadName (codes "e") ∷
        plain (instrs.Num ops.CallFunction 1) ∷
        plain (instrs.Plain ops.PopTop) ∷
        plain (instrs.Plain ops.LoadConstNone) ∷
        plain (instrs.Plain ops.LoadConstNone) ∷
        named ops.StoreName (codes "e") ∷
        named ops.DeleteName (codes "e") ∷
        plain (instrs.Plain ops.EndFinally) ∷
        jump ops.PopExceptJump (Position 23) ∷
        plain (instrs.Plain ops.EndFinally) ∷
        named ops.LoadName (codes "print") ∷
        named ops.LoadName (codes "e") ∷
        plain (instrs.Num ops.CallFunction 1) ∷
        plain (instrs.Plain ops.PopTop) ∷
        plain (instrs.Plain ops.LoadConstNone) ∷
        plain (instrs.Plain ops.ReturnValue) ∷
        []) (1 ∷ 2 ∷ 2 ∷ 2 ∷ 2 ∷ 2 ∷ 3 ∷ 3 ∷ 3 ∷ 3 ∷ 3 ∷ 3 ∷ 4 ∷ 4 ∷ 4 ∷ 4 ∷ 4 ∷ 4 ∷ 4 ∷ 4 ∷ 4 ∷ 4 ∷ 4 ∷ 5 ∷ 5 ∷ 5 ∷ 5 ∷ 5 ∷ 5 ∷ []);
  }) no_more);
}

clause_name_translates : Translates clause_name_source clause_name_module
clause_name_translates = record {
  file = refl;
  codes = (
    _,
    _,
    refl,
    record {
      name = refl;
      params = refl;
      given = refl;
      locals = refl;
      children = refl;
      last = 27;
      length = refl;
      body = (stmt {m = 23} {q = 27} («try» {q = 23} («except» {j = 5} {k = 22} {q = 23} refl (stmt {m = 5} {q = 5} («do» {m = 4} (two {m = 2} {n = 3} (literal {p = 1} refl) (literal {p = 2} refl) refl) refl)
          no_stmt) refl (on_as {m = 8} {j = 16} {q = 22} refl (name {p = 7} refl) refl refl refl refl (stmt {m = 16} {q = 16} («do» {m = 15} (call {m = 13} {n = 14} {k = 14} refl (name {p = 12} refl) (next {m = 14} {q = 14} (name {p = 13} refl) no_expr) no_key refl) refl)
          no_stmt) refl refl refl refl refl refl no_clause) refl no_stmt))
          (stmt {m = 27} {q = 27} («do» {m = 26} (call {m = 24} {n = 25} {k = 25} refl (name {p = 23} refl) (next {m = 25} {q = 25} (name {p = 24} refl) no_expr) no_key refl) refl)
          no_stmt));
      none = refl;
      return = refl;
    },
    refl,
  );
  states = (_, _, refl, record { n_state = refl; n_exc = refl }, refl);
}

clause_name_tells : Tells (alone clause_name_source) (only clause_name_module) (room 2000 2000) [] 16 24 (record { output = codes "divide by zero\n"; report = codes "Traceback (most recent call last):\n  File \"a.py\", line 5, in <module>\nNameError: name 'e' isn't defined\n"; cells = 39 })
unfolding checked equal order str_of repr_of digits power
clause_name_tells = record { means = refl; runs = refl; same = refl; one_turn_less = refl; one_step_less = refl }

-- a call past the depth raises at its caller
-- ==========================================

-- a.py:
--     def f(n):
--         return f(n + 1)
--     f(0)
abbrev deep_source : Source
deep_source = record {
  file = (codes "a.py");
  level = 0;
  body = (Next 1 (Def 1 (codes "f") ((codes "n") ∷ []) NoExpr (Next 2 (Return (Call (Named (codes "f")) (More (Binary binaries.Add (Named (codes "n")) (Constant (Int (pos 1)))) NoExpr) NoKey))
      End))
      (Next 3 (Do (Call (Named (codes "f")) (More (Constant (Int (pos 0))) NoExpr) NoKey))
      End));
  locals = (((codes "n") ∷ []) ∷ []);
}

abbrev deep_module : ResolvedModule
deep_module = record {
  source = (codes "a.py");
  code = (node (record {
    name = (codes "<module>");
    args = [];
    defaults = 0;
    n_state = 2;
    n_exc = 0;
    lines = lines_of (plain (instrs.Num ops.MakeFunction 0) ∷
        named ops.StoreName (codes "f") ∷
        named ops.LoadName (codes "f") ∷
        plain (instrs.Int (pos 0)) ∷
        plain (instrs.Num ops.CallFunction 1) ∷
        plain (instrs.Plain ops.PopTop) ∷
        plain (instrs.Plain ops.LoadConstNone) ∷
        plain (instrs.Plain ops.ReturnValue) ∷
        []) (1 ∷ 1 ∷ 3 ∷ 3 ∷ 3 ∷ 3 ∷ 3 ∷ 3 ∷ []);
  }) (more (node (record {
    name = (codes "f");
    args = ((codes "n") ∷ []);
    defaults = 0;
    n_state = 4;
    n_exc = 0;
    lines = lines_of (named ops.LoadGlobal (codes "f") ∷
        plain (instrs.Num ops.LoadFast 0) ∷
        plain (instrs.Int (pos 1)) ∷
        plain (instrs.Binary 27) ∷
        plain (instrs.Num ops.CallFunction 1) ∷
        plain (instrs.Plain ops.ReturnValue) ∷
        plain (instrs.Plain ops.LoadConstNone) ∷
        plain (instrs.Plain ops.ReturnValue) ∷
        []) (2 ∷ 2 ∷ 2 ∷ 2 ∷ 2 ∷ 2 ∷ 2 ∷ 2 ∷ []);
  }) no_more) no_more));
}

deep_translates : Translates deep_source deep_module
deep_translates = record {
  file = refl;
  codes = (
    _,
    _,
    refl,
    record {
      name = refl;
      params = refl;
      given = refl;
      locals = refl;
      children = refl;
      last = 6;
      length = refl;
      body = (stmt {m = 2} {q = 6} (def {m = 1} (record { child = _; found = refl; named = refl; with_given = refl }) (bare {i = 0} refl refl) refl)
          (stmt {m = 6} {q = 6} («do» {m = 5} (call {m = 3} {n = 4} {k = 4} refl (name {p = 2} refl) (next {m = 4} {q = 4} (literal {p = 3} refl) no_expr) no_key refl) refl)
          no_stmt));
      none = refl;
      return = refl;
    },
    (
      _,
      _,
      refl,
      record {
        name = refl;
        params = refl;
        given = refl;
        locals = refl;
        children = refl;
        last = 6;
        length = refl;
        body = (stmt {m = 6} {q = 6} («return» {m = 5} (call {m = 1} {n = 4} {k = 4} refl (name {p = 0} refl) (next {m = 4} {q = 4} (two {m = 2} {n = 3} (name {p = 1} refl) (literal {p = 2} refl) refl) no_expr) no_key refl) refl)
            no_stmt);
        none = refl;
        return = refl;
      },
      refl,
    ),
  );
  states = (_, _, refl, record { n_state = refl; n_exc = refl }, (_, _, refl, record { n_state = refl; n_exc = refl }, refl));
}

deep_tells : Tells (alone deep_source) (only deep_module) (room 2000 2000) [] 383 320 (record { output = []; report = codes "Traceback (most recent call last):\n  File \"a.py\", line 2, in f\nRuntimeError: maximum recursion depth exceeded\n"; cells = 33 })
unfolding checked equal order str_of repr_of digits power
deep_tells = record { means = refl; runs = refl; same = refl; one_turn_less = refl; one_step_less = refl }
