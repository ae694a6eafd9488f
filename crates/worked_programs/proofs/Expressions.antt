-- Expressions, calls and assertions.
use Rattle.std.proofs.Common.{◌≡◌, [], ◌∷◌, codes, refl, true, false, pos}
use Rattle.bc_scheme.specs.mpy_base.Val.{Truth, Int, Str}
use Rattle.bc_scheme.specs.bc_ops.declared.instr.Op.TheVariants as ops
use Rattle.bc_scheme.specs.bc_ops.declared.instr.Instr.TheVariants as instrs
use Rattle.bc_scheme.specs.bc_ops.declared.listing.Target.TheVariants.{Position}
use Rattle.bc_scheme.specs.mpy_tree.Resolved.{lines_of, plain, named, jump, node, no_more, more, ResolvedModule}
use Rattle.bc_scheme.specs.py_tree.declared.expr.BinaryOp.TheVariants as binaries
use Rattle.bc_scheme.specs.py_tree.declared.expr.CompareOp.TheVariants as compares
use Rattle.bc_scheme.specs.py_meaning.Tree.{Constant, Named, Binary, Compare, Call, NoExpr, More, Last, Link, NoKey, Key, Do, Return, AssertWith, Def, End, Next}
use Rattle.bc_scheme.specs.py_meaning.Program.{Source}
use Rattle.bc_scheme.specs.Expressions.{literal, name, one, two, chain, call, no_expr, next, operand, last, link, no_key, key, straight}
use Rattle.bc_scheme.specs.Statements.{bare, with_defaults, «do», «return», no_assert_with, assert, assert_with, def, no_stmt, stmt}
use Rattle.bc_scheme.specs.Translation.{Translates}
use Rattle.bc_scheme.specs.py_values.Small.{checked}
use Rattle.bc_scheme.specs.py_values.Power.{power}
use Rattle.bc_scheme.specs.py_values.Equality.{equal}
use Rattle.bc_scheme.specs.py_primitives.Order.{order}
use Rattle.bc_scheme.specs.py_primitives.Texts.{str_of, repr_of}
use Rattle.std.specs.Fmt.{digits}
use Rattle.worked_programs.proofs.Telling.{Tells, room, alone, only}

-- a print
-- =======

-- a.py:
--     print("hi")
abbrev hi_source : Source
hi_source = record {
  file = (codes "a.py");
  level = 0;
  body = (Next 1 (Do (Call (Named (codes "print")) (More (Constant (Str (codes "hi"))) NoExpr) NoKey))
      End);
  locals = [];
}

abbrev hi_module : ResolvedModule
hi_module = record {
  source = (codes "a.py");
  code = (node (record {
    name = (codes "<module>");
    args = [];
    defaults = 0;
    n_state = 2;
    n_exc = 0;
    lines = lines_of (named ops.LoadName (codes "print") ∷
        named ops.LoadConstString (codes "hi") ∷
        plain (instrs.Num ops.CallFunction 1) ∷
        plain (instrs.Plain ops.PopTop) ∷
        plain (instrs.Plain ops.LoadConstNone) ∷
        plain (instrs.Plain ops.ReturnValue) ∷
        []) (1 ∷ 1 ∷ 1 ∷ 1 ∷ 1 ∷ 1 ∷ []);
  }) no_more);
}

hi_translates : Translates hi_source hi_module
hi_translates = record {
  file = refl;
  codes = (
    _,
    _,
    refl,
    record {
      name = refl;
      params = refl;
      given = refl;
      locals = refl;
      children = refl;
      last = 4;
      length = refl;
      body = (stmt {m = 4} {q = 4} («do» {m = 3} (call {m = 1} {n = 2} {k = 2} refl (name {p = 0} refl) (next {m = 2} {q = 2} (literal {p = 1} refl) no_expr) no_key refl) refl)
          no_stmt);
      none = refl;
      return = refl;
    },
    refl,
  );
  states = (_, _, refl, record { n_state = refl; n_exc = refl }, refl);
}

hi_tells : Tells (alone hi_source) (only hi_module) (room 2000 2000) [] 5 7 (record { output = codes "hi\n"; report = []; cells = 19 })
unfolding checked equal order str_of repr_of digits power
hi_tells = record { means = refl; runs = refl; same = refl; one_turn_less = refl; one_step_less = refl }

-- a sum past the small integers
-- =============================

-- a.py:
--     print(1073741823 + 1)
abbrev overflow_source : Source
overflow_source = record {
  file = (codes "a.py");
  level = 0;
  body = (Next 1 (Do (Call (Named (codes "print")) (More (Binary binaries.Add (Constant (Int (pos 1073741823))) (Constant (Int (pos 1)))) NoExpr) NoKey))
      End);
  locals = [];
}

abbrev overflow_module : ResolvedModule
overflow_module = record {
  source = (codes "a.py");
  code = (node (record {
    name = (codes "<module>");
    args = [];
    defaults = 0;
    n_state = 3;
    n_exc = 0;
    lines = lines_of (named ops.LoadName (codes "print") ∷
        plain (instrs.Int (pos 1073741823)) ∷
        plain (instrs.Int (pos 1)) ∷
        plain (instrs.Binary 27) ∷
        plain (instrs.Num ops.CallFunction 1) ∷
        plain (instrs.Plain ops.PopTop) ∷
        plain (instrs.Plain ops.LoadConstNone) ∷
        plain (instrs.Plain ops.ReturnValue) ∷
        []) (1 ∷ 1 ∷ 1 ∷ 1 ∷ 1 ∷ 1 ∷ 1 ∷ 1 ∷ []);
  }) no_more);
}

overflow_translates : Translates overflow_source overflow_module
overflow_translates = record {
  file = refl;
  codes = (
    _,
    _,
    refl,
    record {
      name = refl;
      params = refl;
      given = refl;
      locals = refl;
      children = refl;
      last = 6;
      length = refl;
      body = (stmt {m = 6} {q = 6} («do» {m = 5} (call {m = 1} {n = 4} {k = 4} refl (name {p = 0} refl) (next {m = 4} {q = 4} (two {m = 2} {n = 3} (literal {p = 1} refl) (literal {p = 2} refl) refl) no_expr) no_key refl) refl)
          no_stmt);
      none = refl;
      return = refl;
    },
    refl,
  );
  states = (_, _, refl, record { n_state = refl; n_exc = refl }, refl);
}

overflow_tells : Tells (alone overflow_source) (only overflow_module) (room 2000 2000) [] 6 4 (record { output = []; report = codes "Traceback (most recent call last):\n  File \"a.py\", line 1, in <module>\nOverflowError: small int overflow\n"; cells = 29 })
unfolding checked equal order str_of repr_of digits power
overflow_tells = record { means = refl; runs = refl; same = refl; one_turn_less = refl; one_step_less = refl }

-- the operand in the middle is evaluated once
-- ===========================================

-- a.py:
--     def f():
--         print("f")
--         return 2
--     print(1 < f() < 3)
abbrev middle_source : Source
middle_source = record {
  file = (codes "a.py");
  level = 0;
  body = (Next 1 (Def 1 (codes "f") [] NoExpr (Next 2 (Do (Call (Named (codes "print")) (More (Constant (Str (codes "f"))) NoExpr) NoKey))
      (Next 3 (Return (Constant (Int (pos 2))))
      End)))
      (Next 4 (Do (Call (Named (codes "print")) (More (Compare (Constant (Int (pos 1))) (Link compares.Lt (Call (Named (codes "f")) NoExpr NoKey) (Last compares.Lt (Constant (Int (pos 3)))))) NoExpr) NoKey))
      End));
  locals = ([] ∷ []);
}

abbrev middle_module : ResolvedModule
middle_module = record {
  source = (codes "a.py");
  code = (node (record {
    name = (codes "<module>");
    args = [];
    defaults = 0;
    n_state = 4;
    n_exc = 0;
    lines = lines_of (plain (instrs.Num ops.MakeFunction 0) ∷
        named ops.StoreName (codes "f") ∷
        named ops.LoadName (codes "print") ∷
        plain (instrs.Int (pos 1)) ∷
        named ops.LoadName (codes "f") ∷
        plain (instrs.Num ops.CallFunction 0) ∷
        plain (instrs.Plain ops.DupTop) ∷
        plain (instrs.Plain ops.RotThree) ∷
        plain (instrs.Binary 0) ∷
        jump ops.JumpIfFalseOrPop (Position 13) ∷
        plain (instrs.Int (pos 3)) ∷
        plain (instrs.Binary 0) ∷
        jump ops.Jump (Position 15) ∷
        plain (instrs.Plain ops.RotTwo) ∷
        plain (instrs.Plain ops.PopTop) ∷
        plain (instrs.Num ops.CallFunction 1) ∷
        plain (instrs.Plain ops.PopTop) ∷
        plain (instrs.Plain ops.LoadConstNone) ∷
        plain (instrs.Plain ops.ReturnValue) ∷
        []) (1 ∷ 1 ∷ 4 ∷ 4 ∷ 4 ∷ 4 ∷ 4 ∷ 4 ∷ 4 ∷ 4 ∷ 4 ∷ 4 ∷ 4 ∷ 4 ∷ 4 ∷ 4 ∷ 4 ∷ 4 ∷ 4 ∷ []);
  }) (more (node (record {
    name = (codes "f");
    args = [];
    defaults = 0;
    n_state = 2;
    n_exc = 0;
    lines = lines_of (named ops.LoadGlobal (codes "print") ∷
        named ops.LoadConstString (codes "f") ∷
        plain (instrs.Num ops.CallFunction 1) ∷
        plain (instrs.Plain ops.PopTop) ∷
        plain (instrs.Int (pos 2)) ∷
        plain (instrs.Plain ops.ReturnValue) ∷
        plain (instrs.Plain ops.LoadConstNone) ∷
        plain (instrs.Plain ops.ReturnValue) ∷
        []) (2 ∷ 2 ∷ 2 ∷ 2 ∷ 3 ∷ 3 ∷ 3 ∷ 3 ∷ []);
  }) no_more) no_more));
}

middle_translates : Translates middle_source middle_module
middle_translates = record {
  file = refl;
  codes = (
    _,
    _,
    refl,
    record {
      name = refl;
      params = refl;
      given = refl;
      locals = refl;
      children = refl;
      last = 17;
      length = refl;
      body = (stmt {m = 2} {q = 17} (def {m = 1} (record { child = _; found = refl; named = refl; with_given = refl }) (bare {i = 0} refl refl) refl)
          (stmt {m = 17} {q = 17} («do» {m = 16} (call {m = 3} {n = 15} {k = 15} refl (name {p = 2} refl) (next {m = 15} {q = 15} (chain {m = 4} {n = 12} (literal {p = 3} refl) (link {m = 6} {n = 9} {q = 12} (call {m = 5} {n = 5} {k = 5} refl (name {p = 4} refl) no_expr no_key refl) refl refl (straight {p = 8} refl refl) refl (last {m = 11} {q = 12} (literal {p = 10} refl) (straight {p = 11} refl refl))) refl refl refl) no_expr) no_key refl) refl)
          no_stmt));
      none = refl;
      return = refl;
    },
    (
      _,
      _,
      refl,
      record {
        name = refl;
        params = refl;
        given = refl;
        locals = refl;
        children = refl;
        last = 6;
        length = refl;
        body = (stmt {m = 4} {q = 6} («do» {m = 3} (call {m = 1} {n = 2} {k = 2} refl (name {p = 0} refl) (next {m = 2} {q = 2} (literal {p = 1} refl) no_expr) no_key refl) refl)
            (stmt {m = 6} {q = 6} («return» {m = 5} (literal {p = 4} refl) refl)
            no_stmt));
        none = refl;
        return = refl;
      },
      refl,
    ),
  );
  states = (_, _, refl, record { n_state = refl; n_exc = refl }, (_, _, refl, record { n_state = refl; n_exc = refl }, refl));
}

middle_tells : Tells (alone middle_source) (only middle_module) (room 2000 2000) [] 19 27 (record { output = codes "f\nTrue\n"; report = []; cells = 23 })
unfolding checked equal order str_of repr_of digits power
middle_tells = record { means = refl; runs = refl; same = refl; one_turn_less = refl; one_step_less = refl }

-- a parameter with a default
-- ==========================

-- a.py:
--     def f(a, b=2):
--         return a * b
--     print(f(3), f(3, 4))
abbrev defaults_source : Source
defaults_source = record {
  file = (codes "a.py");
  level = 0;
  body = (Next 1 (Def 1 (codes "f") ((codes "a") ∷ (codes "b") ∷ []) (More (Constant (Int (pos 2))) NoExpr) (Next 2 (Return (Binary binaries.Mul (Named (codes "a")) (Named (codes "b"))))
      End))
      (Next 3 (Do (Call (Named (codes "print")) (More (Call (Named (codes "f")) (More (Constant (Int (pos 3))) NoExpr) NoKey) (More (Call (Named (codes "f")) (More (Constant (Int (pos 3))) (More (Constant (Int (pos 4))) NoExpr)) NoKey) NoExpr)) NoKey))
      End));
  locals = (((codes "a") ∷ (codes "b") ∷ []) ∷ []);
}

abbrev defaults_module : ResolvedModule
defaults_module = record {
  source = (codes "a.py");
  code = (node (record {
    name = (codes "<module>");
    args = [];
    defaults = 0;
    n_state = 5;
    n_exc = 0;
    lines = lines_of (plain (instrs.Int (pos 2)) ∷
        plain (instrs.Num ops.BuildTuple 1) ∷
        plain (instrs.Plain ops.LoadNull) ∷
        plain (instrs.Num ops.MakeFunctionDefargs 0) ∷
        named ops.StoreName (codes "f") ∷
        named ops.LoadName (codes "print") ∷
        named ops.LoadName (codes "f") ∷
        plain (instrs.Int (pos 3)) ∷
        plain (instrs.Num ops.CallFunction 1) ∷
        named ops.LoadName (codes "f") ∷
        plain (instrs.Int (pos 3)) ∷
        plain (instrs.Int (pos 4)) ∷
        plain (instrs.Num ops.CallFunction 2) ∷
        plain (instrs.Num ops.CallFunction 2) ∷
        plain (instrs.Plain ops.PopTop) ∷
        plain (instrs.Plain ops.LoadConstNone) ∷
        plain (instrs.Plain ops.ReturnValue) ∷
        []) (1 ∷ 1 ∷ 1 ∷ 1 ∷ 1 ∷ 3 ∷ 3 ∷ 3 ∷ 3 ∷ 3 ∷ 3 ∷ 3 ∷ 3 ∷ 3 ∷ 3 ∷ 3 ∷ 3 ∷ []);
  }) (more (node (record {
    name = (codes "f");
    args = ((codes "a") ∷ (codes "b") ∷ []);
    defaults = 1;
    n_state = 4;
    n_exc = 0;
    lines = lines_of (plain (instrs.Num ops.LoadFast 0) ∷
        plain (instrs.Num ops.LoadFast 1) ∷
        plain (instrs.Binary 29) ∷
        plain (instrs.Plain ops.ReturnValue) ∷
        plain (instrs.Plain ops.LoadConstNone) ∷
        plain (instrs.Plain ops.ReturnValue) ∷
        []) (2 ∷ 2 ∷ 2 ∷ 2 ∷ 2 ∷ 2 ∷ []);
  }) no_more) no_more));
}

defaults_translates : Translates defaults_source defaults_module
defaults_translates = record {
  file = refl;
  codes = (
    _,
    _,
    refl,
    record {
      name = refl;
      params = refl;
      given = refl;
      locals = refl;
      children = refl;
      last = 15;
      length = refl;
      body = (stmt {m = 5} {q = 15} (def {m = 4} (record { child = _; found = refl; named = refl; with_given = refl }) (with_defaults {m = 1} {i = 0} refl (next {m = 1} {q = 1} (literal {p = 0} refl) no_expr) refl refl refl) refl)
          (stmt {m = 15} {q = 15} («do» {m = 14} (call {m = 6} {n = 13} {k = 13} refl (name {p = 5} refl) (next {m = 9} {q = 13} (call {m = 7} {n = 8} {k = 8} refl (name {p = 6} refl) (next {m = 8} {q = 8} (literal {p = 7} refl) no_expr) no_key refl) (next {m = 13} {q = 13} (call {m = 10} {n = 12} {k = 12} refl (name {p = 9} refl) (next {m = 11} {q = 12} (literal {p = 10} refl) (next {m = 12} {q = 12} (literal {p = 11} refl) no_expr)) no_key refl) no_expr)) no_key refl) refl)
          no_stmt));
      none = refl;
      return = refl;
    },
    (
      _,
      _,
      refl,
      record {
        name = refl;
        params = refl;
        given = refl;
        locals = refl;
        children = refl;
        last = 4;
        length = refl;
        body = (stmt {m = 4} {q = 4} («return» {m = 3} (two {m = 1} {n = 2} (name {p = 0} refl) (name {p = 1} refl) refl) refl)
            no_stmt);
        none = refl;
        return = refl;
      },
      refl,
    ),
  );
  states = (_, _, refl, record { n_state = refl; n_exc = refl }, (_, _, refl, record { n_state = refl; n_exc = refl }, refl));
}

defaults_tells : Tells (alone defaults_source) (only defaults_module) (room 2000 2000) [] 22 27 (record { output = codes "6 12\n"; report = []; cells = 25 })
unfolding checked equal order str_of repr_of digits power
defaults_tells = record { means = refl; runs = refl; same = refl; one_turn_less = refl; one_step_less = refl }

-- arguments by name, and one that is given twice
-- ==============================================

-- a.py:
--     def f(a, b=2):
--         print(a, b)
--     f(b=1, a=0)
--     f(1, a=2)
abbrev bound_twice_source : Source
bound_twice_source = record {
  file = (codes "a.py");
  level = 0;
  body = (Next 1 (Def 1 (codes "f") ((codes "a") ∷ (codes "b") ∷ []) (More (Constant (Int (pos 2))) NoExpr) (Next 2 (Do (Call (Named (codes "print")) (More (Named (codes "a")) (More (Named (codes "b")) NoExpr)) NoKey))
      End))
      (Next 3 (Do (Call (Named (codes "f")) NoExpr (Key (codes "b") (Constant (Int (pos 1))) (Key (codes "a") (Constant (Int (pos 0))) NoKey))))
      (Next 4 (Do (Call (Named (codes "f")) (More (Constant (Int (pos 1))) NoExpr) (Key (codes "a") (Constant (Int (pos 2))) NoKey)))
      End)));
  locals = (((codes "a") ∷ (codes "b") ∷ []) ∷ []);
}

abbrev bound_twice_module : ResolvedModule
bound_twice_module = record {
  source = (codes "a.py");
  code = (node (record {
    name = (codes "<module>");
    args = [];
    defaults = 0;
    n_state = 5;
    n_exc = 0;
    lines = lines_of (plain (instrs.Int (pos 2)) ∷
        plain (instrs.Num ops.BuildTuple 1) ∷
        plain (instrs.Plain ops.LoadNull) ∷
        plain (instrs.Num ops.MakeFunctionDefargs 0) ∷
        named ops.StoreName (codes "f") ∷
        named ops.LoadName (codes "f") ∷
        named ops.LoadConstString (codes "b") ∷
        plain (instrs.Int (pos 1)) ∷
        named ops.LoadConstString (codes "a") ∷
        plain (instrs.Int (pos 0)) ∷
        plain (instrs.Num ops.CallFunction 512) ∷
        plain (instrs.Plain ops.PopTop) ∷
        named ops.LoadName (codes "f") ∷
        plain (instrs.Int (pos 1)) ∷
        named ops.LoadConstString (codes "a") ∷
        plain (instrs.Int (pos 2)) ∷
        plain (instrs.Num ops.CallFunction 257) ∷
        plain (instrs.Plain ops.PopTop) ∷
        plain (instrs.Plain ops.LoadConstNone) ∷
        plain (instrs.Plain ops.ReturnValue) ∷
        []) (1 ∷ 1 ∷ 1 ∷ 1 ∷ 1 ∷ 3 ∷ 3 ∷ 3 ∷ 3 ∷ 3 ∷ 3 ∷ 3 ∷ 4 ∷ 4 ∷ 4 ∷ 4 ∷ 4 ∷ 4 ∷ 4 ∷ 4 ∷ []);
  }) (more (node (record {
    name = (codes "f");
    args = ((codes "a") ∷ (codes "b") ∷ []);
    defaults = 1;
    n_state = 5;
    n_exc = 0;
    lines = lines_of (named ops.LoadGlobal (codes "print") ∷
        plain (instrs.Num ops.LoadFast 0) ∷
        plain (instrs.Num ops.LoadFast 1) ∷
        plain (instrs.Num ops.CallFunction 2) ∷
        plain (instrs.Plain ops.PopTop) ∷
        plain (instrs.Plain ops.LoadConstNone) ∷
        plain (instrs.Plain ops.ReturnValue) ∷
        []) (2 ∷ 2 ∷ 2 ∷ 2 ∷ 2 ∷ 2 ∷ 2 ∷ []);
  }) no_more) no_more));
}

bound_twice_translates : Translates bound_twice_source bound_twice_module
bound_twice_translates = record {
  file = refl;
  codes = (
    _,
    _,
    refl,
    record {
      name = refl;
      params = refl;
      given = refl;
      locals = refl;
      children = refl;
      last = 18;
      length = refl;
      body = (stmt {m = 5} {q = 18} (def {m = 4} (record { child = _; found = refl; named = refl; with_given = refl }) (with_defaults {m = 1} {i = 0} refl (next {m = 1} {q = 1} (literal {p = 0} refl) no_expr) refl refl refl) refl)
          (stmt {m = 12} {q = 18} («do» {m = 11} (call {m = 6} {n = 6} {k = 10} refl (name {p = 5} refl) no_expr (key {m = 8} {q = 10} refl (literal {p = 7} refl) (key {m = 10} {q = 10} refl (literal {p = 9} refl) no_key)) refl) refl)
          (stmt {m = 18} {q = 18} («do» {m = 17} (call {m = 13} {n = 14} {k = 16} refl (name {p = 12} refl) (next {m = 14} {q = 14} (literal {p = 13} refl) no_expr) (key {m = 16} {q = 16} refl (literal {p = 15} refl) no_key) refl) refl)
          no_stmt)));
      none = refl;
      return = refl;
    },
    (
      _,
      _,
      refl,
      record {
        name = refl;
        params = refl;
        given = refl;
        locals = refl;
        children = refl;
        last = 5;
        length = refl;
        body = (stmt {m = 5} {q = 5} («do» {m = 4} (call {m = 1} {n = 3} {k = 3} refl (name {p = 0} refl) (next {m = 2} {q = 3} (name {p = 1} refl) (next {m = 3} {q = 3} (name {p = 2} refl) no_expr)) no_key refl) refl)
            no_stmt);
        none = refl;
        return = refl;
      },
      refl,
    ),
  );
  states = (_, _, refl, record { n_state = refl; n_exc = refl }, (_, _, refl, record { n_state = refl; n_exc = refl }, refl));
}

bound_twice_tells : Tells (alone bound_twice_source) (only bound_twice_module) (room 2000 2000) [] 19 26 (record { output = codes "0 1\n"; report = codes "Traceback (most recent call last):\n  File \"a.py\", line 4, in <module>\nTypeError: function got multiple values for argument 'a'\n"; cells = 35 })
unfolding checked equal order str_of repr_of digits power
bound_twice_tells = record { means = refl; runs = refl; same = refl; one_turn_less = refl; one_step_less = refl }

-- keyword arguments of print
-- ==========================

-- a.py:
--     print("a", "b", sep="-", end="!\n")
abbrev print_keywords_source : Source
print_keywords_source = record {
  file = (codes "a.py");
  level = 0;
  body = (Next 1 (Do (Call (Named (codes "print")) (More (Constant (Str (codes "a"))) (More (Constant (Str (codes "b"))) NoExpr)) (Key (codes "sep") (Constant (Str (codes "-"))) (Key (codes "end") (Constant (Str (codes "!\n"))) NoKey))))
      End);
  locals = [];
}

abbrev print_keywords_module : ResolvedModule
print_keywords_module = record {
  source = (codes "a.py");
  code = (node (record {
    name = (codes "<module>");
    args = [];
    defaults = 0;
    n_state = 7;
    n_exc = 0;
    lines = lines_of (named ops.LoadName (codes "print") ∷
        named ops.LoadConstString (codes "a") ∷
        named ops.LoadConstString (codes "b") ∷
        named ops.LoadConstString (codes "sep") ∷
        named ops.LoadConstString (codes "-") ∷
        named ops.LoadConstString (codes "end") ∷
        named ops.LoadConstString (codes "!\n") ∷
        plain (instrs.Num ops.CallFunction 514) ∷
        plain (instrs.Plain ops.PopTop) ∷
        plain (instrs.Plain ops.LoadConstNone) ∷
        plain (instrs.Plain ops.ReturnValue) ∷
        []) (1 ∷ 1 ∷ 1 ∷ 1 ∷ 1 ∷ 1 ∷ 1 ∷ 1 ∷ 1 ∷ 1 ∷ 1 ∷ []);
  }) no_more);
}

print_keywords_translates : Translates print_keywords_source print_keywords_module
print_keywords_translates = record {
  file = refl;
  codes = (
    _,
    _,
    refl,
    record {
      name = refl;
      params = refl;
      given = refl;
      locals = refl;
      children = refl;
      last = 9;
      length = refl;
      body = (stmt {m = 9} {q = 9} («do» {m = 8} (call {m = 1} {n = 3} {k = 7} refl (name {p = 0} refl) (next {m = 2} {q = 3} (literal {p = 1} refl) (next {m = 3} {q = 3} (literal {p = 2} refl) no_expr)) (key {m = 5} {q = 7} refl (literal {p = 4} refl) (key {m = 7} {q = 7} refl (literal {p = 6} refl) no_key)) refl) refl)
          no_stmt);
      none = refl;
      return = refl;
    },
    refl,
  );
  states = (_, _, refl, record { n_state = refl; n_exc = refl }, refl);
}

print_keywords_tells : Tells (alone print_keywords_source) (only print_keywords_module) (room 2000 2000) [] 9 13 (record { output = codes "a-b!\n"; report = []; cells = 19 })
unfolding checked equal order str_of repr_of digits power
print_keywords_tells = record { means = refl; runs = refl; same = refl; one_turn_less = refl; one_step_less = refl }

-- an assertion at level 0
-- =======================

-- a.py:
--     assert False, "no"
--     print(True)
abbrev assert_at_0_source : Source
assert_at_0_source = record {
  file = (codes "a.py");
  level = 0;
  body = (Next 1 (AssertWith (Constant (Truth false)) (Constant (Str (codes "no"))))
      (Next 2 (Do (Call (Named (codes "print")) (More (Constant (Truth true)) NoExpr) NoKey))
      End));
  locals = [];
}

abbrev assert_at_0_module : ResolvedModule
assert_at_0_module = record {
  source = (codes "a.py");
  code = (node (record {
    name = (codes "<module>");
    args = [];
    defaults = 0;
    n_state = 2;
    n_exc = 0;
    lines = lines_of (plain (instrs.Plain ops.LoadConstFalse) ∷
        jump ops.PopJumpIfTrue (Position 6) ∷
        named ops.LoadGlobal (codes "AssertionError") ∷
        named ops.LoadConstString (codes "no") ∷
        plain (instrs.Num ops.CallFunction 1) ∷
        plain (instrs.Plain ops.RaiseObj) ∷
        named ops.LoadName (codes "print") ∷
        plain (instrs.Plain ops.LoadConstTrue) ∷
        plain (instrs.Num ops.CallFunction 1) ∷
        plain (instrs.Plain ops.PopTop) ∷
        plain (instrs.Plain ops.LoadConstNone) ∷
        plain (instrs.Plain ops.ReturnValue) ∷
        []) (1 ∷ 1 ∷ 1 ∷ 1 ∷ 1 ∷ 1 ∷ 2 ∷ 2 ∷ 2 ∷ 2 ∷ 2 ∷ 2 ∷ []);
  }) no_more);
}

assert_at_0_translates : Translates assert_at_0_source assert_at_0_module
assert_at_0_translates = record {
  file = refl;
  codes = (
    _,
    _,
    refl,
    record {
      name = refl;
      params = refl;
      given = refl;
      locals = refl;
      children = refl;
      last = 10;
      length = refl;
      body = (stmt {m = 6} {q = 10} (assert_with {m = 1} {n = 4} refl (literal {p = 0} refl) refl refl (literal {p = 3} refl) refl refl)
          (stmt {m = 10} {q = 10} («do» {m = 9} (call {m = 7} {n = 8} {k = 8} refl (name {p = 6} refl) (next {m = 8} {q = 8} (literal {p = 7} refl) no_expr) no_key refl) refl)
          no_stmt));
      none = refl;
      return = refl;
    },
    refl,
  );
  states = (_, _, refl, record { n_state = refl; n_exc = refl }, refl);
}

assert_at_0_tells : Tells (alone assert_at_0_source) (only assert_at_0_module) (room 2000 2000) [] 3 6 (record { output = []; report = codes "Traceback (most recent call last):\n  File \"a.py\", line 1, in <module>\nAssertionError: no\n"; cells = 27 })
unfolding checked equal order str_of repr_of digits power
assert_at_0_tells = record { means = refl; runs = refl; same = refl; one_turn_less = refl; one_step_less = refl }

-- an assertion at level 1, which is none
-- ======================================

-- a.py:
--     assert False, "no"
--     print(False)
abbrev assert_at_1_source : Source
assert_at_1_source = record {
  file = (codes "a.py");
  level = 1;
  body = (Next 1 (AssertWith (Constant (Truth false)) (Constant (Str (codes "no"))))
      (Next 2 (Do (Call (Named (codes "print")) (More (Constant (Truth false)) NoExpr) NoKey))
      End));
  locals = [];
}

abbrev assert_at_1_module : ResolvedModule
assert_at_1_module = record {
  source = (codes "a.py");
  code = (node (record {
    name = (codes "<module>");
    args = [];
    defaults = 0;
    n_state = 2;
    n_exc = 0;
    lines = lines_of (named ops.LoadName (codes "print") ∷
        plain (instrs.Plain ops.LoadConstFalse) ∷
        plain (instrs.Num ops.CallFunction 1) ∷
        plain (instrs.Plain ops.PopTop) ∷
        plain (instrs.Plain ops.LoadConstNone) ∷
        plain (instrs.Plain ops.ReturnValue) ∷
        []) (2 ∷ 2 ∷ 2 ∷ 2 ∷ 2 ∷ 2 ∷ []);
  }) no_more);
}

assert_at_1_translates : Translates assert_at_1_source assert_at_1_module
assert_at_1_translates = record {
  file = refl;
  codes = (
    _,
    _,
    refl,
    record {
      name = refl;
      params = refl;
      given = refl;
      locals = refl;
      children = refl;
      last = 4;
      length = refl;
      body = (stmt {m = 0} {q = 4} (no_assert_with {n = 0} refl)
          (stmt {m = 4} {q = 4} («do» {m = 3} (call {m = 1} {n = 2} {k = 2} refl (name {p = 0} refl) (next {m = 2} {q = 2} (literal {p = 1} refl) no_expr) no_key refl) refl)
          no_stmt));
      none = refl;
      return = refl;
    },
    refl,
  );
  states = (_, _, refl, record { n_state = refl; n_exc = refl }, refl);
}

assert_at_1_tells : Tells (alone assert_at_1_source) (only assert_at_1_module) (room 2000 2000) [] 6 7 (record { output = codes "False\n"; report = []; cells = 19 })
unfolding checked equal order str_of repr_of digits power
assert_at_1_tells = record { means = refl; runs = refl; same = refl; one_turn_less = refl; one_step_less = refl }
