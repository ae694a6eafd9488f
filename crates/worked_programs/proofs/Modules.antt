-- Programs of several modules.
use Rattle.std.proofs.Common.{◌≡◌, [], ◌∷◌, None, codes, refl, pos}
use Rattle.bc_scheme.specs.mpy_base.Val.{Int, Str}
use Rattle.bc_scheme.specs.bc_ops.declared.instr.Op.TheVariants as ops
use Rattle.bc_scheme.specs.bc_ops.declared.instr.Instr.TheVariants as instrs
use Rattle.bc_scheme.specs.bc_ops.declared.listing.Target.TheVariants.{Position}
use Rattle.bc_scheme.specs.mpy_tree.Resolved.{lines_of, plain, named, jump, node, no_more, more, ResolvedModule}
use Rattle.bc_scheme.specs.py_meaning.Tree.{Constant, Named, Binary, Attr, Call, NoExpr, More, NoKey, ToName, Only, Do, Assign, Pass, Return, Import, Try, Def, End, Next, NoHandler, On, OnAs}
use Rattle.bc_scheme.specs.py_meaning.Program.{Source, Single, Merge, Part, Parts}
use Rattle.bc_scheme.specs.py_meaning.Program as P
use Rattle.bc_scheme.specs.bc_machine.Library as L
use Rattle.bc_scheme.specs.Expressions.{literal, name, one, two, attr, call, no_expr, next, last, no_key}
use Rattle.bc_scheme.specs.Statements.{to_name, one_assign, no_part, no_import, imported, bare, «do», assign, pass, «return», «import», «try», def, no_stmt, stmt, «except», no_clause, on, on_as}
use Rattle.bc_scheme.specs.Translation.{Translates}
use Rattle.bc_scheme.specs.Merge.{merge_of}
use Rattle.bc_scheme.specs.py_values.Small.{checked}
use Rattle.bc_scheme.specs.py_values.Power.{power}
use Rattle.bc_scheme.specs.py_values.Equality.{equal}
use Rattle.bc_scheme.specs.py_primitives.Order.{order}
use Rattle.bc_scheme.specs.py_primitives.Texts.{str_of, repr_of}
use Rattle.std.specs.Fmt.{digits}
use Rattle.worked_programs.proofs.Telling.{Tells, room, only, program, library, holds, alias}

-- modules that import each other
-- ==============================

-- m.py:
--     import a
--     print("m")
abbrev circle_m_source : Source
circle_m_source = record {
  file = (codes "m.py");
  level = 0;
  body = (Next 1 (Import ((alias (codes "a") None) ∷ []))
      (Next 2 (Do (Call (Named (codes "print")) (More (Constant (Str (codes "m"))) NoExpr) NoKey))
      End));
  locals = [];
}

abbrev circle_m_module : ResolvedModule
circle_m_module = record {
  source = (codes "m.py");
  code = (node (record {
    name = (codes "<module>");
    args = [];
    defaults = 0;
    n_state = 2;
    n_exc = 0;
    lines = lines_of (plain (instrs.Int (pos 0)) ∷
        plain (instrs.Plain ops.LoadConstNone) ∷
        named ops.ImportName (codes "a") ∷
        named ops.StoreName (codes "a") ∷
        named ops.LoadName (codes "print") ∷
        named ops.LoadConstString (codes "m") ∷
        plain (instrs.Num ops.CallFunction 1) ∷
        plain (instrs.Plain ops.PopTop) ∷
        plain (instrs.Plain ops.LoadConstNone) ∷
        plain (instrs.Plain ops.ReturnValue) ∷
        []) (1 ∷ 1 ∷ 1 ∷ 1 ∷ 2 ∷ 2 ∷ 2 ∷ 2 ∷ 2 ∷ 2 ∷ []);
  }) no_more);
}

circle_m_translates : Translates circle_m_source circle_m_module
circle_m_translates = record {
  file = refl;
  codes = (
    _,
    _,
    refl,
    record {
      name = refl;
      params = refl;
      given = refl;
      locals = refl;
      children = refl;
      last = 8;
      length = refl;
      body = (stmt {m = 4} {q = 8} («import» {q = 4} (imported {m = 3} {q = 4} refl refl refl no_part refl no_import))
          (stmt {m = 8} {q = 8} («do» {m = 7} (call {m = 5} {n = 6} {k = 6} refl (name {p = 4} refl) (next {m = 6} {q = 6} (literal {p = 5} refl) no_expr) no_key refl) refl)
          no_stmt));
      none = refl;
      return = refl;
    },
    refl,
  );
  states = (_, _, refl, record { n_state = refl; n_exc = refl }, refl);
}

-- a.py:
--     x = 1
--     import b
--     y = 2
abbrev circle_a_source : Source
circle_a_source = record {
  file = (codes "a.py");
  level = 0;
  body = (Next 1 (Assign (Only (ToName (codes "x"))) (Constant (Int (pos 1))))
      (Next 2 (Import ((alias (codes "b") None) ∷ []))
      (Next 3 (Assign (Only (ToName (codes "y"))) (Constant (Int (pos 2))))
      End)));
  locals = [];
}

abbrev circle_a_module : ResolvedModule
circle_a_module = record {
  source = (codes "a.py");
  code = (node (record {
    name = (codes "<module>");
    args = [];
    defaults = 0;
    n_state = 2;
    n_exc = 0;
    lines = lines_of (plain (instrs.Int (pos 1)) ∷
        named ops.StoreName (codes "x") ∷
        plain (instrs.Int (pos 0)) ∷
        plain (instrs.Plain ops.LoadConstNone) ∷
        named ops.ImportName (codes "b") ∷
        named ops.StoreName (codes "b") ∷
        plain (instrs.Int (pos 2)) ∷
        named ops.StoreName (codes "y") ∷
        plain (instrs.Plain ops.LoadConstNone) ∷
        plain (instrs.Plain ops.ReturnValue) ∷
        []) (1 ∷ 1 ∷ 2 ∷ 2 ∷ 2 ∷ 2 ∷ 3 ∷ 3 ∷ 3 ∷ 3 ∷ []);
  }) no_more);
}

circle_a_translates : Translates circle_a_source circle_a_module
circle_a_translates = record {
  file = refl;
  codes = (
    _,
    _,
    refl,
    record {
      name = refl;
      params = refl;
      given = refl;
      locals = refl;
      children = refl;
      last = 8;
      length = refl;
      body = (stmt {m = 2} {q = 8} (assign {m = 1} {q = 2} (literal {p = 0} refl) (one_assign (to_name {p = 1} refl)))
          (stmt {m = 6} {q = 8} («import» {q = 6} (imported {m = 5} {q = 6} refl refl refl no_part refl no_import))
          (stmt {m = 8} {q = 8} (assign {m = 7} {q = 8} (literal {p = 6} refl) (one_assign (to_name {p = 7} refl)))
          no_stmt)));
      none = refl;
      return = refl;
    },
    refl,
  );
  states = (_, _, refl, record { n_state = refl; n_exc = refl }, refl);
}

-- b.py:
--     import a
--     print(a.x)
--     try:
--         print(a.y)
--     except AttributeError as e:
--         print(e)
abbrev circle_b_source : Source
circle_b_source = record {
  file = (codes "b.py");
  level = 0;
  body = (Next 1 (Import ((alias (codes "a") None) ∷ []))
      (Next 2 (Do (Call (Named (codes "print")) (More (Attr (Named (codes "a")) (codes "x")) NoExpr) NoKey))
      (Next 3 (Try (Next 4 (Do (Call (Named (codes "print")) (More (Attr (Named (codes "a")) (codes "y")) NoExpr) NoKey))
      End) (OnAs 5 (Named (codes "AttributeError")) (codes "e") (Next 6 (Do (Call (Named (codes "print")) (More (Named (codes "e")) NoExpr) NoKey))
      End) NoHandler) End)
      End)));
  locals = [];
}

abbrev circle_b_module : ResolvedModule
circle_b_module = record {
  source = (codes "b.py");
  code = (node (record {
    name = (codes "<module>");
    args = [];
    defaults = 0;
    n_state = 3;
    n_exc = 2;
    lines = lines_of (plain (instrs.Int (pos 0)) ∷
        plain (instrs.Plain ops.LoadConstNone) ∷
        named ops.ImportName (codes "a") ∷
        named ops.StoreName (codes "a") ∷
        named ops.LoadName (codes "print") ∷
        named ops.LoadName (codes "a") ∷
        named ops.LoadAttr (codes "x") ∷
        plain (instrs.Num ops.CallFunction 1) ∷
        plain (instrs.Plain ops.PopTop) ∷
        jump ops.SetupExcept (Position 16) ∷
        named ops.LoadName (codes "print") ∷
        named ops.LoadName (codes "a") ∷
        named ops.LoadAttr (codes "y") ∷
        plain (instrs.Num ops.CallFunction 1) ∷
        plain (instrs.Plain ops.PopTop) ∷
        jump ops.PopExceptJump (Position 33) ∷
        plain (instrs.Plain ops.DupTop) ∷
        named ops.LoadName (codes "AttributeError") ∷
        plain (instrs.Binary 8) ∷
        jump ops.PopJumpIfFalse (Position 32) ∷
        named ops.StoreName (codes "e") ∷
        jump ops.SetupFinally (Position 27) ∷
        named ops.LoadName (codes "print") ∷
        named ops.LoadName (codes "e") ∷
        plain (instrs.Num ops.CallFunction 1) ∷
        plain (instrs.Plain ops.PopTop) ∷
        plain (instrs.Plain ops.LoadConstNone) ∷
        plain (instrs.Plain ops.LoadConstNone) ∷
        named ops.StoreName (codes "e") ∷
        named ops.DeleteName (codes "e") ∷
        plain (instrs.Plain ops.EndFinally) ∷
        jump ops.PopExceptJump (Position 33) ∷
        plain (instrs.Plain ops.EndFinally) ∷
        plain (instrs.Plain ops.LoadConstNone) ∷
        plain (instrs.Plain ops.ReturnValue) ∷
        []) (1 ∷ 1 ∷ 1 ∷ 1 ∷ 2 ∷ 2 ∷ 2 ∷ 2 ∷ 2 ∷ 3 ∷ 4 ∷ 4 ∷ 4 ∷ 4 ∷ 4 ∷ 4 ∷ 5 ∷ 5 ∷ 5 ∷ 5 ∷ 5 ∷ 5 ∷ 6 ∷ 6 ∷ 6 ∷ 6 ∷ 6 ∷ 6 ∷ 6 ∷ 6 ∷ 6 ∷ 6 ∷ 6 ∷ 6 ∷ 6 ∷ []);
  }) no_more);
}

circle_b_translates : Translates circle_b_source circle_b_module
circle_b_translates = record {
  file = refl;
  codes = (
    _,
    _,
    refl,
    record {
      name = refl;
      params = refl;
      given = refl;
      locals = refl;
      children = refl;
      last = 33;
      length = refl;
      body = (stmt {m = 4} {q = 33} («import» {q = 4} (imported {m = 3} {q = 4} refl refl refl no_part refl no_import))
          (stmt {m = 9} {q = 33} («do» {m = 8} (call {m = 5} {n = 7} {k = 7} refl (name {p = 4} refl) (next {m = 7} {q = 7} (attr {m = 6} (name {p = 5} refl) refl) no_expr) no_key refl) refl)
          (stmt {m = 33} {q = 33} («try» {q = 33} («except» {j = 15} {k = 32} {q = 33} refl (stmt {m = 15} {q = 15} («do» {m = 14} (call {m = 11} {n = 13} {k = 13} refl (name {p = 10} refl) (next {m = 13} {q = 13} (attr {m = 12} (name {p = 11} refl) refl) no_expr) no_key refl) refl)
          no_stmt) refl (on_as {m = 18} {j = 26} {q = 32} refl (name {p = 17} refl) refl refl refl refl (stmt {m = 26} {q = 26} («do» {m = 25} (call {m = 23} {n = 24} {k = 24} refl (name {p = 22} refl) (next {m = 24} {q = 24} (name {p = 23} refl) no_expr) no_key refl) refl)
          no_stmt) refl refl refl refl refl refl no_clause) refl no_stmt))
          no_stmt)));
      none = refl;
      return = refl;
    },
    refl,
  );
  states = (_, _, refl, record { n_state = refl; n_exc = refl }, refl);
}

circle_tells : Tells (program (Single circle_m_source) ((codes "a", P.Runs (Single circle_a_source)) ∷ (codes "b", P.Runs (Single circle_b_source)) ∷ [])) (library circle_m_module (holds (codes "a") circle_a_module ∷ holds (codes "b") circle_b_module ∷ [])) (room 2000 2000) [] 36 57 (record { output = codes "1\n'module' object has no attribute 'y'\nm\n"; report = []; cells = 67 })
unfolding checked equal order str_of repr_of digits power
circle_tells = record { means = refl; runs = refl; same = refl; one_turn_less = refl; one_step_less = refl }

-- three parts in one namespace
-- ============================

-- one.py:
--     def f():
--         return 1
abbrev one_source : Source
one_source = record {
  file = (codes "one.py");
  level = 0;
  body = (Next 1 (Def 1 (codes "f") [] NoExpr (Next 2 (Return (Constant (Int (pos 1))))
      End))
      End);
  locals = ([] ∷ []);
}

abbrev one_module : ResolvedModule
one_module = record {
  source = (codes "one.py");
  code = (node (record {
    name = (codes "<module>");
    args = [];
    defaults = 0;
    n_state = 1;
    n_exc = 0;
    lines = lines_of (plain (instrs.Num ops.MakeFunction 0) ∷
        named ops.StoreName (codes "f") ∷
        plain (instrs.Plain ops.LoadConstNone) ∷
        plain (instrs.Plain ops.ReturnValue) ∷
        []) (1 ∷ 1 ∷ 1 ∷ 1 ∷ []);
  }) (more (node (record {
    name = (codes "f");
    args = [];
    defaults = 0;
    n_state = 1;
    n_exc = 0;
    lines = lines_of (plain (instrs.Int (pos 1)) ∷
        plain (instrs.Plain ops.ReturnValue) ∷
        plain (instrs.Plain ops.LoadConstNone) ∷
        plain (instrs.Plain ops.ReturnValue) ∷
        []) (2 ∷ 2 ∷ 2 ∷ 2 ∷ []);
  }) no_more) no_more));
}

one_translates : Translates one_source one_module
one_translates = record {
  file = refl;
  codes = (
    _,
    _,
    refl,
    record {
      name = refl;
      params = refl;
      given = refl;
      locals = refl;
      children = refl;
      last = 2;
      length = refl;
      body = (stmt {m = 2} {q = 2} (def {m = 1} (record { child = _; found = refl; named = refl; with_given = refl }) (bare {i = 0} refl refl) refl)
          no_stmt);
      none = refl;
      return = refl;
    },
    (
      _,
      _,
      refl,
      record {
        name = refl;
        params = refl;
        given = refl;
        locals = refl;
        children = refl;
        last = 2;
        length = refl;
        body = (stmt {m = 2} {q = 2} («return» {m = 1} (literal {p = 0} refl) refl)
            no_stmt);
        none = refl;
        return = refl;
      },
      refl,
    ),
  );
  states = (_, _, refl, record { n_state = refl; n_exc = refl }, (_, _, refl, record { n_state = refl; n_exc = refl }, refl));
}

-- two.py:
--     def f():
--         return 2
abbrev two_source : Source
two_source = record {
  file = (codes "two.py");
  level = 0;
  body = (Next 1 (Def 1 (codes "f") [] NoExpr (Next 2 (Return (Constant (Int (pos 2))))
      End))
      End);
  locals = ([] ∷ []);
}

abbrev two_module : ResolvedModule
two_module = record {
  source = (codes "two.py");
  code = (node (record {
    name = (codes "<module>");
    args = [];
    defaults = 0;
    n_state = 1;
    n_exc = 0;
    lines = lines_of (plain (instrs.Num ops.MakeFunction 0) ∷
        named ops.StoreName (codes "f") ∷
        plain (instrs.Plain ops.LoadConstNone) ∷
        plain (instrs.Plain ops.ReturnValue) ∷
        []) (1 ∷ 1 ∷ 1 ∷ 1 ∷ []);
  }) (more (node (record {
    name = (codes "f");
    args = [];
    defaults = 0;
    n_state = 1;
    n_exc = 0;
    lines = lines_of (plain (instrs.Int (pos 2)) ∷
        plain (instrs.Plain ops.ReturnValue) ∷
        plain (instrs.Plain ops.LoadConstNone) ∷
        plain (instrs.Plain ops.ReturnValue) ∷
        []) (2 ∷ 2 ∷ 2 ∷ 2 ∷ []);
  }) no_more) no_more));
}

two_translates : Translates two_source two_module
two_translates = record {
  file = refl;
  codes = (
    _,
    _,
    refl,
    record {
      name = refl;
      params = refl;
      given = refl;
      locals = refl;
      children = refl;
      last = 2;
      length = refl;
      body = (stmt {m = 2} {q = 2} (def {m = 1} (record { child = _; found = refl; named = refl; with_given = refl }) (bare {i = 0} refl refl) refl)
          no_stmt);
      none = refl;
      return = refl;
    },
    (
      _,
      _,
      refl,
      record {
        name = refl;
        params = refl;
        given = refl;
        locals = refl;
        children = refl;
        last = 2;
        length = refl;
        body = (stmt {m = 2} {q = 2} («return» {m = 1} (literal {p = 0} refl) refl)
            no_stmt);
        none = refl;
        return = refl;
      },
      refl,
    ),
  );
  states = (_, _, refl, record { n_state = refl; n_exc = refl }, (_, _, refl, record { n_state = refl; n_exc = refl }, refl));
}

-- three.py:
--     print(f())
abbrev three_source : Source
three_source = record {
  file = (codes "three.py");
  level = 0;
  body = (Next 1 (Do (Call (Named (codes "print")) (More (Call (Named (codes "f")) NoExpr NoKey) NoExpr) NoKey))
      End);
  locals = [];
}

abbrev three_module : ResolvedModule
three_module = record {
  source = (codes "three.py");
  code = (node (record {
    name = (codes "<module>");
    args = [];
    defaults = 0;
    n_state = 2;
    n_exc = 0;
    lines = lines_of (named ops.LoadName (codes "print") ∷
        named ops.LoadName (codes "f") ∷
        plain (instrs.Num ops.CallFunction 0) ∷
        plain (instrs.Num ops.CallFunction 1) ∷
        plain (instrs.Plain ops.PopTop) ∷
        plain (instrs.Plain ops.LoadConstNone) ∷
        plain (instrs.Plain ops.ReturnValue) ∷
        []) (1 ∷ 1 ∷ 1 ∷ 1 ∷ 1 ∷ 1 ∷ 1 ∷ []);
  }) no_more);
}

three_translates : Translates three_source three_module
three_translates = record {
  file = refl;
  codes = (
    _,
    _,
    refl,
    record {
      name = refl;
      params = refl;
      given = refl;
      locals = refl;
      children = refl;
      last = 5;
      length = refl;
      body = (stmt {m = 5} {q = 5} («do» {m = 4} (call {m = 1} {n = 3} {k = 3} refl (name {p = 0} refl) (next {m = 3} {q = 3} (call {m = 2} {n = 2} {k = 2} refl (name {p = 1} refl) no_expr no_key refl) no_expr) no_key refl) refl)
          no_stmt);
      none = refl;
      return = refl;
    },
    refl,
  );
  states = (_, _, refl, record { n_state = refl; n_exc = refl }, refl);
}

merged_tells : Tells (program (Merge (Parts (Single one_source) (Parts (Single two_source) (Part (Single three_source))))) []) (only (merge_of one_module (two_module ∷ three_module ∷ []))) (room 2000 2000) [] 13 29 (record { output = codes "2\n"; report = []; cells = 39 })
unfolding checked equal order str_of repr_of digits power
merged_tells = record { means = refl; runs = refl; same = refl; one_turn_less = refl; one_step_less = refl }

-- a module that raises is imported anew
-- =====================================

-- m.py:
--     try:
--         import a
--     except ValueError:
--         pass
--     import a
abbrev twice_m_source : Source
twice_m_source = record {
  file = (codes "m.py");
  level = 0;
  body = (Next 1 (Try (Next 2 (Import ((alias (codes "a") None) ∷ []))
      End) (On 3 (Named (codes "ValueError")) (Next 4 Pass
      End) NoHandler) End)
      (Next 5 (Import ((alias (codes "a") None) ∷ []))
      End));
  locals = [];
}

abbrev twice_m_module : ResolvedModule
twice_m_module = record {
  source = (codes "m.py");
  code = (node (record {
    name = (codes "<module>");
    args = [];
    defaults = 0;
    n_state = 3;
    n_exc = 1;
    lines = lines_of (jump ops.SetupExcept (Position 6) ∷
        plain (instrs.Int (pos 0)) ∷
        plain (instrs.Plain ops.LoadConstNone) ∷
        named ops.ImportName (codes "a") ∷
        named ops.StoreName (codes "a") ∷
        jump ops.PopExceptJump (Position 13) ∷
        plain (instrs.Plain ops.DupTop) ∷
        named ops.LoadName (codes "ValueError") ∷
        plain (instrs.Binary 8) ∷
        jump ops.PopJumpIfFalse (Position 12) ∷
        plain (instrs.Plain ops.PopTop) ∷
        jump ops.PopExceptJump (Position 13) ∷
        plain (instrs.Plain ops.EndFinally) ∷
        plain (instrs.Int (pos 0)) ∷
        plain (instrs.Plain ops.LoadConstNone) ∷
        named ops.ImportName (codes "a") ∷
        named ops.StoreName (codes "a") ∷
        plain (instrs.Plain ops.LoadConstNone) ∷
        plain (instrs.Plain ops.ReturnValue) ∷
        []) (1 ∷ 2 ∷ 2 ∷ 2 ∷ 2 ∷ 2 ∷ 3 ∷ 3 ∷ 3 ∷ 3 ∷ 3 ∷ 3 ∷ 3 ∷ 5 ∷ 5 ∷ 5 ∷ 5 ∷ 5 ∷ 5 ∷ []);
  }) no_more);
}

twice_m_translates : Translates twice_m_source twice_m_module
twice_m_translates = record {
  file = refl;
  codes = (
    _,
    _,
    refl,
    record {
      name = refl;
      params = refl;
      given = refl;
      locals = refl;
      children = refl;
      last = 17;
      length = refl;
      body = (stmt {m = 13} {q = 17} («try» {q = 13} («except» {j = 5} {k = 12} {q = 13} refl (stmt {m = 5} {q = 5} («import» {q = 5} (imported {m = 4} {q = 5} refl refl refl no_part refl no_import))
          no_stmt) refl (on {m = 8} {j = 11} {q = 12} refl (name {p = 7} refl) refl refl refl (stmt {m = 11} {q = 11} pass
          no_stmt) refl no_clause) refl no_stmt))
          (stmt {m = 17} {q = 17} («import» {q = 17} (imported {m = 16} {q = 17} refl refl refl no_part refl no_import))
          no_stmt));
      none = refl;
      return = refl;
    },
    refl,
  );
  states = (_, _, refl, record { n_state = refl; n_exc = refl }, refl);
}

-- a.py:
--     print("x")
--     int("q")
abbrev twice_a_source : Source
twice_a_source = record {
  file = (codes "a.py");
  level = 0;
  body = (Next 1 (Do (Call (Named (codes "print")) (More (Constant (Str (codes "x"))) NoExpr) NoKey))
      (Next 2 (Do (Call (Named (codes "int")) (More (Constant (Str (codes "q"))) NoExpr) NoKey))
      End));
  locals = [];
}

abbrev twice_a_module : ResolvedModule
twice_a_module = record {
  source = (codes "a.py");
  code = (node (record {
    name = (codes "<module>");
    args = [];
    defaults = 0;
    n_state = 2;
    n_exc = 0;
    lines = lines_of (named ops.LoadName (codes "print") ∷
        named ops.LoadConstString (codes "x") ∷
        plain (instrs.Num ops.CallFunction 1) ∷
        plain (instrs.Plain ops.PopTop) ∷
        named ops.LoadName (codes "int") ∷
        named ops.LoadConstString (codes "q") ∷
        plain (instrs.Num ops.CallFunction 1) ∷
        plain (instrs.Plain ops.PopTop) ∷
        plain (instrs.Plain ops.LoadConstNone) ∷
        plain (instrs.Plain ops.ReturnValue) ∷
        []) (1 ∷ 1 ∷ 1 ∷ 1 ∷ 2 ∷ 2 ∷ 2 ∷ 2 ∷ 2 ∷ 2 ∷ []);
  }) no_more);
}

twice_a_translates : Translates twice_a_source twice_a_module
twice_a_translates = record {
  file = refl;
  codes = (
    _,
    _,
    refl,
    record {
      name = refl;
      params = refl;
      given = refl;
      locals = refl;
      children = refl;
      last = 8;
      length = refl;
      body = (stmt {m = 4} {q = 8} («do» {m = 3} (call {m = 1} {n = 2} {k = 2} refl (name {p = 0} refl) (next {m = 2} {q = 2} (literal {p = 1} refl) no_expr) no_key refl) refl)
          (stmt {m = 8} {q = 8} («do» {m = 7} (call {m = 5} {n = 6} {k = 6} refl (name {p = 4} refl) (next {m = 6} {q = 6} (literal {p = 5} refl) no_expr) no_key refl) refl)
          no_stmt));
      none = refl;
      return = refl;
    },
    refl,
  );
  states = (_, _, refl, record { n_state = refl; n_exc = refl }, refl);
}

twice_tells : Tells (program (Single twice_m_source) ((codes "a", P.Runs (Single twice_a_source)) ∷ [])) (library twice_m_module (holds (codes "a") twice_a_module ∷ [])) (room 2000 2000) [] 25 29 (record { output = codes "x\nx\n"; report = codes "Traceback (most recent call last):\n  File \"a.py\", line 2, in <module>\nValueError: invalid syntax for integer with base 10\n"; cells = 77 })
unfolding checked equal order str_of repr_of digits power
twice_tells = record { means = refl; runs = refl; same = refl; one_turn_less = refl; one_step_less = refl }

-- a module that was refused
-- =========================

-- m.py:
--     import a
abbrev refused_source : Source
refused_source = record {
  file = (codes "m.py");
  level = 0;
  body = (Next 1 (Import ((alias (codes "a") None) ∷ []))
      End);
  locals = [];
}

abbrev refused_module : ResolvedModule
refused_module = record {
  source = (codes "m.py");
  code = (node (record {
    name = (codes "<module>");
    args = [];
    defaults = 0;
    n_state = 2;
    n_exc = 0;
    lines = lines_of (plain (instrs.Int (pos 0)) ∷
        plain (instrs.Plain ops.LoadConstNone) ∷
        named ops.ImportName (codes "a") ∷
        named ops.StoreName (codes "a") ∷
        plain (instrs.Plain ops.LoadConstNone) ∷
        plain (instrs.Plain ops.ReturnValue) ∷
        []) (1 ∷ 1 ∷ 1 ∷ 1 ∷ 1 ∷ 1 ∷ []);
  }) no_more);
}

refused_translates : Translates refused_source refused_module
refused_translates = record {
  file = refl;
  codes = (
    _,
    _,
    refl,
    record {
      name = refl;
      params = refl;
      given = refl;
      locals = refl;
      children = refl;
      last = 4;
      length = refl;
      body = (stmt {m = 4} {q = 4} («import» {q = 4} (imported {m = 3} {q = 4} refl refl refl no_part refl no_import))
          no_stmt);
      none = refl;
      return = refl;
    },
    refl,
  );
  states = (_, _, refl, record { n_state = refl; n_exc = refl }, refl);
}

refused_tells : Tells (program (Single refused_source) ((codes "a", P.Refused) ∷ [])) (library refused_module ((codes "a", L.Refused) ∷ [])) (room 2000 2000) [] 2 3 (record { output = []; report = codes "Traceback (most recent call last):\n  File \"m.py\", line 1, in <module>\nValueError: incompatible .mpy file\n"; cells = 29 })
unfolding checked equal order str_of repr_of digits power
refused_tells = record { means = refl; runs = refl; same = refl; one_turn_less = refl; one_step_less = refl }

-- a module that a package lacks
-- =============================

-- a.py:
--     import p.z
abbrev package_a_source : Source
package_a_source = record {
  file = (codes "a.py");
  level = 0;
  body = (Next 1 (Import ((alias (codes "p.z") None) ∷ []))
      End);
  locals = [];
}

abbrev package_a_module : ResolvedModule
package_a_module = record {
  source = (codes "a.py");
  code = (node (record {
    name = (codes "<module>");
    args = [];
    defaults = 0;
    n_state = 2;
    n_exc = 0;
    lines = lines_of (plain (instrs.Int (pos 0)) ∷
        plain (instrs.Plain ops.LoadConstNone) ∷
        named ops.ImportName (codes "p.z") ∷
        named ops.StoreName (codes "p") ∷
        plain (instrs.Plain ops.LoadConstNone) ∷
        plain (instrs.Plain ops.ReturnValue) ∷
        []) (1 ∷ 1 ∷ 1 ∷ 1 ∷ 1 ∷ 1 ∷ []);
  }) no_more);
}

package_a_translates : Translates package_a_source package_a_module
package_a_translates = record {
  file = refl;
  codes = (
    _,
    _,
    refl,
    record {
      name = refl;
      params = refl;
      given = refl;
      locals = refl;
      children = refl;
      last = 4;
      length = refl;
      body = (stmt {m = 4} {q = 4} («import» {q = 4} (imported {m = 3} {q = 4} refl refl refl no_part refl no_import))
          no_stmt);
      none = refl;
      return = refl;
    },
    refl,
  );
  states = (_, _, refl, record { n_state = refl; n_exc = refl }, refl);
}

-- p/__init__.py:
--     print("p")
abbrev package_p_source : Source
package_p_source = record {
  file = (codes "p/__init__.py");
  level = 0;
  body = (Next 1 (Do (Call (Named (codes "print")) (More (Constant (Str (codes "p"))) NoExpr) NoKey))
      End);
  locals = [];
}

abbrev package_p_module : ResolvedModule
package_p_module = record {
  source = (codes "p/__init__.py");
  code = (node (record {
    name = (codes "<module>");
    args = [];
    defaults = 0;
    n_state = 2;
    n_exc = 0;
    lines = lines_of (named ops.LoadName (codes "print") ∷
        named ops.LoadConstString (codes "p") ∷
        plain (instrs.Num ops.CallFunction 1) ∷
        plain (instrs.Plain ops.PopTop) ∷
        plain (instrs.Plain ops.LoadConstNone) ∷
        plain (instrs.Plain ops.ReturnValue) ∷
        []) (1 ∷ 1 ∷ 1 ∷ 1 ∷ 1 ∷ 1 ∷ []);
  }) no_more);
}

package_p_translates : Translates package_p_source package_p_module
package_p_translates = record {
  file = refl;
  codes = (
    _,
    _,
    refl,
    record {
      name = refl;
      params = refl;
      given = refl;
      locals = refl;
      children = refl;
      last = 4;
      length = refl;
      body = (stmt {m = 4} {q = 4} («do» {m = 3} (call {m = 1} {n = 2} {k = 2} refl (name {p = 0} refl) (next {m = 2} {q = 2} (literal {p = 1} refl) no_expr) no_key refl) refl)
          no_stmt);
      none = refl;
      return = refl;
    },
    refl,
  );
  states = (_, _, refl, record { n_state = refl; n_exc = refl }, refl);
}

-- p/q.py:
--     X = 4
abbrev package_p_q_source : Source
package_p_q_source = record {
  file = (codes "p/q.py");
  level = 0;
  body = (Next 1 (Assign (Only (ToName (codes "X"))) (Constant (Int (pos 4))))
      End);
  locals = [];
}

abbrev package_p_q_module : ResolvedModule
package_p_q_module = record {
  source = (codes "p/q.py");
  code = (node (record {
    name = (codes "<module>");
    args = [];
    defaults = 0;
    n_state = 1;
    n_exc = 0;
    lines = lines_of (plain (instrs.Int (pos 4)) ∷
        named ops.StoreName (codes "X") ∷
        plain (instrs.Plain ops.LoadConstNone) ∷
        plain (instrs.Plain ops.ReturnValue) ∷
        []) (1 ∷ 1 ∷ 1 ∷ 1 ∷ []);
  }) no_more);
}

package_p_q_translates : Translates package_p_q_source package_p_q_module
package_p_q_translates = record {
  file = refl;
  codes = (
    _,
    _,
    refl,
    record {
      name = refl;
      params = refl;
      given = refl;
      locals = refl;
      children = refl;
      last = 2;
      length = refl;
      body = (stmt {m = 2} {q = 2} (assign {m = 1} {q = 2} (literal {p = 0} refl) (one_assign (to_name {p = 1} refl)))
          no_stmt);
      none = refl;
      return = refl;
    },
    refl,
  );
  states = (_, _, refl, record { n_state = refl; n_exc = refl }, refl);
}

no_part_tells : Tells (program (Single package_a_source) ((codes "p", P.Runs (Single package_p_source)) ∷ (codes "p.q", P.Runs (Single package_p_q_source)) ∷ [])) (library package_a_module (holds (codes "p") package_p_module ∷ holds (codes "p.q") package_p_q_module ∷ [])) (room 2000 2000) [] 9 11 (record { output = codes "p\n"; report = codes "Traceback (most recent call last):\n  File \"a.py\", line 1, in <module>\nImportError: no module named 'p.z'\n"; cells = 48 })
unfolding checked equal order str_of repr_of digits power
no_part_tells = record { means = refl; runs = refl; same = refl; one_turn_less = refl; one_step_less = refl }
