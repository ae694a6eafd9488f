-- Rooms that hold a run to the cell, and ports that fail.
use Rattle.std.proofs.Common.{◌≡◌, [], ◌∷◌, None, codes, refl, false, pos}
use Rattle.bc_scheme.specs.mpy_base.Val.{Int, Str}
use Rattle.bc_scheme.specs.bc_ops.declared.instr.Op.TheVariants as ops
use Rattle.bc_scheme.specs.bc_ops.declared.instr.Instr.TheVariants as instrs
use Rattle.bc_scheme.specs.mpy_tree.Resolved.{lines_of, plain, named, node, no_more, ResolvedModule}
use Rattle.bc_scheme.specs.py_tree.declared.expr.BinaryOp.TheVariants as binaries
use Rattle.bc_scheme.specs.py_meaning.Tree.{Constant, Named, Binary, ListOf, Call, Method, NoExpr, More, NoKey, ToName, Only, Do, Assign, Import, End, Next}
use Rattle.bc_scheme.specs.py_meaning.Program.{Source}
use Rattle.bc_scheme.specs.py_meaning.Meaning.{meaning}
use Rattle.bc_scheme.specs.py_effects.Ends.{Memory}
use Rattle.bc_scheme.specs.Expressions.{literal, name, one, two, items, call, method, no_expr, next, last, no_key}
use Rattle.bc_scheme.specs.Statements.{to_name, one_assign, no_part, no_import, imported, «do», assign, «import», no_stmt, stmt}
use Rattle.bc_scheme.specs.Translation.{Translates}
use Rattle.bc_scheme.specs.py_values.Small.{checked}
use Rattle.bc_scheme.specs.py_values.Power.{power}
use Rattle.bc_scheme.specs.py_values.Equality.{equal}
use Rattle.bc_scheme.specs.py_primitives.Order.{order}
use Rattle.bc_scheme.specs.py_primitives.Texts.{str_of, repr_of}
use Rattle.std.specs.Fmt.{digits}
use Rattle.worked_programs.proofs.Telling.{Tells, room, alone, only, script, alias}

-- a list that fits to the cell
-- ============================

-- a.py:
--     print("a")
--     x = [1, 2, 3]
--     print(x)
abbrev list_source : Source
list_source = record {
  file = (codes "a.py");
  level = 0;
  body = (Next 1 (Do (Call (Named (codes "print")) (More (Constant (Str (codes "a"))) NoExpr) NoKey))
      (Next 2 (Assign (Only (ToName (codes "x"))) (ListOf (More (Constant (Int (pos 1))) (More (Constant (Int (pos 2))) (More (Constant (Int (pos 3))) NoExpr)))))
      (Next 3 (Do (Call (Named (codes "print")) (More (Named (codes "x")) NoExpr) NoKey))
      End)));
  locals = [];
}

abbrev list_module : ResolvedModule
list_module = record {
  source = (codes "a.py");
  code = (node (record {
    name = (codes "<module>");
    args = [];
    defaults = 0;
    n_state = 3;
    n_exc = 0;
    lines = lines_of (named ops.LoadName (codes "print") ∷
        named ops.LoadConstString (codes "a") ∷
        plain (instrs.Num ops.CallFunction 1) ∷
        plain (instrs.Plain ops.PopTop) ∷
        plain (instrs.Int (pos 1)) ∷
        plain (instrs.Int (pos 2)) ∷
        plain (instrs.Int (pos 3)) ∷
        plain (instrs.Num ops.BuildList 3) ∷
        named ops.StoreName (codes "x") ∷
        named ops.LoadName (codes "print") ∷
        named ops.LoadName (codes "x") ∷
        plain (instrs.Num ops.CallFunction 1) ∷
        plain (instrs.Plain ops.PopTop) ∷
        plain (instrs.Plain ops.LoadConstNone) ∷
        plain (instrs.Plain ops.ReturnValue) ∷
        []) (1 ∷ 1 ∷ 1 ∷ 1 ∷ 2 ∷ 2 ∷ 2 ∷ 2 ∷ 2 ∷ 3 ∷ 3 ∷ 3 ∷ 3 ∷ 3 ∷ 3 ∷ []);
  }) no_more);
}

list_translates : Translates list_source list_module
list_translates = record {
  file = refl;
  codes = (
    _,
    _,
    refl,
    record {
      name = refl;
      params = refl;
      given = refl;
      locals = refl;
      children = refl;
      last = 13;
      length = refl;
      body = (stmt {m = 4} {q = 13} («do» {m = 3} (call {m = 1} {n = 2} {k = 2} refl (name {p = 0} refl) (next {m = 2} {q = 2} (literal {p = 1} refl) no_expr) no_key refl) refl)
          (stmt {m = 9} {q = 13} (assign {m = 8} {q = 9} (items {m = 7} (next {m = 5} {q = 7} (literal {p = 4} refl) (next {m = 6} {q = 7} (literal {p = 5} refl) (next {m = 7} {q = 7} (literal {p = 6} refl) no_expr))) refl) (one_assign (to_name {p = 8} refl)))
          (stmt {m = 13} {q = 13} («do» {m = 12} (call {m = 10} {n = 11} {k = 11} refl (name {p = 9} refl) (next {m = 11} {q = 11} (name {p = 10} refl) no_expr) no_key refl) refl)
          no_stmt)));
      none = refl;
      return = refl;
    },
    refl,
  );
  states = (_, _, refl, record { n_state = refl; n_exc = refl }, refl);
}

fits_tells : Tells (alone list_source) (only list_module) (room 26 0) [] 19 20 (record { output = codes "a\n[1, 2, 3]\n"; report = []; cells = 26 })
unfolding checked equal order str_of repr_of digits power
fits_tells = record { means = refl; runs = refl; same = refl; one_turn_less = refl; one_step_less = refl }

-- one cell less
-- =============

full_tells : Tells (alone list_source) (only list_module) (room 25 0) [] 10 9 (record { output = codes "a\n"; report = []; cells = 19 })
unfolding checked equal order str_of repr_of digits power
full_tells = record { means = refl; runs = refl; same = refl; one_turn_less = refl; one_step_less = refl }

full_memory : (meaning (alone list_source) 25 0 [] 10).end ≡ Memory (record { asked = 7; used = 19; size = 25; bytes = false })
unfolding checked equal order str_of repr_of digits power
full_memory = refl

-- a port of one answer
-- ====================

-- a.py:
--     import port
--     n = port.get(0)
--     port.put(0, n + 1)
--     print(port.get(0))
abbrev port_source : Source
port_source = record {
  file = (codes "a.py");
  level = 0;
  body = (Next 1 (Import ((alias (codes "port") None) ∷ []))
      (Next 2 (Assign (Only (ToName (codes "n"))) (Method (Named (codes "port")) (codes "get") (More (Constant (Int (pos 0))) NoExpr) NoKey))
      (Next 3 (Do (Method (Named (codes "port")) (codes "put") (More (Constant (Int (pos 0))) (More (Binary binaries.Add (Named (codes "n")) (Constant (Int (pos 1)))) NoExpr)) NoKey))
      (Next 4 (Do (Call (Named (codes "print")) (More (Method (Named (codes "port")) (codes "get") (More (Constant (Int (pos 0))) NoExpr) NoKey) NoExpr) NoKey))
      End))));
  locals = [];
}

abbrev port_module : ResolvedModule
port_module = record {
  source = (codes "a.py");
  code = (node (record {
    name = (codes "<module>");
    args = [];
    defaults = 0;
    n_state = 5;
    n_exc = 0;
    lines = lines_of (plain (instrs.Int (pos 0)) ∷
        plain (instrs.Plain ops.LoadConstNone) ∷
        named ops.ImportName (codes "port") ∷
        named ops.StoreName (codes "port") ∷
        named ops.LoadName (codes "port") ∷
        named ops.LoadMethod (codes "get") ∷
        plain (instrs.Int (pos 0)) ∷
        plain (instrs.Num ops.CallMethod 1) ∷
        named ops.StoreName (codes "n") ∷
        named ops.LoadName (codes "port") ∷
        named ops.LoadMethod (codes "put") ∷
        plain (instrs.Int (pos 0)) ∷
        named ops.LoadName (codes "n") ∷
        plain (instrs.Int (pos 1)) ∷
        plain (instrs.Binary 27) ∷
        plain (instrs.Num ops.CallMethod 2) ∷
        plain (instrs.Plain ops.PopTop) ∷
        named ops.LoadName (codes "print") ∷
        named ops.LoadName (codes "port") ∷
        named ops.LoadMethod (codes "get") ∷
        plain (instrs.Int (pos 0)) ∷
        plain (instrs.Num ops.CallMethod 1) ∷
        plain (instrs.Num ops.CallFunction 1) ∷
        plain (instrs.Plain ops.PopTop) ∷
        plain (instrs.Plain ops.LoadConstNone) ∷
        plain (instrs.Plain ops.ReturnValue) ∷
        []) (1 ∷ 1 ∷ 1 ∷ 1 ∷ 2 ∷ 2 ∷ 2 ∷ 2 ∷ 2 ∷ 3 ∷ 3 ∷ 3 ∷ 3 ∷ 3 ∷ 3 ∷ 3 ∷ 3 ∷ 4 ∷ 4 ∷ 4 ∷ 4 ∷ 4 ∷ 4 ∷ 4 ∷ 4 ∷ 4 ∷ []);
  }) no_more);
}

port_translates : Translates port_source port_module
port_translates = record {
  file = refl;
  codes = (
    _,
    _,
    refl,
    record {
      name = refl;
      params = refl;
      given = refl;
      locals = refl;
      children = refl;
      last = 24;
      length = refl;
      body = (stmt {m = 4} {q = 24} («import» {q = 4} (imported {m = 3} {q = 4} refl refl refl no_part refl no_import))
          (stmt {m = 9} {q = 24} (assign {m = 8} {q = 9} (method {m = 5} {n = 7} {k = 7} refl (name {p = 4} refl) refl (next {m = 7} {q = 7} (literal {p = 6} refl) no_expr) no_key refl) (one_assign (to_name {p = 8} refl)))
          (stmt {m = 17} {q = 24} («do» {m = 16} (method {m = 10} {n = 15} {k = 15} refl (name {p = 9} refl) refl (next {m = 12} {q = 15} (literal {p = 11} refl) (next {m = 15} {q = 15} (two {m = 13} {n = 14} (name {p = 12} refl) (literal {p = 13} refl) refl) no_expr)) no_key refl) refl)
          (stmt {m = 24} {q = 24} («do» {m = 23} (call {m = 18} {n = 22} {k = 22} refl (name {p = 17} refl) (next {m = 22} {q = 22} (method {m = 19} {n = 21} {k = 21} refl (name {p = 18} refl) refl (next {m = 21} {q = 21} (literal {p = 20} refl) no_expr) no_key refl) no_expr) no_key refl) refl)
          no_stmt))));
      none = refl;
      return = refl;
    },
    refl,
  );
  states = (_, _, refl, record { n_state = refl; n_exc = refl }, refl);
}

port_works_tells : Tells (alone port_source) (only port_module) (room 2000 2000) ((script ((pos 41) ∷ []) [] ∷ [])) 21 27 (record { output = codes "None\n"; report = []; cells = 19 })
unfolding checked equal order str_of repr_of digits power
port_works_tells = record { means = refl; runs = refl; same = refl; one_turn_less = refl; one_step_less = refl }

-- the same port, whose second call fails
-- ======================================

port_fails_second_tells : Tells (alone port_source) (only port_module) (room 2000 2000) ((script ((pos 41) ∷ []) (1 ∷ []) ∷ [])) 14 16 (record { output = []; report = codes "Traceback (most recent call last):\n  File \"a.py\", line 3, in <module>\nOSError: 5\n"; cells = 27 })
unfolding checked equal order str_of repr_of digits power
port_fails_second_tells = record { means = refl; runs = refl; same = refl; one_turn_less = refl; one_step_less = refl }
