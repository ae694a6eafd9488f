use Rattle.std.proofs.Common.{List, length, Option, Result, refl, ap, subst, arith}
use Rattle.std.specs.Prelude.{nat_lt}
use Rattle.std.proofs.lemmas.Bool.{false≢true}
use Rattle.mpy_base.specs.declared.limits.TheConstants.{MAX_CALLS}
use Rattle.frame_moves.specs.arena_heap.declared.value.Value.{Value}
use Rattle.frame_moves.specs.prim_faults.declared.fault.Fault.{Fault}
use Rattle.prim_calls.specs.Binding.{IsBound, IsKnownBound}
use Rattle.frame_calls.specs.Entering.{begun, IsEntered}
use Rattle.frame_calls.specs.Layouts.{tables_of}
use Rattle.frame_calls.proofs.Enterings.{some_runs}
use Rattle.frame_calls.proofs.Runs.{Bind, fault_run, entered_run, has_entered, new_placed, entered_stop}
use Rattle.frame_calls.proofs.entering.run_function.Goals as goal

pub returns-in-Err : goal.returns-in-Err
returns-in-Err g c =
    let texts = g.C.Constants.text_of c.args.consts.now in
    let tuples = g.C.Constants.items_of c.args.consts.now in
    let h = c.args.arena.now in
    let vs = c.args.operands.now.args in
    let ks = c.args.operands.now.keys in
    let calls = c.args.frames.now.calls in
    record {
      steps = λ layout library item invokes row.
          let t = tables_of texts tuples layout in
          fault_run c.moves_law.ensures.begins t library item c.args.size h vs ks c.args.function c.args.module_number c.args.code.now row c.bind.new.self.values calls (some_runs c.args.size calls c.requires.some c.requires.there) invokes c.in-Err.fault
          (subst (λ (r : Result (Unit {0}) Fault). IsBound texts tuples h c.bind.new.self.values r (Bind c.moves_law.ensures.begins t library item c.args.size h vs ks c.args.function c.args.module_number c.args.code.now row c.bind.new.self.values)) c.in-Err.is c.bind.ensures.bound);
      entered = refl;
      placed = λ layout library row ok. absurd (false≢true ok);
      stop = subst (λ (r : Result (Unit {0}) Fault). IsKnownBound texts tuples h.objects c.bind.new.self.values r) c.in-Err.is c.bind.ensures.known;
      room = c.bind.ensures.room;
    }

pub enter-requires-clause-params : goal.enter-requires-clause-params
enter-requires-clause-params g c =
    let same = ap (λ (vs : List (Option Value)). length vs) c.bound-values.ensures in
    omega (arith, same, c.bind.ensures.count, c.requires.params)

pub returns-in-Ok : goal.returns-in-Ok
returns-in-Ok g c =
    let texts = g.C.Constants.text_of c.args.consts.now in
    let tuples = g.C.Constants.items_of c.args.consts.now in
    let h = c.args.arena.now in
    let given = c.args.operands.now.args in
    let ks = c.args.operands.now.keys in
    let f = c.args.function in
    let number = c.args.module_number in
    let old = c.args.frames.now in
    let new = c.enter.new.frames in
    let result = c.enter.result in
    let vs = c.bind.new.self.values in
    let locals = c.args.code.now.locals in
    let deep = nat_lt (length old.calls) MAX_CALLS in
    let is = subst (λ (z : List (Option Value)). IsEntered deep c.args.size (begun f number locals z) old new result) c.bound-values.ensures c.enter.ensures in
    record {
      steps = λ layout library item invokes row.
          let t = tables_of texts tuples layout in
          entered_run c.moves_law.ensures.begins t library item c.args.size h given ks f number c.args.code.now row vs old new result deep refl (some_runs c.args.size old.calls c.requires.some c.requires.there) invokes
          (subst (λ (r : Result (Unit {0}) Fault). IsBound texts tuples h vs r (Bind c.moves_law.ensures.begins t library item c.args.size h given ks f number c.args.code.now row vs)) c.in-Ok.is c.bind.ensures.bound) is;
      entered = has_entered texts tuples h f number locals c.args.size vs old new result deep is (subst (λ (r : Result (Unit {0}) Fault). IsKnownBound texts tuples h.objects vs r) c.in-Ok.is c.bind.ensures.known);
      placed = λ layout library row ok. new_placed c.placed_law.ensures.begins (tables_of texts tuples layout) library f number c.args.size c.args.code.now vs old new result deep row is ok;
      stop = entered_stop texts tuples h f number locals c.args.size vs old new result deep is;
      room = c.bind.ensures.room;
    }
