use Rattle.std.proofs.Common.{refl, sym, subst}
use Rattle.mpy_base.specs.declared.builtin.Builtin.TheVariants as builtins
use Rattle.mpy_base.specs.Val.{Val}
use Rattle.prim_builtins.specs.py_primitives.Calls.{Between}
use Rattle.prim_builtins.specs.py_primitives.Outcome.{Outcome}
use Rattle.prim_builtins.specs.prim_walks.Plain.{plain}
use Rattle.prim_builtins.specs.prim_faults.Outcomes.{IsOutcome}
use Rattle.prim_builtins.proofs.Calls.{method_refused}
use Rattle.prim_str_methods.proofs.StrCalls.{split_call}
use Rattle.prim_str_methods.proofs.splits.call_str_split.Goals as goal

pub returns-in-Ok : goal.returns-in-Ok
returns-in-Ok g c =
    let texts = g.C.Constants.text_of c.args.consts.now in
    let tuples = g.C.Constants.items_of c.args.consts.now in
    let h = c.args.arena.now in
    subst (λ (o : Outcome Val). IsOutcome texts tuples h c.split_with.new.arena c.split_with.result o)
    (sym (split_call texts tuples h c.args.object c.args.args.now c.args.keys.now c.requires.str c.requires.leads c.in-Ok.ensures.as_many.1 c.in-Ok.ensures.no_keywords)) c.split_with.ensures

pub returns-in-Err : goal.returns-in-Err
returns-in-Err g c =
    let texts = g.C.Constants.text_of c.args.consts.now in
    let tuples = g.C.Constants.items_of c.args.consts.now in
    let h = c.args.arena.now in
    method_refused texts tuples h c.args.args.now c.args.keys.now builtins.StrSplit (plain texts tuples c.args.object) (Between 0 1) c.in-Err.fault c.requires.all_told c.in-Err.ensures.refused refl
