use Rattle.std.proofs.Common.{sym, ap, ◌∙◌, All}
use Rattle.frame_moves.specs.bc_ops.declared.instr.Op.TheVariants as ops
use Rattle.frame_moves.specs.bc_ops.declared.instr.Instr.TheVariants as instrs
use Rattle.frame_moves.specs.py_effects.Effect.{Fails}
use Rattle.frame_moves.specs.bc_machine.Library.{Plain}
use Rattle.frame_moves.specs.prim_faults.Sights.{world_over}
use Rattle.frame_moves.specs.vm_frames.Placed.{IsPlaced}
use Rattle.frame_moves.specs.Shown.{Tables, view_of}
use Rattle.frame_moves.specs.Outcomes.{world_of, failing_of}
use Rattle.frame_exits.specs.Names.{AreTablesOf}
use Rattle.frame_exits.specs.Ends.{place_of, with_modules, state_of, StepsTo}
use Rattle.frame_exits.proofs.Keeping.{keeps_by}
use Rattle.frame_exits.proofs.Fails.{top_value, obj_fails}
use Rattle.frame_exits.proofs.Tabling.{by_tables}
use Rattle.frame_exits.proofs.raising.raise_obj.Goals as goal

pub returns-clause-steps : goal.returns-clause-steps
returns-clause-steps g c tables w are =
    let texts = g.C.Constants.text_of c.args.consts.now in
    let tuples = g.C.Constants.items_of c.args.consts.now in
    let old = c.args.frames.now.calls in
    let new = c.fail.new.frames.calls in
    let a0 = c.args.arena.now in
    let a1 = c.raise_value-failure.new.arena in
    let m0 = c.args.modules.now in
    let m1 = c.fail.new.modules in
    let top = top_value old c.requires.value.0 c.in-Value.v c.slot.result c.requires.value.1 c.slot.ensures c.in-Value.is in
    by_tables texts tuples c.args.names.now
    (λ (t : Tables). AreTablesOf texts tuples c.args.names.now t → All (IsPlaced (view_of t)) old
    → StepsTo t (place_of t c.args.place) (world_of t (with_modules t w m0) a0) (Plain (instrs.Plain ops.RaiseObj)) old (state_of t c.fail.result new (world_of t (with_modules t w m1) a1)))
    (λ module_name starts named are_of placed library paid.
    let t : Tables = record { texts = texts; tuples = tuples; module_name = module_name; starts = starts } in
    obj_fails t library (place_of t c.args.place) paid (world_of t (with_modules t w m0) a0) c.in-Value.v old top
    ∙ ap (λ (z : Fails). failing_of t old z) (sym (c.raise_value-failure.ensures.failure (with_modules t w m0)))
    ∙ c.fail.ensures.state t (world_over texts tuples w a1) are_of placed)
    tables are are

pub returns-clause-thrown : goal.returns-clause-thrown
returns-clause-thrown g c = record {
  failure = c.raise_value-failure.result;
  exception = c.raise_value-failure.ensures.exception;
  end = c.fail.ensures.end;
  calls = c.fail.ensures.calls;
}

pub returns-clause-keeps : goal.returns-clause-keeps
returns-clause-keeps g c =
    keeps_by (g.C.Constants.text_of c.args.consts.now) (g.C.Constants.items_of c.args.consts.now) _ c.args.arena.now.objects c.raise_value-failure.new.arena.objects
    c.args.frames.now c.fail.new.frames c.raise_value-failure.result c.fail.ensures.calls
    c.raise_value-failure.ensures.exception c.raise_value-failure.ensures.later c.raise_value-failure.ensures.all_told
