use Rattle.std.proofs.Common.{Ok, ◌∙◌, All}
use Rattle.frame_moves.specs.bc_ops.declared.instr.Op.TheVariants as ops
use Rattle.frame_moves.specs.bc_ops.declared.instr.Instr.TheVariants as instrs
use Rattle.frame_moves.specs.bc_machine.Library.{Plain}
use Rattle.mpy_base.proofs.Worlds.{later_same}
use Rattle.frame_moves.specs.prim_faults.Sights.{world_over}
use Rattle.frame_moves.specs.vm_frames.Placed.{IsPlaced}
use Rattle.frame_moves.specs.Shown.{Tables, view_of}
use Rattle.frame_moves.specs.Outcomes.{world_of}
use Rattle.frame_exits.specs.Names.{AreTablesOf}
use Rattle.frame_exits.specs.Ends.{place_of, with_modules, state_of, StepsTo}
use Rattle.frame_exits.proofs.Keeping.{keeps_by}
use Rattle.frame_exits.proofs.Fails.{last_throws, last_faults, last_exception}
use Rattle.frame_exits.proofs.Tabling.{by_tables}
use Rattle.frame_exits.proofs.raising.raise_last.Goals as goal

pub returns-in-Some-clause-steps : goal.returns-in-Some-clause-steps
returns-in-Some-clause-steps g c tables w are =
    let texts = g.C.Constants.text_of c.args.consts.now in
    let tuples = g.C.Constants.items_of c.args.consts.now in
    let old = c.args.frames.now.calls in
    let new = c.fail.new.frames.calls in
    let a0 = c.args.arena.now in
    let m0 = c.args.modules.now in
    let m1 = c.fail.new.modules in
    by_tables texts tuples c.args.names.now
    (λ (t : Tables). AreTablesOf texts tuples c.args.names.now t → All (IsPlaced (view_of t)) old
    → StepsTo t (place_of t c.args.place) (world_of t (with_modules t w m0) a0) (Plain (instrs.Plain ops.RaiseLast)) old (state_of t c.fail.result new (world_of t (with_modules t w m1) a0)))
    (λ module_name starts named are_of placed library paid.
    let t : Tables = record { texts = texts; tuples = tuples; module_name = module_name; starts = starts } in
    last_throws c.moves_law.ensures.keeps t library (place_of t c.args.place) paid (world_of t (with_modules t w m0) a0) c.in-Some.x old c.in-Some.ensures
    ∙ c.fail.ensures.state t (world_over texts tuples w a0) are_of placed)
    tables are are

pub returns-in-Some-clause-thrown : goal.returns-in-Some-clause-thrown
returns-in-Some-clause-thrown g c = record {
  failure = Ok c.in-Some.x;
  exception = last_exception c.args.arena.now.objects c.in-Some.x c.args.frames.now.calls c.requires.entries c.in-Some.ensures;
  end = c.fail.ensures.end;
  calls = c.fail.ensures.calls;
}

pub returns-in-Some-clause-keeps : goal.returns-in-Some-clause-keeps
returns-in-Some-clause-keeps g c =
    let a0 = c.args.arena.now in
    keeps_by (g.C.Constants.text_of c.args.consts.now) (g.C.Constants.items_of c.args.consts.now) _ a0.objects a0.objects
    c.args.frames.now c.fail.new.frames (Ok c.in-Some.x) c.fail.ensures.calls
    (last_exception a0.objects c.in-Some.x c.args.frames.now.calls c.requires.entries c.in-Some.ensures) (later_same a0.objects) c.requires.all_told

pub returns-in-None-clause-steps : goal.returns-in-None-clause-steps
returns-in-None-clause-steps g c tables w are placed =
    λ library paid.
    last_faults c.moves_law.ensures.keeps tables library (place_of tables c.args.place) paid (world_of tables (with_modules tables w c.args.modules.now) c.args.arena.now) c.args.frames.now.calls c.in-None.ensures
    ∙ c.raise.ensures.state tables w are placed
