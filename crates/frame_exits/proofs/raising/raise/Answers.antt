use Rattle.std.proofs.Common.{◌≡◌, sym, ap, ◌∙◌, All}
use Rattle.frame_moves.specs.py_effects.Effect.{Fails}
use Rattle.frame_moves.specs.prim_faults.Sights.{world_over}
use Rattle.frame_moves.specs.vm_frames.Placed.{IsPlaced}
use Rattle.frame_moves.specs.Shown.{Tables, view_of}
use Rattle.frame_moves.specs.Outcomes.{world_of, failing_of, stopping_of}
use Rattle.frame_exits.specs.Names.{AreTablesOf}
use Rattle.frame_exits.specs.Ends.{place_of, with_modules, state_of}
use Rattle.frame_exits.proofs.Keeping.{keeps_by}
use Rattle.frame_exits.proofs.Fails.{nothing_known}
use Rattle.frame_exits.proofs.Tabling.{by_tables}
use Rattle.frame_exits.proofs.raising.raise.Goals as goal

pub stop_at-failure-requires : goal.stop_at-failure-requires
stop_at-failure-requires g c = record {
  stands = nothing_known (g.C.Constants.text_of c.args.consts.now) (g.C.Constants.items_of c.args.consts.now) c.args.arena.now c.requires.all_told;
  known = c.requires.stop;
}

pub returns-clause-state : goal.returns-clause-state
returns-clause-state g c tables w are =
    let texts = g.C.Constants.text_of c.args.consts.now in
    let tuples = g.C.Constants.items_of c.args.consts.now in
    let old = c.args.frames.now.calls in
    let new = c.fail.new.frames.calls in
    let a0 = c.args.arena.now in
    let a1 = c.stop_at-failure.new.arena in
    let m0 = c.args.modules.now in
    let m1 = c.fail.new.modules in
    by_tables texts tuples c.args.names.now
    (λ (t : Tables). AreTablesOf texts tuples c.args.names.now t → All (IsPlaced (view_of t)) old
    → stopping_of t (place_of t c.args.place) (with_modules t w m0) a0 old c.args.stop ≡ state_of t c.fail.result new (world_of t (with_modules t w m1) a1))
    (λ module_name starts named are_of placed.
    let t : Tables = record { texts = texts; tuples = tuples; module_name = module_name; starts = starts } in
    ap (λ (z : Fails). failing_of t old z) (sym (c.stop_at-failure.ensures.failure (with_modules t w m0)))
    ∙ c.fail.ensures.state t (world_over texts tuples w a1) are_of placed)
    tables are are

pub returns-clause-thrown : goal.returns-clause-thrown
returns-clause-thrown g c = record {
  failure = c.stop_at-failure.result;
  exception = c.stop_at-failure.ensures.exception;
  end = c.fail.ensures.end;
  calls = c.fail.ensures.calls;
}

pub returns-clause-keeps : goal.returns-clause-keeps
returns-clause-keeps g c =
    keeps_by (g.C.Constants.text_of c.args.consts.now) (g.C.Constants.items_of c.args.consts.now) _ c.args.arena.now.objects c.stop_at-failure.new.arena.objects
    c.args.frames.now c.fail.new.frames c.stop_at-failure.result c.fail.ensures.calls
    c.stop_at-failure.ensures.exception c.stop_at-failure.ensures.later c.stop_at-failure.ensures.all_told
