use Rattle.std.proofs.Common.{◌≡◌, map, Ok, Err, ap, ◌∙◌, arith}
use Rattle.frame_moves.specs.bc_machine.State.{give}
use Rattle.frame_moves.specs.vm_frames.declared.slot.Role.{Role}
use Rattle.frame_moves.specs.vm_frames.Views.{role_of, frame_of}
use Rattle.frame_moves.specs.prim_walks.Plain.{plain_name}
use Rattle.frame_moves.specs.Shown.{Tables, value_of, view_of}
use Rattle.frame_moves.specs.Outcomes.{world_of}
use Rattle.frame_exits.specs.declared.ends.After.TheVariants as afters
use Rattle.frame_exits.specs.declared.ends.End.TheVariants as ends
use Rattle.frame_exits.specs.Ends.{with_modules}
use Rattle.frame_exits.specs.Left.{after_of}
use Rattle.frame_exits.proofs.Leaves.{give_none, give_value, give_import, no_frames}
use Rattle.frame_exits.proofs.Tabling.{by_parts}
use Rattle.frame_exits.proofs.Throws.{is_none}
use Rattle.frame_exits.proofs.returning.give.Goals as goal

pub returns-then-waiting-eq0-clause-state : goal.returns-then-waiting-eq0-clause-state
returns-then-waiting-eq0-clause-state g c tables w texts_are tuples_are =
    let name = plain_name (g.C.Constants.text_of c.args.consts.now) (g.C.Constants.items_of c.args.consts.now) c.args.name.name in
    let none = is_none c.args.frames.now.calls (omega (arith, c.if-waiting-eq0.true, c.depth-waiting.ensures)) in
    give_none (value_of tables c.args.v) (role_of (view_of tables) name c.args.role) (map (frame_of (view_of tables)) c.args.frames.now.calls) (world_of tables (with_modules tables w c.args.modules.now) c.args.arena.now)
    (no_frames tables c.args.frames.now.calls none)

pub returns-in-Main-clause-state : goal.returns-in-Main-clause-state
returns-in-Main-clause-state g c tables w texts_are tuples_are =
    let name = plain_name (g.C.Constants.text_of c.args.consts.now) (g.C.Constants.items_of c.args.consts.now) c.args.name.name in
    let w0 = world_of tables (with_modules tables w c.args.modules.now) c.args.arena.now in
    ap (λ (r : Role). give (value_of tables c.args.v) (role_of (view_of tables) name r) (map (frame_of (view_of tables)) c.args.frames.now.calls) w0) c.in-Main.is

pub returns-in-Call-clause-state : goal.returns-in-Call-clause-state
returns-in-Call-clause-state g c tables w texts_are tuples_are =
    let name = plain_name (g.C.Constants.text_of c.args.consts.now) (g.C.Constants.items_of c.args.consts.now) c.args.name.name in
    let w0 = world_of tables (with_modules tables w c.args.modules.now) c.args.arena.now in
    ap (λ (r : Role). give (value_of tables c.args.v) (role_of (view_of tables) name r) (map (frame_of (view_of tables)) c.args.frames.now.calls) w0) c.in-Call.is
    ∙ give_value tables c.args.v c.args.frames.now.calls w0 (omega (arith, c.if-waiting-eq0.false, c.depth-waiting.ensures))

pub returns-in-Ok-clause-state : goal.returns-in-Ok-clause-state
returns-in-Ok-clause-state g c tables w =
    let texts = g.C.Constants.text_of c.args.consts.now in
    let tuples = g.C.Constants.items_of c.args.consts.now in
    let name = plain_name texts tuples c.args.name.name in
    let calls = c.args.frames.now.calls in
    let m0 = c.args.modules.now in
    let a0 = c.args.arena.now in
    let a1 = c.store.new.arena in
    by_parts texts tuples
    (λ (t : Tables). give (value_of t c.args.v) (role_of (view_of t) name c.args.role) (map (frame_of (view_of t)) calls) (world_of t (with_modules t w m0) a0) ≡ after_of t afters.Runs calls (world_of t (with_modules t w m0) a1))
    (λ module_name starts.
    let t : Tables = record { texts = texts; tuples = tuples; module_name = module_name; starts = starts } in
    ap (λ (r : Role). give (value_of t c.args.v) (role_of (view_of t) name r) (map (frame_of (view_of t)) calls) (world_of t (with_modules t w m0) a0)) c.in-Import.is
    ∙ give_import t c.args.v name c.in-Import.m.cell (world_of t (with_modules t w m0) a0) (world_of t (with_modules t w m0) a1) (Ok tt)
    (λ place frame frames. c.in-Ok.ensures.state place w frame frames) calls (omega (arith, c.if-waiting-eq0.false, c.depth-waiting.ensures)))
    tables

pub returns-in-Err-clause-state : goal.returns-in-Err-clause-state
returns-in-Err-clause-state g c tables w =
    let texts = g.C.Constants.text_of c.args.consts.now in
    let tuples = g.C.Constants.items_of c.args.consts.now in
    let name = plain_name texts tuples c.args.name.name in
    let calls = c.args.frames.now.calls in
    let m0 = c.args.modules.now in
    let a0 = c.args.arena.now in
    let a1 = c.store.new.arena in
    by_parts texts tuples
    (λ (t : Tables). give (value_of t c.args.v) (role_of (view_of t) name c.args.role) (map (frame_of (view_of t)) calls) (world_of t (with_modules t w m0) a0) ≡ after_of t (afters.Ends (ends.Memory c.in-Err.room)) calls (world_of t (with_modules t w m0) a1))
    (λ module_name starts.
    let t : Tables = record { texts = texts; tuples = tuples; module_name = module_name; starts = starts } in
    ap (λ (r : Role). give (value_of t c.args.v) (role_of (view_of t) name r) (map (frame_of (view_of t)) calls) (world_of t (with_modules t w m0) a0)) c.in-Import.is
    ∙ give_import t c.args.v name c.in-Import.m.cell (world_of t (with_modules t w m0) a0) (world_of t (with_modules t w m0) a1) (Err c.in-Err.room)
    (λ place frame frames. c.in-Err.ensures.state place w frame frames) calls (omega (arith, c.if-waiting-eq0.false, c.depth-waiting.ensures)))
    tables
