use Rattle.std.proofs.Common.{◌≡◌, drop, sym, ◌∙◌}
use Rattle.snap_states.specs.Decoded.{call_of}
use Rattle.snap_states.specs.Shapes.{StandsAt}
use Rattle.snap_loading.proofs.Placing.{missing, missing_is, is_call, has_place}
use Rattle.snap_loading.proofs.frames.put_next.Goals as goal

pub unreachable-requires : goal.unreachable-requires
unreachable-requires c = let none = rw c.in-None.is at c.in_ok-kinds_at.ensures.none in none c.requires.fine.1.stands

pub put_frame-requires-clause-place : goal.put_frame-requires-clause-place
put_frame-requires-clause-place c =
    let shelf = c.args.lookup.now.library.now in
    let s = c.args.lookup.now.snapshot.now in
    let f = c.args.frame.now in
    let found = rw c.in-Some.is at c.in_ok-kinds_at.ensures.some in
    let is : (x : StandsAt shelf f.module_number f.code f.at) × (x.shape.slots ≡ c.deref.result.now) = (found.0, found.1 ∙ sym c.deref.ensures.value) in
    let orderly = rw c.in-Some.is at c.in_ok-kinds_at.ensures.orderly in
    has_place shelf s c.requires.fine.0 f c.requires.fine.1 c.deref.result.now is orderly c.args.frames.now c.requires.room

pub returns : goal.returns
returns c =
    let shelf = c.args.lookup.now.library.now in
    let s = c.args.lookup.now.snapshot.now in
    let f = c.args.frame.now in
    let kinds = c.deref.result.now in
    let found = rw c.in-Some.is at c.in_ok-kinds_at.ensures.some in
    let is : (x : StandsAt shelf f.module_number f.code f.at) × (x.shape.slots ≡ c.deref.result.now) = (found.0, found.1 ∙ sym c.deref.ensures.value) in
    let orderly = rw c.in-Some.is at c.in_ok-kinds_at.ensures.orderly in
    let lacks = missing shelf s c.requires.fine.0 f c.requires.fine.1 kinds is orderly in (
      call_of shelf s (drop lacks kinds) f,
      is_call shelf s c.requires.fine.0 f c.requires.fine.1 kinds is orderly,
      c.put_frame.ensures lacks (missing_is shelf s c.requires.fine.0 f c.requires.fine.1 kinds is orderly),
    )
