use Rattle.std.proofs.Common.{◌≡◌, ◌+◌, ◌<◌, true, false, length, drop, reverse, sym, subst, ◌∙◌, arith, rules}
use Rattle.std.specs.Prelude.{option_copied}
use Rattle.std.proofs.lemmas.Bool.{false≢true}
use Rattle.snap_states.specs.States.{AreFineFrames}
use Rattle.snap_states.proofs.Framing.{drop_reverse, frames_more, frames_main}
use Rattle.snap_states.proofs.frames.are_fine_frames.Goals as goal

pub returns-then-is_main : goal.returns-then-is_main
returns-then-is_main c =
    let l = c.args.known.now.library.now in
    let s = c.args.known.now.snapshot.now in
    let above = option_copied c.loop-i.above in
    let i = c.loop-i.i in
    let f = c.index-frames-frames.result in
    let lt : i < length c.args.frames.now = omega arith in
    let next = drop_reverse c.args.frames.now i f lt c.index-frames-frames.is in (
      λ t. absurd (false≢true t),
      λ h. absurd (frames_main l s above f (drop (i + 1) (reverse c.args.frames.now)) (c.is_main.ensures.0 c.if-is_main.true) (subst (AreFineFrames l s above) next (c.loop-i.invariant.0 h))),
    )

pub returns-then-not-branch : goal.returns-then-not-branch
returns-then-not-branch c =
    let l = c.args.known.now.library.now in
    let s = c.args.known.now.snapshot.now in
    let above = option_copied c.loop-i.above in
    let i = c.loop-i.i in
    let f = c.index-frames-frames.result in
    let lt : i < length c.args.frames.now = omega arith in
    let next = drop_reverse c.args.frames.now i f lt c.index-frames-frames.is in
    let more = frames_more l s above f (drop (i + 1) (reverse c.args.frames.now)) (λ e. false≢true (sym c.if-is_main.false ∙ c.is_main.ensures.1 e)) in
    let no : c.in_ok-is_fine_frame.field-0 ≡ false = search rules in (
      λ t. absurd (false≢true t),
      λ h. absurd (false≢true (sym no ∙ c.in_ok-is_fine_frame.ensures.1 (more.0 (subst (AreFineFrames l s above) next (c.loop-i.invariant.0 h))).0)),
    )

pub loop-i-preserved : goal.loop-i-preserved
loop-i-preserved c =
    let l = c.args.known.now.library.now in
    let s = c.args.known.now.snapshot.now in
    let above = option_copied c.loop-i.above in
    let i = c.loop-i.i in
    let f = c.index-frames-frames.result in
    let lt : i < length c.args.frames.now = omega arith in
    let next = drop_reverse c.args.frames.now i f lt c.index-frames-frames.is in
    let more = frames_more l s above f (drop (i + 1) (reverse c.args.frames.now)) (λ e. false≢true (sym c.if-is_main.false ∙ c.is_main.ensures.1 e)) in
    let yes : c.in_ok-is_fine_frame.field-0 ≡ true = search rules in (
      λ h. (more.0 (subst (AreFineFrames l s above) next (c.loop-i.invariant.0 h))).1,
      λ h. c.loop-i.invariant.1 (subst (AreFineFrames l s above) (sym next) (more.1 (c.in_ok-is_fine_frame.ensures.0 yes, h))),
    )
