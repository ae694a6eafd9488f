use Rattle.std.proofs.Common.{◌≡◌, Some, None, sym, ◌∙◌}
use Rattle.std.specs.Prelude.{option_copied}
use Rattle.std.proofs.lemmas.Bool.{false≢true}
use Rattle.snap_states.proofs.Framing.{to_fine, from_fine}
use Rattle.snap_states.proofs.Shaping.{shapes_once}
use Rattle.snap_states.proofs.frames.is_fine_frame.Goals as goal

pub returns-in-None : goal.returns-in-None
returns-in-None c = (
  λ t. absurd (false≢true t),
  λ h. let e : None ≡ Some h.stands.placed = sym (rw c.in-None.is at c.in_ok-shapes_of.ensures.none) ∙ h.stands.there in absurd cc,
)

pub stands_in-requires-clause-asked : goal.stands_in-requires-clause-asked
stands_in-requires-clause-asked c =
    shapes_once c.args.known.now.library.now c.args.f.now.module_number c.args.f.now.code c.in-Some.shapes (rw c.in-Some.is at c.in_ok-shapes_of.ensures.some)

pub returns-in_ok-fits-in-Some : goal.returns-in_ok-fits-in-Some
returns-in_ok-fits-in-Some c =
    let are = rw c.in-Some.is at c.in_ok-shapes_of.ensures.some in
    let l = c.args.known.now.library.now in
    let s = c.args.known.now.snapshot.now in
    let above = option_copied c.args.above in (
      λ t. to_fine l s above c.args.f.now c.in-Some.shapes are (c.in_ok-fits-in-Some.ensures.0 t),
      λ h. c.in_ok-fits-in-Some.ensures.1 (from_fine l s above c.args.f.now c.in-Some.shapes are h),
    )
