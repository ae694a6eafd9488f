use Rattle.std.proofs.Common.{◌≡◌, Some, sym, ap, subst, ◌∙◌}
use Rattle.std.specs.Prelude.{slice_get, option_copied}
use Rattle.std.specs.Option.{option_map}
use Rattle.bc_library.specs.bc_flow.Verified.{at}
use Rattle.bc_library.specs.bc_flow.Views.{table_of}
use Rattle.bc_library.specs.bc_shapes.Views.{at_of}
use Rattle.snap_states.proofs.shapes.kinds_in.Goals as goal

pub returns-in_ok-kinds-in-Some-shape_at-clause-some : goal.returns-in_ok-kinds-in-Some-shape_at-clause-some
returns-in_ok-kinds-in-Some-shape_at-clause-some c =
    let p = c.in-Some.position in
    record {
      position = p;
      here = subst (λ z. slice_get z p ≡ Some c.args.at) c.deref.ensures.value c.in-Some.ensures.some;
      shape = at_of c.in-Some-shape_at.shape.now;
      is = ap (λ z. at (table_of z) p) (sym c.deref-in-Some.ensures.value) ∙ sym c.shape_at.ensures ∙ ap (λ o. option_map at_of (option_copied o)) c.in-Some-shape_at.is;
      slots = sym (c.in_ok-kinds-in-Some-shape_at.ensures.items ∙ c.deref-in-Some-shape_at.ensures.value);
    }
