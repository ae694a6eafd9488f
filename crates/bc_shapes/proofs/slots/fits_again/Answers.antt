use Rattle.std.proofs.Common.{◌∙◌, ◌&&◌, ap, sym, length, drop, arith, refl}
use Rattle.bc_shapes.specs.Shape.{fits}
use Rattle.bc_shapes.proofs.Asked.{asked_again, fits_long, out_of_places}
use Rattle.bc_shapes.proofs.slots.fits_again.Goals as goal

pub returns-then-are_values : goal.returns-then-are_values
returns-then-are_values c =
    let ks = c.args.slots.now in
    let ws = c.args.takes.others.now in
    let values = c.args.takes.values in
    let out = out_of_places c.args.span (length ks) (length ks) values c.places-places.result.from c.places-places.result.to c.min-from.result c.max-to.result c.min.result refl
    (fits_long c.args.span values ws ks c.requires) c.min-from.ensures c.min.ensures c.max-to.ensures c.places-places.ensures.before c.places-places.ensures.after in
    let all = asked_again c.args.span values ws ks c.min-from.result c.max-to.result c.requires (omega (arith, c.max-to.ensures)) (omega (arith, c.min-from.ensures, c.min.ensures, c.max-to.ensures)) out in
    c.fit.ensures ∙ ap (fits ws) c.below.ensures ∙ ap (λ b. b && fits ws (drop values ks)) (sym c.if-are_values.true ∙ c.are_values.ensures) ∙ all

pub returns-else-are_values : goal.returns-else-are_values
returns-else-are_values c =
    let ks = c.args.slots.now in
    let ws = c.args.takes.others.now in
    let values = c.args.takes.values in
    let out = out_of_places c.args.span (length ks) (length ks) values c.places-places.result.from c.places-places.result.to c.min-from.result c.max-to.result c.min.result refl
    (fits_long c.args.span values ws ks c.requires) c.min-from.ensures c.min.ensures c.max-to.ensures c.places-places.ensures.before c.places-places.ensures.after in
    let all = asked_again c.args.span values ws ks c.min-from.result c.max-to.result c.requires (omega (arith, c.max-to.ensures)) (omega (arith, c.min-from.ensures, c.min.ensures, c.max-to.ensures)) out in
    c.if-are_values.false ∙ ap (λ b. b && fits ws (drop values ks)) (sym c.if-are_values.false ∙ c.are_values.ensures) ∙ all
