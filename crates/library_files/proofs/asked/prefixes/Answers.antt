use Rattle.std.proofs.Common.{sym, subst}
use Rattle.library_files.proofs.Fronts.{Found, none_found, next_found}
use Rattle.library_files.proofs.asked.prefixes.Goals as goal

pub loop-place-init : goal.loop-place-init
loop-place-init c = subst (λ z. Found c.args.name.now z 0) (sym c.new-fronts.ensures.items) (none_found c.args.name.now)

pub loop-place-preserved : goal.loop-place-preserved
loop-place-preserved c =
    next_found c.args.name.now c.loop-place.fronts.items c.push_front.new.fronts.items c.loop-place.place c.loop-place-test.true c.in_ok-push_front.ensures c.loop-place.invariant
