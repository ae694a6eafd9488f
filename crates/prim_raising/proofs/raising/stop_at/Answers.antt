use Rattle.std.proofs.Common.{Err, ap, subst, sym}
use Rattle.prim_types.specs.prim_faults.declared.stop.Stop.{Stop}
use Rattle.prim_types.specs.prim_faults.Outcomes.{plain_stop, IsKnownAnswer}
use Rattle.mpy_base.proofs.Worlds.{later_same}
use Rattle.prim_raising.specs.Places.{plain_place, stopped_at}
use Rattle.prim_types.specs.prim_faults.Sights.{sight_of as sight, world_over}
use Rattle.prim_raising.proofs.Failures.{alike}
use Rattle.prim_raising.proofs.raising.stop_at.Goals as goal

pub fault_at-requires-clause-known : goal.fault_at-requires-clause-known
fault_at-requires-clause-known g c =
    let texts = g.C.Constants.text_of c.args.consts.now in
    let tuples = g.C.Constants.items_of c.args.consts.now in
    subst (λ (stop : Stop). IsKnownAnswer texts tuples c.args.arena.now.objects (Err stop)) c.in-Raises.is c.requires.known

pub returns-in-Raises : goal.returns-in-Raises
returns-in-Raises g c =
    let texts = g.C.Constants.text_of c.args.consts.now in
    let tuples = g.C.Constants.items_of c.args.consts.now in
    let h = c.args.arena.now in
    alike texts tuples h c.fault_at.new.arena c.fault_at.result _ _
    (λ w. ap (λ (stop : Stop). stopped_at (plain_place (sight texts tuples) c.args.place) (world_over texts tuples w h) (plain_stop texts tuples h stop)) c.in-Raises.is) c.fault_at.ensures

pub returns-in-Full : goal.returns-in-Full
returns-in-Full g c =
    let texts = g.C.Constants.text_of c.args.consts.now in
    let tuples = g.C.Constants.items_of c.args.consts.now in
    let h = c.args.arena.now in
    record {
      failure = λ w. sym (ap (λ (stop : Stop). stopped_at (plain_place (sight texts tuples) c.args.place) (world_over texts tuples w h) (plain_stop texts tuples h stop)) c.in-Full.is);
      exception = tt;
      later = later_same h.objects;
      all_told = c.requires.stands.all_told;
    }
