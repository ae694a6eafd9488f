use Rattle.std.proofs.Common.{Option, refl, subst}
use Rattle.std.specs.Prelude.{IfSome}
use Rattle.state_values.specs.prim_assignments.arena_heap.declared.value.Value.{Value}
use Rattle.state_values.specs.prim_assignments.prim_faults.Faults.{IsKnown}
use Rattle.state_values.proofs.frame_values_lemmas.Calls.{local_within, same_local}
use Rattle.vm_at_once.proofs.Loading as loading
use Rattle.vm_at_once.proofs.locals.load.Goals as goal

pub local-local-requires : goal.local-local-requires
local-local-requires g c = local_within c.args.n c.requires.local.0 c.args.frames.now.calls c.requires.local.1

pub assigned-requires-clause-known : goal.assigned-requires-clause-known
assigned-requires-clause-known g c =
    subst (λ (local : Option Value). IfSome local (IsKnown (g.C.Constants.text_of c.args.consts.now) (g.C.Constants.items_of c.args.consts.now) c.args.arena.now.objects))
    (same_local c.args.n c.requires.local.0 c.local-local.result c.args.frames.now.calls c.requires.local.1 c.local-local.ensures) c.requires.local.2

pub returns-in-Ok-clause-short : goal.returns-in-Ok-clause-short
returns-in-Ok-clause-short g c =
    loading.short (g.C.Constants.text_of c.args.consts.now) (g.C.Constants.items_of c.args.consts.now) c.args.arena.now c.args.frames.now c.go_with.new.frames c.args.n c.args.end c.local-local.result c.local-local.ensures c.assigned.result c.assigned.ensures _
    (loading.is_put c.args.end c.args.frames.now c.go_with.new.frames c.assigned.result c.in-Ok.v c.in-Ok.is (refl, c.go_with.ensures))

pub returns-in-Ok-clause-long : goal.returns-in-Ok-clause-long
returns-in-Ok-clause-long g c =
    loading.long (g.C.Constants.text_of c.args.consts.now) (g.C.Constants.items_of c.args.consts.now) c.args.arena.now c.args.frames.now c.go_with.new.frames c.args.n c.args.end c.local-local.result c.local-local.ensures c.assigned.result c.assigned.ensures _
    (loading.is_put c.args.end c.args.frames.now c.go_with.new.frames c.assigned.result c.in-Ok.v c.in-Ok.is (refl, c.go_with.ensures))

pub returns-in-Ok-clause-moved : goal.returns-in-Ok-clause-moved
returns-in-Ok-clause-moved g c =
    loading.moved (g.C.Constants.text_of c.args.consts.now) (g.C.Constants.items_of c.args.consts.now) c.args.arena.now c.args.frames.now c.go_with.new.frames c.args.n c.args.end c.local-local.result c.local-local.ensures c.assigned.result c.assigned.ensures _
    (loading.is_put c.args.end c.args.frames.now c.go_with.new.frames c.assigned.result c.in-Ok.v c.in-Ok.is (refl, c.go_with.ensures))

pub returns-in-Ok-clause-leaves : goal.returns-in-Ok-clause-leaves
returns-in-Ok-clause-leaves g c =
    loading.leaves (g.C.Constants.text_of c.args.consts.now) (g.C.Constants.items_of c.args.consts.now) c.args.arena.now c.args.frames.now c.go_with.new.frames c.args.n c.args.end c.local-local.result c.local-local.ensures c.assigned.result c.assigned.ensures _
    (loading.is_put c.args.end c.args.frames.now c.go_with.new.frames c.assigned.result c.in-Ok.v c.in-Ok.is (refl, c.go_with.ensures))

pub returns-in-Err-clause-short : goal.returns-in-Err-clause-short
returns-in-Err-clause-short g c =
    loading.short (g.C.Constants.text_of c.args.consts.now) (g.C.Constants.items_of c.args.consts.now) c.args.arena.now c.args.frames.now c.args.frames.now c.args.n c.args.end c.local-local.result c.local-local.ensures c.assigned.result c.assigned.ensures _
    (loading.is_left c.args.end c.args.frames.now c.assigned.result c.in-Err.stop c.in-Err.is)

pub returns-in-Err-clause-long : goal.returns-in-Err-clause-long
returns-in-Err-clause-long g c =
    loading.long (g.C.Constants.text_of c.args.consts.now) (g.C.Constants.items_of c.args.consts.now) c.args.arena.now c.args.frames.now c.args.frames.now c.args.n c.args.end c.local-local.result c.local-local.ensures c.assigned.result c.assigned.ensures _
    (loading.is_left c.args.end c.args.frames.now c.assigned.result c.in-Err.stop c.in-Err.is)

pub returns-in-Err-clause-moved : goal.returns-in-Err-clause-moved
returns-in-Err-clause-moved g c =
    loading.moved (g.C.Constants.text_of c.args.consts.now) (g.C.Constants.items_of c.args.consts.now) c.args.arena.now c.args.frames.now c.args.frames.now c.args.n c.args.end c.local-local.result c.local-local.ensures c.assigned.result c.assigned.ensures _
    (loading.is_left c.args.end c.args.frames.now c.assigned.result c.in-Err.stop c.in-Err.is)

pub returns-in-Err-clause-leaves : goal.returns-in-Err-clause-leaves
returns-in-Err-clause-leaves g c =
    loading.leaves (g.C.Constants.text_of c.args.consts.now) (g.C.Constants.items_of c.args.consts.now) c.args.arena.now c.args.frames.now c.args.frames.now c.args.n c.args.end c.local-local.result c.local-local.ensures c.assigned.result c.assigned.ensures _
    (loading.is_left c.args.end c.args.frames.now c.assigned.result c.in-Err.stop c.in-Err.is)
