use Rattle.vm_states.specs.vm_fetching.Instructions as fetched
use Rattle.vm_states.specs.vm_fetching.declared.operations.LocalOp.TheVariants as local_ops
use Rattle.state_values.proofs.Finding as finding
use Rattle.state_values.proofs.Shifting as shifting
use Rattle.state_values.proofs.moving.store_fast_n.Goals as goal

pub store_local-requires-clause-runs : goal.store_local-requires-clause-runs
store_local-requires-clause-runs g c = finding.runs c.requires.runs

pub returns : goal.returns
returns g c =
    let texts = g.C.Constants.text_of c.args._consts.now in
    let tuples = g.C.Constants.items_of c.args._consts.now in
    let heap = c.args._arena.now in
    let old = c.args.frames.now in
    let new = c.store_local.new.frames in
    let top = finding.one c.requires.runs c.tops_law.ensures.one c.requires.runs.ready.finds in
    record {
      acts = c.acting_law.ensures.moves texts tuples (record { instruction = fetched.local local_ops.StoreFastN c.args.n; end = c.args.end }) heap old new c.store_local.ensures.goes
          (shifting.stored texts tuples heap.objects old new c.args.end c.args.n top.0 top.2 (c.store_local.ensures.moved top.0 top.1));
    }
