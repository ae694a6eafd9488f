use Rattle.std.proofs.Common.{ap, refl}
use Rattle.state_values.proofs.Ending as ending
use Rattle.state_values.proofs.Families.{step_runs, step_acts}
use Rattle.state_values.proofs.Finding as finding
use Rattle.state_values.specs.Moving.{fetched_item}
use Rattle.vm_states.specs.bc_machine.Library.{Plain}
use Rattle.vm_states.specs.bc_ops.declared.instr.Instr.TheVariants as instrs
use Rattle.vm_states.specs.bc_ops.declared.instr.Op.TheVariants as ops
use Rattle.vm_states.specs.vm_fetching.declared.instruction.Step.TheVariants as steps
use Rattle.vm_states.specs.vm_fetching.declared.operations.ItemOp.TheVariants as item_ops
use Rattle.vm_states.specs.vm_fetching.declared.operations.ItemOp.{ItemOp}
use Rattle.state_values.proofs.subscripts.item_on.Goals as goal

pub load_subscr-requires-clause-index : goal.load_subscr-requires-clause-index
load_subscr-requires-clause-index g c =
    let h = step_runs (g.C.Constants.text_of c.args.consts.now) (g.C.Constants.items_of c.args.consts.now) (steps.Item c.args.op) (steps.Item item_ops.LoadSubscr) c.args.end (ap (λ (o : ItemOp). steps.Item o) c.in-LoadSubscr.is) c.args.arena.now c.args.frames.now c.requires.runs in
    (finding.two h c.tops_law.ensures.two h.ready.finds).0

pub load_subscr-requires-clause-object : goal.load_subscr-requires-clause-object
load_subscr-requires-clause-object g c =
    let h = step_runs (g.C.Constants.text_of c.args.consts.now) (g.C.Constants.items_of c.args.consts.now) (steps.Item c.args.op) (steps.Item item_ops.LoadSubscr) c.args.end (ap (λ (o : ItemOp). steps.Item o) c.in-LoadSubscr.is) c.args.arena.now c.args.frames.now c.requires.runs in
    (finding.two h c.tops_law.ensures.two h.ready.finds).1

pub load_subscr-requires-clause-all_told : goal.load_subscr-requires-clause-all_told
load_subscr-requires-clause-all_told g c =
    let h = step_runs (g.C.Constants.text_of c.args.consts.now) (g.C.Constants.items_of c.args.consts.now) (steps.Item c.args.op) (steps.Item item_ops.LoadSubscr) c.args.end (ap (λ (o : ItemOp). steps.Item o) c.in-LoadSubscr.is) c.args.arena.now c.args.frames.now c.requires.runs in
    finding.all_told h

pub returns-in-LoadSubscr : goal.returns-in-LoadSubscr
returns-in-LoadSubscr g c =
    record {
      acts = step_acts (g.C.Constants.text_of c.args.consts.now) (g.C.Constants.items_of c.args.consts.now) (steps.Item c.args.op) (steps.Item item_ops.LoadSubscr) c.args.end (ap (λ (o : ItemOp). steps.Item o) c.in-LoadSubscr.is) c.args.arena.now c.load_subscr.new.arena c.args.frames.now c.load_subscr.new.frames c.load_subscr.result (ending.puts c.acting_law.ensures.acts (fetched_item item_ops.LoadSubscr c.args.end) (λ p s row r. r.begins tt) 0 (Plain (instrs.Plain ops.LoadSubscr)) c.args.frames.now c.load_subscr.new.frames
          c.load_subscr.ensures.leaves (λ p d tells. refl) c.load_subscr.ensures.steps 2 c.load_subscr.ensures.moved);
    }

pub returns-in-StoreSubscr : goal.returns-in-StoreSubscr
returns-in-StoreSubscr g c =
    record {
      acts = step_acts (g.C.Constants.text_of c.args.consts.now) (g.C.Constants.items_of c.args.consts.now) (steps.Item c.args.op) (steps.Item item_ops.StoreSubscr) c.args.end (ap (λ (o : ItemOp). steps.Item o) c.in-StoreSubscr.is) c.args.arena.now c.store_subscr.new.arena c.args.frames.now c.store_subscr.new.frames c.store_subscr.result c.store_subscr.ensures.acts;
    }

pub store_map-requires-clause-key : goal.store_map-requires-clause-key
store_map-requires-clause-key g c =
    let h = step_runs (g.C.Constants.text_of c.args.consts.now) (g.C.Constants.items_of c.args.consts.now) (steps.Item c.args.op) (steps.Item item_ops.StoreMap) c.args.end (ap (λ (o : ItemOp). steps.Item o) c.in-StoreMap.is) c.args.arena.now c.args.frames.now c.requires.runs in
    (finding.three h c.tops_law.ensures.three h.ready.finds).0

pub store_map-requires-clause-value : goal.store_map-requires-clause-value
store_map-requires-clause-value g c =
    let h = step_runs (g.C.Constants.text_of c.args.consts.now) (g.C.Constants.items_of c.args.consts.now) (steps.Item c.args.op) (steps.Item item_ops.StoreMap) c.args.end (ap (λ (o : ItemOp). steps.Item o) c.in-StoreMap.is) c.args.arena.now c.args.frames.now c.requires.runs in
    (finding.three h c.tops_law.ensures.three h.ready.finds).1

pub store_map-requires-clause-dict : goal.store_map-requires-clause-dict
store_map-requires-clause-dict g c =
    let h = step_runs (g.C.Constants.text_of c.args.consts.now) (g.C.Constants.items_of c.args.consts.now) (steps.Item c.args.op) (steps.Item item_ops.StoreMap) c.args.end (ap (λ (o : ItemOp). steps.Item o) c.in-StoreMap.is) c.args.arena.now c.args.frames.now c.requires.runs in
    (finding.three h c.tops_law.ensures.three h.ready.finds).2

pub store_map-requires-clause-all_told : goal.store_map-requires-clause-all_told
store_map-requires-clause-all_told g c =
    let h = step_runs (g.C.Constants.text_of c.args.consts.now) (g.C.Constants.items_of c.args.consts.now) (steps.Item c.args.op) (steps.Item item_ops.StoreMap) c.args.end (ap (λ (o : ItemOp). steps.Item o) c.in-StoreMap.is) c.args.arena.now c.args.frames.now c.requires.runs in
    finding.all_told h

pub returns-in-StoreMap : goal.returns-in-StoreMap
returns-in-StoreMap g c =
    record {
      acts = step_acts (g.C.Constants.text_of c.args.consts.now) (g.C.Constants.items_of c.args.consts.now) (steps.Item c.args.op) (steps.Item item_ops.StoreMap) c.args.end (ap (λ (o : ItemOp). steps.Item o) c.in-StoreMap.is) c.args.arena.now c.store_map.new.arena c.args.frames.now c.store_map.new.frames c.store_map.result (ending.takes c.acting_law.ensures.acts (fetched_item item_ops.StoreMap c.args.end) (λ p s row r. r.begins tt) 0 (Plain (instrs.Plain ops.StoreMap)) c.args.frames.now c.store_map.new.frames
          c.store_map.ensures.leaves (λ p d tells. refl) c.store_map.ensures.steps 2 c.store_map.ensures.moved);
    }
