use Rattle.std.proofs.Common.{subst, sym}
use Rattle.vm_states.specs.vm_fetching.declared.operations.BuildOp.{BuildOp}
use Rattle.vm_states.specs.vm_fetching.Instructions as fetched
use Rattle.state_values.specs.Keeping.{ActsKeeping}
use Rattle.state_values.proofs.displays.build_on.Goals as goal

pub returns-in-BuildTuple : goal.returns-in-BuildTuple
returns-in-BuildTuple g c =
    let texts = g.C.Constants.text_of c.args.consts.now in
    let tuples = g.C.Constants.items_of c.args.consts.now in
    record {
      acts = subst (λ (o : BuildOp). ActsKeeping texts tuples (record { instruction = fetched.build o c.args.n; end = c.args.end }) 0 c.args.arena.now c.build_tuple.new.arena c.args.frames.now c.build_tuple.new.frames c.build_tuple.result) (sym c.in-BuildTuple.is) c.build_tuple.ensures.acts;
    }

pub returns-in-BuildList : goal.returns-in-BuildList
returns-in-BuildList g c =
    let texts = g.C.Constants.text_of c.args.consts.now in
    let tuples = g.C.Constants.items_of c.args.consts.now in
    record {
      acts = subst (λ (o : BuildOp). ActsKeeping texts tuples (record { instruction = fetched.build o c.args.n; end = c.args.end }) 0 c.args.arena.now c.build_list.new.arena c.args.frames.now c.build_list.new.frames c.build_list.result) (sym c.in-BuildList.is) c.build_list.ensures.acts;
    }

pub returns-in-BuildMap : goal.returns-in-BuildMap
returns-in-BuildMap g c =
    let texts = g.C.Constants.text_of c.args.consts.now in
    let tuples = g.C.Constants.items_of c.args.consts.now in
    record {
      acts = subst (λ (o : BuildOp). ActsKeeping texts tuples (record { instruction = fetched.build o c.args.n; end = c.args.end }) 0 c.args.arena.now c.build_map.new.arena c.args.frames.now c.build_map.new.frames c.build_map.result) (sym c.in-BuildMap.is) c.build_map.ensures.acts;
    }

pub returns-in-UnpackSequence : goal.returns-in-UnpackSequence
returns-in-UnpackSequence g c =
    let texts = g.C.Constants.text_of c.args.consts.now in
    let tuples = g.C.Constants.items_of c.args.consts.now in
    record {
      acts = subst (λ (o : BuildOp). ActsKeeping texts tuples (record { instruction = fetched.build o c.args.n; end = c.args.end }) 0 c.args.arena.now c.unpack_sequence.new.arena c.args.frames.now c.unpack_sequence.new.frames c.unpack_sequence.result) (sym c.in-UnpackSequence.is) c.unpack_sequence.ensures.acts;
    }
