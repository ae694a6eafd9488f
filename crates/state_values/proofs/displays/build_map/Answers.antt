use Rattle.std.proofs.Common.{refl}
use Rattle.vm_states.specs.bc_ops.declared.instr.Op.TheVariants as ops
use Rattle.vm_states.specs.bc_ops.declared.instr.Instr.TheVariants as instrs
use Rattle.vm_states.specs.bc_machine.Library.{Plain}
use Rattle.vm_states.specs.vm_fetching.Instructions as fetched
use Rattle.vm_states.specs.vm_fetching.declared.operations.BuildOp.TheVariants as build_ops
use Rattle.state_values.proofs.Ending as ending
use Rattle.state_values.proofs.Finding as finding
use Rattle.state_values.proofs.displays.build_map.Goals as goal

pub build_map-requires-clause-room : goal.build_map-requires-clause-room
build_map-requires-clause-room g c = finding.has_room c.requires.runs

pub build_map-requires-clause-all_told : goal.build_map-requires-clause-all_told
build_map-requires-clause-all_told g c = finding.all_told c.requires.runs

pub returns : goal.returns
returns g c =
    record {
      acts = ending.puts c.acting_law.ensures.acts (record { instruction = fetched.build build_ops.BuildMap c.args.pairs; end = c.args.end }) (λ p s row r. r.begins tt) 0 (Plain (instrs.Num ops.BuildMap c.args.pairs)) c.args.frames.now c.build_map.new.frames
          c.build_map.ensures.leaves (λ p d tells. refl) c.build_map.ensures.steps 0 c.build_map.ensures.moved;
    }
