use Rattle.vm_machine.specs.Machine.{world_in}
use Rattle.snap_loading.proofs.Joining.{states_same}
use Rattle.snap_loading.proofs.same.states_same_law.Goals as goal

pub returns : goal.returns
returns c shelf vm other same frames =
    let r = same.renaming in
    record {
      renaming = r;
      states = λ p program w.
          states_same p r vm.end other.end vm.frames.calls other.frames.calls vm.paid other.paid (world_in p vm w) (world_in p other w)
          frames.goes_on frames.other_goes_on frames.paid (same.worlds p program w) (frames.frames p program);
      keeps = λ p program. c.constants_law.ensures r p.library (c.files_law.ensures shelf p program);
    }
