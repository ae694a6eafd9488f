use Rattle.meant_commands.proofs.Running.{same_end, same_said, alike}
use Rattle.meant_commands.proofs.going.run_law.Goals as goal

pub returns : goal.returns
returns c =
    let so = c.accounted_law.ensures.runs in
    record {
      end = λ shelf name room steps old new_a new_b end_a end_b said_a said_b tells. same_end so shelf name room steps old tells new_a new_b end_a end_b said_a said_b;
      said = λ shelf name room steps old new_a new_b end_a end_b said_a said_b tells. same_said so shelf name room steps old tells new_a new_b end_a end_b said_a said_b;
      alike = λ shelf name room steps old new_a new_b end_a end_b said_a said_b tells. alike so shelf name room steps old tells new_a new_b end_a end_b said_a said_b;
    }
