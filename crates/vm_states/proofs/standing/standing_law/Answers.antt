use Rattle.bc_progress.specs.bc_machine.Library.{Line}
use Rattle.bc_progress.specs.Plans.{action_of}
use Rattle.bc_progress.proofs.Frames.{verified}
use Rattle.bc_progress.proofs.Items.{line_of}
use Rattle.vm_states.proofs.Bounds.{map_at}
use Rattle.vm_states.proofs.Flow as flowing
use Rattle.vm_states.proofs.Flow.{falls_on}
use Rattle.vm_states.proofs.Items.{item_finds}
use Rattle.vm_states.proofs.Onward.{item_on}
use Rattle.vm_states.proofs.standing.standing_law.Goals as goal

pub returns-clause-there : goal.returns-clause-there
returns-clause-there c plans library frame follows s =
    let i = flowing.there plans library follows frame s in
    let l = line_of s.code.lines frame.position i.0 i.1 in
    (l.0, l.1)

pub returns-clause-finds : goal.returns-clause-finds
returns-clause-finds c plans library frame line follows s at =
    let v = verified plans library follows frame.module_name frame.code s.code s.code_is in
    item_finds plans library follows frame s line.item (v.3.known frame.position line at) (v.3.children frame.position line at) (map_at (λ (l : Line). action_of l.item) s.code.lines frame.position line at)

pub returns-clause-goes_on : goal.returns-clause-goes_on
returns-clause-goes_on c plans library frame line follows s at on =
    let v = verified plans library follows frame.module_name frame.code s.code s.code_is in
    falls_on plans library follows frame s (action_of line.item) (map_at (λ (l : Line). action_of l.item) s.code.lines frame.position line at) (item_on line.item (v.3.known frame.position line at) on)
