use Rattle.std.proofs.lemmas.List.{length-map}
use Rattle.vm_states.specs.OnTop as machine
use Rattle.vm_states.specs.Tops as tops
use Rattle.vm_states.proofs.Back as back
use Rattle.vm_states.proofs.call_tops.tops_law.Goals as goal

pub returns-clause-one : goal.returns-clause-one
returns-clause-one c = back.one

pub returns-clause-two : goal.returns-clause-two
returns-clause-two c = back.two

pub returns-clause-three : goal.returns-clause-three
returns-clause-three c = back.three

pub returns-clause-items : goal.returns-clause-items
returns-clause-items c view starts count st = back.values view starts count machine.Anything tops.Anything st (λ below h. tt)

pub returns-clause-arguments : goal.returns-clause-arguments
returns-clause-arguments c view starts count st = back.values view starts count machine.OneValue tops.OneValue st (back.one view starts)

pub returns-clause-method_arguments : goal.returns-clause-method_arguments
returns-clause-method_arguments c view starts count st = back.values view starts count machine.IsLooked (tops.IsLooked view) st (back.looked view starts)

pub returns-clause-dropped : goal.returns-clause-dropped
returns-clause-dropped c = back.dropped

pub returns-clause-two_operands : goal.returns-clause-two_operands
returns-clause-two_operands c = back.two_operands

pub returns-clause-three_operands : goal.returns-clause-three_operands
returns-clause-three_operands c = back.three_operands

pub returns-clause-stored : goal.returns-clause-stored
returns-clause-stored c = back.stored

pub returns-clause-defaults : goal.returns-clause-defaults
returns-clause-defaults c = back.defaults

pub returns-clause-looked : goal.returns-clause-looked
returns-clause-looked c = back.looked

pub returns-clause-iterator : goal.returns-clause-iterator
returns-clause-iterator c = back.iterator

pub returns-clause-except : goal.returns-clause-except
returns-clause-except c = back.except

pub returns-clause-ending : goal.returns-clause-ending
returns-clause-ending c = back.ending

pub returns-clause-slots : goal.returns-clause-slots
returns-clause-slots c view call = length-map call.slots _

pub returns-clause-entries : goal.returns-clause-entries
returns-clause-entries c view call = length-map call.entries _

pub returns-clause-locals : goal.returns-clause-locals
returns-clause-locals c view call = length-map call.locals _
