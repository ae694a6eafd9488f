use Rattle.state_exits.proofs.Opens.{main_registered}
use Rattle.state_exits.proofs.Stays.{registered_stay}
use Rattle.state_exits.proofs.law.registered_law.Goals as goal

pub returns-clause-stays : goal.returns-clause-stays
returns-clause-stays c = registered_stay c.sound_law.ensures.steps

pub returns-clause-begins : goal.returns-clause-begins
returns-clause-begins c = main_registered
