use Rattle.vm_states.proofs.Knowing as knowing
use Rattle.vm_states.proofs.known.known_law.Goals as goal

pub returns-clause-stays : goal.returns-clause-stays
returns-clause-stays c p before behind s state later told = knowing.stays p before behind s state later told

pub returns-clause-goes_on : goal.returns-clause-goes_on
returns-clause-goes_on c p before behind s new at st locals state later told = knowing.goes_on p before behind s state later told new at st locals

pub returns-clause-puts : goal.returns-clause-puts
returns-clause-puts c p before behind s new end taken v state later told = knowing.puts p before behind s state later told new end taken v

pub returns-clause-takes : goal.returns-clause-takes
returns-clause-takes c p before behind s new end taken state later told = knowing.takes p before behind s state later told new end taken
