use Rattle.mpy_writer.proofs.Widest.{own_fewer, no_fault, one_place, not_both}
use Rattle.mpy_writer.proofs.wide.wide_law.Goals as goal

pub returns-clause-own : goal.returns-clause-own
returns-clause-own c tables code own is = own_fewer tables code own is

pub returns-clause-fits : goal.returns-clause-fits
returns-clause-fits c m fits near fault h = no_fault m fits near fault h

pub returns-clause-one : goal.returns-clause-one
returns-clause-one c m i j h k = one_place m i j h k

pub returns-clause-not_both : goal.returns-clause-not_both
returns-clause-not_both c m n h fits = not_both m n h fits
