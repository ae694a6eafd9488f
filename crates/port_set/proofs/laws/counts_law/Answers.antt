use Rattle.port_set.proofs.Counting.{counts_same, counts_on, beyond_within, all_accounted, none_beyond}
use Rattle.port_set.proofs.laws.counts_law.Goals as goal

pub returns : goal.returns
returns c = record { same = counts_same; on = counts_on; within = beyond_within; unfailed = all_accounted; none = none_beyond }
