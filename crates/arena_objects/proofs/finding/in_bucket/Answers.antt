use Rattle.arena_objects.proofs.finding.in_bucket.Goals as goal

pub in_chain-requires-clause-within : goal.in_chain-requires-clause-within
in_chain-requires-clause-within g c = c.in_ok-last.ensures.within

pub returns : goal.returns
returns g c = c.in_chain.ensures _ c.in_ok-last.ensures
