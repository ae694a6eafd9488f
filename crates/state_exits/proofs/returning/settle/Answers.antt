use Rattle.std.proofs.Common.{◌≡◌, None, refl, sym, subst}
use Rattle.vm_states.specs.frame_exits.declared.ends.After.{After}
use Rattle.vm_states.specs.frame_exits.Known.{IsKnownAfter}
use Rattle.state_exits.specs.Waiting.{IsSettling, Settles}
use Rattle.state_exits.proofs.returning.settle.Goals as goal

pub returns-in-Runs-clause-settles : goal.returns-in-Runs-clause-settles
returns-in-Runs-clause-settles c p means same waits =
    subst (λ (z : After). Settles p z c.args.frames.now c.args.frames.now None) (sym c.in-Runs.is) (record { steps = λ w. refl; placed = λ h. h })

pub take-requires-clause-waits : goal.take-requires-clause-waits
take-requires-clause-waits c = let h = c.requires.waits in (h.0, h.1, h.2, subst (λ (z : After). IsSettling h.0 z c.args.frames.now) c.in-Gives.is h.3)

pub returns-in-Gives-clause-settles : goal.returns-in-Gives-clause-settles
returns-in-Gives-clause-settles c p means same waits =
    subst (λ (z : After). Settles p z c.args.frames.now c.take.new.frames None) (sym c.in-Gives.is)
    (c.take.ensures.settles p means same (subst (λ (z : After). IsSettling p z c.args.frames.now) c.in-Gives.is waits))

pub returns-in-Gives-clause-known : goal.returns-in-Gives-clause-known
returns-in-Gives-clause-known c texts tuples modules objects known =
    c.take.ensures.known texts tuples modules objects (subst (IsKnownAfter texts tuples objects) c.in-Gives.is known)

pub returns-in-Ends-clause-settles : goal.returns-in-Ends-clause-settles
returns-in-Ends-clause-settles c p means same waits =
    subst (λ (z : After). Settles p z c.args.frames.now c.args.frames.now (Rattle.std.proofs.Common.Some c.in-Ends.end)) (sym c.in-Ends.is) (record { steps = λ w. refl; placed = λ h. h })

pub returns-in-Ends-clause-ended : goal.returns-in-Ends-clause-ended
returns-in-Ends-clause-ended c = c.in-Ends.is
