use Rattle.bc_prelude.proofs.names.read_name_at.Goals as goal

pub returns-in-Ok-clause-only : goal.returns-in-Ok-clause-only
returns-in-Ok-clause-only c text rest index s e =
    let found = c.in-Ok.ensures.only text rest index s e in cc

pub returns-in-Err-Truncated-clause-only : goal.returns-in-Err-Truncated-clause-only
returns-in-Err-Truncated-clause-only c text rest index s e =
    let found = c.in-Err-Truncated.ensures.only text rest index s e in absurd cc

pub returns-in-Err-TooBig-clause-only : goal.returns-in-Err-TooBig-clause-only
returns-in-Err-TooBig-clause-only c text rest index s e =
    let found = c.in-Err-TooBig.ensures.only text rest index s e in absurd cc
