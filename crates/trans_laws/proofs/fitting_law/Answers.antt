use Rattle.trans_laws.proofs.fitting_law.Goals as goal

pub returns : goal.returns
returns c file level tree want have held accepted translates fits resolves =
    c.raw_law.ensures held have resolves (c.fits_law.ensures want have fits (c.accepted_law.ensures.verified file level tree want accepted translates))
