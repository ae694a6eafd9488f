use Rattle.trans_laws.proofs.Fitting.{fits_in}
use Rattle.trans_laws.proofs.fits_law.Goals as goal

pub returns : goal.returns
returns c a b f v = fits_in c.flow_law.ensures a.code b.code f v
