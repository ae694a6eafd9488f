use Rattle.file_laws.proofs.Images.{too_long, with_suffix}
use Rattle.file_laws.proofs.image_cuts.image_with_suffix.Goals as goal

pub returns-clause-trailing : goal.returns-clause-trailing
returns-clause-trailing c = λ below entries bytes suffix sound s verified some short. with_suffix below entries sound bytes suffix s verified some short

pub returns-clause-too_big : goal.returns-clause-too_big
returns-clause-too_big c = λ below bytes long. too_long below bytes long
