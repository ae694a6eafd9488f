use Rattle.image_open.proofs.Whole.{nothing_proper}
use Rattle.file_laws.proofs.Images.{cut_header, cut_truncated}
use Rattle.file_laws.proofs.image_cuts.cut_image.Goals as goal

pub returns-clause-nothing : goal.returns-clause-nothing
returns-clause-nothing c = record { own = nothing_proper.own; differ = nothing_proper.differ }

pub returns-clause-header : goal.returns-clause-header
returns-clause-header c = λ below entries front behind sound s few. cut_header below entries sound front behind s few

pub returns-clause-truncated : goal.returns-clause-truncated
returns-clause-truncated c = λ below entries front behind sound s verified some long. cut_truncated below entries sound front behind s verified some long
