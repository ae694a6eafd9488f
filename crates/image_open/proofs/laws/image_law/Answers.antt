use Rattle.std.proofs.Common.{◌≡◌, Ok, Err}
use Rattle.image_grammar.specs.Base.{base_of}
use Rattle.image_grammar.proofs.Inversion.{done, ok_is}
use Rattle.image_open.proofs.Results.{failed}
use Rattle.image_open.proofs.Single.{image_single}
use Rattle.image_open.proofs.Sound.{below_proper, is_sound}
use Rattle.image_open.proofs.Whole.{image_found}
use Rattle.image_open.proofs.Written.{image_read}
use Rattle.image_open.proofs.laws.image_law.Goals as goal

pub returns-clause-one_image : goal.returns-clause-one_image
returns-clause-one_image c = λ below bytes a b h k. ok_is a b ((image_single below bytes).same (Ok a) (Ok b) h k)

pub returns-clause-one_fault : goal.returns-clause-one_fault
returns-clause-one_fault c = λ below bytes f g h k. let e : failed f ≡ failed g = (image_single below bytes).same (Err f) (Err g) h k in cc

pub returns-clause-not_both : goal.returns-clause-not_both
returns-clause-not_both c = λ below bytes entries fault h k. let e : done entries ≡ failed fault = (image_single below bytes).same (Ok entries) (Err fault) h k in cc

pub returns-clause-found : goal.returns-clause-found
returns-clause-found c = λ images below bytes entries is h.
    let sound = is_sound images below is in
    let s = image_found (base_of below) bytes entries (below_proper below sound) sound.few_texts sound.few_names h in
    (s.0, s.1)

pub returns-clause-read : goal.returns-clause-read
returns-clause-read c = λ images below bytes entries is image verified.
    image_read (base_of below) bytes entries (below_proper below (is_sound images below is)) image verified
