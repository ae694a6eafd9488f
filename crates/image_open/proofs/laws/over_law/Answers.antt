use Rattle.std.proofs.Common.{◌≡◌, Some, sym, subst}
use Rattle.image_grammar.specs.bc_library.Shelf.{Shelf}
use Rattle.image_grammar.specs.bc_library.Texts.{text_numbered}
use Rattle.image_grammar.proofs.bc_library_lemmas.Pools.{kept}
use Rattle.image_grammar.specs.Image.{texts_used}
use Rattle.image_open.proofs.Base.{opened_again}
use Rattle.image_open.proofs.Below.{nothing_opened}
use Rattle.image_open.proofs.Sound.{is_sound, one_library}
use Rattle.image_open.proofs.laws.over_law.Goals as goal

pub returns-clause-nothing : goal.returns-clause-nothing
returns-clause-nothing c = nothing_opened

pub returns-clause-opened : goal.returns-clause-opened
returns-clause-opened c = λ below bytes shelf is o. opened_again below bytes shelf is o

pub returns-clause-one_library : goal.returns-clause-one_library
returns-clause-one_library c = λ images below bytes a b is h k. one_library below bytes a b (is_sound images below is) h k

pub returns-clause-one_text : goal.returns-clause-one_text
returns-clause-one_text c = λ below bytes shelf number text o e.
    subst (λ (z : Shelf). text_numbered z.pool number ≡ Some text) (sym o.shelf_is) (kept below.pool (texts_used o.entries) number text e)
