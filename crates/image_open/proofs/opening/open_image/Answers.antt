use Rattle.image_open.proofs.Results.{end_opens, end_opened, end_only, end_first, end_fault}
use Rattle.image_open.proofs.opening.open_image.Goals as goal

pub returns-clause-opens : goal.returns-clause-opens
returns-clause-opens c =
    end_opens c.args.below.now c.args.bytes.now c.requires c.library_law.ensures.few c.read_library.result c.read_library.ensures.proper c.read_library.ensures.ends

pub returns-clause-only : goal.returns-clause-only
returns-clause-only c = λ shelf o.
    end_only c.args.below.now c.args.bytes.now c.requires c.library_law.ensures.few shelf c.read_library.result c.read_library.ensures.proper c.read_library.ensures.ends o

pub returns-clause-first : goal.returns-clause-first
returns-clause-first c = λ fault e. end_first c.args.below.now c.args.bytes.now fault c.read_library.result c.read_library.ensures.ends e

pub returns-clause-fault : goal.returns-clause-fault
returns-clause-fault c = λ fault h. end_fault c.args.below.now c.args.bytes.now fault c.read_library.result c.read_library.ensures.ends h

pub returns-clause-opened : goal.returns-clause-opened
returns-clause-opened c =
    end_opened c.args.below.now c.args.bytes.now c.requires c.library_law.ensures.few c.read_library.result c.read_library.ensures.proper c.read_library.ensures.ends
