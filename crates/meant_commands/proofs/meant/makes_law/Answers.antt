use Rattle.meant_commands.proofs.Making.{of_source, of_checked, of_units}
use Rattle.meant_commands.proofs.ImageMeaning.{made_image, migrated_image}
use Rattle.meant_commands.proofs.meant.makes_law.Goals as goal

pub returns-clause-cross : goal.returns-clause-cross
returns-clause-cross c = of_source c.crossed_law.ensures.reading

pub returns-clause-check : goal.returns-clause-check
returns-clause-check c = of_checked c.checked_law.ensures.reading

pub returns-clause-merge : goal.returns-clause-merge
returns-clause-merge c = of_units

pub returns-clause-freeze : goal.returns-clause-freeze
returns-clause-freeze c = made_image c.frozen_law.ensures.frozen

pub returns-clause-migrate : goal.returns-clause-migrate
returns-clause-migrate c = migrated_image c.frozen_law.ensures.migrated

pub returns-clause-verified : goal.returns-clause-verified
returns-clause-verified c files name unit made =
    let file = c.made_law.ensures.file unit made.bytes made.built in
    (file.0, record { bytes = made.bytes; holds = made.there; file = file.1; verified = c.made_law.ensures.verified unit made.bytes file.0 made.built file.1 })
