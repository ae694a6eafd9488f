use Rattle.tool_laws.proofs.Migrating.{migrate_done, one_migrate, one_migrated}
use Rattle.tool_laws.proofs.images.migrate_law.Goals as goal

pub returns : goal.returns
returns c = record {
  one_ending = λ files name written. one_migrate c.image_laws.ensures files name written;
  one_image = one_migrated c.image_laws.ensures;
  done = λ files name written bytes entries after. migrate_done c.image_laws.ensures files name written bytes entries after;
}
