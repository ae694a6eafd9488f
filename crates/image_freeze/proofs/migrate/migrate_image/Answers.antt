use Rattle.std.proofs.Common.{ℕ, Vec, Global}
use Rattle.image_freeze.proofs.Migrated.{end_migrates, end_only, end_opening, end_unopened, end_freezing, end_unfrozen}
use Rattle.image_freeze.proofs.migrate.migrate_image.Goals as goal

pub returns-clause-migrated : goal.returns-clause-migrated
returns-clause-migrated c = end_migrates c.args.bytes.now (λ (v : Vec ℕ Global). v.items) c.migrated.result c.migrated.ensures

pub returns-clause-only : goal.returns-clause-only
returns-clause-only c = λ out m. end_only c.args.bytes.now (λ (v : Vec ℕ Global). v.items) c.migrated.result out c.migrated.ensures m

pub returns-clause-opening : goal.returns-clause-opening
returns-clause-opening c = λ fault is. end_opening c.args.bytes.now (λ (v : Vec ℕ Global). v.items) c.migrated.result fault c.migrated.ensures is

pub returns-clause-unopened : goal.returns-clause-unopened
returns-clause-unopened c = λ fault h. end_unopened c.args.bytes.now (λ (v : Vec ℕ Global). v.items) c.migrated.result fault c.migrated.ensures h

pub returns-clause-freezing : goal.returns-clause-freezing
returns-clause-freezing c = λ fault is. end_freezing c.args.bytes.now (λ (v : Vec ℕ Global). v.items) c.migrated.result fault c.migrated.ensures is

pub returns-clause-unfrozen : goal.returns-clause-unfrozen
returns-clause-unfrozen c = λ entries fault o h. end_unfrozen c.args.bytes.now (λ (v : Vec ℕ Global). v.items) c.migrated.result entries fault c.migrated.ensures o h
