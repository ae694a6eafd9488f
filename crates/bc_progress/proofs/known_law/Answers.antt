use Rattle.bc_machine.specs.Machine.{start}
use Rattle.bc_machine.specs.Step.{step}
use Rattle.bc_progress.specs.Slots.{anything}
use Rattle.bc_progress.specs.Known.{facts_of, objects_of}
use Rattle.bc_progress.proofs.Knowing.{own_covered}
use Rattle.bc_progress.proofs.Whole.{step_fits, start_fits}
use Rattle.bc_progress.proofs.Others.{all_given, fits_more, objects_more}
use Rattle.bc_progress.proofs.known_law.Goals as goal

pub returns-clause-step : goal.returns-clause-step
returns-clause-step c plans library s follows f = let objects = objects_of (step library s) in step_fits (facts_of objects) plans library follows s f (own_covered objects)

pub returns-clause-start : goal.returns-clause-start
returns-clause-start c plans library name m w follows e = start_fits (facts_of (objects_of (start library name w))) plans library follows name m w e

pub returns-clause-later : goal.returns-clause-later
returns-clause-later c plans library s before behind later f = fits_more (facts_of before) (facts_of behind) (objects_more before behind later.keeps) plans library s f

pub returns-clause-fits : goal.returns-clause-fits
returns-clause-fits c plans library s f = fits_more (facts_of (objects_of s)) anything (all_given (facts_of (objects_of s))) plans library s f
