use Rattle.library_files.specs.declared.entry.Entry.TheVariants as entries
use Rattle.library_files.proofs.Taken.{absent_steps, entry_remembers, entry_takes, held_adds, none_adds, refused_adds, refused_steps, same_remembers}
use Rattle.library_files.proofs.loading.take_entry.Goals as goal

pub returns-in-Absent-clause-takes : goal.returns-in-Absent-clause-takes
returns-in-Absent-clause-takes c =
    entry_takes c.args.begun.now c.take_absent.new.begun c.args.name.now c.args.entry entries.Absent c.take_absent.result c.in-Absent.is c.take_absent.ensures.takes

pub returns-in-Absent-clause-imports : goal.returns-in-Absent-clause-imports
returns-in-Absent-clause-imports c = none_adds c.args.entry c.args.found.now.items c.take_absent.result c.in-Absent.is

pub returns-in-Absent-clause-step : goal.returns-in-Absent-clause-step
returns-in-Absent-clause-step c = absent_steps c.args.begun.now c.take_absent.new.begun c.args.found.now.items c.take_absent.result c.take_absent.ensures.same

pub returns-in-Absent-clause-remembers : goal.returns-in-Absent-clause-remembers
returns-in-Absent-clause-remembers c =
    entry_remembers c.args.begun.now c.take_absent.new.begun c.args.name.now c.args.entry entries.Absent c.take_absent.result c.in-Absent.is c.take_absent.ensures.remembers

pub returns-in-Refused-clause-takes : goal.returns-in-Refused-clause-takes
returns-in-Refused-clause-takes c =
    entry_takes c.args.begun.now c.add_refused.new.begun c.args.name.now c.args.entry entries.Refused c.add_refused.result c.in-Refused.is c.add_refused.ensures.takes

pub returns-in-Refused-clause-imports : goal.returns-in-Refused-clause-imports
returns-in-Refused-clause-imports c = refused_adds c.args.entry c.args.found.now.items c.add_refused.result c.in-Refused.is

pub returns-in-Refused-clause-step : goal.returns-in-Refused-clause-step
returns-in-Refused-clause-step c = refused_steps c.args.begun.now c.add_refused.new.begun c.args.name.now c.args.found.now.items c.add_refused.result c.add_refused.ensures.takes

pub returns-in-Held-clause-takes : goal.returns-in-Held-clause-takes
returns-in-Held-clause-takes c =
    entry_takes c.args.begun.now c.take_module.new.begun c.args.name.now c.args.entry (entries.Held c.in-Held.verified c.in-Held.bytes) c.take_module.result c.in-Held.is c.take_module.ensures.takes

pub returns-in-Held-clause-imports : goal.returns-in-Held-clause-imports
returns-in-Held-clause-imports c =
    held_adds c.args.entry c.in-Held.verified c.in-Held.bytes c.args.found.now.items c.take_module.new.found.items c.take_module.result c.in-Held.is c.take_module.ensures.imports

pub returns-in-Refused-clause-remembers : goal.returns-in-Refused-clause-remembers
returns-in-Refused-clause-remembers c =
    entry_remembers c.args.begun.now c.add_refused.new.begun c.args.name.now c.args.entry entries.Refused c.add_refused.result c.in-Refused.is (same_remembers c.add_refused.result c.add_refused.ensures.absent)

pub returns-in-Held-clause-remembers : goal.returns-in-Held-clause-remembers
returns-in-Held-clause-remembers c =
    entry_remembers c.args.begun.now c.take_module.new.begun c.args.name.now c.args.entry (entries.Held c.in-Held.verified c.in-Held.bytes) c.take_module.result c.in-Held.is
    (same_remembers c.take_module.result c.take_module.ensures.absent)
