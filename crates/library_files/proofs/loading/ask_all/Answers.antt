use Rattle.std.proofs.Common.{ℕ, Err, drop, ◌+◌, refl, subst, ◌∙◌}
use Rattle.std.proofs.lemmas.List.{drop_all}
use Rattle.mpy_io.specs.Count.{Counts}
use Rattle.library_files.specs.Comes.{NameComesTo}
use Rattle.library_files.specs.Ends.{is_failed}
use Rattle.library_files.proofs.Plain.{asked_at}
use Rattle.library_files.proofs.Asks.{asking_begun, asking_ended, asking_on, asking_done, first_left}
use Rattle.library_files.proofs.loading.ask_all.Goals as goal

pub loop-asked-init : goal.loop-asked-init
loop-asked-init g c = record {
  asking = asking_begun (NameComesTo (g.R.Reader.ending c.args.reader.now) (g.R.Reader.comes c.args.reader.now) c.args.base.now) (g.F.Folder.files c.args.folder.now) c.args.begun.now c.args.names.now c.args.found.now.items;
  same = refl;
  still = refl;
  absent = c.requires.absent;
}

pub ask-requires-clause-name_is : goal.ask-requires-clause-name_is
ask-requires-clause-name_is g c =
    (asked_at c.args.names.now c.loop-asked.asked-index c.asked-item.result c.bytes.result.now c.requires.names_are c.loop-asked-test.true c.asked-item.is c.bytes.ensures).plain

pub ask-requires-clause-short : goal.ask-requires-clause-short
ask-requires-clause-short g c =
    (asked_at c.args.names.now c.loop-asked.asked-index c.asked-item.result c.bytes.result.now c.requires.names_are c.loop-asked-test.true c.asked-item.is c.bytes.ensures).short

pub returns-in-Err-clause-loads : goal.returns-in-Err-clause-loads
returns-in-Err-clause-loads g c =
    let l = c.loop-asked in
    asking_ended (NameComesTo (g.R.Reader.ending c.args.reader.now) (g.R.Reader.comes c.args.reader.now) c.args.base.now) (g.F.Folder.files c.args.folder.now) c.args.begun.now l.begun c.args.names.now c.args.found.now.items
    (g.F.Folder.files l.folder) c.ask.new.begun c.bytes.result.now (drop l.asked-index c.args.names.now) (drop (l.asked-index + 1) c.args.names.now) l.found.items c.ask.new.found.items c.ask.new.found.items c.in-Err.refused
    l.invariant.same (first_left c.args.names.now l.asked-index c.asked-item.result c.bytes.result.now c.loop-asked-test.true c.asked-item.is c.bytes.ensures) l.invariant.asking c.in-Err.ensures.loads

pub returns-in-Err-clause-same : goal.returns-in-Err-clause-same
returns-in-Err-clause-same g c = c.in-Err.ensures.same ∙ c.loop-asked.invariant.same

pub returns-in-Err-clause-cause : goal.returns-in-Err-clause-cause
returns-in-Err-clause-cause g c =
    subst (λ (n : ℕ). Counts n (g.F.Folder.count c.ask.new.folder) (is_failed {A = Unit {0}} (Err c.in-Err.refused))) c.loop-asked.invariant.still c.in-Err.ensures.cause

pub loop-asked-preserved : goal.loop-asked-preserved
loop-asked-preserved g c =
    let l = c.loop-asked in
    record {
      asking = asking_on (NameComesTo (g.R.Reader.ending c.args.reader.now) (g.R.Reader.comes c.args.reader.now) c.args.base.now) (g.F.Folder.files c.args.folder.now) c.args.begun.now l.begun c.args.names.now c.args.found.now.items
          (g.F.Folder.files l.folder) c.ask.new.begun c.bytes.result.now (drop l.asked-index c.args.names.now) (drop (l.asked-index + 1) c.args.names.now) l.found.items c.ask.new.found.items
          l.invariant.same (first_left c.args.names.now l.asked-index c.asked-item.result c.bytes.result.now c.loop-asked-test.true c.asked-item.is c.bytes.ensures) l.invariant.asking c.in-Ok.ensures.loads c.in-Ok.ensures.step;
      same = c.in-Ok.ensures.same ∙ l.invariant.same;
      still = c.in-Ok.ensures.cause ∙ l.invariant.still;
      absent = c.in-Ok.ensures.absent;
    }

pub returns-clause-loads : goal.returns-clause-loads
returns-clause-loads g c =
    let l = c.loop-asked in
    asking_done (NameComesTo (g.R.Reader.ending c.args.reader.now) (g.R.Reader.comes c.args.reader.now) c.args.base.now) (g.F.Folder.files c.args.folder.now) c.args.begun.now l.begun c.args.names.now c.args.found.now.items
    (drop l.asked-index c.args.names.now) l.found.items (drop_all l.asked-index c.args.names.now c.loop-asked-test.false) l.invariant.asking

pub returns-clause-step : goal.returns-clause-step
returns-clause-step g c = c.loop-asked.invariant.asking.step

pub returns-clause-same : goal.returns-clause-same
returns-clause-same g c = c.loop-asked.invariant.same

pub returns-clause-cause : goal.returns-clause-cause
returns-clause-cause g c = c.loop-asked.invariant.still

pub returns-clause-absent : goal.returns-clause-absent
returns-clause-absent g c = c.loop-asked.invariant.absent
