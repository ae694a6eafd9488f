use Rattle.std.proofs.Common.{ℕ, ◌^◌, ◌<◌, List, length, reverse, Ok, Err, refl, sym, subst, ◌∙◌, arith}
use Rattle.std.specs.Prelude.{IfSome}
use Rattle.mpy_io.specs.Count.{Counts}
use Rattle.library_files.specs.Comes.{NameComesTo}
use Rattle.library_files.specs.Asked.{asked_for}
use Rattle.library_files.specs.Ends.{is_failed}
use Rattle.library_files.specs.Steps.{AsksFound}
use Rattle.library_files.proofs.Asks.{falls, leaving_begun, leaving_ended, leaving_on, leaving_done, name_short, none_left, none_loaded}
use Rattle.library_files.proofs.Taken.{adds_none}
use Rattle.library_files.proofs.loading.load_left.Goals as goal

pub loop-name-init : goal.loop-name-init
loop-name-init g c = record {
  leaving = leaving_begun (NameComesTo (g.R.Reader.ending c.args.reader.now) (g.R.Reader.comes c.args.reader.now) c.args.base.now) (g.F.Folder.files c.args.folder.now) c.args.begun.now c.args.left.items (adds_none c.args.begun.now.library) c.requires.short;
  same = refl;
  still = refl;
  absent = c.requires.absent;
}

pub import-requires-clause-short : goal.import-requires-clause-short
import-requires-clause-short g c =
    subst (λ (z : List ℕ). length z < 2 ^ 31) (sym c.bytes.ensures)
    (name_short c.pop.new.self.items c.loop-name.left.items c.in-Some.name c.in-Some.ensures.items c.loop-name.invariant.leaving.short)

pub returns-in-Err-clause-loads : goal.returns-in-Err-clause-loads
returns-in-Err-clause-loads g c =
    let l = c.loop-name in
    leaving_ended (NameComesTo (g.R.Reader.ending c.args.reader.now) (g.R.Reader.comes c.args.reader.now) c.args.base.now) (g.F.Folder.files c.args.folder.now) c.args.begun.now l.begun c.args.left.items (g.F.Folder.files l.folder) c.import.new.begun c.pop.new.self.items l.left.items c.in-Some.name c.in-Err.refused
    l.invariant.same c.in-Some.ensures.items l.invariant.leaving
    (subst (λ (z : List ℕ). IfSome (g.F.Folder.files l.folder) (λ files. AsksFound ((NameComesTo (g.R.Reader.ending c.args.reader.now) (g.R.Reader.comes c.args.reader.now) c.args.base.now) files) l.begun c.import.new.begun (asked_for z) (Err c.in-Err.refused))) c.bytes.ensures c.in-Err.ensures.loads)

pub returns-in-Err-clause-same : goal.returns-in-Err-clause-same
returns-in-Err-clause-same g c = c.in-Err.ensures.same ∙ c.loop-name.invariant.same

pub returns-in-Err-clause-cause : goal.returns-in-Err-clause-cause
returns-in-Err-clause-cause g c =
    subst (λ (n : ℕ). Counts n (g.F.Folder.count c.import.new.folder) (is_failed {A = Unit {0}} (Err c.in-Err.refused))) c.loop-name.invariant.still c.in-Err.ensures.cause

pub returns-in-Err-put_in_front-clause-loads : goal.returns-in-Err-put_in_front-clause-loads
returns-in-Err-put_in_front-clause-loads g c = none_loaded (NameComesTo (g.R.Reader.ending c.args.reader.now) (g.R.Reader.comes c.args.reader.now) c.args.base.now) (g.F.Folder.files c.args.folder.now) c.args.begun.now c.import.new.begun (reverse c.args.left.items)

pub returns-in-Err-put_in_front-clause-same : goal.returns-in-Err-put_in_front-clause-same
returns-in-Err-put_in_front-clause-same g c = c.in-Ok.ensures.same ∙ c.loop-name.invariant.same

pub returns-in-Err-put_in_front-clause-cause : goal.returns-in-Err-put_in_front-clause-cause
returns-in-Err-put_in_front-clause-cause g c = c.in-Ok.ensures.cause ∙ c.loop-name.invariant.still

pub loop-name-preserved : goal.loop-name-preserved
loop-name-preserved g c =
    let l = c.loop-name in
    record {
      leaving = leaving_on (NameComesTo (g.R.Reader.ending c.args.reader.now) (g.R.Reader.comes c.args.reader.now) c.args.base.now) (g.F.Folder.files c.args.folder.now) c.args.begun.now l.begun c.args.left.items (g.F.Folder.files l.folder) c.import.new.begun c.pop.new.self.items l.left.items
          c.put_in_front.new.left.items c.in-Some.name c.in-Ok.found l.invariant.same c.in-Some.ensures.items c.in-Ok-put_in_front.ensures l.invariant.leaving
          (subst (λ (z : List ℕ). IfSome (g.F.Folder.files l.folder) (λ files. AsksFound ((NameComesTo (g.R.Reader.ending c.args.reader.now) (g.R.Reader.comes c.args.reader.now) c.args.base.now) files) l.begun c.import.new.begun (asked_for z) (Ok c.in-Ok.found))) c.bytes.ensures c.in-Ok.ensures.loads)
          c.in-Ok.ensures.step;
      same = c.in-Ok.ensures.same ∙ l.invariant.same;
      still = c.in-Ok.ensures.cause ∙ l.invariant.still;
      absent = c.in-Ok.ensures.absent;
    }

pub loop-name-preserved-in-Ok-put_in_front : goal.loop-name-preserved-in-Ok-put_in_front
loop-name-preserved-in-Ok-put_in_front g c =
    let l = c.loop-name in
    record {
      leaving = leaving_on (NameComesTo (g.R.Reader.ending c.args.reader.now) (g.R.Reader.comes c.args.reader.now) c.args.base.now) (g.F.Folder.files c.args.folder.now) c.args.begun.now l.begun c.args.left.items (g.F.Folder.files l.folder) c.import.new.begun c.pop.new.self.items l.left.items
          c.put_in_front.new.left.items c.in-Some.name c.in-Ok.found l.invariant.same c.in-Some.ensures.items c.in-Ok-put_in_front.ensures l.invariant.leaving
          (subst (λ (z : List ℕ). IfSome (g.F.Folder.files l.folder) (λ files. AsksFound ((NameComesTo (g.R.Reader.ending c.args.reader.now) (g.R.Reader.comes c.args.reader.now) c.args.base.now) files) l.begun c.import.new.begun (asked_for z) (Ok c.in-Ok.found))) c.bytes.ensures c.in-Ok.ensures.loads)
          c.in-Ok.ensures.step;
      same = c.in-Ok.ensures.same ∙ l.invariant.same;
      still = c.in-Ok.ensures.cause ∙ l.invariant.still;
      absent = c.in-Ok.ensures.absent;
    }

pub loop-name-smaller : goal.loop-name-smaller
loop-name-smaller g c =
    falls c.loop-name.begun.library c.import.new.begun.library c.loop-name.left.items c.put_in_front.new.left.items c.pop.new.self.items c.in-Some.name c.in-Ok.found.items
    c.in-Ok.ensures.step c.in-Some.ensures.items c.in-Ok-put_in_front.ensures (omega (arith, c.put_in_front.new.left.ok.0))

pub returns-clause-loads : goal.returns-clause-loads
returns-clause-loads g c =
    let l = c.loop-name in
    leaving_done (NameComesTo (g.R.Reader.ending c.args.reader.now) (g.R.Reader.comes c.args.reader.now) c.args.base.now) (g.F.Folder.files c.args.folder.now) c.args.begun.now l.begun c.args.left.items l.left.items
    (none_left l.left.items l.left.len c.pop.result l.left.ok.0 c.pop.ensures.variant c.in_default.not-Some) l.invariant.leaving

pub returns-clause-adds : goal.returns-clause-adds
returns-clause-adds g c = c.loop-name.invariant.leaving.adds

pub returns-clause-same : goal.returns-clause-same
returns-clause-same g c = c.loop-name.invariant.same

pub returns-clause-cause : goal.returns-clause-cause
returns-clause-cause g c = c.loop-name.invariant.still

pub returns-clause-absent : goal.returns-clause-absent
returns-clause-absent g c = c.loop-name.invariant.absent
