use Rattle.std.proofs.Common.{◌++◌, ◌∷◌, [], Option, sym, subst, ◌∙◌}
use Rattle.mpy_io.specs.Files.{FileOf}
use Rattle.manifest_files.specs.FrozenFaults.{FaultIs}
use Rattle.frozen_files.specs.Sources.{HoldsSource, RefusesEntry}
use Rattle.frozen_files.proofs.Modules.{grown, one_more, first_refused, all_seen}
use Rattle.frozen_files.proofs.sources.modules.Goals as goal

pub loop-entry-preserved : goal.loop-entry-preserved
loop-entry-preserved g c =
    let start = g.F.Folder.files c.args.folder.now in
    let entry = c.entry-item.result in
    let held = subst (λ (f : Option FileOf). HoldsSource f entry c.in-Ok.module) c.loop-entry.invariant.files c.in-Ok.ensures.source in
    let pushed = grown start c.args.entries.now c.push.result c.push.new.self.items (c.loop-entry.modules.items ++ c.in-Ok.module ∷ []) c.loop-entry.modules.items (sym c.is_err.ensures.value ∙ c.if-is_err.false) c.push.ensures.items in
    record {
      sources = one_more start c.args.entries.now c.loop-entry.entry-index entry c.loop-entry.modules.items c.push.new.self.items c.in-Ok.module c.loop-entry-test.true c.entry-item.is c.loop-entry.invariant.sources held pushed;
      files = c.in-Ok.ensures.files ∙ c.loop-entry.invariant.files;
      counts = c.in-Ok.ensures.counts ∙ c.loop-entry.invariant.counts;
    }

pub returns-in-Err-clause-refused : goal.returns-in-Err-clause-refused
returns-in-Err-clause-refused g c =
    let start = g.F.Folder.files c.args.folder.now in
    let entry = c.entry-item.result in
    first_refused start c.args.entries.now c.loop-entry.entry-index entry c.loop-entry.modules.items c.in-Err.refusal c.loop-entry-test.true c.entry-item.is c.loop-entry.invariant.sources
    (subst (λ (f : Option FileOf). FaultIs (RefusesEntry f entry) c.in-Err.refusal) c.loop-entry.invariant.files c.in-Err.ensures.refused)
