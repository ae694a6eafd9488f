use Rattle.std.proofs.Common.{sym, ◌∙◌}
use Rattle.manifest_files.proofs.Plain.{plain_after}
use Rattle.manifest_files.proofs.following.frozen.Goals as goal

pub returns-clause-plain : goal.returns-clause-plain
returns-clause-plain c = λ h.
    plain_after c.folder_of.result.now (c.folder_of.ensures.utf8 c.as_bytes-2.ensures.utf8) c.args.others.now c.args.entries.now.items c.add_all.new.entries.items
    (sym c.are_plain.ensures ∙ c.if-not-are_plain.false) h c.in_ok-add_all.ensures.leads
