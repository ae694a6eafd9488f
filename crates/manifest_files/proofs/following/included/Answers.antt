use Rattle.std.proofs.Common.{sym, ◌∙◌}
use Rattle.manifest_files.proofs.Names.{inner_utf8}
use Rattle.manifest_files.proofs.following.included.Goals as goal

pub returns-clause-utf8 : goal.returns-clause-utf8
returns-clause-utf8 c =
    inner_utf8 c.folder_of.result.now c.args.path.now c.in_ok-inner.inner c.in_ok-inner.ensures (c.folder_of.ensures.utf8 c.as_bytes-2.ensures.utf8) (sym c.is_ascii.ensures ∙ c.if-not-is_ascii.false)
