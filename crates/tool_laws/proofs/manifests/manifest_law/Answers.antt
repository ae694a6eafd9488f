use Rattle.tool_laws.proofs.ManifestNames.{big_or_below, too_big}
use Rattle.tool_laws.proofs.manifests.manifest_law.Goals as goal

pub returns : goal.returns
returns c = record { over_nothing = too_big; over_base = big_or_below }
