use Rattle.tool_laws.proofs.Freezing.{freeze_done, one_freeze, one_image}
use Rattle.tool_laws.proofs.images.freeze_law.Goals as goal

pub returns : goal.returns
returns c = record {
  one_ending = λ version below files manifest. one_freeze c.file_laws.ensures c.source_laws.ensures files c.manifest_laws.ensures manifest version below;
  one_image = λ version below files manifest. one_image c.file_laws.ensures c.source_laws.ensures files c.manifest_laws.ensures manifest version below;
  done = λ version below files manifest written modules after.
      freeze_done c.file_laws.ensures c.source_laws.ensures files c.manifest_laws.ensures manifest version below written after modules;
}
