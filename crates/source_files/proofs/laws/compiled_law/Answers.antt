use Rattle.source_files.proofs.Compiled.{verified_file}
use Rattle.source_files.proofs.laws.compiled_law.Goals as goal

pub returns : goal.returns
returns c level source stored bytes compiles =
    verified_file (record {
      one_tree = c.resolved_law.ensures;
      formed = c.asked_law.ensures.formed;
      faultless = c.asked_law.ensures.faultless;
      within = c.within_law.ensures;
      verified = c.compiled_law.ensures.file;
    }) level source stored bytes compiles
