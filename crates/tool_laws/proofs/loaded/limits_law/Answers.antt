use Rattle.tool_laws.proofs.SourceLimits.{keep_limits}
use Rattle.tool_laws.proofs.UnitImports.{Below}
use Rattle.tool_laws.proofs.loaded.limits_law.Goals as goal

pub returns : goal.returns
returns c level files name are =
    let b : Below = record {
      file = c.made_law.ensures.file;
      verified = c.made_law.ensures.verified;
      unit = c.made_law.ensures.unit;
      imports = c.imports_law.ensures;
      one_tree = c.source_laws.ensures.one_tree;
    } in
    keep_limits b c.crossed_law.ensures.reading level files name are
