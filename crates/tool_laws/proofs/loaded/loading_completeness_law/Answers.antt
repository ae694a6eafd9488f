use Rattle.tool_laws.proofs.SourcesLoad.{go_as_meant, go_loads, run_loads}
use Rattle.tool_laws.proofs.UnitImports.{Below}
use Rattle.tool_laws.proofs.loaded.loading_completeness_law.Goals as goal

pub returns : goal.returns
returns c =
    let b : Below = record {
      file = c.made_law.ensures.file;
      verified = c.made_law.ensures.verified;
      unit = c.made_law.ensures.unit;
      imports = c.imports_law.ensures;
      one_tree = c.source_laws.ensures.one_tree;
    } in record {
      go = λ level files name room steps printed ports states status. go_loads c.source_laws.ensures c.load_laws.ensures b c.crossed_law.ensures.reading level files name room steps printed ports states status;
      meant = λ level files name room steps printed ports states program t status.
          go_as_meant c.source_laws.ensures c.load_laws.ensures b c.crossed_law.ensures.reading level files name room steps printed ports states (c.go_means_law.ensures level room steps name) program t status;
      run = run_loads c.file_laws.ensures c.load_laws.ensures;
    }
