use Rattle.tool_laws.proofs.UnitImports.{Below}
use Rattle.tool_laws.proofs.FilePrograms.{holds_built, of_package, of_plain, run_program}
use Rattle.tool_laws.proofs.programs.built_program_law.Goals as goal

pub returns : goal.returns
returns c =
    let b : Below = record {
      file = c.made_law.ensures.file;
      verified = c.made_law.ensures.verified;
      unit = c.made_law.ensures.unit;
      imports = c.imports_law.ensures;
      one_tree = c.source_laws.ensures.one_tree;
    } in record {
      program = λ below main files name unit ready are. run_program b files name unit are below main ready;
      holds = λ below main files name program is. c.holds_law.ensures files name main below program (holds_built b files name program is);
      of_package = of_package;
      of_plain = of_plain;
    }
