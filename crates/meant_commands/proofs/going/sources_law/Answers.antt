use Rattle.meant_commands.proofs.Sources.{Below, module_once, loads_once}
use Rattle.meant_commands.proofs.going.sources_law.Goals as goal

pub returns : goal.returns
returns c =
    let below : Below = record {
      one_module = c.file_law.ensures.one_module;
      one_file = c.compile_law.ensures.one_file;
      one_fault = c.compile_law.ensures.one_fault;
      not_both = c.compile_law.ensures.not_both;
    } in
    record {
      one = λ level path source m n size other. module_once below level path source m n size other;
      loading = λ level. loads_once below level c.imports_law.ensures;
    }
