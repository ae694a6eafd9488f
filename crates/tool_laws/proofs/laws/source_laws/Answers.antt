use Rattle.tool_laws.proofs.laws.source_laws.Goals as goal

pub returns : goal.returns
returns c = record {
  one_tree = c.resolving_law.ensures;
  one_file = c.compile_law.ensures.one_file;
  one_fault = c.compile_law.ensures.one_fault;
  not_both = c.compile_law.ensures.not_both;
}
