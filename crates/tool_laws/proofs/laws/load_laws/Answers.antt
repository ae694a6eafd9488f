use Rattle.tool_laws.proofs.laws.load_laws.Goals as goal

pub returns : goal.returns
returns c = record {
  one_module = c.sources_law.ensures.one;
  from_sources = c.sources_law.ensures.loading;
  from_files = c.loads_law.ensures;
}
