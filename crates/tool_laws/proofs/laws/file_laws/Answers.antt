use Rattle.tool_laws.proofs.laws.file_laws.Goals as goal

pub returns : goal.returns
returns c = record {
  one_module = c.file_law.ensures.one_module;
  one_fault = c.file_law.ensures.one_fault;
  not_both = c.file_law.ensures.not_both;
  one_first = c.one_fault.ensures.one;
  never_verified = c.one_fault.ensures.none;
}
