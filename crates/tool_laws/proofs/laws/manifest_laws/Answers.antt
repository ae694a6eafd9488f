use Rattle.tool_laws.proofs.laws.manifest_laws.Goals as goal

pub returns : goal.returns
returns c = record {
  one_answer = c.entries_law.ensures.one;
  one_fault = c.freeze_law.ensures.one_fault;
}
