use Rattle.tool_laws.proofs.laws.run_laws.Goals as goal

pub returns : goal.returns
returns c = record {
  end = c.run_law.ensures.end;
  said = c.run_law.ensures.said;
  alike = c.run_law.ensures.alike;
}
