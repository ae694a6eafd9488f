use Rattle.tool_laws.proofs.laws.plan_laws.Goals as goal

pub returns : goal.returns
returns c = record {
  one = c.plan_law.ensures.one;
  one_fault = c.plan_law.ensures.one_fault;
  not_both = c.plan_law.ensures.not_both;
}
