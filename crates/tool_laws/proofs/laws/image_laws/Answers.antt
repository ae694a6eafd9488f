use Rattle.tool_laws.proofs.laws.image_laws.Goals as goal

pub returns : goal.returns
returns c = record {
  one_image = c.image_law.ensures.one_image;
  one_fault = c.image_law.ensures.one_fault;
  not_both = c.image_law.ensures.not_both;
  read = c.image_law.ensures.read;
  one_library = c.over_law.ensures.one_library;
}
