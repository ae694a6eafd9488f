use Rattle.snap_loading.proofs.suspended.shaped_law.Goals as goal

pub returns : goal.returns
returns c shelf vm tabled named is saved roomy = record {
  objects = c.objects_law.ensures shelf vm tabled named is saved roomy;
  room = c.saved_law.ensures.room shelf vm is saved;
  registered = c.saved_law.ensures.registered shelf vm is saved;
  some_frames = c.saved_law.ensures.some_frames shelf vm is saved;
  few_frames = c.saved_law.ensures.few_frames shelf vm saved;
  frames = c.saved_frames_law.ensures shelf vm tabled is saved;
}
