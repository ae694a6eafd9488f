use Rattle.split_rows.proofs.running.go_on.Goals as goal

pub turns-init : goal.turns-init
turns-init g c = (c.requires.vm, c.requires.kept)

pub turns-preserved : goal.turns-preserved
turns-preserved g c = (c.run.ensures.vm, c.run.ensures.kept)
