use Rattle.std.proofs.Common.{◌∷◌}
use Rattle.meant_files.specs.Programs.{IsProgramOf}
use Rattle.board_command.proofs.Meaning.{OfImages, image_programs, tasks_mean}
use Rattle.board_command.proofs.laws.board_means_law.Goals as goal

pub returns : goal.returns
returns c all sources below files image plan_name new before behind place is made =
    let o : OfImages = record { program = c.images_law.ensures.program; units = c.images_law.ensures.units } in
    tasks_mean c.tasks_law.ensures c.program_law.ensures.exists (IsProgramOf (sources ∷ all)) below image plan_name files new before behind place
    (image_programs o all sources below files image is made)
