-- A board that was run, and whose summary was handed on.
use Rattle.std.proofs.Common.{ℕ, List, Option, Some, None}
use Rattle.std.specs.Io.KnownBytes.{Keeps}
use Rattle.std.proofs.KnownBytes.{Appends-kept}
use Rattle.mpy_io.specs.Files.{FileOf}
use Rattle.image_open.specs.image_grammar.bc_library.Shelf.{Shelf}
use Rattle.meant_commands.specs.vm_states.Means.{Program}
use Rattle.meant_commands.specs.board_plan.declared.plan.Plan.{Plan}
use Rattle.board_command.specs.board_files.Summaries.{HasRunIn}
use Rattle.mpy_endings.specs.declared.ending.Ending.TheVariants.{Done}
use Rattle.board_command.specs.Boards.{Boards}

run_flushed : (p : Program) (plan : Plan) (old new : Option FileOf) (before behind last : Option (List ℕ)) → Keeps behind last → HasRunIn p plan old new before behind → HasRunIn p plan old new before last
run_flushed p plan None new before behind last kept h = tt
run_flushed p plan (Some file) new before behind last kept h = (
  h.0,
  h.1,
  record {
    outputs = h.2.outputs;
    others = h.2.others;
    summary = h.2.summary;
    summarizes = h.2.summarizes;
    added = Appends-kept before behind last h.2.summary h.2.added kept;
  },
)

pub flushed : (below : Shelf) (image plan_name : List ℕ) (old new : Option FileOf) (before behind last : Option (List ℕ)) (place : ℕ) → Keeps behind last
    → Boards below image plan_name old new before behind place Done → Boards below image plan_name old new before last place Done
flushed below image plan_name old new before behind last place kept (shelf, plan, can, ran) =
    (shelf, plan, can, λ p is. run_flushed p plan old new before behind last kept (ran p is))
