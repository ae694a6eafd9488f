use Rattle.std.proofs.Common.{ℕ, Option, length, ap, sym, subst, ◌∙◌}
use Rattle.mpy_base.specs.declared.limits.TheConstants.{MAX_TASKS}
use Rattle.mpy_io.specs.Files.{FileOf}
use Rattle.board_files.specs.Files.{KeepsOthers}
use Rattle.command_files.specs.mpy_endings.declared.ending.Ending.{Ending}
use Rattle.board_command.specs.Boards.{Boards, Holds}
use Rattle.board_command.specs.Plans.{HoldsPlan, RefusesPlan}
use Rattle.board_command.proofs.Ending.{Told, plan_refused, others_within, run_ended}
use Rattle.board_command.proofs.running.board.Goals as goal

pub returns-in-Err-planned-clause-went : goal.returns-in-Err-planned-clause-went
returns-in-Err-planned-clause-went g c =
    let files = g.F.Folder.files in
    plan_refused c.args.below.now c.args.image.now c.args.plan.now (files c.args.folder.now) (files c.planned.new.folder) (g.S.Sink.told c.args.out.now) c.in-Ok.library c.in-Err-planned.ending
    (c.planned.ensures.files ∙ c.open_image_file.ensures.files) c.in-Ok.ensures.holds
    (subst (λ (f : Option FileOf). RefusesPlan f c.args.plan.now c.in-Err-planned.ending) c.open_image_file.ensures.files c.in-Err-planned.ensures.refused)

pub returns-clause-files : goal.returns-clause-files
returns-clause-files g c =
    let files = g.F.Folder.files in
    let now = files c.run_board.new.folder in
    subst (λ (f : Option FileOf). KeepsOthers MAX_TASKS f now) (c.planned.ensures.files ∙ c.open_image_file.ensures.files)
    (others_within (length c.in-Ok-planned.plan.tasks) (files c.planned.new.folder) now c.in-Ok-planned.ensures.can_run.few c.run_board.ensures.others)

pub returns-clause-went : goal.returns-clause-went
returns-clause-went g c =
    let files = g.F.Folder.files in
    let told = g.S.Sink.told in
    let old = files c.args.folder.now in
    let new = files c.run_board.new.folder in
    let before = told c.args.out.now in
    let behind = told c.run_board.new.out in
    let below = c.args.below.now in
    let name = c.args.plan.now in
    let shelf = c.in-Ok.library in
    let plan = c.in-Ok-planned.plan in
    let ran = c.run_board.result in
    let holds : Holds below c.args.image.now name old shelf plan = record {
      opened = c.in-Ok.ensures.holds;
      runnable = record { distinct = c.modules_law.ensures.distinct; are_modules = c.modules_law.ensures.files; are_verified = c.modules_law.ensures.verified };
      planned = subst (λ (f : Option FileOf). HoldsPlan f name plan) c.open_image_file.ensures.files c.in-Ok-planned.ensures.holds;
    } in
    let tells : Told shelf plan (files c.planned.new.folder) new before behind ran = record {
      whole = c.run_board.ensures.ran;
      all_there = c.run_board.ensures.all_there;
      missing = λ lacked e. let m = c.run_board.ensures.missing lacked e in (m.0, ap files m.1, ap told m.2);
      unwritten = λ task e. let u = c.run_board.ensures.unwritten task e in (u.0, u.1, ap told u.2);
      unput = c.run_board.ensures.unput;
      cut = c.run_board.ensures.cut;
      starved = λ e. ap told (c.run_board.ensures.starved e);
      short = c.run_board.ensures.short;
      others = c.run_board.ensures.others;
    } in
    let ended = run_ended below c.args.image.now name old new before behind shelf plan ran holds
    (subst (λ (f : Option FileOf). Told shelf plan f new before behind ran) (c.planned.ensures.files ∙ c.open_image_file.ensures.files) tells) in
    subst (λ (place : ℕ). Boards below c.args.image.now name old new before behind place c.ending_of.result.ending) (sym c.ending_of.ensures.place)
    (subst (λ (ending : Ending). Boards below c.args.image.now name old new before behind 2 ending) (sym c.ending_of.ensures.ending) ended)
