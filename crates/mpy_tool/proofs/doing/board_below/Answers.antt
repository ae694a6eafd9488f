use Rattle.std.proofs.Common.{refl, subst, inl}
use Rattle.std.proofs.KnownBytes.{Keeps-refl}
use Rattle.mpy_base.specs.declared.limits.TheConstants.{MAX_TASKS}
use Rattle.image_open.specs.image_grammar.bc_library.Shelf.{Shelf}
use Rattle.board_command.specs.Boards.{Boards}
use Rattle.mpy_tool.proofs.Acting.{same_others}
use Rattle.mpy_tool.proofs.doing.board_below.Goals as goal

pub returns-in-Ok-clause-went : goal.returns-in-Ok-clause-went
returns-in-Ok-clause-went g c =
    let files = g.F.Folder.files in
    let told = g.S.Sink.told in
    subst (λ (below : Shelf). Boards below c.args.image.now c.args.plan.now (files c.args.folder.now) (files c.board.new.folder) (told c.args.out.now) (told c.board.new.out) c.board.result.place c.board.result.ending)
    c.in-Ok.ensures.below c.board.ensures.went

pub returns-in-Err-clause-went : goal.returns-in-Err-clause-went
returns-in-Err-clause-went g c = inl (record { files = refl; prints = Keeps-refl (g.S.Sink.told c.args.out.now) })

pub returns-in-Err-clause-files : goal.returns-in-Err-clause-files
returns-in-Err-clause-files g c = let old = g.F.Folder.files c.args.folder.now in same_others MAX_TASKS old old refl
