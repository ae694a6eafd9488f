use Rattle.std.proofs.Common.{refl, subst, sym, ◌∙◌}
use Rattle.std.proofs.KnownBytes.{Keeps-refl}
use Rattle.image_open.specs.image_grammar.bc_library.Shelf.{Shelf, no_entries}
use Rattle.mpy_endings.specs.Ending.{IsRunStatus}
use Rattle.mpy_endings.proofs.Statuses.{none_run, none_unsaved}
use Rattle.board_command.specs.command_files.Images.{RefusesImage}
use Rattle.mpy_tool.specs.Call.{call_of}
use Rattle.mpy_tool.specs.Doing.{ActsBy}
use Rattle.mpy_tool.specs.Order.{base_by}
use Rattle.mpy_tool.proofs.Acting.{acts_again, over_base, at_base}
use Rattle.mpy_tool.proofs.Under.{base_there}
use Rattle.mpy_tool.proofs.top.obey.Goals as goal

pub act-requires-in-Ok-clause-below : goal.act-requires-in-Ok-clause-below
act-requires-in-Ok-clause-below g c = base_there c.args.order.command c.args.order.base c.in-Some.at c.in-Ok.below c.in-Some.ensures c.in-Ok.ensures.opened

pub returns-in-Ok-clause-ended : goal.returns-in-Ok-clause-ended
returns-in-Ok-clause-ended g c =
    let call = call_of g.F.Folder g.S.Sink g.P.Port g.E.Sink c.args.words.now c.args.outside.now c.act-in-Ok.new.outside c.act-in-Ok.result in
    let command = c.args.order.command in
    let folder = c.open_base.new.folder in
    over_base c.args.order call (base_by command c.args.order.base) (λ (below : Shelf). ActsBy c.args.order call below command) c.in-Some.at c.word_at-base.result.now c.in-Ok.below c.in-Some.ensures c.word_at-base.ensures
    c.in-Ok.ensures.holds
    (acts_again c.args.order call c.in-Ok.below command (g.F.Folder.files folder) (g.F.Folder.count folder) c.in-Ok.ensures.files c.in-Ok.ensures.counts c.act-in-Ok.ensures.ended)

pub returns-in-Err-clause-ended : goal.returns-in-Err-clause-ended
returns-in-Err-clause-ended g c =
    let call = call_of g.F.Folder g.S.Sink g.P.Port g.E.Sink c.args.words.now c.args.outside.now (record c.args.outside.now { folder = c.open_base.new.folder; say = c.say_refused.new.say }) c.say_refused.result in
    let command = c.args.order.command in
    at_base c.args.order call (base_by command c.args.order.base) (λ (below : Shelf). ActsBy c.args.order call below command) c.in-Some.at c.word_at-base.result.now c.in-Some.ensures c.word_at-base.ensures
    (record {
      ending = c.in-Err.ending;
      status_is = c.say_refused.ensures.status;
      refused = c.in-Err.ensures.refused;
      files = c.in-Err.ensures.files;
      prints = Keeps-refl call.old.out;
      folder_counts = c.in-Err.ensures.counts;
      out_counts = refl;
      says = c.say_refused.ensures.says;
    })
    refl

pub returns-in-Err-clause-flushed : goal.returns-in-Err-clause-flushed
returns-in-Err-clause-flushed g c = λ s.
    let Refused = RefusesImage no_entries (g.F.Folder.files c.args.outside.now.folder) c.word_at-base.result.now in
    absurd (none_run Refused (λ p. p) (λ p. p) (λ p. p) (λ count p. p) c.in-Err.ending c.in-Err.ensures.refused (subst IsRunStatus c.say_refused.ensures.status s))

pub returns-in-Err-clause-handed_on : goal.returns-in-Err-clause-handed_on
returns-in-Err-clause-handed_on g c = λ s.
    let Refused = RefusesImage no_entries (g.F.Folder.files c.args.outside.now.folder) c.word_at-base.result.now in
    absurd (none_unsaved Refused (λ p. p) c.in-Err.ending c.in-Err.ensures.refused (sym c.say_refused.ensures.status ∙ s))
