use Rattle.std.proofs.Common.{ℕ, List, map, string_bytes, sym, subst}
use Rattle.mpy_words.specs.declared.order.Command.{Command}
use Rattle.mpy_words.specs.Words.{first_name, main_name}
use Rattle.meant_commands.specs.run_commands.Ready.{GoLibrary, RunLibrary}
use Rattle.mpy_tool.specs.Below.{library_below}
use Rattle.mpy_tool.specs.Doing.{LibraryBy}
use Rattle.mpy_tool.proofs.Under.{is_opened}
use Rattle.mpy_tool.proofs.running.library_of.Goals as goal

pub ready_below-requires : goal.ready_below-requires
ready_below-requires g c = is_opened c.args.below c.args.order.base c.requires.below

pub returns-in-Go-clause-comes : goal.returns-in-Go-clause-comes
returns-in-Go-clause-comes g c =
    let words = map string_bytes c.args.words.now in
    let files = g.F.Folder.files c.args.folder.now in
    subst (λ (command : Command). LibraryBy c.args.order words (library_below c.args.below) command files (first_name words) c.source_ready.result) (sym c.in-Go.is)
    (subst (λ (n : List ℕ). GoLibrary c.args.order.level files n c.source_ready.result) c.word_at-name.ensures c.source_ready.ensures.comes)

pub returns-in-Run-clause-comes : goal.returns-in-Run-clause-comes
returns-in-Run-clause-comes g c =
    let words = map string_bytes c.args.words.now in
    let files = g.F.Folder.files c.args.folder.now in
    let main = main_name words c.args.order.main_name in
    subst (λ (command : Command). LibraryBy c.args.order words (library_below c.args.below) command files (first_name words) c.ready_below.result) (sym c.in-Run.is)
    (subst (λ (n : List ℕ). RunLibrary (library_below c.args.below) main files n c.ready_below.result) c.word_at-name.ensures
    (subst (λ (m : List ℕ). RunLibrary (library_below c.args.below) m files c.word_at-name.result.now c.ready_below.result) c.main_name-main.ensures c.ready_below.ensures.comes))
