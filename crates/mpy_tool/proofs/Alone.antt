-- What single commands did, as the order says it.
use Rattle.std.proofs.Common.{◌≡◌, ℕ, List, Option, Some, None, sym, ap, subst, ◌∙◌}
use Rattle.std.specs.Io.KnownBytes.{Keeps}
use Rattle.mpy_io.specs.Files.{FileOf}
use Rattle.image_open.specs.image_grammar.bc_library.Shelf.{Shelf}
use Rattle.meant_commands.specs.source_files.Sources.{stored}
use Rattle.mpy_words.specs.declared.order.Command.{Command}
use Rattle.mpy_words.specs.declared.order.Command.TheVariants.{Check, CheckAs, Dump, Cross, Merge, Freeze, Migrate, Board}
use Rattle.mpy_words.specs.declared.order.Order.{Order}
use Rattle.mpy_words.specs.Words.{first_name, second_name, source_name, file_names}
use Rattle.mpy_endings.specs.declared.ending.Ending.{Ending}
use Rattle.mpy_endings.specs.Line.{place_in}
use Rattle.board_command.specs.command_files.Folder.{ChangesOnly}
use Rattle.meant_commands.specs.file_commands.Check.{Checks}
use Rattle.meant_commands.specs.file_commands.CheckAs.{ChecksAs}
use Rattle.meant_commands.specs.file_commands.Cross.{Crosses}
use Rattle.meant_commands.specs.file_commands.Dump.{Dumps}
use Rattle.meant_commands.specs.file_commands.Merge.{Merges}
use Rattle.meant_commands.proofs.file_commands_lemmas.Crossed.{crosses_only}
use Rattle.meant_commands.proofs.file_commands_lemmas.Merged.{merges_only}
use Rattle.meant_commands.specs.file_commands.Freeze.{Freezes}
use Rattle.meant_commands.specs.file_commands.Migrate.{Migrates}
use Rattle.meant_commands.proofs.file_commands_lemmas.Freezing.{freezes_only}
use Rattle.meant_commands.proofs.file_commands_lemmas.Migrating.{migrates_only}
use Rattle.board_command.specs.Boards.{Boards}
use Rattle.mpy_tool.specs.Below.{image_version}
use Rattle.mpy_tool.specs.Doing.{DoesBy}
use Rattle.mpy_tool.specs.Order.{ChangesBy}

module _ (order : Order) (words : List (List ℕ)) (below : Shelf) (command : Command) (old new : Option FileOf) (before behind : Option (List ℕ)) (place : ℕ) (ending : Ending) where
  abbrev Did : Command → Type 0
  Did c = DoesBy order words below c old new before behind place ending

  placed : (result : Ending) → ending ≡ result → place ≡ place_in result → place ≡ place_in ending
  placed result r p = p ∙ ap place_in (sym r)

  pub check_did : (result : Ending) (name : List ℕ) → command ≡ Check → name ≡ first_name words → ending ≡ result → place ≡ place_in result → Checks old name result before behind → Did command
  check_did result name e n r p h =
      subst Did (sym e) (subst (λ (x : Ending). Checks old (first_name words) x before behind) (sym r) (subst (λ (m : List ℕ). Checks old m result before behind) n h), placed result r p)

  pub check_as_did : (source file : List ℕ) → command ≡ CheckAs → source ≡ first_name words → file ≡ second_name words → ChecksAs order.level old source file before behind place ending → Did command
  check_as_did source file e n w h =
      let one = subst (λ (m : List ℕ). ChecksAs order.level old m file before behind place ending) n h in
      subst Did (sym e) (subst (λ (m : List ℕ). ChecksAs order.level old (first_name words) m before behind place ending) w one)

  pub dump_did : (result : Ending) (name : List ℕ) → command ≡ Dump → name ≡ first_name words → ending ≡ result → place ≡ place_in result → Dumps old name result before behind → Did command
  dump_did result name e n r p h =
      subst Did (sym e) (subst (λ (x : Ending). Dumps old (first_name words) x before behind) (sym r) (subst (λ (m : List ℕ). Dumps old m result before behind) n h), placed result r p)

  pub cross_did : (result : Ending) (name source written : List ℕ) → command ≡ Cross → name ≡ first_name words → source ≡ source_name words order.stored_name → written ≡ second_name words
      → ending ≡ result → place ≡ place_in result → Crosses order.level name (stored source) written old new result → Keeps before behind → Did command
  cross_did result name source written e n s w r p h k =
      let one = subst (λ (m : List ℕ). Crosses order.level m (stored source) written old new result) n h in
      let two = subst (λ (m : List ℕ). Crosses order.level (first_name words) (stored m) written old new result) s one in
      let three = subst (λ (m : List ℕ). Crosses order.level (first_name words) (stored (source_name words order.stored_name)) m old new result) w two in
      let four = subst (λ (x : Ending). Crosses order.level (first_name words) (stored (source_name words order.stored_name)) (second_name words) old new x) (sym r) three in
      subst Did (sym e) (four, k, placed result r p)

  pub merge_did : (names : List (List ℕ)) (written : List ℕ) → command ≡ Merge → names ≡ file_names words → written ≡ first_name words → Merges names written old new place ending → Keeps before behind → Did command
  merge_did names written e n w h k =
      subst Did (sym e) (subst (λ (m : List ℕ). Merges (file_names words) m old new place ending) w (subst (λ (ns : List (List ℕ)). Merges ns written old new place ending) n h), k)

  pub freeze_did : (result : Ending) (name written : List ℕ) → command ≡ Freeze → name ≡ first_name words → written ≡ second_name words → ending ≡ result → place ≡ place_in result
      → Freezes (image_version order.base) below name written old new result → Keeps before behind → Did command
  freeze_did result name written e n w r p h k =
      let one = subst (λ (m : List ℕ). Freezes (image_version order.base) below m written old new result) n h in
      let two = subst (λ (m : List ℕ). Freezes (image_version order.base) below (first_name words) m old new result) w one in
      subst Did (sym e) (subst (λ (x : Ending). Freezes (image_version order.base) below (first_name words) (second_name words) old new x) (sym r) two, k, placed result r p)

  pub migrate_did : (result : Ending) (name written : List ℕ) → command ≡ Migrate → name ≡ first_name words → written ≡ second_name words → ending ≡ result → place ≡ place_in result
      → Migrates name written old new result → Keeps before behind → Did command
  migrate_did result name written e n w r p h k =
      let one = subst (λ (m : List ℕ). Migrates m written old new result) n h in
      let two = subst (λ (m : List ℕ). Migrates (first_name words) m old new result) w one in
      subst Did (sym e) (subst (λ (x : Ending). Migrates (first_name words) (second_name words) old new x) (sym r) two, k, placed result r p)

  pub board_did : (image plan : List ℕ) → command ≡ Board → image ≡ first_name words → plan ≡ second_name words → Boards below image plan old new before behind place ending → Did command
  board_did image plan e n w h =
      let one = subst (λ (m : List ℕ). Boards below m plan old new before behind place ending) n h in
      subst Did (sym e) (subst (λ (m : List ℕ). Boards below (first_name words) m old new before behind place ending) w one)

-- what was changed
-- ================

module _ (words : List (List ℕ)) (save : Option ℕ) (command : Command) (old new : Option FileOf) where
  abbrev ChangedSo : Command → Type 0
  ChangedSo c = ChangesBy words save c old new

  pub cross_changed : (level : ℕ) (name kept written : List ℕ) (result : Ending) → command ≡ Cross → written ≡ second_name words → Crosses level name kept written old new result → ChangedSo command
  cross_changed level name kept written result e w h = subst ChangedSo (sym e) (subst (ChangesOnly old new) w (crosses_only level name kept written old new result h))

  pub merge_changed : (names : List (List ℕ)) (written : List ℕ) (place : ℕ) (result : Ending) → command ≡ Merge → written ≡ first_name words → Merges names written old new place result → ChangedSo command
  merge_changed names written place result e w h = subst ChangedSo (sym e) (subst (ChangesOnly old new) w (merges_only names written old new place result h))

  pub freeze_changed : (version : ℕ) (below : Shelf) (name written : List ℕ) (result : Ending) → command ≡ Freeze → written ≡ second_name words → Freezes version below name written old new result → ChangedSo command
  freeze_changed version below name written result e w h = subst ChangedSo (sym e) (subst (ChangesOnly old new) w (freezes_only version below name written old new result h))

  pub migrate_changed : (name written : List ℕ) (result : Ending) → command ≡ Migrate → written ≡ second_name words → Migrates name written old new result → ChangedSo command
  migrate_changed name written result e w h = subst ChangedSo (sym e) (subst (ChangesOnly old new) w (migrates_only name written old new result h))
