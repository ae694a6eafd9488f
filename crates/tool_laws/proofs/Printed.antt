-- What the tasks of a board print is one, and so is what comparing a file prints.
use Rattle.std.proofs.Common.{◌≡◌, ◌⊎◌, inl, inr, ℕ, zero, suc, ◌<◌, Bool, true, false, List, [], ◌∷◌, length, Option, Some, None, refl, sym, ap, ap₂, subst, ◌∙◌, arith}
use Rattle.std.specs.Prelude.{slice_get}
use Rattle.std.specs.List.{concat}
use Rattle.std.specs.Str.{bytes_eq}
use Rattle.std.specs.Io.KnownBytes.{Appends, Keeps}
use Rattle.std.proofs.KnownBytes.{Appends-kept, Appends-nil}
use Rattle.std.proofs.lemmas.Option.{slice_get_within}
use Rattle.mpy_base.specs.declared.kind.Kind.{Kind}
use Rattle.mpy_base.specs.declared.room.Room.{Room}
use Rattle.mpy_base.specs.Val.{Val}
use Rattle.mpy_base.specs.World.{ExceptionObject, Heap}
use Rattle.mpy_io.specs.Files.{FileOf}
use Rattle.mpy_tree.specs.Raw.{Module}
use Rattle.mpy_tree.specs.File.{IsFile}
use Rattle.bc_library.specs.Shelf.{Shelf}
use Rattle.py_effects.specs.Ends as plain
use Rattle.py_effects.specs.Ends.{End, Run}
use Rattle.image_open.specs.Opens.{IsOpenedOf}
use Rattle.vm_starting.specs.vm_states.Means.{Program}
use Rattle.vm_starting.specs.Programs.{IsProgramOf, IsRunnable}
use Rattle.board_plan.specs.declared.plan.Plan.{Plan}
use Rattle.board_plan.specs.declared.plan.Task.{Task}
use Rattle.board_command.specs.board_files.board_tasks.declared.ending.TaskEnd.{TaskEnd}
use Rattle.board_command.specs.board_files.board_tasks.declared.ending.TaskEnd.TheVariants as ends
use Rattle.board_command.specs.board_files.board_tasks.Ends.{Ends, IsOfKind, RunEnds, UsesRoom}
use Rattle.board_command.specs.board_files.Files.{IsNoOutput, out_name}
use Rattle.board_command.specs.board_files.Summaries.{HasRun, SaysRun, Summarizes, run_in, task_line}
use Rattle.mpy_endings.specs.declared.ending.Ending.{Ending}
use Rattle.mpy_endings.specs.declared.ending.Ending.TheVariants.{Done, Unaccepted, Unread, Unverified, Unmerged, Unopened, Unfrozen, Unboarded, Different, Stopped, ReadFault, WriteFault, Unwritten, NoMemory, Absent}
use Rattle.mpy_endings.specs.declared.ending.BoardFault.TheVariants as boards
use Rattle.mpy_endings.specs.Ending.{IsSettled}
use Rattle.meant_commands.specs.file_commands.Check.{count_of}
use Rattle.meant_commands.specs.file_commands.CheckAs.{ChecksAs, HoldsTranslation, translation_line}
use Rattle.board_command.specs.Boards.{Boards, Untouched}
use Rattle.tool_laws.specs.Laws.{FileLaws, ImageLaws, PlanLaws, SourceLaws}
use Rattle.tool_laws.specs.Outputs.{PrintOne}
use Rattle.tool_laws.proofs.Boards.{one_board, one_plan}
use Rattle.tool_laws.proofs.CheckedAs.{one_check_as}
use Rattle.tool_laws.proofs.ImageFiles.{one_library}
use Rattle.tool_laws.proofs.Members.{apart, same_name}
use Rattle.tool_laws.proofs.Opened.{same_content}

-- nothing was printed
-- ===================

nothing : (before behind : Option (List ℕ)) → Keeps before behind → Appends before behind []
nothing before behind kept = Appends-kept before before behind [] (Appends-nil before) kept

none_printed : (before behind printed after : Option (List ℕ)) → Keeps before behind → Keeps printed after → PrintOne before behind printed after
none_printed before behind printed after kept stays = record { text = []; one = nothing before behind kept; other = nothing printed after stays }

-- the summary
-- ===========

same_lines : (xs ys : List (List ℕ)) → length xs ≡ length ys
    → ((i : ℕ) (x y : List ℕ) → slice_get xs i ≡ Some x → slice_get ys i ≡ Some y → x ≡ y) → xs ≡ ys
same_lines [] [] e h = refl
same_lines [] (y ∷ ys) e h = absurd (omega (arith, e))
same_lines (x ∷ xs) [] e h = absurd (omega (arith, e))
same_lines (x ∷ xs) (y ∷ ys) e h =
    ap₂ (λ (z : List ℕ) (zs : List (List ℕ)). z ∷ zs) (h 0 x y refl refl) (same_lines xs ys (omega (arith, e)) (λ i. h (suc i)))

task_at : (tasks : List Task) (i : ℕ) → i < length tasks → (task : Task) × (slice_get tasks i ≡ Some task)
task_at [] i less = absurd (omega (arith, less))
task_at (task ∷ tasks) zero less = (task, refl)
task_at (task ∷ tasks) (suc i) less = task_at tasks i (omega (arith, less))

one_kind : (heap : Heap Val (List ℕ)) (x : ℕ) (k l : Kind) → IsOfKind heap x k → IsOfKind heap x l → k ≡ l
one_kind heap x k l p q =
    let both : Some (ExceptionObject k p.args p.file p.line p.name) ≡ Some (ExceptionObject l q.args q.file q.line q.name) = sym p.is ∙ q.is in cc

one_end : (heap : Heap Val (List ℕ)) (end : End) (a b : Option TaskEnd) → Ends heap end a → Ends heap end b → a ≡ b
one_end heap plain.Open a b p q = p ∙ sym q
one_end heap plain.Ended a b p q = p ∙ sym q
one_end heap (plain.Raised x) a b p q = p.2 ∙ (ap (λ (k : Kind). Some (ends.Raised k)) (one_kind heap x p.0 q.0 p.1 q.1) ∙ sym q.2)
one_end heap (plain.Memory room) a b p q = p ∙ sym q

same_room : (a b : Room) → a.cells ≡ b.cells → a.bytes ≡ b.bytes → a ≡ b
same_room a b cells bytes = λ i. record { cells = cells i; bytes = bytes i }

one_room : (heap : Heap Val (List ℕ)) (a b : Room) → UsesRoom heap a → UsesRoom heap b → a ≡ b
one_room heap a b p q = same_room a b (p.cells ∙ sym q.cells) (p.bytes ∙ sym q.bytes)

one_line : (number : ℕ) (run : Run) (x y : List ℕ) → SaysRun number run x → SaysRun number run y → x ≡ y
one_line number run x y p q =
    let end = one_end run.world.heap run.end p.end q.end p.ends q.ends in
    let room = one_room run.world.heap p.room q.room p.uses q.uses in
    p.is ∙ (ap₂ (λ (e : Option TaskEnd) (r : Room). task_line number e r) end room ∙ sym q.is)

one_summary : (p : Program) (plan : Plan) (a b : List ℕ) → Summarizes p plan a → Summarizes p plan b → a ≡ b
one_summary p plan a b h k = h.text_is ∙ (ap concat (same_lines h.lines k.lines (h.as_many ∙ sym k.as_many) each) ∙ sym k.text_is)
  where
    each : (i : ℕ) (x y : List ℕ) → slice_get h.lines i ≡ Some x → slice_get k.lines i ≡ Some y → x ≡ y
    each i x y at there =
        let task = task_at plan.tasks i (subst (λ (n : ℕ). i < n) h.as_many (slice_get_within h.lines i x at)) in
        one_line i (run_in p plan i task.0) x y (h.each i task.0 x task.1 at) (k.each i task.0 y task.1 there)

-- the files
-- =========

last_or : (k n : ℕ) → k < suc n → (k < n) ⊎ (k ≡ n)
last_or zero zero less = inr refl
last_or zero (suc n) less = inl (omega (arith, less))
last_or (suc k) zero less = absurd (omega (arith, less))
last_or (suc k) (suc n) less = elim (last_or k n (omega (arith, less))) [ inl h ↦ inl (omega (arith, h)) | inr h ↦ inr (ap suc h) ]

-- the name is that of a task's output, or of none
abbrev IsOutput : (count : ℕ) (name : List ℕ) → Type 0
IsOutput count name = (task : ℕ) × (task < count) × (name ≡ out_name task)

output_or : (count : ℕ) (name : List ℕ) → IsOutput count name ⊎ IsNoOutput count name
output_or zero name = inr (λ task less is. omega (arith, less))
output_or (suc count) name = by (bytes_eq name (out_name count)) refl (output_or count name)
  where
    by : (is : Bool) → bytes_eq name (out_name count) ≡ is → IsOutput count name ⊎ IsNoOutput count name
        → IsOutput (suc count) name ⊎ IsNoOutput (suc count) name
    by true e others = inl (count, omega arith, same_name name (out_name count) e)
    by false e (inl x) = let less = x.1 in inl (x.0, omega (arith, less), x.2)
    by false e (inr none) = inr (λ task less is. elim (last_or task count less) [
      | inl h ↦ none task h is
      | inr h ↦ apart name (out_name count) e (is ∙ ap out_name h)
    ])

module _ (p : Program) (plan : Plan) (old a b : FileOf) (before behind printed after : Option (List ℕ)) (h : HasRun p plan old a before behind) (k : HasRun p plan old b printed after) where
  same_file : (name : List ℕ) → a name ≡ b name
  same_file name = elim (output_or (length plan.tasks) name) [
    | inl x ↦ let task = task_at plan.tasks x.0 x.1 in
        subst (λ (z : List ℕ). a z ≡ b z) (sym x.2) (h.outputs x.0 task.0 task.1 ∙ sym (k.outputs x.0 task.0 task.1))
    | inr none ↦ h.others name none ∙ sym (k.others name none)
  ]

  same_files : a ≡ b
  same_files = λ i name. same_file name i

  one_printed : PrintOne before behind printed after
  one_printed = record {
    text = h.summary;
    one = h.added;
    other = subst (λ (t : List ℕ). Appends printed after t) (one_summary p plan k.summary h.summary k.summarizes h.summarizes) k.added;
  }

-- the board
-- =========

-- where a plan ran on files that a folder tells, it left these, and printed one text
abbrev Alike : (new_a new_b : Option FileOf) (before behind printed after : Option (List ℕ)) → Type 0
Alike new_a new_b before behind printed after = (new_a ≡ new_b) × PrintOne before behind printed after

module _ (of_images : ImageLaws) (of_plans : PlanLaws) (exists : (shelf : Shelf) → IsRunnable shelf → (p : Program) × IsProgramOf shelf p)
    (opened : List (List ℕ)) (below : Shelf) (is_opened : IsOpenedOf opened below) (image plan_name : List ℕ) (files : FileOf)
    (new_a new_b : Option FileOf) (before behind printed after : Option (List ℕ)) (place another : ℕ) where
  abbrev One : Ending → Type 0
  One ending = Boards below image plan_name (Some files) new_a before behind place ending

  abbrev Other : Ending → Type 0
  Other ending = Boards below image plan_name (Some files) new_b printed after another ending

  untouched : Untouched (Some files) new_a before behind → Untouched (Some files) new_b printed after → Alike new_a new_b before behind printed after
  untouched p q = (p.files ∙ sym q.files, none_printed before behind printed after p.prints q.prints)

  both_ran : One Done → Other Done → Alike new_a new_b before behind printed after
  both_ran p q =
      let shelf = one_library of_images opened below is_opened files image p.0 q.0 p.2.holds.opened q.2.holds.opened in
      let plan = one_plan of_plans files plan_name p.1 q.1 p.2.holds.planned q.2.holds.planned in
      let program = exists q.0 q.2.holds.runnable in
      let x = p.3 program.0 (subst (λ (s : Shelf). IsProgramOf s program.0) (sym shelf) program.1) in
      let y = q.3 program.0 program.1 in
      let ran = subst (λ (z : Plan). HasRun program.0 z files x.0 before behind) plan x.2 in
      let same = same_files program.0 q.1 files x.0 y.0 before behind printed after ran y.2 in
      (x.1 ∙ (ap (λ (f : FileOf). Some f) same ∙ sym y.1), one_printed program.0 q.1 files x.0 y.0 before behind printed after ran y.2)

  alike_at : (ending : Ending) → IsSettled ending → One ending → Other ending → Alike new_a new_b before behind printed after
  alike_at Done s p q = both_ran p q
  alike_at (Unaccepted fault) s p q = absurd p
  alike_at (Unread fault) s p q = untouched p.1 q.1
  alike_at (Unverified fault) s p q = absurd p
  alike_at (Unmerged fault) s p q = absurd p
  alike_at (Unopened fault) s p q = untouched p.1 q.1
  alike_at (Unfrozen fault) s p q = absurd p
  alike_at (Unboarded (boards.Plan fault)) s p q = untouched p.1 q.1
  alike_at (Unboarded (boards.NoModule missing)) s p q = untouched p.5 q.5
  alike_at (Unboarded (boards.Unwritten task)) s p q = absurd cc
  alike_at (Different difference) s p q = absurd p
  alike_at (Stopped stop) s p q = absurd p
  alike_at ReadFault s p q = absurd s
  alike_at WriteFault s p q = absurd s
  alike_at Unwritten s p q = absurd p
  alike_at NoMemory s p q = absurd s
  alike_at Absent s p q = untouched p.1 q.1

  pub alike_boards : (one other : Ending) → IsSettled one → IsSettled other → One one → Other other → Alike new_a new_b before behind printed after
  alike_boards one other s t p q =
      let same = one_board of_images of_plans opened below is_opened image plan_name files new_a new_b before behind printed after place another one other s t p q in
      alike_at one s p (subst Other (sym same) q)

-- comparing
-- =========

module _ (laws : FileLaws) (own : SourceLaws) (level : ℕ) (files : FileOf) (source file : List ℕ) where
  one_count : (a b : ℕ) → HoldsTranslation level (Some files) source file a → HoldsTranslation level (Some files) source file b → a ≡ b
  one_count a b h k =
      let bytes = same_content (files file) h.bytes k.bytes h.has_file k.has_file in
      let m = h.is.compares.is_have.0 in
      let n = k.is.compares.is_have.0 in
      let same = laws.one_module k.bytes m n (subst (λ (z : List ℕ). IsFile z m) bytes h.is.compares.is_have.1) k.is.compares.is_have.1 in
      h.count_is ∙ (ap (λ (z : Module). count_of z) same ∙ sym k.count_is)

  module _ (before behind printed after : Option (List ℕ)) (place another : ℕ) where
    abbrev Checked : Ending → Type 0
    Checked ending = ChecksAs level (Some files) source file before behind place ending

    abbrev Again : Ending → Type 0
    Again ending = ChecksAs level (Some files) source file printed after another ending

    checked_at : (ending : Ending) → IsSettled ending → Checked ending → Again ending → PrintOne before behind printed after
    checked_at Done s p q = record {
      text = translation_line p.0;
      one = p.2;
      other = subst (λ (n : ℕ). Appends printed after (translation_line n)) (one_count q.0 p.0 q.1 p.1) q.2;
    }
    checked_at (Unaccepted fault) s p q = none_printed before behind printed after p.2 q.2
    checked_at (Unread fault) s p q = none_printed before behind printed after p.3 q.3
    checked_at (Unverified fault) s p q = absurd p
    checked_at (Unmerged fault) s p q = absurd p
    checked_at (Unopened fault) s p q = absurd p
    checked_at (Unfrozen fault) s p q = absurd p
    checked_at (Unboarded fault) s p q = absurd p
    checked_at (Different difference) s p q = none_printed before behind printed after p.2 q.2
    checked_at (Stopped stop) s p q = absurd p
    checked_at ReadFault s p q = absurd s
    checked_at WriteFault s p q = absurd s
    checked_at Unwritten s p q = absurd p
    checked_at NoMemory s p q = absurd s
    checked_at Absent s p q = none_printed before behind printed after p.1 q.1

    pub one_checked : (one other : Ending) → IsSettled one → IsSettled other → Checked one → Again other → PrintOne before behind printed after
    one_checked one other s t p q =
        let same = one_check_as laws own level files source file before behind printed after place another one other s t p q in
        checked_at one s p (subst Again (sym same) q)
