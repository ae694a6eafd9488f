-- The command that runs the tasks of a plan.
use Rattle.std.proofs.Common.{◌≡◌, ◌⊎◌, inl, inr, ℕ, List, Option, Some, None, refl, sym, ap, subst, ◌∙◌}
use Rattle.mpy_io.specs.Files.{FileOf}
use Rattle.bc_library.specs.Shelf.{Shelf}
use Rattle.image_open.specs.Opens.{IsOpenedOf}
use Rattle.board_plan.specs.declared.plan.Plan.{Plan}
use Rattle.board_plan.specs.declared.plan.PlanFault.{PlanFault}
use Rattle.board_plan.specs.declared.plan.PlanFault.TheVariants.{BadLine}
use Rattle.board_plan.specs.Lines.{lines_of}
use Rattle.board_plan.specs.Plans.{IsPlan, HasFault}
use Rattle.board_command.specs.board_files.board_tasks.Opened.{first_missing}
use Rattle.mpy_endings.specs.declared.ending.Ending.{Ending}
use Rattle.mpy_endings.specs.declared.ending.Ending.TheVariants.{Done, Unaccepted, Unread, Unverified, Unmerged, Unopened, Unfrozen, Unboarded, Different, Stopped, ReadFault, WriteFault, Unwritten, NoMemory, Absent}
use Rattle.mpy_endings.specs.declared.ending.BoardFault.TheVariants as boards
use Rattle.mpy_endings.specs.Ending.{IsSettled}
use Rattle.command_files.specs.Images.{HoldsImage}
use Rattle.board_command.specs.Boards.{Boards, IsRefused}
use Rattle.board_command.specs.Plans.{HoldsPlan, HoldsNoPlan, RefusesPlan}
use Rattle.tool_laws.specs.Laws.{ImageLaws, PlanLaws}
use Rattle.tool_laws.specs.Once.{EndOnce, IsDone}
use Rattle.tool_laws.proofs.ImageFiles.{AtLong, NoImage, never_long, never_no_image, no_image, one_library, one_no_image}
use Rattle.tool_laws.proofs.Opened.{AtAbsent, none_there, same_content}

-- the plan
-- ========

-- the file is no plan, for this fault, or is too long to be read, or isn't there
abbrev NoPlan : (files : FileOf) (name : List ℕ) → Ending → Type 0
NoPlan files name ending =
    ((fault : PlanFault) × (ending ≡ Unboarded (boards.Plan fault)) × HoldsNoPlan (Some files) name fault)
    ⊎ (AtLong files name (Unboarded (boards.Plan (BadLine 1))) ending ⊎ AtAbsent files name ending)

no_plan : (files : FileOf) (name : List ℕ) (ending : Ending) → IsSettled ending → RefusesPlan (Some files) name ending → NoPlan files name ending
no_plan files name Done s p = absurd p
no_plan files name (Unaccepted fault) s p = absurd p
no_plan files name (Unread fault) s p = absurd p
no_plan files name (Unverified fault) s p = absurd p
no_plan files name (Unmerged fault) s p = absurd p
no_plan files name (Unopened fault) s p = absurd p
no_plan files name (Unfrozen fault) s p = absurd p
no_plan files name (Unboarded (boards.Plan fault)) s (inl p) = inl (fault, refl, p)
no_plan files name (Unboarded (boards.Plan fault)) s (inr p) =
    inr (inl (record { is = ap (λ (f : PlanFault). Unboarded (boards.Plan f)) p.0; bytes = p.1.0; at = p.1.1; long = p.1.2 }))
no_plan files name (Unboarded (boards.NoModule missing)) s p = absurd p
no_plan files name (Unboarded (boards.Unwritten task)) s p = absurd p
no_plan files name (Different difference) s p = absurd p
no_plan files name (Stopped stop) s p = absurd p
no_plan files name ReadFault s p = absurd s
no_plan files name WriteFault s p = absurd p
no_plan files name Unwritten s p = absurd p
no_plan files name NoMemory s p = absurd s
no_plan files name Absent s p = inr (inr (record { is = refl; at = p }))

module _ (laws : PlanLaws) (files : FileOf) (name : List ℕ) where
  pub one_plan : (a b : Plan) → HoldsPlan (Some files) name a → HoldsPlan (Some files) name b → a ≡ b
  one_plan a b h k =
      let bytes = same_content (files name) h.bytes k.bytes h.holds k.holds in
      laws.one (lines_of k.bytes) a b (subst (λ (z : List ℕ). IsPlan (lines_of z) a) bytes h.is_plan) k.is_plan

  never_no_plan : (plan : Plan) (ending : Ending) → HoldsPlan (Some files) name plan → NoPlan files name ending → ⊥
  never_no_plan plan ending h (inl x) =
      let bytes = same_content (files name) h.bytes x.2.bytes h.holds x.2.holds in
      laws.not_both (lines_of x.2.bytes) plan x.0 (subst (λ (z : List ℕ). IsPlan (lines_of z) plan) bytes h.is_plan) x.2.has
  never_no_plan plan ending h (inr (inl x)) = never_long (files name) h.bytes x.bytes h.holds x.at h.short x.long
  never_no_plan plan ending h (inr (inr x)) = none_there (files name) h.bytes x.at h.holds

  one_no_plan : (one other : Ending) → NoPlan files name one → NoPlan files name other → one ≡ other
  one_no_plan one other (inl x) (inl y) =
      let bytes = same_content (files name) x.2.bytes y.2.bytes x.2.holds y.2.holds in
      let has = subst (λ (z : List ℕ). HasFault (lines_of z) x.0) bytes x.2.has in
      x.1 ∙ (ap (λ (f : PlanFault). Unboarded (boards.Plan f)) (laws.one_fault (lines_of y.2.bytes) x.0 y.0 has y.2.has) ∙ sym y.1)
  one_no_plan one other (inl x) (inr (inl y)) = absurd (never_long (files name) x.2.bytes y.bytes x.2.holds y.at x.2.short y.long)
  one_no_plan one other (inl x) (inr (inr y)) = absurd (none_there (files name) x.2.bytes y.at x.2.holds)
  one_no_plan one other (inr (inl x)) (inl y) = absurd (never_long (files name) y.2.bytes x.bytes y.2.holds x.at y.2.short x.long)
  one_no_plan one other (inr (inl x)) (inr (inl y)) = x.is ∙ sym y.is
  one_no_plan one other (inr (inl x)) (inr (inr y)) = absurd (none_there (files name) x.bytes y.at x.at)
  one_no_plan one other (inr (inr x)) (inl y) = absurd (none_there (files name) y.2.bytes x.at y.2.holds)
  one_no_plan one other (inr (inr x)) (inr (inl y)) = absurd (none_there (files name) y.bytes x.at y.at)
  one_no_plan one other (inr (inr x)) (inr (inr y)) = x.is ∙ sym y.is

-- the board
-- =========

-- the tasks can start, or the library lacks the module of this name
abbrev start_end : Option (List ℕ) → Ending
start_end None = Done
start_end (Some name) = Unboarded (boards.NoModule name)

module _ (of_images : ImageLaws) (of_plans : PlanLaws) (opened : List (List ℕ)) (below : Shelf) (is_opened : IsOpenedOf opened below) (image plan_name : List ℕ) (files : FileOf) where
  record Holding (shelf : Shelf) (plan : Plan) : Type 0 where
    held : HoldsImage below (Some files) image shelf
    planned : HoldsPlan (Some files) plan_name plan

  -- the image is refused, or the plan, or both are there
  abbrev BoardedSo : Ending → Type 0
  BoardedSo ending =
      NoImage below files image ending
      ⊎ (((shelf : Shelf) × HoldsImage below (Some files) image shelf × NoPlan files plan_name ending)
      ⊎ ((shelf : Shelf) × (plan : Plan) × Holding shelf plan × (ending ≡ start_end (first_missing shelf plan.tasks))))

  refused_so : (place : ℕ) (ending : Ending) → IsSettled ending → IsRefused below image plan_name (Some files) place ending → BoardedSo ending
  refused_so place ending s (inl p) = inl (no_image below files image ending s p.0)
  refused_so place ending s (inr p) = inr (inl (p.0, p.1, no_plan files plan_name ending s p.2))

  boarded_so : (new : Option FileOf) (before behind : Option (List ℕ)) (place : ℕ) (ending : Ending) → IsSettled ending
      → Boards below image plan_name (Some files) new before behind place ending → BoardedSo ending
  boarded_so new before behind place Done s p =
      inr (inr (p.0, p.1, record { held = p.2.holds.opened; planned = p.2.holds.planned }, ap start_end (sym p.2.modules)))
  boarded_so new before behind place (Unaccepted fault) s p = absurd p
  boarded_so new before behind place (Unread fault) s p = refused_so place (Unread fault) s p.0
  boarded_so new before behind place (Unverified fault) s p = absurd p
  boarded_so new before behind place (Unmerged fault) s p = absurd p
  boarded_so new before behind place (Unopened fault) s p = refused_so place (Unopened fault) s p.0
  boarded_so new before behind place (Unfrozen fault) s p = absurd p
  boarded_so new before behind place (Unboarded (boards.Plan fault)) s p = refused_so place (Unboarded (boards.Plan fault)) s p.0
  boarded_so new before behind place (Unboarded (boards.NoModule missing)) s p =
      inr (inr (p.0, p.1, record { held = p.2.opened; planned = p.2.planned }, ap start_end (sym p.3)))
  boarded_so new before behind place (Unboarded (boards.Unwritten task)) s p = absurd cc
  boarded_so new before behind place (Different difference) s p = absurd p
  boarded_so new before behind place (Stopped stop) s p = absurd p
  boarded_so new before behind place ReadFault s p = absurd s
  boarded_so new before behind place WriteFault s p = absurd s
  boarded_so new before behind place Unwritten s p = absurd p
  boarded_so new before behind place NoMemory s p = absurd s
  boarded_so new before behind place Absent s p = refused_so place Absent s p.0

  both_boarded : (one other : Ending) → BoardedSo one → BoardedSo other → one ≡ other
  both_boarded one other (inl x) (inl y) = one_no_image of_images opened below is_opened files image one other x y
  both_boarded one other (inl x) (inr (inl y)) = absurd (never_no_image of_images opened below is_opened files image y.0 one y.1 x)
  both_boarded one other (inl x) (inr (inr y)) = absurd (never_no_image of_images opened below is_opened files image y.0 one y.2.held x)
  both_boarded one other (inr (inl x)) (inl y) = absurd (never_no_image of_images opened below is_opened files image x.0 other x.1 y)
  both_boarded one other (inr (inl x)) (inr (inl y)) = one_no_plan of_plans files plan_name one other x.2 y.2
  both_boarded one other (inr (inl x)) (inr (inr y)) = absurd (never_no_plan of_plans files plan_name y.1 one y.2.planned x.2)
  both_boarded one other (inr (inr x)) (inl y) = absurd (never_no_image of_images opened below is_opened files image x.0 other x.2.held y)
  both_boarded one other (inr (inr x)) (inr (inl y)) = absurd (never_no_plan of_plans files plan_name x.1 other x.2.planned y.2)
  both_boarded one other (inr (inr x)) (inr (inr y)) =
      let shelf = one_library of_images opened below is_opened files image x.0 y.0 x.2.held y.2.held in
      let plan = one_plan of_plans files plan_name x.1 y.1 x.2.planned y.2.planned in
      x.3 ∙ (ap (λ (s : Shelf). start_end (first_missing s x.1.tasks)) shelf ∙ (ap (λ (z : Plan). start_end (first_missing y.0 z.tasks)) plan ∙ sym y.3))

  pub one_board : (a b : Option FileOf) (before behind printed after : Option (List ℕ)) (place another : ℕ)
      → EndOnce (Boards below image plan_name (Some files) a before behind place) (Boards below image plan_name (Some files) b printed after another)
  one_board a b before behind printed after place another = λ one other s t p q.
      both_boarded one other (boarded_so a before behind place one s p) (boarded_so b printed after another other t q)

  pub board_done : (new : Option FileOf) (before behind : Option (List ℕ)) (place : ℕ) (shelf : Shelf) (plan : Plan)
      → HoldsImage below (Some files) image shelf → HoldsPlan (Some files) plan_name plan → first_missing shelf plan.tasks ≡ None
      → IsDone (Boards below image plan_name (Some files) new before behind place)
  board_done new before behind place shelf plan held planned none = λ ending s p.
      both_boarded ending Done (boarded_so new before behind place ending s p)
      (inr (inr (shelf, plan, record { held = held; planned = planned }, ap start_end (sym none))))
