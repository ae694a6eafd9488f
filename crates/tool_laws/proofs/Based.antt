-- Calls over a base.
use Rattle.std.proofs.Common.{◌≡◌, inl, inr, ℕ, List, [], ◌∷◌, Option, Some, refl, sym, ap, subst, ◌∙◌}
use Rattle.mpy_base.specs.World.{PortState}
use Rattle.mpy_io.specs.Files.{FileOf}
use Rattle.mpy_io.specs.Ports.{PortView}
use Rattle.bc_library.specs.Shelf.{Shelf, no_entries}
use Rattle.image_open.specs.Opens.{IsOpenedOf}
use Rattle.mpy_endings.specs.Ending.{status_of}
use Rattle.command_files.specs.Images.{HoldsImage, RefusesImage}
use Rattle.command_files.specs.Outside.{Outside}
use Rattle.command_files.specs.Over.{EndsAtBase}
use Rattle.tool_laws.specs.Laws.{ImageLaws}
use Rattle.tool_laws.specs.Once.{IsSettledStatus, OneStatus, OverBase, Settled}
use Rattle.tool_laws.specs.Runs.{Going, OnFiles, OneRunStatus, RunOver, SettledRun}
use Rattle.tool_laws.proofs.ImageFiles.{NoImage, never_no_image, no_image, one_library, one_no_image}
use Rattle.tool_laws.proofs.Settling.{settled_by}

module _ (laws : ImageLaws) (files : FileOf) (base : List ℕ) where
  -- the base isn't opened
  stopped : (status : ℕ) (old new : Outside) → old.files ≡ Some files → IsSettledStatus status → (x : EndsAtBase base old new status) → NoImage no_entries files base x.ending
  stopped status old new tells settled x =
      no_image no_entries files base x.ending (settled_by x.ending status x.status_is settled) (subst (λ (f : Option FileOf). RefusesImage no_entries f base x.ending) tells x.refused)

  held : (f : Option FileOf) (shelf : Shelf) → f ≡ Some files → HoldsImage no_entries f base shelf → HoldsImage no_entries (Some files) base shelf
  held f shelf tells h = subst (λ (g : Option FileOf). HoldsImage no_entries g base shelf) tells h

  both_stopped : (one other : ℕ) (old new seen after : Outside) → old.files ≡ Some files → seen.files ≡ Some files → IsSettledStatus one → IsSettledStatus other
      → EndsAtBase base old new one → EndsAtBase base seen after other → one ≡ other
  both_stopped one other old new seen after tells too s t a b =
      a.status_is
      ∙ (ap status_of (one_no_image laws [] no_entries refl files base a.ending b.ending (stopped one old new tells s a) (stopped other seen after too t b)) ∙ sym b.status_is)

  never_stopped : (status : ℕ) (old new : Outside) (f : Option FileOf) (shelf : Shelf) → old.files ≡ Some files → f ≡ Some files → IsSettledStatus status
      → EndsAtBase base old new status → HoldsImage no_entries f base shelf → ⊥
  never_stopped status old new f shelf tells too s a h =
      never_no_image laws [] no_entries refl files base shelf a.ending (held f shelf too h) (stopped status old new tells s a)

  same_below : (f g : Option FileOf) (below shelf : Shelf) → f ≡ Some files → g ≡ Some files → HoldsImage no_entries f base below → HoldsImage no_entries g base shelf → below ≡ shelf
  same_below f g below shelf tells too h k = one_library laws [] no_entries refl files base below shelf (held f below tells h) (held g shelf too k)

  module _ (Went : (below : Shelf) → (old new : Outside) → (status : ℕ) → Type 0)
      (once : (opened : List (List ℕ)) (below : Shelf) → IsOpenedOf opened below → OneStatus (Went below) files) where
    both_over : (one other : ℕ) (x : Settled (OverBase base Went) files one) (y : Settled (OverBase base Went) files other) → OverBase base Went x.old x.new one
        → OverBase base Went y.old y.new other → one ≡ other
    both_over one other x y (inl a) (inl b) = both_stopped one other x.old x.new y.old y.new x.tells y.tells x.settled y.settled a b
    both_over one other x y (inl a) (inr v) = absurd (never_stopped one x.old x.new y.old.files v.below x.tells y.tells x.settled a v.holds)
    both_over one other x y (inr w) (inl b) = absurd (never_stopped other y.old y.new x.old.files w.below y.tells x.tells y.settled b w.holds)
    both_over one other x y (inr w) (inr v) =
        let same = same_below x.old.files y.old.files w.below v.below x.tells y.tells w.holds v.holds in
        once (v.holds.bytes ∷ []) v.below (no_entries, refl, v.holds.opens) one other
        (record { old = x.old; new = x.new; tells = x.tells; went = subst (λ (below : Shelf). Went below x.old x.new one) same w.went; settled = x.settled })
        (record { old = y.old; new = y.new; tells = y.tells; went = v.went; settled = y.settled })

    pub over_once : OneStatus (OverBase base Went) files
    over_once one other x y = both_over one other x y x.went y.went

  module _ (Went : (below : Shelf) → Going) (once : (opened : List (List ℕ)) (below : Shelf) → IsOpenedOf opened below → OneRunStatus (OnFiles files (Went below))) where
    both_run_over : (printed : List ℕ) (ports : List PortView) (states : List PortState) (one other : ℕ) (x : SettledRun (OnFiles files (RunOver base Went)) printed ports states one)
        (y : SettledRun (OnFiles files (RunOver base Went)) printed ports states other) → RunOver base Went x.old x.new ports x.ports_new one → RunOver base Went y.old y.new ports y.ports_new other
        → one ≡ other
    both_run_over printed ports states one other x y (inl a) (inl b) = both_stopped one other x.old x.new y.old y.new x.went.0 y.went.0 x.settled y.settled a.0 b.0
    both_run_over printed ports states one other x y (inl a) (inr v) = absurd (never_stopped one x.old x.new y.old.files v.below x.went.0 y.went.0 x.settled a.0 v.holds)
    both_run_over printed ports states one other x y (inr w) (inl b) = absurd (never_stopped other y.old y.new x.old.files w.below y.went.0 x.went.0 y.settled b.0 w.holds)
    both_run_over printed ports states one other x y (inr w) (inr v) =
        let same = same_below x.old.files y.old.files w.below v.below x.went.0 y.went.0 w.holds v.holds in
        once (v.holds.bytes ∷ []) v.below (no_entries, refl, v.holds.opens) printed ports states one other
        (record {
          old = x.old;
          new = x.new;
          ports_new = x.ports_new;
          out = x.out;
          told = x.told;
          accounted = x.accounted;
          went = (x.went.0, subst (λ (below : Shelf). Went below x.old x.new ports x.ports_new one) same w.went);
          settled = x.settled;
        })
        (record {
          old = y.old;
          new = y.new;
          ports_new = y.ports_new;
          out = y.out;
          told = y.told;
          accounted = y.accounted;
          went = (y.went.0, v.went);
          settled = y.settled;
        })

    pub run_over_once : OneRunStatus (OnFiles files (RunOver base Went))
    run_over_once printed ports states one other x y = both_run_over printed ports states one other x y x.went.1 y.went.1
