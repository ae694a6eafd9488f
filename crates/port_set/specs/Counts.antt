-- Counts of faults, before and behind calls of ports.
use Rattle.std.specs.Prelude.{◌≡◌, ◌⊎◌, ℕ, zero, suc, ◌+◌, ◌-◌, ◌^◌, ◌<◌, ◌≤◌, List, [], ◌∷◌, map, Option, Some, None, nat_eq, slice_get, if◌then◌else◌}
use Rattle.std.specs.List.{list_any}
use Rattle.mpy_io.specs.mpy_base.World.{PortState}
use Rattle.mpy_io.specs.Ports.{PortView}

-- how many of the calls below a number are among those that fail
abbrev pub failing_below : (failing : List ℕ) → ℕ → ℕ
failing_below failing zero = 0
failing_below failing (suc call) = if list_any (nat_eq call) failing then suc (failing_below failing call) else failing_below failing call

-- how many of the calls that were made are among those that fail: the faults that the port tells
abbrev pub told_faults : PortState → ℕ
told_faults port = failing_below port.failing port.calls

-- the end of a count's type, where it stands still
abbrev pub IsFull : ℕ → Type 0
IsFull count = 2 ^ 64 - 1 ≤ count

-- where the port tells its contents, its count rose by the faults that it tells and by this many more
abbrev pub RisesWithTold : (more : ℕ) → (old new : Option PortState) → (old_count new_count : ℕ) → Type 0
RisesWithTold more None new old_count new_count = Unit {0}
RisesWithTold more (Some before) None old_count new_count = ⊥
RisesWithTold more (Some before) (Some after) old_count new_count = old_count + more + told_faults after ≤ new_count + told_faults before

-- the count of faults is greater by this many at least, beside the faults that the port tells
pub record IsGreater (more : ℕ) (old new : PortView) : Type 0 where
  pub count : old.count + more ≤ new.count
  pub told : RisesWithTold more old.told new.told old.count new.count

-- it is, or stands at the end of its type
abbrev pub Rises : (more : ℕ) → (old new : PortView) → Type 0
Rises more old new = IsGreater more old new ⊎ IsFull new.count

-- there are as many ports, and no port's count of faults fell
abbrev pub CountsKeep : (old new : List PortView) → Type 0
CountsKeep [] [] = Unit {0}
CountsKeep [] (after ∷ new) = ⊥
CountsKeep (before ∷ old) [] = ⊥
CountsKeep (before ∷ old) (after ∷ new) = Rises 0 before after × CountsKeep old new

-- the count of faults of the port of this number rose, and by more than the faults that the port tells
pub record RoseBeyond (number : ℕ) (old new : List PortView) : Type 0 where
  pub before : PortView
  pub after : PortView
  pub was : slice_get old number ≡ Some before
  pub is : slice_get new number ≡ Some after
  pub rose : Rises 1 before after

-- where the port tells its contents, its count rose by no more than the faults that it tells
abbrev pub RisesAsTold : (old new : Option PortState) → (old_count new_count : ℕ) → Type 0
RisesAsTold None new old_count new_count = ⊥
RisesAsTold (Some before) None old_count new_count = ⊥
RisesAsTold (Some before) (Some after) old_count new_count = new_count + told_faults before ≤ old_count + told_faults after

-- the count didn't rise, or by no more than the faults that the port tells. Nor does it stand at the end of its type
pub record IsAccounted (old new : PortView) : Type 0 where
  pub countable : new.count < 2 ^ 64 - 1
  pub accounted : (new.count ≤ old.count) ⊎ RisesAsTold old.told new.told old.count new.count

-- of each port: its count didn't rise, or by no more than the faults that it tells, and doesn't stand at the end of its type
abbrev pub AreAccounted : (old new : List PortView) → Type 0
AreAccounted old new =
    (number : ℕ) (before after : PortView) → slice_get old number ≡ Some before → slice_get new number ≡ Some after → IsAccounted before after

-- no call failed: each port's count is what it was, and doesn't stand at the end of its type
pub record Unfailed (old new : List PortView) : Type 0 where
  pub same : map (λ view. view.count) new ≡ map (λ view. view.count) old
  pub countable : (number : ℕ) (view : PortView) → slice_get new number ≡ Some view → view.count < 2 ^ 64 - 1
