-- Counts of faults, before and behind calls of ports.
use Rattle.std.proofs.Common.{◌≡◌, ℕ, ℤ, zero, suc, ◌+◌, ◌-◌, ◌^◌, ◌<◌, ◌≤◌, true, false, Bool, List, [], ◌∷◌, length, map, Option, Some, None, Result, Ok, Err, is_err, inl, inr, refl, sym, ap, subst, ◌∙◌, arith, option_map}
use Rattle.std.specs.Prelude.{◌⊎◌, IsTrue, IfSome, slice_get, slice_set, min}
use Rattle.std.proofs.lemmas.Option.{slice_get-map}
use Rattle.mpy_io.specs.mpy_base.World.{PortState}
use Rattle.mpy_io.specs.Count.{Counts, Rose}
use Rattle.mpy_io.specs.Ports.{PortView, IsFailing, Puts, Gets, called, after_put, after_get}
use Rattle.port_set.specs.Calls.{CallsOne}
use Rattle.port_set.specs.Counts.{told_faults, IsFull, RisesWithTold, IsGreater, Rises, CountsKeep, RoseBeyond, RisesAsTold, IsAccounted, AreAccounted, Unfailed}
use Rattle.port_set.proofs.Listed.{next_most, next_fine}

-- one port
-- ========

told_same : (told : Option PortState) (n : ℕ) → RisesWithTold 0 told told n n
told_same None n = tt
told_same (Some port) n = omega arith

pub rises_same : (view : PortView) → Rises 0 view view
rises_same view = inl (record { count = omega arith; told = told_same view.told view.count })

told_on : (a b : ℕ) (x y z : Option PortState) (k m n : ℕ) → RisesWithTold a x y k m → RisesWithTold b y z m n → RisesWithTold (a + b) x z k n
told_on a b None y z k m n first second = tt
told_on a b (Some x) None z k m n first second = absurd first
told_on a b (Some x) (Some y) None k m n first second = absurd second
told_on a b (Some x) (Some y) (Some z) k m n first second = omega (arith, first, second)

-- more calls of it
pub rises_on : (a b : ℕ) (x y z : PortView) → Rises a x y → Rises b y z → Rises (a + b) x z
rises_on a b x y z first (inr full) = inr full
rises_on a b x y z (inl first) (inl second) =
    let one = first.count in
    let two = second.count in
    inl (record { count = omega (arith, one, two); told = told_on a b x.told y.told z.told x.count y.count z.count first.told second.told })
rises_on a b x y z (inr full) (inl second) = let two = second.count in inr (omega (arith, full, two))

-- a call that didn't fail, and one that did
told_fine : (old new : Option PortState) (n : ℕ) → IfSome old (λ port. (next : PortState) × (new ≡ Some next) × (told_faults next ≤ told_faults port)) → RisesWithTold 0 old new n n
told_fine None new n h = tt
told_fine (Some port) new n h = subst (λ (z : Option PortState). RisesWithTold 0 (Some port) z n n) (sym h.1) (let le = h.2 in omega (arith, le))

told_failed : (more : ℕ) (old new : Option PortState) (k n : ℕ) → k < n → IfSome old (λ port. (next : PortState) × (new ≡ Some next) × (told_faults next + more ≤ told_faults port + 1)) → RisesWithTold more old new k n
told_failed more None new k n lt h = tt
told_failed more (Some port) new k n lt h = subst (λ (z : Option PortState). RisesWithTold more (Some port) z k n) (sym h.1) (let le = h.2 in omega (arith, le, lt))

failed_rises : (more : ℕ) (old new : PortView) → more ≤ 1 → Rose old.count new.count → IfSome old.told (λ port. (next : PortState) × (new.told ≡ Some next) × (told_faults next + more ≤ told_faults port + 1)) → Rises more old new
failed_rises more old new few (inl lt) h = inl (record { count = omega (arith, few, lt); told = told_failed more old.told new.told old.count new.count lt h })
failed_rises more old new few (inr end) h = inr (omega (arith, end))

fine_rises : (old new : PortView) → new.count ≡ old.count → IfSome old.told (λ port. (next : PortState) × (new.told ≡ Some next) × (told_faults next ≤ told_faults port)) → Rises 0 old new
fine_rises old new same h = inl (record {
  count = omega (arith, same);
  told = subst (λ (n : ℕ). RisesWithTold 0 old.told new.told old.count n) (sym same) (told_fine old.told new.told old.count h);
})

-- what a call of a port makes of its contents, as it fails or not
module _ (after : PortState → Bool → PortState) (failing_kept : (port : PortState) (failed : Bool) → told_faults (after port failed) ≡ told_faults (called port)) where
  fine_told : (told : Option PortState) (new : Option PortState) → IfSome told (λ port. new ≡ Some (after port false)) → IfSome told (λ port. IsFailing port → IsTrue false)
      → IfSome told (λ port. (next : PortState) × (new ≡ Some next) × (told_faults next ≤ told_faults port))
  fine_told None new is not = is
  fine_told (Some port) new is not =
      let e = failing_kept port false in
      let le = next_fine port.failing port.calls (λ c. let no = not c in absurd cc) in
      (after port false, is, omega (arith, e, le))

  failed_told : (told : Option PortState) (new : Option PortState) → IfSome told (λ port. new ≡ Some (after port true))
      → IfSome told (λ port. (next : PortState) × (new ≡ Some next) × (told_faults next + 0 ≤ told_faults port + 1))
  failed_told None new is = is
  failed_told (Some port) new is =
      let e = failing_kept port true in
      let le = next_most port.failing port.calls in
      (after port true, is, omega (arith, e, le))

  pub call_rises : (old new : PortView) (failed : Bool) → IfSome old.told (λ port. new.told ≡ Some (after port failed)) → IfSome old.told (λ port. IsFailing port → IsTrue failed) → Counts old.count new.count failed → Rises 0 old new
  call_rises old new false is not cause = fine_rises old new cause (fine_told old.told new.told is not)
  call_rises old new true is not cause = failed_rises 0 old new (omega arith) cause (failed_told old.told new.told is)

put_listed : (n : ℤ) (port : PortState) (failed : Bool) → told_faults (after_put port n failed) ≡ told_faults (called port)
put_listed n port true = refl
put_listed n port false = refl

get_listed : (port : PortState) (failed : Bool) → told_faults (after_get port failed) ≡ told_faults (called port)
get_listed port true = refl
get_listed port false = refl

pub put_rises : (old new : PortView) (n : ℤ) (failed : Bool) → Puts old new n failed → Rises 0 old new
put_rises old new n failed puts = call_rises (λ port f. after_put port n f) (put_listed n) old new failed puts.after puts.failing puts.cause

pub get_rises : {E : Type 0} (old new : PortView) (result : Result (Option ℤ) E) → Gets old new result → Rises 0 old new
get_rises old new result gets = call_rises after_get get_listed old new (is_err result) gets.after gets.failing gets.cause

-- a call that failed and wasn't listed
unlisted_told : (told new : Option PortState) → IfSome told (λ port. new ≡ Some (called port)) → IfSome told (λ port. IsFailing port → ⊥)
    → IfSome told (λ port. (next : PortState) × (new ≡ Some next) × (told_faults next + 1 ≤ told_faults port + 1))
unlisted_told None new is not = is
unlisted_told (Some port) new is not =
    let le = next_fine port.failing port.calls not in
    (called port, is, omega (arith, le))

pub unlisted_rises : (old new : PortView) → Rose old.count new.count → IfSome old.told (λ port. new.told ≡ Some (called port)) → IfSome old.told (λ port. IsFailing port → ⊥) → Rises 1 old new
unlisted_rises old new rose is not = failed_rises 1 old new (omega arith) rose (unlisted_told old.told new.told is not)

-- a count that is accounted for didn't rise beyond what is told
not_beyond : (old new : Option PortState) (k n : ℕ) → RisesWithTold 1 old new k n → RisesAsTold old new k n → ⊥
not_beyond None new k n rises so = so
not_beyond (Some before) None k n rises so = so
not_beyond (Some before) (Some after) k n rises so = omega (arith, rises, so)

pub not_accounted : (old new : PortView) → IsAccounted old new → Rises 1 old new → ⊥
not_accounted old new a (inr full) = let lt = a.countable in omega (arith, lt, full)
not_accounted old new a (inl greater) = elim a.accounted [
  | inl le ↦ let more = greater.count in omega (arith, le, more)
  | inr so ↦ not_beyond old.told new.told old.count new.count greater.told so
]

-- many ports
-- ==========

pub counts_same : (views : List PortView) → CountsKeep views views
counts_same [] = tt
counts_same (view ∷ views) = (rises_same view, counts_same views)

pub counts_are : (old new : List PortView) → new ≡ old → CountsKeep old new
counts_are old new e = subst (λ (z : List PortView). CountsKeep old z) (sym e) (counts_same old)

pub counts_on : (x y z : List PortView) → CountsKeep x y → CountsKeep y z → CountsKeep x z
counts_on [] [] [] first second = tt
counts_on [] [] (c ∷ z) first second = absurd second
counts_on [] (b ∷ y) z first second = absurd first
counts_on (a ∷ x) [] z first second = absurd first
counts_on (a ∷ x) (b ∷ y) [] first second = absurd second
counts_on (a ∷ x) (b ∷ y) (c ∷ z) first second = (rises_on 0 0 a b c first.0 second.0, counts_on x y z first.1 second.1)

counts_set : (views : List PortView) (number : ℕ) (before after : PortView) → slice_get views number ≡ Some before → Rises 0 before after → CountsKeep views (slice_set views number after)
counts_set [] number before after here rises = tt
counts_set (view ∷ views) zero before after here rises = (let e : view ≡ before = cc in subst (λ (z : PortView). Rises 0 z after) (sym e) rises, counts_same views)
counts_set (view ∷ views) (suc number) before after here rises = (rises_same view, counts_set views number before after here rises)

pub counts_called : (old new : List PortView) (number : ℕ) (Call : PortView → PortView → Type 0) → ((before after : PortView) → Call before after → Rises 0 before after) → CallsOne old new number Call → CountsKeep old new
counts_called old new number Call rises one =
    subst (λ (z : List PortView). CountsKeep old z) (sym one.others) (counts_set old number one.before one.after one.here (rises one.before one.after one.call))

-- one of many
-- ===========

-- what a port was, and what it is
record Was (old : List PortView) (number : ℕ) (after : PortView) : Type 0 where
  before : PortView
  was : slice_get old number ≡ Some before
  rises : Rises 0 before after

was_at : (old new : List PortView) (number : ℕ) (after : PortView) → CountsKeep old new → slice_get new number ≡ Some after → Was old number after
was_at [] [] number after keep is = absurd cc
was_at [] (b ∷ new) number after keep is = absurd keep
was_at (a ∷ old) [] number after keep is = absurd keep
was_at (a ∷ old) (b ∷ new) zero after keep is = record { before = a; was = refl; rises = let e : b ≡ after = cc in subst (λ (z : PortView). Rises 0 a z) e keep.0 }
was_at (a ∷ old) (b ∷ new) (suc number) after keep is = let w = was_at old new number after keep.1 is in record { before = w.before; was = w.was; rises = w.rises }

record Is (new : List PortView) (number : ℕ) (before : PortView) : Type 0 where
  after : PortView
  is : slice_get new number ≡ Some after
  rises : Rises 0 before after

is_at : (old new : List PortView) (number : ℕ) (before : PortView) → CountsKeep old new → slice_get old number ≡ Some before → Is new number before
is_at [] [] number before keep was = absurd cc
is_at [] (b ∷ new) number before keep was = absurd keep
is_at (a ∷ old) [] number before keep was = absurd keep
is_at (a ∷ old) (b ∷ new) zero before keep was = record { after = b; is = refl; rises = let e : a ≡ before = cc in subst (λ (z : PortView). Rises 0 z b) e keep.0 }
is_at (a ∷ old) (b ∷ new) (suc number) before keep was = let w = is_at old new number before keep.1 was in record { after = w.after; is = w.is; rises = w.rises }

-- what rose between calls rose over all of them
pub beyond_within : (number : ℕ) (first before behind last : List PortView) → CountsKeep first before → RoseBeyond number before behind → CountsKeep behind last → RoseBeyond number first last
beyond_within number first before behind last earlier rose later =
    let w = was_at first before number rose.before earlier rose.was in
    let i = is_at behind last number rose.after later rose.is in
    record {
      before = w.before;
      after = i.after;
      was = w.was;
      is = i.is;
      rose = rises_on 1 0 w.before rose.after i.after (rises_on 0 1 w.before rose.before rose.after w.rises rose.rose) i.rises;
    }

-- where all are accounted for, none rose beyond what is told
pub none_beyond : (old new : List PortView) → AreAccounted old new → (number : ℕ) → RoseBeyond number old new → ⊥
none_beyond old new all number rose = not_accounted rose.before rose.after (all number rose.before rose.after rose.was rose.is) rose.rose

count_at : (views : List PortView) (number : ℕ) (view : PortView) → slice_get views number ≡ Some view → slice_get (map (λ (v : PortView). v.count) views) number ≡ Some view.count
count_at views number view is = slice_get-map (λ (v : PortView). v.count) views number ∙ ap (λ (found : Option PortView). option_map (λ (v : PortView). v.count) found) is

-- where no call failed, all are accounted for
pub all_accounted : (old new : List PortView) → Unfailed old new → AreAccounted old new
all_accounted old new none number before after was is =
    let one = count_at old number before was in
    let two = count_at new number after is in
    let there : slice_get (map (λ (v : PortView). v.count) new) number ≡ slice_get (map (λ (v : PortView). v.count) old) number = ap (λ (counts : List ℕ). slice_get counts number) none.same in
    let found : Some after.count ≡ Some before.count = sym two ∙ (there ∙ one) in
    let same : after.count ≡ before.count = cc in
    record { countable = none.countable number after is; accounted = inl (omega (arith, same)) }
