-- Files that stay, while those of tasks are written.
use Rattle.std.proofs.Common.{◌≡◌, ◌≢◌, ◌⊎◌, inl, inr, ℕ, suc, ◌<◌, ◌^◌, List, [], Option, Some, None, refl, ap, subst, ◌∙◌, arith}
use Rattle.mpy_io.specs.Files.{FileOf, Sets, Becomes, BecomesFront, AppendsFile, AppendsFileFront, appended}
use Rattle.board_files.specs.Files.{out_name, KeepsOthers, AreEmpty}
use Rattle.board_files.proofs.Names.{same_task}

pub others_same : (count : ℕ) (old new : Option FileOf) → new ≡ old → KeepsOthers count old new
others_same count None new e = tt
others_same count (Some file) new e = (file, e, λ name none. refl)

pub others_on : (count : ℕ) (a b c : Option FileOf) → KeepsOthers count a b → KeepsOthers count b c → KeepsOthers count a c
others_on count None b c first then = tt
others_on count (Some file) b c first then =
    let more = subst (λ (o : Option FileOf). KeepsOthers count o c) first.1 then in
    (more.0, more.1, λ name none. more.2 name none ∙ first.2 name none)

pub becomes_others : (count task : ℕ) (old new : Option FileOf) (bytes : List ℕ) → task < count → Becomes old new (out_name task) bytes → KeepsOthers count old new
becomes_others count task None new bytes within b = tt
becomes_others count task (Some file) new bytes within b = (b.0, b.1, λ name none. b.2.others name (none task within))

pub front_others : (count task : ℕ) (old new : Option FileOf) (bytes : List ℕ) → task < count → BecomesFront old new (out_name task) bytes → KeepsOthers count old new
front_others count task old new bytes within (inl e) = others_same count old new e
front_others count task old new bytes within (inr b) = becomes_others count task old new b.0 within b.3

pub append_others : (count task : ℕ) (old new : Option FileOf) (bytes : List ℕ) → task < count → AppendsFile old new (out_name task) bytes → KeepsOthers count old new
append_others count task None new bytes within b = tt
append_others count task (Some file) new bytes within b = becomes_others count task (Some file) new (appended (file (out_name task)) bytes) within b

pub append_front_others : (count task : ℕ) (old new : Option FileOf) (bytes : List ℕ) → task < count → AppendsFileFront old new (out_name task) bytes → KeepsOthers count old new
append_front_others count task old new bytes within (inl e) = others_same count old new e
append_front_others count task old new bytes within (inr b) = append_others count task old new b.0 within b.3

-- files that are written empty, one by one
pub none_empty : (old : Option FileOf) → AreEmpty 0 old old
none_empty None = tt
none_empty (Some file) = (file, refl, λ task h. absurd (omega (arith, h)))

one_empty : (file now : FileOf) (count task : ℕ) → count < 2 ^ 64 → ((t : ℕ) → t < count → file (out_name t) ≡ Some []) → Sets file now (out_name count) [] → task < suc count → now (out_name task) ≡ Some []
one_empty file now count task small each sets h =
    elim (split) [ inl below ↦ sets.others (out_name task) (λ e. apart below (same_task task count (omega (arith, below, small)) small e)) ∙ each task below | inr same ↦ ap (λ (t : ℕ). now (out_name t)) same ∙ sets.here ]
  where
    split : (task < count) ⊎ (task ≡ count)
    split = grind arith

    apart : task < count → task ≢ count
    apart below e = omega (arith, below, e)

pub more_empty : (old between new : Option FileOf) (count : ℕ) → count < 2 ^ 64 → AreEmpty count old between → Becomes between new (out_name count) [] → AreEmpty (suc count) old new
more_empty None between new count small a b = tt
more_empty (Some file) between new count small a b =
    let sets = subst (λ (o : Option FileOf). Becomes o new (out_name count) []) a.1 b in
    (sets.0, sets.1, λ task h. one_empty a.0 sets.0 count task small a.2 sets.2 h)
