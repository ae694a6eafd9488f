-- A walk from the innermost entry on to the first one that passes.
use Rattle.std.proofs.Common.{◌≡◌, ℕ, List, [], ◌∷◌, Bool, Option, None, refl, sym, ap, ◌∙◌}
use Rattle.std.specs.Prelude.{slice_get}
use Rattle.vm_frames.specs.declared.slot.Slot.{Slot}
use Rattle.vm_frames.specs.declared.slot.Entry.{Entry}
use Rattle.vm_frames.specs.Calls.{Call}
use Rattle.vm_frames.specs.Held.{Held, with_call}
use Rattle.vm_frames.specs.Moves.{Moved, from_first, into_first}

none_left : {A : Type 0} → (xs : List A) → slice_get xs 0 ≡ None → xs ≡ []
none_left [] e = refl
none_left (y ∷ ys) e = cc

-- the entries that were met didn't pass, and nothing else changed
pub record Passed (passes : Entry → Bool) (old now : Held) : Type 0 where
  pub same : now ≡ with_call old (record old.call { entries = now.call.entries })
  pub left : from_first passes old.call.entries ≡ from_first passes now.call.entries

-- none passed
pub passed_all : (passes : Entry → Bool) (mark : Entry → Entry) (slot : Slot) (old f : Held) → Passed passes old f → slice_get f.call.entries 0 ≡ None
    → into_first mark slot (from_first passes old.call.entries) old.call ≡ record { handler = None; call = f.call }
passed_all passes mark slot old f p is =
    let none : f.call.entries ≡ [] = none_left f.call.entries is in
    let call : f.call ≡ record old.call { entries = [] } = ap (λ (z : Held). z.call) p.same ∙ ap (λ (z : List Entry). record old.call { entries = z }) none in
    ap (λ (z : List Entry). into_first mark slot z old.call) (p.left ∙ ap (from_first passes) none)
    ∙ ap (λ (z : Call). moved None z) (sym call)
  where
    moved : Option ℕ → Call → Moved
    moved h c = record { handler = h; call = c }
