-- What the answer of a call that opens an image says.
use Rattle.std.proofs.Common.{◌≡◌, ◌⊎◌, ℕ, ◌+◌, ◌≤◌, List, length, Result, Ok, Err, sym, ap, subst, ◌∙◌, inl, inr}
use Rattle.std.specs.Prelude.{IfOk, IsTrue}
use Rattle.mpy_base.specs.declared.limits.TheConstants.{MAX_MODULES}
use Rattle.mpy_base.specs.declared.refused.Refused.{Refused}
use Rattle.mpy_base.specs.declared.refused.Refused.TheVariants as refusals
use Rattle.qstr_pool.specs.Pool.{all_differ}
use Rattle.image_grammar.specs.bc_library.Own.{IsOwnPool}
use Rattle.image_grammar.specs.bc_library.Shelf.{Shelf}
use Rattle.image_grammar.specs.declared.entry.Entry.{Entry}
use Rattle.image_grammar.specs.declared.fault.ImageFault.{ImageFault}
use Rattle.image_grammar.specs.Opening.{image, pool_below}
use Rattle.image_grammar.specs.Steps.{Fails}
use Rattle.image_grammar.proofs.Inversion.{done, ok_is}
use Rattle.image_grammar.specs.Base.{IsOpened, base_of}
use Rattle.image_open.specs.Opens.{Opens, with_entries, Ended, opened, faulty, starved}
use Rattle.image_open.proofs.Single.{image_single}
use Rattle.image_open.proofs.Written.{image_read}
use Rattle.image_open.proofs.Base.{opened_again}
use Rattle.image_open.proofs.Opened.{found, proper}

abbrev Answer : Type 0
Answer = Result Shelf (Refused ImageFault)

abbrev unread : {A : Type 0} → Refused ImageFault → Result A (Refused ImageFault)
unread e = Err e

abbrev was_read : {A : Type 0} → A → Result A (Refused ImageFault)
was_read x = Ok x

abbrev pub failed : ImageFault → Result (List Entry) ImageFault
failed fault = Err fault

abbrev refusal : ImageFault → Answer
refusal fault = Err (refusals.Fault fault)

-- the exit of a reading that was refused
pub refused_end : (below : Shelf) (bytes : List ℕ) (r : Answer) (y e : Refused ImageFault) → r ≡ Err y → y ≡ e → Fails e (image (base_of below) bytes) → Ended below bytes r
refused_end below bytes r y (refusals.Fault fault) is same h = faulty fault h (is ∙ ap (λ z. Err z) same)
refused_end below bytes r y refusals.NoMemory is same h = starved (is ∙ ap (λ z. Err z) same)

-- the exit of a reading, and a reading that was made
pub passed_on : {A : Type 0} (K : Type 0) (r : Answer) (y e : Refused ImageFault) → r ≡ Err y → y ≡ e → K ⊎ (unread {A = A} e ≡ Err refusals.NoMemory) → K ⊎ (r ≡ Err refusals.NoMemory)
passed_on K r y e is same (inl k) = inl k
passed_on {A} K r y e is same (inr none) = let starved : e ≡ refusals.NoMemory = cc in inr (is ∙ ap (λ z. Err z) (same ∙ starved))

pub known : {A : Type 0} (K : Type 0) (x : A) → K ⊎ (was_read x ≡ Err refusals.NoMemory) → K
known K x (inl k) = k
known K x (inr none) = absurd cc

-- what is known of the library below, unless memory ran out
abbrev pub IsKnown : Shelf → Answer → Type 0
IsKnown below r = (IsOwnPool (pool_below (base_of below)) × IsTrue (all_differ below.pool.texts)) ⊎ (r ≡ Err refusals.NoMemory)

module _ (below : Shelf) (bytes : List ℕ) (is_opened : IsOpened below) (few : length below.modules + length below.refused ≤ MAX_MODULES) where
  end_by : (shelf : Shelf) (entries : List Entry) → IsKnown below (Ok shelf) → image (base_of below) bytes (Ok entries) → shelf ≡ with_entries below entries → Opens below bytes shelf
  end_by shelf entries (inl p) h same =
      let s = found below bytes entries is_opened p few h in
      record { entries = entries; is_image = s.0; verified = s.1; shelf_is = same }
  end_by shelf entries (inr none) h same = absurd cc

  end_ok : (shelf : Shelf) → IsKnown below (Ok shelf) → Ended below bytes (Ok shelf) → Opens below bytes shelf
  end_ok shelf known (opened entries h e) = let same : shelf ≡ with_entries below entries = cc in end_by shelf entries known h same
  end_ok shelf known (faulty fault h e) = absurd cc
  end_ok shelf known (starved e) = absurd cc

  pub end_opens : (r : Answer) → IsKnown below r → Ended below bytes r → IfOk r (Opens below bytes)
  end_opens (Ok shelf) known ended = end_ok shelf known ended
  end_opens (Err e) known ended = tt

  pub end_opened : (r : Answer) → IsKnown below r → Ended below bytes r → IfOk r IsOpened
  end_opened (Ok shelf) known ended = opened_again below bytes shelf is_opened (end_ok shelf known ended)
  end_opened (Err e) known ended = tt

  only_by : (shelf : Shelf) (r : Answer) → IsOwnPool (pool_below (base_of below)) × IsTrue (all_differ below.pool.texts) → Ended below bytes r → Opens below bytes shelf → (r ≡ Ok shelf) ⊎ (r ≡ Err refusals.NoMemory)
  only_by shelf r p (opened entries h e) o =
      let same : entries ≡ o.entries = ok_is entries o.entries ((image_single (base_of below) bytes).same (Ok entries) (Ok o.entries) h (image_read (base_of below) bytes o.entries (proper below p) o.is_image o.verified)) in
      inl (e ∙ ap (λ (z : Shelf). Ok z) (ap (with_entries below) same ∙ sym o.shelf_is))
  only_by shelf r p (faulty fault h e) o =
      absurd (let f : done o.entries ≡ failed fault = (image_single (base_of below) bytes).same (Ok o.entries) (Err fault) (image_read (base_of below) bytes o.entries (proper below p) o.is_image o.verified) h in cc)
  only_by shelf r p (starved e) o = inr e

  pub end_only : (shelf : Shelf) (r : Answer) → IsKnown below r → Ended below bytes r → Opens below bytes shelf → (r ≡ Ok shelf) ⊎ (r ≡ Err refusals.NoMemory)
  end_only shelf r (inl p) ended o = only_by shelf r p ended o
  end_only shelf r (inr none) ended o = inr none

pub end_first : (below : Shelf) (bytes : List ℕ) (fault : ImageFault) (r : Answer) → Ended below bytes r → r ≡ Err (refusals.Fault fault) → image (base_of below) bytes (Err fault)
end_first below bytes fault r (opened entries h e) is = absurd (let f = sym e ∙ is in cc)
end_first below bytes fault r (faulty other h e) is = let same : other ≡ fault = (let f = sym e ∙ is in cc) in subst (λ z. image (base_of below) bytes (Err z)) same h
end_first below bytes fault r (starved e) is = absurd (let f = sym e ∙ is in cc)

pub end_fault : (below : Shelf) (bytes : List ℕ) (fault : ImageFault) (r : Answer) → Ended below bytes r → image (base_of below) bytes (Err fault) → (r ≡ Err (refusals.Fault fault)) ⊎ (r ≡ Err refusals.NoMemory)
end_fault below bytes fault r (opened entries h e) k = absurd (let f : done entries ≡ failed fault = (image_single (base_of below) bytes).same (Ok entries) (Err fault) h k in cc)
end_fault below bytes fault r (faulty other h e) k =
    let f : failed other ≡ failed fault = (image_single (base_of below) bytes).same (Err other) (Err fault) h k in
    let same : other ≡ fault = cc in
    inl (e ∙ ap refusal same)
end_fault below bytes fault r (starved e) k = inr e
