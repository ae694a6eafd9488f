-- What the answer of a migration says.
use Rattle.std.proofs.Common.{◌≡◌, ◌⊎◌, ℕ, List, length, All, Result, Ok, Err, refl, sym, ap, subst, ◌∙◌, inl, inr, arith}
use Rattle.std.specs.Prelude.{IfOk, MatchResult}
use Rattle.mpy_base.specs.declared.refused.Refused.{Refused}
use Rattle.mpy_base.specs.declared.refused.Refused.TheVariants as refusals
use Rattle.qstr_pool.specs.Pool.{Texts}
use Rattle.image_open.specs.image_grammar.declared.entry.Entry.{Entry}
use Rattle.image_open.specs.image_grammar.declared.fault.ImageFault.{ImageFault}
use Rattle.image_open.specs.image_grammar.Image.{IsImage}
use Rattle.image_open.specs.image_grammar.Opening.{Base, FirstFault, image, nothing_below}
use Rattle.image_open.proofs.image_grammar_lemmas.Inversion.{done, ok_is}
use Rattle.image_open.proofs.Results.{failed}
use Rattle.image_open.proofs.Single.{image_single}
use Rattle.image_open.proofs.Whole.{nothing_proper, opened_found}
use Rattle.image_open.proofs.Written.{image_read}
use Rattle.image_freeze.specs.Ends.{IsFrozen}
use Rattle.image_freeze.specs.Frozen.{FreezeFault, image_bytes, second_front}
use Rattle.image_freeze.proofs.Ended as freezing
use Rattle.image_freeze.specs.declared.fault.MigrateFault.{MigrateFault}
use Rattle.image_freeze.specs.declared.fault.MigrateFault.TheVariants.{Opening, Freezing}
use Rattle.image_freeze.specs.Ended.{Ended, HasRead, HasWritten, IsFreezeFault, IsSecond, ReadFails, unread, has_read}
use Rattle.image_freeze.specs.Migrated.{IsImageOf, IsTold, Migrates}

abbrev was : {A : Type 0} → A → Result A (Refused ImageFault)
was x = Ok x

-- one reading
-- ===========

image_of : (bytes : List ℕ) (entries : List Entry) → image nothing_below bytes (Ok entries) → IsImageOf entries bytes
image_of bytes entries h = let s = opened_found bytes entries h in record { is_image = s.0; verified = s.1 }

read_of : (bytes : List ℕ) (entries : List Entry) → IsImageOf entries bytes → image nothing_below bytes (Ok entries)
read_of bytes entries o = image_read nothing_below bytes entries nothing_proper o.is_image o.verified

same_entries : (bytes : List ℕ) (entries others : List Entry) → image nothing_below bytes (Ok entries) → IsImageOf others bytes → others ≡ entries
same_entries bytes entries others h o = ok_is others entries ((image_single nothing_below bytes).same (Ok others) (Ok entries) (read_of bytes others o) h)

not_both : (bytes : List ℕ) (entries : List Entry) (fault : ImageFault) → image nothing_below bytes (Ok entries) → image nothing_below bytes (Err fault) → ⊥
not_both bytes entries fault h k = let e : done entries ≡ failed fault = (image_single nothing_below bytes).same (Ok entries) (Err fault) h k in cc

same_fault : (bytes : List ℕ) (f g : ImageFault) → image nothing_below bytes (Err f) → image nothing_below bytes (Err g) → f ≡ g
same_fault bytes f g h k = let e : failed f ≡ failed g = (image_single nothing_below bytes).same (Err f) (Err g) h k in cc

-- an image of version 2 is one of modules without a fault
is_frozen : (entries : List Entry) (out : List ℕ) → IsImageOf entries out → out ≡ image_bytes (second_front nothing_below) nothing_below entries → IsFrozen (second_front nothing_below) nothing_below entries out
is_frozen entries out o e =
    let s = o.is_image in
    let few_texts = s.few_texts in
    record {
      bytes_are = e;
      differ = s.differ;
      few_modules = s.few_modules;
      few_texts = omega (arith, few_texts, ap (λ (z : Texts). length z.texts) s.first_use);
      short = s.short;
    }

no_fault : (entries : List Entry) (out : List ℕ) (fault : ImageFault) → IsImageOf entries out → out ≡ image_bytes (second_front nothing_below) nothing_below entries → IsFreezeFault entries fault → ⊥
no_fault entries out fault o e h = freezing.never (second_front nothing_below) nothing_below entries out fault (is_frozen entries out o e) h

-- steps
-- =====

pub read_starved : (bytes : List ℕ) (r : Result (List Entry) (Refused MigrateFault)) (y : Refused MigrateFault) → r ≡ Err y → y ≡ refusals.NoMemory → HasRead bytes r
read_starved bytes r y is same =
    let made : Result (List Entry) (Refused MigrateFault) = Err refusals.NoMemory in
    let whole : r ≡ made = is ∙ ap (λ z. Err z) same in
    subst (HasRead bytes) (sym whole) tt

pub write_starved : {A : Type 0} (entries : List Entry) (bytes_of : A → List ℕ) (r : Result A (Refused MigrateFault)) (y : Refused MigrateFault) → r ≡ Err y → y ≡ refusals.NoMemory → HasWritten entries bytes_of r
write_starved {A} entries bytes_of r y is same =
    let made : Result A (Refused MigrateFault) = Err refusals.NoMemory in
    let whole : r ≡ made = is ∙ ap (λ z. Err z) same in
    let P : Result A (Refused MigrateFault) → Type 0 = λ z. HasWritten entries bytes_of z in
    subst P (sym whole) tt

pub second_of : (b : Base) (all entries : List Entry) (out : List ℕ) → b ≡ nothing_below → all ≡ entries → out ≡ image_bytes (second_front b) b all → IsImage b all out → ((f : ImageFault) → FreezeFault (second_front b) b all f → ⊥) → IsSecond entries out
second_of b all entries out e f written is never =
    let whole : out ≡ image_bytes (second_front nothing_below) nothing_below entries =
    written ∙ (ap (λ (z : Base). image_bytes (second_front z) z all) e ∙ ap (λ (z : List Entry). image_bytes (second_front nothing_below) nothing_below z) f) in
    record {
      written = whole;
      is_image = subst (λ (z : List Entry). IsImage nothing_below z out) f (subst (λ (z : Base). IsImage z all out) e is);
      never = λ fault h. never fault (subst (λ (z : Base). FreezeFault (second_front z) z all fault) (sym e) (subst (λ (z : List Entry). FreezeFault (second_front nothing_below) nothing_below z fault) (sym f) h));
    }

pub fault_of : (b : Base) (all entries : List Entry) (fault : ImageFault) → b ≡ nothing_below → all ≡ entries → FreezeFault (second_front b) b all fault → IsFreezeFault entries fault
fault_of b all entries fault e f h = subst (λ (z : List Entry). FreezeFault (second_front nothing_below) nothing_below z fault) f (subst (λ (z : Base). FreezeFault (second_front z) z all fault) e h)

pub no_answer : {A : Type 0} (x : A) (fault : ImageFault) → (was x ≡ Err (refusals.Fault fault)) ⊎ (was x ≡ Err refusals.NoMemory) → ⊥
no_answer x fault (inl e) = cc
no_answer x fault (inr e) = cc

-- the answer
-- ==========

module _ {A : Type 0} (bytes : List ℕ) (bytes_of : A → List ℕ) where
  abbrev Answer : Type 0
  Answer = Result A (Refused MigrateFault)

  abbrev refused : Refused MigrateFault → Answer
  refused e = Err e

  written_migrates : (entries : List Entry) (r : Answer) → image nothing_below bytes (Ok entries) → HasWritten entries bytes_of r → IfOk r (λ x. Migrates bytes (bytes_of x))
  written_migrates entries (Ok x) h w =
      let o = image_of bytes entries h in
      record { entries = entries; before = o; after = record { is_image = w.is_image; verified = o.verified }; written = w.written }
  written_migrates entries (Err e) h w = tt

  unread_migrates : (e : Refused MigrateFault) (r : Answer) → r ≡ Err e → IfOk r (λ x. Migrates bytes (bytes_of x))
  unread_migrates e (Ok x) is = absurd cc
  unread_migrates e (Err f) is = tt

  pub end_migrates : (r : Answer) → Ended bytes bytes_of r → IfOk r (λ x. Migrates bytes (bytes_of x))
  end_migrates r (unread e h is) = unread_migrates e r is
  end_migrates r (has_read entries h w) = written_migrates entries r h w

  -- only that is written
  abbrev IsOnly : List ℕ → Answer → Type 0
  IsOnly out r = MatchResult r (λ x. bytes_of x ≡ out) (λ e. e ≡ refusals.NoMemory)

  written_only : (entries : List Entry) (out : List ℕ) (r : Answer) → HasWritten entries bytes_of r → IsImageOf entries out → out ≡ image_bytes (second_front nothing_below) nothing_below entries → IsOnly out r
  written_only entries out (Ok x) w after e = w.written ∙ sym e
  written_only entries out (Err (refusals.Fault (Opening f))) w after e = absurd w
  written_only entries out (Err (refusals.Fault (Freezing f))) w after e = absurd (no_fault entries out f after e w)
  written_only entries out (Err refusals.NoMemory) w after e = refl

  unread_only : (e : Refused MigrateFault) (out : List ℕ) → ReadFails bytes e → Migrates bytes out → e ≡ refusals.NoMemory
  unread_only (refusals.Fault (Opening f)) out h m = absurd (not_both bytes m.entries f (read_of bytes m.entries m.before) h)
  unread_only (refusals.Fault (Freezing f)) out h m = absurd h
  unread_only refusals.NoMemory out h m = refl

  pub end_only : (r : Answer) (out : List ℕ) → Ended bytes bytes_of r → Migrates bytes out → IsOnly out r
  end_only r out (unread e h is) m = subst (IsOnly out) (sym is) (unread_only e out h m)
  end_only r out (has_read entries h w) m =
      let same = same_entries bytes entries m.entries h m.before in
      written_only entries out r w (subst (λ (z : List Entry). IsImageOf z out) same m.after) (m.written ∙ ap (image_bytes (second_front nothing_below) nothing_below) same)

  -- the fault of the opening
  not_opening : (entries : List Entry) (fault : ImageFault) (r : Answer) → HasWritten entries bytes_of r → r ≡ Err (refusals.Fault (Opening fault)) → ⊥
  not_opening entries fault r w is = subst (HasWritten entries bytes_of) is w

  pub end_opening : (r : Answer) (fault : ImageFault) → Ended bytes bytes_of r → r ≡ Err (refusals.Fault (Opening fault)) → FirstFault nothing_below bytes fault
  end_opening r fault (unread e h is) told =
      let same : e ≡ refusals.Fault (Opening fault) = (let both = sym is ∙ told in cc) in
      subst (ReadFails bytes) same h
  end_opening r fault (has_read entries h w) told = absurd (not_opening entries fault r w told)

  told_by : (e : Refused MigrateFault) (fault : ImageFault) → ReadFails bytes e → image nothing_below bytes (Err fault) → (refused e ≡ Err (refusals.Fault (Opening fault))) ⊎ (refused e ≡ Err refusals.NoMemory)
  told_by (refusals.Fault (Opening f)) fault h k = inl (ap (λ (z : ImageFault). refused (refusals.Fault (Opening z))) (same_fault bytes f fault h k))
  told_by (refusals.Fault (Freezing f)) fault h k = absurd h
  told_by refusals.NoMemory fault h k = inr refl

  pub end_unopened : (r : Answer) (fault : ImageFault) → Ended bytes bytes_of r → FirstFault nothing_below bytes fault → IsTold r (Opening fault)
  end_unopened r fault (unread e h is) k = subst (λ (z : Answer). IsTold z (Opening fault)) (sym is) (told_by e fault h k)
  end_unopened r fault (has_read entries h w) k = absurd (not_both bytes entries fault h k)

  -- the fault of the modules
  pub end_freezing : (r : Answer) (fault : ImageFault) → Ended bytes bytes_of r → r ≡ Err (refusals.Fault (Freezing fault)) → (entries : List Entry) × IsImageOf entries bytes × IsFreezeFault entries fault
  end_freezing r fault (unread e h is) told =
      let same : e ≡ refusals.Fault (Freezing fault) = (let both = sym is ∙ told in cc) in
      absurd (subst (ReadFails bytes) same h)
  end_freezing r fault (has_read entries h w) told = (entries, image_of bytes entries h, subst (HasWritten entries bytes_of) told w)

  frozen_by : (entries : List Entry) (fault : ImageFault) (r : Answer) → HasWritten entries bytes_of r → IsFreezeFault entries fault → IsTold r (Freezing fault)
  frozen_by entries fault (Ok x) w k = absurd (w.never fault k)
  frozen_by entries fault (Err (refusals.Fault (Opening f))) w k = absurd w
  frozen_by entries fault (Err (refusals.Fault (Freezing f))) w k =
      inl (ap (λ (z : ImageFault). refused (refusals.Fault (Freezing z))) (freezing.one_fault (second_front nothing_below) nothing_below entries f fault w k))
  frozen_by entries fault (Err refusals.NoMemory) w k = inr refl

  starved_by : (e : Refused MigrateFault) (entries : List Entry) (fault : MigrateFault) → ReadFails bytes e → IsImageOf entries bytes → IsTold (refused e) fault
  starved_by (refusals.Fault (Opening f)) entries fault h o = absurd (not_both bytes entries f (read_of bytes entries o) h)
  starved_by (refusals.Fault (Freezing f)) entries fault h o = absurd h
  starved_by refusals.NoMemory entries fault h o = inr refl

  pub end_unfrozen : (r : Answer) (entries : List Entry) (fault : ImageFault) → Ended bytes bytes_of r → IsImageOf entries bytes → IsFreezeFault entries fault → IsTold r (Freezing fault)
  end_unfrozen r entries fault (unread e h is) o k = subst (λ (z : Answer). IsTold z (Freezing fault)) (sym is) (starved_by e entries (Freezing fault) h o)
  end_unfrozen r entries fault (has_read mine h w) o k =
      let same = same_entries bytes mine entries h o in
      frozen_by mine fault r w (subst (λ (z : List Entry). IsFreezeFault z fault) same k)
