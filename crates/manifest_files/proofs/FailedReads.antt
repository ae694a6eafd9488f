-- The manifest whose read failed is one of the tree of the first.
use Rattle.std.proofs.Common.{◌≡◌, ◌⊎◌, inl, inr, ℕ, Bool, true, false, ◌||◌, List, [], ◌∷◌, ◌++◌, Option, Some, None, IfErr, IfSome, Result, Ok, Err, refl, ap, sym, subst, ◌∙◌}
use Rattle.std.specs.Str.{bytes_eq}
use Rattle.std.proofs.lemmas.Slice.Eq.{bytes_eq-Decides}
use Rattle.mpy_base.specs.declared.refused.Refused.{Refused}
use Rattle.mpy_base.specs.declared.refused.Refused.TheVariants as refused
use Rattle.mpy_io.specs.Files.{FileOf}
use Rattle.manifest_files.specs.declared.fault.ManifestFault.{ManifestFault}
use Rattle.manifest_files.specs.declared.fault.ManifestFault.TheVariants.{BadCall, Loop, Twice, Absent, Required, Deep, TooMany, ReadFault}
use Rattle.manifest_files.specs.Answers.{OfRead, is_outside}
use Rattle.manifest_files.specs.Entries.{is_open}
use Rattle.manifest_files.specs.FrozenFaults.{FaultIs}
use Rattle.manifest_files.specs.Quiet.{AllInclude, IsOfTree, IsReadIn}
use Rattle.manifest_files.proofs.Tells.{if_some}

-- a refusal of which this is so where it is a failed read's
abbrev pub OfRefusal : (List ℕ → Type 0) → Refused ManifestFault → Type 0
OfRefusal Read refusal = FaultIs (OfRead Read) refusal

pub weaker : (P Q : List ℕ → Type 0) → ((name : List ℕ) → P name → Q name) → (r : Refused ManifestFault) → OfRefusal P r → OfRefusal Q r
weaker P Q each refused.NoMemory h = tt
weaker P Q each (refused.Fault (BadCall name line)) h = tt
weaker P Q each (refused.Fault (Loop name)) h = tt
weaker P Q each (refused.Fault (Twice name)) h = tt
weaker P Q each (refused.Fault (Absent name)) h = tt
weaker P Q each (refused.Fault (Required name)) h = tt
weaker P Q each (refused.Fault (Deep name)) h = tt
weaker P Q each (refused.Fault TooMany) h = tt
weaker P Q each (refused.Fault (ReadFault name)) h = each name h

pub inside : (P : List ℕ → Type 0) (r : Refused ManifestFault) → is_outside r ≡ false → OfRefusal P r
inside P refused.NoMemory e = tt
inside P (refused.Fault (BadCall name line)) e = tt
inside P (refused.Fault (Loop name)) e = tt
inside P (refused.Fault (Twice name)) e = tt
inside P (refused.Fault (Absent name)) e = tt
inside P (refused.Fault (Required name)) e = tt
inside P (refused.Fault (Deep name)) e = tt
inside P (refused.Fault TooMany) e = tt
inside P (refused.Fault (ReadFault name)) e = absurd cc

-- manifests that are open
-- =======================

still_open : (opened : List (List ℕ)) (name other : List ℕ) → is_open opened other ≡ true → is_open (opened ++ name ∷ []) other ≡ true
still_open [] name other e = absurd cc
still_open (first ∷ opened) name other e = by (bytes_eq first other) e (still_open opened name other)
  where
    by : (b : Bool) → (b || is_open opened other) ≡ true → (is_open opened other ≡ true → is_open (opened ++ name ∷ []) other ≡ true)
        → (b || is_open (opened ++ name ∷ []) other) ≡ true
    by true e more = refl
    by false e more = more e

own_open : (name : List ℕ) → is_open (name ∷ []) name ≡ true
own_open name = ap (λ (b : Bool). b || false) ((bytes_eq-Decides name name).1 refl)

-- whose read failed
-- =================

within : (files : FileOf) (opened : List (List ℕ)) (inner other : List ℕ) → AllInclude files opened inner → IsReadIn files opened inner other
    → AllInclude files opened other
within files opened inner other leads (inl same) = subst (AllInclude files opened) (sym same) leads
within files opened inner other leads (inr all) = λ outer is. all outer (still_open opened inner outer is)

-- in the manifest that a line includes
pub line_read : (o : Option FileOf) (opened these : List (List ℕ)) (inner : List ℕ) (r : Result (Unit {0}) (Refused ManifestFault)) → these ≡ opened
    → IfSome o (λ files. AllInclude files opened inner) → IfErr r (OfRefusal (λ other. IfSome o (λ files. IsReadIn files these inner other)))
    → IfErr r (OfRefusal (λ other. IfSome o (λ files. AllInclude files opened other)))
line_read o opened these inner (Ok done) same leads h = tt
line_read o opened these inner (Err refusal) same leads h =
    weaker (λ other. IfSome o (λ files. IsReadIn files these inner other)) (λ other. IfSome o (λ files. AllInclude files opened other))
    (λ other x. by other o leads (subst (λ (z : List (List ℕ)). IfSome o (λ files. IsReadIn files z inner other)) same x)) refusal h
  where
    by : (other : List ℕ) (o : Option FileOf) → IfSome o (λ files. AllInclude files opened inner) → IfSome o (λ files. IsReadIn files opened inner other)
        → IfSome o (λ files. AllInclude files opened other)
    by other None leads x = tt
    by other (Some files) leads x = within files opened inner other leads x

-- in one of the lines
pub lines_read : (o here : Option FileOf) (opened these : List (List ℕ)) (r : Refused ManifestFault) → here ≡ o → these ≡ opened
    → OfRefusal (λ other. IfSome here (λ files. AllInclude files these other)) r → OfRefusal (λ other. IfSome o (λ files. AllInclude files opened other)) r
lines_read o here opened these r same are h =
    subst (λ (z : Option FileOf). OfRefusal (λ other. IfSome z (λ files. AllInclude files opened other)) r) same
    (subst (λ (z : List (List ℕ)). OfRefusal (λ other. IfSome here (λ files. AllInclude files z other)) r) are h)

-- of the manifest itself
pub itself_read : (o : Option FileOf) (opened : List (List ℕ)) (name : List ℕ) (r : Refused ManifestFault) → OfRefusal (λ other. other ≡ name) r
    → OfRefusal (λ other. IfSome o (λ files. IsReadIn files opened name other)) r
itself_read o opened name r h =
    weaker (λ other. other ≡ name) (λ other. IfSome o (λ files. IsReadIn files opened name other))
    (λ other e. if_some (λ (files : FileOf). IsReadIn files opened name other) o (λ files. inl e)) r h

-- in its lines
pub behind_read : (o here : Option FileOf) (opened all : List (List ℕ)) (name this : List ℕ) (r : Refused ManifestFault) → here ≡ o
    → all ≡ opened ++ this ∷ [] → this ≡ name → OfRefusal (λ other. IfSome here (λ files. AllInclude files all other)) r
    → OfRefusal (λ other. IfSome o (λ files. IsReadIn files opened name other)) r
behind_read o here opened all name this r same are is h =
    let open_are : all ≡ opened ++ name ∷ [] = are ∙ ap (λ (z : List ℕ). opened ++ z ∷ []) is in
    weaker (λ other. IfSome o (λ files. AllInclude files (opened ++ name ∷ []) other)) (λ other. IfSome o (λ files. IsReadIn files opened name other))
    (λ other x. by other o x) r (lines_read o here (opened ++ name ∷ []) all r same open_are h)
  where
    by : (other : List ℕ) (o : Option FileOf) → IfSome o (λ files. AllInclude files (opened ++ name ∷ []) other)
        → IfSome o (λ files. IsReadIn files opened name other)
    by other None x = tt
    by other (Some files) x = inr x

-- in the first manifest
pub tree_read : (o : Option FileOf) (opened : List (List ℕ)) (name : List ℕ) (r : Refused ManifestFault) → opened ≡ []
    → OfRefusal (λ other. IfSome o (λ files. IsReadIn files opened name other)) r → OfRefusal (λ other. IfSome o (λ files. IsOfTree files name other)) r
tree_read o opened name r none h =
    weaker (λ other. IfSome o (λ files. IsReadIn files [] name other)) (λ other. IfSome o (λ files. IsOfTree files name other)) (λ other x. by other o x) r
    (subst (λ (z : List (List ℕ)). OfRefusal (λ other. IfSome o (λ files. IsReadIn files z name other)) r) none h)
  where
    by : (other : List ℕ) (o : Option FileOf) → IfSome o (λ files. IsReadIn files [] name other) → IfSome o (λ files. IsOfTree files name other)
    by other None x = tt
    by other (Some files) (inl same) = inl same
    by other (Some files) (inr all) = inr (all name (own_open name))
