-- How compiling ends.
use Rattle.std.proofs.Common.{◌≡◌, inl, inr, ℕ, zero, suc, List, [], ◌∷◌, map, Option, Some, None, slice_get, refl, sym, ap, ◌∙◌, subst}
use Rattle.std.specs.Prelude.{Result, Ok, Err, IfOk, IfNone}
use Rattle.mpy_base.specs.declared.refused.Refused.{Refused}
use Rattle.mpy_base.specs.declared.refused.Refused.TheVariants.{Fault, NoMemory}
use Rattle.mpy_base.specs.declared.source.SourceFault.{SourceFault}
use Rattle.mpy_writer.specs.mpy_tree.declared.module.ModuleCode.{ModuleCode}
use Rattle.emit_module.specs.py_source.Source as sources
use Rattle.emit_module.specs.First.{Site, source_sites}
use Rattle.emit_module.specs.Module.{source_of}
use Rattle.mpy_compile.specs.declared.compiling.Made.{Made}
use Rattle.mpy_compile.specs.Compiled.{IsFileOf, IsCompiled, Refuses}
use Rattle.mpy_compile.specs.Made.{Files, Makes}

-- what stands in a list that was made of another
pub record IsMadeOf {A B : Type 0} (f : A → B) (xs : List A) (k : ℕ) (y : B) : Type 0 where
  pub of : A
  pub here : slice_get xs k ≡ Some of
  pub is : y ≡ f of

pub before : {A B : Type 0} (f : A → B) (xs : List A) (k : ℕ) (y : B) → slice_get (map f xs) k ≡ Some y → IsMadeOf f xs k y
before f [] k y e = cc
before f (x ∷ xs) zero y e = let same : f x ≡ y = cc in record { of = x; here = refl; is = sym same }
before f (x ∷ xs) (suc k) y e = let h = before f xs k y e in record { of = h.of; here = h.here; is = h.is }

-- what is so in any case
pub so : {E P : Type 0} (r : Result (Option ℕ) E) → P → IfOk r (λ found. IfNone found P)
so (Ok None) h = h
so (Ok (Some n)) h = tt
so (Err e) h = tt

module _ (level : ℕ) (source stored : List ℕ) where
  pub source_refused : (r : Refused SourceFault) → ((fault : SourceFault) → r ≡ Fault fault → sources.IsFirstFault level source fault) → Refuses level source stored r
  source_refused (Fault fault) h = inl (h fault refl)
  source_refused NoMemory h = tt

  pub with_file : (whole : ModuleCode) (lines : List ℕ) → (is : IsCompiled level source stored whole) → lines ≡ map (λ (s : Site). s.line) (source_sites (source_of stored level is.accepted.tree))
      → (r : Result Made (Refused SourceFault)) → Files whole lines r → Makes level source stored r
  with_file whole lines is are (Ok made) h =
      subst (λ (m : ModuleCode). IsCompiled level source stored m × IsFileOf m made.file.items) (sym h.0) (is, h.1)
  with_file whole lines is are (Err (Fault fault)) h =
      let sites = source_sites (source_of stored level is.accepted.tree) in
      let b = before (λ (s : Site). s.line) sites h.at fault.line (ap (λ (ls : List ℕ). slice_get ls h.at) (sym are) ∙ h.stands) in
      inr (inr (record { whole = whole; compiled = is; at = h.at; passes = h.passes; site = b.of; stands = b.here; code = h.code; line = b.is; word = h.word }))
  with_file whole lines is are (Err NoMemory) h = tt
