-- A file that is a translation of a source is the file of the unit that its text is read as.
use Rattle.std.proofs.Common.{◌≡◌, ℕ, List, refl, sym, ap, ◌∙◌, subst}
use Rattle.tr_source.specs.bc_scheme.mpy_tree.File.{IsFile}
use Rattle.tr_source.specs.bc_scheme.mpy_tree.Raw as raw
use Rattle.tr_source.specs.bc_scheme.mpy_tree.Resolved.{ResolvedModule, Resolves}
use Rattle.bc_resolved.specs.bc_verify.Verified.{IsVerified}
use Rattle.tr_source.specs.py_tree.declared.stmt.Module.{Module}
use Rattle.py_source.specs.declared.source.Accepted.{Accepted}
use Rattle.tr_source.specs.bc_scheme.py_meaning.Program.{Source, Single}
use Rattle.tr_source.specs.bc_scheme.py_meaning.Meaning.{source_of}
use Rattle.tr_source.specs.bc_scheme.Link.{translated}
use Rattle.tr_source.specs.bc_scheme.Translation.{Translates}
use Rattle.meant_runs.specs.trans_laws.trans_parts.Comparing.{FitsTree}
use Rattle.tr_source.specs.Accepted.{IsAccepted}
use Rattle.frozen_files.specs.mpy_compile.Checked.{IsTranslation}
use Rattle.meant_runs.specs.Units.{IsUnitFile}
use Rattle.meant_files.specs.Readings.{IsReading}
use Rattle.meant_files.proofs.Crossed as crossed
use Rattle.meant_files.proofs.Crossed.{Below}

module _ (b : Below) (one : (m : raw.Module) (x y : ResolvedModule) → Resolves m x → Resolves m y → x ≡ y)
    (fitting : (file : List ℕ) (level : ℕ) (tree : Module) (want have : ResolvedModule) (held : raw.Module) → IsAccepted level tree → Translates (source_of file level tree) want
    → FitsTree want.code have.code → Resolves held have → IsVerified held)
    (level : ℕ) (text bytes : List ℕ) (t : IsTranslation level text bytes) where
  -- the name that the file stores of its source
  abbrev stored : List ℕ
  stored = t.have.source

  abbrev accepted : Accepted
  accepted = t.compares.compiles.compiled.accepted

  -- the wanted tree is the one that the source's own file is read as, so it is the translation
  translates : Translates (source_of stored level accepted.tree) t.want
  translates =
      let own = t.compares.is_want in
      let read = crossed.resolves b level text stored t.compares.own t.compares.compiles own.0 own.1 in
      let same = one own.0 t.compares.compiles.file.reads.tree t.want read own.2 in
      subst (Translates (source_of stored level accepted.tree)) same (crossed.translates b level text stored t.compares.own t.compares.compiles)

  resolves : (m : raw.Module) → IsFile bytes m → Resolves m t.have
  resolves m is =
      let held = t.compares.is_have in
      subst (λ (n : raw.Module). Resolves n t.have) (b.one_file bytes held.0 m held.1 is) held.2

  pub unit_file : (source : Source) (m : raw.Module) → IsReading level text stored source → IsFile bytes m → IsUnitFile (Single source) m
  unit_file source m reading is =
      let same : accepted ≡ reading.accepted = b.one_reading level text accepted reading.accepted t.compares.compiles.compiled.is reading.is_accepted in
      let source_is : source_of stored level accepted.tree ≡ source = ap (λ (a : Accepted). source_of stored level a.tree) same ∙ sym reading.source_is in
      record {
        tree = t.have;
        resolves = resolves m is;
        want = t.want;
        is_module = translated (subst (λ (s : Source). Translates s t.want) source_is translates);
        stored = translates.file;
        fits = t.fits;
      }

  pub is_verified : (m : raw.Module) → IsFile bytes m → IsVerified m
  is_verified m is =
      fitting stored level accepted.tree t.want t.have m (crossed.is_accepted b level text stored t.compares.own t.compares.compiles) translates t.fits (resolves m is)

  pub reading : (source : Source) × IsReading level text stored source
  reading = (source_of stored level accepted.tree, record { accepted = accepted; is_accepted = t.compares.compiles.compiled.is; source_is = refl })
