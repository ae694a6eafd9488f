-- A source compiles to one module, or has one first fault.
use Rattle.std.proofs.Common.{◌≡◌, inl, inr, ℕ, List, Some, slice_get, sym, ap, ap₂, subst, ◌∙◌}
use Rattle.mpy_base.specs.declared.source.SourceFault.{SourceFault}
use Rattle.mpy_writer.specs.mpy_tree.declared.module.ModuleCode.{ModuleCode}
use Rattle.mpy_writer.specs.File.{IsWritten}
use Rattle.mpy_writer.specs.Wide.{PassesAt, FitsWide}
use Rattle.emit_module.specs.py_tree.declared.stmt.Module.{Module}
use Rattle.emit_module.specs.py_tree.Formed.{IsFormed}
use Rattle.emit_measures.specs.py_scopes.Scopes.{IsFaultless}
use Rattle.emit_module.specs.py_source.declared.source.Accepted.{Accepted}
use Rattle.emit_module.specs.py_source.Source as sources
use Rattle.emit_module.specs.py_meaning.Program.{Source}
use Rattle.emit_module.specs.tr_source.Accepted.{IsAccepted}
use Rattle.emit_module.specs.First.{Site, source_sites, AreWithin, IsFirstFault}
use Rattle.emit_module.specs.Module.{source_of, IsTranslated}
use Rattle.mpy_compile.specs.Compiled.{IsCompiled, CompilesTo, HasCodeFault, HasLongCode, IsFault}

-- what the crates below say
pub record Below : Type 0 where
  pub formed : (level : ℕ) (source : List ℕ) (accepted : Accepted) → sources.IsAccepted level source accepted → IsFormed accepted.tree
  pub faultless : (level : ℕ) (source : List ℕ) (accepted : Accepted) → sources.IsAccepted level source accepted → IsFaultless accepted.tree
  pub one : (level : ℕ) (source : List ℕ) (first second : Accepted) → sources.IsAccepted level source first → sources.IsAccepted level source second → first ≡ second
  pub one_fault : (level : ℕ) (source : List ℕ) (first second : SourceFault) → sources.IsFirstFault level source first → sources.IsFirstFault level source second → first ≡ second
  pub not_both : (level : ℕ) (source : List ℕ) (accepted : Accepted) (fault : SourceFault) → sources.IsAccepted level source accepted → sources.IsFirstFault level source fault → ⊥
  pub accepted : (file : List ℕ) (level : ℕ) (tree : Module) → IsFormed tree → IsFaultless tree → AreWithin (source_of file level tree) → IsAccepted level tree
  pub one_module : (file : List ℕ) (level : ℕ) (tree : Module) (m n : ModuleCode) → IsAccepted level tree → IsTranslated (source_of file level tree) m → IsTranslated (source_of file level tree) n → m ≡ n
  pub one_first : (source : Source) (f g : SourceFault) → IsFirstFault source f → IsFirstFault source g → f ≡ g
  pub none_first : (source : Source) (fault : SourceFault) → AreWithin source → IsFirstFault source fault → ⊥
  pub one_file : (m : ModuleCode) (a b : List ℕ) → IsWritten m a → IsWritten m b → a ≡ b
  pub one_place : (m : ModuleCode) (i j : ℕ) → PassesAt m i → PassesAt m j → i ≡ j
  pub none_long : (m : ModuleCode) (n : ℕ) → PassesAt m n → FitsWide m → ⊥

module _ (b : Below) (level : ℕ) (source stored : List ℕ) where
  abbrev of : Accepted → Source
  of accepted = source_of stored level accepted.tree

  pub one : (m n : ModuleCode) → IsCompiled level source stored m → IsCompiled level source stored n → m ≡ n
  one m n p q =
      let same = b.one level source q.accepted p.accepted q.is p.is in
      let tree = p.accepted.tree in
      let accepted = b.accepted stored level tree (b.formed level source p.accepted p.is) (b.faultless level source p.accepted p.is) p.within in
      b.one_module stored level tree m n accepted p.translated (subst (λ (a : Accepted). IsTranslated (of a) n) same q.translated)

  pub one_file : (x y : List ℕ) → CompilesTo level source stored x → CompilesTo level source stored y → x ≡ y
  one_file x y p q =
      let same = one p.whole q.whole p.compiled q.compiled in
      b.one_file q.whole x y (subst (λ (m : ModuleCode). IsWritten m x) same p.file.written) q.file.written

  no_code_fault : {P : Type 0} (m : ModuleCode) (fault : SourceFault) → IsCompiled level source stored m → HasCodeFault level source stored fault → P
  no_code_fault m fault p q =
      let same = b.one level source q.accepted p.accepted q.is p.is in
      absurd (b.none_first (of p.accepted) fault p.within (subst (λ (a : Accepted). IsFirstFault (of a) fault) same q.first))

  no_source_fault : {P : Type 0} (accepted : Accepted) (fault : SourceFault) → sources.IsAccepted level source accepted → sources.IsFirstFault level source fault → P
  no_source_fault accepted fault p q = absurd (b.not_both level source accepted fault p q)

  same_site : (x y : Site) → Some x ≡ Some y → x.line ≡ y.line
  same_site x y e = cc

  same_fault : (f g : SourceFault) → f.code ≡ g.code → f.line ≡ g.line → f.word ≡ g.word → f ≡ g
  same_fault f g code line word =
      ap₂ (λ c l. record { code = c; line = l; word = f.word }) code line ∙ ap (λ w. record { code = g.code; line = g.line; word = w }) word

  one_long : (f g : SourceFault) → HasLongCode level source stored f → HasLongCode level source stored g → f ≡ g
  one_long f g p q =
      let whole = one p.whole q.whole p.compiled q.compiled in
      let at = b.one_place q.whole p.at q.at (subst (λ (m : ModuleCode). PassesAt m p.at) whole p.passes) q.passes in
      let accepted = b.one level source p.compiled.accepted q.compiled.accepted p.compiled.is q.compiled.is in
      let found : Some p.site ≡ Some q.site =
      sym p.stands ∙ ap₂ (λ (a : Accepted) (k : ℕ). slice_get (source_sites (of a)) k) accepted at ∙ q.stands in
      same_fault f g (p.code ∙ sym q.code) (p.line ∙ same_site p.site q.site found ∙ sym q.line) (p.word ∙ sym q.word)

  pub not_both : (bytes : List ℕ) (fault : SourceFault) → CompilesTo level source stored bytes → IsFault level source stored fault → ⊥
  not_both bytes fault p (inl q) = no_source_fault p.compiled.accepted fault p.compiled.is q
  not_both bytes fault p (inr (inl q)) = no_code_fault p.whole fault p.compiled q
  not_both bytes fault p (inr (inr q)) = b.none_long p.whole q.at (subst (λ (m : ModuleCode). PassesAt m q.at) (one q.whole p.whole q.compiled p.compiled) q.passes) p.file.wide

  pub one_fault : (f g : SourceFault) → IsFault level source stored f → IsFault level source stored g → f ≡ g
  one_fault f g (inl p) (inl q) = b.one_fault level source f g p q
  one_fault f g (inl p) (inr (inl q)) = no_source_fault q.accepted f q.is p
  one_fault f g (inl p) (inr (inr q)) = no_source_fault q.compiled.accepted f q.compiled.is p
  one_fault f g (inr (inl p)) (inl q) = no_source_fault p.accepted g p.is q
  one_fault f g (inr (inl p)) (inr (inl q)) =
      let same = b.one level source q.accepted p.accepted q.is p.is in
      b.one_first (of p.accepted) f g p.first (subst (λ (a : Accepted). IsFirstFault (of a) g) same q.first)
  one_fault f g (inr (inl p)) (inr (inr q)) = no_code_fault q.whole f q.compiled p
  one_fault f g (inr (inr p)) (inl q) = no_source_fault p.compiled.accepted g p.compiled.is q
  one_fault f g (inr (inr p)) (inr (inl q)) = no_code_fault p.whole g p.compiled q
  one_fault f g (inr (inr p)) (inr (inr q)) = one_long f g p q
