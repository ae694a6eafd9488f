-- A module has one canonical file.
use Rattle.std.proofs.Common.{◌≡◌, ℕ, List, sym, ap₂, subst, ◌∙◌}
use Rattle.mpy_writer.specs.mpy_tree.declared.module.Code.{Code}
use Rattle.mpy_writer.specs.mpy_tree.declared.module.ModuleCode.{ModuleCode}
use Rattle.mpy_writer.specs.mpy_tree.Raw.{Module}
use Rattle.mpy_writer.specs.mpy_tree.File.{IsFile}
use Rattle.mpy_writer.specs.mpy_tree.Resolved.{ResolvedModule, IsTreeOf, Resolves, Reads, ReadsAs}
use Rattle.mpy_writer.specs.File.{IsWritten}
use Rattle.file_laws.specs.Canonical.{IsCanonical}
use Rattle.file_laws.proofs.Codes.{one_code}

-- what the crates below say
pub record Below : Type 0 where
  pub one_module : (bytes : List ℕ) (m n : Module) → IsFile bytes m → IsFile bytes n → m ≡ n
  pub one_tree : (m : Module) (a b : ResolvedModule) → Resolves m a → Resolves m b → a ≡ b
  pub one_file : (m : ModuleCode) (a b : List ℕ) → IsWritten m a → IsWritten m b → a ≡ b

-- the tree is that of the module
pub record IsOf (tree : ResolvedModule) (whole : ModuleCode) : Type 0 where
  pub source : tree.source ≡ whole.source
  pub code : IsTreeOf tree.code whole.code

one_whole : (tree : ResolvedModule) (m n : ModuleCode) → IsOf tree m → IsOf tree n → m ≡ n
one_whole tree m n p q =
    let source : m.source ≡ n.source = sym p.source ∙ q.source in
    ap₂ (λ (s : List ℕ) (c : Code). record { source = s; code = c }) source (one_code tree.code m.code n.code p.code q.code)

module _ (b : Below) where
  -- bytes are read as one tree
  one_reading : (bytes : List ℕ) (s t : ResolvedModule) → Reads bytes s → Reads bytes t → s ≡ t
  one_reading bytes s t p q =
      let same : q.0 ≡ p.0 = b.one_module bytes q.0 p.0 q.1 p.1 in
      b.one_tree p.0 s t p.2 (subst (λ z. Resolves z t) same q.2)

  read_of : (bytes : List ℕ) (tree : ResolvedModule) (whole : ModuleCode) → Reads bytes tree → ReadsAs bytes whole → IsOf tree whole
  read_of bytes tree whole p q =
      let same : q.tree ≡ tree = one_reading bytes q.tree tree q.reads p in
      subst (λ z. IsOf z whole) same (record { source = q.source; code = q.code })

  pub one : (x y : List ℕ) (tree : ResolvedModule) → IsCanonical x → IsCanonical y → Reads x tree → Reads y tree → x ≡ y
  one x y tree p q r s =
      let same : p.whole ≡ q.whole = one_whole tree p.whole q.whole (read_of x tree p.whole r p.reads) (read_of y tree q.whole s q.reads) in
      b.one_file q.whole x y (subst (λ z. IsWritten z x) same p.written) q.written

  pub only : (whole : ModuleCode) (bytes : List ℕ) → IsCanonical bytes → ReadsAs bytes whole → IsWritten whole bytes
  only whole bytes p q =
      let same : p.whole ≡ whole = one_whole q.tree p.whole whole (read_of bytes q.tree p.whole q.reads p.reads) (record { source = q.source; code = q.code }) in
      subst (λ z. IsWritten z bytes) same p.written
