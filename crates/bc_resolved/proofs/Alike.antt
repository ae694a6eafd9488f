-- What resolves alike is one to the machine.
use Rattle.std.proofs.Common.{◌≡◌, ℕ, List, [], ◌∷◌, sym, ap, ◌∙◌}
use Rattle.bc_progress.specs.mpy_base.World.{PortState}
use Rattle.bc_verify.specs.mpy_tree.Raw as raw
use Rattle.bc_verify.specs.mpy_tree.Resolved.{ResolvedModule, Resolves}
use Rattle.bc_progress.specs.bc_machine.Library.{Name, Module, Entry, Holds, Library, module_of}
use Rattle.bc_progress.specs.bc_machine.Machine.{run}
use Rattle.bc_resolved.specs.Stored.{Stored, Kept, Refused, IsMachineModule, IsEntryOf, IsLibraryOf, ResolveAlike, AreAlike, AllAlike}

module _ (one : (m : raw.Module) (a b : ResolvedModule) → Resolves m a → Resolves m b → a ≡ b) where
  pub same_module : (a b : raw.Module) (x y : Module) → ResolveAlike a b → IsMachineModule a x → IsMachineModule b y → x ≡ y
  same_module a b x y h k l =
      let same : k.tree ≡ l.tree = one a k.tree h.0 k.resolves h.1 ∙ one b h.0 l.tree h.2 l.resolves in
      k.machine_is ∙ ap module_of same ∙ sym l.machine_is

  same_entry : (a b : Stored) (x y : Entry) → AreAlike a b → IsEntryOf a x → IsEntryOf b y → x ≡ y
  same_entry (Kept a) (Kept b) x y h k l = k.2 ∙ ap Holds (same_module a b k.0 l.0 h k.1 l.1) ∙ sym l.2
  same_entry (Kept a) Refused x y h k l = absurd h
  same_entry Refused (Kept b) x y h k l = absurd h
  same_entry Refused Refused x y h k l = k ∙ sym l

  pub same_library : (first second : List (Name × Stored)) (x y : Library) → AllAlike first second → IsLibraryOf first x → IsLibraryOf second y → x ≡ y
  same_library [] [] x y h k l = k ∙ sym l
  same_library [] (b ∷ second) x y h k l = absurd h
  same_library (a ∷ first) [] x y h k l = absurd h
  same_library (a ∷ first) (b ∷ second) x y h k l =
      let entry : k.0 ≡ l.0 = same_entry a.1 b.1 k.0 l.0 h.1 k.3 l.3 in
      let behind : k.1 ≡ l.1 = same_library first second k.1 l.1 h.2 k.4 l.4 in
      k.2 ∙ ap (λ n. (n, k.0) ∷ k.1) h.0 ∙ ap (λ e. (b.0, e) ∷ k.1) entry ∙ ap (λ z. (b.0, l.0) ∷ z) behind ∙ sym l.2

  pub same_run : (first second : List (Name × Stored)) (x y : Library) → AllAlike first second → IsLibraryOf first x → IsLibraryOf second y
      → (name : Name) (cells bytes : ℕ) (ports : List PortState) (n : ℕ) → run x name cells bytes ports n ≡ run y name cells bytes ports n
  same_run first second x y h k l name cells bytes ports n = ap (λ z. run z name cells bytes ports n) (same_library first second x y h k l)
