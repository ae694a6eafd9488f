-- What a command that writes a file does to the others, and a source that is too long to be read.
use Rattle.std.proofs.Common.{◌≡◌, ℕ, List, Option, Some, None, refl, inl, inr}
use Rattle.mpy_io.specs.Files.{FileOf, Becomes, BecomesFront}
use Rattle.command_files.specs.Folder.{ChangesOnly}

-- ---- other files

pub same_only : (old new : Option FileOf) (written : List ℕ) → new ≡ old → ChangesOnly old new written
same_only None new written e = tt
same_only (Some file) new written e = (file, e, λ other apart. refl)

pub became_only : (old new : Option FileOf) (written bytes : List ℕ) → Becomes old new written bytes → ChangesOnly old new written
became_only None new written bytes h = tt
became_only (Some file) new written bytes h = (h.0, h.1, h.2.others)

pub front_only : (old new : Option FileOf) (written bytes : List ℕ) → BecomesFront old new written bytes → ChangesOnly old new written
front_only old new written bytes (inl e) = same_only old new written e
front_only old new written bytes (inr h) = became_only old new written h.0 h.3
