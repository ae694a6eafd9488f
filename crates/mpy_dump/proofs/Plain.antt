-- Names that are written as they are.
use Rattle.std.proofs.Common.{◌≡◌, ℕ, ◌==◌, Bool, true, false, ◌||◌, List, [], ◌∷◌, ◌++◌, refl, ap, if◌then◌else◌}
use Rattle.std.specs.List.{list_any}
use Rattle.mpy_dump.specs.Texts.{is_control, hex, name_text}

plain_by : (numbered : Bool) (byte : ℕ) (bytes text : List ℕ) → numbered || list_any (λ b. is_control b || b == 92) bytes ≡ false → (list_any (λ b. is_control b || b == 92) bytes ≡ false → text ≡ bytes) → (if numbered then hex byte else byte ∷ []) ++ text ≡ byte ∷ bytes
plain_by true byte bytes text e h = absurd cc
plain_by false byte bytes text e h = ap (λ (bs : List ℕ). byte ∷ bs) (h e)

pub plain_text : (name : List ℕ) → list_any (λ byte. is_control byte || byte == 92) name ≡ false → name_text name ≡ name
plain_text [] e = refl
plain_text (byte ∷ bytes) e = plain_by (is_control byte || byte == 92) byte bytes (name_text bytes) e (plain_text bytes)
