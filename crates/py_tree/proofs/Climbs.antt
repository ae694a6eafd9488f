-- Lines that never fall, from one on and up to another.
use Rattle.std.proofs.Common.{◌≡◌, ℕ, ◌≤◌, true, List, [], ◌∷◌, ◌++◌, refl, sym, subst, arith}
use Rattle.std.specs.Prelude.{nat_le}
use Rattle.std.specs.List.{flat_map}
use Rattle.std.proofs.lemmas.Bool.{le-leb}
use Rattle.std.proofs.lemmas.Grind.{flat_map-append}
use Rattle.std.proofs.lemmas.List.{append-nil}
use Rattle.py_tree.specs.Formed.{never_fall}
use Rattle.py_tree.proofs.Formed.{both}

abbrev pub Climbs : ℕ → List ℕ → ℕ → Type 0
Climbs least [] last = least ≤ last
Climbs least (line ∷ lines) last = (least ≤ line) × Climbs line lines last

pub spans : (a : ℕ) (xs : List ℕ) (b : ℕ) → Climbs a xs b → a ≤ b
spans a [] b k = k
spans a (x ∷ xs) b k = let h : a ≤ x = k.0 in let r = spans x xs b k.1 in omega arith

pub lowered : (a b : ℕ) (xs : List ℕ) (c : ℕ) → a ≤ b → Climbs b xs c → Climbs a xs c
lowered a b [] c h k = let e : b ≤ c = k in omega arith
lowered a b (x ∷ xs) c h k = ((let e : b ≤ x = k.0 in omega arith), k.1)

pub raised : (a : ℕ) (xs : List ℕ) (b c : ℕ) → b ≤ c → Climbs a xs b → Climbs a xs c
raised a [] b c h k = let e : a ≤ b = k in omega arith
raised a (x ∷ xs) b c h k = (k.0, raised x xs b c h k.1)

pub climbs_on : (a : ℕ) (xs : List ℕ) (b : ℕ) (ys : List ℕ) (c : ℕ) → Climbs a xs b → Climbs b ys c → Climbs a (xs ++ ys) c
climbs_on a [] b ys c h k = lowered a b ys c h k
climbs_on a (x ∷ xs) b ys c h k = (h.0, climbs_on x xs b ys c h.1 k)

pub never_falls : (a : ℕ) (xs : List ℕ) (b : ℕ) → Climbs a xs b → never_fall a xs ≡ true
never_falls a [] b k = refl
never_falls a (x ∷ xs) b k = both (nat_le a x) (never_fall x xs) (le-leb a x k.0) (never_falls x xs b k.1)

pub none_climbs : {A : Type 0} (rows : A → List ℕ) (xs : List A) (a : ℕ) → xs ≡ [] → Climbs a (flat_map rows xs) a
none_climbs rows xs a e = subst (λ q. Climbs a (flat_map rows q) a) (sym e) (let h : a ≤ a = omega arith in h)

-- with one more behind, whose lines begin with this one
pub climbs_more : {A : Type 0} (rows : A → List ℕ) (xs : List A) (x : A) (line : ℕ) (lines : List ℕ) (a b c : ℕ)
    → rows x ≡ line ∷ lines → Climbs a (flat_map rows xs) b → b ≤ line → Climbs line lines c → Climbs a (flat_map rows (xs ++ x ∷ [])) c
climbs_more rows xs x line lines a b c is h le k =
    let one : Climbs b (rows x) c = subst (λ q. Climbs b q c) (sym is) (le, k) in
    let nil : Climbs b (rows x ++ []) c = subst (λ q. Climbs b q c) (sym (append-nil (rows x))) one in
    subst (λ q. Climbs a q c) (sym (flat_map-append rows xs (x ∷ []))) (climbs_on a (flat_map rows xs) b (rows x ++ []) c h nil)
