-- The names of included manifests are UTF-8.
use Rattle.std.proofs.Common.{◌≡◌, ◌⊎◌, ◌<◌, ◌≤◌, ◌-◌, ◌+◌, ◌&&◌, ℕ, zero, suc, Bool, true, false, List, [], ◌∷◌, ◌++◌, take, length, get_or, nat_lt, IsUtf8, IsAscii, inl, inr, refl, sym, subst, arith, true≢false}
use Rattle.std.proofs.lemmas.Bool.{ltb-true}
use Rattle.std.proofs.lemmas.Str.{IsUtf8-append, IsUtf8-from_ascii, IsUtf8-nil, IsUtf8-take, IsCharBoundary-after_ascii}
use Rattle.std.specs.Str.{IsCharBoundary}
use Rattle.manifest_files.specs.Entries.{is_ascii}

both : (a b : Bool) → (a && b) ≡ true → (a ≡ true) × (b ≡ true)
both true b e = (refl, e)
both false b e = absurd (true≢false (sym e))

each_ascii : (text : List ℕ) → is_ascii text ≡ true → IsAscii text
each_ascii [] e i = omega arith
each_ascii (byte ∷ text) e zero = ltb-true byte 128 (both (nat_lt byte 128) (is_ascii text) e).0
each_ascii (byte ∷ text) e (suc i) = each_ascii text (both (nat_lt byte 128) (is_ascii text) e).1 i

pub ascii_utf8 : (text : List ℕ) → is_ascii text ≡ true → IsUtf8 text
ascii_utf8 text e = IsUtf8-from_ascii text (each_ascii text e)

pub folder_utf8 : (name : List ℕ) (n : ℕ) → n ≤ length name → (n ≡ 0) ⊎ ((0 < n) × (get_or name (n - 1) 0 ≡ 47)) → IsUtf8 name → IsUtf8 (take n name)
folder_utf8 name n l (inl none) u = subst (λ (k : ℕ). IsUtf8 (take k name)) (sym none) IsUtf8-nil
folder_utf8 name n l (inr p) u =
    let back : n - 1 + 1 ≡ n = omega (arith, p.0) in
    let low : get_or name (n - 1) 0 < 128 = omega (arith, p.1) in
    IsUtf8-take name n u (subst (IsCharBoundary name) back (IsCharBoundary-after_ascii name (n - 1) u (omega (arith, l, p.0)) low))

pub inner_utf8 : (folder path inner : List ℕ) → inner ≡ folder ++ path → IsUtf8 folder → is_ascii path ≡ true → IsUtf8 inner
inner_utf8 folder path inner is u e = subst IsUtf8 (sym is) (IsUtf8-append folder path u (ascii_utf8 path e))
