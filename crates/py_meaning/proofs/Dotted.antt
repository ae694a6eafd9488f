-- The parts of a dotted name.
use Rattle.std.proofs.Common.{◌≡◌, ℕ, Bool, true, false, not, cond, ◌&&◌, nat_eq, List, [], ◌∷◌, inl, inr, refl, sym, ap, ◌∙◌}
use Rattle.std.specs.List.{list_all}
use Rattle.std.proofs.lemmas.Bool.Decides.{eqb_tells}
use Rattle.py_scopes.specs.Events.{first_part}
use Rattle.py_meaning.specs.Tree.{Name}
use Rattle.py_meaning.specs.Imported.{begun, parts_of, spelled_on, spelled, is_undotted}

first_more : (byte : ℕ) (c : Bool) (parts : List Name) (first : Name) (others : List Name) → parts ≡ first ∷ others → (more : List Name) × (cond c ([] ∷ parts) (begun byte parts) ≡ cond c [] (byte ∷ first) ∷ more)
first_more byte true parts first others e = (parts, refl)
first_more byte false parts first others e = (others, ap (begun byte) e)

pub first_is : (name : Name) → (others : List Name) × (parts_of name ≡ first_part name ∷ others)
first_is [] = ([], refl)
first_is (byte ∷ bytes) = let more = first_is bytes in first_more byte (nat_eq byte 46) (parts_of bytes) (first_part bytes) more.0 more.1

is_dot : (byte : ℕ) → nat_eq byte 46 ≡ true → 46 ≡ byte
is_dot byte e = elim (eqb_tells byte 46) [ inl p ↦ sym p.1 | inr q ↦ let other = q.0 in absurd cc ]

begun_spelled : (byte : ℕ) (part : Name) (parts : List Name) → spelled_on (byte ∷ part) parts ≡ byte ∷ spelled_on part parts
begun_spelled byte part [] = refl
begun_spelled byte part (next ∷ parts) = refl

spelled_more : (byte : ℕ) (c : Bool) → nat_eq byte 46 ≡ c → (part : Name) (parts : List Name) → spelled (cond c ([] ∷ (part ∷ parts)) (begun byte (part ∷ parts))) ≡ byte ∷ spelled (part ∷ parts)
spelled_more byte true e part parts = ap (λ (b : ℕ). b ∷ spelled_on part parts) (is_dot byte e)
spelled_more byte false e part parts = begun_spelled byte part parts

pub spelled_is : (name : Name) → spelled (parts_of name) ≡ name
spelled_is [] = refl
spelled_is (byte ∷ bytes) =
    let first = first_is bytes in
    ap (λ (parts : List Name). spelled (cond (nat_eq byte 46) ([] ∷ parts) (begun byte parts))) first.1 ∙ spelled_more byte (nat_eq byte 46) refl (first_part bytes) first.0
    ∙ ap (λ (rest : Name). byte ∷ rest) (ap spelled (sym first.1) ∙ spelled_is bytes)

undotted_more : (byte : ℕ) (c : Bool) → nat_eq byte 46 ≡ c → (parts : List Name) → list_all is_undotted parts ≡ true → list_all is_undotted (cond c ([] ∷ parts) (begun byte parts)) ≡ true
undotted_more byte true e parts h = h
undotted_more byte false e [] h = ap (λ (b : Bool). (not b && true) && true) e
undotted_more byte false e (part ∷ parts) h = ap (λ (b : Bool). (not b && is_undotted part) && list_all is_undotted parts) e ∙ h

pub undotted : (name : Name) → list_all is_undotted (parts_of name) ≡ true
undotted [] = refl
undotted (byte ∷ bytes) = undotted_more byte (nat_eq byte 46) refl (parts_of bytes) (undotted bytes)
