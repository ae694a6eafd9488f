-- The parts of an imported name.
use Rattle.std.proofs.Common.{◌≡◌, inl, inr, ℕ, zero, suc, ◌+◌, ◌*◌, ◌<◌, Bool, true, false, not, cond, List, [], ◌∷◌, length, take, drop, get_or, Some, None, refl, sym, ap, ◌∙◌, arith, eq-eqb, if◌then◌else◌}
use Rattle.std.specs.Prelude.{nat_eq, position}
use Rattle.std.specs.List.{onto_first, position_or_len}
use Rattle.std.proofs.lemmas.Bool.Decides.{eqb_tells}
use Rattle.std.proofs.lemmas.Bool.{ltb-false}
use Rattle.std.proofs.lemmas.List.{take_all}
use Rattle.std.proofs.lemmas.Option.{cond_some}
use Rattle.py_tree.specs.declared.stmt.Alias.{Alias}
use Rattle.bc_scheme.specs.py_effects.Modules.{parts_of, first_of}
use Rattle.bc_scheme.specs.py_scopes.Events.{first_part}
use Rattle.bc_scheme.specs.py_meaning.Tree.{Name}
use Rattle.bc_scheme.specs.py_meaning.Statements.{bound_name, from_name, read_parts}
use Rattle.emit_measures.specs.Limits.{saturated}
use Rattle.emit_measures.specs.Lengths.{name_length, imports_length, taken_length}
use Rattle.emit_measures.specs.Rows.{dot_wide, reads_wide, alias_wide}
use Rattle.emit_measures.proofs.Sums.{IsSum, Summed, one_summed}

same_test : (a b : ℕ) → nat_eq a b ≡ nat_eq b a
same_test a b =
    elim (eqb_tells a b) [
      | inl p ↦ p.0 ∙ sym (eq-eqb b a (sym p.1))
      | inr q ↦ q.0 ∙ sym (elim (eqb_tells b a) [ inl r ↦ absurd (q.1 (sym r.1)) | inr r ↦ r.0 ])
    ]

-- the first part, and others of which each is behind a dot
record Split (name : Name) (parts : List Name) : Type 0 where
  others : List Name
  is : parts ≡ first_part name ∷ others
  count : 4 * length others ≡ reads_wide name

split_more : (byte : ℕ) (bytes : Name) (stops : Bool) → nat_eq byte 46 ≡ stops → (parts : List Name) → Split bytes parts → Split (byte ∷ bytes) (cond stops ([] ∷ parts) (onto_first byte parts))
split_more byte bytes true e parts s = record {
  others = parts;
  is = ap (λ (b : Bool). (if b then [] else byte ∷ first_part bytes) ∷ parts) (sym e);
  count = (let n = ap length s.is in let k = s.count in let d : dot_wide byte ≡ 4 = ap (λ (b : Bool). if b then 4 else 0) e in omega (arith, n, k, d));
}
split_more byte bytes false e parts s = record {
  others = s.others;
  is = ap (onto_first byte) s.is ∙ ap (λ (b : Bool). (if b then [] else byte ∷ first_part bytes) ∷ s.others) (sym e);
  count = (let k = s.count in let d : dot_wide byte ≡ 0 = ap (λ (b : Bool). if b then 4 else 0) e in omega (arith, k, d));
}

split_is : (name : Name) → Split name (parts_of name)
split_is [] = record { others = []; is = refl; count = refl }
split_is (byte ∷ bytes) = split_more byte bytes (nat_eq 46 byte) (same_test byte 46) (parts_of bytes) (split_is bytes)

none_read : (parts : List Name) → read_parts parts None ≡ []
none_read [] = refl
none_read (p ∷ parts) = refl

pub alias_none : (locals : List Name) (a : Alias) → a.bound ≡ None → alias_wide locals a ≡ name_length locals (first_of (parts_of a.name)) + 6
alias_none locals a e =
    ap (λ b. 4 * length (read_parts (parts_of a.name) b) + name_length locals (bound_name a.name b) + 6) e
    ∙ ap (λ (ps : List Name). 4 * length ps + name_length locals (first_of (parts_of a.name)) + 6) (none_read (parts_of a.name)) ∙ (let n = name_length locals (first_of (parts_of a.name)) in omega arith)

pub alias_some : (locals : List Name) (a : Alias) (other : Name) → a.bound ≡ Some other → alias_wide locals a ≡ reads_wide a.name + name_length locals other + 6
alias_some locals a other e =
    let s = split_is a.name in
    ap (λ b. 4 * length (read_parts (parts_of a.name) b) + name_length locals (bound_name a.name b) + 6) e
    ∙ ap (λ (ps : List Name). 4 * length (read_parts ps (Some other)) + name_length locals other + 6) s.is ∙ ap (λ n. n + name_length locals other + 6) s.count

-- ---- the first part by the first dot

abbrev is_dot : ℕ → Bool
is_dot byte = nat_eq byte 46

front_more : (byte : ℕ) (bytes : Name) (stops : Bool) → is_dot byte ≡ stops → take (position_or_len is_dot bytes) bytes ≡ first_part bytes
    → take (cond (not stops) (1 + position_or_len is_dot bytes) 0) (byte ∷ bytes) ≡ (if stops then [] else byte ∷ first_part bytes)
front_more byte bytes true e h = refl
front_more byte bytes false e h =
    let s : 1 + position_or_len is_dot bytes ≡ suc (position_or_len is_dot bytes) = omega arith in
    ap (λ n. take n (byte ∷ bytes)) s ∙ ap (λ (z : Name). byte ∷ z) h

front : (name : Name) → take (position_or_len is_dot name) name ≡ first_part name
front [] = refl
front (byte ∷ bytes) = front_more byte bytes (is_dot byte) refl (front bytes)

first_is : (name : Name) → first_of (parts_of name) ≡ first_part name
first_is name = ap first_of (split_is name).is

pub part_some : (name : Name) (end : ℕ) → position is_dot name ≡ Some end → take end name ≡ first_of (parts_of name)
part_some name end e = ap (λ n. take n name) (sym (cond_some _ _ end e).1) ∙ front name ∙ sym (first_is name)

none_chosen : (b : Bool) (n : ℕ) → cond b (Some n) None ≡ None → b ≡ false
none_chosen true n e = cc
none_chosen false n e = refl

pub part_none : (name : Name) → position is_dot name ≡ None → name ≡ first_of (parts_of name)
part_none name e =
    let past = ltb-false (position_or_len is_dot name) (length name) (none_chosen _ _ e) in
    sym (take_all (position_or_len is_dot name) name past) ∙ front name ∙ sym (first_is name)

-- ---- rows

abbrev pub reads_in : Name → ℕ → ℕ
reads_in name n = reads_wide name

pub reads_sum : IsSum reads_in (λ byte bytes n. dot_wide byte)
reads_sum = record { more = λ byte bytes n. (n, refl) }

module _ (locals : List Name) where
  abbrev pub imports_in : List Alias → ℕ → ℕ
  imports_in names n = imports_length locals names

  pub imports_sum : IsSum imports_in (λ a names n. alias_wide locals a)
  imports_sum = record { more = λ a names n. (n, refl) }

  abbrev pub taken_in : List Alias → ℕ → ℕ
  taken_in names n = taken_length locals names

  pub taken_sum : IsSum taken_in (λ a names n. name_length locals (from_name a.name a.bound) + 8)
  taken_sum = record { more = λ a names n. (n, refl) }

dot_by : (b : Bool) → (if b then 4 else 0) ≡ saturated (if b then 4 else 0)
dot_by true = refl
dot_by false = refl

pub dot_told : (byte n : ℕ) → n ≡ dot_wide byte → n ≡ saturated (dot_wide byte)
dot_told byte n e = e ∙ dot_by (nat_eq byte 46)

same_at : (xs : List ℕ) (i d e : ℕ) → i < length xs → get_or xs i d ≡ get_or xs i e
same_at [] i d e h = absurd (omega (arith, h))
same_at (x ∷ xs) zero d e h = refl
same_at (x ∷ xs) (suc i) d e h = same_at xs i d e (omega (arith, h))

pub read_next : (all name : Name) (i h k r d : ℕ) → Summed reads_in all (drop i name) h → i < length name → r ≡ dot_wide (get_or name i d) → k ≡ saturated (h + r) → Summed reads_in all (drop (i + 1) name) k
read_next all name i h k r d s l e f =
    one_summed name i (get_or name i d) r k reads_sum s l (same_at name i d (get_or name i d) l) (λ n. dot_told (get_or name i d) r e) f
