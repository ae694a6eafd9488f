-- What is read of the indexes of names.
use Rattle.std.proofs.Common.{Result, Ok, Err, ◌≡◌, ◌⊎◌, ◌↔◌, ℕ, ◌+◌, ◌<◌, ◌≤◌, List, [], ◌∷◌, ◌++◌, length, drop, refl, ap, sym, subst, ◌∙◌, inl, inr, arith, append_assoc, length-append, ltb, true, false, All, ◌^◌}
use Rattle.std.specs.List.{AllByRecursion}
use Rattle.std.proofs.lemmas.List.Elements.{recursion_from_All}
use Rattle.std.specs.Prelude.{IsErrOf}
use Rattle.std.proofs.lemmas.List.{append_cancel_left, length_push, append-nil, drop-drop, length-drop}
use Rattle.std.proofs.lemmas.Bool.Decides.{nat_tests}
use Rattle.std.proofs.Math.Seq.{drop-append_seam}
use Rattle.mpy_base.specs.Vuint.{Spells, EndsInside, PassesForm, vuint}
use Rattle.mpy_base.proofs.Groups.{one_number, not_inside, not_past, not_both, vuint_spells}
use Rattle.bc_prelude.specs.declared.fault.PreludeFault.{PreludeFault}
use Rattle.bc_prelude.specs.declared.fault.PreludeFault.TheVariants as faults
use Rattle.bc_prelude.specs.Names.{AreNames, NamesEnd, NamesPass, spelling}

abbrev pub names_read : ℕ → Result ℕ PreludeFault
names_read behind = Ok behind

abbrev pub names_refused : PreludeFault → Result ℕ PreludeFault
names_refused fault = Err fault

abbrev pub name_refused : PreludeFault → Result (ℕ × ℕ) PreludeFault
name_refused fault = Err fault

-- `passed` indexes of the bytes at a place are passed
pub record Walked (bytes : List ℕ) (at passed behind : ℕ) : Type 0 where
  pub indexes : List ℕ
  pub text : List ℕ
  pub rest : List ℕ
  pub names : AreNames indexes text
  pub count : length indexes ≡ passed
  pub bytes_are : bytes ≡ text ++ rest
  pub place : behind ≡ at + length text

-- the result says all of the bytes that it has to
pub record NamesResult (bytes : List ℕ) (at count : ℕ) (result : Result ℕ PreludeFault) : Type 0 where
  pub only : (indexes text rest : List ℕ) → AreNames indexes text → length indexes ≡ count → bytes ≡ text ++ rest → result ≡ names_read (at + length text)
  pub truncated : IsErrOf result faults.Truncated ↔ NamesEnd count bytes
  pub too_big : IsErrOf result faults.TooBig ↔ NamesPass count bytes

same_number : (a b x y : List ℕ) (m n : ℕ) → Spells a m → Spells b n → a ++ x ≡ b ++ y → (a ≡ b) × (x ≡ y)
same_number a b x y m n s t e =
    let same = one_number a b x y m n s.groups t.groups e in
    (same.0, append_cancel_left b x y (sym (ap (λ (z : List ℕ). z ++ x) same.0) ∙ e))

-- as many indexes in front of bytes are the same ones
pub same_names : (is js a b x y : List ℕ) → AreNames is a → AreNames js b → length is ≡ length js → a ++ x ≡ b ++ y → (a ≡ b) × (x ≡ y)
same_names [] [] a b x y m n l e =
    (m ∙ sym n, sym (ap (λ (z : List ℕ). z ++ x) m) ∙ (e ∙ ap (λ (z : List ℕ). z ++ y) n))
same_names [] (j ∷ js) a b x y m n l e = absurd (omega arith)
same_names (i ∷ is) [] a b x y m n l e = absurd (omega arith)
same_names (i ∷ is) (j ∷ js) a b x y m n l e =
    let left = ap (λ (z : List ℕ). z ++ x) m.3 ∙ append_assoc m.0 m.1 x in
    let right = ap (λ (z : List ℕ). z ++ y) n.3 ∙ append_assoc n.0 n.1 y in
    let first = same_number m.0 n.0 (m.1 ++ x) (n.1 ++ y) i j m.2 n.2 (sym left ∙ (e ∙ right)) in
    let others = same_names is js m.1 n.1 x y m.4 n.4 (omega arith) first.1 in
    (m.3 ∙ (ap (λ (z : List ℕ). z ++ m.1) first.0 ∙ (ap (λ (z : List ℕ). n.0 ++ z) others.0 ∙ sym n.3)), others.1)

-- where more indexes stand in front of the same bytes, one stands behind the fewer
more_names : (is js a b x y : List ℕ) → AreNames is a → AreNames js b → length is < length js → a ++ x ≡ b ++ y → (front behind : List ℕ) × (index : ℕ) × Spells front index × (x ≡ front ++ behind)
more_names is [] a b x y m n l e = absurd (omega arith)
more_names [] (j ∷ js) a b x y m n l e =
    (n.0, n.1 ++ y, j, n.2, sym (ap (λ (z : List ℕ). z ++ x) m) ∙ (e ∙ (ap (λ (z : List ℕ). z ++ y) n.3 ∙ append_assoc n.0 n.1 y)))
more_names (i ∷ is) (j ∷ js) a b x y m n l e =
    let left = ap (λ (z : List ℕ). z ++ x) m.3 ∙ append_assoc m.0 m.1 x in
    let right = ap (λ (z : List ℕ). z ++ y) n.3 ∙ append_assoc n.0 n.1 y in
    let first = same_number m.0 n.0 (m.1 ++ x) (n.1 ++ y) i j m.2 n.2 (sym left ∙ (e ∙ right)) in
    more_names is js m.1 n.1 x y m.4 n.4 (omega arith) first.1

-- one more index behind those
one_more : (is a b : List ℕ) (index : ℕ) → AreNames is a → Spells b index → AreNames (is ++ index ∷ []) (a ++ b)
one_more [] a b index m s =
    (b, [], s, ap (λ (z : List ℕ). z ++ b) m ∙ sym (append-nil b), refl)
one_more (i ∷ is) a b index m s =
    (m.0, m.1 ++ b, m.2, ap (λ (z : List ℕ). z ++ b) m.3 ∙ append_assoc m.0 m.1 b, one_more is m.1 b index m.4 s)

-- what follows the indexes that are passed
pub walked_rest : (whole : List ℕ) (at passed behind : ℕ) (w : Walked (drop at whole) at passed behind) → drop behind whole ≡ w.rest
walked_rest whole at passed behind w =
    ap (λ (n : ℕ). drop n whole) w.place ∙ (sym (drop-drop (length w.text) at whole) ∙ (ap (drop (length w.text)) w.bytes_are ∙ drop-append_seam w.text w.rest))

pub walked_none : (bytes : List ℕ) (at : ℕ) → Walked bytes at 0 at
walked_none bytes at = record {
  indexes = [];
  text = [];
  rest = bytes;
  names = refl;
  count = refl;
  bytes_are = refl;
  place = omega arith;
}

pub walked_more : (whole text rest : List ℕ) (at passed behind next index : ℕ) → Walked (drop at whole) at passed behind → Spells text index → drop behind whole ≡ text ++ rest → next ≡ behind + length text → Walked (drop at whole) at (passed + 1) next
walked_more whole text rest at passed behind next index w s e place =
    let follows : w.rest ≡ text ++ rest = sym (walked_rest whole at passed behind w) ∙ e in
    record {
      indexes = w.indexes ++ index ∷ [];
      text = w.text ++ text;
      rest = rest;
      names = one_more w.indexes w.text text index w.names s;
      count = omega (arith, length_push w.indexes index, w.count);
      bytes_are = w.bytes_are ∙ (ap (λ (z : List ℕ). w.text ++ z) follows ∙ sym (append_assoc w.text text rest));
      place = omega (arith, length-append w.text text, w.place, place);
    }

-- the place behind the indexes is inside the bytes
pub walked_within : (whole : List ℕ) (at passed behind : ℕ) → at ≤ length whole → Walked (drop at whole) at passed behind → behind ≤ length whole
walked_within whole at passed behind within w =
    omega (arith, w.place, ap length w.bytes_are, length-append w.text w.rest, length-drop at whole)

not_more : (is js a b x y : List ℕ) → AreNames is a → AreNames js b → a ++ x ≡ b ++ y → (EndsInside x ⊎ PassesForm x) → length is < length js → ⊥
not_more is js a b x y m n e (inl inside) l =
    let f = more_names is js a b x y m n l e in
    not_inside x f.0 f.1 f.2 f.3.groups f.4 inside
not_more is js a b x y m n e (inr past) l =
    let f = more_names is js a b x y m n l e in
    not_past x f.0 f.1 f.2 f.3 f.4 past

-- bytes end inside an index, and at no place has one no spelling
end_or_pass : (is js a b x y : List ℕ) → AreNames is a → AreNames js b → a ++ x ≡ b ++ y → EndsInside x → PassesForm y → ⊥
end_or_pass is js a b x y m n e inside past =
    elim (ltb (length is) (length js)) as (λ t. ltb (length is) (length js) ≡ t → ⊥) [
      | true ↦ λ h.
          let fewer : length is < length js = grind (arith, nat_tests) in
          not_more is js a b x y m n e (inl inside) fewer
      | false ↦ λ h.
          elim (ltb (length js) (length is)) as (λ t. ltb (length js) (length is) ≡ t → ⊥) [
            | true ↦ λ i.
                let fewer : length js < length is = grind (arith, nat_tests) in
                not_more js is b a y x n m (sym e) (inr past) fewer
            | false ↦ λ i.
                let as_many : length is ≡ length js = grind (arith, nat_tests) in
                let rests = (same_names is js a b x y m n as_many e).1 in
                not_both y (subst EndsInside rests inside) past
          ] refl
    ] refl

pub names_found : (bytes : List ℕ) (at count behind : ℕ) → Walked bytes at count behind → NamesResult bytes at count (names_read behind)
names_found bytes at count behind w = record {
  only = λ is text rest names counted e.
      let texts = (same_names w.indexes is w.text text w.rest rest w.names names (w.count ∙ sym counted) (sym w.bytes_are ∙ e)).0 in
      let place : behind ≡ at + length text = w.place ∙ ap (λ (z : List ℕ). at + length z) texts in
      ap names_read place;
  truncated = (
    λ e. absurd cc,
    λ p. absurd (not_more p.indexes w.indexes p.text w.text p.rest w.rest p.names w.names (sym p.bytes_are ∙ w.bytes_are) (inl p.inside) (omega (arith, p.few, w.count))),
  );
  too_big = (
    λ e. absurd cc,
    λ p. absurd (not_more p.indexes w.indexes p.text w.text p.rest w.rest p.names w.names (sym p.bytes_are ∙ w.bytes_are) (inr p.past) (omega (arith, p.few, w.count))),
  );
}

pub names_end : (bytes : List ℕ) (at count passed behind : ℕ) (w : Walked bytes at passed behind) → passed < count → EndsInside w.rest → NamesResult bytes at count (names_refused faults.Truncated)
names_end bytes at count passed behind w few inside = record {
  only = λ is text rest names counted e.
      absurd (not_more w.indexes is w.text text w.rest rest w.names names (sym w.bytes_are ∙ e) (inl inside) (omega (arith, w.count, counted, few)));
  truncated = (
    λ _. record { text = w.text; rest = w.rest; indexes = w.indexes; bytes_are = w.bytes_are; names = w.names; few = omega (arith, w.count, few); inside = inside },
    λ _. refl,
  );
  too_big = (
    λ e. absurd cc,
    λ p. absurd (end_or_pass w.indexes p.indexes w.text p.text w.rest p.rest w.names p.names (sym w.bytes_are ∙ p.bytes_are) inside p.past),
  );
}

pub names_pass : (bytes : List ℕ) (at count passed behind : ℕ) (w : Walked bytes at passed behind) → passed < count → PassesForm w.rest → NamesResult bytes at count (names_refused faults.TooBig)
names_pass bytes at count passed behind w few past = record {
  only = λ is text rest names counted e.
      absurd (not_more w.indexes is w.text text w.rest rest w.names names (sym w.bytes_are ∙ e) (inr past) (omega (arith, w.count, counted, few)));
  truncated = (
    λ e. absurd cc,
    λ p. absurd (end_or_pass p.indexes w.indexes p.text w.text p.rest w.rest p.names w.names (sym p.bytes_are ∙ w.bytes_are) p.inside past),
  );
  too_big = (
    λ _. record { text = w.text; rest = w.rest; indexes = w.indexes; bytes_are = w.bytes_are; names = w.names; few = omega (arith, w.count, few); past = past },
    λ _. refl,
  );
}

-- a fault of the index behind those that are passed
pub names_fault : (whole : List ℕ) (at count passed behind : ℕ) (fault : PreludeFault) → Walked (drop at whole) at passed behind → passed < count → (fault ≡ faults.Truncated → EndsInside (drop behind whole)) → (fault ≡ faults.TooBig → PassesForm (drop behind whole)) → (fault ≡ faults.Outside → ⊥) → NamesResult (drop at whole) at count (names_refused fault)
names_fault whole at count passed behind faults.Truncated w few inside past outside =
    names_end (drop at whole) at count passed behind w few (subst EndsInside (walked_rest whole at passed behind w) (inside refl))
names_fault whole at count passed behind faults.TooBig w few inside past outside =
    names_pass (drop at whole) at count passed behind w few (subst PassesForm (walked_rest whole at passed behind w) (past refl))
names_fault whole at count passed behind faults.Outside w few inside past outside = absurd (outside refl)

spelled : (indexes : List ℕ) → AllByRecursion (λ index. index < 2 ^ 31) indexes → AreNames indexes (spelling indexes)
spelled [] all = refl
spelled (index ∷ indexes) all = (vuint index, spelling indexes, vuint_spells index all.0, refl, spelled indexes all.1)

-- indexes that are written are names
pub names_spelled : (indexes : List ℕ) → All (λ index. index < 2 ^ 31) indexes → AreNames indexes (spelling indexes)
names_spelled indexes all = spelled indexes (recursion_from_All (λ index. index < 2 ^ 31) indexes all)

pub same_indexes : (is js a b x y : List ℕ) → AreNames is a → AreNames js b → length is ≡ length js → a ++ x ≡ b ++ y → is ≡ js
same_indexes [] [] a b x y m n l e = refl
same_indexes [] (j ∷ js) a b x y m n l e = absurd (omega arith)
same_indexes (i ∷ is) [] a b x y m n l e = absurd (omega arith)
same_indexes (i ∷ is) (j ∷ js) a b x y m n l e =
    let left = ap (λ (z : List ℕ). z ++ x) m.3 ∙ append_assoc m.0 m.1 x in
    let right = ap (λ (z : List ℕ). z ++ y) n.3 ∙ append_assoc n.0 n.1 y in
    let parts = sym left ∙ (e ∙ right) in
    let first = same_number m.0 n.0 (m.1 ++ x) (n.1 ++ y) i j m.2 n.2 parts in
    let number = (one_number m.0 n.0 (m.1 ++ x) (n.1 ++ y) i j m.2.groups n.2.groups parts).1 in
    let others = same_indexes is js m.1 n.1 x y m.4 n.4 (omega arith) first.1 in
    ap (λ (k : ℕ). k ∷ is) number ∙ ap (λ (z : List ℕ). j ∷ z) others
