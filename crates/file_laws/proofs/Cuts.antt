-- Readings of a text that is cut off, and of one with other bytes behind it.
use Rattle.std.proofs.Common.{◌≡◌, ◌≢◌, ◌⊎◌, ℕ, zero, suc, Bool, true, false, List, [], ◌∷◌, ◌++◌, Result, Ok, Err, refl, sym, ap, subst, ◌∙◌, append_assoc, inl, inr}
use Rattle.image_open.specs.mpy_reader.declared.fault.FileFault.{FileFault}
use Rattle.image_open.specs.mpy_reader.declared.fault.FileFault.TheVariants.{Truncated}
use Rattle.image_open.specs.mpy_reader.Reading.{Reading, Field, Bind, goes_on, stops, pure, refuse, choose, many}
use Rattle.image_open.proofs.mpy_reader_lemmas.Found.{bind_ok, read, ok_parts}

-- of these bytes the field reads a text: it reads that text whatever follows it, and each front of it is too short
pub record IsCut {A : Type 0} (field : List ℕ → Result (A × List ℕ) FileFault → Type 0) (bytes : List ℕ) (x : A) (rest : List ℕ) : Type 0 where
  pub text : List ℕ
  pub text_is : bytes ≡ text ++ rest
  pub onward : (other : List ℕ) → field (text ++ other) (Ok (x, other))
  pub short : (front behind : List ℕ) → text ≡ front ++ behind → behind ≢ [] → field front (Err Truncated)

-- so whatever the field reads
pub record Cuts {A : Type 0} (field : List ℕ → Result (A × List ℕ) FileFault → Type 0) : Type 0 where
  pub cut : (bytes rest : List ℕ) (x : A) → field bytes (Ok (x, rest)) → IsCut field bytes x rest

pub cut_as : {A : Type 0} (field : List ℕ → Field A) (bytes : List ℕ) (x v : A) (rest w : List ℕ) → read x rest ≡ read v w → IsCut field bytes v w → IsCut field bytes x rest
cut_as field bytes x v rest w e h =
    let both = ok_parts x v rest w e in
    subst (λ z. IsCut field bytes z rest) (sym both.0) (subst (λ z. IsCut field bytes v z) (sym both.1) h)

-- a front of two texts ends inside the first, or is the first and a front of the second
abbrev pub Parted : List ℕ → List ℕ → List ℕ → List ℕ → Type 0
Parted first second front behind =
    ((middle : List ℕ) × (first ≡ front ++ middle) × (middle ≢ []))
    ⊎ ((more : List ℕ) × (front ≡ first ++ more) × (second ≡ more ++ behind))

pub parted : (first second front behind : List ℕ) → first ++ second ≡ front ++ behind → Parted first second front behind
parted [] second front behind e = inr (front, refl, e)
parted (x ∷ first) second [] behind e = inl (x ∷ first, refl, λ none. cc)
parted (x ∷ first) second (y ∷ front) behind e =
    let heads : x ≡ y = cc in
    let tails : first ++ second ≡ front ++ behind = cc in
    elim (parted first second front behind tails) [
      | inl h ↦ let inside : x ∷ first ≡ (y ∷ front) ++ h.0 = (let is = h.1 in cc) in inl (h.0, inside, h.2)
      | inr h ↦ let whole : y ∷ front ≡ (x ∷ first) ++ h.0 = (let is = h.1 in cc) in inr (h.0, whole, h.2)
    ]

-- nothing is no front of nothing with something behind it
pub not_nothing : (front behind : List ℕ) → [] ≡ front ++ behind → behind ≢ [] → ⊥
not_nothing [] behind e some = some (sym e)
not_nothing (x ∷ front) behind e some = absurd cc

-- no text
pub pure_cut : {A : Type 0} (x : A) → Cuts (λ rest. pure (x, rest))
pure_cut {A} x = record {
  cut = λ bytes rest v e. cut_as (λ rest. pure (x, rest)) bytes v x rest bytes e (record {
    text = [];
    text_is = refl;
    onward = λ other. refl;
    short = λ front behind is some. absurd (not_nothing front behind is some);
  });
}

pub refuse_cut : {A : Type 0} (fault : FileFault) → Cuts {A = A} (λ rest. refuse fault)
refuse_cut fault = record { cut = λ bytes rest x e. absurd cc }

-- a field and then another
pub bind_cut : {A B : Type 0} (F : List ℕ → Field A) (G : A → List ℕ → Field B) → Cuts F → ((x : A) → Cuts (G x)) → Cuts (λ bytes. Bind (F bytes) (λ n. G n.0 n.1))
bind_cut {A} {B} F G first others = record { cut = bind_is } where
  bind_is : (bytes rest : List ℕ) (y : B) → Bind (F bytes) (λ n. G n.0 n.1) (Ok (y, rest)) → IsCut (λ bytes. Bind (F bytes) (λ n. G n.0 n.1)) bytes y rest
  bind_is bytes rest y h =
      let a = bind_ok _ _ _ h in
      let p = first.cut bytes a.0.1 a.0.0 a.1 in
      let q = (others a.0.0).cut a.0.1 rest y a.2 in
      record {
        text = p.text ++ q.text;
        text_is = p.text_is ∙ (ap (λ (z : List ℕ). p.text ++ z) q.text_is ∙ sym (append_assoc p.text q.text rest));
        onward = λ other. subst (λ z. Bind (F z) (λ n. G n.0 n.1) (Ok (y, other))) (sym (append_assoc p.text q.text other))
            (goes_on (a.0.0, q.text ++ other) (p.onward (q.text ++ other)) (q.onward other));
        short = λ front behind is some. elim (parted p.text q.text front behind is) [
          | inl h ↦ stops Truncated (p.short front h.0 h.1 h.2) refl
          | inr h ↦ subst (λ z. Bind (F z) (λ n. G n.0 n.1) (Err Truncated)) (sym h.1)
              (goes_on (a.0.0, h.0) (p.onward h.0) (q.short h.0 behind h.2 some))
        ];
      }

-- what doesn't read further, and then a field
pub value_cut : {V B : Type 0} (R : Reading V) (G : V → List ℕ → Field B) → ((v : V) → Cuts (G v)) → Cuts (λ bytes. Bind R (λ v. G v bytes))
value_cut {V} {B} R G others = record { cut = value_is } where
  value_is : (bytes rest : List ℕ) (y : B) → Bind R (λ v. G v bytes) (Ok (y, rest)) → IsCut (λ bytes. Bind R (λ v. G v bytes)) bytes y rest
  value_is bytes rest y h =
      let a = bind_ok _ _ _ h in
      let q = (others a.0).cut bytes rest y a.2 in
      record {
        text = q.text;
        text_is = q.text_is;
        onward = λ other. goes_on a.0 a.1 (q.onward other);
        short = λ front behind is some. goes_on a.0 a.1 (q.short front behind is some);
      }

pub choose_cut : {A : Type 0} (b : Bool) (P Q : List ℕ → Field A) → Cuts P → Cuts Q → Cuts (λ bytes. choose b (P bytes) (Q bytes))
choose_cut true P Q p q = record { cut = λ bytes rest x h. let c = p.cut bytes rest x h in record { text = c.text; text_is = c.text_is; onward = c.onward; short = c.short } }
choose_cut false P Q p q = record { cut = λ bytes rest x h. let c = q.cut bytes rest x h in record { text = c.text; text_is = c.text_is; onward = c.onward; short = c.short } }

-- one field after another
pub many_cut : {A : Type 0} (field : List ℕ → Field A) → Cuts field → (n : ℕ) → Cuts (many n field)
unfolding many
many_cut field each zero = let c = pure_cut [] in record { cut = c.cut }
many_cut field each (suc n) =
    let c = bind_cut field (λ x bytes. Bind (many n field bytes) (λ others. pure (x ∷ others.0, others.1))) each
    (λ x. bind_cut (many n field) (λ xs rest. pure (x ∷ xs, rest)) (many_cut field each n) (λ xs. pure_cut (x ∷ xs))) in
    record { cut = c.cut }
