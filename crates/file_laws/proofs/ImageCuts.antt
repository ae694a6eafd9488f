-- Readings of an image that is cut off.
use Rattle.std.proofs.Common.{◌≡◌, ◌≢◌, ℕ, zero, suc, Bool, true, false, List, [], ◌++◌, Result, Ok, Err, refl, sym, ap, subst, ◌∙◌, append_assoc, inl, inr}
use Rattle.image_open.specs.image_grammar.declared.fault.ImageFault.{ImageFault}
use Rattle.image_open.specs.image_grammar.declared.fault.ImageFault.TheVariants.{Truncated}
use Rattle.image_open.specs.image_grammar.Steps.{Reading, Field, Bind, goes_on, stops, pure, refuse, choose, times}
use Rattle.image_open.proofs.image_grammar_lemmas.Inversion.{bind_ok, ok_parts, read}
use Rattle.file_laws.proofs.Cuts.{not_nothing, parted}

-- of these bytes the field reads a text: it reads that text whatever follows it, and each front of it is too short
pub record IsCut {A : Type 0} (field : List ℕ → Result (A × List ℕ) ImageFault → Type 0) (bytes : List ℕ) (x : A) (rest : List ℕ) : Type 0 where
  pub text : List ℕ
  pub text_is : bytes ≡ text ++ rest
  pub onward : (other : List ℕ) → field (text ++ other) (Ok (x, other))
  pub short : (front behind : List ℕ) → text ≡ front ++ behind → behind ≢ [] → field front (Err Truncated)

-- so whatever the field reads
pub record Cuts {A : Type 0} (field : List ℕ → Result (A × List ℕ) ImageFault → Type 0) : Type 0 where
  pub cut : (bytes rest : List ℕ) (x : A) → field bytes (Ok (x, rest)) → IsCut field bytes x rest

pub cut_as : {A : Type 0} (field : List ℕ → Field A) (bytes : List ℕ) (x v : A) (rest w : List ℕ) → read x rest ≡ read v w → IsCut field bytes v w → IsCut field bytes x rest
cut_as field bytes x v rest w e h =
    let both = ok_parts x v rest w e in
    subst (λ z. IsCut field bytes z rest) (sym both.0) (subst (λ z. IsCut field bytes v z) (sym both.1) h)

-- no text
pub pure_cut : {A : Type 0} (x : A) → Cuts (λ rest. pure (x, rest))
pure_cut {A} x = record {
  cut = λ bytes rest v e. cut_as (λ rest. pure (x, rest)) bytes v x rest bytes e (record {
    text = [];
    text_is = refl;
    onward = λ other. refl;
    short = λ front behind is some. absurd (not_nothing front behind is some);
  });
}

pub refuse_cut : {A : Type 0} (fault : ImageFault) → Cuts {A = A} (λ rest. refuse fault)
refuse_cut fault = record { cut = λ bytes rest x e. absurd cc }

-- a field and then another
pub bind_cut : {A B : Type 0} (F : List ℕ → Field A) (G : A → List ℕ → Field B) → Cuts F → ((x : A) → Cuts (G x)) → Cuts (λ bytes. Bind (F bytes) (λ n. G n.0 n.1))
bind_cut {A} {B} F G first others = record { cut = bind_is } where
  bind_is : (bytes rest : List ℕ) (y : B) → Bind (F bytes) (λ n. G n.0 n.1) (Ok (y, rest)) → IsCut (λ bytes. Bind (F bytes) (λ n. G n.0 n.1)) bytes y rest
  bind_is bytes rest y h =
      let a = bind_ok _ _ _ h in
      let p = first.cut bytes a.0.1 a.0.0 a.1 in
      let q = (others a.0.0).cut a.0.1 rest y a.2 in
      record {
        text = p.text ++ q.text;
        text_is = p.text_is ∙ (ap (λ (z : List ℕ). p.text ++ z) q.text_is ∙ sym (append_assoc p.text q.text rest));
        onward = λ other. subst (λ z. Bind (F z) (λ n. G n.0 n.1) (Ok (y, other))) (sym (append_assoc p.text q.text other))
            (goes_on (a.0.0, q.text ++ other) (p.onward (q.text ++ other)) (q.onward other));
        short = λ front behind is some. elim (parted p.text q.text front behind is) [
          | inl h ↦ stops Truncated (p.short front h.0 h.1 h.2) refl
          | inr h ↦ subst (λ z. Bind (F z) (λ n. G n.0 n.1) (Err Truncated)) (sym h.1)
              (goes_on (a.0.0, h.0) (p.onward h.0) (q.short h.0 behind h.2 some))
        ];
      }

-- what doesn't read further, and then a field
pub value_cut : {V B : Type 0} (R : Reading V) (G : V → List ℕ → Field B) → ((v : V) → Cuts (G v)) → Cuts (λ bytes. Bind R (λ v. G v bytes))
value_cut {V} {B} R G others = record { cut = value_is } where
  value_is : (bytes rest : List ℕ) (y : B) → Bind R (λ v. G v bytes) (Ok (y, rest)) → IsCut (λ bytes. Bind R (λ v. G v bytes)) bytes y rest
  value_is bytes rest y h =
      let a = bind_ok _ _ _ h in
      let q = (others a.0).cut bytes rest y a.2 in
      record {
        text = q.text;
        text_is = q.text_is;
        onward = λ other. goes_on a.0 a.1 (q.onward other);
        short = λ front behind is some. goes_on a.0 a.1 (q.short front behind is some);
      }

pub choose_cut : {A : Type 0} (b : Bool) (P Q : List ℕ → Field A) → Cuts P → Cuts Q → Cuts (λ bytes. choose b (P bytes) (Q bytes))
choose_cut true P Q p q = record { cut = λ bytes rest x h. let c = p.cut bytes rest x h in record { text = c.text; text_is = c.text_is; onward = c.onward; short = c.short } }
choose_cut false P Q p q = record { cut = λ bytes rest x h. let c = q.cut bytes rest x h in record { text = c.text; text_is = c.text_is; onward = c.onward; short = c.short } }

-- one step after another
pub times_cut : {A : Type 0} (step : A → List ℕ → Field A) → ((x : A) → Cuts (step x)) → (n : ℕ) (x : A) → Cuts (times n step x)
unfolding times
times_cut step each zero x = let c = pure_cut x in record { cut = c.cut }
times_cut step each (suc n) x = let c = bind_cut (step x) (times n step) (each x) (times_cut step each n) in record { cut = c.cut }

-- readings that leave bytes alone
-- ===============================

pub record IsPassed (reading : List ℕ → Result (List ℕ) ImageFault → Type 0) (bytes rest : List ℕ) : Type 0 where
  pub text : List ℕ
  pub text_is : bytes ≡ text ++ rest
  pub onward : (other : List ℕ) → reading (text ++ other) (Ok other)
  pub short : (front behind : List ℕ) → text ≡ front ++ behind → behind ≢ [] → reading front (Err Truncated)

pub record Passes (reading : List ℕ → Result (List ℕ) ImageFault → Type 0) : Type 0 where
  pub pass : (bytes rest : List ℕ) → reading bytes (Ok rest) → IsPassed reading bytes rest

pub pure_pass : Passes (λ bytes. pure bytes)
pure_pass = record {
  pass = λ bytes rest e. record {
    text = [];
    text_is = let same : rest ≡ bytes = cc in sym same;
    onward = λ other. refl;
    short = λ front behind is some. absurd (not_nothing front behind is some);
  };
}

pub bind_pass : {A : Type 0} (F : List ℕ → Field A) (G : A → List ℕ → Reading (List ℕ)) → Cuts F → ((x : A) → Passes (G x)) → Passes (λ bytes. Bind (F bytes) (λ n. G n.0 n.1))
bind_pass {A} F G first others = record { pass = pass_is } where
  pass_is : (bytes rest : List ℕ) → Bind (F bytes) (λ n. G n.0 n.1) (Ok rest) → IsPassed (λ bytes. Bind (F bytes) (λ n. G n.0 n.1)) bytes rest
  pass_is bytes rest h =
      let a = bind_ok _ _ _ h in
      let p = first.cut bytes a.0.1 a.0.0 a.1 in
      let q = (others a.0.0).pass a.0.1 rest a.2 in
      record {
        text = p.text ++ q.text;
        text_is = p.text_is ∙ (ap (λ (z : List ℕ). p.text ++ z) q.text_is ∙ sym (append_assoc p.text q.text rest));
        onward = λ other. subst (λ z. Bind (F z) (λ n. G n.0 n.1) (Ok other)) (sym (append_assoc p.text q.text other))
            (goes_on (a.0.0, q.text ++ other) (p.onward (q.text ++ other)) (q.onward other));
        short = λ front behind is some. elim (parted p.text q.text front behind is) [
          | inl h ↦ stops Truncated (p.short front h.0 h.1 h.2) refl
          | inr h ↦ subst (λ z. Bind (F z) (λ n. G n.0 n.1) (Err Truncated)) (sym h.1)
              (goes_on (a.0.0, h.0) (p.onward h.0) (q.short h.0 behind h.2 some))
        ];
      }

pub value_pass : {V : Type 0} (R : Reading V) (G : V → List ℕ → Reading (List ℕ)) → ((v : V) → Passes (G v)) → Passes (λ bytes. Bind R (λ v. G v bytes))
value_pass {V} R G others = record { pass = pass_is } where
  pass_is : (bytes rest : List ℕ) → Bind R (λ v. G v bytes) (Ok rest) → IsPassed (λ bytes. Bind R (λ v. G v bytes)) bytes rest
  pass_is bytes rest h =
      let a = bind_ok _ _ _ h in
      let q = (others a.0).pass bytes rest a.2 in
      record {
        text = q.text;
        text_is = q.text_is;
        onward = λ other. goes_on a.0 a.1 (q.onward other);
        short = λ front behind is some. goes_on a.0 a.1 (q.short front behind is some);
      }

pub choose_pass : (b : Bool) (P Q : List ℕ → Reading (List ℕ)) → Passes P → Passes Q → Passes (λ bytes. choose b (P bytes) (Q bytes))
choose_pass true P Q p q = record { pass = λ bytes rest h. let c = p.pass bytes rest h in record { text = c.text; text_is = c.text_is; onward = c.onward; short = c.short } }
choose_pass false P Q p q = record { pass = λ bytes rest h. let c = q.pass bytes rest h in record { text = c.text; text_is = c.text_is; onward = c.onward; short = c.short } }

-- readings of all the bytes
-- =========================

pub record Ends {B : Type 0} (reading : List ℕ → Result B ImageFault → Type 0) : Type 0 where
  pub cut : (front behind : List ℕ) (y : B) → reading (front ++ behind) (Ok y) → behind ≢ [] → reading front (Err Truncated)

pub bind_ends : {A B : Type 0} (F : List ℕ → Field A) (G : A → List ℕ → Reading B) → Cuts F → ((x : A) → Ends (G x)) → Ends (λ bytes. Bind (F bytes) (λ n. G n.0 n.1))
bind_ends {A} {B} F G first others = record { cut = cut_is } where
  cut_is : (front behind : List ℕ) (y : B) → Bind (F (front ++ behind)) (λ n. G n.0 n.1) (Ok y) → behind ≢ [] → Bind (F front) (λ n. G n.0 n.1) (Err Truncated)
  cut_is front behind y h some =
      let a = bind_ok _ _ _ h in
      let p = first.cut (front ++ behind) a.0.1 a.0.0 a.1 in
      elim (parted p.text a.0.1 front behind (sym p.text_is)) [
        | inl h ↦ stops Truncated (p.short front h.0 h.1 h.2) refl
        | inr h ↦ subst (λ z. Bind (F z) (λ n. G n.0 n.1) (Err Truncated)) (sym h.1)
            (goes_on (a.0.0, h.0) (p.onward h.0) ((others a.0.0).cut h.0 behind y (subst (λ z. G a.0.0 z (Ok y)) h.2 a.2) some))
      ]

pub pass_ends : {B : Type 0} (F : List ℕ → Reading (List ℕ)) (G : List ℕ → Reading B) → Passes F → Ends G → Ends (λ bytes. Bind (F bytes) G)
pass_ends {B} F G first others = record { cut = cut_is } where
  cut_is : (front behind : List ℕ) (y : B) → Bind (F (front ++ behind)) G (Ok y) → behind ≢ [] → Bind (F front) G (Err Truncated)
  cut_is front behind y h some =
      let a = bind_ok _ _ _ h in
      let p = first.pass (front ++ behind) a.0 a.1 in
      elim (parted p.text a.0 front behind (sym p.text_is)) [
        | inl h ↦ stops Truncated (p.short front h.0 h.1 h.2) refl
        | inr h ↦ subst (λ z. Bind (F z) G (Err Truncated)) (sym h.1)
            (goes_on h.0 (p.onward h.0) (others.cut h.0 behind y (subst (λ z. G z (Ok y)) h.2 a.2) some))
      ]

pub value_ends : {V B : Type 0} (R : Reading V) (G : V → List ℕ → Reading B) → ((v : V) → Ends (G v)) → Ends (λ bytes. Bind R (λ v. G v bytes))
value_ends {V} {B} R G others = record {
  cut = λ front behind y h some. let a = bind_ok _ _ _ h in goes_on a.0 a.1 ((others a.0).cut front behind y a.2 some);
}
