-- What is read is spelled so.
use Rattle.std.proofs.Common.{◌≡◌, ◌⊎◌, ℕ, zero, suc, ◌+◌, ◌*◌, ◌/◌, ◌%◌, ◌≤◌, Bool, true, false, eqb, List, [], ◌∷◌, ◌++◌, length, Result, Ok, Err, refl, sym, ap, subst, ◌∙◌, append_assoc, inl, inr, arith}
use Rattle.std.proofs.lemmas.Bool.{eqb-true, eqb-false}
use Rattle.std.proofs.lemmas.List.{length_push}
use Rattle.mpy_base.specs.Vuint.{Spells}
use Rattle.mpy_base.specs.declared.limits.TheConstants.{MAX_TABLE}
use Rattle.mpy_tree.specs.declared.module.Constant.{Constant}
use Rattle.mpy_tree.specs.declared.module.Constant.TheVariants as constants
use Rattle.mpy_tree.specs.declared.raw.Qstr.TheVariants as qstrs
use Rattle.mpy_tree.specs.File.{Many, IsAscii, IsQstr, IsStr, IsInt, IsTuple, IsAtom, IsObject}
use Rattle.mpy_reader.specs.declared.fault.FileFault.{FileFault}
use Rattle.mpy_reader.specs.declared.fault.FileFault.TheVariants.{Truncated, BadObject, TooBig}
use Rattle.mpy_reader.specs.Reading.{Reading, Field, Bind, goes_on, stops, refuse, judge, choose, byte, count, many, text, static_qstr, own_qstr, qstr, str, int, tuple, object_by, object, own}

abbrev pub done : {A : Type 0} → A → Result A FileFault
done x = Ok x

abbrev pub read : {A B : Type 0} → A → B → Result (A × B) FileFault
read x rest = Ok (x, rest)

-- the value of steps that have no fault
pub bind_ok : {A B : Type 0} (R : Reading A) (Q : A → Reading B) (y : B) → Bind R Q (Ok y) → (x : A) × R (Ok x) × Q x (Ok y)
bind_ok R Q y (goes_on x r q) = (x, r, q)
bind_ok R Q y (stops fault h e) = absurd cc

pub judge_ok : {B : Type 0} (Fact : Type 0) (fault : FileFault) (Q : Unit {0} → Reading B) (y : B) → Bind (judge Fact fault) Q (Ok y) → Fact × Q tt (Ok y)
judge_ok Fact fault Q y (goes_on x (inl fact) q) = (fact.0, q)
judge_ok Fact fault Q y (goes_on x (inr never) q) = let e : done x ≡ Err fault = never.1 in absurd cc
judge_ok Fact fault Q y (stops f h e) = absurd cc

pub ok_is : {A : Type 0} (x y : A) → done x ≡ done y → x ≡ y
ok_is x y e = cc

pub ok_parts : {A B : Type 0} (x v : A) (rest w : B) → read x rest ≡ read v w → (x ≡ v) × (rest ≡ w)
ok_parts {A} {B} x v rest w e =
    let p : A × B = (x, rest) in
    let q : A × B = (v, w) in
    let same : p ≡ q = ok_is p q e in
    (ap (λ (z : A × B). z.0) same, ap (λ (z : A × B). z.1) same)

pub chosen : {A : Type 0} (b : Bool) (P Q : Reading A) (o : Result A FileFault) → choose b P Q o → ((b ≡ true) × P o) ⊎ ((b ≡ false) × Q o)
chosen true P Q o h = inl (refl, h)
chosen false P Q o h = inr (refl, h)

-- bytes begin with a spelling
abbrev pub Spelt : {A : Type 0} → (List ℕ → A → Type 0) → List ℕ → A → List ℕ → Type 0
Spelt Form bytes x rest = (text : List ℕ) × Form text x × (bytes ≡ text ++ rest)

pub spelt_as : {A : Type 0} (Form : List ℕ → A → Type 0) (bytes : List ℕ) (x v : A) (rest w : List ℕ) → read x rest ≡ read v w → Spelt Form bytes v w → Spelt Form bytes x rest
spelt_as Form bytes x v rest w e h =
    let both = ok_parts x v rest w e in
    subst (λ z. Spelt Form bytes z rest) (sym both.0) (subst (λ z. Spelt Form bytes v z) (sym both.1) h)

pub record Finds {A : Type 0} (field : List ℕ → Result (A × List ℕ) FileFault → Type 0) (Form : List ℕ → A → Type 0) : Type 0 where
  pub found : (bytes rest : List ℕ) (x : A) → field bytes (Ok (x, rest)) → Spelt Form bytes x rest

pub count_found : (bytes rest : List ℕ) (n : ℕ) → count bytes (Ok (n, rest)) → Spelt Spells bytes n rest × (n ≤ MAX_TABLE)
unfolding count
count_found bytes rest n h =
    let a = bind_ok _ _ _ h in
    let b = judge_ok _ _ _ _ a.2 in
    let both = ok_parts n a.0.0 rest a.0.1 b.1 in
    (subst (λ z. Spelt Spells bytes z rest) (sym both.0) (subst (λ z. Spelt Spells bytes a.0.0 z) (sym both.1) a.1), subst (λ z. z ≤ MAX_TABLE) (sym both.0) b.0)

pub many_found : {A : Type 0} (field : List ℕ → Field A) (Form : List ℕ → A → Type 0) (finds : Finds field Form) (n : ℕ) (bytes rest : List ℕ) (xs : List A) → many n field bytes (Ok (xs, rest)) → Spelt (Many Form) bytes xs rest × (length xs ≡ n)
unfolding many
many_found field Form finds zero bytes rest xs h =
    let both = ok_parts xs [] rest bytes h in
    let whole : Spelt (Many Form) bytes [] bytes = ([], refl, refl) in
    (spelt_as (Many Form) bytes xs [] rest bytes h whole, ap length both.0)
many_found field Form finds (suc n) bytes rest xs h =
    let a = bind_ok _ _ _ h in
    let b = bind_ok _ _ _ a.2 in
    let first = finds.found bytes a.0.1 a.0.0 a.1 in
    let others = many_found field Form finds n a.0.1 b.0.1 b.0.0 b.1 in
    let whole : Spelt (Many Form) bytes (a.0.0 ∷ b.0.0) b.0.1 =
    (first.0 ++ others.0.0, (first.0, others.0.0, first.1, refl, others.0.1), first.2 ∙ (ap (λ (z : List ℕ). first.0 ++ z) others.0.2 ∙ sym (append_assoc first.0 others.0.0 b.0.1))) in
    let both = ok_parts xs (a.0.0 ∷ b.0.0) rest b.0.1 b.2 in
    (spelt_as (Many Form) bytes xs (a.0.0 ∷ b.0.0) rest b.0.1 b.2 whole, ap length both.0 ∙ ap suc others.1)

-- a text with its zero byte
pub record TextFound (len : ℕ) (bytes own rest : List ℕ) : Type 0 where
  pub bytes_are : bytes ≡ (own ++ 0 ∷ []) ++ rest
  pub length_is : length own ≡ len
  pub ascii : IsAscii own

pub text_found : (fault : FileFault) (len : ℕ) (bytes own rest : List ℕ) → text fault len bytes (Ok (own, rest)) → TextFound len bytes own rest
unfolding text
text_found fault len bytes own rest h =
    let a = bind_ok _ _ _ h in
    let b = bind_ok _ _ _ a.2 in
    let both = ok_parts own b.0 rest a.0.1 b.2 in
    let lengths : length a.0.0 ≡ length (b.0 ++ 0 ∷ []) = ap length b.1.ends in
    let whole : TextFound len bytes b.0 a.0.1 = record {
      bytes_are = a.1.0 ∙ ap (λ (z : List ℕ). z ++ a.0.1) b.1.ends;
      length_is = omega (arith, lengths, length_push b.0 0, a.1.1);
      ascii = b.1.ascii;
    } in
    subst (λ z. TextFound len bytes z rest) (sym both.0) (subst (λ z. TextFound len bytes b.0 z) (sym both.1) whole)

odd_is : (n : ℕ) → eqb (n % 2) 1 ≡ true → n ≡ 2 * (n / 2) + 1
odd_is n e = let odd : n % 2 ≡ 1 = eqb-true _ _ e in omega arith

even_is : (n : ℕ) → eqb (n % 2) 1 ≡ false → n ≡ 2 * (n / 2)
even_is n e = let even : n % 2 ≡ 1 → ⊥ = eqb-false _ _ e in omega arith

pub qstr_found : Finds qstr IsQstr
unfolding qstr static_qstr own_qstr
qstr_found = record {
  found = λ bytes rest q h.
      let a = bind_ok _ _ _ h in
      let n = a.0.0 in
      elim (chosen (eqb (n % 2) 1) (static_qstr (n / 2) a.0.1) (own_qstr (n / 2) a.0.1) (Ok (q, rest)) a.2) [
        | inl s ↦
            let b = judge_ok _ _ _ _ s.1 in
            spelt_as IsQstr bytes q (qstrs.Static (n / 2)) rest a.0.1 b.1
            (a.1.0, record { spells = subst (λ z. Spells a.1.0 z) (odd_is n s.0) a.1.1; from_one = b.0.0; known = b.0.1 }, a.1.2)
        | inr s ↦
            let b = bind_ok _ _ _ s.1 in
            let t = text_found _ _ _ _ _ b.1 in
            let len = t.length_is in
            let twice : n ≡ 2 * length b.0.0 = omega (arith, even_is n s.0, len) in
            spelt_as IsQstr bytes q (qstrs.Own b.0.0) rest b.0.1 b.2 (
              a.1.0 ++ (b.0.0 ++ 0 ∷ []),
              record { front = a.1.0; text_is = refl; spells = subst (λ z. Spells a.1.0 z) twice a.1.1; ascii = t.ascii },
              a.1.2 ∙ (ap (λ (z : List ℕ). a.1.0 ++ z) t.bytes_are ∙ sym (append_assoc a.1.0 (b.0.0 ++ 0 ∷ []) b.0.1)),
            )
      ];
}

-- objects
byte_found : (bytes rest : List ℕ) (b : ℕ) → byte bytes (Ok (b, rest)) → bytes ≡ b ∷ rest
byte_found [] rest b h = let e : read b rest ≡ Err Truncated = h in absurd cc
byte_found (first ∷ others) rest b h =
    let both = ok_parts b first rest others h in
    let heads : first ≡ b = sym both.0 in
    let tails : others ≡ rest = sym both.1 in
    cc

-- an object behind its tag
abbrev Tagged : ((List ℕ → Constant → Type 0)) → ℕ → List ℕ → Constant → List ℕ → Type 0
Tagged Form tag bytes x rest = (text : List ℕ) × Form (tag ∷ text) x × (bytes ≡ text ++ rest)

tagged_as : (Form : List ℕ → Constant → Type 0) (tag : ℕ) (bytes : List ℕ) (x v : Constant) (rest w : List ℕ) → read x rest ≡ read v w → Tagged Form tag bytes v w → Tagged Form tag bytes x rest
tagged_as Form tag bytes x v rest w e h =
    let both = ok_parts x v rest w e in
    subst (λ z. Tagged Form tag bytes z rest) (sym both.0) (subst (λ z. Tagged Form tag bytes v z) (sym both.1) h)

str_found : (bytes rest : List ℕ) (x : Constant) → str bytes (Ok (x, rest)) → Tagged IsStr 5 bytes x rest
unfolding str
str_found bytes rest x h =
    let a = bind_ok _ _ _ h in
    let b = bind_ok _ _ _ a.2 in
    let t = text_found _ _ _ _ _ b.1 in
    tagged_as IsStr 5 bytes x (constants.Str b.0.0) rest b.0.1 b.2 (
      a.1.0 ++ (b.0.0 ++ 0 ∷ []),
      record { count = a.1.0; own = b.0.0; text_is = refl; spells = subst (λ z. Spells a.1.0 z) (sym t.length_is) a.1.1; ascii = t.ascii; object_is = refl },
      a.1.2 ∙ (ap (λ (z : List ℕ). a.1.0 ++ z) t.bytes_are ∙ sym (append_assoc a.1.0 (b.0.0 ++ 0 ∷ []) b.0.1)),
    )

int_found : (bytes rest : List ℕ) (x : Constant) → int bytes (Ok (x, rest)) → Tagged IsInt 7 bytes x rest
unfolding int
int_found bytes rest x h =
    let a = bind_ok _ _ _ h in
    let b = bind_ok _ _ _ a.2 in
    let d = bind_ok _ _ _ b.2 in
    tagged_as IsInt 7 bytes x (constants.Int d.0) rest b.0.1 d.2 (
      a.1.0 ++ b.0.0,
      record { count = a.1.0; digits = b.0.0; n = d.0; text_is = refl; spells = subst (λ z. Spells a.1.0 z) (sym b.1.1) a.1.1; decimal = d.1.0; small = d.1.1; object_is = refl },
      a.1.2 ∙ (ap (λ (z : List ℕ). a.1.0 ++ z) b.1.0 ∙ sym (append_assoc a.1.0 b.0.0 b.0.1)),
    )

tuple_found : (inner : List ℕ → Field Constant) (Inner : List ℕ → Constant → Type 0) → Finds inner Inner → (bytes rest : List ℕ) (x : Constant) → tuple inner bytes (Ok (x, rest)) → Tagged (IsTuple Inner) 10 bytes x rest
unfolding tuple
tuple_found inner Inner finds bytes rest x h =
    let a = bind_ok _ _ _ h in
    let b = bind_ok _ _ _ a.2 in
    let m = many_found inner Inner finds a.0.0 a.0.1 b.0.1 b.0.0 b.1 in
    tagged_as (IsTuple Inner) 10 bytes x (constants.Tuple b.0.0) rest b.0.1 b.2 (
      a.1.0 ++ m.0.0,
      record { count = a.1.0; spelled = m.0.0; items = b.0.0; text_is = refl; spells = subst (λ z. Spells a.1.0 z) (sym m.1) a.1.1; each = m.0.1; object_is = refl },
      a.1.2 ∙ (ap (λ (z : List ℕ). a.1.0 ++ z) m.0.2 ∙ sym (append_assoc a.1.0 m.0.0 b.0.1)),
    )

-- what a tag has behind it: an atom, or a tuple
by_tag : (inner : List ℕ → Field Constant) (tag : ℕ) (bytes rest : List ℕ) (x : Constant) → object_by inner tag bytes (Ok (x, rest)) → Tagged IsAtom tag bytes x rest ⊎ ((tag ≡ 10) × inner bytes (Ok (x, rest)))
unfolding object_by
by_tag inner tag bytes rest x h =
    elim (chosen (eqb tag 1) _ _ _ h) [
      | inl s ↦ inl (let e : tag ≡ 1 = eqb-true _ _ s.0 in tagged_as IsAtom tag bytes x constants.None rest bytes s.1 ([], inl (ap (λ (z : ℕ). z ∷ []) e, refl), refl))
      | inr n1 ↦ elim (chosen (eqb tag 2) _ _ _ n1.1) [
        | inl s ↦ inl (let e : tag ≡ 2 = eqb-true _ _ s.0 in tagged_as IsAtom tag bytes x constants.False rest bytes s.1 ([], inr (inl (ap (λ (z : ℕ). z ∷ []) e, refl)), refl))
        | inr n2 ↦ elim (chosen (eqb tag 3) _ _ _ n2.1) [
          | inl s ↦ inl (let e : tag ≡ 3 = eqb-true _ _ s.0 in tagged_as IsAtom tag bytes x constants.True rest bytes s.1 ([], inr (inr (inl (ap (λ (z : ℕ). z ∷ []) e, refl))), refl))
          | inr n3 ↦ elim (chosen (eqb tag 5) _ _ _ n3.1) [
            | inl s ↦ inl (let e : 5 ≡ tag = sym (eqb-true _ _ s.0) in let t = str_found bytes rest x s.1 in subst (λ z. Tagged IsAtom z bytes x rest) e (t.0, inr (inr (inr (inl t.1))), t.2))
            | inr n4 ↦ elim (chosen (eqb tag 7) _ _ _ n4.1) [
              | inl s ↦ inl (let e : 7 ≡ tag = sym (eqb-true _ _ s.0) in let t = int_found bytes rest x s.1 in subst (λ z. Tagged IsAtom z bytes x rest) e (t.0, inr (inr (inr (inr t.1))), t.2))
              | inr n5 ↦ elim (chosen (eqb tag 10) _ _ _ n5.1) [
                | inl s ↦ inr (eqb-true _ _ s.0, s.1)
                | inr n6 ↦ absurd (let e : read x rest ≡ Err (BadObject tag) = n6.1 in cc)
              ]
            ]
          ]
        ]
      ]
    ]

atom_spelt : (bytes others rest : List ℕ) (tag : ℕ) (x : Constant) → bytes ≡ tag ∷ others → Tagged IsAtom tag others x rest → Spelt IsAtom bytes x rest
atom_spelt bytes others rest tag x e t = (tag ∷ t.0, t.1, e ∙ ap (λ (z : List ℕ). tag ∷ z) t.2)

pub object_found : (levels : ℕ) → Finds (object levels) (IsObject levels)
unfolding object IsObject
object_found zero = record {
  found = λ bytes rest x h.
      let a = bind_ok _ _ _ h in
      let whole = byte_found bytes a.0.1 a.0.0 a.1 in
      elim (by_tag (λ _. refuse TooBig) a.0.0 a.0.1 rest x a.2) [
        | inl t ↦ atom_spelt bytes a.0.1 rest a.0.0 x whole t
        | inr t ↦ absurd (let e : read x rest ≡ Err TooBig = t.1 in cc)
      ];
}
object_found (suc levels) = record {
  found = λ bytes rest x h.
      let a = bind_ok _ _ _ h in
      let whole = byte_found bytes a.0.1 a.0.0 a.1 in
      elim (by_tag (tuple (object levels)) a.0.0 a.0.1 rest x a.2) [
        | inl t ↦ let s = atom_spelt bytes a.0.1 rest a.0.0 x whole t in (s.0, inl s.1, s.2)
        | inr t ↦
            let s = tuple_found (object levels) (IsObject levels) (object_found levels) a.0.1 rest x t.1 in
            (10 ∷ s.0, inr s.1, whole ∙ (ap (λ (z : ℕ). z ∷ a.0.1) t.0 ∙ ap (λ (z : List ℕ). 10 ∷ z) s.2))
      ];
}
