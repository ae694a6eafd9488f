-- What is spelled is read.
use Rattle.std.proofs.Common.{◌≡◌, ℕ, zero, suc, ◌+◌, ◌*◌, ◌/◌, ◌%◌, ◌≤◌, Bool, true, false, eqb, List, [], ◌∷◌, ◌++◌, length, Result, Ok, refl, sym, ap, subst, ◌∙◌, append_assoc, inl, inr, arith}
use Rattle.std.proofs.lemmas.List.{length_push}
use Rattle.mpy_base.specs.Vuint.{Spells}
use Rattle.mpy_base.specs.declared.limits.TheConstants.{MAX_TABLE}
use Rattle.mpy_base.specs.declared.refused.Refused.{Refused}
use Rattle.mpy_tree.specs.declared.module.Constant.{Constant}
use Rattle.mpy_tree.specs.declared.module.Constant.TheVariants as constants
use Rattle.mpy_tree.specs.declared.raw.Qstr.{Qstr}
use Rattle.mpy_tree.specs.declared.raw.Qstr.TheVariants as qstrs
use Rattle.mpy_tree.specs.File.{Many, IsAscii, IsStatic, IsOwn, IsQstr, IsInt, IsTuple, IsAtom, IsObject}
use Rattle.mpy_reader.specs.declared.fault.FileFault.{FileFault}
use Rattle.mpy_reader.specs.declared.fault.FileFault.TheVariants.{BadQstr, BadObject}
use Rattle.mpy_reader.specs.Reading.{Reading, Field, goes_on, choose, byte, count, many, text, static_qstr, own_qstr, qstr, str, int, tuple, object_by, object, own}
use Rattle.mpy_reader.proofs.Steps.{judged}
use Rattle.mpy_reader.proofs.Objects.{tuple_in, tagged}

pub record Takes {A : Type 0} (field : List ℕ → Result (A × List ℕ) FileFault → Type 0) (Form : List ℕ → A → Type 0) : Type 0 where
  pub read : (bytes text rest : List ℕ) (x : A) → Form text x → bytes ≡ text ++ rest → field bytes (Ok (x, rest))

-- what stands behind the front of a text
pub behind_front : (bytes text front behind rest : List ℕ) → bytes ≡ text ++ rest → text ≡ front ++ behind → bytes ≡ front ++ (behind ++ rest)
behind_front bytes text front behind rest e f = e ∙ (ap (λ (z : List ℕ). z ++ rest) f ∙ append_assoc front behind rest)

chosen_true : {A : Type 0} (b : Bool) (P Q : Reading A) (o : Result A FileFault) → b ≡ true → P o → choose b P Q o
chosen_true b P Q o e h = subst (λ z. choose z P Q o) (sym e) h

chosen_false : {A : Type 0} (b : Bool) (P Q : Reading A) (o : Result A FileFault) → b ≡ false → Q o → choose b P Q o
chosen_false b P Q o e h = subst (λ z. choose z P Q o) (sym e) h

pub count_read : (bytes text rest : List ℕ) (n : ℕ) → Spells text n → n ≤ MAX_TABLE → bytes ≡ text ++ rest → count bytes (Ok (n, rest))
unfolding count
count_read bytes text rest n s few e = goes_on (n, rest) (text, s, e) (judged few refl)

pub many_read : {A : Type 0} (field : List ℕ → Field A) (Form : List ℕ → A → Type 0) → Takes field Form → (bytes text rest : List ℕ) (xs : List A) → Many Form text xs → bytes ≡ text ++ rest → many (length xs) field bytes (Ok (xs, rest))
unfolding many
many_read field Form takes bytes text rest [] none e = ap (λ z. Ok ([], z)) (sym (e ∙ ap (λ (z : List ℕ). z ++ rest) none))
many_read field Form takes bytes text rest (x ∷ xs) m e =
    goes_on (x, m.1 ++ rest) (takes.read bytes m.0 (m.1 ++ rest) x m.2 (behind_front bytes text m.0 m.1 rest e m.3))
    (goes_on (xs, rest) (many_read field Form takes (m.1 ++ rest) m.1 rest xs m.4 refl) refl)

text_read : (fault : FileFault) (len : ℕ) (bytes own rest : List ℕ) → bytes ≡ (own ++ 0 ∷ []) ++ rest → length own ≡ len → IsAscii own → text fault len bytes (Ok (own, rest))
unfolding text
text_read fault len bytes own rest e len_is ascii =
    goes_on (own ++ 0 ∷ [], rest) (e, omega (arith, length_push own 0, len_is)) (goes_on own (record { ends = refl; ascii = ascii }) refl)

half_odd : (n : ℕ) → (2 * n + 1) / 2 ≡ n
half_odd n = omega arith

odd : (n : ℕ) → eqb ((2 * n + 1) % 2) 1 ≡ true
odd n = let e : (2 * n + 1) % 2 ≡ 1 = omega arith in rw e refl

half_even : (n : ℕ) → 2 * n / 2 ≡ n
half_even n = omega arith

even : (n : ℕ) → eqb (2 * n % 2) 1 ≡ false
even n = let e : 2 * n % 2 ≡ 0 = omega arith in rw e refl

static_read : (bytes text rest : List ℕ) (n : ℕ) → IsStatic text n → bytes ≡ text ++ rest → qstr bytes (Ok (qstrs.Static n, rest))
unfolding qstr static_qstr
static_read bytes text rest n s e =
    goes_on (2 * n + 1, rest) (text, s.spells, e)
    (chosen_true (eqb ((2 * n + 1) % 2) 1) _ _ _ (odd n) (rw (half_odd n) (judged (s.from_one, s.known) refl)))

own_read : (bytes text rest : List ℕ) (own : List ℕ) → IsOwn text own → bytes ≡ text ++ rest → qstr bytes (Ok (qstrs.Own own, rest))
unfolding qstr own_qstr
own_read bytes text rest own s e =
    let len = length own in
    goes_on (2 * len, (own ++ 0 ∷ []) ++ rest) (s.front, s.spells, behind_front bytes text s.front (own ++ 0 ∷ []) rest e s.text_is)
    (chosen_false (eqb (2 * len % 2) 1) _ _ _ (even len)
    (goes_on (own, rest) (text_read BadQstr (2 * len / 2) _ own rest refl (sym (half_even len)) s.ascii) refl))

qstr_read_as : (bytes text rest : List ℕ) (q : Qstr) → IsQstr text q → bytes ≡ text ++ rest → qstr bytes (Ok (q, rest))
qstr_read_as bytes text rest (qstrs.Static n) s e = static_read bytes text rest n s e
qstr_read_as bytes text rest (qstrs.Own own) s e = own_read bytes text rest own s e

pub qstr_read : Takes qstr IsQstr
qstr_read = record { read = qstr_read_as }

-- objects
abbrev known : Constant → List ℕ → Result (Constant × List ℕ) (Refused FileFault)
known object rest = Ok (object, rest)

behind_tag : (levels : ℕ) (bytes behind rest : List ℕ) (k : ℕ) (x : Constant) → bytes ≡ k ∷ behind → object_by (tuple_in levels) k behind (Ok (x, rest)) → object levels bytes (Ok (x, rest))
behind_tag levels bytes behind rest k x e h =
    tagged levels bytes (λ (z : Constant × List ℕ). z) (known x rest) k k behind (subst (λ z. byte z (Ok (k, behind))) (sym e) refl) refl h

str_read : (bytes count own rest : List ℕ) → bytes ≡ count ++ ((own ++ 0 ∷ []) ++ rest) → Spells count (length own) → IsAscii own → str bytes (Ok (constants.Str own, rest))
unfolding str
str_read bytes count own rest e s ascii =
    goes_on (length own, (own ++ 0 ∷ []) ++ rest) (count, s, e) (goes_on (own, rest) (text_read (BadObject 5) (length own) _ own rest refl refl ascii) refl)

int_read : (bytes rest : List ℕ) (x : Constant) (text : List ℕ) (s : IsInt text x) → bytes ≡ s.count ++ (s.digits ++ rest) → int bytes (Ok (constants.Int s.n, rest))
unfolding int
int_read bytes rest x text s e =
    goes_on (length s.digits, s.digits ++ rest) (s.count, s.spells, e) (goes_on (s.digits, rest) (refl, refl) (goes_on s.n (s.decimal, s.small) refl))

tuple_read : (inner : List ℕ → Field Constant) (Inner : List ℕ → Constant → Type 0) → Takes inner Inner → (bytes rest : List ℕ) (x : Constant) (text : List ℕ) (s : IsTuple Inner text x) → bytes ≡ s.count ++ (s.spelled ++ rest) → tuple inner bytes (Ok (constants.Tuple s.items, rest))
unfolding tuple
tuple_read inner Inner takes bytes rest x text s e =
    goes_on (length s.items, s.spelled ++ rest) (s.count, s.spells, e)
    (goes_on (s.items, rest) (many_read inner Inner takes (s.spelled ++ rest) s.spelled rest s.items s.each refl) refl)

as_object : (levels : ℕ) (bytes rest : List ℕ) (x v : Constant) → x ≡ v → object levels bytes (Ok (v, rest)) → object levels bytes (Ok (x, rest))
as_object levels bytes rest x v e h = subst (λ z. object levels bytes (Ok (z, rest))) (sym e) h

atom_read : (levels : ℕ) (bytes text rest : List ℕ) (x : Constant) → IsAtom text x → bytes ≡ text ++ rest → object levels bytes (Ok (x, rest))
unfolding object_by
atom_read levels bytes text rest x (inl s) e =
    as_object levels bytes rest x constants.None s.1 (behind_tag levels bytes rest rest 1 constants.None (e ∙ ap (λ (z : List ℕ). z ++ rest) s.0) refl)
atom_read levels bytes text rest x (inr (inl s)) e =
    as_object levels bytes rest x constants.False s.1 (behind_tag levels bytes rest rest 2 constants.False (e ∙ ap (λ (z : List ℕ). z ++ rest) s.0) refl)
atom_read levels bytes text rest x (inr (inr (inl s))) e =
    as_object levels bytes rest x constants.True s.1 (behind_tag levels bytes rest rest 3 constants.True (e ∙ ap (λ (z : List ℕ). z ++ rest) s.0) refl)
atom_read levels bytes text rest x (inr (inr (inr (inl s)))) e =
    as_object levels bytes rest x (constants.Str s.own) s.object_is
    (behind_tag levels bytes ((s.count ++ (s.own ++ 0 ∷ [])) ++ rest) rest 5 (constants.Str s.own) (e ∙ ap (λ (z : List ℕ). z ++ rest) s.text_is)
    (str_read _ s.count s.own rest (append_assoc s.count (s.own ++ 0 ∷ []) rest) s.spells s.ascii))
atom_read levels bytes text rest x (inr (inr (inr (inr s)))) e =
    as_object levels bytes rest x (constants.Int s.n) s.object_is
    (behind_tag levels bytes ((s.count ++ s.digits) ++ rest) rest 7 (constants.Int s.n) (e ∙ ap (λ (z : List ℕ). z ++ rest) s.text_is)
    (int_read _ rest x text s (append_assoc s.count s.digits rest)))

object_read_as : (levels : ℕ) (bytes text rest : List ℕ) (x : Constant) → IsObject levels text x → bytes ≡ text ++ rest → object levels bytes (Ok (x, rest))
unfolding IsObject object_by
object_read_as zero bytes text rest x s e = atom_read zero bytes text rest x s e
object_read_as (suc levels) bytes text rest x (inl s) e = atom_read (suc levels) bytes text rest x s e
object_read_as (suc levels) bytes text rest x (inr s) e =
    as_object (suc levels) bytes rest x (constants.Tuple s.items) s.object_is
    (behind_tag (suc levels) bytes ((s.count ++ s.spelled) ++ rest) rest 10 (constants.Tuple s.items) (e ∙ ap (λ (z : List ℕ). z ++ rest) s.text_is)
    (tuple_read (object levels) (IsObject levels) (record { read = object_read_as levels }) _ rest x text s (append_assoc s.count s.spelled rest)))

pub object_read : (levels : ℕ) → Takes (object levels) (IsObject levels)
object_read levels = record { read = object_read_as levels }
