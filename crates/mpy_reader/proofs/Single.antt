-- Bytes are read in one way.
use Rattle.std.proofs.Common.{◌≡◌, ◌⊎◌, ℕ, zero, suc, ◌+◌, ◌/◌, ◌%◌, ◌≤◌, Bool, true, false, eqb, List, [], ◌∷◌, ◌++◌, length, take, drop, Result, Ok, Err, refl, sym, ap, subst, ◌∙◌, inl, inr, arith, length-append, ℤ, pos, ◌-ℤ◌}
use Rattle.std.proofs.lemmas.List.{append_cancel_left, append_cancel_right, take_at, drop_at}
use Rattle.std.specs.Str.Parse.{digits_value}
use Rattle.mpy_base.proofs.Groups as groups
use Rattle.mpy_tree.specs.bc_prelude.declared.signature.Signature.{Signature}
use Rattle.mpy_tree.specs.bc_prelude.Signature.{IsSignature}
use Rattle.mpy_tree.specs.bc_prelude.Size.{IsSize, SizeEnds, HasCells}
use Rattle.mpy_tree.proofs.bc_prelude_lemmas.Chains.{one_chain}
use Rattle.mpy_tree.proofs.bc_prelude_lemmas.Signatures.{signature_found, signature_big, same_signature}
use Rattle.mpy_tree.proofs.bc_prelude_lemmas.Sizes.{size_found}
use Rattle.mpy_tree.specs.declared.module.Constant.{Constant}
use Rattle.mpy_tree.specs.declared.raw.RawCode.{RawCode}
use Rattle.mpy_tree.specs.File.{IsDecimal}
use Rattle.mpy_reader.specs.declared.fault.FileFault.{FileFault}
use Rattle.mpy_reader.specs.declared.fault.FileFault.TheVariants.{BadHeader, Incompatible, Truncated, BadQstr, BadPrelude, TooBig}
use Rattle.mpy_reader.specs.Reading.{Reading, Field, Bind, goes_on, stops, refuse, pure, judge, choose, byte, number, taken, count, many, own_of, text, static_qstr, own_qstr, qstr, str, int_of, int, tuple, object_by, object, signature, information, index, name, instructions, own_code, children, own, element, code, IsHeader, IsOther, header, parts, file}
use Rattle.std.specs.Prelude.{slice_index}
use Rattle.mpy_base.specs.declared.limits.TheConstants.{MAX_DEPTH}
use Rattle.mpy_reader.proofs.Found.{done, read, ok_is}
use Rattle.mpy_reader.proofs.Numerals.{one_sign, same_digits}

pub record IsSingle {A : Type 0} (R : Result A FileFault → Type 0) : Type 0 where
  pub same : (a b : Result A FileFault) → R a → R b → a ≡ b

abbrev failed : {A : Type 0} → FileFault → Result A FileFault
failed fault = Err fault

same_pair : {A B : Type 0} (x y : A × B) → x.0 ≡ y.0 → x.1 ≡ y.1 → x ≡ y
same_pair {A} {B} x y e f =
    let P : A → A × B = λ z. (z, x.1) in
    let Q : B → A × B = λ z. (y.0, z) in
    ap P e ∙ ap Q f

pub bind_single : {A B : Type 0} (R : Reading A) (Q : A → Reading B) → IsSingle R → ((x : A) → IsSingle (Q x)) → IsSingle (Bind R Q)
bind_single {A} {B} R Q one others = record { same = bind_same } where
  bind_same : (a b : Result B FileFault) → Bind R Q a → Bind R Q b → a ≡ b
  bind_same a b (goes_on x r q) (goes_on y s p) =
      let e : x ≡ y = ok_is x y (one.same (done x) (done y) r s) in
      (others y).same a b (subst (λ z. Q z a) e q) p
  bind_same a b (goes_on x r q) (stops f s e) = absurd (let none : done x ≡ Err f = one.same (done x) (Err f) r s in cc)
  bind_same a b (stops f s e) (goes_on x r q) = absurd (let none : done x ≡ Err f = one.same (done x) (Err f) r s in cc)
  bind_same a b (stops f s e) (stops g t d) =
      let none : failed {A = A} f ≡ failed g = one.same (Err f) (Err g) s t in
      let faults_are : f ≡ g = cc in
      e ∙ (ap failed faults_are ∙ sym d)

pub pure_single : {A : Type 0} (x : A) → IsSingle (pure x)
pure_single x = record { same = λ a b h k. h ∙ sym k }

pub refuse_single : {A : Type 0} (fault : FileFault) → IsSingle (refuse {A = A} fault)
refuse_single fault = record { same = λ a b h k. h ∙ sym k }

judge_same : (Fact : Type 0) (fault : FileFault) (a b : Result (Unit {0}) FileFault) → judge Fact fault a → judge Fact fault b → a ≡ b
judge_same Fact fault a b (inl h) (inl k) = h.1 ∙ sym k.1
judge_same Fact fault a b (inl h) (inr k) = absurd (k.0 h.0)
judge_same Fact fault a b (inr h) (inl k) = absurd (h.0 k.0)
judge_same Fact fault a b (inr h) (inr k) = h.1 ∙ sym k.1

pub judge_single : (Fact : Type 0) (fault : FileFault) → IsSingle (judge Fact fault)
judge_single Fact fault = record { same = judge_same Fact fault }

pub choose_single : {A : Type 0} (b : Bool) (P Q : Reading A) → IsSingle P → IsSingle Q → IsSingle (choose b P Q)
choose_single true P Q p q = record { same = p.same }
choose_single false P Q p q = record { same = q.same }

-- fields
byte_single : (bytes : List ℕ) → IsSingle (byte bytes)
byte_single [] = record { same = λ a b h k. h ∙ sym k }
byte_single (first ∷ rest) = record { same = λ a b h k. h ∙ sym k }

same_number : (bytes : List ℕ) (m n : ℕ) (r s : List ℕ) → number bytes (Ok (m, r)) → number bytes (Ok (n, s)) → read m r ≡ read n s
same_number bytes m n r s h k =
    let both = groups.one_number h.0 k.0 r s m n h.1.groups k.1.groups (sym h.2 ∙ k.2) in
    let rests : r ≡ s = append_cancel_left h.0 r s (sym h.2 ∙ (k.2 ∙ ap (λ (z : List ℕ). z ++ s) (sym both.0))) in
    ap (λ z. read z r) both.1 ∙ ap (λ z. read n z) rests

number_same : (bytes : List ℕ) (a b : Result (ℕ × List ℕ) FileFault) → number bytes a → number bytes b → a ≡ b
number_same bytes (Ok x) (Ok y) h k = same_number bytes x.0 y.0 x.1 y.1 h k
number_same bytes (Ok x) (Err Truncated) h k = absurd (groups.not_inside bytes h.0 x.1 x.0 h.1.groups h.2 k)
number_same bytes (Ok x) (Err TooBig) h k = absurd (groups.not_past bytes h.0 x.1 x.0 h.1 h.2 k)
number_same bytes (Ok x) (Err f) h k = absurd k
number_same bytes (Err Truncated) (Ok y) h k = absurd (groups.not_inside bytes k.0 y.1 y.0 k.1.groups k.2 h)
number_same bytes (Err Truncated) (Err Truncated) h k = refl
number_same bytes (Err Truncated) (Err TooBig) h k = absurd (groups.not_both bytes h k)
number_same bytes (Err Truncated) (Err f) h k = absurd k
number_same bytes (Err TooBig) (Ok y) h k = absurd (groups.not_past bytes k.0 y.1 y.0 k.1 k.2 h)
number_same bytes (Err TooBig) (Err Truncated) h k = absurd (groups.not_both bytes k h)
number_same bytes (Err TooBig) (Err TooBig) h k = refl
number_same bytes (Err TooBig) (Err f) h k = absurd k
number_same bytes (Err f) b h k = absurd h

pub number_single : (bytes : List ℕ) → IsSingle (number bytes)
number_single bytes = record { same = number_same bytes }

index_same : (bytes : List ℕ) (a b : Result (ℕ × List ℕ) FileFault) → index bytes a → index bytes b → a ≡ b
index_same bytes (Ok x) (Ok y) h k = same_number bytes x.0 y.0 x.1 y.1 h k
index_same bytes (Ok x) (Err BadPrelude) h k = absurd (groups.not_inside bytes h.0 x.1 x.0 h.1.groups h.2 k)
index_same bytes (Ok x) (Err TooBig) h k = absurd (groups.not_past bytes h.0 x.1 x.0 h.1 h.2 k)
index_same bytes (Ok x) (Err f) h k = absurd k
index_same bytes (Err BadPrelude) (Ok y) h k = absurd (groups.not_inside bytes k.0 y.1 y.0 k.1.groups k.2 h)
index_same bytes (Err BadPrelude) (Err BadPrelude) h k = refl
index_same bytes (Err BadPrelude) (Err TooBig) h k = absurd (groups.not_both bytes h k)
index_same bytes (Err BadPrelude) (Err f) h k = absurd k
index_same bytes (Err TooBig) (Ok y) h k = absurd (groups.not_past bytes k.0 y.1 y.0 k.1 k.2 h)
index_same bytes (Err TooBig) (Err BadPrelude) h k = absurd (groups.not_both bytes k h)
index_same bytes (Err TooBig) (Err TooBig) h k = refl
index_same bytes (Err TooBig) (Err f) h k = absurd k
index_same bytes (Err f) b h k = absurd h

index_single : (bytes : List ℕ) → IsSingle (index bytes)
index_single bytes = record { same = index_same bytes }

taken_same : (n : ℕ) (bytes : List ℕ) (a b : Result (List ℕ × List ℕ) FileFault) → taken n bytes a → taken n bytes b → a ≡ b
taken_same n bytes (Ok x) (Ok y) h k =
    let fronts : x.0 ≡ y.0 = sym (take_at x.0 x.1 n h.1) ∙ (ap (take n) (sym h.0 ∙ k.0) ∙ take_at y.0 y.1 n k.1) in
    let rests : x.1 ≡ y.1 = sym (drop_at x.0 x.1 n h.1) ∙ (ap (drop n) (sym h.0 ∙ k.0) ∙ drop_at y.0 y.1 n k.1) in
    ap (λ z. read z x.1) fronts ∙ ap (λ z. read y.0 z) rests
taken_same n bytes (Ok x) (Err Truncated) h k = absurd (omega (arith, k, h.1, ap length h.0, length-append x.0 x.1))
taken_same n bytes (Ok x) (Err f) h k = absurd k
taken_same n bytes (Err Truncated) (Ok y) h k = absurd (omega (arith, h, k.1, ap length k.0, length-append y.0 y.1))
taken_same n bytes (Err Truncated) (Err Truncated) h k = refl
taken_same n bytes (Err Truncated) (Err f) h k = absurd k
taken_same n bytes (Err f) b h k = absurd h

pub taken_single : (n : ℕ) (bytes : List ℕ) → IsSingle (taken n bytes)
taken_single n bytes = record { same = taken_same n bytes }

own_of_same : (fault : FileFault) (whole : List ℕ) (a b : Result (List ℕ) FileFault) → own_of fault whole a → own_of fault whole b → a ≡ b
own_of_same fault whole (Ok x) (Ok y) h k = ap done (append_cancel_right x y (0 ∷ []) (sym h.ends ∙ k.ends))
own_of_same fault whole (Ok x) (Err f) h k = absurd (k.1 x h)
own_of_same fault whole (Err f) (Ok y) h k = absurd (h.1 y k)
own_of_same fault whole (Err f) (Err g) h k = ap failed (h.0 ∙ sym k.0)

pub own_of_single : (fault : FileFault) (whole : List ℕ) → IsSingle (own_of fault whole)
own_of_single fault whole = record { same = own_of_same fault whole }

decimal_same : (digits : List ℕ) (m n : ℤ) → IsDecimal digits m → IsDecimal digits n → m ≡ n
decimal_same digits m n (inl h) (inl k) = h.1 ∙ sym k.1
decimal_same digits m n (inl h) (inr k) = absurd (one_sign digits k.0 k.1 h.0)
decimal_same digits m n (inr h) (inl k) = absurd (one_sign digits h.0 h.1 k.0)
decimal_same digits m n (inr h) (inr k) = h.3 ∙ (ap (λ (z : List ℕ). pos 0 -ℤ pos (digits_value 10 z)) (same_digits digits k.0 h.0 k.1 h.1) ∙ sym k.3)

int_of_same : (digits : List ℕ) (a b : Result ℤ FileFault) → int_of digits a → int_of digits b → a ≡ b
int_of_same digits (Ok x) (Ok y) h k = ap done (decimal_same digits x y h.0 k.0)
int_of_same digits (Ok x) (Err f) h k = absurd (k.1 x h.0 h.1)
int_of_same digits (Err f) (Ok y) h k = absurd (h.1 y k.0 k.1)
int_of_same digits (Err f) (Err g) h k = ap failed (h.0 ∙ sym k.0)

pub int_of_single : (digits : List ℕ) → IsSingle (int_of digits)
int_of_single digits = record { same = int_of_same digits }

instructions_same : (bytes : List ℕ) (a b : Result (Unit {0}) FileFault) → instructions bytes a → instructions bytes b → a ≡ b
instructions_same bytes (Ok x) (Ok y) h k = refl
instructions_same bytes (Ok x) (Err f) h k = absurd (k.1 h.0 h.1)
instructions_same bytes (Err f) (Ok y) h k = absurd (h.1 k.0 k.1)
instructions_same bytes (Err f) (Err g) h k = ap failed (h.0 ∙ sym k.0)

pub instructions_single : (bytes : List ℕ) → IsSingle (instructions bytes)
instructions_single bytes = record { same = instructions_same bytes }

signature_same : (code : List ℕ) (a b : Result (Signature × List ℕ) FileFault) → signature code a → signature code b → a ≡ b
signature_same code (Ok x) (Ok y) h k =
    let both = one_chain h.0 k.0 x.1 y.1 h.1.chain k.1.chain (sym h.2 ∙ k.2) in
    let numbers : x.0 ≡ y.0 = same_signature h.0 x.0 y.0 h.1 (subst (λ z. IsSignature z y.0) (sym both.0) k.1) in
    ap (λ z. read z x.1) numbers ∙ ap (λ z. read y.0 z) both.1
signature_same code (Ok x) (Err BadPrelude) h (inl none) = absurd (let e = (signature_found code h.0 x.1 x.0 (length h.0) h.2 h.1 refl).truncated.1 none in cc)
signature_same code (Ok x) (Err BadPrelude) h (inr outside) = absurd (let e = (signature_found code h.0 x.1 x.0 (length h.0) h.2 h.1 refl).outside.1 outside in cc)
signature_same code (Ok x) (Err TooBig) h k = absurd (let e = (signature_found code h.0 x.1 x.0 (length h.0) h.2 h.1 refl).too_big.1 k in cc)
signature_same code (Ok x) (Err f) h k = absurd k
signature_same code (Err BadPrelude) (Ok y) (inl none) k = absurd (let e = (signature_found code k.0 y.1 y.0 (length k.0) k.2 k.1 refl).truncated.1 none in cc)
signature_same code (Err BadPrelude) (Ok y) (inr outside) k = absurd (let e = (signature_found code k.0 y.1 y.0 (length k.0) k.2 k.1 refl).outside.1 outside in cc)
signature_same code (Err BadPrelude) (Err BadPrelude) h k = refl
signature_same code (Err BadPrelude) (Err TooBig) (inl none) k = absurd (let e = (signature_big code k.text k.rest k.code_is k.chain k.big).truncated.1 none in cc)
signature_same code (Err BadPrelude) (Err TooBig) (inr outside) k = absurd (let e = (signature_big code k.text k.rest k.code_is k.chain k.big).outside.1 outside in cc)
signature_same code (Err BadPrelude) (Err f) h k = absurd k
signature_same code (Err TooBig) (Ok y) h k = absurd (let e = (signature_found code k.0 y.1 y.0 (length k.0) k.2 k.1 refl).too_big.1 h in cc)
signature_same code (Err TooBig) (Err BadPrelude) h (inl none) = absurd (let e = (signature_big code h.text h.rest h.code_is h.chain h.big).truncated.1 none in cc)
signature_same code (Err TooBig) (Err BadPrelude) h (inr outside) = absurd (let e = (signature_big code h.text h.rest h.code_is h.chain h.big).outside.1 outside in cc)
signature_same code (Err TooBig) (Err TooBig) h k = refl
signature_same code (Err TooBig) (Err f) h k = absurd k
signature_same code (Err f) b h k = absurd h

pub signature_single : (code : List ℕ) → IsSingle (signature code)
signature_single code = record { same = signature_same code }

one_information : (bytes : List ℕ) (x y : List ℕ × List ℕ) → information bytes (Ok x) → information bytes (Ok y) → x ≡ y
one_information bytes x y h k =
    let both = one_chain h.0 k.0 (x.0 ++ x.1) (y.0 ++ y.1) h.1.chain k.1.chain (sym h.2 ∙ k.2) in
    let lengths : length x.0 ≡ length y.0 = h.1.size_is ∙ (sym (subst (λ z. IsSize z (length y.0)) (sym both.0) k.1).size_is) in
    let n = length y.0 in
    let fronts : x.0 ≡ y.0 = sym (take_at x.0 x.1 n lengths) ∙ (ap (take n) both.1 ∙ take_at y.0 y.1 n refl) in
    let rests : x.1 ≡ y.1 = sym (drop_at x.0 x.1 n lengths) ∙ (ap (drop n) both.1 ∙ drop_at y.0 y.1 n refl) in
    same_pair x y fronts rests

no_information : (bytes : List ℕ) (x : List ℕ × List ℕ) → information bytes (Ok x) → (SizeEnds bytes ⊎ HasCells bytes) → ⊥
no_information bytes x h k =
    let whole : length x.0 ≤ length (x.0 ++ x.1) = omega (arith, length-append x.0 x.1) in
    let r = size_found bytes h.0 (x.0 ++ x.1) (length x.0) 0 (length h.0) h.2 h.1 whole refl in
    elim k [ inl ends ↦ (let e = r.truncated.1 ends in cc) | inr cells ↦ (let e = r.outside.1 cells in cc) ]

information_same : (bytes : List ℕ) (a b : Result (List ℕ × List ℕ) FileFault) → information bytes a → information bytes b → a ≡ b
information_same bytes (Ok x) (Ok y) h k = ap done (one_information bytes x y h k)
information_same bytes (Ok x) (Err BadPrelude) h k = absurd (no_information bytes x h k)
information_same bytes (Ok x) (Err f) h k = absurd k
information_same bytes (Err BadPrelude) (Ok y) h k = absurd (no_information bytes y k h)
information_same bytes (Err BadPrelude) (Err BadPrelude) h k = refl
information_same bytes (Err BadPrelude) (Err f) h k = absurd k
information_same bytes (Err f) b h k = absurd h

pub information_single : (bytes : List ℕ) → IsSingle (information bytes)
information_single bytes = record { same = information_same bytes }

one_header : (bytes : List ℕ) (x y : ℕ × List ℕ) → IsHeader bytes x.0 x.1 → IsHeader bytes y.0 y.1 → x ≡ y
one_header bytes x y h k =
    let both : 0x4d ∷ 6 ∷ 0 ∷ x.0 ∷ x.1 ≡ 0x4d ∷ 6 ∷ 0 ∷ y.0 ∷ y.1 = sym h.bytes_are ∙ k.bytes_are in
    let bits : x.0 ≡ y.0 = cc in
    let rests : x.1 ≡ y.1 = cc in
    same_pair x y bits rests

no_header : (bytes : List ℕ) (x : ℕ × List ℕ) → IsHeader bytes x.0 x.1 → header bytes (Err BadHeader) → ⊥
no_header bytes x h (inl short) = let e : length bytes ≡ suc (suc (suc (suc (length x.1)))) = ap length h.bytes_are in omega arith
no_header bytes x h (inr mark) = mark (ap (λ (z : List ℕ). slice_index z 0) h.bytes_are)

not_both_headers : (bytes : List ℕ) → IsOther bytes → header bytes (Err BadHeader) → ⊥
not_both_headers bytes other (inl short) = omega (arith, short, other.long)
not_both_headers bytes other (inr mark) = mark other.mark

header_same : (bytes : List ℕ) (a b : Result (ℕ × List ℕ) FileFault) → header bytes a → header bytes b → a ≡ b
header_same bytes (Ok x) (Ok y) h k = ap done (one_header bytes x y h k)
header_same bytes (Ok x) (Err BadHeader) h k = absurd (no_header bytes x h k)
header_same bytes (Ok x) (Err Incompatible) h k = absurd (k.other x.0 x.1 h)
header_same bytes (Ok x) (Err f) h k = absurd k
header_same bytes (Err BadHeader) (Ok y) h k = absurd (no_header bytes y k h)
header_same bytes (Err BadHeader) (Err BadHeader) h k = refl
header_same bytes (Err BadHeader) (Err Incompatible) h k = absurd (not_both_headers bytes k h)
header_same bytes (Err BadHeader) (Err f) h k = absurd k
header_same bytes (Err Incompatible) (Ok y) h k = absurd (h.other y.0 y.1 k)
header_same bytes (Err Incompatible) (Err BadHeader) h k = absurd (not_both_headers bytes h k)
header_same bytes (Err Incompatible) (Err Incompatible) h k = refl
header_same bytes (Err Incompatible) (Err f) h k = absurd k
header_same bytes (Err f) b h k = absurd h

pub header_single : (bytes : List ℕ) → IsSingle (header bytes)
header_single bytes = record { same = header_same bytes }

-- steps
pub count_single : (bytes : List ℕ) → IsSingle (count bytes)
unfolding count
count_single bytes = bind_single _ _ (number_single bytes) (λ n. bind_single _ _ (judge_single _ _) (λ _. pure_single n))

pub many_single : {A : Type 0} (field : List ℕ → Field A) → ((bytes : List ℕ) → IsSingle (field bytes)) → (n : ℕ) (bytes : List ℕ) → IsSingle (many n field bytes)
unfolding many
many_single field one zero bytes = pure_single ([], bytes)
many_single field one (suc n) bytes =
    bind_single _ _ (one bytes) (λ first. bind_single _ _ (many_single field one n first.1) (λ others. pure_single (first.0 ∷ others.0, others.1)))

text_single : (fault : FileFault) (len : ℕ) (bytes : List ℕ) → IsSingle (text fault len bytes)
unfolding text
text_single fault len bytes = bind_single _ _ (taken_single (len + 1) bytes) (λ whole. bind_single _ _ (own_of_single fault whole.0) (λ own. pure_single (own, whole.1)))

qstr_single : (bytes : List ℕ) → IsSingle (qstr bytes)
unfolding qstr static_qstr own_qstr
qstr_single bytes = bind_single _ _ (number_single bytes) (λ n. choose_single (eqb (n.0 % 2) 1) _ _
    (bind_single _ _ (judge_single _ _) (λ _. pure_single _))
    (bind_single _ _ (text_single BadQstr (n.0 / 2) n.1) (λ own. pure_single _)))

str_single : (bytes : List ℕ) → IsSingle (str bytes)
unfolding str
str_single bytes = bind_single _ _ (number_single bytes) (λ n. bind_single _ _ (text_single _ n.0 n.1) (λ own. pure_single _))

int_single : (bytes : List ℕ) → IsSingle (int bytes)
unfolding int
int_single bytes = bind_single _ _ (number_single bytes) (λ n. bind_single _ _ (taken_single n.0 n.1) (λ digits. bind_single _ _ (int_of_single digits.0) (λ value. pure_single _)))

tuple_single : (inner : List ℕ → Field Constant) → ((bytes : List ℕ) → IsSingle (inner bytes)) → (bytes : List ℕ) → IsSingle (tuple inner bytes)
unfolding tuple
tuple_single inner one bytes = bind_single _ _ (number_single bytes) (λ n. bind_single _ _ (many_single inner one n.0 n.1) (λ items. pure_single _))

tag_single : (inner : List ℕ → Field Constant) → ((bytes : List ℕ) → IsSingle (inner bytes)) → (tag : ℕ) (rest : List ℕ) → IsSingle (object_by inner tag rest)
unfolding object_by
tag_single inner one tag rest =
    choose_single (eqb tag 1) _ _ (pure_single _) (choose_single (eqb tag 2) _ _ (pure_single _) (choose_single (eqb tag 3) _ _ (pure_single _)
    (choose_single (eqb tag 5) _ _ (str_single rest) (choose_single (eqb tag 7) _ _ (int_single rest) (choose_single (eqb tag 10) _ _ (one rest) (refuse_single _))))))

pub object_single : (levels : ℕ) (bytes : List ℕ) → IsSingle (object levels bytes)
unfolding object
object_single zero bytes = bind_single _ _ (byte_single bytes) (λ tag. tag_single (λ _. refuse TooBig) (λ _. refuse_single TooBig) tag.0 tag.1)
object_single (suc levels) bytes = bind_single _ _ (byte_single bytes) (λ tag. tag_single (tuple (object levels)) (tuple_single (object levels) (object_single levels)) tag.0 tag.1)

name_single : (texts : ℕ) (bytes : List ℕ) → IsSingle (name texts bytes)
unfolding name
name_single texts bytes = bind_single _ _ (index_single bytes) (λ n. bind_single _ _ (judge_single _ _) (λ _. pure_single n))

own_code_single : (texts : ℕ) (whole : List ℕ) → IsSingle (own_code texts whole)
unfolding own_code
own_code_single texts whole =
    bind_single _ _ (signature_single whole) (λ numbers. bind_single _ _ (judge_single _ _) (λ _. bind_single _ _ (information_single numbers.1) (λ parts.
    bind_single _ _ (many_single (name texts) (name_single texts) (1 + numbers.0.args) parts.0) (λ names. instructions_single parts.1))))

own_single : (texts : ℕ) (bytes : List ℕ) → IsSingle (own texts bytes)
unfolding own
own_single texts bytes =
    bind_single _ _ (number_single bytes) (λ n. bind_single _ _ (judge_single _ _) (λ _. bind_single _ _ (taken_single (n.0 / 8) n.1) (λ whole.
    bind_single _ _ (judge_single _ _) (λ _. bind_single _ _ (own_code_single texts whole.0) (λ _. pure_single _)))))

children_single : (inner : List ℕ → Field RawCode) → ((bytes : List ℕ) → IsSingle (inner bytes)) → (has_some : Bool) (bytes : List ℕ) → IsSingle (children inner has_some bytes)
unfolding children
children_single inner one true bytes = bind_single _ _ (count_single bytes) (λ n. many_single inner one n.0 n.1)
children_single inner one false bytes = pure_single _

pub code_single : (levels texts : ℕ) (bytes : List ℕ) → IsSingle (code levels texts bytes)
unfolding code element
code_single zero texts bytes = refuse_single TooBig
code_single (suc levels) texts bytes =
    bind_single _ _ (own_single texts bytes) (λ front. bind_single _ _ (children_single (code levels texts) (code_single levels texts) front.0.1 front.1) (λ codes. pure_single _))

parts_single : (bytes : List ℕ) → IsSingle (parts bytes)
unfolding parts
parts_single bytes =
    bind_single _ _ (header_single bytes) (λ bits. bind_single _ _ (count_single bits.1) (λ qstr_count. bind_single _ _ (count_single qstr_count.1) (λ object_count.
    bind_single _ _ (judge_single _ _) (λ _. bind_single _ _ (many_single qstr qstr_single qstr_count.0 object_count.1) (λ qstrs.
    bind_single _ _ (many_single (object MAX_DEPTH) (object_single MAX_DEPTH) object_count.0 qstrs.1) (λ objects.
    bind_single _ _ (code_single MAX_DEPTH qstr_count.0 objects.1) (λ outermost. pure_single _)))))))

pub file_single : (bytes : List ℕ) → IsSingle (file bytes)
unfolding file
file_single bytes =
    bind_single _ _ (judge_single _ _) (λ _. bind_single _ _ (parts_single bytes) (λ whole. bind_single _ _ (judge_single _ _) (λ _. pure_single whole.0)))
