-- What is spelled of a code and of a file is read.
use Rattle.std.proofs.Common.{◌≡◌, ℕ, zero, suc, ◌+◌, ◌*◌, ◌/◌, ◌%◌, ◌<◌, ◌≤◌, Bool, true, false, eqb, List, [], ◌∷◌, ◌++◌, length, Result, Ok, refl, sym, ap, subst, ◌∙◌, append_assoc, arith, length-append}
use Rattle.std.specs.List.{AllByRecursion}
use Rattle.std.proofs.lemmas.List.{append-nil}
use Rattle.std.proofs.lemmas.List.Elements.{recursion_from_All}
use Rattle.mpy_base.specs.Vuint.{Spells}
use Rattle.mpy_base.specs.declared.limits.TheConstants.{MAX_CODE_BYTES, MAX_DEPTH}
use Rattle.mpy_tree.specs.bc_prelude.Names.{AreNames}
use Rattle.mpy_tree.specs.bc_prelude.Size.{IsSize}
use Rattle.mpy_tree.specs.bc_prelude.Prelude.{signature_in}
use Rattle.mpy_tree.specs.declared.raw.RawCode.{RawCode}
use Rattle.mpy_tree.specs.Raw.{Module}
use Rattle.mpy_tree.specs.File.{Many, IsQstr, IsObject, IsOwnCode, header_of, AreChildren, IsElement, IsCode, IsSpelling, IsFile}
use Rattle.mpy_reader.specs.declared.fault.FileFault.{FileFault}
use Rattle.mpy_reader.specs.Reading.{Field, goes_on, many, qstr, object, name, own_code, children, own, element, code, header, parts, file}
use Rattle.mpy_reader.proofs.Steps.{judged}
use Rattle.mpy_reader.proofs.FoundCodes.{IsName}
use Rattle.mpy_reader.proofs.Taken.{Takes, behind_front, count_read, many_read, qstr_read, object_read}

name_read : (texts : ℕ) → Takes (name texts) (IsName texts)
unfolding name
name_read texts = record { read = λ bytes text rest n s e. goes_on (n, rest) (text, s.spells, e) (judged s.within refl) }

names_many : (texts : ℕ) (indexes text : List ℕ) → AreNames indexes text → AllByRecursion (λ index. index < texts) indexes → Many (IsName texts) text indexes
names_many texts [] text h all = h
names_many texts (i ∷ is) text h all = (h.0, h.1, record { spells = h.2; within = all.0 }, h.3, names_many texts is h.1 h.4 all.1)

own_code_read : (texts : ℕ) (whole : List ℕ) → IsOwnCode texts whole → own_code texts whole (Ok tt)
unfolding own_code
own_code_read texts whole h =
    let b = h.begins in
    let p = h.prelude in
    let names = names_many texts b.indexes b.names b.are_names (recursion_from_All (λ index. index < texts) b.indexes h.names) in
    let passed = many_read (name texts) (IsName texts) (name_read texts) (b.names ++ b.lines) b.names b.lines b.indexes names refl in
    goes_on (signature_in p, b.size ++ (b.names ++ (b.lines ++ b.instructions))) (b.signature, b.is_signature, b.code_is)
    (judged h.defaults
    (goes_on (b.names ++ b.lines, b.instructions)
    (b.size, subst (λ z. IsSize b.size z) (sym (length-append b.names b.lines)) b.is_size, ap (λ (z : List ℕ). b.size ++ z) (sym (append_assoc b.names b.lines b.instructions)))
    (goes_on (b.indexes, b.lines) (subst (λ z. many z (name texts) (b.names ++ b.lines) (Ok (b.indexes, b.lines))) b.count passed)
    (h.items, h.listed))))

eighth : (len : ℕ) (flag : Bool) → header_of len flag / 8 ≡ len
eighth len true = omega arith
eighth len false = omega arith

fourth : (len : ℕ) (flag : Bool) → header_of len flag % 4 ≡ 0
fourth len true = omega arith
fourth len false = omega arith

flag_of : (len : ℕ) (flag : Bool) → eqb (header_of len flag / 4 % 2) 1 ≡ flag
flag_of len true = let e : (8 * len + 4) / 4 % 2 ≡ 1 = omega arith in rw e refl
flag_of len false = let e : 8 * len / 4 % 2 ≡ 0 = omega arith in rw e refl

abbrev front_read : List ℕ → Bool → List ℕ → Result ((List ℕ × Bool) × List ℕ) FileFault
front_read whole flag rest = Ok ((whole, flag), rest)

own_read : (texts : ℕ) (bytes header whole rest : List ℕ) (flag : Bool) → bytes ≡ header ++ (whole ++ rest) → Spells header (header_of (length whole) flag) → length whole ≤ MAX_CODE_BYTES → IsOwnCode texts whole → own texts bytes (front_read whole flag rest)
unfolding own
own_read texts bytes header whole rest flag e s short is_own =
    let n = header_of (length whole) flag in
    let len = eighth (length whole) flag in
    goes_on (n, whole ++ rest) (header, s, e)
    (judged (omega (arith, short, len))
    (goes_on (whole, rest) (refl, sym len)
    (judged (fourth (length whole) flag)
    (goes_on tt (own_code_read texts whole is_own)
    (ap (λ z. front_read whole z rest) (sym (flag_of (length whole) flag)))))))

children_read : (inner : List ℕ → Field RawCode) (Inner : List ℕ → RawCode → Type 0) → Takes inner Inner → (has_some : Bool) → Takes (children inner has_some) (AreChildren Inner has_some)
unfolding children
children_read inner Inner takes true = record {
  read = λ bytes text rest xs s e.
      goes_on (length xs, s.1 ++ rest) (count_read bytes s.0 (s.1 ++ rest) (length xs) s.2 s.3 (behind_front bytes text s.0 s.1 rest e s.4))
      (many_read inner Inner takes (s.1 ++ rest) s.1 rest xs s.5 refl);
}
children_read inner Inner takes false = record {
  read = λ bytes text rest xs s e.
      let none : bytes ≡ rest = e ∙ ap (λ (z : List ℕ). z ++ rest) s.0 in
      let made : Result (List RawCode × List ℕ) FileFault = Ok (xs, rest) in
      let same : made ≡ Ok ([], bytes) = ap (λ z. Ok (z, rest)) s.1 ∙ ap (λ z. Ok ([], z)) (sym none) in
      same;
}

element_read : (inner : List ℕ → Field RawCode) (Inner : List ℕ → RawCode → Type 0) → Takes inner Inner → (texts : ℕ) → Takes (element inner texts) (IsElement Inner texts)
unfolding element
element_read inner Inner takes texts = record {
  read = λ bytes text rest x s e.
      let whole : bytes ≡ s.header ++ (s.own ++ (s.behind ++ rest)) = behind_front bytes text s.header (s.own ++ s.behind) rest e s.text_is ∙ ap (λ (z : List ℕ). s.header ++ z) (append_assoc s.own s.behind rest) in
      goes_on ((s.own, s.has_children), s.behind ++ rest) (own_read texts bytes s.header s.own (s.behind ++ rest) s.has_children whole s.spells s.short s.is_own)
      (goes_on (s.children, rest) ((children_read inner Inner takes s.has_children).read (s.behind ++ rest) s.behind rest s.children s.are_children refl)
      (ap (λ z. Ok (z, rest)) s.code_is));
}

pub code_read : (levels texts : ℕ) → Takes (code levels texts) (IsCode levels texts)
unfolding code IsCode
code_read zero texts = record { read = λ bytes text rest x s e. absurd s }
code_read (suc levels) texts = element_read (code levels texts) (IsCode levels texts) (code_read levels texts) texts

parts_read : (bytes rest : List ℕ) (m : Module) (s : IsSpelling bytes m) → parts bytes (Ok (m, []))
unfolding parts
parts_read bytes rest m s =
    let last = (code_read MAX_DEPTH (length m.qstrs)).read s.code s.code [] m.code s.is_code (sym (append-nil s.code)) in
    goes_on (m.bits, s.qstr_count ++ (s.object_count ++ (s.qstrs ++ (s.objects ++ s.code)))) (record { bytes_are = s.text_is; some_bits = s.some_bits; few_bits = s.few_bits })
    (goes_on (length m.qstrs, s.object_count ++ (s.qstrs ++ (s.objects ++ s.code))) (count_read _ s.qstr_count _ (length m.qstrs) s.counts_qstrs s.few_qstrs refl)
    (goes_on (length m.objects, s.qstrs ++ (s.objects ++ s.code)) (count_read _ s.object_count _ (length m.objects) s.counts_objects s.few_objects refl)
    (judged s.some_qstrs
    (goes_on (m.qstrs, s.objects ++ s.code) (many_read qstr IsQstr qstr_read _ s.qstrs _ m.qstrs s.are_qstrs refl)
    (goes_on (m.objects, s.code) (many_read (object MAX_DEPTH) (IsObject MAX_DEPTH) (object_read MAX_DEPTH) _ s.objects _ m.objects s.are_objects refl)
    (goes_on (m.code, []) last refl))))))

pub file_read : (bytes : List ℕ) (m : Module) → IsFile bytes m → file bytes (Ok m)
unfolding file
file_read bytes m s = judged s.short (goes_on (m, []) (parts_read bytes [] m s.spelling) (judged refl refl))
