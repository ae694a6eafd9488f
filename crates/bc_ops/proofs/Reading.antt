-- Readings: bytes are read in one way at most.
use Rattle.std.proofs.Common.{Result, Ok, Err, ◌≡◌, ◌↔◌, ℕ, ◌+◌, ◌-◌, ◌<◌, List, [], ◌∷◌, ◌++◌, length, take, drop, get_or, inl, inr, refl, ap, sym, subst, ◌∙◌, arith, append_assoc, Bool, true, ℤ}
use Rattle.std.specs.Prelude.{IsErrOf}
use Rattle.std.proofs.lemmas.List.{take_all, length-append, length_push, get_or_at}
use Rattle.mpy_base.proofs.Groups as groups
use Rattle.bc_ops.specs.declared.decoding.CodeFault.{CodeFault}
use Rattle.bc_ops.specs.declared.decoding.CodeFault.TheVariants as faults
use Rattle.bc_ops.specs.declared.form.Form.{Form}
use Rattle.bc_ops.specs.declared.form.Form.TheVariants as forms
use Rattle.bc_ops.specs.declared.instr.Instr.{Instr}
use Rattle.bc_ops.specs.declared.instr.Instr.TheVariants as instrs
use Rattle.bc_ops.specs.Offset.{Spells as OffsetSpells}
use Rattle.bc_ops.specs.Table.{form_of}
use Rattle.bc_ops.specs.Code.{Operand, Spells, IsOutside, IsCut, IsPast}
use Rattle.bc_ops.specs.Reading.{ReadsOperand, Reads}
use Rattle.bc_ops.proofs.Integers as integers
use Rattle.bc_ops.proofs.Offsets as offsets
use Rattle.bc_ops.proofs.Law.{one_operand}

-- what is read of an instruction
abbrev pub instr_read : Instr → ℕ → Result (Instr × ℕ) CodeFault
instr_read instr len = Ok (instr, len)

abbrev pub instr_refused : CodeFault → Result (Instr × ℕ) CodeFault
instr_refused fault = Err fault

byte_behind : (bytes text rest front : List ℕ) (byte : ℕ) → bytes ≡ text ++ rest → text ≡ front ++ byte ∷ [] → bytes ≡ front ++ byte ∷ rest
byte_behind bytes text rest front byte e is = e ∙ (ap (λ (z : List ℕ). z ++ rest) is ∙ append_assoc front (byte ∷ []) rest)

-- where an operand stands in front there is no reason for none
not_cut : (form : Form) (bytes text rest : List ℕ) (instr : Instr) → Operand form text instr → bytes ≡ text ++ rest → IsCut form bytes → ⊥
not_cut (forms.Name op) bytes text rest instr s e cut = groups.not_inside bytes text rest s.0 s.1.groups e cut
not_cut (forms.Number op) bytes text rest instr s e cut = groups.not_inside bytes text rest s.0 s.1.groups e cut
not_cut (forms.Call op) bytes text rest instr s e cut = groups.not_inside bytes text rest s.0 s.1.groups e cut
not_cut forms.Signed bytes text rest instr s e cut = groups.not_inside bytes text rest s.1.n s.1.groups e cut
not_cut (forms.Offset op signed) bytes text rest instr s e cut = offsets.not_inside signed s.1 bytes text rest s.0 s.2 e cut
not_cut forms.Unwind bytes text rest instr s e (inl inside) =
    offsets.not_inside true s.3 bytes s.0 (s.1 ∷ rest) s.2 s.4 (byte_behind bytes text rest s.0 s.1 e s.5) inside
not_cut forms.Unwind bytes text rest instr s e (inr whole) =
    offsets.not_behind true s.3 whole.1 bytes s.0 rest s.1 whole.0 s.2 s.4 (byte_behind bytes text rest s.0 s.1 e s.5) whole.2
not_cut form bytes text rest instr s e cut = cut

not_past : (form : Form) (bytes text rest : List ℕ) (instr : Instr) → Operand form text instr → bytes ≡ text ++ rest → IsPast form bytes → ⊥
not_past (forms.Name op) bytes text rest instr s e past = groups.not_past bytes text rest s.0 s.1 e past
not_past (forms.Number op) bytes text rest instr s e past = groups.not_past bytes text rest s.0 s.1 e past
not_past (forms.Call op) bytes text rest instr s e past = groups.not_past bytes text rest s.0 s.1 e past
not_past forms.Signed bytes text rest instr s e past = integers.not_past bytes text rest s.0 s.1 e past
not_past form bytes text rest instr s e past = past

not_outside : (form : Form) (bytes text rest : List ℕ) (instr : Instr) → Operand form text instr → bytes ≡ text ++ rest → IsOutside form bytes → ⊥
not_outside (forms.Call op) bytes text rest instr s e outside =
    let same = groups.one_number text outside.0 rest outside.1 s.0 outside.2 s.1.groups outside.3.groups (sym e ∙ outside.4) in
    let number : s.0 ≡ outside.2 = same.1 in
    omega (arith, s.2, outside.5)
not_outside forms.Outside bytes text rest instr s e outside = s
not_outside form bytes text rest instr s e outside = outside

-- nor are there two reasons
cut_not_past : (form : Form) (bytes : List ℕ) → IsCut form bytes → IsPast form bytes → ⊥
cut_not_past (forms.Name op) bytes cut past = groups.not_both bytes cut past
cut_not_past (forms.Number op) bytes cut past = groups.not_both bytes cut past
cut_not_past (forms.Call op) bytes cut past = groups.not_both bytes cut past
cut_not_past forms.Signed bytes cut past = integers.not_both bytes cut past
cut_not_past form bytes cut past = past

cut_not_outside : (form : Form) (bytes : List ℕ) → IsCut form bytes → IsOutside form bytes → ⊥
cut_not_outside (forms.Call op) bytes cut outside = groups.not_inside bytes outside.0 outside.1 outside.2 outside.3.groups outside.4 cut
cut_not_outside forms.Outside bytes cut outside = cut
cut_not_outside form bytes cut outside = outside

past_not_outside : (form : Form) (bytes : List ℕ) → IsPast form bytes → IsOutside form bytes → ⊥
past_not_outside (forms.Call op) bytes past outside = groups.not_past bytes outside.0 outside.1 outside.2 outside.3 outside.4 past
past_not_outside forms.Outside bytes past outside = past
past_not_outside form bytes past outside = outside

-- what is read of an operand is the only reading
abbrev Answer : Type 0
Answer = Result (Instr × ℕ) CodeFault

known_operand : (form : Form) (text : List ℕ) (instr : Instr) → Operand form text instr → form ≡ forms.Unknown → ⊥
known_operand form text instr s is = let none : Operand forms.Unknown text instr = subst (λ (f : Form). Operand f text instr) is s in none

known_cut : (form : Form) (bytes : List ℕ) → IsCut form bytes → form ≡ forms.Unknown → ⊥
known_cut form bytes cut is = let none : IsCut forms.Unknown bytes = subst (λ (f : Form). IsCut f bytes) is cut in none

known_past : (form : Form) (bytes : List ℕ) → IsPast form bytes → form ≡ forms.Unknown → ⊥
known_past form bytes past is = let none : IsPast forms.Unknown bytes = subst (λ (f : Form). IsPast f bytes) is past in none

known_outside : (form : Form) (bytes : List ℕ) → IsOutside form bytes → form ≡ forms.Unknown → ⊥
known_outside form bytes outside is = let none : IsOutside forms.Unknown bytes = subst (λ (f : Form). IsOutside f bytes) is outside in none

one_found : (form : Form) (first : ℕ) (bytes : List ℕ) (m : Instr × ℕ) (s : Answer) → ReadsOperand form first bytes (Ok m) → ReadsOperand form first bytes s → ◌≡◌ {A = Answer} (Ok m) s
one_found form first bytes m (Ok n) p q =
    let same = one_operand form p.0 q.0 p.1 q.1 m.0 n.0 p.2 q.2 (sym p.3 ∙ q.3) in
    let instrs_are : m.0 ≡ n.0 = same.1 in
    let lengths_are : m.1 ≡ n.1 = p.4 ∙ (ap length same.0 ∙ sym q.4) in
    let both : ◌≡◌ {A = Instr × ℕ} (m.0, m.1) (n.0, n.1) = cc in
    ap (λ (z : Instr × ℕ). instr_read z.0 z.1) both
one_found form first bytes m (Err (faults.UnknownOpcode byte)) p q = absurd (known_operand form p.0 m.0 p.2 q.1)
one_found form first bytes m (Err (faults.OutsideProfile byte)) p q = absurd (not_outside form bytes p.0 p.1 m.0 p.2 p.3 q.1)
one_found form first bytes m (Err faults.Truncated) p q = absurd (not_cut form bytes p.0 p.1 m.0 p.2 p.3 q)
one_found form first bytes m (Err faults.BadNumber) p q = absurd (not_past form bytes p.0 p.1 m.0 p.2 p.3 q)

one_fault : (form : Form) (first : ℕ) (bytes : List ℕ) (f g : CodeFault) → ReadsOperand form first bytes (Err f) → ReadsOperand form first bytes (Err g) → f ≡ g
one_fault form first bytes (faults.UnknownOpcode b) (faults.UnknownOpcode c) p q = ap faults.UnknownOpcode (p.0 ∙ sym q.0)
one_fault form first bytes (faults.UnknownOpcode b) (faults.OutsideProfile c) p q = absurd (known_outside form bytes q.1 p.1)
one_fault form first bytes (faults.UnknownOpcode b) faults.Truncated p q = absurd (known_cut form bytes q p.1)
one_fault form first bytes (faults.UnknownOpcode b) faults.BadNumber p q = absurd (known_past form bytes q p.1)
one_fault form first bytes (faults.OutsideProfile b) (faults.UnknownOpcode c) p q = absurd (known_outside form bytes p.1 q.1)
one_fault form first bytes (faults.OutsideProfile b) (faults.OutsideProfile c) p q = ap faults.OutsideProfile (p.0 ∙ sym q.0)
one_fault form first bytes (faults.OutsideProfile b) faults.Truncated p q = absurd (cut_not_outside form bytes q p.1)
one_fault form first bytes (faults.OutsideProfile b) faults.BadNumber p q = absurd (past_not_outside form bytes q p.1)
one_fault form first bytes faults.Truncated (faults.UnknownOpcode c) p q = absurd (known_cut form bytes p q.1)
one_fault form first bytes faults.Truncated (faults.OutsideProfile c) p q = absurd (cut_not_outside form bytes p q.1)
one_fault form first bytes faults.Truncated faults.Truncated p q = refl
one_fault form first bytes faults.Truncated faults.BadNumber p q = absurd (cut_not_past form bytes p q)
one_fault form first bytes faults.BadNumber (faults.UnknownOpcode c) p q = absurd (known_past form bytes p q.1)
one_fault form first bytes faults.BadNumber (faults.OutsideProfile c) p q = absurd (past_not_outside form bytes p q.1)
one_fault form first bytes faults.BadNumber faults.Truncated p q = absurd (cut_not_past form bytes q p)
one_fault form first bytes faults.BadNumber faults.BadNumber p q = refl

one_operand_reading : (form : Form) (first : ℕ) (bytes : List ℕ) (r s : Answer) → ReadsOperand form first bytes r → ReadsOperand form first bytes s → r ≡ s
one_operand_reading form first bytes (Ok m) s p q = one_found form first bytes m s p q
one_operand_reading form first bytes (Err f) (Ok n) p q = sym (one_found form first bytes n (Err f) q p)
one_operand_reading form first bytes (Err f) (Err g) p q = ap instr_refused (one_fault form first bytes f g p q)

-- a reading of bytes is one of what stands behind the first
abbrev one_more : Answer → Answer
one_more (Ok found) = instr_read found.0 (1 + found.1)
one_more (Err fault) = Err fault

abbrev Shorter : ℕ → List ℕ → Answer → Type 0
Shorter first behind r = (s : Answer) × ReadsOperand (form_of first) first behind s × (r ≡ one_more s)

shorter_found : (first : ℕ) (behind : List ℕ) (instr : Instr) (len : ℕ) → Reads (first ∷ behind) (instr_read instr len) → Shorter first behind (instr_read instr len)
shorter_found first behind instr len p =
    let s = p.2 in
    let all : first ∷ behind ≡ s.first ∷ (s.behind ++ p.1) = p.3 ∙ ap (λ (z : List ℕ). z ++ p.1) s.parts in
    let firsts : s.first ≡ first = cc in
    let behinds : behind ≡ s.behind ++ p.1 = cc in
    let operand : Operand (form_of first) s.behind instr = subst (λ (k : ℕ). Operand (form_of k) s.behind instr) firsts s.operand in
    let len_is : len ≡ 1 + length s.behind = omega (arith, p.4, ap length s.parts) in
    (instr_read instr (length s.behind), (s.behind, p.1, operand, behinds, refl), ap (instr_read instr) len_is)

shorter : (first : ℕ) (behind : List ℕ) (r : Answer) → Reads (first ∷ behind) r → Shorter first behind r
shorter first behind (Ok found) p = shorter_found first behind found.0 found.1 p
shorter first behind (Err (faults.UnknownOpcode b)) p = (instr_refused (faults.UnknownOpcode b), p, refl)
shorter first behind (Err (faults.OutsideProfile b)) p = (instr_refused (faults.OutsideProfile b), p, refl)
shorter first behind (Err faults.Truncated) p = (instr_refused faults.Truncated, p, refl)
shorter first behind (Err faults.BadNumber) p = (instr_refused faults.BadNumber, p, refl)

none_found : (found : Instr × ℕ) → Reads [] (Ok found) → ⊥
none_found found p =
    let none : [] ≡ p.2.first ∷ (p.2.behind ++ p.1) = p.3 ∙ ap (λ (z : List ℕ). z ++ p.1) p.2.parts in
    cc

cut_only : (r : Answer) → Reads [] r → r ≡ instr_refused faults.Truncated
cut_only (Ok found) p = absurd (none_found found p)
cut_only (Err (faults.UnknownOpcode b)) p = absurd p
cut_only (Err (faults.OutsideProfile b)) p = absurd p
cut_only (Err faults.Truncated) p = refl
cut_only (Err faults.BadNumber) p = absurd p

-- bytes are read in one way at most
pub one_reading : (bytes : List ℕ) (r s : Result (Instr × ℕ) CodeFault) → Reads bytes r → Reads bytes s → r ≡ s
one_reading [] r s p q = cut_only r p ∙ sym (cut_only s q)
one_reading (first ∷ behind) r s p q =
    let a = shorter first behind r p in
    let b = shorter first behind s q in
    a.2 ∙ (ap one_more (one_operand_reading (form_of first) first behind a.0 b.0 a.1 b.1) ∙ sym b.2)

no_fault : (instr : Instr) (len : ℕ) (fault : CodeFault) → instr_read instr len ≡ instr_refused fault → ⊥
no_fault instr len fault e = cc

-- so each fault is read exactly there, and each instruction
pub exactly : (bytes : List ℕ) (r : Result (Instr × ℕ) CodeFault) (fault : CodeFault) → Reads bytes r → IsErrOf r fault ↔ Reads bytes (Err fault)
exactly bytes (Ok found) fault p = (
  λ e. absurd (no_fault found.0 found.1 fault e),
  λ q. let no : instr_read found.0 found.1 ≡ instr_refused fault = one_reading bytes (Ok found) (Err fault) p q in absurd cc,
)
exactly bytes (Err f) fault p = (
  λ e. subst (Reads bytes) e p,
  λ q. one_reading bytes (Err f) (Err fault) p q,
)

pub only_reading : (bytes text rest : List ℕ) (instr : Instr) (r : Result (Instr × ℕ) CodeFault) → Reads bytes r → Spells text instr → bytes ≡ text ++ rest → r ≡ instr_read instr (length text)
only_reading bytes text rest instr r p s e = one_reading bytes r (instr_read instr (length text)) p (text, rest, s, e, refl)

-- what a match takes for the bytes behind the first
abbrev pub behind_first : List ℕ → List ℕ
behind_first bytes = take (length bytes - 1) (drop 1 bytes)

pub rejoined : (bytes : List ℕ) → 0 < length bytes → bytes ≡ get_or bytes 0 0 ∷ behind_first bytes
rejoined [] some = absurd (omega arith)
rejoined (byte ∷ bytes) some = ap (λ (z : List ℕ). byte ∷ z) (sym (take_all _ bytes (omega arith)))

-- what is read behind the first byte is read with it
pub front_found : (bytes behind text rest : List ℕ) (first len : ℕ) (form : Form) (instr : Instr) → bytes ≡ first ∷ behind → form ≡ form_of first → Operand form text instr → behind ≡ text ++ rest → len ≡ length text → (whole after : List ℕ) × Spells whole instr × (bytes ≡ whole ++ after) × (1 + len ≡ length whole)
front_found bytes behind text rest first len form instr parts is operand e taken = (
  first ∷ text,
  rest,
  record { first = first; behind = text; parts = refl; operand = subst (λ (f : Form). Operand f text instr) is operand },
  cc,
  omega (arith, taken),
)

-- what was read is no fault, at whatever place
pub read_inside : (m n : Instr) (len k : ℕ) (fault : CodeFault) (Q : Type 0) → (IsErrOf (instr_read m len) fault ↔ Q) → IsErrOf (instr_read n k) fault ↔ Q
read_inside m n len k fault Q outside = (λ e. absurd (no_fault n k fault e), λ q. absurd (no_fault m len fault (outside.1 q)))

-- what is read in front of what follows a place is read at the place
pub moved : (at len k : ℕ) (m n : Instr) → instr_read m len ≡ instr_read n k → instr_read m (at + len) ≡ instr_read n (at + k)
moved at len k m n e =
    let both : ◌≡◌ {A = Instr × ℕ} (m, len) (n, k) = cc in
    let instrs_are : m ≡ n = ap (λ (p : Instr × ℕ). p.0) both in
    let lengths_are : len ≡ k = ap (λ (p : Instr × ℕ). p.1) both in
    cc

pub not_read : (fault : CodeFault) (instr : Instr) (len k : ℕ) → instr_refused fault ≡ instr_read instr len → instr_refused fault ≡ instr_read instr k
not_read fault instr len k e = cc

-- an offset, and the byte behind it
pub unwind_found : (bytes text rest : List ℕ) (len : ℕ) (wide : Bool) (y z : ℤ) → OffsetSpells true wide text z → bytes ≡ text ++ rest → len ≡ length text → (len ≡ length bytes → ⊥) → y ≡ z → (front behind : List ℕ) × Operand forms.Unwind front (instrs.Unwind y wide (get_or bytes len 0)) × (bytes ≡ front ++ behind) × (len + 1 ≡ length front)
unwind_found bytes text [] len wide y z s e taken more same =
    absurd (more (omega (arith, taken, ap length e, length-append text [])))
unwind_found bytes text (byte ∷ rest) len wide y z s e taken more same =
    let at_text : get_or bytes (length text) 0 ≡ byte = ap (λ (ys : List ℕ). get_or ys (length text) 0) e ∙ get_or_at text byte rest 0 (length text) refl in
    let at : get_or bytes len 0 ≡ byte = ap (λ (k : ℕ). get_or bytes k 0) taken ∙ at_text in
    let size : length (text ++ byte ∷ []) ≡ length text + 1 = length_push text byte in
    (text ++ byte ∷ [], rest, (text, byte, z, wide, s, refl, cc), e ∙ sym (append_assoc text (byte ∷ []) rest), omega (arith, taken, size))
