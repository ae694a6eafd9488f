-- What is written of a signature and of a size field.
use Rattle.std.proofs.Common.{◌≡◌, ℕ, zero, suc, ◌+◌, ◌-◌, ◌*◌, ◌/◌, ◌%◌, ◌<◌, ◌≤◌, List, [], ◌∷◌, ◌++◌, length, Bool, true, false, cond, eqb, ltb, ◌&&◌, refl, ap, sym, subst, ◌∙◌, arith, append_assoc}
use Rattle.std.proofs.lemmas.List.Elements.{All-nil, All-cons}
use Rattle.std.proofs.lemmas.Bool.Decides.{nat_tests}
use Rattle.mpy_base.specs.Vuint.{HasMore}
use Rattle.bc_prelude.specs.declared.signature.Signature.{Signature}
use Rattle.bc_prelude.specs.Chain.{IsChain, number_of}
use Rattle.bc_prelude.specs.Signature as signatures
use Rattle.bc_prelude.specs.Signature.{slots_of, handlers_of, arguments_of, flags_of, kwonly_of, defaults_of, further_byte, signature_in, signature_from, KeepsLimits, IsSignature, IsWritable}
use Rattle.bc_prelude.specs.Size as sizes
use Rattle.bc_prelude.specs.Size.{size_in, IsSize}
use Rattle.bc_prelude.proofs.Chains.{some_byte, one_chain}
use Rattle.bc_prelude.proofs.Signatures.{same_signature}

pub chain_one : (byte : ℕ) → byte < 128 → IsChain (byte ∷ [])
chain_one byte low = record { high = []; last = byte; bytes_are = refl; more = All-nil HasMore; ends = low }

pub chain_cons : (byte : ℕ) (text : List ℕ) → 128 ≤ byte → IsChain text → IsChain (byte ∷ text)
chain_cons byte text has chain = record {
  high = byte ∷ chain.high;
  last = chain.last;
  bytes_are = ap (λ (z : List ℕ). byte ∷ z) chain.bytes_are;
  more = All-cons HasMore byte chain.high has chain.more;
  ends = chain.ends;
}

-- a byte that is written leaves the rest
pub byte_taken : (out whole next text others : List ℕ) (byte : ℕ) → text ≡ byte ∷ others → next ≡ out ++ byte ∷ [] → out ++ text ≡ whole → next ++ others ≡ whole
byte_taken out whole next text others byte t e w =
    ap (λ (z : List ℕ). z ++ others) e ∙ (append_assoc out (byte ∷ []) others ∙ (ap (λ (z : List ℕ). out ++ z) (sym t) ∙ w))

-- nor does the last one leave any
pub byte_last : (out whole next text : List ℕ) (byte : ℕ) → text ≡ byte ∷ [] → next ≡ out ++ byte ∷ [] → out ++ text ≡ whole → next ≡ whole
byte_last out whole next text byte t e w = e ∙ (ap (λ (z : List ℕ). out ++ z) (sym t) ∙ w)

-- no part is left
abbrev none_left : ℕ → ℕ → ℕ → ℕ → Bool
none_left s e a d = eqb s 0 && eqb e 0 && eqb a 0 && eqb d 0

none_true : (s e a d : ℕ) → none_left s e a d ≡ true → s + e + a + d ≤ 0
none_true s e a d h = grind (arith, nat_tests)

none_by : (s e a d : ℕ) → s + e + a + d ≤ 0 → none_left s e a d ≡ true
none_by zero zero zero zero h = refl
none_by (suc s) e a d h = absurd (omega arith)
none_by zero (suc e) a d h = absurd (omega arith)
none_by zero zero (suc a) d h = absurd (omega arith)
none_by zero zero zero (suc d) h = absurd (omega arith)

none_false : (s e a d : ℕ) → 0 < s + e + a + d → none_left s e a d ≡ false
none_false s e a d some =
    elim (none_left s e a d) as (λ t. none_left s e a d ≡ t → t ≡ false) [
      | true ↦ λ h. absurd (omega (arith, none_true s e a d h))
      | false ↦ λ _. refl
    ] refl

in_end : (steps byte s e a d : ℕ) → s + e + a + d ≤ 0 → signature_in steps byte s e a d ≡ byte ∷ []
unfolding signature_in
in_end zero byte s e a d none = refl
in_end (suc steps) byte s e a d none =
    ap (λ t. cond t (byte ∷ []) ((128 + byte) ∷ signature_in steps (further_byte s e a d) (s / 4) (e / 2) (a / 2) (d / 2))) (none_by s e a d none)

in_step : (steps byte s e a d : ℕ) → 0 < s + e + a + d → signature_in (suc steps) byte s e a d ≡ (128 + byte) ∷ signature_in steps (further_byte s e a d) (s / 4) (e / 2) (a / 2) (d / 2)
unfolding signature_in
in_step steps byte s e a d some =
    ap (λ t. cond t (byte ∷ []) ((128 + byte) ∷ signature_in steps (further_byte s e a d) (s / 4) (e / 2) (a / 2) (d / 2))) (none_false s e a d some)

steps_enough : (j k byte s e a d : ℕ) → s + e + a + d ≤ j → s + e + a + d ≤ k → signature_in j byte s e a d ≡ signature_in k byte s e a d
steps_enough zero k byte s e a d h i = in_end zero byte s e a d h ∙ sym (in_end k byte s e a d h)
steps_enough (suc j) zero byte s e a d h i = in_end (suc j) byte s e a d i ∙ sym (in_end zero byte s e a d i)
steps_enough (suc j) (suc k) byte s e a d h i =
    elim (ltb 0 (s + e + a + d)) as (λ t. ltb 0 (s + e + a + d) ≡ t → signature_in (suc j) byte s e a d ≡ signature_in (suc k) byte s e a d) [
      | true ↦ λ t.
          let some : 0 < s + e + a + d = grind (arith, nat_tests) in
          in_step j byte s e a d some ∙ (ap (λ (z : List ℕ). (128 + byte) ∷ z) (steps_enough j k (further_byte s e a d) (s / 4) (e / 2) (a / 2) (d / 2) (omega arith) (omega arith)) ∙ sym (in_step k byte s e a d some))
      | false ↦ λ t.
          let none : s + e + a + d ≤ 0 = grind (arith, nat_tests) in
          in_end (suc j) byte s e a d none ∙ sym (in_end (suc k) byte s e a d none)
    ] refl

pub signature_last : (byte s e a d : ℕ) → s + e + a + d ≤ 0 → signature_from byte s e a d ≡ byte ∷ []
unfolding signature_from
signature_last byte s e a d none = in_end (s + e + a + d) byte s e a d none

pub signature_more : (byte s e a d : ℕ) → 0 < s + e + a + d → signature_from byte s e a d ≡ (128 + byte) ∷ signature_from (further_byte s e a d) (s / 4) (e / 2) (a / 2) (d / 2)
unfolding signature_from
signature_more byte s e a d some =
    steps_enough (s + e + a + d) (suc (s + e + a + d)) byte s e a d (omega arith) (omega arith) ∙ (in_step (s + e + a + d) byte s e a d some ∙ ap (λ (z : List ℕ). (128 + byte) ∷ z) (steps_enough (s + e + a + d) (s / 4 + e / 2 + a / 2 + d / 2) (further_byte s e a d) (s / 4) (e / 2) (a / 2) (d / 2) (omega arith) (omega arith)))

-- the text is a chain of such a first byte and further ones
record Written (text : List ℕ) (byte s e a d : ℕ) : Type 0 where
  chain : IsChain text
  first : ℕ
  others : List ℕ
  text_is : text ≡ first ∷ others
  front : first % 128 ≡ byte
  slots : number_of 16 4 others ≡ s
  handlers : number_of 2 2 others ≡ e
  arguments : number_of 4 2 others ≡ a
  flags : number_of 64 2 others ≡ 0
  kwonly : number_of 8 2 others ≡ 0
  defaults : number_of 1 2 others ≡ d

written_last : (text : List ℕ) (byte s e a d : ℕ) → byte < 128 → s + e + a + d ≤ 0 → text ≡ byte ∷ [] → Written text byte s e a d
written_last text byte s e a d low none is = record {
  chain = subst IsChain (sym is) (chain_one byte low);
  first = byte;
  others = [];
  text_is = is;
  front = omega arith;
  slots = omega arith;
  handlers = omega arith;
  arguments = omega arith;
  flags = refl;
  kwonly = refl;
  defaults = omega arith;
}

-- the parts of a further byte
slots_digit : (z s e a d : ℕ) → z % 128 ≡ further_byte s e a d → z / 16 % 4 ≡ s % 4
slots_digit z s e a d h = omega arith

handlers_digit : (z s e a d : ℕ) → z % 128 ≡ further_byte s e a d → z / 2 % 2 ≡ e % 2
handlers_digit z s e a d h = omega arith

arguments_digit : (z s e a d : ℕ) → z % 128 ≡ further_byte s e a d → z / 4 % 2 ≡ a % 2
arguments_digit z s e a d h = omega arith

defaults_digit : (z s e a d : ℕ) → z % 128 ≡ further_byte s e a d → z / 1 % 2 ≡ d % 2
defaults_digit z s e a d h = omega arith

no_flags : (z s e a d : ℕ) → z % 128 ≡ further_byte s e a d → z / 64 % 2 ≡ 0
no_flags z s e a d h = omega arith

no_kwonly : (z s e a d : ℕ) → z % 128 ≡ further_byte s e a d → z / 8 % 2 ≡ 0
no_kwonly z s e a d h = omega arith

written_more : (text behind : List ℕ) (byte s e a d : ℕ) → byte < 128 → text ≡ (128 + byte) ∷ behind → Written behind (further_byte s e a d) (s / 4) (e / 2) (a / 2) (d / 2) → Written text byte s e a d
written_more text behind byte s e a d low is w =
    let z = w.first in
    record {
      chain = subst IsChain (sym is) (chain_cons (128 + byte) behind (omega arith) w.chain);
      first = 128 + byte;
      others = behind;
      text_is = is;
      front = omega arith;
      slots = ap (number_of 16 4) w.text_is ∙ omega (arith, slots_digit z s e a d w.front, w.slots);
      handlers = ap (number_of 2 2) w.text_is ∙ omega (arith, handlers_digit z s e a d w.front, w.handlers);
      arguments = ap (number_of 4 2) w.text_is ∙ omega (arith, arguments_digit z s e a d w.front, w.arguments);
      flags = ap (number_of 64 2) w.text_is ∙ omega (arith, no_flags z s e a d w.front, w.flags);
      kwonly = ap (number_of 8 2) w.text_is ∙ omega (arith, no_kwonly z s e a d w.front, w.kwonly);
      defaults = ap (number_of 1 2) w.text_is ∙ omega (arith, defaults_digit z s e a d w.front, w.defaults);
    }

written_in : (steps byte s e a d : ℕ) → byte < 128 → s + e + a + d ≤ steps → Written (signature_in steps byte s e a d) byte s e a d
written_in zero byte s e a d low h = written_last (signature_in zero byte s e a d) byte s e a d low h (in_end zero byte s e a d h)
written_in (suc steps) byte s e a d low h =
    elim (ltb 0 (s + e + a + d)) as (λ t. ltb 0 (s + e + a + d) ≡ t → Written (signature_in (suc steps) byte s e a d) byte s e a d) [
      | true ↦ λ t.
          let some : 0 < s + e + a + d = grind (arith, nat_tests) in
          let behind = written_in steps (further_byte s e a d) (s / 4) (e / 2) (a / 2) (d / 2) (omega arith) (omega arith) in
          written_more (signature_in (suc steps) byte s e a d) _ byte s e a d low (in_step steps byte s e a d some) behind
      | false ↦ λ t.
          let none : s + e + a + d ≤ 0 = grind (arith, nat_tests) in
          written_last (signature_in (suc steps) byte s e a d) byte s e a d low none (in_end (suc steps) byte s e a d none)
    ] refl

-- the parts of the first byte
abbrev first_byte : ℕ → ℕ → ℕ → ℕ
first_byte s e a = 8 * (s % 16) + 4 * (e % 2) + a % 4

first_slots : (z s e a n : ℕ) → z % 128 ≡ first_byte s e a → n ≡ s / 16 → z / 8 % 16 + 16 * n ≡ s
first_slots z s e a n h i = omega arith

first_handlers : (z s e a n : ℕ) → z % 128 ≡ first_byte s e a → n ≡ e / 2 → z / 4 % 2 + 2 * n ≡ e
first_handlers z s e a n h i = omega arith

first_arguments : (z s e a n : ℕ) → z % 128 ≡ first_byte s e a → n ≡ a / 4 → z % 4 + 4 * n ≡ a
first_arguments z s e a n h i = omega arith

spells_from : (text : List ℕ) (slots : ℕ) (signature : Signature) → IsWritable signature → signature.n_state ≡ slots + 1 → Written text (first_byte slots signature.n_exc signature.args) (slots / 16) (signature.n_exc / 2) (signature.args / 4) signature.defaults → IsSignature text signature
spells_from text slots signature h n w =
    let s : slots_of text ≡ slots = ap slots_of w.text_is ∙ first_slots w.first slots signature.n_exc signature.args (number_of 16 4 w.others) w.front w.slots in
    let e : handlers_of text ≡ signature.n_exc = ap handlers_of w.text_is ∙ first_handlers w.first slots signature.n_exc signature.args (number_of 2 2 w.others) w.front w.handlers in
    let a : arguments_of text ≡ signature.args = ap arguments_of w.text_is ∙ first_arguments w.first slots signature.n_exc signature.args (number_of 4 2 w.others) w.front w.arguments in
    let d : defaults_of text ≡ signature.defaults = ap defaults_of w.text_is ∙ w.defaults in
    record {
      chain = w.chain;
      small = record { slots = omega (arith, h.slots); handlers = omega (arith, h.handlers); arguments = omega (arith, h.arguments) };
      no_flags = ap flags_of w.text_is ∙ w.flags;
      no_kwonly = ap kwonly_of w.text_is ∙ w.kwonly;
      n_state = omega arith;
      n_exc = sym e;
      flags = h.no_flags;
      args = sym a;
      kwonly = h.no_kwonly;
      defaults = omega (arith, h.defaults);
    }

-- what is written gives the numbers
pub signature_spells : (signature : Signature) → IsWritable signature → IsSignature (signatures.spelling signature) signature
unfolding signature_from
signature_spells signature h =
    let slots = signature.n_state - 1 in
    spells_from (signatures.spelling signature) slots signature h (omega (arith, h.some)) (written_in (slots / 16 + signature.n_exc / 2 + signature.args / 4 + signature.defaults) (first_byte slots signature.n_exc signature.args) (slots / 16) (signature.n_exc / 2) (signature.args / 4) signature.defaults (omega arith) (omega arith))

one_byte : (byte s e a d : ℕ) (others : List ℕ) → length (signature_in zero byte s e a d) ≤ suc (length others)
unfolding signature_in
one_byte byte s e a d others = omega arith

-- no text of as large numbers is shorter
no_longer : (steps byte s e a d : ℕ) (others : List ℕ) → s ≤ number_of 16 4 others → e ≤ number_of 2 2 others → a ≤ number_of 4 2 others → d ≤ number_of 1 2 others → length (signature_in steps byte s e a d) ≤ suc (length others)
no_longer steps byte s e a d [] h i j k =
    let end = ap length (in_end steps byte s e a d (omega arith)) in omega (arith, end)
no_longer zero byte s e a d (z ∷ others) h i j k = one_byte byte s e a d (z ∷ others)
no_longer (suc steps) byte s e a d (z ∷ others) h i j k =
    elim (ltb 0 (s + e + a + d)) as (λ t. ltb 0 (s + e + a + d) ≡ t → length (signature_in (suc steps) byte s e a d) ≤ suc (length (z ∷ others))) [
      | true ↦ λ t.
          let some : 0 < s + e + a + d = grind (arith, nat_tests) in
          let step = ap length (in_step steps byte s e a d some) in
          let behind = no_longer steps (further_byte s e a d) (s / 4) (e / 2) (a / 2) (d / 2) others (omega arith) (omega arith) (omega arith) (omega arith) in
          omega (arith, step, behind)
      | false ↦ λ t.
          let none : s + e + a + d ≤ 0 = grind (arith, nat_tests) in
          let end = ap length (in_end (suc steps) byte s e a d none) in
          omega (arith, end)
    ] refl

pub signature_shortest : (text : List ℕ) (signature : Signature) → IsSignature text signature → length (signatures.spelling signature) ≤ length text
unfolding signature_from
signature_shortest [] signature is = absurd (omega (arith, some_byte [] is.chain))
signature_shortest (first ∷ others) signature is =
    let slots = signature.n_state - 1 in
    let h = is.n_state in
    let i = is.n_exc in
    let j = is.args in
    let k = is.defaults in
    no_longer (slots / 16 + signature.n_exc / 2 + signature.args / 4 + signature.defaults) _ (slots / 16) (signature.n_exc / 2) (signature.args / 4) signature.defaults others (omega arith) (omega arith) (omega arith) (omega arith)

pub signature_writable : (text : List ℕ) (signature : Signature) → IsSignature text signature → IsWritable signature
signature_writable text signature is = record {
  some = omega (arith, is.n_state);
  slots = omega (arith, is.n_state, is.small.slots);
  handlers = omega (arith, is.n_exc, is.small.handlers);
  arguments = omega (arith, is.args, is.small.arguments);
  no_flags = is.flags;
  no_kwonly = is.kwonly;
  defaults = omega (arith, is.defaults);
}

-- the size field
size_end : (steps size : ℕ) → size < 64 → size_in steps size ≡ (2 * (size % 64)) ∷ []
unfolding size_in
size_end zero size low = refl
size_end (suc steps) size low =
    let test : ltb size 64 ≡ true = grind (arith, nat_tests) in
    ap (λ t. cond t ((2 * (size % 64)) ∷ []) ((128 + 2 * (size % 64)) ∷ size_in steps (size / 64))) test

size_step : (steps size : ℕ) → 64 ≤ size → size_in (suc steps) size ≡ (128 + 2 * (size % 64)) ∷ size_in steps (size / 64)
unfolding size_in
size_step steps size more =
    let test : ltb size 64 ≡ false = grind (arith, nat_tests) in
    ap (λ t. cond t ((2 * (size % 64)) ∷ []) ((128 + 2 * (size % 64)) ∷ size_in steps (size / 64))) test

size_steps : (j k size : ℕ) → size ≤ j → size ≤ k → size_in j size ≡ size_in k size
size_steps zero k size h i = size_end zero size (omega arith) ∙ sym (size_end k size (omega arith))
size_steps (suc j) zero size h i = size_end (suc j) size (omega arith) ∙ sym (size_end zero size (omega arith))
size_steps (suc j) (suc k) size h i =
    elim (ltb size 64) as (λ t. ltb size 64 ≡ t → size_in (suc j) size ≡ size_in (suc k) size) [
      | true ↦ λ t.
          let low : size < 64 = grind (arith, nat_tests) in
          size_end (suc j) size low ∙ sym (size_end (suc k) size low)
      | false ↦ λ t.
          let more : 64 ≤ size = grind (arith, nat_tests) in
          size_step j size more ∙ (ap (λ (z : List ℕ). (128 + 2 * (size % 64)) ∷ z) (size_steps j k (size / 64) (omega arith) (omega arith)) ∙ sym (size_step k size more))
    ] refl

pub size_last : (size : ℕ) → size < 64 → sizes.spelling size ≡ (2 * (size % 64)) ∷ []
unfolding sizes.spelling
size_last size low = size_end size size low

pub size_more : (size : ℕ) → 64 ≤ size → sizes.spelling size ≡ (128 + 2 * (size % 64)) ∷ sizes.spelling (size / 64)
unfolding sizes.spelling
size_more size more =
    size_steps size (suc size) size (omega arith) (omega arith) ∙ (size_step size size more ∙ ap (λ (z : List ℕ). (128 + 2 * (size % 64)) ∷ z) (size_steps size (size / 64) (size / 64) (omega arith) (omega arith)))

is_size_end : (text : List ℕ) (size : ℕ) → size < 64 → text ≡ (2 * (size % 64)) ∷ [] → IsSize text size
is_size_end text size low is = record {
  chain = subst IsChain (sym is) (chain_one (2 * (size % 64)) (omega arith));
  no_cells = ap (number_of 1 2) is ∙ omega arith;
  size_is = sym (ap (number_of 2 64) is ∙ omega arith);
}

is_size_step : (text behind : List ℕ) (size : ℕ) → text ≡ (128 + 2 * (size % 64)) ∷ behind → IsSize behind (size / 64) → IsSize text size
is_size_step text behind size is w =
    let n = w.no_cells in
    let m = w.size_is in
    record {
      chain = subst IsChain (sym is) (chain_cons (128 + 2 * (size % 64)) behind (omega arith) w.chain);
      no_cells = ap (number_of 1 2) is ∙ omega arith;
      size_is = sym (ap (number_of 2 64) is ∙ omega arith);
    }

size_spells_in : (steps size : ℕ) → size ≤ steps → IsSize (size_in steps size) size
size_spells_in zero size h = is_size_end (size_in zero size) size (omega arith) (size_end zero size (omega arith))
size_spells_in (suc steps) size h =
    elim (ltb size 64) as (λ t. ltb size 64 ≡ t → IsSize (size_in (suc steps) size) size) [
      | true ↦ λ t.
          let low : size < 64 = grind (arith, nat_tests) in
          is_size_end (size_in (suc steps) size) size low (size_end (suc steps) size low)
      | false ↦ λ t.
          let more : 64 ≤ size = grind (arith, nat_tests) in
          is_size_step (size_in (suc steps) size) (size_in steps (size / 64)) size (size_step steps size more) (size_spells_in steps (size / 64) (omega arith))
    ] refl

pub size_spells : (size : ℕ) → IsSize (sizes.spelling size) size
unfolding sizes.spelling
size_spells size = size_spells_in size size (omega arith)

size_zero : (size : ℕ) → size_in zero size ≡ (2 * (size % 64)) ∷ []
unfolding size_in
size_zero size = refl

size_no_longer : (steps size : ℕ) (first : ℕ) (others : List ℕ) → size ≤ number_of 2 64 (first ∷ others) → length (size_in steps size) ≤ suc (length others)
size_no_longer steps size first [] h =
    let end = ap length (size_end steps size (omega arith)) in omega (arith, end)
size_no_longer zero size first (z ∷ others) h =
    let end = ap length (size_zero size) in omega (arith, end)
size_no_longer (suc steps) size first (z ∷ others) h =
    elim (ltb size 64) as (λ t. ltb size 64 ≡ t → length (size_in (suc steps) size) ≤ suc (length (z ∷ others))) [
      | true ↦ λ t.
          let low : size < 64 = grind (arith, nat_tests) in
          let end = ap length (size_end (suc steps) size low) in
          omega (arith, end)
      | false ↦ λ t.
          let more : 64 ≤ size = grind (arith, nat_tests) in
          let step = ap length (size_step steps size more) in
          let below : size / 64 ≤ number_of 2 64 (z ∷ others) = omega arith in
          let behind = size_no_longer steps (size / 64) z others below in
          omega (arith, step, behind)
    ] refl

pub size_shortest : (text : List ℕ) (size : ℕ) → IsSize text size → length (sizes.spelling size) ≤ length text
unfolding sizes.spelling
size_shortest [] size is = absurd (omega (arith, some_byte [] is.chain))
size_shortest (first ∷ others) size is =
    let h = is.size_is in size_no_longer size size first others (omega arith)

pub one_size : (a b x y : List ℕ) (m n : ℕ) → IsSize a m → IsSize b n → a ++ x ≡ b ++ y → (a ≡ b) × (m ≡ n)
one_size a b x y m n i j e =
    let same = one_chain a b x y i.chain j.chain e in
    (same.0, i.size_is ∙ (ap (number_of 2 64) same.0 ∙ sym j.size_is))

pub one_signature : (a b x y : List ℕ) (m n : Signature) → IsSignature a m → IsSignature b n → a ++ x ≡ b ++ y → (a ≡ b) × (m ≡ n)
one_signature a b x y m n i j e =
    let same = one_chain a b x y i.chain j.chain e in
    (same.0, same_signature b m n (subst (λ (z : List ℕ). IsSignature z m) same.0 i) j)
