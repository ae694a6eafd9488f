-- What is read of a prelude, by what is read of its parts.
use Rattle.std.proofs.Common.{Result, Ok, Err, ◌≡◌, ◌⊎◌, ◌↔◌, ℕ, ◌+◌, ◌-◌, ◌≤◌, List, ◌++◌, length, take, drop, refl, ap, sym, subst, ◌∙◌, inl, inr, arith, append_assoc, length-append}
use Rattle.std.specs.Prelude.{IsErrOf}
use Rattle.std.proofs.lemmas.List.{length-take-le, take-append-drop}
use Rattle.std.proofs.Math.Seq.{drop-append_seam, take-append_seam, take-append-add}
use Rattle.bc_prelude.specs.declared.fault.PreludeFault.{PreludeFault}
use Rattle.bc_prelude.specs.declared.fault.PreludeFault.TheVariants as faults
use Rattle.bc_prelude.specs.declared.signature.Signature.{Signature}
use Rattle.bc_prelude.specs.declared.prelude.Prelude.{Prelude}
use Rattle.bc_prelude.specs.Signature.{IsSignature, SignaturePasses, SignatureOutside}
use Rattle.bc_prelude.specs.Signature as signatures
use Rattle.bc_prelude.specs.Size as sizes
use Rattle.bc_prelude.specs.Size.{IsSize, SizeEnds, HasCells}
use Rattle.bc_prelude.specs.Names.{AreNames, NamesEnd, NamesPass}
use Rattle.bc_prelude.specs.Prelude.{signature_in, Begins, BehindSignature, OfInformation, PreludeEnds, PreludePasses, PreludeOutside, front_of, IsWritable}
use Rattle.bc_prelude.proofs.Written.{signature_spells, size_spells}
use Rattle.bc_prelude.proofs.Chains.{one_chain, has_end}
use Rattle.bc_prelude.proofs.Signatures.{SignatureResult, signature_refused, same_signature, signature_found}
use Rattle.bc_prelude.proofs.Sizes.{SizeResult, size_refused, size_found}
use Rattle.bc_prelude.proofs.Indexes.{NamesResult, names_read, names_refused, same_names}

abbrev pub prelude_read : Prelude → Result Prelude PreludeFault
prelude_read prelude = Ok prelude

abbrev pub prelude_refused : PreludeFault → Result Prelude PreludeFault
prelude_refused fault = Err fault

-- the result says all of the code that it has to
pub record PreludeResult (code : List ℕ) (result : Result Prelude PreludeFault) : Type 0 where
  pub only : (prelude : Prelude) → Begins code prelude → result ≡ prelude_read prelude
  pub truncated : IsErrOf result faults.Truncated ↔ PreludeEnds code
  pub too_big : IsErrOf result faults.TooBig ↔ PreludePasses code
  pub outside : IsErrOf result faults.Outside ↔ PreludeOutside code

-- what follows a signature in front of the code
same_behind : (P : Signature → List ℕ → Type 0) (code text rest : List ℕ) (s : Signature) → IsSignature text s → code ≡ text ++ rest → BehindSignature P code → P s rest
same_behind P code text rest s is e b =
    let same = one_chain b.text text b.rest rest b.is_signature.chain is.chain (sym b.code_is ∙ e) in
    let there : IsSignature text b.signature = subst (λ (z : List ℕ). IsSignature z b.signature) same.0 b.is_signature in
    let signatures = same_signature text b.signature s there is in
    subst (λ (z : Signature). P z rest) signatures (subst (P b.signature) same.1 b.holds)

-- the information behind a size field in front of the bytes
same_information : (P : List ℕ → Type 0) (bytes text rest : List ℕ) (size : ℕ) → IsSize text size → bytes ≡ text ++ rest → OfInformation P bytes → P (take size rest)
same_information P bytes text rest size is e i =
    let same = one_chain i.text text i.rest rest i.is_size.chain is.chain (sym i.bytes_are ∙ e) in
    let there : IsSize text i.size = subst (λ (z : List ℕ). IsSize z i.size) same.0 i.is_size in
    let sizes : i.size ≡ size = there.size_is ∙ sym is.size_is in
    subst (λ (n : ℕ). P (take n rest)) sizes (subst (λ (z : List ℕ). P (take i.size z)) same.1 i.holds)

-- what follows the size field of a prelude
abbrev information_on : (code : List ℕ) (prelude : Prelude) → Begins code prelude → List ℕ
information_on code prelude b = b.names ++ (b.lines ++ b.instructions)

enough : (names lines others : List ℕ) → length names + length lines ≤ length (names ++ (lines ++ others))
enough names lines others = omega (arith, length-append names (lines ++ others), length-append lines others)

taken : (names lines others : List ℕ) → take (length names + length lines) (names ++ (lines ++ others)) ≡ names ++ lines
taken names lines others =
    take-append-add names (lines ++ others) (length lines) ∙ ap (λ (z : List ℕ). names ++ z) (take-append_seam lines others)

-- no prelude without a signature
pub prelude_no_signature : (code : List ℕ) (fault : PreludeFault) → SignatureResult code (signature_refused fault) → PreludeResult code (prelude_refused fault)
prelude_no_signature code fault r =
    let none : (text rest : List ℕ) (s : Signature) → IsSignature text s → code ≡ text ++ rest → ⊥ = λ text rest s is e. let read = r.only text rest s is e in absurd cc in
    record {
      only = λ prelude b. absurd (none b.signature _ _ b.is_signature b.code_is);
      truncated = (
        λ e. inl (r.truncated.0 cc),
        λ ends. elim ends [
          | inl endless ↦ let f = r.truncated.1 endless in cc
          | inr b ↦ absurd (none b.text b.rest b.signature b.is_signature b.code_is)
        ],
      );
      too_big = (
        λ e. inl (r.too_big.0 cc),
        λ passes. elim passes [
          | inl p ↦ let f = r.too_big.1 p in cc
          | inr b ↦ absurd (none b.text b.rest b.signature b.is_signature b.code_is)
        ],
      );
      outside = (
        λ e. inl (r.outside.0 cc),
        λ outside. elim outside [
          | inl p ↦ let f = r.outside.1 p in cc
          | inr b ↦ absurd (none b.text b.rest b.signature b.is_signature b.code_is)
        ],
      );
    }

-- nor without a size field
pub prelude_no_size : (code text rest : List ℕ) (s : Signature) (at : ℕ) (fault : PreludeFault) → IsSignature text s → code ≡ text ++ rest → SizeResult rest at (size_refused fault) → (fault ≡ faults.TooBig → ⊥) → PreludeResult code (prelude_refused fault)
prelude_no_size code text rest s at fault is e r small =
    let front = signature_found code text rest s (length text) e is refl in
    let none : (t u : List ℕ) (n : ℕ) → IsSize t n → rest ≡ t ++ u → n ≤ length u → ⊥ = λ t u n i f whole. let read = r.only t u n i f whole in absurd cc in
    let no_information : (P : List ℕ → Type 0) → OfInformation P rest → ⊥ = λ P i. none i.text i.rest i.size i.is_size i.bytes_are i.whole in
    record {
      only = λ prelude b.
          let same = one_chain b.signature text (b.size ++ information_on code prelude b) rest b.is_signature.chain is.chain (sym b.code_is ∙ e) in
          absurd (none b.size (information_on code prelude b) (length b.names + length b.lines) b.is_size (sym same.1) (enough b.names b.lines b.instructions));
      truncated = (
        λ f. inr (record { text = text; rest = rest; signature = s; code_is = e; is_signature = is; holds = inl (r.truncated.0 cc) }),
        λ ends. elim ends [
          | inl endless ↦ absurd (has_end code text rest is.chain e endless)
          | inr b ↦ elim (same_behind (λ s rest. SizeEnds rest ⊎ OfInformation (NamesEnd (1 + s.args)) rest) code text rest s is e b) [
            | inl short ↦ let f = r.truncated.1 short in cc
            | inr i ↦ absurd (no_information (NamesEnd (1 + s.args)) i)
          ]
        ],
      );
      too_big = (
        λ f. absurd (small cc),
        λ passes. elim passes [
          | inl p ↦ let f = front.too_big.1 p in absurd cc
          | inr b ↦ absurd (no_information (NamesPass (1 + s.args)) (same_behind (λ s rest. OfInformation (NamesPass (1 + s.args)) rest) code text rest s is e b))
        ],
      );
      outside = (
        λ f. inr (record { text = text; rest = rest; signature = s; code_is = e; is_signature = is; holds = r.outside.0 cc }),
        λ outside. elim outside [
          | inl p ↦ let f = front.outside.1 p in absurd cc
          | inr b ↦ let f = r.outside.1 (same_behind (λ s rest. HasCells rest) code text rest s is e b) in cc
        ],
      );
    }

-- the signature and the size field are read
pub record Fronted (code : List ℕ) (signature : Signature) (size info_at : ℕ) : Type 0 where
  pub text : List ℕ
  pub field : List ℕ
  pub rest : List ℕ
  pub is_signature : IsSignature text signature
  pub is_size : IsSize field size
  pub code_is : code ≡ text ++ (field ++ rest)
  pub whole : size ≤ length rest
  pub place : info_at ≡ length text + length field

pub behind_text : (code text rest : List ℕ) (at : ℕ) → code ≡ text ++ rest → at ≡ length text → drop at code ≡ rest
behind_text code text rest at e place = ap (λ (n : ℕ). drop n code) place ∙ (ap (drop (length text)) e ∙ drop-append_seam text rest)

pub fronted : (code text rest field others : List ℕ) (s : Signature) (size size_at info_at : ℕ) → IsSignature text s → code ≡ text ++ rest → size_at ≡ length text → IsSize field size → drop size_at code ≡ field ++ others → size ≤ length others → info_at ≡ size_at + length field → Fronted code s size info_at
fronted code text rest field others s size size_at info_at is e place is_size f whole next =
    let follows : rest ≡ field ++ others = sym (behind_text code text rest size_at e place) ∙ f in
    record {
      text = text;
      field = field;
      rest = others;
      is_signature = is;
      is_size = is_size;
      code_is = e ∙ ap (λ (z : List ℕ). text ++ z) follows;
      whole = whole;
      place = omega arith;
    }

-- the bytes between the places of the information are the information
pub information_is : (code : List ℕ) (s : Signature) (size info_at : ℕ) (w : Fronted code s size info_at) → drop info_at (take (info_at + size) code) ≡ take size w.rest
information_is code s size info_at w =
    let front : code ≡ (w.text ++ w.field) ++ w.rest = w.code_is ∙ sym (append_assoc w.text w.field w.rest) in
    let place : info_at ≡ length (w.text ++ w.field) = omega (arith, w.place, length-append w.text w.field) in
    let cut : take (info_at + size) code ≡ (w.text ++ w.field) ++ take size w.rest =
    ap (λ (n : ℕ). take (n + size) code) place ∙ (ap (take (length (w.text ++ w.field) + size)) front ∙ take-append-add (w.text ++ w.field) w.rest size) in
    behind_text (take (info_at + size) code) (w.text ++ w.field) (take size w.rest) info_at cut place

-- nor without names
pub prelude_no_names : (code : List ℕ) (s : Signature) (size info_at at : ℕ) (fault : PreludeFault) (w : Fronted code s size info_at) → NamesResult (take size w.rest) at (1 + s.args) (names_refused fault) → (fault ≡ faults.Outside → ⊥) → PreludeResult code (prelude_refused fault)
prelude_no_names code s size info_at at fault w r inside =
    let front = signature_found code w.text (w.field ++ w.rest) s (length w.text) w.code_is w.is_signature refl in
    let sized = size_found (w.field ++ w.rest) w.field w.rest size 0 (length w.field) refl w.is_size w.whole refl in
    record {
      only = λ prelude b.
          let signatures = one_chain b.signature w.text (b.size ++ information_on code prelude b) (w.field ++ w.rest) b.is_signature.chain w.is_signature.chain (sym b.code_is ∙ w.code_is) in
          let fields = one_chain b.size w.field (information_on code prelude b) w.rest b.is_size.chain w.is_size.chain signatures.1 in
          let there : IsSignature w.text (signature_in prelude) = subst (λ (z : List ℕ). IsSignature z (signature_in prelude)) signatures.0 b.is_signature in
          let numbers : signature_in prelude ≡ s = same_signature w.text (signature_in prelude) s there w.is_signature in
          let field : IsSize w.field (length b.names + length b.lines) = subst (λ (z : List ℕ). IsSize z (length b.names + length b.lines)) fields.0 b.is_size in
          let sizes : size ≡ length b.names + length b.lines = w.is_size.size_is ∙ sym field.size_is in
          let information : take size w.rest ≡ b.names ++ b.lines = ap (λ (n : ℕ). take n w.rest) sizes ∙ (ap (take (length b.names + length b.lines)) (sym fields.1) ∙ taken b.names b.lines b.instructions) in
          let count : length b.indexes ≡ 1 + s.args = b.count ∙ ap (λ (z : Signature). 1 + z.args) numbers in
          let read = r.only b.indexes b.names b.lines b.are_names count information in
          absurd cc;
      truncated = (
        λ f. inr (record {
          text = w.text;
          rest = w.field ++ w.rest;
          signature = s;
          code_is = w.code_is;
          is_signature = w.is_signature;
          holds = inr (record { text = w.field; rest = w.rest; size = size; bytes_are = refl; is_size = w.is_size; whole = w.whole; holds = r.truncated.0 cc });
        }),
        λ ends. elim ends [
          | inl endless ↦ absurd (has_end code w.text (w.field ++ w.rest) w.is_signature.chain w.code_is endless)
          | inr b ↦ elim (same_behind (λ s rest. SizeEnds rest ⊎ OfInformation (NamesEnd (1 + s.args)) rest) code w.text (w.field ++ w.rest) s w.is_signature w.code_is b) [
            | inl short ↦ let f = sized.truncated.1 short in absurd cc
            | inr i ↦ let f = r.truncated.1 (same_information (NamesEnd (1 + s.args)) (w.field ++ w.rest) w.field w.rest size w.is_size refl i) in cc
          ]
        ],
      );
      too_big = (
        λ f. inr (record {
          text = w.text;
          rest = w.field ++ w.rest;
          signature = s;
          code_is = w.code_is;
          is_signature = w.is_signature;
          holds = record { text = w.field; rest = w.rest; size = size; bytes_are = refl; is_size = w.is_size; whole = w.whole; holds = r.too_big.0 cc };
        }),
        λ passes. elim passes [
          | inl p ↦ let f = front.too_big.1 p in absurd cc
          | inr b ↦
              let i = same_behind (λ s rest. OfInformation (NamesPass (1 + s.args)) rest) code w.text (w.field ++ w.rest) s w.is_signature w.code_is b in
              let f = r.too_big.1 (same_information (NamesPass (1 + s.args)) (w.field ++ w.rest) w.field w.rest size w.is_size refl i) in cc
        ],
      );
      outside = (
        λ f. absurd (inside cc),
        λ outside. elim outside [
          | inl p ↦ let f = front.outside.1 p in absurd cc
          | inr b ↦ let f = sized.outside.1 (same_behind (λ s rest. HasCells rest) code w.text (w.field ++ w.rest) s w.is_signature w.code_is b) in absurd cc
        ],
      );
    }

-- the prelude that the parts give
abbrev pub prelude_of : Signature → ℕ → ℕ → ℕ → Prelude
prelude_of s info_at lines_at code_at = record {
  n_state = s.n_state;
  n_exc = s.n_exc;
  flags = s.flags;
  args = s.args;
  kwonly = s.kwonly;
  defaults = s.defaults;
  cells = 0;
  info_at = info_at;
  lines_at = lines_at;
  code_at = code_at;
}

pub prelude_begins : (code : List ℕ) (s : Signature) (size info_at lines_at : ℕ) (w : Fronted code s size info_at) (indexes names lines : List ℕ) → AreNames indexes names → length indexes ≡ 1 + s.args → take size w.rest ≡ names ++ lines → lines_at ≡ info_at + length names → Begins code (prelude_of s info_at lines_at (info_at + size))
prelude_begins code s size info_at lines_at w indexes names lines are count e place =
    let sizes : size ≡ length names + length lines = omega (arith, ap length e, length-append names lines, length-take-le size w.rest w.whole) in
    let rest_is : w.rest ≡ names ++ (lines ++ drop size w.rest) =
    sym (take-append-drop size w.rest) ∙ (ap (λ (z : List ℕ). z ++ drop size w.rest) e ∙ append_assoc names lines (drop size w.rest)) in
    record {
      signature = w.text;
      size = w.field;
      names = names;
      lines = lines;
      instructions = drop size w.rest;
      indexes = indexes;
      code_is = w.code_is ∙ ap (λ (z : List ℕ). w.text ++ (w.field ++ z)) rest_is;
      is_signature = w.is_signature;
      is_size = subst (IsSize w.field) sizes w.is_size;
      are_names = are;
      count = count;
      no_cells = refl;
      info_at = w.place;
      lines_at = place;
      code_at = omega arith;
    }

abbrev made : Signature → ℕ → ℕ → ℕ → ℕ → Prelude
made s cells info_at lines_at code_at = record {
  n_state = s.n_state;
  n_exc = s.n_exc;
  flags = s.flags;
  args = s.args;
  kwonly = s.kwonly;
  defaults = s.defaults;
  cells = cells;
  info_at = info_at;
  lines_at = lines_at;
  code_at = code_at;
}

same_fields : (p q : Prelude) → signature_in p ≡ signature_in q → p.cells ≡ q.cells → p.info_at ≡ q.info_at → p.lines_at ≡ q.lines_at → p.code_at ≡ q.code_at → p ≡ q
same_fields p q s a b c d =
    ap (λ (z : Signature). made z p.cells p.info_at p.lines_at p.code_at) s
    ∙ ap (λ (n : ℕ). made (signature_in q) n p.info_at p.lines_at p.code_at) a
    ∙ ap (λ (n : ℕ). made (signature_in q) q.cells n p.lines_at p.code_at) b
    ∙ ap (λ (n : ℕ). made (signature_in q) q.cells q.info_at n p.code_at) c
    ∙ ap (made (signature_in q) q.cells q.info_at q.lines_at) d

-- a code begins with one prelude at most
pub same_prelude : (code : List ℕ) (p q : Prelude) → Begins code p → Begins code q → p ≡ q
same_prelude code p q b c =
    let signatures = one_chain b.signature c.signature (b.size ++ information_on code p b) (c.size ++ information_on code q c) b.is_signature.chain c.is_signature.chain (sym b.code_is ∙ c.code_is) in
    let fields = one_chain b.size c.size (information_on code p b) (information_on code q c) b.is_size.chain c.is_size.chain signatures.1 in
    let there : IsSignature c.signature (signature_in p) = subst (λ (z : List ℕ). IsSignature z (signature_in p)) signatures.0 b.is_signature in
    let numbers : signature_in p ≡ signature_in q = same_signature c.signature (signature_in p) (signature_in q) there c.is_signature in
    let counts : length b.indexes ≡ length c.indexes = b.count ∙ (ap (λ (z : Signature). 1 + z.args) numbers ∙ sym c.count) in
    let names = same_names b.indexes c.indexes b.names c.names (b.lines ++ b.instructions) (c.lines ++ c.instructions) b.are_names c.are_names counts fields.1 in
    let field : IsSize c.size (length b.names + length b.lines) = subst (λ (z : List ℕ). IsSize z (length b.names + length b.lines)) fields.0 b.is_size in
    let sizes : length b.names + length b.lines ≡ length c.names + length c.lines = field.size_is ∙ sym c.is_size.size_is in
    let info : p.info_at ≡ q.info_at = omega (arith, b.info_at, c.info_at, ap length signatures.0, ap length fields.0) in
    let lines : p.lines_at ≡ q.lines_at = omega (arith, info, b.lines_at, c.lines_at, ap length names.0) in
    let end : p.code_at ≡ q.code_at = omega (arith, info, b.lines_at, c.lines_at, b.code_at, c.code_at, sizes) in
    let cells : p.cells ≡ q.cells = b.no_cells ∙ sym c.no_cells in
    same_fields p q numbers cells info lines end

-- the prelude is read
pub prelude_found : (code : List ℕ) (s : Signature) (size info_at lines_at at : ℕ) (w : Fronted code s size info_at) → NamesResult (take size w.rest) at (1 + s.args) (names_read lines_at) → Begins code (prelude_of s info_at lines_at (info_at + size)) → PreludeResult code (prelude_read (prelude_of s info_at lines_at (info_at + size)))
prelude_found code s size info_at lines_at at w r begins =
    let front = signature_found code w.text (w.field ++ w.rest) s (length w.text) w.code_is w.is_signature refl in
    let sized = size_found (w.field ++ w.rest) w.field w.rest size 0 (length w.field) refl w.is_size w.whole refl in
    record {
      only = λ prelude b. ap prelude_read (same_prelude code (prelude_of s info_at lines_at (info_at + size)) prelude begins b);
      truncated = (
        λ f. absurd cc,
        λ ends. elim ends [
          | inl endless ↦ absurd (has_end code w.text (w.field ++ w.rest) w.is_signature.chain w.code_is endless)
          | inr b ↦ elim (same_behind (λ s rest. SizeEnds rest ⊎ OfInformation (NamesEnd (1 + s.args)) rest) code w.text (w.field ++ w.rest) s w.is_signature w.code_is b) [
            | inl short ↦ let f = sized.truncated.1 short in absurd cc
            | inr i ↦ let f = r.truncated.1 (same_information (NamesEnd (1 + s.args)) (w.field ++ w.rest) w.field w.rest size w.is_size refl i) in absurd cc
          ]
        ],
      );
      too_big = (
        λ f. absurd cc,
        λ passes. elim passes [
          | inl p ↦ let f = front.too_big.1 p in absurd cc
          | inr b ↦
              let i = same_behind (λ s rest. OfInformation (NamesPass (1 + s.args)) rest) code w.text (w.field ++ w.rest) s w.is_signature w.code_is b in
              let f = r.too_big.1 (same_information (NamesPass (1 + s.args)) (w.field ++ w.rest) w.field w.rest size w.is_size refl i) in absurd cc
        ],
      );
      outside = (
        λ f. absurd cc,
        λ outside. elim outside [
          | inl p ↦ let f = front.outside.1 p in absurd cc
          | inr b ↦ let f = sized.outside.1 (same_behind (λ s rest. HasCells rest) code w.text (w.field ++ w.rest) s w.is_signature w.code_is b) in absurd cc
        ],
      );
    }

-- what is written, with the information behind it, is the prelude
pub prelude_written : (p : Prelude) (indexes names lines instructions : List ℕ) → IsWritable p → AreNames indexes names → length indexes ≡ 1 + p.args → p.lines_at ≡ p.info_at + length names → p.code_at ≡ p.lines_at + length lines → Begins (front_of p ++ (names ++ (lines ++ instructions))) p
prelude_written p indexes names lines instructions h are count lines_at code_at =
    let text = signatures.spelling (signature_in p) in
    let field = sizes.spelling (p.code_at - p.info_at) in
    let size : p.code_at - p.info_at ≡ length names + length lines = omega arith in
    record {
      signature = text;
      size = field;
      names = names;
      lines = lines;
      instructions = instructions;
      indexes = indexes;
      code_is = append_assoc text field (names ++ (lines ++ instructions));
      is_signature = signature_spells (signature_in p) h.signature;
      is_size = subst (IsSize field) size (size_spells (p.code_at - p.info_at));
      are_names = are;
      count = count;
      no_cells = h.no_cells;
      info_at = h.info_at ∙ length-append text field;
      lines_at = lines_at;
      code_at = code_at;
    }
