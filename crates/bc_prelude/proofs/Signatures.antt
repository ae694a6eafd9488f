-- What is read of a signature, by the chain in front of the code.
use Rattle.std.proofs.Common.{Result, Ok, Err, ◌≡◌, ◌⊎◌, ◌↔◌, ℕ, ◌<◌, List, ◌++◌, length, refl, ap, sym, subst, ◌∙◌, inl, inr, arith}
use Rattle.std.specs.Prelude.{IsErrOf}
use Rattle.bc_prelude.specs.declared.fault.PreludeFault.{PreludeFault}
use Rattle.bc_prelude.specs.declared.fault.PreludeFault.TheVariants as faults
use Rattle.bc_prelude.specs.declared.signature.Signature.{Signature}
use Rattle.bc_prelude.specs.Chain.{IsChain, HasNoEnd}
use Rattle.bc_prelude.specs.Signature.{flags_of, kwonly_of, KeepsLimits, IsBig, IsSignature, SignaturePasses, SignatureOutside}
use Rattle.bc_prelude.proofs.Chains.{one_chain, has_end}

abbrev pub signature_read : Signature → ℕ → Result (Signature × ℕ) PreludeFault
signature_read signature end = Ok (signature, end)

abbrev pub signature_refused : PreludeFault → Result (Signature × ℕ) PreludeFault
signature_refused fault = Err fault

-- the result says all of the code that it has to
pub record SignatureResult (code : List ℕ) (result : Result (Signature × ℕ) PreludeFault) : Type 0 where
  pub only : (text rest : List ℕ) (signature : Signature) → IsSignature text signature → code ≡ text ++ rest → result ≡ signature_read signature (length text)
  pub truncated : IsErrOf result faults.Truncated ↔ HasNoEnd code
  pub too_big : IsErrOf result faults.TooBig ↔ SignaturePasses code
  pub outside : IsErrOf result faults.Outside ↔ SignatureOutside code

big_small : (text : List ℕ) → IsBig text → KeepsLimits text → ⊥
big_small text (inl big) small = omega (arith, big, small.slots)
big_small text (inr (inl big)) small = omega (arith, big, small.handlers)
big_small text (inr (inr big)) small = omega (arith, big, small.arguments)

outside_none : (text : List ℕ) → (0 < flags_of text) ⊎ (0 < kwonly_of text) → flags_of text ≡ 0 → kwonly_of text ≡ 0 → ⊥
outside_none text (inl some) f k = omega arith
outside_none text (inr some) f k = omega arith

same_text : (code text rest t r : List ℕ) → IsChain text → code ≡ text ++ rest → IsChain t → code ≡ t ++ r → t ≡ text
same_text code text rest t r chain e c f = (one_chain t text r rest c chain (sym f ∙ e)).0

abbrev made : ℕ → ℕ → ℕ → ℕ → ℕ → ℕ → Signature
made n_state n_exc flags args kwonly defaults = record { n_state = n_state; n_exc = n_exc; flags = flags; args = args; kwonly = kwonly; defaults = defaults }

pub same_signature : (text : List ℕ) (s t : Signature) → IsSignature text s → IsSignature text t → s ≡ t
same_signature text s t i j =
    let a : s.n_state ≡ t.n_state = i.n_state ∙ sym j.n_state in
    let b : s.n_exc ≡ t.n_exc = i.n_exc ∙ sym j.n_exc in
    let c : s.flags ≡ t.flags = i.flags ∙ sym j.flags in
    let d : s.args ≡ t.args = i.args ∙ sym j.args in
    let e : s.kwonly ≡ t.kwonly = i.kwonly ∙ sym j.kwonly in
    let f : s.defaults ≡ t.defaults = i.defaults ∙ sym j.defaults in
    ap (λ (n : ℕ). made n s.n_exc s.flags s.args s.kwonly s.defaults) a
    ∙ ap (λ (n : ℕ). made t.n_state n s.flags s.args s.kwonly s.defaults) b
    ∙ ap (λ (n : ℕ). made t.n_state t.n_exc n s.args s.kwonly s.defaults) c
    ∙ ap (λ (n : ℕ). made t.n_state t.n_exc t.flags n s.kwonly s.defaults) d
    ∙ ap (λ (n : ℕ). made t.n_state t.n_exc t.flags t.args n s.defaults) e
    ∙ ap (λ (n : ℕ). made t.n_state t.n_exc t.flags t.args t.kwonly n) f

pub signature_endless : (code : List ℕ) → HasNoEnd code → SignatureResult code (signature_refused faults.Truncated)
signature_endless code none = record {
  only = λ text rest signature is e. absurd (has_end code text rest is.chain e none);
  truncated = (λ _. none, λ _. refl);
  too_big = (λ e. absurd cc, λ p. absurd (has_end code p.text p.rest p.chain p.code_is none));
  outside = (λ e. absurd cc, λ p. absurd (has_end code p.text p.rest p.chain p.code_is none));
}

pub signature_big : (code text rest : List ℕ) → code ≡ text ++ rest → IsChain text → IsBig text → SignatureResult code (signature_refused faults.TooBig)
signature_big code text rest e chain big = record {
  only = λ t r signature is f.
      absurd (big_small text big (subst KeepsLimits (same_text code text rest t r chain e is.chain f) is.small));
  truncated = (λ e. absurd cc, λ none. absurd (has_end code text rest chain e none));
  too_big = (λ _. record { text = text; rest = rest; code_is = e; chain = chain; big = big }, λ _. refl);
  outside = (
    λ e. absurd cc,
    λ p. absurd (big_small text big (subst KeepsLimits (same_text code text rest p.text p.rest chain e p.chain p.code_is) p.small)),
  );
}

pub signature_outside : (code text rest : List ℕ) → code ≡ text ++ rest → IsChain text → KeepsLimits text → (0 < flags_of text) ⊎ (0 < kwonly_of text) → SignatureResult code (signature_refused faults.Outside)
signature_outside code text rest e chain small some = record {
  only = λ t r signature is f.
      let same = same_text code text rest t r chain e is.chain f in
      absurd (outside_none text some (sym (ap flags_of same) ∙ is.no_flags) (sym (ap kwonly_of same) ∙ is.no_kwonly));
  truncated = (λ e. absurd cc, λ none. absurd (has_end code text rest chain e none));
  too_big = (
    λ e. absurd cc,
    λ p. absurd (big_small text (subst IsBig (same_text code text rest p.text p.rest chain e p.chain p.code_is) p.big) small),
  );
  outside = (λ _. record { text = text; rest = rest; code_is = e; chain = chain; small = small; outside = some }, λ _. refl);
}

pub signature_found : (code text rest : List ℕ) (s : Signature) (end : ℕ) → code ≡ text ++ rest → IsSignature text s → end ≡ length text → SignatureResult code (signature_read s end)
signature_found code text rest s end e is taken = record {
  only = λ t r signature i f.
      let same = same_text code text rest t r is.chain e i.chain f in
      let signatures : s ≡ signature = same_signature text s signature is (subst (λ (z : List ℕ). IsSignature z signature) same i) in
      let ends : end ≡ length t = taken ∙ sym (ap length same) in
      cc;
  truncated = (λ e. absurd cc, λ none. absurd (has_end code text rest is.chain e none));
  too_big = (
    λ e. absurd cc,
    λ p. absurd (big_small text (subst IsBig (same_text code text rest p.text p.rest is.chain e p.chain p.code_is) p.big) is.small),
  );
  outside = (
    λ e. absurd cc,
    λ p.
        let same = same_text code text rest p.text p.rest is.chain e p.chain p.code_is in
        absurd (outside_none text (subst (λ (z : List ℕ). (0 < flags_of z) ⊎ (0 < kwonly_of z)) same p.outside) is.no_flags is.no_kwonly),
  );
}
