-- Chains through buckets: a pair more, none yet, and places that are read elsewhere.
use Rattle.std.proofs.Common.{ℕ, suc, ◌<◌, ◌≡◌, ◌≢◌, sym, ◌∙◌, ap, subst, inl, inr, arith, refl}
use Rattle.std.proofs.lemmas.Bool.{cases_eq, cases_lt}
use Rattle.arena_heap.specs.Links.{IsLast, AreChained}

-- the buckets below the limit are the same
pub last_same : {b b' : ℕ → ℕ} {bucket limit found : ℕ} → IsLast b bucket limit found → ((at : ℕ) → at < limit → b' at ≡ b at) → IsLast b' bucket limit found
last_same {b} {b'} {bucket} {limit} {found} last same =
    record {
      within = last.within;
      there = λ at q. same at (omega (arith, last.within, q)) ∙ last.there at q;
      none_behind = λ at lo hi q. last.none_behind at lo hi (sym (same at hi) ∙ q);
    }

pub last_moved : {b : ℕ → ℕ} {x y limit f g : ℕ} → IsLast b x limit f → x ≡ y → f ≡ g → IsLast b y limit g
last_moved {b} {x} {y} {limit} {f} {g} last e q = subst (λ z. IsLast b z limit g) e (subst (IsLast b x limit) q last)

-- a pair of another bucket more
last_more : {b : ℕ → ℕ} {bucket limit found : ℕ} → IsLast b bucket limit found → b limit ≢ bucket → IsLast b bucket (suc limit) found
last_more {b} {bucket} {limit} {found} last ne =
    record {
      within = omega (arith, last.within);
      there = last.there;
      none_behind = λ at lo hi q. elim (cases_lt at limit) [
        | inl lt ↦ last.none_behind at lo lt q
        | inr ge ↦
            let e : at ≡ limit = omega arith in
            ne (sym (ap b e) ∙ q)
      ];
    }

last_here : (b : ℕ → ℕ) (limit : ℕ) → IsLast b (b limit) (suc limit) (suc limit)
last_here b limit =
    record {
      within = omega arith;
      there = λ at q. let e : at ≡ limit = omega arith in ap b e;
      none_behind = λ at lo hi q. absurd (omega arith);
    }

pub last_none : (b : ℕ → ℕ) (bucket : ℕ) → IsLast b bucket 0 0
last_none b bucket = record { within = omega arith; there = λ at q. absurd (omega arith); none_behind = λ at lo hi q. absurd (omega arith) }

-- no pair, and no link
pub chained_none : (b f n : ℕ → ℕ) (room : ℕ) → ((bucket : ℕ) → bucket < room → f bucket ≡ 0) → AreChained b f n room 0
chained_none b f n room none =
    record {
      firsts_lead = λ bucket lt. subst (IsLast b bucket 0) (sym (none bucket lt)) (last_none b bucket);
      nexts_lead = λ at lt. absurd (omega arith);
    }

-- a pair more, in front of the others of its bucket
pub chained_more : (b f n b' f' n' : ℕ → ℕ) (room len : ℕ) → AreChained b f n room len
    → ((at : ℕ) → at < len → b' at ≡ b at) → b' len < room
    → ((at : ℕ) → at < len → n' at ≡ n at) → n' len ≡ f (b' len)
    → f' (b' len) ≡ suc len → ((bucket : ℕ) → bucket < room → bucket ≢ b' len → f' bucket ≡ f bucket)
    → AreChained b' f' n' room (suc len)
chained_more b f n b' f' n' room len c same within nexts own front others =
    let first : (bucket : ℕ) → bucket < room → IsLast b' bucket len (f bucket) = λ bucket lt. last_same (c.firsts_lead bucket lt) same in
    record {
      firsts_lead = λ bucket lt. elim (cases_eq bucket (b' len)) [
        | inl e ↦ last_moved (last_here b' len) (sym e) (sym front ∙ ap f' (sym e))
        | inr ne ↦ last_moved (last_more (first bucket lt) (λ q. ne (sym q))) refl (sym (others bucket lt ne))
      ];
      nexts_lead = λ at lt. elim (cases_lt at len) [
        | inl low ↦ last_moved (last_same (c.nexts_lead at low) (λ k h. same k (omega arith))) (sym (same at low)) (sym (nexts at low))
        | inr ge ↦
            let e : len ≡ at = omega arith in
            subst (λ k. IsLast b' (b' k) k (n' k)) e (last_moved (first (b' len) within) refl (sym own))
      ];
    }

-- the same where it reads the same
pub chained_same : (b f n b' f' n' : ℕ → ℕ) (room len : ℕ) → AreChained b f n room len
    → ((at : ℕ) → at < len → b' at ≡ b at) → ((at : ℕ) → at < room → f' at ≡ f at) → ((at : ℕ) → at < len → n' at ≡ n at) → AreChained b' f' n' room len
chained_same b f n b' f' n' room len c bs fs ns =
    record {
      firsts_lead = λ bucket lt. last_moved (last_same (c.firsts_lead bucket lt) (λ k h. bs k h)) refl (sym (fs bucket lt));
      nexts_lead = λ at lt. last_moved (last_same (c.nexts_lead at lt) (λ k h. bs k (omega arith))) (sym (bs at lt)) (sym (ns at lt));
    }
