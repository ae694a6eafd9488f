-- An image that is cut off, and one with bytes behind it.
use Rattle.std.proofs.Common.{◌≡◌, ◌≢◌, ℕ, ◌+◌, ◌<◌, ◌≤◌, List, [], ◌∷◌, ◌++◌, length, Ok, Err, refl, sym, ap, subst, ◌∙◌, arith, length-append}
use Rattle.std.specs.Prelude.{All}
use Rattle.image_open.specs.mpy_base.declared.limits.TheConstants.{MAX_IMAGE_BYTES}
use Rattle.image_open.specs.bc_verify.Verified.{IsVerified}
use Rattle.image_open.specs.image_grammar.declared.entry.Entry.{Entry}
use Rattle.image_open.specs.image_grammar.declared.fault.ImageFault.TheVariants.{BadHeader, TooBig, Trailing, Truncated}
use Rattle.image_open.specs.image_grammar.Image.{IsImage}
use Rattle.image_open.specs.image_grammar.Opening.{Base, FirstFault, IsHeader, base, image, parts, pool_below}
use Rattle.image_open.specs.image_grammar.Steps.{Bind, goes_on, stops}
use Rattle.image_open.proofs.image_grammar_lemmas.Inversion.{bind_ok, judge_ok}
use Rattle.image_open.proofs.image_grammar_lemmas.Steps.{judged, unjudged}
use Rattle.image_open.proofs.Uses.{IsProper}
use Rattle.image_open.proofs.Written.{image_read, image_trailing}
use Rattle.file_laws.specs.Sound.{IsSound}
use Rattle.file_laws.proofs.ImageCuts.{Ends, pass_ends}
use Rattle.file_laws.proofs.ImageFields.{base_pass, parts_ends}

proper : (below : Base) → IsSound below → IsProper (pool_below below)
proper below s = record { own = s.own; differ = s.differ }

-- the header of a front of four bytes and more
record HeaderOf (front behind rest : List ℕ) (version : ℕ) : Type 0 where
  others : List ℕ
  is_header : IsHeader front version others
  rest_is : rest ≡ others ++ behind

header_of : (front behind rest : List ℕ) (version : ℕ) → IsHeader (front ++ behind) version rest → 4 ≤ length front → HeaderOf front behind rest version
header_of [] behind rest version h long = absurd (omega arith)
header_of (a ∷ []) behind rest version h long = absurd (omega arith)
header_of (a ∷ b ∷ []) behind rest version h long = absurd (omega arith)
header_of (a ∷ b ∷ c ∷ []) behind rest version h long = absurd (omega arith)
header_of (a ∷ b ∷ c ∷ d ∷ front) behind rest version h long =
    let is = h.bytes_are in
    record {
      others = front;
      is_header = record { bytes_are = (cc); from_one = h.from_one; known = h.known };
      rest_is = cc;
    }

-- what stands behind the header
behind_ends : (below : Base) (version : ℕ) → Ends (λ bytes. Bind (base below version bytes) (parts below))
behind_ends below version = pass_ends (base below version) (parts below) (base_pass below version) (parts_ends below)

module _ (below : Base) (entries : List Entry) (sound : IsSound below) where
  pub cut_header : (front behind : List ℕ) → IsImage below entries (front ++ behind) → length front < 4 → FirstFault below front BadHeader
  unfolding image
  cut_header front behind s few =
      let short = s.short in
      judged (omega (arith, few)) (stops BadHeader (refl, λ found is. let len = ap length is.bytes_are in omega (arith, few, len)) refl)

  pub cut_truncated : (front behind : List ℕ) → IsImage below entries (front ++ behind) → All (λ (e : Entry). IsVerified e.held) entries → behind ≢ [] → 4 ≤ length front → FirstFault below front Truncated
  unfolding image
  cut_truncated front behind s verified some long =
      let a = judge_ok _ _ _ _ (image_read below (front ++ behind) entries (proper below sound) s verified) in
      let b = bind_ok _ _ _ a.1 in
      let h = header_of front behind b.0.1 b.0.0 b.1 long in
      let rest = subst (λ z. Bind (base below b.0.0 z) (parts below) (Ok entries)) h.rest_is b.2 in
      let short = a.0 in
      judged (omega (arith, short, length-append front behind))
      (goes_on (b.0.0, h.others) h.is_header ((behind_ends below b.0.0).cut h.others behind entries rest some))

  pub with_suffix : (bytes suffix : List ℕ) → IsImage below entries bytes → All (λ (e : Entry). IsVerified e.held) entries → suffix ≢ [] → length (bytes ++ suffix) ≤ MAX_IMAGE_BYTES → FirstFault below (bytes ++ suffix) Trailing
  with_suffix bytes suffix s verified some short = image_trailing below bytes suffix entries (proper below sound) s verified some short

pub too_long : (below : Base) (bytes : List ℕ) → MAX_IMAGE_BYTES < length bytes → FirstFault below bytes TooBig
unfolding image
too_long below bytes long = unjudged (λ short. omega (arith, long, short))
