-- An image that is read whole is spelled so.
use Rattle.std.proofs.Common.{◌≡◌, ℕ, ◌+◌, ◌≤◌, eqb, List, [], ◌∷◌, ◌++◌, length, length-append, take, Some, Ok, refl, sym, ap, subst, ◌∙◌, append_assoc, inl, inr, arith}
use Rattle.std.specs.Prelude.{All, slice_get}
use Rattle.std.proofs.lemmas.Bool.{eqb-true, eqb-false}
use Rattle.std.proofs.lemmas.List.{append-nil, take_at}
use Rattle.mpy_base.specs.declared.limits.TheConstants.{MAX_MODULES, MAX_TABLE}
use Rattle.mpy_base.specs.Vuint.{Spells}
use Rattle.image_grammar.specs.mpy_tree.File.{Many}
use Rattle.qstr_pool.specs.Pool.{Texts}
use Rattle.image_grammar.specs.bc_verify.Verified.{IsVerified}
use Rattle.image_grammar.specs.bc_library.Texts.{IsPlain, with_texts}
use Rattle.image_grammar.proofs.bc_library_lemmas.Pools.{all_copied}
use Rattle.image_grammar.specs.declared.entry.Entry.{Entry}
use Rattle.image_grammar.specs.Image.{IsOwnText, IsNamed, IsImage, IsFront, Differ, texts_used}
use Rattle.image_grammar.specs.Opening.{Base, nothing_below, pool_below, names_of, IsHeader, counts_below, nothing_is_below, base, parts, image}
use Rattle.image_grammar.proofs.Inversion.{bind_ok, judge_ok, ok_is, chosen}
use Rattle.image_open.proofs.Found.{table_found, modules_found}
use Rattle.image_open.proofs.Uses.{IsProper, Used}

-- the front
pub record FrontRead (below : Base) (bytes rest : List ℕ) : Type 0 where
  pub front : List ℕ
  pub is_front : IsFront below front
  pub bytes_are : bytes ≡ front ++ rest

first_version : (below : Base) (bytes behind rest : List ℕ) (version : ℕ) → IsHeader bytes version behind → version ≡ 1 → nothing_is_below below behind (Ok rest) → FrontRead below bytes rest
unfolding nothing_is_below
first_version below bytes behind rest version h one k =
    let a = judge_ok _ _ _ _ k in
    let same : rest ≡ behind = ok_is rest behind a.1 in
    record {
      front = 0x4d ∷ 0x49 ∷ 1 ∷ 0x1f ∷ [];
      is_front = inl (refl, a.0.0, a.0.1);
      bytes_are = h.bytes_are ∙ (ap (λ (z : ℕ). 0x4d ∷ 0x49 ∷ z ∷ 0x1f ∷ behind) one ∙ ap (λ (z : List ℕ). 0x4d ∷ 0x49 ∷ 1 ∷ 0x1f ∷ z) (sym same));
    }

second_version : (below : Base) (bytes behind rest : List ℕ) (version : ℕ) → IsHeader bytes version behind → version ≡ 2 → counts_below below behind (Ok rest) → FrontRead below bytes rest
unfolding counts_below
second_version below bytes behind rest version h two k =
    let a = bind_ok _ _ _ k in
    let b = bind_ok _ _ _ a.2 in
    let d = judge_ok _ _ _ _ b.2 in
    let same : rest ≡ b.0.1 = ok_is rest b.0.1 d.1 in
    let numbers : behind ≡ (a.1.0 ++ b.1.0) ++ rest = a.1.2 ∙ (ap (λ (z : List ℕ). a.1.0 ++ z) b.1.2 ∙ (sym (append_assoc a.1.0 b.1.0 b.0.1) ∙ ap (λ (z : List ℕ). (a.1.0 ++ b.1.0) ++ z) (sym same))) in
    record {
      front = 0x4d ∷ 0x49 ∷ 2 ∷ 0x1f ∷ (a.1.0 ++ b.1.0);
      is_front = inr (a.1.0, b.1.0, refl, subst (λ (z : ℕ). Spells a.1.0 z) d.0.0 a.1.1, subst (λ (z : ℕ). Spells b.1.0 z) d.0.1 b.1.1);
      bytes_are = h.bytes_are ∙ (ap (λ (z : ℕ). 0x4d ∷ 0x49 ∷ z ∷ 0x1f ∷ behind) two ∙ ap (λ (z : List ℕ). 0x4d ∷ 0x49 ∷ 2 ∷ 0x1f ∷ z) numbers);
    }

front_found : (below : Base) (bytes behind rest : List ℕ) (version : ℕ) → IsHeader bytes version behind → base below version behind (Ok rest) → FrontRead below bytes rest
unfolding base
front_found below bytes behind rest version h k =
    elim (chosen (eqb version 1) _ _ _ k) [
      | inl s ↦ first_version below bytes behind rest version h (eqb-true _ _ s.0) s.1
      | inr s ↦
          let other : version ≡ 1 → ⊥ = eqb-false _ _ s.0 in
          let low = h.from_one in
          let high = h.known in
          second_version below bytes behind rest version h (omega (arith, other, low, high)) s.1
    ]

-- what stands behind it
pub record PartsRead (below : Base) (bytes : List ℕ) (entries : List Entry) : Type 0 where
  pub text_count : List ℕ
  pub texts : List ℕ
  pub module_count : List ℕ
  pub named : List ℕ
  pub bytes_are : bytes ≡ text_count ++ (texts ++ (module_count ++ named))
  pub own : List (List ℕ)
  pub counts_texts : Spells text_count (length own)
  pub are_texts : Many IsOwnText texts own
  pub pool : Texts
  pub pool_is : pool.texts ≡ below.texts ++ own
  pub first_use : pool ≡ with_texts (pool_below below) (texts_used entries)
  pub few_texts : length pool.texts ≤ MAX_TABLE
  pub counts_modules : Spells module_count (length entries)
  pub are_named : Many (IsNamed pool) named entries
  pub few_modules : length below.names + length entries ≤ MAX_MODULES
  pub differ : Differ below.names (names_of entries)
  pub verified : All (λ entry. IsVerified entry.held) entries
  pub plain : All (λ entry. IsPlain entry.name) entries

below_used : (below : Base) (pool : Texts) (own : List (List ℕ)) → IsProper pool → pool.texts ≡ below.texts ++ own → Used pool (length below.texts) (pool_below below)
below_used below pool own proper e =
    let lengths : length pool.texts ≡ length below.texts + length own = ap length e ∙ length-append below.texts own in
    record {
      copied = record { same_first = sym proper.own.first; texts_are = sym (ap (take (length below.texts)) e ∙ take_at below.texts own (length below.texts) refl) };
      within = omega (arith, lengths);
    }

pub parts_found : (below : Base) (bytes : List ℕ) (entries : List Entry) → IsProper (pool_below below) → length below.texts ≤ MAX_TABLE → length below.names ≤ MAX_MODULES → parts below bytes (Ok entries) → PartsRead below bytes entries
unfolding parts
parts_found below bytes entries proper few_below few_names h =
    let a = bind_ok _ _ _ h in
    let b = bind_ok _ _ _ a.2 in
    let d = judge_ok _ _ _ _ b.2 in
    let f = judge_ok _ _ _ _ d.1 in
    let pool = a.0.0 in
    let opened = b.0.0 in
    let same : entries ≡ opened.entries = ok_is entries opened.entries f.1 in
    let t = table_found below pool bytes a.0.1 proper a.1 in
    let s = below_used below pool t.3.own t.3.proper t.3.texts_are in
    let m = modules_found below pool opened a.0.1 b.0.1 t.3.proper s b.1 in
    let texts : t.0 ≡ length t.3.own = sym t.3.number in
    let count : m.0 ≡ length opened.entries = sym m.3.number in
    let all : length pool.texts ≤ opened.used = let e = d.0 in omega (arith, e) in
    let lengths : length pool.texts ≡ length below.texts + length t.3.own = ap length t.3.texts_are ∙ length-append below.texts t.3.own in
    let few_texts = t.2.few in
    let few_modules = m.2.few in
    let last : b.0.1 ≡ [] = f.0 in
    let whole : PartsRead below bytes opened.entries = record {
      text_count = t.2.text;
      texts = t.3.text;
      module_count = m.2.text;
      named = m.3.text;
      bytes_are = t.2.bytes_are ∙ ap (λ (z : List ℕ). t.2.text ++ z) (t.3.bytes_are ∙ ap (λ (z : List ℕ). t.3.text ++ z) (m.2.bytes_are ∙ ap (λ (z : List ℕ). m.2.text ++ z) (m.3.bytes_are ∙ (ap (λ (z : List ℕ). m.3.text ++ z) last ∙ append-nil m.3.text))));
      own = t.3.own;
      counts_texts = subst (λ (z : ℕ). Spells t.2.text z) texts t.2.spells;
      are_texts = t.3.spelled;
      pool = pool;
      pool_is = t.3.texts_are;
      first_use = sym (all_copied pool (with_texts (pool_below below) (texts_used opened.entries)) opened.used all m.3.after.copied);
      few_texts = omega (arith, lengths, few_texts, texts, few_below);
      counts_modules = subst (λ (z : ℕ). Spells m.2.text z) count m.2.spells;
      are_named = m.3.spelled;
      few_modules = omega (arith, few_modules, count, few_names);
      differ = m.3.differ;
      verified = m.3.verified;
      plain = m.3.plain;
    } in
    subst (λ (z : List Entry). PartsRead below bytes z) (sym same) whole

pub image_found : (below : Base) (bytes : List ℕ) (entries : List Entry) → IsProper (pool_below below) → length below.texts ≤ MAX_TABLE → length below.names ≤ MAX_MODULES → image below bytes (Ok entries) → IsImage below entries bytes × All (λ entry. IsVerified entry.held) entries × All (λ entry. IsPlain entry.name) entries
unfolding image
image_found below bytes entries proper few_below few_names h =
    let a = judge_ok _ _ _ _ h in
    let b = bind_ok _ _ _ a.1 in
    let d = bind_ok _ _ _ b.2 in
    let f = front_found below bytes b.0.1 d.0 b.0.0 b.1 d.1 in
    let p = parts_found below d.0 entries proper few_below few_names d.2 in (
      record {
        front = f.front;
        text_count = p.text_count;
        texts = p.texts;
        module_count = p.module_count;
        named = p.named;
        bytes_are = f.bytes_are ∙ ap (λ (z : List ℕ). f.front ++ z) p.bytes_are;
        is_front = f.is_front;
        own = p.own;
        counts_texts = p.counts_texts;
        are_texts = p.are_texts;
        pool = p.pool;
        pool_is = p.pool_is;
        first_use = p.first_use;
        few_texts = p.few_texts;
        counts_modules = p.counts_modules;
        are_named = p.are_named;
        few_modules = p.few_modules;
        differ = p.differ;
        short = a.0;
      },
      p.verified,
      p.plain,
    )

-- over nothing
no_text : (k : ℕ) (text : List ℕ) → slice_get [] k ≡ Some text → ⊥
no_text k text e = cc

pub nothing_proper : IsProper (pool_below nothing_below)
nothing_proper = record { own = record { first = refl; each = λ k text e. absurd (no_text k text e) }; differ = refl }

pub opened_found : (bytes : List ℕ) (entries : List Entry) → image nothing_below bytes (Ok entries) → IsImage nothing_below entries bytes × All (λ entry. IsVerified entry.held) entries × All (λ entry. IsPlain entry.name) entries
opened_found bytes entries h = image_found nothing_below bytes entries nothing_proper (omega arith) (omega arith) h
