-- What a module has behind its table of texts: read as it is spelled, and in one way.
use Rattle.std.proofs.Common.{◌≡◌, ℕ, ◌≤◌, List, ◌++◌, length, Ok, refl, sym, ap, subst, ◌∙◌, append_assoc}
use Rattle.mpy_base.specs.Vuint.{Spells}
use Rattle.mpy_base.specs.declared.limits.TheConstants.{MAX_TABLE, MAX_DEPTH}
use Rattle.mpy_tree.specs.declared.module.Constant.{Constant}
use Rattle.mpy_tree.specs.declared.raw.RawCode.{RawCode}
use Rattle.mpy_tree.specs.File.{IsObject}
use Rattle.mpy_reader.specs.Reading.{goes_on, count, many, object, code}
use Rattle.mpy_reader.specs.Body.{IsBody, body}
use Rattle.mpy_reader.proofs.Found.{Finds, bind_ok, ok_parts, spelt_as, count_found, many_found, object_found}
use Rattle.mpy_reader.proofs.FoundCodes.{code_found}
use Rattle.mpy_reader.proofs.Taken.{count_read, many_read, object_read}
use Rattle.mpy_reader.proofs.TakenCodes.{code_read}
use Rattle.mpy_reader.proofs.Single.{IsSingle, bind_single, pure_single, count_single, many_single, object_single, code_single}

regrouped : (a b c d : List ℕ) → a ++ (b ++ (c ++ d)) ≡ (a ++ (b ++ c)) ++ d
regrouped a b c d = sym (simp append_assoc)

abbrev made : List Constant → RawCode → List Constant × RawCode
made objects outermost = (objects, outermost)

pub all_body : (texts n : ℕ) (bytes a b rest : List ℕ) (objects : List Constant) (outermost : RawCode)
    → count bytes (Ok (n, a)) → many n (object MAX_DEPTH) a (Ok (objects, b)) → code MAX_DEPTH texts b (Ok (outermost, rest))
    → body texts bytes (Ok ((objects, outermost), rest))
unfolding body
all_body texts n bytes a b rest objects outermost h k l = goes_on (n, a) h (goes_on (objects, b) k (goes_on (outermost, rest) l refl))

pub body_found : (texts : ℕ) → Finds (body texts) (IsBody texts)
unfolding body
body_found texts = record {
  found = λ bytes rest x h.
      let a = bind_ok _ _ _ h in
      let b = bind_ok _ _ _ a.2 in
      let d = bind_ok _ _ _ b.2 in
      let an = count_found bytes a.0.1 a.0.0 a.1 in
      let bm = many_found (object MAX_DEPTH) (IsObject MAX_DEPTH) (object_found MAX_DEPTH) a.0.0 a.0.1 b.0.1 b.0.0 b.1 in
      let dm = (code_found MAX_DEPTH texts).found b.0.1 d.0.1 d.0.0 d.1 in
      let objects : a.0.0 ≡ length b.0.0 = sym bm.1 in
      let behind : bytes ≡ an.0.0 ++ (bm.0.0 ++ (dm.0 ++ d.0.1)) = an.0.2 ∙ ap (λ (z : List ℕ). an.0.0 ++ z) (bm.0.2 ∙ ap (λ (z : List ℕ). bm.0.0 ++ z) dm.2) in
      spelt_as (IsBody texts) bytes x (made b.0.0 d.0.0) rest d.0.1 d.2 (
        an.0.0 ++ (bm.0.0 ++ dm.0),
        record {
          object_count = an.0.0;
          objects = bm.0.0;
          outermost = dm.0;
          text_is = refl;
          counts_objects = subst (λ z. Spells an.0.0 z) objects an.0.1;
          few_objects = subst (λ z. z ≤ MAX_TABLE) objects an.1;
          are_objects = bm.0.1;
          is_code = dm.1;
        },
        behind ∙ regrouped an.0.0 bm.0.0 dm.0 d.0.1,
      );
}

pub body_read : (texts : ℕ) (text rest : List ℕ) (x : List Constant × RawCode) → IsBody texts text x → body texts (text ++ rest) (Ok (x, rest))
unfolding body
body_read texts text rest x s =
    let whole : text ++ rest ≡ s.object_count ++ (s.objects ++ (s.outermost ++ rest)) = ap (λ (z : List ℕ). z ++ rest) s.text_is ∙ sym (regrouped s.object_count s.objects s.outermost rest) in
    goes_on (length x.0, s.objects ++ (s.outermost ++ rest)) (count_read _ s.object_count _ (length x.0) s.counts_objects s.few_objects whole)
    (goes_on (x.0, s.outermost ++ rest) (many_read (object MAX_DEPTH) (IsObject MAX_DEPTH) (object_read MAX_DEPTH) _ s.objects _ x.0 s.are_objects refl)
    (goes_on (x.1, rest) ((code_read MAX_DEPTH texts).read _ s.outermost rest x.1 s.is_code refl) refl))

pub body_single : (texts : ℕ) (bytes : List ℕ) → IsSingle (body texts bytes)
unfolding body
body_single texts bytes =
    bind_single _ _ (count_single bytes) (λ n. bind_single _ _ (many_single (object MAX_DEPTH) (object_single MAX_DEPTH) n.0 n.1) (λ objects.
    bind_single _ _ (code_single MAX_DEPTH texts objects.1) (λ outermost. pure_single _)))
