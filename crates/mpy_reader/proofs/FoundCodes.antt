-- What is read of a code and of a file is spelled so.
use Rattle.std.proofs.Common.{◌≡◌, ℕ, zero, suc, ◌+◌, ◌/◌, ◌%◌, ◌<◌, ◌≤◌, Bool, true, false, eqb, List, [], ◌∷◌, ◌++◌, length, Ok, Err, refl, sym, ap, subst, ◌∙◌, append_assoc, arith, length-append}
use Rattle.std.specs.List.{AllByRecursion}
use Rattle.std.proofs.lemmas.Bool.{eqb-true, eqb-false}
use Rattle.std.proofs.lemmas.List.{append-nil}
use Rattle.std.proofs.lemmas.List.Elements.{All-from_recursion}
use Rattle.mpy_base.specs.Vuint.{Spells}
use Rattle.mpy_base.specs.declared.limits.TheConstants.{MAX_TABLE, MAX_CODE_BYTES, MAX_DEPTH}
use Rattle.mpy_tree.specs.bc_prelude.declared.prelude.Prelude.{Prelude}
use Rattle.mpy_tree.specs.bc_prelude.declared.signature.Signature.{Signature}
use Rattle.mpy_tree.specs.bc_prelude.Signature.{IsSignature}
use Rattle.mpy_tree.specs.bc_prelude.Size.{IsSize}
use Rattle.mpy_tree.specs.bc_prelude.Names.{AreNames}
use Rattle.mpy_tree.specs.bc_ops.declared.listing.Item.{Item}
use Rattle.mpy_tree.specs.bc_ops.Listing.{IsListOf}
use Rattle.mpy_tree.specs.declared.raw.RawCode.{RawCode, roll-RawCode}
use Rattle.mpy_tree.specs.Raw.{Module}
use Rattle.mpy_tree.specs.File.{Many, IsQstr, IsObject, IsOwnCode, header_of, AreChildren, IsElement, IsCode, IsSpelling, IsFile}
use Rattle.mpy_reader.specs.declared.fault.FileFault.TheVariants.{TooBig}
use Rattle.mpy_reader.specs.Reading.{Field, qstr, object, name, own_code, children, own, element, code, parts, file}
use Rattle.mpy_reader.proofs.Found.{bind_ok, judge_ok, ok_is, ok_parts, read, spelt_as, Finds, count_found, many_found, qstr_found, object_found}

-- the number of a text in a table of `texts`
pub record IsName (texts : ℕ) (text : List ℕ) (n : ℕ) : Type 0 where
  pub spells : Spells text n
  pub within : n < texts

pub name_found : (texts : ℕ) → Finds (name texts) (IsName texts)
unfolding name
name_found texts = record {
  found = λ bytes rest n h.
      let a = bind_ok _ _ _ h in
      let b = judge_ok _ _ _ _ a.2 in
      spelt_as (IsName texts) bytes n a.0.0 rest a.0.1 b.1 (a.1.0, record { spells = a.1.1; within = b.0 }, a.1.2);
}

pub names_are : (texts : ℕ) (indexes text : List ℕ) → Many (IsName texts) text indexes → AreNames indexes text
names_are texts [] text h = h
names_are texts (i ∷ is) text h = (h.0, h.1, h.2.spells, h.3, names_are texts is h.1 h.4)

names_within : (texts : ℕ) (indexes text : List ℕ) → Many (IsName texts) text indexes → AllByRecursion (λ index. index < texts) indexes
names_within texts [] text h = tt
names_within texts (i ∷ is) text h = (h.2.within, names_within texts is h.1 h.4)

abbrev prelude_of : Signature → ℕ → ℕ → ℕ → Prelude
prelude_of s info_at lines_at code_at = record {
  n_state = s.n_state;
  n_exc = s.n_exc;
  flags = s.flags;
  args = s.args;
  kwonly = s.kwonly;
  defaults = s.defaults;
  cells = 0;
  info_at = info_at;
  lines_at = lines_at;
  code_at = code_at;
}

-- the parts of a code's own bytes
pub record OwnParts (texts : ℕ) (whole : List ℕ) : Type 0 where
  pub numbers : Signature
  pub signature_text : List ℕ
  pub size_text : List ℕ
  pub names_text : List ℕ
  pub lines_text : List ℕ
  pub instrs_text : List ℕ
  pub indexes : List ℕ
  pub items : List Item
  pub whole_is : whole ≡ signature_text ++ (size_text ++ ((names_text ++ lines_text) ++ instrs_text))
  pub is_signature : IsSignature signature_text numbers
  pub is_size : IsSize size_text (length (names_text ++ lines_text))
  pub names : Many (IsName texts) names_text indexes
  pub counts : length indexes ≡ 1 + numbers.args
  pub defaults : numbers.defaults ≤ numbers.args
  pub listed : IsListOf instrs_text items

own_of_parts : (texts : ℕ) (whole : List ℕ) → OwnParts texts whole → IsOwnCode texts whole
own_of_parts texts whole p =
    let info_at = length p.signature_text + length p.size_text in
    let lines_at = info_at + length p.names_text in
    record {
      prelude = prelude_of p.numbers info_at lines_at (lines_at + length p.lines_text);
      begins = record {
        signature = p.signature_text;
        size = p.size_text;
        names = p.names_text;
        lines = p.lines_text;
        instructions = p.instrs_text;
        indexes = p.indexes;
        code_is = p.whole_is ∙ ap (λ (z : List ℕ). p.signature_text ++ (p.size_text ++ z)) (append_assoc p.names_text p.lines_text p.instrs_text);
        is_signature = p.is_signature;
        is_size = subst (λ z. IsSize p.size_text z) (length-append p.names_text p.lines_text) p.is_size;
        are_names = names_are texts p.indexes p.names_text p.names;
        count = p.counts;
        no_cells = refl;
        info_at = refl;
        lines_at = refl;
        code_at = refl;
      };
      defaults = p.defaults;
      names = All-from_recursion (λ index. index < texts) p.indexes (names_within texts p.indexes p.names_text p.names);
      items = p.items;
      listed = p.listed;
    }

own_code_parts : (texts : ℕ) (whole : List ℕ) → own_code texts whole (Ok tt) → OwnParts texts whole
unfolding own_code
own_code_parts texts whole h =
    let a = bind_ok _ _ _ h in
    let b = judge_ok _ _ _ _ a.2 in
    let d = bind_ok _ _ _ b.1 in
    let f = bind_ok _ _ _ d.2 in
    let m = many_found (name texts) (IsName texts) (name_found texts) (1 + a.0.0.args) d.0.0 f.0.1 f.0.0 f.1 in
    record {
      numbers = a.0.0;
      signature_text = a.1.0;
      size_text = d.1.0;
      names_text = m.0.0;
      lines_text = f.0.1;
      instrs_text = d.0.1;
      indexes = f.0.0;
      items = f.2.0;
      whole_is = a.1.2 ∙ ap (λ (z : List ℕ). a.1.0 ++ z) (d.1.2 ∙ ap (λ (z : List ℕ). d.1.0 ++ (z ++ d.0.1)) m.0.2);
      is_signature = a.1.1;
      is_size = subst (λ (z : List ℕ). IsSize d.1.0 (length z)) m.0.2 d.1.1;
      names = m.0.1;
      counts = m.1;
      defaults = b.0;
      listed = f.2.1;
    }

pub own_code_found : (texts : ℕ) (whole : List ℕ) → own_code texts whole (Ok tt) → IsOwnCode texts whole
own_code_found texts whole h = own_of_parts texts whole (own_code_parts texts whole h)

-- the header and the bytes behind it
pub record IsFront (texts : ℕ) (text whole : List ℕ) (has_some : Bool) : Type 0 where
  pub header_text : List ℕ
  pub text_is : text ≡ header_text ++ whole
  pub spells : Spells header_text (header_of (length whole) has_some)
  pub short : length whole ≤ MAX_CODE_BYTES
  pub is_own : IsOwnCode texts whole

flag_is : (n len : ℕ) (flag : Bool) → flag ≡ eqb (n / 4 % 2) 1 → n % 4 ≡ 0 → len ≡ n / 8 → n ≡ header_of len flag
flag_is n len true e four len_is = let odd : n / 4 % 2 ≡ 1 = eqb-true _ _ (sym e) in omega arith
flag_is n len false e four len_is = let even : n / 4 % 2 ≡ 1 → ⊥ = eqb-false _ _ (sym e) in omega arith

abbrev FrontSpelt : ℕ → List ℕ → List ℕ × Bool → List ℕ → Type 0
FrontSpelt texts bytes front rest = (text : List ℕ) × IsFront texts text front.0 front.1 × (bytes ≡ text ++ rest)

own_found : (texts : ℕ) (bytes rest : List ℕ) (front : List ℕ × Bool) → own texts bytes (Ok (front, rest)) → FrontSpelt texts bytes front rest
unfolding own
own_found texts bytes rest front h =
    let a = bind_ok _ _ _ h in
    let b = judge_ok _ _ _ _ a.2 in
    let d = bind_ok _ _ _ b.1 in
    let f = judge_ok _ _ _ _ d.2 in
    let g = bind_ok _ _ _ f.1 in
    let made : List ℕ × Bool = (d.0.0, eqb (a.0.0 / 4 % 2) 1) in
    let both = ok_parts front made rest d.0.1 g.2 in
    let n-is : a.0.0 ≡ header_of (length d.0.0) (eqb (a.0.0 / 4 % 2) 1) = flag_is a.0.0 (length d.0.0) (eqb (a.0.0 / 4 % 2) 1) refl f.0 d.1.1 in
    let len = d.1.1 in
    let short = b.0 in
    let whole : FrontSpelt texts bytes made d.0.1 = (
      a.1.0 ++ d.0.0,
      record { header_text = a.1.0; text_is = refl; spells = subst (λ z. Spells a.1.0 z) n-is a.1.1; short = omega (arith, len, short); is_own = own_code_found texts d.0.0 g.1 },
      a.1.2 ∙ (ap (λ (z : List ℕ). a.1.0 ++ z) d.1.0 ∙ sym (append_assoc a.1.0 d.0.0 d.0.1)),
    ) in
    subst (λ z. FrontSpelt texts bytes z rest) (sym both.0) (subst (λ z. FrontSpelt texts bytes made z) (sym both.1) whole)

children_found : (inner : List ℕ → Field RawCode) (Inner : List ℕ → RawCode → Type 0) → Finds inner Inner → (has_some : Bool) → Finds (children inner has_some) (AreChildren Inner has_some)
unfolding children
children_found inner Inner finds true = record {
  found = λ bytes rest xs h.
      let a = bind_ok _ _ _ h in
      let n = count_found bytes a.0.1 a.0.0 a.1 in
      let m = many_found inner Inner finds a.0.0 a.0.1 rest xs a.2 in
      let len : length xs ≡ a.0.0 = m.1 in (
        n.0.0 ++ m.0.0,
        (n.0.0, m.0.0, subst (λ z. Spells n.0.0 z) (sym len) n.0.1, subst (λ z. z ≤ MAX_TABLE) (sym len) n.1, refl, m.0.1),
        n.0.2 ∙ (ap (λ (z : List ℕ). n.0.0 ++ z) m.0.2 ∙ sym (append_assoc n.0.0 m.0.0 rest)),
      );
}
children_found inner Inner finds false = record {
  found = λ bytes rest xs h.
      let both = ok_parts xs [] rest bytes h in
      ([], (refl, both.0), sym both.1);
}

element_found : (inner : List ℕ → Field RawCode) (Inner : List ℕ → RawCode → Type 0) → Finds inner Inner → (texts : ℕ) → Finds (element inner texts) (IsElement Inner texts)
unfolding element
element_found inner Inner finds texts = record {
  found = λ bytes rest x h.
      let a = bind_ok _ _ _ h in
      let b = bind_ok _ _ _ a.2 in
      let f = own_found texts bytes a.0.1 a.0.0 a.1 in
      let k = (children_found inner Inner finds a.0.0.1).found a.0.1 b.0.1 b.0.0 b.1 in
      spelt_as (IsElement Inner texts) bytes x (roll-RawCode (record { bytes = a.0.0.0; children = b.0.0 })) rest b.0.1 b.2 (
        f.0 ++ k.0,
        record {
          header = f.1.header_text;
          own = a.0.0.0;
          behind = k.0;
          has_children = a.0.0.1;
          children = b.0.0;
          text_is = ap (λ (z : List ℕ). z ++ k.0) f.1.text_is ∙ append_assoc f.1.header_text a.0.0.0 k.0;
          spells = f.1.spells;
          short = f.1.short;
          is_own = f.1.is_own;
          are_children = k.1;
          code_is = refl;
        },
        f.2 ∙ (ap (λ (z : List ℕ). f.0 ++ z) k.2 ∙ sym (append_assoc f.0 k.0 b.0.1)),
      );
}

pub code_found : (levels texts : ℕ) → Finds (code levels texts) (IsCode levels texts)
unfolding code IsCode
code_found zero texts = record { found = λ bytes rest x h. absurd (let e : read x rest ≡ Err TooBig = h in cc) }
code_found (suc levels) texts = element_found (code levels texts) (IsCode levels texts) (code_found levels texts) texts

regrouped : (a b c d e f : List ℕ) → a ++ (b ++ (c ++ (d ++ (e ++ f)))) ≡ (a ++ (b ++ (c ++ (d ++ e)))) ++ f
regrouped a b c d e f = sym (simp append_assoc)

pub parts_found : Finds parts IsSpelling
unfolding parts
parts_found = record {
  found = λ bytes rest m h.
      let a = bind_ok _ _ _ h in
      let b = bind_ok _ _ _ a.2 in
      let d = bind_ok _ _ _ b.2 in
      let f = judge_ok _ _ _ _ d.2 in
      let g = bind_ok _ _ _ f.1 in
      let k = bind_ok _ _ _ g.2 in
      let l = bind_ok _ _ _ k.2 in
      let bn = count_found a.0.1 b.0.1 b.0.0 b.1 in
      let dn = count_found b.0.1 d.0.1 d.0.0 d.1 in
      let gm = many_found qstr IsQstr qstr_found b.0.0 d.0.1 g.0.1 g.0.0 g.1 in
      let km = many_found (object MAX_DEPTH) (IsObject MAX_DEPTH) (object_found MAX_DEPTH) d.0.0 g.0.1 k.0.1 k.0.0 k.1 in
      let lm = (code_found MAX_DEPTH b.0.0).found k.0.1 l.0.1 l.0.0 l.1 in
      let qstrs : b.0.0 ≡ length g.0.0 = sym gm.1 in
      let objects : d.0.0 ≡ length k.0.0 = sym km.1 in
      let made : Module = record { bits = a.0.0; qstrs = g.0.0; objects = k.0.0; code = l.0.0 } in
      let texts : List ℕ = bn.0.0 ++ (dn.0.0 ++ (gm.0.0 ++ (km.0.0 ++ lm.0))) in
      let far : k.0.1 ≡ lm.0 ++ l.0.1 = lm.2 in
      let behind : a.0.1 ≡ bn.0.0 ++ (dn.0.0 ++ (gm.0.0 ++ (km.0.0 ++ (lm.0 ++ l.0.1)))) =
      bn.0.2 ∙ ap (λ (z : List ℕ). bn.0.0 ++ z) (dn.0.2 ∙ ap (λ (z : List ℕ). dn.0.0 ++ z) (gm.0.2 ∙ ap (λ (z : List ℕ). gm.0.0 ++ z) (km.0.2 ∙ ap (λ (z : List ℕ). km.0.0 ++ z) far))) in
      let together : bn.0.0 ++ (dn.0.0 ++ (gm.0.0 ++ (km.0.0 ++ (lm.0 ++ l.0.1)))) ≡ texts ++ l.0.1 = regrouped bn.0.0 dn.0.0 gm.0.0 km.0.0 lm.0 l.0.1 in
      spelt_as IsSpelling bytes m made rest l.0.1 l.2 (
        0x4d ∷ 6 ∷ 0 ∷ a.0.0 ∷ texts,
        record {
          qstr_count = bn.0.0;
          object_count = dn.0.0;
          qstrs = gm.0.0;
          objects = km.0.0;
          code = lm.0;
          text_is = refl;
          some_bits = a.1.some_bits;
          few_bits = a.1.few_bits;
          counts_qstrs = subst (λ z. Spells bn.0.0 z) qstrs bn.0.1;
          counts_objects = subst (λ z. Spells dn.0.0 z) objects dn.0.1;
          some_qstrs = subst (λ z. 1 ≤ z) qstrs f.0;
          few_qstrs = subst (λ z. z ≤ MAX_TABLE) qstrs bn.1;
          few_objects = subst (λ z. z ≤ MAX_TABLE) objects dn.1;
          are_qstrs = gm.0.1;
          are_objects = km.0.1;
          is_code = subst (λ z. IsCode MAX_DEPTH z lm.0 l.0.0) qstrs lm.1;
        },
        a.1.bytes_are ∙ ap (λ (z : List ℕ). 0x4d ∷ 6 ∷ 0 ∷ a.0.0 ∷ z) (behind ∙ together),
      );
}

pub file_found : (bytes : List ℕ) (m : Module) → file bytes (Ok m) → IsFile bytes m
unfolding file
file_found bytes m h =
    let a = judge_ok _ _ _ _ h in
    let b = bind_ok _ _ _ a.1 in
    let d = judge_ok _ _ _ _ b.2 in
    let s = parts_found.found bytes b.0.1 b.0.0 b.1 in
    let same : m ≡ b.0.0 = ok_is m b.0.0 d.1 in
    let text : bytes ≡ s.0 = s.2 ∙ (ap (λ (z : List ℕ). s.0 ++ z) d.0 ∙ append-nil s.0) in
    record { short = a.0; spelling = subst (λ z. IsSpelling z m) (sym text) (subst (λ z. IsSpelling s.0 z) (sym same) s.1) }
