-- Each field of a file is too short where it is cut off.
use Rattle.std.proofs.Common.{◌≡◌, ◌≢◌, ℕ, zero, suc, ◌+◌, ◌/◌, ◌%◌, ◌<◌, ◌≤◌, Bool, true, false, eqb, List, [], ◌∷◌, ◌++◌, length, take, All, Ok, Err, refl, sym, ap, subst, ◌∙◌, inl, inr, arith, length-append}
use Rattle.std.proofs.lemmas.List.{append-nil, take_at}
use Rattle.std.proofs.lemmas.List.Elements.{All-take}
use Rattle.image_open.specs.mpy_base.Vuint.{HasMore, Groups, EndsInside}
use Rattle.image_open.specs.mpy_base.declared.limits.TheConstants.{MAX_TABLE, MAX_CODE_BYTES, MAX_DEPTH}
use Rattle.mpy_writer.specs.qstr_pool.declared.table.TheConstants.{STATIC_COUNT}
use Rattle.mpy_writer.specs.mpy_tree.declared.module.Constant.{Constant}
use Rattle.mpy_writer.specs.mpy_tree.declared.module.Constant.TheVariants as constants
use Rattle.mpy_writer.specs.mpy_tree.declared.raw.Qstr.{Qstr}
use Rattle.mpy_writer.specs.mpy_tree.declared.raw.Qstr.TheVariants as qstrs
use Rattle.mpy_writer.specs.mpy_tree.declared.raw.RawCode.{RawCode, roll-RawCode}
use Rattle.mpy_writer.specs.mpy_tree.Raw.{Module}
use Rattle.image_open.specs.mpy_reader.declared.fault.FileFault.{FileFault}
use Rattle.image_open.specs.mpy_reader.declared.fault.FileFault.TheVariants.{Truncated, BadQstr, BadObject, BadCode, TooBig}
use Rattle.image_open.specs.mpy_reader.Reading.{Reading, Field, Bind, pure, refuse, judge, choose, byte, number, taken, count, many, own_of, text, static_qstr, own_qstr, qstr, str, int_of, int, tuple, object_by, object, own_code, children, own, element, code}
use Rattle.image_open.proofs.mpy_reader_lemmas.Found.{read}
use Rattle.file_laws.proofs.Cuts.{IsCut, Cuts, cut_as, parted, not_nothing, pure_cut, refuse_cut, bind_cut, value_cut, choose_cut, many_cut}

byte_at : (bytes rest : List ℕ) (x : ℕ) → byte bytes (Ok (x, rest)) → IsCut byte bytes x rest
byte_at [] rest x h = absurd (let e : read x rest ≡ Err Truncated = h in cc)
byte_at (first ∷ others) rest x h =
    cut_as byte (first ∷ others) x first rest others h (record {
      text = first ∷ [];
      text_is = refl;
      onward = λ other. refl;
      short = short_is;
    }) where
      short_is : (front behind : List ℕ) → first ∷ [] ≡ front ++ behind → behind ≢ [] → byte front (Err Truncated)
      short_is [] behind is some = refl
      short_is (y ∷ front) behind is some = absurd (not_nothing front behind (let e = is in cc) some)

byte_cut : Cuts byte
byte_cut = record { cut = byte_at }

-- the last byte of a number is missing
ends_inside : (text : List ℕ) (n : ℕ) → Groups text n → (front behind : List ℕ) → text ≡ front ++ behind → behind ≢ [] → EndsInside front
ends_inside text n g front behind is some =
    elim (parted g.high (g.last ∷ []) front behind (sym g.bytes_are ∙ is)) [
      | inl h ↦ record {
        more = subst (All HasMore) (ap (take (length front)) h.1 ∙ take_at front h.0 (length front) refl) (All-take HasMore (length front) g.high g.more);
        short = omega (arith, g.short, ap length h.1, length-append front h.0);
      }
      | inr h ↦
          let none : h.0 ≡ [] = last_only h.0 behind h.2 some in
          let whole : front ≡ g.high = h.1 ∙ (ap (λ (z : List ℕ). g.high ++ z) none ∙ append-nil g.high) in
          record { more = subst (All HasMore) (sym whole) g.more; short = omega (arith, g.short, ap length whole) }
    ] where
      last_only : (more behind : List ℕ) → g.last ∷ [] ≡ more ++ behind → behind ≢ [] → more ≡ []
      last_only [] behind e some = refl
      last_only (x ∷ more) behind e some = absurd (not_nothing more behind (let is = e in cc) some)

number_cut : Cuts number
number_cut = record {
  cut = λ bytes rest n h. record {
    text = h.0;
    text_is = h.2;
    onward = λ other. (h.0, h.1, refl);
    short = λ front behind is some. ends_inside h.0 n h.1.groups front behind is some;
  };
}

-- a front with something behind it is shorter than both
pub shorter : (text front behind : List ℕ) → text ≡ front ++ behind → behind ≢ [] → length front < length text
shorter text front [] is some = absurd (some refl)
shorter text front (x ∷ behind) is some = omega (arith, ap length is, length-append front (x ∷ behind))

taken_cut : (n : ℕ) → Cuts (taken n)
taken_cut n = record {
  cut = λ bytes rest x h. record {
    text = x;
    text_is = h.0;
    onward = λ other. (refl, h.1);
    short = λ front behind is some. let less : length front < length x = shorter x front behind is some in omega (arith, less, h.1);
  };
}

pub count_cut : Cuts count
unfolding count
count_cut = let c = bind_cut number (λ n bytes. Bind (judge (n ≤ MAX_TABLE) TooBig) (λ _. pure (n, bytes))) number_cut
    (λ n. value_cut (judge (n ≤ MAX_TABLE) TooBig) (λ _ bytes. pure (n, bytes)) (λ _. pure_cut n)) in record { cut = c.cut }

text_cut : (fault : FileFault) (len : ℕ) → Cuts (text fault len)
unfolding text
text_cut fault len = let c = bind_cut (taken (len + 1)) (λ whole rest. Bind (own_of fault whole) (λ own. pure (own, rest))) (taken_cut (len + 1))
    (λ whole. value_cut (own_of fault whole) (λ own rest. pure (own, rest)) pure_cut) in record { cut = c.cut }

static_cut : (n : ℕ) → Cuts (static_qstr n)
unfolding static_qstr
static_cut n = let c = value_cut (judge ((1 ≤ n) × (n ≤ STATIC_COUNT)) _) (λ _ rest. pure (qstrs.Static n, rest)) (λ _. pure_cut (qstrs.Static n)) in record { cut = c.cut }

own_qstr_cut : (len : ℕ) → Cuts (own_qstr len)
unfolding own_qstr
own_qstr_cut len = let c = bind_cut (text BadQstr len) (λ own rest. pure (qstrs.Own own, rest)) (text_cut BadQstr len) (λ own. pure_cut (qstrs.Own own)) in record { cut = c.cut }

pub qstr_cut : Cuts qstr
unfolding qstr
qstr_cut = let c = bind_cut number (λ n rest. choose (eqb (n % 2) 1) (static_qstr (n / 2) rest) (own_qstr (n / 2) rest)) number_cut
    (λ n. choose_cut (eqb (n % 2) 1) (static_qstr (n / 2)) (own_qstr (n / 2)) (static_cut (n / 2)) (own_qstr_cut (n / 2))) in record { cut = c.cut }

str_cut : Cuts str
unfolding str
str_cut = let c = bind_cut number (λ n rest. Bind (text (BadObject 5) n rest) (λ own. pure (constants.Str own.0, own.1))) number_cut
    (λ n. bind_cut (text (BadObject 5) n) (λ own rest. pure (constants.Str own, rest)) (text_cut (BadObject 5) n) (λ own. pure_cut (constants.Str own))) in record { cut = c.cut }

int_cut : Cuts int
unfolding int
int_cut = let c = bind_cut number (λ n rest. Bind (taken n rest) (λ digits. Bind (int_of digits.0) (λ value. pure (constants.Int value, digits.1)))) number_cut
    (λ n. bind_cut (taken n) (λ digits rest. Bind (int_of digits) (λ value. pure (constants.Int value, rest))) (taken_cut n)
    (λ digits. value_cut (int_of digits) (λ value rest. pure (constants.Int value, rest)) (λ value. pure_cut (constants.Int value)))) in record { cut = c.cut }

tuple_cut : (inner : List ℕ → Field Constant) → Cuts inner → Cuts (tuple inner)
unfolding tuple
tuple_cut inner each = let c = bind_cut number (λ n rest. Bind (many n inner rest) (λ items. pure (constants.Tuple items.0, items.1))) number_cut
    (λ n. bind_cut (many n inner) (λ items rest. pure (constants.Tuple items, rest)) (many_cut inner each n) (λ items. pure_cut (constants.Tuple items))) in record { cut = c.cut }

tag_cut : (inner : List ℕ → Field Constant) → Cuts inner → (tag : ℕ) → Cuts (object_by inner tag)
unfolding object_by
tag_cut inner each tag =
    let unknown = refuse_cut {A = Constant} (BadObject tag) in
    let tuples = choose_cut (eqb tag 10) inner (λ rest. refuse (BadObject tag)) each unknown in
    let ints = choose_cut (eqb tag 7) int _ int_cut tuples in
    let strs = choose_cut (eqb tag 5) str _ str_cut ints in
    let trues = choose_cut (eqb tag 3) (λ rest. pure (constants.True, rest)) _ (pure_cut constants.True) strs in
    let falses = choose_cut (eqb tag 2) (λ rest. pure (constants.False, rest)) _ (pure_cut constants.False) trues in
    let c = choose_cut (eqb tag 1) (λ rest. pure (constants.None, rest)) _ (pure_cut constants.None) falses in
    record { cut = c.cut }

pub object_cut : (levels : ℕ) → Cuts (object levels)
unfolding object
object_cut zero = let c = bind_cut byte (object_by (λ _. refuse TooBig)) byte_cut (tag_cut (λ _. refuse TooBig) (refuse_cut TooBig)) in record { cut = c.cut }
object_cut (suc levels) =
    let c = bind_cut byte (object_by (tuple (object levels))) byte_cut (tag_cut (tuple (object levels)) (tuple_cut (object levels) (object_cut levels))) in
    record { cut = c.cut }

abbrev own_checked : ℕ → ℕ → List ℕ → List ℕ → Reading ((List ℕ × Bool) × List ℕ)
own_checked texts n whole rest = Bind (judge (n % 4 ≡ 0) BadCode) (λ _. Bind (own_code texts whole) (λ _. pure ((whole, eqb (n / 4 % 2) 1), rest)))

abbrev own_taken : ℕ → ℕ → List ℕ → Reading ((List ℕ × Bool) × List ℕ)
own_taken texts n bytes = Bind (taken (n / 8) bytes) (λ whole. own_checked texts n whole.0 whole.1)

own_cut : (texts : ℕ) → Cuts (own texts)
unfolding own
own_cut texts =
    let checked = λ (n : ℕ) (whole : List ℕ). value_cut (judge (n % 4 ≡ 0) BadCode) (λ _ rest. Bind (own_code texts whole) (λ _. pure ((whole, eqb (n / 4 % 2) 1), rest)))
    (λ _. value_cut (own_code texts whole) (λ _ rest. pure ((whole, eqb (n / 4 % 2) 1), rest)) (λ _. pure_cut (whole, eqb (n / 4 % 2) 1))) in
    let c = bind_cut number (λ n bytes. Bind (judge (n / 8 ≤ MAX_CODE_BYTES) TooBig) (λ _. own_taken texts n bytes)) number_cut
    (λ n. value_cut (judge (n / 8 ≤ MAX_CODE_BYTES) TooBig) (λ _ bytes. own_taken texts n bytes)
    (λ _. bind_cut (taken (n / 8)) (own_checked texts n) (taken_cut (n / 8)) (checked n))) in
    record { cut = c.cut }

children_cut : (inner : List ℕ → Field RawCode) → Cuts inner → (has_some : Bool) → Cuts (children inner has_some)
unfolding children
children_cut inner each true = let c = bind_cut count (λ n rest. many n inner rest) count_cut (many_cut inner each) in record { cut = c.cut }
children_cut inner each false = let c = pure_cut [] in record { cut = c.cut }

element_cut : (inner : List ℕ → Field RawCode) → Cuts inner → (texts : ℕ) → Cuts (element inner texts)
unfolding element
element_cut inner each texts =
    let c = bind_cut (own texts)
    (λ front rest. Bind (children inner front.1 rest) (λ codes. pure (roll-RawCode (record { bytes = front.0; children = codes.0 }), codes.1)))
    (own_cut texts)
    (λ front. bind_cut (children inner front.1) (λ codes rest. pure (roll-RawCode (record { bytes = front.0; children = codes }), rest))
    (children_cut inner each front.1) (λ codes. pure_cut _)) in
    record { cut = c.cut }

pub code_cut : (levels texts : ℕ) → Cuts (code levels texts)
unfolding code
code_cut zero texts = let c = refuse_cut {A = RawCode} TooBig in record { cut = c.cut }
code_cut (suc levels) texts = let c = element_cut (code levels texts) (code_cut levels texts) texts in record { cut = c.cut }

-- what a file has behind its header
abbrev with_objects : ℕ → ℕ → List Qstr → List Constant → List ℕ → Reading (Module × List ℕ)
with_objects bits texts qstrs objects bytes =
    Bind (code MAX_DEPTH texts bytes) (λ outermost. pure (record { bits = bits; qstrs = qstrs; objects = objects; code = outermost.0 }, outermost.1))

abbrev with_qstrs : ℕ → ℕ → ℕ → List Qstr → List ℕ → Reading (Module × List ℕ)
with_qstrs bits texts constants qstrs bytes =
    Bind (many constants (object MAX_DEPTH) bytes) (λ objects. with_objects bits texts qstrs objects.0 objects.1)

abbrev with_counts : ℕ → ℕ → ℕ → List ℕ → Reading (Module × List ℕ)
with_counts bits texts constants bytes = Bind (many texts qstr bytes) (λ qstrs. with_qstrs bits texts constants qstrs.0 qstrs.1)

abbrev with_texts : ℕ → ℕ → List ℕ → Reading (Module × List ℕ)
with_texts bits texts bytes = Bind (count bytes) (λ constants. Bind (judge (1 ≤ texts) BadQstr) (λ _. with_counts bits texts constants.0 constants.1))

abbrev pub behind_header : ℕ → List ℕ → Reading (Module × List ℕ)
behind_header bits bytes = Bind (count bytes) (λ texts. with_texts bits texts.0 texts.1)

pub behind_header_cut : (bits : ℕ) → Cuts (behind_header bits)
behind_header_cut bits = bind_cut count (with_texts bits) count_cut texts_cut where
  objects_cut : (texts : ℕ) (qstrs : List Qstr) (objects : List Constant) → Cuts (with_objects bits texts qstrs objects)
  objects_cut texts qstrs objects =
      bind_cut (code MAX_DEPTH texts) (λ outermost rest. pure (record { bits = bits; qstrs = qstrs; objects = objects; code = outermost }, rest))
      (code_cut MAX_DEPTH texts) (λ outermost. pure_cut _)

  qstrs_cut : (texts constants : ℕ) (qstrs : List Qstr) → Cuts (with_qstrs bits texts constants qstrs)
  qstrs_cut texts constants qstrs =
      bind_cut (many constants (object MAX_DEPTH)) (with_objects bits texts qstrs) (many_cut (object MAX_DEPTH) (object_cut MAX_DEPTH) constants) (objects_cut texts qstrs)

  counts_cut : (texts constants : ℕ) → Cuts (with_counts bits texts constants)
  counts_cut texts constants = bind_cut (many texts qstr) (with_qstrs bits texts constants) (many_cut qstr qstr_cut texts) (qstrs_cut texts constants)

  texts_cut : (texts : ℕ) → Cuts (with_texts bits texts)
  texts_cut texts =
      bind_cut count (λ constants bytes. Bind (judge (1 ≤ texts) BadQstr) (λ _. with_counts bits texts constants bytes)) count_cut
      (λ constants. value_cut (judge (1 ≤ texts) BadQstr) (λ _. with_counts bits texts constants) (λ _. counts_cut texts constants))
