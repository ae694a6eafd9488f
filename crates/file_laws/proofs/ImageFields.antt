-- Each field of an image is too short where it is cut off.
use Rattle.std.proofs.Common.{◌≡◌, ◌≢◌, ℕ, zero, suc, ◌+◌, ◌-◌, ◌≤◌, eqb, List, [], ◌∷◌, ◌++◌, length, take, All, refl, sym, ap, subst, ◌∙◌, inl, inr, arith, length-append}
use Rattle.std.specs.Prelude.{Contains}
use Rattle.std.proofs.lemmas.List.{append-nil, take_at}
use Rattle.std.proofs.lemmas.List.Elements.{All-take}
use Rattle.image_open.specs.mpy_base.Vuint.{HasMore, Groups, EndsInside}
use Rattle.image_open.specs.mpy_base.declared.limits.TheConstants.{MAX_DEPTH, MAX_MODULES, MAX_TABLE}
use Rattle.mpy_writer.specs.qstr_pool.Pool.{Texts}
use Rattle.mpy_writer.specs.mpy_tree.declared.module.Constant.{Constant}
use Rattle.mpy_writer.specs.mpy_tree.declared.raw.RawCode.{RawCode}
use Rattle.mpy_writer.specs.mpy_tree.Raw.{Module}
use Rattle.image_open.specs.mpy_reader.Reading as files
use Rattle.image_open.specs.mpy_reader.Reading.{IsText}
use Rattle.image_open.specs.mpy_reader.Body as bodies
use Rattle.image_open.specs.bc_verify.Verified.{IsVerified}
use Rattle.image_open.specs.bc_library.Texts.{last_part}
use Rattle.image_open.specs.image_grammar.declared.entry.Opened.{Opened}
use Rattle.image_open.specs.image_grammar.declared.entry.Entry.{Entry}
use Rattle.image_open.specs.image_grammar.declared.names.Table.{Table}
use Rattle.image_open.specs.image_grammar.declared.fault.ImageFault.TheVariants.{BadBase, BadModule, BadNumber, TooBig, Trailing, Truncated, Twice}
use Rattle.image_open.specs.image_grammar.Opening.{Base, number, count, IsTaken, IsNew, with_last, own_text, table, use_of, use_part, name, names_of, qstr, qstr_of, qstr_table, body, module_of, entry_of, raw, held, entry, none_opened, modules, pool_below, counts_below, nothing_is_below, base, parts}
use Rattle.image_open.specs.image_grammar.Steps.{Reading, Field, Bind, judge, pure, sought, times}
use Rattle.image_open.proofs.image_grammar_lemmas.Inversion.{judge_ok}
use Rattle.file_laws.proofs.Cuts as file
use Rattle.file_laws.proofs.Fields.{code_cut, count_cut, object_cut, shorter}
use Rattle.file_laws.proofs.ImageCuts.{IsCut, Cuts, pure_cut, bind_cut, value_cut, times_cut, Passes, pure_pass, bind_pass, value_pass, choose_pass, Ends, bind_ends, value_ends}

-- numbers
-- =======

-- the last byte of a number is missing
ends_inside : (text : List ℕ) (n : ℕ) → Groups text n → (front behind : List ℕ) → text ≡ front ++ behind → behind ≢ [] → EndsInside front
ends_inside text n g front behind is some =
    elim (file.parted g.high (g.last ∷ []) front behind (sym g.bytes_are ∙ is)) [
      | inl h ↦ record {
        more = subst (All HasMore) (ap (take (length front)) h.1 ∙ take_at front h.0 (length front) refl) (All-take HasMore (length front) g.high g.more);
        short = omega (arith, g.short, ap length h.1, length-append front h.0);
      }
      | inr h ↦
          let none : h.0 ≡ [] = last_only h.0 behind h.2 some in
          let whole : front ≡ g.high = h.1 ∙ (ap (λ (z : List ℕ). g.high ++ z) none ∙ append-nil g.high) in
          record { more = subst (All HasMore) (sym whole) g.more; short = omega (arith, g.short, ap length whole) }
    ] where
      last_only : (more behind : List ℕ) → g.last ∷ [] ≡ more ++ behind → behind ≢ [] → more ≡ []
      last_only [] behind e some = refl
      last_only (x ∷ more) behind e some = absurd (file.not_nothing more behind (let is = e in cc) some)

number_cut : Cuts number
number_cut = record {
  cut = λ bytes rest n h. record {
    text = h.0;
    text_is = h.2;
    onward = λ other. (h.0, h.1, refl);
    short = λ front behind is some. ends_inside h.0 n h.1.groups front behind is some;
  };
}

most_cut : (most : ℕ) → Cuts (count most)
unfolding count
most_cut most = let c = bind_cut number (λ n rest. Bind (judge (n ≤ most) TooBig) (λ _. pure (n, rest))) number_cut
    (λ n. value_cut (judge (n ≤ most) TooBig) (λ _ rest. pure (n, rest)) (λ _. pure_cut n)) in record { cut = c.cut }

-- texts
-- =====

taken_cut : (n : ℕ) → Cuts (λ bytes. sought (IsTaken n bytes) Truncated)
taken_cut n = record {
  cut = λ bytes rest x h. record {
    text = x;
    text_is = h.parts;
    onward = λ other. record { parts = refl; length_is = h.length_is };
    short = λ front behind is some.
        (refl, λ found k. let less = shorter x front behind is some in let len = h.length_is in let own = k.length_is in omega (arith, less, len, own, ap length k.parts, length-append found.0 found.1));
  };
}

abbrev own_made : Texts → List ℕ → List ℕ → List ℕ → Reading (Texts × List ℕ)
own_made pool whole own rest = Bind (judge (IsNew pool own) BadNumber) (λ _. pure (with_last pool own, rest))

abbrev own_found : Texts → List ℕ → List ℕ → Reading (Texts × List ℕ)
own_found pool whole rest = Bind (sought (λ own. IsText own whole) BadNumber) (λ own. own_made pool whole own rest)

own_cut : (pool : Texts) → Cuts (own_text pool)
unfolding own_text
own_cut pool =
    let made = λ (whole own : List ℕ). value_cut (judge (IsNew pool own) BadNumber) (λ _ rest. pure (with_last pool own, rest)) (λ _. pure_cut (with_last pool own)) in
    let found = λ (whole : List ℕ). value_cut (sought (λ own. IsText own whole) BadNumber) (λ own rest. own_made pool whole own rest) (made whole) in
    let c = bind_cut number (λ len rest. Bind (sought (IsTaken (len + 1) rest) Truncated) (λ whole. own_found pool whole.0 whole.1)) number_cut
    (λ len. bind_cut (λ bytes. sought (IsTaken (len + 1) bytes) Truncated) (own_found pool) (taken_cut (len + 1)) found) in
    record { cut = c.cut }

table_cut : (pool : Texts) → Cuts (table pool)
unfolding table
table_cut pool = let c = bind_cut (count (MAX_TABLE - length pool.texts)) (λ n rest. times n own_text pool rest) (most_cut (MAX_TABLE - length pool.texts)) (λ n. times_cut own_text own_cut n pool) in record { cut = c.cut }

-- tables of texts
-- ===============

abbrev qstr_made : Texts → Table → ℕ → List ℕ → Reading (Table × List ℕ)
qstr_made pool table n rest = Bind (use_of pool table.used n) (λ found. pure (record { qstrs = table.qstrs ++ qstr_of n found.0 ∷ []; used = found.1 }, rest))

qstr_cut : (pool : Texts) (table : Table) → Cuts (qstr pool table)
unfolding qstr
qstr_cut pool table = let c = bind_cut number (qstr_made pool table) number_cut
    (λ n. value_cut (use_of pool table.used n) (λ found rest. pure (record { qstrs = table.qstrs ++ qstr_of n found.0 ∷ []; used = found.1 }, rest)) (λ found. pure_cut _)) in record { cut = c.cut }

qstrs_cut : (pool : Texts) (used : ℕ) → Cuts (qstr_table pool used)
unfolding qstr_table
qstrs_cut pool used = let c = bind_cut (count MAX_TABLE) (λ n rest. times n (qstr pool) (record { qstrs = []; used = used }) rest) (most_cut MAX_TABLE) (λ n. times_cut (qstr pool) (qstr_cut pool) n (record { qstrs = []; used = used })) in record { cut = c.cut }

-- modules
-- =======

abbrev name_used : ℕ → List ℕ → List ℕ → Reading ((List ℕ × ℕ) × List ℕ)
name_used used text rest = pure ((text, used), rest)

abbrev name_judged : Texts → List ℕ × ℕ → List ℕ → Reading ((List ℕ × ℕ) × List ℕ)
name_judged pool found rest = Bind (use_part pool found.1 (last_part found.0)) (λ used. name_used used found.0 rest)

abbrev name_found : Base → Texts → Opened → List ℕ × ℕ → List ℕ → Reading ((List ℕ × ℕ) × List ℕ)
name_found below pool opened found rest = Bind (judge (Contains (below.names ++ names_of opened.entries) found.0 → ⊥) (Twice found.0)) (λ _. name_judged pool found rest)

name_cut : (below : Base) (pool : Texts) (opened : Opened) → Cuts (name below pool opened)
unfolding name
name_cut below pool opened =
    let judged = λ (found : List ℕ × ℕ). value_cut (use_part pool found.1 (last_part found.0)) (λ used rest. name_used used found.0 rest) (λ used. pure_cut (found.0, used)) in
    let found = λ (found : List ℕ × ℕ). value_cut (judge (Contains (below.names ++ names_of opened.entries) found.0 → ⊥) (Twice found.0)) (λ _ rest. name_judged pool found rest) (λ _. judged found) in
    let c = bind_cut number (λ n rest. Bind (use_of pool opened.used n) (λ found. name_found below pool opened found rest)) number_cut
    (λ n. value_cut (use_of pool opened.used n) (name_found below pool opened) found) in
    record { cut = c.cut }

-- what a file has behind its texts
file_body_cut : (texts : ℕ) → file.Cuts (bodies.body texts)
unfolding bodies.body
file_body_cut texts =
    let outer = λ (objects : List Constant). file.bind_cut (files.code MAX_DEPTH texts) (λ outermost rest. files.pure ((objects, outermost), rest)) (code_cut MAX_DEPTH texts) (λ outermost. file.pure_cut (objects, outermost)) in
    let c = file.bind_cut files.count (λ n rest. files.Bind (files.many n (files.object MAX_DEPTH) rest) (λ objects. files.Bind (files.code MAX_DEPTH texts objects.1) (λ outermost. files.pure ((objects.0, outermost.0), outermost.1)))) count_cut
    (λ n. file.bind_cut (files.many n (files.object MAX_DEPTH)) (λ objects rest. files.Bind (files.code MAX_DEPTH texts rest) (λ outermost. files.pure ((objects, outermost.0), outermost.1))) (file.many_cut (files.object MAX_DEPTH) (object_cut MAX_DEPTH) n) outer) in
    record { cut = c.cut }

body_cut : (index texts : ℕ) → Cuts (body index texts)
body_cut index texts = record {
  cut = λ bytes rest x h. let c = (file_body_cut texts).cut bytes rest x h in record { text = c.text; text_is = c.text_is; onward = c.onward; short = c.short };
}

abbrev raw_made : Table → List Constant × RawCode → List ℕ → Reading ((Module × ℕ) × List ℕ)
raw_made table parts rest = pure ((module_of table.qstrs parts, table.used), rest)

raw_cut : (pool : Texts) (index used : ℕ) → Cuts (raw pool index used)
unfolding raw
raw_cut pool index used =
    let c = bind_cut (qstr_table pool used) (λ texts rest. Bind (body index (length texts.qstrs) rest) (λ parts. raw_made texts parts.0 parts.1)) (qstrs_cut pool used)
    (λ texts. bind_cut (body index (length texts.qstrs)) (raw_made texts) (body_cut index (length texts.qstrs)) (λ parts. pure_cut (module_of texts.qstrs parts, texts.used))) in
    record { cut = c.cut }

held_cut : (pool : Texts) (index used : ℕ) → Cuts (held pool index used)
unfolding held
held_cut pool index used =
    let c = bind_cut (raw pool index used) (λ whole rest. Bind (judge (IsVerified whole.0) (BadModule index)) (λ _. pure (whole, rest))) (raw_cut pool index used)
    (λ whole. value_cut (judge (IsVerified whole.0) (BadModule index)) (λ _ rest. pure (whole, rest)) (λ _. pure_cut whole)) in
    record { cut = c.cut }

abbrev entry_made : Opened → List ℕ → Module × ℕ → List ℕ → Reading (Opened × List ℕ)
entry_made opened name whole rest = pure (record { entries = opened.entries ++ entry_of name whole.0 ∷ []; used = whole.1 }, rest)

entry_cut : (below : Base) (pool : Texts) (opened : Opened) → Cuts (entry below pool opened)
unfolding entry
entry_cut below pool opened =
    let c = bind_cut (name below pool opened) (λ title rest. Bind (held pool (length opened.entries) title.1 rest) (λ whole. entry_made opened title.0 whole.0 whole.1)) (name_cut below pool opened)
    (λ title. bind_cut (held pool (length opened.entries) title.1) (entry_made opened title.0) (held_cut pool (length opened.entries) title.1) (λ whole. pure_cut _)) in
    record { cut = c.cut }

modules_cut : (below : Base) (pool : Texts) → Cuts (modules below pool)
unfolding modules
modules_cut below pool =
    let c = bind_cut (count (MAX_MODULES - length below.names)) (λ n rest. times n (entry below pool) (none_opened below) rest) (most_cut (MAX_MODULES - length below.names))
    (λ n. times_cut (entry below pool) (entry_cut below pool) n (none_opened below)) in
    record { cut = c.cut }

-- what an image lies over
-- =======================

abbrev counts_made : Base → ℕ → ℕ → List ℕ → Reading (List ℕ)
counts_made below texts names rest = Bind (judge ((texts ≡ length below.texts) × (names ≡ length below.names)) BadBase) (λ _. pure rest)

counts_pass : (below : Base) → Passes (counts_below below)
unfolding counts_below
counts_pass below =
    let c = bind_pass number (λ texts rest. Bind (number rest) (λ names. counts_made below texts names.0 names.1)) number_cut
    (λ texts. bind_pass number (counts_made below texts) number_cut
    (λ names. value_pass (judge ((texts ≡ length below.texts) × (names ≡ length below.names)) BadBase) (λ _ rest. pure rest) (λ _. pure_pass))) in
    record { pass = c.pass }

nothing_pass : (below : Base) → Passes (nothing_is_below below)
unfolding nothing_is_below
nothing_pass below = let c = value_pass (judge ((below.texts ≡ []) × (below.names ≡ [])) BadBase) (λ _ bytes. pure bytes) (λ _. pure_pass) in record { pass = c.pass }

pub base_pass : (below : Base) (version : ℕ) → Passes (base below version)
unfolding base
base_pass below version = let c = choose_pass (eqb version 1) (nothing_is_below below) (counts_below below) (nothing_pass below) (counts_pass below) in record { pass = c.pass }

-- what stands behind
-- ==================

last_ends : (entries : List Entry) → Ends (λ bytes. Bind (judge (bytes ≡ []) Trailing) (λ _. pure entries))
last_ends entries = record { cut = λ front behind y h some. absurd (some (nothing_behind front behind (judge_ok _ _ _ _ h).0)) } where
  nothing_behind : (front behind : List ℕ) → front ++ behind ≡ [] → behind ≡ []
  nothing_behind [] behind e = e
  nothing_behind (x ∷ front) behind e = absurd cc

abbrev parts_left : Texts → Opened → List ℕ → Reading (List Entry)
parts_left pool opened rest = Bind (judge (opened.used ≡ length pool.texts) BadNumber) (λ _. Bind (judge (rest ≡ []) Trailing) (λ _. pure opened.entries))

pub parts_ends : (below : Base) → Ends (parts below)
unfolding parts
parts_ends below =
    let left = λ (pool : Texts) (opened : Opened). value_ends (judge (opened.used ≡ length pool.texts) BadNumber) (λ _ rest. Bind (judge (rest ≡ []) Trailing) (λ _. pure opened.entries)) (λ _. last_ends opened.entries) in
    let c = bind_ends (table (pool_below below)) (λ pool rest. Bind (modules below pool rest) (λ opened. parts_left pool opened.0 opened.1)) (table_cut (pool_below below))
    (λ pool. bind_ends (modules below pool) (parts_left pool) (modules_cut below pool) (left pool)) in
    record { cut = c.cut }
