-- Bytes are read in one way.
use Rattle.std.proofs.Common.{◌≡◌, ℕ, zero, suc, ◌+◌, Bool, true, false, eqb, List, [], ◌∷◌, ◌++◌, length, take, drop, Option, Some, None, Result, Ok, Err, refl, sym, ap, subst, ◌∙◌, inl, inr}
use Rattle.std.proofs.lemmas.List.{append_cancel_left, append_cancel_right, take_at, drop_at}
use Rattle.mpy_base.proofs.Groups as groups
use Rattle.image_grammar.specs.mpy_tree.declared.module.Constant.{Constant}
use Rattle.image_grammar.specs.mpy_tree.declared.raw.RawCode.{RawCode}
use Rattle.image_grammar.specs.mpy_reader.declared.fault.FileFault.{FileFault}
use Rattle.image_grammar.specs.mpy_reader.declared.fault.FileFault.TheVariants as files
use Rattle.image_grammar.specs.mpy_reader.Reading.{IsText}
use Rattle.image_grammar.specs.mpy_reader.Body as bodies
use Rattle.image_grammar.proofs.mpy_reader_lemmas.Bodies.{body_single as file_body_single}
use Rattle.image_grammar.specs.bc_library.Texts.{last_part}
use Rattle.qstr_pool.specs.Pool.{Texts}
use Rattle.image_grammar.specs.declared.entry.Opened.{Opened}
use Rattle.image_grammar.specs.declared.fault.ImageFault.{ImageFault}
use Rattle.image_grammar.specs.declared.fault.ImageFault.TheVariants.{Truncated, BadNumber, BadModule, TooBig}
use Rattle.image_grammar.specs.Opening.{Base, number, count, IsTaken, own_text, pool_below, table, use_of, use_at, use_part, number_in, name, qstr, qstr_table, body, raw, held, entry, modules, IsHeader, counts_below, nothing_is_below, base, parts, image}
use Rattle.image_grammar.specs.Steps.{Reading, Field, Bind, goes_on, stops, refuse, pure, judge, sought, choose, times}
use Rattle.image_grammar.proofs.Inversion.{done, read, ok_is}

pub record IsSingle {A : Type 0} (R : Result A ImageFault → Type 0) : Type 0 where
  pub same : (a b : Result A ImageFault) → R a → R b → a ≡ b

abbrev failed : {A : Type 0} → ImageFault → Result A ImageFault
failed fault = Err fault

same_pair : {A B : Type 0} (x y : A × B) → x.0 ≡ y.0 → x.1 ≡ y.1 → x ≡ y
same_pair {A} {B} x y e f =
    let P : A → A × B = λ z. (z, x.1) in
    let Q : B → A × B = λ z. (y.0, z) in
    ap P e ∙ ap Q f

bind_single : {A B : Type 0} (R : Reading A) (Q : A → Reading B) → IsSingle R → ((x : A) → IsSingle (Q x)) → IsSingle (Bind R Q)
bind_single {A} {B} R Q one others = record { same = bind_same } where
  bind_same : (a b : Result B ImageFault) → Bind R Q a → Bind R Q b → a ≡ b
  bind_same a b (goes_on x r q) (goes_on y s p) =
      let e : x ≡ y = ok_is x y (one.same (done x) (done y) r s) in
      (others y).same a b (subst (λ z. Q z a) e q) p
  bind_same a b (goes_on x r q) (stops f s e) = absurd (let none : done x ≡ Err f = one.same (done x) (Err f) r s in cc)
  bind_same a b (stops f s e) (goes_on x r q) = absurd (let none : done x ≡ Err f = one.same (done x) (Err f) r s in cc)
  bind_same a b (stops f s e) (stops g t d) =
      let none : failed {A = A} f ≡ failed g = one.same (Err f) (Err g) s t in
      let faults_are : f ≡ g = cc in
      e ∙ (ap failed faults_are ∙ sym d)

pure_single : {A : Type 0} (x : A) → IsSingle (pure x)
pure_single x = record { same = λ a b h k. h ∙ sym k }

refuse_single : {A : Type 0} (fault : ImageFault) → IsSingle (refuse {A = A} fault)
refuse_single fault = record { same = λ a b h k. h ∙ sym k }

judge_same : (Fact : Type 0) (fault : ImageFault) (a b : Result (Unit {0}) ImageFault) → judge Fact fault a → judge Fact fault b → a ≡ b
judge_same Fact fault a b (inl h) (inl k) = h.1 ∙ sym k.1
judge_same Fact fault a b (inl h) (inr k) = absurd (k.0 h.0)
judge_same Fact fault a b (inr h) (inl k) = absurd (h.0 k.0)
judge_same Fact fault a b (inr h) (inr k) = h.1 ∙ sym k.1

judge_single : (Fact : Type 0) (fault : ImageFault) → IsSingle (judge Fact fault)
judge_single Fact fault = record { same = judge_same Fact fault }

choose_single : {A : Type 0} (b : Bool) (P Q : Reading A) → IsSingle P → IsSingle Q → IsSingle (choose b P Q)
choose_single true P Q p q = record { same = p.same }
choose_single false P Q p q = record { same = q.same }

sought_same : {A : Type 0} (Fact : A → Type 0) (fault : ImageFault) → ((x y : A) → Fact x → Fact y → x ≡ y) → (a b : Result A ImageFault) → sought Fact fault a → sought Fact fault b → a ≡ b
sought_same Fact fault one (Ok x) (Ok y) h k = ap done (one x y h k)
sought_same Fact fault one (Ok x) (Err f) h k = absurd (k.1 x h)
sought_same Fact fault one (Err f) (Ok y) h k = absurd (h.1 y k)
sought_same Fact fault one (Err f) (Err g) h k = ap failed (h.0 ∙ sym k.0)

sought_single : {A : Type 0} (Fact : A → Type 0) (fault : ImageFault) → ((x y : A) → Fact x → Fact y → x ≡ y) → IsSingle (sought Fact fault)
sought_single Fact fault one = record { same = sought_same Fact fault one }

times_single : {A : Type 0} (step : A → List ℕ → Field A) → ((state : A) (bytes : List ℕ) → IsSingle (step state bytes)) → (n : ℕ) (state : A) (bytes : List ℕ) → IsSingle (times n step state bytes)
unfolding times
times_single step one zero state bytes = pure_single (state, bytes)
times_single step one (suc n) state bytes = bind_single _ _ (one state bytes) (λ next. times_single step one n next.0 next.1)

-- numbers and texts
same_number : (bytes : List ℕ) (m n : ℕ) (r s : List ℕ) → number bytes (Ok (m, r)) → number bytes (Ok (n, s)) → read m r ≡ read n s
same_number bytes m n r s h k =
    let both = groups.one_number h.0 k.0 r s m n h.1.groups k.1.groups (sym h.2 ∙ k.2) in
    let rests : r ≡ s = append_cancel_left h.0 r s (sym h.2 ∙ (k.2 ∙ ap (λ (z : List ℕ). z ++ s) (sym both.0))) in
    ap (λ z. read z r) both.1 ∙ ap (λ z. read n z) rests

number_same : (bytes : List ℕ) (a b : Result (ℕ × List ℕ) ImageFault) → number bytes a → number bytes b → a ≡ b
number_same bytes (Ok x) (Ok y) h k = same_number bytes x.0 y.0 x.1 y.1 h k
number_same bytes (Ok x) (Err Truncated) h k = absurd (groups.not_inside bytes h.0 x.1 x.0 h.1.groups h.2 k)
number_same bytes (Ok x) (Err TooBig) h k = absurd (groups.not_past bytes h.0 x.1 x.0 h.1 h.2 k)
number_same bytes (Ok x) (Err f) h k = absurd k
number_same bytes (Err Truncated) (Ok y) h k = absurd (groups.not_inside bytes k.0 y.1 y.0 k.1.groups k.2 h)
number_same bytes (Err Truncated) (Err Truncated) h k = refl
number_same bytes (Err Truncated) (Err TooBig) h k = absurd (groups.not_both bytes h k)
number_same bytes (Err Truncated) (Err f) h k = absurd k
number_same bytes (Err TooBig) (Ok y) h k = absurd (groups.not_past bytes k.0 y.1 y.0 k.1 k.2 h)
number_same bytes (Err TooBig) (Err Truncated) h k = absurd (groups.not_both bytes k h)
number_same bytes (Err TooBig) (Err TooBig) h k = refl
number_same bytes (Err TooBig) (Err f) h k = absurd k
number_same bytes (Err f) b h k = absurd h

number_single : (bytes : List ℕ) → IsSingle (number bytes)
number_single bytes = record { same = number_same bytes }

count_single : (most : ℕ) (bytes : List ℕ) → IsSingle (count most bytes)
unfolding count
count_single most bytes = bind_single _ _ (number_single bytes) (λ n. bind_single _ _ (judge_single _ _) (λ _. pure_single n))

one_taken : (len : ℕ) (bytes : List ℕ) (x y : List ℕ × List ℕ) → IsTaken len bytes x → IsTaken len bytes y → x ≡ y
one_taken len bytes x y h k =
    let whole : x.0 ++ x.1 ≡ y.0 ++ y.1 = sym h.parts ∙ k.parts in
    let fronts : x.0 ≡ y.0 = sym (take_at x.0 x.1 len h.length_is) ∙ (ap (take len) whole ∙ take_at y.0 y.1 len k.length_is) in
    let rests : x.1 ≡ y.1 = sym (drop_at x.0 x.1 len h.length_is) ∙ (ap (drop len) whole ∙ drop_at y.0 y.1 len k.length_is) in
    same_pair x y fronts rests

one_own : (whole x y : List ℕ) → IsText x whole → IsText y whole → x ≡ y
one_own whole x y h k = append_cancel_right x y (0 ∷ []) (sym h.ends ∙ k.ends)

own_text_single : (pool : Texts) (bytes : List ℕ) → IsSingle (own_text pool bytes)
unfolding own_text
own_text_single pool bytes =
    bind_single _ _ (number_single bytes) (λ len. bind_single _ _ (sought_single _ _ (one_taken (len.0 + 1) len.1)) (λ whole.
    bind_single _ _ (sought_single _ _ (one_own whole.0)) (λ own. bind_single _ _ (judge_single _ _) (λ _. pure_single _))))

table_single : (pool : Texts) (bytes : List ℕ) → IsSingle (table pool bytes)
unfolding table
table_single pool bytes = bind_single _ _ (count_single _ bytes) (λ n. times_single own_text own_text_single n.0 _ n.1)

some_same : (a b : List ℕ) (r : Option (List ℕ)) → r ≡ Some a → r ≡ Some b → a ≡ b
some_same a b r e k = cc

use_single : (pool : Texts) (used n : ℕ) → IsSingle (use_of pool used n)
unfolding use_of
use_single pool used n = bind_single _ _ (sought_single _ _ (λ a b h k. some_same a b _ h.text_is k.text_is)) (λ text. pure_single _)

use_at_single : (pool : Texts) (used : ℕ) (n : Option ℕ) → IsSingle (use_at pool used n)
unfolding use_at
use_at_single pool used None = refuse_single BadNumber
use_at_single pool used (Some n) = bind_single _ _ (use_single pool used n) (λ found. pure_single found.1)

use_part_single : (pool : Texts) (used : ℕ) (part : Option (List ℕ)) → IsSingle (use_part pool used part)
unfolding use_part
use_part_single pool used None = pure_single used
use_part_single pool used (Some part) = use_at_single pool used (number_in pool part)

-- modules
name_single : (below : Base) (pool : Texts) (opened : Opened) (bytes : List ℕ) → IsSingle (name below pool opened bytes)
unfolding name
name_single below pool opened bytes =
    bind_single _ _ (number_single bytes) (λ n. bind_single _ _ (use_single pool opened.used n.0) (λ found. bind_single _ _ (judge_single _ _) (λ _.
    bind_single _ _ (use_part_single pool found.1 (last_part found.0)) (λ used. pure_single _))))

qstr_single : (pool : Texts) (state : _) (bytes : List ℕ) → IsSingle (qstr pool state bytes)
unfolding qstr
qstr_single pool state bytes = bind_single _ _ (number_single bytes) (λ n. bind_single _ _ (use_single pool state.used n.0) (λ found. pure_single _))

qstr_table_single : (pool : Texts) (used : ℕ) (bytes : List ℕ) → IsSingle (qstr_table pool used bytes)
unfolding qstr_table
qstr_table_single pool used bytes = bind_single _ _ (count_single _ bytes) (λ n. times_single (qstr pool) (qstr_single pool) n.0 _ n.1)

abbrev Parts : Type 0
Parts = (List Constant × RawCode) × List ℕ

file_done : Parts → Result Parts FileFault
file_done x = Ok x

one_body : (texts : ℕ) (bytes : List ℕ) (x y : Parts) → bodies.body texts bytes (Ok x) → bodies.body texts bytes (Ok y) → x ≡ y
one_body texts bytes x y h k =
    let e : ◌≡◌ {A = Result Parts FileFault} (Ok x) (Ok y) = (file_body_single texts bytes).same (Ok x) (Ok y) h k in
    cc

no_body : (texts : ℕ) (bytes : List ℕ) (x : Parts) (f : FileFault) → bodies.body texts bytes (Ok x) → bodies.body texts bytes (Err f) → ⊥
no_body texts bytes x f h k =
    let e : ◌≡◌ {A = Result Parts FileFault} (Ok x) (Err f) = (file_body_single texts bytes).same (Ok x) (Err f) h k in
    cc

not_cut : (texts : ℕ) (bytes : List ℕ) (f : FileFault) → (f ≡ files.Truncated → ⊥) → bodies.body texts bytes (Err f) → bodies.body texts bytes (Err files.Truncated) → ⊥
not_cut texts bytes f never h k =
    let e : ◌≡◌ {A = Result Parts FileFault} (Err f) (Err files.Truncated) = (file_body_single texts bytes).same (Err f) (Err files.Truncated) h k in
    never cc

body_same : (index texts : ℕ) (bytes : List ℕ) (a b : Result Parts ImageFault) → body index texts bytes a → body index texts bytes b → a ≡ b
body_same index texts bytes (Ok x) (Ok y) h k = ap done (one_body texts bytes x y h k)
body_same index texts bytes (Ok x) (Err Truncated) h k = absurd (no_body texts bytes x files.Truncated h k)
body_same index texts bytes (Ok x) (Err (BadModule p)) h k = absurd (no_body texts bytes x k.1 h k.3)
body_same index texts bytes (Ok x) (Err f) h k = absurd k
body_same index texts bytes (Err Truncated) (Ok y) h k = absurd (no_body texts bytes y files.Truncated k h)
body_same index texts bytes (Err Truncated) (Err Truncated) h k = refl
body_same index texts bytes (Err Truncated) (Err (BadModule p)) h k = absurd (not_cut texts bytes k.1 k.2 k.3 h)
body_same index texts bytes (Err Truncated) (Err f) h k = absurd k
body_same index texts bytes (Err (BadModule p)) (Ok y) h k = absurd (no_body texts bytes y h.1 k h.3)
body_same index texts bytes (Err (BadModule p)) (Err Truncated) h k = absurd (not_cut texts bytes h.1 h.2 h.3 k)
body_same index texts bytes (Err (BadModule p)) (Err (BadModule q)) h k = ap (λ (z : ℕ). failed (BadModule z)) (h.0 ∙ sym k.0)
body_same index texts bytes (Err (BadModule p)) (Err f) h k = absurd k
body_same index texts bytes (Err f) b h k = absurd h

body_single : (index texts : ℕ) (bytes : List ℕ) → IsSingle (body index texts bytes)
body_single index texts bytes = record { same = body_same index texts bytes }

raw_single : (pool : Texts) (index used : ℕ) (bytes : List ℕ) → IsSingle (raw pool index used bytes)
unfolding raw
raw_single pool index used bytes = bind_single _ _ (qstr_table_single pool used bytes) (λ texts. bind_single _ _ (body_single index (length texts.0.qstrs) texts.1) (λ parts. pure_single _))

held_single : (pool : Texts) (index used : ℕ) (bytes : List ℕ) → IsSingle (held pool index used bytes)
unfolding held
held_single pool index used bytes = bind_single _ _ (raw_single pool index used bytes) (λ whole. bind_single _ _ (judge_single _ _) (λ _. pure_single whole))

entry_single : (below : Base) (pool : Texts) (opened : Opened) (bytes : List ℕ) → IsSingle (entry below pool opened bytes)
unfolding entry
entry_single below pool opened bytes =
    bind_single _ _ (name_single below pool opened bytes) (λ title. bind_single _ _ (held_single pool (length opened.entries) title.0.1 title.1) (λ whole. pure_single _))

modules_single : (below : Base) (pool : Texts) (bytes : List ℕ) → IsSingle (modules below pool bytes)
unfolding modules
modules_single below pool bytes = bind_single _ _ (count_single _ bytes) (λ n. times_single (entry below pool) (entry_single below pool) n.0 _ n.1)

-- the image
one_header : (bytes : List ℕ) (x y : ℕ × List ℕ) → IsHeader bytes x.0 x.1 → IsHeader bytes y.0 y.1 → x ≡ y
one_header bytes x y h k =
    let both : 0x4d ∷ 0x49 ∷ x.0 ∷ 0x1f ∷ x.1 ≡ 0x4d ∷ 0x49 ∷ y.0 ∷ 0x1f ∷ y.1 = sym h.bytes_are ∙ k.bytes_are in
    let versions : x.0 ≡ y.0 = cc in
    let rests : x.1 ≡ y.1 = cc in
    same_pair x y versions rests

base_single : (below : Base) (version : ℕ) (bytes : List ℕ) → IsSingle (base below version bytes)
unfolding base nothing_is_below counts_below
base_single below version bytes =
    choose_single (eqb version 1) _ _ (bind_single _ _ (judge_single _ _) (λ _. pure_single bytes))
    (bind_single _ _ (number_single bytes) (λ texts. bind_single _ _ (number_single texts.1) (λ names. bind_single _ _ (judge_single _ _) (λ _. pure_single names.1))))

parts_single : (below : Base) (bytes : List ℕ) → IsSingle (parts below bytes)
unfolding parts
parts_single below bytes =
    bind_single _ _ (table_single (pool_below below) bytes) (λ pool. bind_single _ _ (modules_single below pool.0 pool.1) (λ opened.
    bind_single _ _ (judge_single _ _) (λ _. bind_single _ _ (judge_single _ _) (λ _. pure_single _))))

pub image_single : (below : Base) (bytes : List ℕ) → IsSingle (image below bytes)
unfolding image
image_single below bytes =
    bind_single _ _ (judge_single _ _) (λ _. bind_single _ _ (sought_single _ _ (one_header bytes)) (λ front.
    bind_single _ _ (base_single below front.0 front.1) (λ rest. parts_single below rest)))
