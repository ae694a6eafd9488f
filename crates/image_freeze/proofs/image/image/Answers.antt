use Rattle.std.proofs.Common.{◌≡◌, ◌+◌, ◌<◌, ◌≤◌, ◌++◌, ℕ, List, All, length, drop, sym, ap, subst, ◌∙◌, arith}
use Rattle.std.specs.List.{flat_map}
use Rattle.std.proofs.lemmas.Result.{err_from_is_err_and}
use Rattle.mpy_base.specs.declared.limits.TheConstants.{MAX_IMAGE_BYTES, MAX_MODULES, MAX_TABLE}
use Rattle.qstr_pool.specs.declared.table.TheConstants.{FIRST_OWN}
use Rattle.qstr_pool.specs.Pool.{Texts}
use Rattle.image_open.specs.bc_library.Shelf.{Shelf, names}
use Rattle.image_open.specs.bc_library.Texts.{with_texts}
use Rattle.image_open.proofs.bc_library_lemmas.Pools.{longer, same_first}
use Rattle.image_open.specs.image_grammar.declared.fault.ImageFault.{ImageFault}
use Rattle.image_open.specs.image_grammar.declared.fault.ImageFault.TheVariants.{TooBig}
use Rattle.image_open.specs.image_grammar.Image.{texts_used}
use Rattle.image_open.specs.image_grammar.Opening.{Base, pool_below}
use Rattle.image_open.specs.image_grammar.Base.{base_of}
use Rattle.image_open.proofs.Uses.{IsProper}
use Rattle.image_freeze.specs.declared.named.Named.{Named}
use Rattle.image_freeze.specs.Fronts.{front_of}
use Rattle.image_freeze.specs.Frozen.{entries_of, own_bytes, parts_of, pool_of}
use Rattle.image_freeze.specs.Uses.{PassesTable}
use Rattle.image_freeze.proofs.Ended.{entries_differ, exit_ends, is_frozen, long_bytes, long_objects, long_texts, many_below, many_texts}
use Rattle.image_freeze.proofs.Fronts.{front_is}
use Rattle.image_freeze.proofs.Pools.{IsPoolOf, used_is}
use Rattle.image_freeze.proofs.Whole.{are_ready, is_image}
use Rattle.image_freeze.proofs.image.image.Goals as goal

-- the pool that is made
made_of : (below : Base) (modules : List Named) (start pool : Texts) → start ≡ pool_below below → pool ≡ with_texts start (texts_used (entries_of modules)) → pool ≡ pool_of below (entries_of modules)
made_of below modules start pool e f = f ∙ ap (λ (z : Texts). with_texts z (texts_used (entries_of modules))) e

first_own : (below : Base) (modules : List Named) (pool : Texts) → pool ≡ pool_of below (entries_of modules) → pool.first ≡ FIRST_OWN
first_own below modules pool e = ap (λ (z : Texts). z.first) e ∙ same_first (pool_below below) (texts_used (entries_of modules))

inside : (below : Base) (modules : List Named) (start pool : Texts) (count : ℕ) → start ≡ pool_below below → pool ≡ with_texts start (texts_used (entries_of modules)) → count ≡ length start.texts → count ≤ length pool.texts
inside below modules start pool count e f g = omega (arith, g, ap (λ (z : Texts). length z.texts) f, longer start (texts_used (entries_of modules)))

count_of : (below : Base) (start : Texts) (count : ℕ) → start ≡ pool_below below → count ≡ length start.texts → count ≡ length below.texts
count_of below start count e g = g ∙ ap (λ (z : Texts). length z.texts) e

few_names : (below : Shelf) (n : ℕ) → length (names below) + n ≤ MAX_MODULES → length (names below) ≤ MAX_MODULES
few_names below n few = omega (arith, few)

few_modules : (below : Shelf) (n : ℕ) → length (names below) + n ≤ MAX_MODULES → n ≤ MAX_MODULES
few_modules below n few = omega (arith, few)

-- what is written with such a pool
parts_are : (below : Base) (modules : List Named) (pool : Texts) (front : List ℕ) (start out : List ℕ) (count : ℕ) → count ≡ length below.texts → start ≡ front → out ≡ start ++ parts_of pool (drop count pool.texts) (entries_of modules) → out ≡ front ++ parts_of pool (drop (length below.texts) pool.texts) (entries_of modules)
parts_are below modules pool front start out count g e f =
    f ∙ (ap (λ (z : List ℕ). z ++ parts_of pool (drop count pool.texts) (entries_of modules)) e ∙ ap (λ (n : ℕ). front ++ parts_of pool (drop n pool.texts) (entries_of modules)) g)

pub returns-in_err-start-clause-ends : goal.returns-in_err-start-clause-ends
returns-in_err-start-clause-ends c =
    let p = err_from_is_err_and c.from_residual.result c.from_residual.ensures.1 in
    let below = base_of c.args.below.now in
    exit_ends (front_of c.args.version below) below (entries_of c.args.modules.now) (λ v. v.items) (λ (f : ImageFault). (f ≡ TooBig) × (MAX_TABLE < length c.args.below.now.pool.texts)) _ _ _ p.1 p.2 c.in_err-start.ensures.fault
    (many_below (front_of c.args.version below) below c.args.modules.now c.requires.differ)

pub returns-in_err-pool-clause-ends : goal.returns-in_err-pool-clause-ends
returns-in_err-pool-clause-ends c =
    let p = err_from_is_err_and c.from_residual-in_err-pool.result c.from_residual-in_err-pool.ensures.1 in
    let below = base_of c.args.below.now in
    let modules = c.args.modules.now in
    exit_ends (front_of c.args.version below) below (entries_of modules) (λ v. v.items) (PassesTable c.in_ok-start.start (texts_used (entries_of modules))) _ _ _ p.1 p.2 c.in_err-pool.ensures.fault
    (λ f h. many_texts (front_of c.args.version below) below modules c.requires.differ f (subst (λ (z : Texts). PassesTable z (texts_used (entries_of modules)) f) c.in_ok-start.ensures.ok h))

pub texts_are_short-requires-clause-first : goal.texts_are_short-requires-clause-first
texts_are_short-requires-clause-first c =
    first_own (base_of c.args.below.now) c.args.modules.now c.in_ok-pool.pool (made_of (base_of c.args.below.now) c.args.modules.now c.in_ok-start.start c.in_ok-pool.pool c.in_ok-start.ensures.ok c.in_ok-pool.ensures.ok)

pub texts_are_short-requires-clause-within : goal.texts_are_short-requires-clause-within
texts_are_short-requires-clause-within c =
    inside (base_of c.args.below.now) c.args.modules.now c.in_ok-start.start c.in_ok-pool.pool c.len-count.result c.in_ok-start.ensures.ok c.in_ok-pool.ensures.ok c.len-count.ensures

pub returns-then-not-texts_are_short-clause-ends : goal.returns-then-not-texts_are_short-clause-ends
returns-then-not-texts_are_short-clause-ends c =
    let below = base_of c.args.below.now in
    let modules = c.args.modules.now in
    let made = made_of below modules c.in_ok-start.start c.in_ok-pool.pool c.in_ok-start.ensures.ok c.in_ok-pool.ensures.ok in
    let count = count_of below c.in_ok-start.start c.len-count.result c.in_ok-start.ensures.ok c.len-count.ensures in
    long_texts (front_of c.args.version below) below modules c.requires.differ c.in_ok-pool.pool made
    (subst (λ (n : ℕ). MAX_IMAGE_BYTES < length (flat_map own_bytes (drop n c.in_ok-pool.pool.texts))) count (c.texts_are_short.ensures.long c.if-not-texts_are_short.true))

pub returns-then-not-objects_are_short-clause-ends : goal.returns-then-not-objects_are_short-clause-ends
returns-then-not-objects_are_short-clause-ends c =
    let below = base_of c.args.below.now in
    let modules = c.args.modules.now in
    let made = made_of below modules c.in_ok-start.start c.in_ok-pool.pool c.in_ok-start.ensures.ok c.in_ok-pool.ensures.ok in
    long_objects (front_of c.args.version below) below modules c.requires.differ c.in_ok-pool.pool made (c.objects_are_short.ensures.long c.if-not-objects_are_short.true)

pub front-requires-clause-texts : goal.front-requires-clause-texts
front-requires-clause-texts c = count_of (base_of c.args.below.now) c.in_ok-start.start c.len-count.result c.in_ok-start.ensures.ok c.len-count.ensures

pub front-requires-clause-few : goal.front-requires-clause-few
front-requires-clause-few c = omega (arith, c.len-count.ensures, c.pool_law.ensures.is_pool.few)

pub write_parts-requires-clause-first : goal.write_parts-requires-clause-first
write_parts-requires-clause-first c =
    first_own (base_of c.args.below.now) c.args.modules.now c.in_ok-pool.pool (made_of (base_of c.args.below.now) c.args.modules.now c.in_ok-start.start c.in_ok-pool.pool c.in_ok-start.ensures.ok c.in_ok-pool.ensures.ok)

pub write_parts-requires-clause-within : goal.write_parts-requires-clause-within
write_parts-requires-clause-within c =
    inside (base_of c.args.below.now) c.args.modules.now c.in_ok-start.start c.in_ok-pool.pool c.len-count.result c.in_ok-start.ensures.ok c.in_ok-pool.ensures.ok c.len-count.ensures

pub write_parts-requires-clause-few : goal.write_parts-requires-clause-few
write_parts-requires-clause-few c = few_modules c.args.below.now (length c.args.modules.now) c.requires.few

pub returns-then-len-gt-MAX_IMAGE_BYTES-clause-ends : goal.returns-then-len-gt-MAX_IMAGE_BYTES-clause-ends
returns-then-len-gt-MAX_IMAGE_BYTES-clause-ends c =
    let below = base_of c.args.below.now in
    let modules = c.args.modules.now in
    let made = made_of below modules c.in_ok-start.start c.in_ok-pool.pool c.in_ok-start.ensures.ok c.in_ok-pool.ensures.ok in
    let count = count_of below c.in_ok-start.start c.len-count.result c.in_ok-start.ensures.ok c.len-count.ensures in
    let is = parts_are below modules c.in_ok-pool.pool (front_of c.args.version below) c.in_ok-out.out.items c.write_parts.new.out.items c.len-count.result count c.in_ok-out.ensures c.in_ok-write_parts.ensures in
    let len = c.len.ensures in
    let past = c.if-len-gt-MAX_IMAGE_BYTES.true in
    long_bytes (front_of c.args.version below) below modules c.requires.differ c.in_ok-pool.pool c.write_parts.new.out.items made is (omega (arith, len, past))

pub returns-clause-ends : goal.returns-clause-ends
returns-clause-ends c =
    let below = base_of c.args.below.now in
    let modules = c.args.modules.now in
    let made = made_of below modules c.in_ok-start.start c.in_ok-pool.pool c.in_ok-start.ensures.ok c.in_ok-pool.ensures.ok in
    let count = count_of below c.in_ok-start.start c.len-count.result c.in_ok-start.ensures.ok c.len-count.ensures in
    let is = parts_are below modules c.in_ok-pool.pool (front_of c.args.version below) c.in_ok-out.out.items c.write_parts.new.out.items c.len-count.result count c.in_ok-out.ensures c.in_ok-write_parts.ensures in
    let len = c.len.ensures in
    let short = c.if-len-gt-MAX_IMAGE_BYTES.false in
    is_frozen (front_of c.args.version below) below modules c.requires.differ c.in_ok-pool.pool c.write_parts.new.out.items c.requires.few made c.pool_law-2.ensures.is_pool.few is (omega (arith, len, short))

pub returns-clause-image : goal.returns-clause-image
returns-clause-image c =
    let below = base_of c.args.below.now in
    let modules = c.args.modules.now in
    let start = c.in_ok-start.start in
    let made = made_of below modules start c.in_ok-pool.pool c.in_ok-start.ensures.ok c.in_ok-pool.ensures.ok in
    let count = count_of below start c.len-count.result c.in_ok-start.ensures.ok c.len-count.ensures in
    let is = parts_are below modules c.in_ok-pool.pool (front_of c.args.version below) c.in_ok-out.out.items c.write_parts.new.out.items c.len-count.result count c.in_ok-out.ensures c.in_ok-write_parts.ensures in
    let len = c.len.ensures in
    let short = c.if-len-gt-MAX_IMAGE_BYTES.false in
    let pool : IsPoolOf below modules c.in_ok-pool.pool = record {
      below_proper = subst IsProper c.in_ok-start.ensures.ok (record { own = c.in_ok-start.ensures.own; differ = c.pool_law.ensures.differ });
      pool_is = made ∙ ap (with_texts (pool_below below)) (used_is modules);
      few = c.pool_law-2.ensures.is_pool.few;
      short = subst (λ (n : ℕ). All (λ (text : List ℕ). length text ≤ MAX_IMAGE_BYTES) (drop n c.in_ok-pool.pool.texts)) count (c.texts_are_short.ensures.short c.if-not-texts_are_short.false);
    } in
    let few_texts : length below.texts ≤ MAX_TABLE = omega (arith, count, c.len-count.ensures, c.pool_law.ensures.is_pool.few) in
    let front = front_is below c.args.version c.requires.version few_texts (few_names c.args.below.now (length modules) c.requires.few) in
    is_image below modules c.in_ok-pool.pool (front_of c.args.version below) c.write_parts.new.out.items front pool (are_ready modules c.requires.ascii c.requires.read (c.objects_are_short.ensures.fine c.if-not-objects_are_short.false))
    (entries_differ (names c.args.below.now) modules c.requires.differ) c.requires.few (omega (arith, len, short)) is
