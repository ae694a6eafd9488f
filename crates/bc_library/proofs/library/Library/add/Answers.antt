use Rattle.std.proofs.Common.{◌≡◌, ℕ, ◌<◌, ◌≤◌, List, length, Err, sym, ap, ap₂, subst, ◌∙◌, arith}
use Rattle.mpy_base.specs.declared.limits.TheConstants.{MAX_TABLE}
use Rattle.mpy_base.specs.declared.refused.Refused.{Refused}
use Rattle.mpy_base.specs.declared.refused.Refused.TheVariants as refusals
use Rattle.mpy_tree.specs.Raw.{Module}
use Rattle.bc_verify.specs.qstr_pool.Pool.{Texts}
use Rattle.bc_library.specs.declared.fault.LibFault.{LibFault}
use Rattle.bc_library.specs.declared.fault.LibFault.TheVariants as faults
use Rattle.bc_library.specs.declared.library.Loaded.{Loaded}
use Rattle.bc_library.specs.Kept.{IsLibrary, shelf_of}
use Rattle.bc_library.specs.Shelf.{Shelf}
use Rattle.bc_library.specs.Texts.{with_texts, texts_of}
use Rattle.bc_library.proofs.Pools.{extends_by, taken_back}
use Rattle.bc_library.proofs.Shelves.{OnlyNames, has_room, only_names, not_there, brought_as, is_new, with_further, seen_further}
use Rattle.bc_library.proofs.library.Library.add.Goals as goal

pub returns-in-Some-clause-twice : goal.returns-in-Some-clause-twice
returns-in-Some-clause-twice c = c.in-Some.ensures.twice

pub returns-in-Some-clause-too_many : goal.returns-in-Some-clause-too_many
returns-in-Some-clause-too_many c = c.in-Some.ensures.too_many

pub returns-in-Some-clause-names : goal.returns-in-Some-clause-names
returns-in-Some-clause-names c e = absurd (c.in-Some.ensures.others e)

pub overflow_cast-number : goal.overflow_cast-number
overflow_cast-number c = omega (arith, c.len-number.ensures, c.self.invariant.few)

pub brought_by-requires-clause-own : goal.brought_by-requires-clause-own
brought_by-requires-clause-own c = c.self.invariant.own

pub brought_by-requires-clause-plain : goal.brought_by-requires-clause-plain
brought_by-requires-clause-plain c = record { ascii = c.requires.ascii; short = c.requires.short }

pub invariant_of-self-in-Ok-put : goal.invariant_of-self-in-Ok-put
invariant_of-self-in-Ok-put c =
    let number : c.len-number.result ≡ length c.self.inside.modules.items = omega (arith, c.len-number.ensures) in
    let brought = brought_as c.self.inside.pool c.brought_by.new.pool c.len-number.result (length c.self.inside.modules.items) c.args.name.now c.module.result.now c.args.verified c.in-Ok.brought number c.module.ensures c.in-Ok.ensures.brought in
    let room = has_room c.self.inside.modules.items c.self.inside.refused c.self.inside.pool c.args.self.now c.self.view_is c.in_default.ensures.none.1 in
    subst (λ (ls : List Loaded). IsLibrary ls c.self.inside.refused c.brought_by.new.pool) (sym c.in-Ok-put.ensures.ok)
    (with_further c.self.inside.modules.items c.self.inside.refused c.self.inside.pool c.brought_by.new.pool c.args.name.now c.args.verified c.in-Ok.brought c.self.invariant brought room c.verified_law.ensures
    (is_new c.self.inside.modules.items c.self.inside.refused c.self.inside.pool c.args.self.now c.args.name.now c.self.view_is c.in_default.ensures.none.0))

pub invariant_of-self : goal.invariant_of-self
invariant_of-self c =
    let back = taken_back c.self.inside.pool c.brought_by.new.pool c.truncate.new.self c.len-held.result c.in-Err.ensures.err c.len-held.ensures c.truncate.ensures in
    subst (λ (p : Texts). IsLibrary c.self.inside.modules.items c.self.inside.refused p) (sym back) c.self.invariant

pub invariant_of-self-in-Err-put : goal.invariant_of-self-in-Err-put
invariant_of-self-in-Err-put c =
    let back =
    taken_back c.self.inside.pool c.brought_by.new.pool c.truncate-in-Err-put.new.self c.len-held.result
    (extends_by c.self.inside.pool c.brought_by.new.pool (texts_of c.args.name.now c.module.result.now) c.in-Ok.ensures.brought.pool_is) c.len-held.ensures c.truncate-in-Err-put.ensures in
    subst (λ (p : Texts). IsLibrary c.put.new.modules.items c.self.inside.refused p) (sym back)
    (subst (λ (ls : List Loaded). IsLibrary ls c.self.inside.refused c.self.inside.pool) (sym c.in-Err-put.ensures.err) c.self.invariant)

abbrev Overflows : Texts → List ℕ → Module → Type 0
Overflows pool name m = MAX_TABLE < length (with_texts pool (texts_of name m)).texts

-- a refusal of the texts tells nothing but that they are too many
faults_of : (refused : Refused LibFault) (inside pool : Texts) (name : List ℕ) (read verified : Module) → inside ≡ pool → read ≡ verified → ((f : LibFault) → refused ≡ refusals.Fault f → (f ≡ faults.Names) × Overflows inside name read) → OnlyNames refused (Overflows pool name verified)
faults_of refused inside pool name read verified same is told =
    subst (λ (p : Texts). OnlyNames refused (Overflows p name verified)) same
    (subst (λ (m : Module). OnlyNames refused (Overflows inside name m)) is (only_names refused (Overflows inside name read) told))

pub returns-in-Err-clause-twice : goal.returns-in-Err-clause-twice
returns-in-Err-clause-twice c =
    let found = faults_of c.in-Err.refused c.self.inside.pool c.args.self.now.pool c.args.name.now c.module.result.now c.args.verified (ap (λ (s : Shelf). s.pool) c.self.view_is) c.module.ensures (λ f e. c.in-Err.ensures.names f (ap (λ z. Err z) e)) in
    (λ e. absurd (found.twice e), λ s. absurd (not_there _ c.in_default.ensures.none.0 s))

pub returns-in-Err-clause-too_many : goal.returns-in-Err-clause-too_many
returns-in-Err-clause-too_many c =
    let found = faults_of c.in-Err.refused c.self.inside.pool c.args.self.now.pool c.args.name.now c.module.result.now c.args.verified (ap (λ (s : Shelf). s.pool) c.self.view_is) c.module.ensures (λ f e. c.in-Err.ensures.names f (ap (λ z. Err z) e)) in
    (λ e. absurd (found.too_many e), λ s. absurd (c.in_default.ensures.none.1 s.1))

pub returns-in-Err-clause-names : goal.returns-in-Err-clause-names
returns-in-Err-clause-names c e =
    let found = faults_of c.in-Err.refused c.self.inside.pool c.args.self.now.pool c.args.name.now c.module.result.now c.args.verified (ap (λ (s : Shelf). s.pool) c.self.view_is) c.module.ensures (λ f e. c.in-Err.ensures.names f (ap (λ z. Err z) e)) in
    (c.in_default.ensures.none.0, c.in_default.ensures.none.1, found.full e)

pub returns-in-Ok-put-clause-added : goal.returns-in-Ok-put-clause-added
returns-in-Ok-put-clause-added c =
    let number : c.len-number.result ≡ length c.self.inside.modules.items = omega (arith, c.len-number.ensures) in
    let brought = brought_as c.self.inside.pool c.brought_by.new.pool c.len-number.result (length c.self.inside.modules.items) c.args.name.now c.module.result.now c.args.verified c.in-Ok.brought number c.module.ensures c.in-Ok.ensures.brought in
    ap (λ (ls : List Loaded). shelf_of ls c.self.inside.refused c.brought_by.new.pool) c.in-Ok-put.ensures.ok
    ∙ seen_further c.self.inside.modules.items c.self.inside.refused c.self.inside.pool c.brought_by.new.pool c.args.self.now c.args.name.now c.args.verified c.in-Ok.brought c.self.view_is brought

pub returns-in-Ok-put-clause-twice : goal.returns-in-Ok-put-clause-twice
returns-in-Ok-put-clause-twice c = (λ e. absurd cc, λ s. absurd (not_there _ c.in_default.ensures.none.0 s))

pub returns-in-Ok-put-clause-too_many : goal.returns-in-Ok-put-clause-too_many
returns-in-Ok-put-clause-too_many c = (λ e. absurd cc, λ s. absurd (c.in_default.ensures.none.1 s.1))

pub returns-in-Ok-put-clause-names : goal.returns-in-Ok-put-clause-names
returns-in-Ok-put-clause-names c e = absurd cc

pub returns-in-Ok-put-clause-fits : goal.returns-in-Ok-put-clause-fits
returns-in-Ok-put-clause-fits c =
    subst (λ (p : Texts). length (with_texts p (texts_of c.args.name.now c.args.verified)).texts ≤ MAX_TABLE) (ap (λ (s : Shelf). s.pool) c.self.view_is)
    (subst (λ (m : Module). length (with_texts c.self.inside.pool (texts_of c.args.name.now m)).texts ≤ MAX_TABLE) c.module.ensures c.in-Ok.ensures.fits)

pub returns-in-Err-put-clause-twice : goal.returns-in-Err-put-clause-twice
returns-in-Err-put-clause-twice c = (λ e. absurd cc, λ s. absurd (not_there _ c.in_default.ensures.none.0 s))

pub returns-in-Err-put-clause-too_many : goal.returns-in-Err-put-clause-too_many
returns-in-Err-put-clause-too_many c = (λ e. absurd cc, λ s. absurd (c.in_default.ensures.none.1 s.1))

pub returns-in-Err-put-clause-names : goal.returns-in-Err-put-clause-names
returns-in-Err-put-clause-names c e = absurd cc

pub returns-in-Err-put-clause-back : goal.returns-in-Err-put-clause-back
returns-in-Err-put-clause-back c = c.in-Err-put.ensures.back

pub returns-in-Err-put-clause-err : goal.returns-in-Err-put-clause-err
returns-in-Err-put-clause-err c =
    let back =
    taken_back c.self.inside.pool c.brought_by.new.pool c.truncate-in-Err-put.new.self c.len-held.result
    (extends_by c.self.inside.pool c.brought_by.new.pool (texts_of c.args.name.now c.module.result.now) c.in-Ok.ensures.brought.pool_is) c.len-held.ensures c.truncate-in-Err-put.ensures in
    ap₂ (λ (ls : List Loaded) (p : Texts). shelf_of ls c.self.inside.refused p) c.in-Err-put.ensures.err back ∙ c.self.view_is

pub returns-in-Err-clause-err : goal.returns-in-Err-clause-err
returns-in-Err-clause-err c =
    let back = taken_back c.self.inside.pool c.brought_by.new.pool c.truncate.new.self c.len-held.result c.in-Err.ensures.err c.len-held.ensures c.truncate.ensures in
    ap (λ (p : Texts). shelf_of c.self.inside.modules.items c.self.inside.refused p) back ∙ c.self.view_is
