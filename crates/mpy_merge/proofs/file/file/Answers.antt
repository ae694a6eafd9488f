use Rattle.std.proofs.Common.{◌≡◌, ◌++◌, ℕ, List, ap, ◌∙◌, arith}
use Rattle.std.proofs.lemmas.Result.{err_from_is_err_and}
use Rattle.mpy_merge.specs.declared.fault.MergeFault.TheVariants.{TooFar}
use Rattle.mpy_merge.specs.Faults.{IsFirstFarIn}
use Rattle.mpy_merge.proofs.Filed.{exit_ends, far_first, deep_first, objects_first, file_first, a_file}
use Rattle.mpy_merge.proofs.file.file.Goals as goal

pub returns-in_err-codes : goal.returns-in_err-codes
returns-in_err-codes c =
    let p = err_from_is_err_and c.from_residual-in_err-codes.result c.from_residual-in_err-codes.ensures.1 in
    let modules = c.args.modules.now in
    let tables = c.in_ok-tables.tables in
    let made = c.in_ok-tables.ensures in
    exit_ends modules (λ v. v.items) (λ f. (place : ℕ) × (f ≡ TooFar place) × IsFirstFarIn tables modules place) _ _ _ p.1 p.2 c.in_err-codes.ensures.fault (far_first modules tables c.requires.some c.requires.few made.are made.fit made.few)

pub returns-then-not-all_nest : goal.returns-then-not-all_nest
returns-then-not-all_nest c =
    let made = c.in_ok-tables.ensures in
    deep_first c.args.modules.now c.in_ok-tables.tables c.requires.some c.requires.few made.are made.fit made.few c.in_ok-codes.codes.items c.in_ok-codes.ensures.ok (c.all_nest.ensures.deep c.if-not-all_nest.true)

pub returns-then-not-all_short : goal.returns-then-not-all_short
returns-then-not-all_short c =
    let made = c.in_ok-tables.ensures in
    let nest = c.all_nest.ensures.nest c.if-not-all_nest.false in
    objects_first c.args.modules.now c.in_ok-tables.tables c.requires.some c.requires.few made.are made.fit made.few c.in_ok-codes.codes.items c.in_ok-codes.ensures.ok nest (c.all_short.ensures.long c.if-not-all_short.true)

pub returns-then-len-gt-MAX_FILE_BYTES : goal.returns-then-len-gt-MAX_FILE_BYTES
returns-then-len-gt-MAX_FILE_BYTES c =
    let made = c.in_ok-tables.ensures in
    let nest = c.all_nest.ensures.nest c.if-not-all_nest.false in
    let out = c.in_ok-extend_from_slice.ensures.items ∙ ap (λ (z : List ℕ). c.in_ok-out.out.items ++ z) c.deref.ensures.value in
    let len = c.len.ensures in
    let past = c.if-len-gt-MAX_FILE_BYTES.true in
    let size = c.extend_from_slice.new.self.ok.0 in
    file_first c.args.modules.now c.in_ok-tables.tables c.requires.some c.requires.few made.are made.fit made.few c.in_ok-codes.codes.items c.in_ok-codes.ensures.ok nest c.in_ok-out.out.items c.extend_from_slice.new.self.items c.in_ok-out.ensures out
    (omega (arith, len, past, size))

pub returns : goal.returns
returns c =
    let made = c.in_ok-tables.ensures in
    let nest = c.all_nest.ensures.nest c.if-not-all_nest.false in
    let fine = c.all_short.ensures.fine c.if-not-all_short.false in
    let out = c.in_ok-extend_from_slice.ensures.items ∙ ap (λ (z : List ℕ). c.in_ok-out.out.items ++ z) c.deref.ensures.value in
    let len = c.len.ensures in
    let few = c.if-len-gt-MAX_FILE_BYTES.false in
    let size = c.extend_from_slice.new.self.ok.0 in
    a_file c.args.modules.now c.in_ok-tables.tables c.requires.some c.requires.few made.are made.fit made.few c.in_ok-codes.codes.items c.in_ok-codes.ensures.ok nest c.in_ok-out.out.items c.extend_from_slice.new.self.items c.in_ok-out.ensures out fine
    (omega (arith, len, few, size))
