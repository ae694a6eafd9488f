use Rattle.std.proofs.Common.{◌≡◌, ◌≤◌, List, ◌++◌, length, Err, sym, ap, subst, lit≤}
use Rattle.std.specs.List.{flat_map}
use Rattle.std.proofs.lemmas.Result.{err_from_is_err_and}
use Rattle.mpy_base.specs.declared.limits.TheConstants.{MAX_DEPTH, MAX_TABLE}
use Rattle.mpy_tree.specs.declared.module.Constant.{Constant}
use Rattle.bc_verify.specs.qstr_pool.Pool.{Texts}
use Rattle.bc_library.specs.Constants.{preorder, values_from}
use Rattle.bc_library.specs.Fine.{Each, Fine}
use Rattle.bc_library.specs.Own.{IsOwnPool}
use Rattle.bc_library.specs.Parts.{parts_from}
use Rattle.bc_library.specs.Texts.{texts_of}
use Rattle.bc_library.proofs.Files.{fine_objects, fine_qstrs}
use Rattle.bc_library.proofs.Own.{own_texts}
use Rattle.bc_library.proofs.Pools.{extends_by, on_err}
use Rattle.bc_library.proofs.library.brought_by.Goals as goal

pub numbered-requires : goal.numbered-requires
numbered-requires c = c.requires.own.first

pub returns-in-Err-Fault-clause-names : goal.returns-in-Err-Fault-clause-names
returns-in-Err-Fault-clause-names c f e =
    (cc, c.in-Err-Fault.ensures.full (ap (λ z. Err z) c.in-Err-Fault.field-0-is))

pub returns-in-Err-NoMemory-clause-names : goal.returns-in-Err-NoMemory-clause-names
returns-in-Err-NoMemory-clause-names c f e = absurd cc

pub add_objects-requires-clause-fine : goal.add_objects-requires-clause-fine
add_objects-requires-clause-fine c = subst (Each (Fine MAX_DEPTH)) (sym c.objects.ensures) (fine_objects c.args.raw.now c.module_law.ensures)

pub add_objects-requires-clause-shallow : goal.add_objects-requires-clause-shallow
add_objects-requires-clause-shallow c = lit≤ tt

pub returns-in_err-values-clause-names : goal.returns-in_err-values-clause-names
returns-in_err-values-clause-names c f e =
    let p = err_from_is_err_and c.from_residual.result c.from_residual.ensures.1 in
    absurd (cc (p.1, p.2))

pub returns-in_err-name-clause-names : goal.returns-in_err-name-clause-names
returns-in_err-name-clause-names c f e =
    let p = err_from_is_err_and c.from_residual-in_err-name.result c.from_residual-in_err-name.ensures.1 in
    absurd (cc (p.1, p.2))

pub returns-clause-brought : goal.returns-clause-brought
returns-clause-brought c =
    let none = c.new-parts.ensures.items in
    let objects = c.objects.ensures in
    record {
      pool_is = c.in-Ok.ensures.pool;
      own = subst IsOwnPool (sym c.in-Ok.ensures.pool) (own_texts c.args.pool.now c.args.name.now c.args.raw.now c.static_law.ensures.one_to_one c.requires.own c.requires.plain (fine_qstrs c.args.raw.now c.module_law.ensures));
      name_is = c.in_ok-name.ensures;
      title = c.in-Ok.ensures.title;
      numbers = c.in-Ok.ensures.numbers;
      values = subst (λ (os : List Constant). c.in_ok-values.values ≡ values_from c.args.number 0 os) objects
          (subst (λ bs. c.in_ok-values.values ≡ values_from c.args.number (length bs) c.objects.result.now) none c.in_ok-values.ensures.values);
      parts = subst (λ (os : List Constant). c.add_objects.new.parts.items ≡ parts_from c.args.number 0 (flat_map preorder os)) objects
          (subst (λ bs. c.add_objects.new.parts.items ≡ bs ++ parts_from c.args.number (length bs) (flat_map preorder c.objects.result.now)) none c.in_ok-values.ensures.parts);
      fine = fine_objects c.args.raw.now c.module_law.ensures;
      is_module = c.module_law.ensures;
    }

pub returns-clause-fits : goal.returns-clause-fits
returns-clause-fits c = subst (λ (p : Texts). length p.texts ≤ MAX_TABLE) c.in-Ok.ensures.pool c.in-Ok.ensures.fits

pub returns-clause-names : goal.returns-clause-names
returns-clause-names c f e = absurd cc

pub returns-in-Err-Fault-clause-err : goal.returns-in-Err-Fault-clause-err
returns-in-Err-Fault-clause-err c = c.in-Err-Fault.ensures.err

pub returns-in-Err-NoMemory-clause-err : goal.returns-in-Err-NoMemory-clause-err
returns-in-Err-NoMemory-clause-err c = c.in-Err-NoMemory.ensures.err

pub returns-in_err-values-clause-err : goal.returns-in_err-values-clause-err
returns-in_err-values-clause-err c = on_err c.from_residual.result _ (extends_by c.args.pool.now c.numbered.new.pool (texts_of c.args.name.now c.args.raw.now) c.in-Ok.ensures.pool)

pub returns-in_err-name-clause-err : goal.returns-in_err-name-clause-err
returns-in_err-name-clause-err c = on_err c.from_residual-in_err-name.result _ (extends_by c.args.pool.now c.numbered.new.pool (texts_of c.args.name.now c.args.raw.now) c.in-Ok.ensures.pool)
