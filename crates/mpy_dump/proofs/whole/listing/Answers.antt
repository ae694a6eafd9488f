use Rattle.std.proofs.Common.{◌++◌, [], refl, sym, ap, subst}
use Rattle.mpy_base.specs.declared.limits.TheConstants.{MAX_DEPTH}
use Rattle.mpy_dump.specs.Numbered.{numbered}
use Rattle.mpy_dump.specs.Codes.{AreCodesText}
use Rattle.mpy_dump.specs.Listing.{qstr_line, object_line}
use Rattle.mpy_dump.proofs.Paths.{places_Outermost}
use Rattle.mpy_dump.proofs.Trees.{Fits, module_fits, module_exists}
use Rattle.mpy_dump.proofs.Putting.{begin, step, stop, last, puts_is}
use Rattle.mpy_dump.proofs.whole.listing.Goals as goal

pub returns-in_err-put_head : goal.returns-in_err-put_head
returns-in_err-put_head g c =
    let m = c.args.module.now in
    let codes = module_exists m c.module_law.ensures in (
      _,
      record { codes_text = codes.0; are_codes = codes.1; text_is = refl },
      stop (numbered qstr_line 0 m.qstrs ++ (numbered object_line 0 m.objects ++ codes.0)) c.from_residual.result c.from_residual.ensures.0 (begin _ _ _ _) c.in_err-put_head.ensures,
    )

pub returns-in_err-put_qstrs : goal.returns-in_err-put_qstrs
returns-in_err-put_qstrs g c =
    let m = c.args.module.now in
    let codes = module_exists m c.module_law.ensures in
    let behind = numbered object_line 0 m.objects ++ codes.0 in (
      _,
      record { codes_text = codes.0; are_codes = codes.1; text_is = refl },
      stop behind c.from_residual-in_err-put_qstrs.result c.from_residual-in_err-put_qstrs.ensures.0
          (step (numbered qstr_line 0 m.qstrs ++ behind) (begin _ _ _ _) c.in_ok-put_head.ensures)
          (puts_is (ap (numbered qstr_line 0) c.qstrs.ensures) c.in_err-put_qstrs.ensures),
    )

pub returns-in_err-put_objects : goal.returns-in_err-put_objects
returns-in_err-put_objects g c =
    let m = c.args.module.now in
    let codes = module_exists m c.module_law.ensures in
    let behind = numbered object_line 0 m.objects ++ codes.0 in (
      _,
      record { codes_text = codes.0; are_codes = codes.1; text_is = refl },
      stop codes.0 c.from_residual-in_err-put_objects.result c.from_residual-in_err-put_objects.ensures.0
          (step behind (step (numbered qstr_line 0 m.qstrs ++ behind) (begin _ _ _ _) c.in_ok-put_head.ensures)
          (puts_is (ap (numbered qstr_line 0) c.qstrs.ensures) c.in_ok-put_qstrs.ensures))
          (puts_is (ap (numbered object_line 0) c.objects.ensures) c.in_err-put_objects.ensures),
    )

pub put_codes-requires : goal.put_codes-requires
put_codes-requires g c = subst (Fits MAX_DEPTH) (sym c.code.ensures) (module_fits c.args.module.now c.module_law.ensures)

pub returns : goal.returns
returns g c =
    let m = c.args.module.now in
    let q = c.put_codes.ensures in
    let behind = numbered object_line 0 m.objects ++ q.0 in
    let outermost = subst (λ path. AreCodesText m MAX_DEPTH path c.code.result.now q.0) places_Outermost q.1 in
    let are = subst (λ code. AreCodesText m MAX_DEPTH [] code q.0) c.code.ensures outermost in (
      _,
      record { codes_text = q.0; are_codes = are 0; text_is = refl },
      last c.put_codes.result (step q.0
          (step behind (step (numbered qstr_line 0 m.qstrs ++ behind) (begin _ _ _ _) c.in_ok-put_head.ensures)
          (puts_is (ap (numbered qstr_line 0) c.qstrs.ensures) c.in_ok-put_qstrs.ensures))
          (puts_is (ap (numbered object_line 0) c.objects.ensures) c.in_ok-put_objects.ensures)) q.2,
    )
