use Rattle.std.proofs.Common.{◌≡◌, [], ◌∷◌, Err, Vec, inr}
use Rattle.std.specs.declared.alloc.Global.{Global}
use Rattle.mpy_base.specs.declared.refused.Refused.TheVariants as refused
use Rattle.manifest_lines.specs.declared.manifest.Line.{Line}
use Rattle.manifest_files.specs.Entries.{AreLines, bad_line}
use Rattle.manifest_files.proofs.Tells.{if_ok_both}
use Rattle.manifest_files.proofs.reading.lines_of.Goals as goal

pub returns-in-Err-Fault : goal.returns-in-Err-Fault
returns-in-Err-Fault c =
    let is : c.tokens.result ≡ Err (refused.Fault c.in-Err-Fault.fault) = cc in
    if_ok_both (λ (lines : Vec Line Global). lines.items ≡ bad_line c.in-Err-Fault.fault.line ∷ []) (λ (lines : Vec Line Global). AreLines c.args.bytes.now lines.items) c.bad_line.result c.bad_line.ensures
    (λ lines e. inr (c.in-Err-Fault.fault, c.tokens.ensures.fault c.in-Err-Fault.fault is, e))
