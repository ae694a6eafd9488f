use Rattle.std.proofs.Common.{◌≡◌, drop}
use Rattle.manifest_lines.specs.Forms.{named_for}
use Rattle.manifest_lines.proofs.form.named_for.Given as goal

abbrev pub invariant-loop-argument : goal.invariant-loop-argument
invariant-loop-argument l = named_for l.form l.parameter l.arguments ≡ named_for l.form l.parameter (drop l.argument-index l.arguments)
