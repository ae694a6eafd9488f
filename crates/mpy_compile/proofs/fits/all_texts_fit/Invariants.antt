use Rattle.std.proofs.Common.{◌≡◌, true, take}
use Rattle.std.specs.List.{list_all}
use Rattle.mpy_compile.specs.Texts.{text_fits}
use Rattle.mpy_compile.proofs.fits.all_texts_fit.Given as goal

abbrev pub invariant-loop-text : goal.invariant-loop-text
invariant-loop-text l = list_all text_fits (take l.text-index l.texts) ≡ true
