-- What is known of texts that pass no limit.
use Rattle.std.proofs.Common.{◌≡◌, ◌≤◌, false, List, ◌∷◌, None, sym, ◌∙◌, arith}
use Rattle.emit_module.specs.py_meaning.Program.{Text}
use Rattle.emit_module.specs.emit_measures.declared.faults.Measures.{Measures}
use Rattle.emit_module.specs.emit_measures.Faults.{fault_of, IsMeasured}
use Rattle.emit_module.specs.emit_measures.Faults as limits
use Rattle.emit_module.specs.emit_stmt.Crowded.{crowded_block}
use Rattle.emit_module.specs.First.{Site, IsWithin, AllWithin, no_text, one_within}
use Rattle.emit_module.specs.tr_source.Within as translated
use Rattle.emit_module.proofs.Shallow.{few_around, roomy_text}
use Rattle.mpy_compile.proofs.Crowded.{block_few}
use Rattle.mpy_compile.proofs.Nested.{Shallow}

abbrev LimitsLaw : Type 0
LimitsLaw = (text : Text) (m : Measures) → IsMeasured text m → fault_of m ≡ None → limits.IsWithin text

shallow : (site : Site) (text : Text) → IsWithin site text → site.depth ≤ 31
shallow site text h =
    let few = few_around h.counts h.none in
    let same = h.are_counts.depth in
    omega (arith, few, same)

within : LimitsLaw → (site : Site) (text : Text) → IsWithin site text → translated.IsWithin text
within law site text h =
    let l = law text h.counts h.are_counts.numbers h.none in
    let crowds : crowded_block text.level 0 text.body ≡ false = sym h.are_counts.crowded ∙ roomy_text h.counts h.none in
    let few = block_few text.level 0 text.body crowds in
    record { slots = l.state; entries = l.held; params = l.params; arguments = few.0; pairs = few.1 }

pub all_shallow : {sites : List Site} {texts : List Text} → AllWithin sites texts → Shallow sites
all_shallow no_text = tt
all_shallow (one_within {site = site} {text = text} h more) = (shallow site text h, all_shallow more)

pub all_within : LimitsLaw → {sites : List Site} {texts : List Text} → AllWithin sites texts → translated.AllWithin texts
all_within law no_text = tt
all_within law (one_within {site = site} {text = text} h more) = (within law site text h, all_within law more)

-- behind the first
pub shallow_behind : {site : Site} {sites : List Site} {texts : List Text} → AllWithin (site ∷ sites) texts → Shallow sites
shallow_behind h = (all_shallow h).1
