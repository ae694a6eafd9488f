use Rattle.std.proofs.Common.{◌≡◌, ◌++◌, ◌∷◌, [], false, ℕ, List, Option, Result, Ok, Err, string_bytes, sym, subst, ◌∙◌}
use Rattle.std.specs.Prelude.{is_ok, is_err, if◌then◌else◌}
use Rattle.std.specs.declared.alloc.Global.{Global}
use Rattle.mpy_io.specs.Files.{FileOf}
use Rattle.command_files.specs.mpy_writer.mpy_tree.Raw.{Module}
use Rattle.command_files.proofs.mpy_writer_lemmas.Lists.{zip_seen}
use Rattle.command_files.specs.Opened.{HoldsModule, Refuses}
use Rattle.file_commands.proofs.Merged.{first_refused}
use Rattle.file_commands.proofs.merging.all_opened.Goals as goal

-- a push that didn't fail put the module at the end
grown : {T E : Type 0} (r : Result T E) (items pushed kept : List Module) → is_err r ≡ false → items ≡ (if is_ok r then pushed else kept) → items ≡ pushed
grown (Ok x) items pushed kept e h = h
grown (Err y) items pushed kept e h = absurd cc

pub loop-at-preserved : goal.loop-at-preserved
loop-at-preserved g c =
    let start = g.F.Folder.files c.args.folder.now in
    let named = c.as_str.ensures.value in
    let held = subst (λ (n : List ℕ). HoldsModule start n c.in-Ok.module) named (subst (λ (f : Option FileOf). HoldsModule f c.as_str.result.now c.in-Ok.module) c.loop-at.invariant.1 c.in-Ok.ensures.opened) in (
      zip_seen (HoldsModule start) (string_bytes {Z = Global}) c.args.names.now c.loop-at.modules.items c.push.new.self.items c.loop-at.at c.index-names-at.result c.in-Ok.module c.loop-at-test.true c.index-names-at.is c.loop-at.invariant.0 held (grown c.push.result c.push.new.self.items (c.loop-at.modules.items ++ c.in-Ok.module ∷ []) c.loop-at.modules.items (sym c.is_err.ensures.value ∙ c.if-is_err.false) c.push.ensures.items),
      c.in-Ok.ensures.files ∙ c.loop-at.invariant.1,
      c.in-Ok.ensures.counts ∙ c.loop-at.invariant.2,
    )

pub returns-in-Err-clause-refused : goal.returns-in-Err-clause-refused
returns-in-Err-clause-refused g c =
    let start = g.F.Folder.files c.args.folder.now in
    let told = subst (λ (f : Option FileOf). Refuses f c.as_str.result.now c.in-Err.ending) c.loop-at.invariant.1 c.in-Err.ensures.refused in
    first_refused start c.args.names.now c.loop-at.at c.index-names-at.result c.loop-at.modules.items c.in-Err.ending c.loop-at-test.true c.index-names-at.is c.loop-at.invariant.0 (subst (λ (n : List ℕ). Refuses start n c.in-Err.ending) c.as_str.ensures.value told)
