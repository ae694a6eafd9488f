use Rattle.std.proofs.Common.{◌≡◌, ℕ, List, length, sym, ap, ap₂, subst, ◌∙◌}
use Rattle.mpy_base.specs.declared.limits.TheConstants.{MAX_DEPTH}
use Rattle.image_grammar.specs.mpy_tree.declared.module.Constant.{Constant}
use Rattle.image_grammar.specs.mpy_tree.declared.raw.Qstr.{Qstr}
use Rattle.image_grammar.specs.mpy_tree.declared.raw.RawCode.{RawCode}
use Rattle.image_grammar.specs.mpy_tree.File.{IsCode, IsModule}
use Rattle.image_grammar.specs.mpy_tree.Raw.{Module}
use Rattle.image_grammar.specs.bc_library.Fine.{Each, Fine}
use Rattle.image_grammar.proofs.bc_library_lemmas.Files.{fine_objects}
use Rattle.image_open.proofs.modules.copy_module.Goals as goal

pub copy_objects-requires : goal.copy_objects-requires
copy_objects-requires c = subst (λ (z : List Constant). Each (Fine MAX_DEPTH) z) (sym c.objects.ensures) (fine_objects c.args.raw.now c.module_law.ensures)

pub copy_code-requires : goal.copy_code-requires
copy_code-requires c =
    let s = c.module_law.ensures.1 in
    (length c.args.raw.now.qstrs, s.code, subst (λ (z : RawCode). IsCode MAX_DEPTH (length c.args.raw.now.qstrs) s.code z) (sym c.code.ensures) s.is_code)

same : (m : Module) (bits : ℕ) (qstrs : List Qstr) (objects : List Constant) (code : RawCode) → bits ≡ m.bits → qstrs ≡ m.qstrs → objects ≡ m.objects → code ≡ m.code → record { bits = bits; qstrs = qstrs; objects = objects; code = code } ≡ m
same m bits qstrs objects code e f g h =
    ap₂ (λ (n : ℕ) (qs : List Qstr). record { bits = n; qstrs = qs; objects = objects; code = code }) e f
    ∙ ap₂ (λ (os : List Constant) (k : RawCode). record { bits = m.bits; qstrs = m.qstrs; objects = os; code = k }) g h

pub new-requires : goal.new-requires
new-requires c =
    subst IsModule (sym (same c.args.raw.now c.bits.result c.in_ok-qstrs.qstrs c.in_ok-objects.objects c.in_ok-code.code c.bits.ensures (c.in_ok-qstrs.ensures ∙ c.qstrs.ensures) (c.in_ok-objects.ensures ∙ c.objects.ensures) (c.in_ok-code.ensures ∙ c.code.ensures))) c.module_law.ensures

pub returns : goal.returns
returns c =
    c.new.ensures ∙ same c.args.raw.now c.bits.result c.in_ok-qstrs.qstrs c.in_ok-objects.objects c.in_ok-code.code c.bits.ensures (c.in_ok-qstrs.ensures ∙ c.qstrs.ensures) (c.in_ok-objects.ensures ∙ c.objects.ensures) (c.in_ok-code.ensures ∙ c.code.ensures)
