use Rattle.std.proofs.Common.{◌∙◌, ℤ, pos, ◌+ℤ◌, ◌-◌, refl, sym, ap, subst, rules, SFits, w32}
use Rattle.std.proofs.lemmas.Int.{to_z-of_z}
use Rattle.frame_moves.specs.bc_ops.declared.instr.Instr.{Instr}
use Rattle.frame_moves.specs.bc_ops.Code.{IsEncodable}
use Rattle.frame_moves.specs.bc_ops.Listing.{target}
use Rattle.frame_moves.specs.bc_ops.Table.{code_of, form_of}
use Rattle.frame_moves.specs.bc_labels.Positions.{Reads}
use Rattle.vm_fetching.specs.Instructions as fetched
use Rattle.vm_fetching.specs.Shows.{Shows}
use Rattle.vm_fetching.proofs.Showing as showing
use Rattle.vm_fetching.proofs.fetching.shown.Goals as goal

pub plain-requires : goal.plain-requires
plain-requires c = subst IsEncodable c.in-Plain.is c.requires.reads.3.encodable

pub named-requires : goal.named-requires
named-requires c = (subst IsEncodable c.in-Name.is c.requires.reads.3.encodable).0

pub text_of-text-requires : goal.text_of-text-requires
text_of-text-requires c =
    let v = c.requires.row in
    let q = c.requires.reads in
    showing.name_entry c.args.library.now c.args.module_number c.args.row.now v v.m v.there q.0 q.1 c.args.at c.args.end c.in-Name.op c.in-Name.n (subst (λ z. Reads q.0 c.args.at z c.args.end) c.in-Name.is q.3)

pub numbered-requires-clause-form : goal.numbered-requires-clause-form
numbered-requires-clause-form c = subst IsEncodable c.in-Num.is c.requires.reads.3.encodable

pub numbered-requires-clause-there : goal.numbered-requires-clause-there
numbered-requires-clause-there c e =
    let v = c.requires.row in
    let q = c.requires.reads in
    showing.object_entry c.args.library.now c.args.module_number c.args.row.now v v.m v.there q.0 q.1 c.args.at c.args.end c.in-Num.op c.in-Num.n (subst (λ z. Reads q.0 c.args.at z c.args.end) c.in-Num.is q.3) e

pub jumping-requires : goal.jumping-requires
jumping-requires c = showing.jump_form c.in-Jump.op c.in-Jump.wide c.in-Jump.offset (form_of (code_of c.in-Jump.op)) refl (subst IsEncodable c.in-Jump.is c.requires.reads.3.encodable)

pub jump_target-target-requires : goal.jump_target-target-requires
jump_target-target-requires c =
    let v = c.requires.row in
    let q = c.requires.reads in
    let fits : SFits w32 c.in-Jump.offset = search rules in
    let same = to_z-of_z w32 c.in-Jump.offset fits in
    let p = showing.jump_place c.args.library.now c.args.module_number c.args.row.now v v.m v.there q.0 q.1 c.args.at c.args.end c.in-Jump.op c.in-Jump.offset c.in-Jump.wide (subst (λ z. Reads q.0 c.args.at z c.args.end) c.in-Jump.is q.3) in
    (c.args.row.now.instructions.now, q.0, p.0, v.is_row.is_row.short, q.1, ap (λ (z : ℤ). target q.0.offsets 0 (pos c.args.end +ℤ z)) same ∙ p.1)

pub jump_target-target-requires-in-Unwind : goal.jump_target-target-requires-in-Unwind
jump_target-target-requires-in-Unwind c =
    let v = c.requires.row in
    let q = c.requires.reads in
    let fits : SFits w32 c.in-Unwind.offset = search rules in
    let same = to_z-of_z w32 c.in-Unwind.offset fits in
    let p = showing.unwind_place c.args.library.now c.args.module_number c.args.row.now v v.m v.there q.0 q.1 c.args.at c.args.end c.in-Unwind.offset c.in-Unwind.wide c.in-Unwind.byte (subst (λ z. Reads q.0 c.args.at z c.args.end) c.in-Unwind.is q.3) in
    (c.args.row.now.instructions.now, q.0, p.0, v.is_row.is_row.short, q.1, ap (λ (z : ℤ). target q.0.offsets 0 (pos (c.args.end - 1) +ℤ z)) same ∙ p.1)

pub returns-in-Plain : goal.returns-in-Plain
returns-in-Plain c tables m l of there listed st r =
    let shelf = c.args.library.now in
    subst (λ (z : Instr). Shows shelf m tables c.args.row.now l c.args.end z (fetched.acts c.plain.result)) (sym c.in-Plain.is)
    (showing.shows_plain shelf c.args.module_number c.args.row.now c.requires.row m there l listed c.args.at c.args.end tables of c.in-Plain.op c.plain.result c.plain.ensures)

pub returns-in-Name : goal.returns-in-Name
returns-in-Name c tables m l of there listed st r =
    let shelf = c.args.library.now in
    subst (λ (z : Instr). Shows shelf m tables c.args.row.now l c.args.end z (fetched.acts c.named.result)) (sym c.in-Name.is)
    (showing.shows_name shelf c.args.module_number c.args.row.now c.requires.row m there l listed c.args.at c.args.end tables of c.in-Name.op c.in-Name.n c.text_of-text.result c.named.result c.named.ensures c.text_of-text.ensures
    (subst (λ z. Reads l c.args.at z c.args.end) c.in-Name.is r))

pub returns-in-Num : goal.returns-in-Num
returns-in-Num c tables m l of there listed st r =
    let shelf = c.args.library.now in
    subst (λ (z : Instr). Shows shelf m tables c.args.row.now l c.args.end z c.numbered.result) (sym c.in-Num.is)
    (showing.shows_number shelf c.args.module_number c.args.row.now c.requires.row m there l listed c.args.at c.args.end tables of c.in-Num.op c.in-Num.n c.numbered.result c.numbered.ensures
    (subst (λ z. Reads l c.args.at z c.args.end) c.in-Num.is r))

pub returns-in-Int : goal.returns-in-Int
returns-in-Int c tables m l of there listed st r =
    let shelf = c.args.library.now in
    let fits : SFits w32 c.in-Int.n = search rules in
    subst (λ (n : ℤ). Shows shelf m tables c.args.row.now l c.args.end c.args.instr (fetched.int n)) (sym (to_z-of_z w32 c.in-Int.n fits))
    (subst (λ (z : Instr). Shows shelf m tables c.args.row.now l c.args.end z (fetched.int c.in-Int.n)) (sym c.in-Int.is)
    (showing.shows_int shelf c.args.module_number c.args.row.now c.requires.row m there l listed c.args.at c.args.end tables of c.in-Int.n
    (subst (λ z. Reads l c.args.at z c.args.end) c.in-Int.is r).encodable))

pub returns-in-Jump : goal.returns-in-Jump
returns-in-Jump c tables m l of there listed st r =
    let shelf = c.args.library.now in
    let reads = subst (λ z. Reads l c.args.at z c.args.end) c.in-Jump.is r in
    let fits : SFits w32 c.in-Jump.offset = search rules in
    let same = to_z-of_z w32 c.in-Jump.offset fits in
    let p = showing.jump_place shelf c.args.module_number c.args.row.now c.requires.row m there l listed c.args.at c.args.end c.in-Jump.op c.in-Jump.offset c.in-Jump.wide reads in
    subst (λ (z : Instr). Shows shelf m tables c.args.row.now l c.args.end z (fetched.stays c.jumping.result)) (sym c.in-Jump.is)
    (showing.shows_jump shelf c.args.module_number c.args.row.now c.requires.row m there l listed c.args.at c.args.end tables of c.in-Jump.op c.jumping.result c.in-Jump.offset c.in-Jump.wide c.jump_target-target.result p.0 c.jumping.ensures p.1
    (c.jump_target-target.ensures c.args.row.now.instructions.now l p.0 listed (ap (λ (z : ℤ). target l.offsets 0 (pos c.args.end +ℤ z)) same ∙ p.1)))

pub returns-in-Unwind : goal.returns-in-Unwind
returns-in-Unwind c tables m l of there listed st r =
    let shelf = c.args.library.now in
    let reads = subst (λ z. Reads l c.args.at z c.args.end) c.in-Unwind.is r in
    let fits : SFits w32 c.in-Unwind.offset = search rules in
    let same = to_z-of_z w32 c.in-Unwind.offset fits in
    let p = showing.unwind_place shelf c.args.module_number c.args.row.now c.requires.row m there l listed c.args.at c.args.end c.in-Unwind.offset c.in-Unwind.wide c.in-Unwind.byte reads in
    subst (λ (z : Instr). Shows shelf m tables c.args.row.now l c.args.end z (fetched.unwind c.jump_target-target-in-Unwind.result c.in-Unwind.byte)) (sym c.in-Unwind.is)
    (showing.shows_unwind shelf c.args.module_number c.args.row.now c.requires.row m there l listed c.args.at c.args.end tables of c.in-Unwind.offset c.in-Unwind.wide c.in-Unwind.byte c.jump_target-target-in-Unwind.result p.0 p.1
    (c.jump_target-target-in-Unwind.ensures c.args.row.now.instructions.now l p.0 listed (ap (λ (z : ℤ). target l.offsets 0 (pos (c.args.end - 1) +ℤ z)) same ∙ p.1)))

pub returns-in-Unary : goal.returns-in-Unary
returns-in-Unary c tables m l of there listed st r =
    let shelf = c.args.library.now in
    subst (λ (z : Instr). Shows shelf m tables c.args.row.now l c.args.end z (fetched.unary c.in-Unary.n)) (sym c.in-Unary.is)
    (showing.shows_unary shelf c.args.module_number c.args.row.now c.requires.row m there l listed c.args.at c.args.end tables of c.in-Unary.n)

pub returns-in-Binary : goal.returns-in-Binary
returns-in-Binary c tables m l of there listed st r =
    let shelf = c.args.library.now in
    subst (λ (z : Instr). Shows shelf m tables c.args.row.now l c.args.end z (fetched.binary c.in-Binary.n)) (sym c.in-Binary.is)
    (showing.shows_binary shelf c.args.module_number c.args.row.now c.requires.row m there l listed c.args.at c.args.end tables of c.in-Binary.n)
