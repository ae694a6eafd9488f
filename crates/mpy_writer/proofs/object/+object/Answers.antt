use Rattle.std.proofs.Common.{◌++◌, ◌-◌, List, [], ℕ, ℤ, All, length, ap, sym, subst, ◌∙◌, arith}
use Rattle.std.specs.List.{flat_map}
use Rattle.mpy_base.specs.Vuint.{vuint}
use Rattle.mpy_tree.specs.declared.module.Constant.{Constant, out-Constant}
use Rattle.mpy_tree.specs.declared.module.Constant.TheOpen.{Constant-F}
use Rattle.mpy_tree.specs.Canonical.{object_by, object_bytes}
use Rattle.mpy_writer.specs.Writable.{IsFine}
use Rattle.mpy_writer.proofs.Lists.{added}
use Rattle.mpy_writer.proofs.Objects.{none_is, false_is, true_is, str_is, int_is, atom_bytes, tuple_written, fine_text, fine_int, fine_tuple, kept}
use Rattle.mpy_writer.proofs.object.+object.Goals as goal

pub write_object-write_str-requires : goal.write_object-write_str-requires
write_object-write_str-requires t c = fine_text c.args.levels c.args.object.now c.in-Str.text c.requires c.in-Str.is

pub write_object-overflow_cast-len : goal.write_object-overflow_cast-len
write_object-overflow_cast-len t c =
    let short = (fine_tuple c.args.levels c.args.object.now c.in-Tuple.items c.requires c.in-Tuple.is).short in
    omega (arith, c.len.ensures, short)

pub write_object-write_vuint-requires : goal.write_object-write_vuint-requires
write_object-write_vuint-requires t c =
    let short = (fine_tuple c.args.levels c.args.object.now c.in-Tuple.items c.requires c.in-Tuple.is).short in
    omega (arith, c.len.ensures, short)

pub write_object-overflow_sub-levels : goal.write_object-overflow_sub-levels
write_object-overflow_sub-levels t c = (fine_tuple c.args.levels c.args.object.now c.in-Tuple.items c.requires c.in-Tuple.is).some_level

pub write_object-write_objects-requires : goal.write_object-write_objects-requires
write_object-write_objects-requires t c =
    let f = fine_tuple c.args.levels c.args.object.now c.in-Tuple.items c.requires c.in-Tuple.is in
    let some = f.some_level in
    (omega (arith, some, c.decreases), subst (All (IsFine (c.args.levels - 1))) (sym c.as_slice.ensures) f.fine)

pub write_object-returns-in_ok-push-in-None : goal.write_object-returns-in_ok-push-in-None
write_object-returns-in_ok-push-in-None t c =
    c.in_ok-push-in-None.ensures.items ∙ ap (λ (z : List ℕ). c.args.out.now.items ++ z) (sym (atom_bytes c.args.levels c.args.object.now Constant-F.None (ap out-Constant c.in-None.is ∙ none_is) tt))

pub write_object-returns-in_ok-push-in-False : goal.write_object-returns-in_ok-push-in-False
write_object-returns-in_ok-push-in-False t c =
    c.in_ok-push-in-False.ensures.items ∙ ap (λ (z : List ℕ). c.args.out.now.items ++ z) (sym (atom_bytes c.args.levels c.args.object.now Constant-F.False (ap out-Constant c.in-False.is ∙ false_is) tt))

pub write_object-returns-in_ok-push-in-True : goal.write_object-returns-in_ok-push-in-True
write_object-returns-in_ok-push-in-True t c =
    c.in_ok-push-in-True.ensures.items ∙ ap (λ (z : List ℕ). c.args.out.now.items ++ z) (sym (atom_bytes c.args.levels c.args.object.now Constant-F.True (ap out-Constant c.in-True.is ∙ true_is) tt))

pub write_object-returns-in_ok-write_str-in-Str : goal.write_object-returns-in_ok-write_str-in-Str
write_object-returns-in_ok-write_str-in-Str t c =
    let fine = fine_text c.args.levels c.args.object.now c.in-Str.text c.requires c.in-Str.is in
    c.in_ok-write_str-in-Str.ensures ∙ ap (λ (z : List ℕ). c.args.out.now.items ++ z) (sym (atom_bytes c.args.levels c.args.object.now (Constant-F.Str c.in-Str.text) (ap out-Constant c.in-Str.is ∙ str_is c.in-Str.text) fine))

pub write_object-returns-in_ok-write_int-in-Int : goal.write_object-returns-in_ok-write_int-in-Int
write_object-returns-in_ok-write_int-in-Int t c =
    let small = fine_int c.args.levels c.args.object.now c.in-Int.n c.requires c.in-Int.is in
    c.in_ok-write_int-in-Int.ensures
    ∙ (ap (λ (n : ℤ). c.args.out.now.items ++ object_by (λ _. []) (Constant-F.Int n)) (kept c.in-Int.n small)
    ∙ ap (λ (z : List ℕ). c.args.out.now.items ++ z) (sym (atom_bytes c.args.levels c.args.object.now (Constant-F.Int c.in-Int.n) (ap out-Constant c.in-Int.is ∙ int_is c.in-Int.n) small)))

pub write_object-returns-in_ok-write_objects-in-Tuple : goal.write_object-returns-in_ok-write_objects-in-Tuple
write_object-returns-in_ok-write_objects-in-Tuple t c =
    let items = c.in-Tuple.items in
    let more = flat_map (object_bytes (c.args.levels - 1)) items in
    added c.args.out.now.items c.push-in-Tuple.new.self.items c.write_vuint.new.out.items c.write_objects.new.out.items (vuint (length items)) more 10 c.in_ok-push-in-Tuple.ensures.items
    (c.in_ok-write_vuint-in-Tuple.ensures.ok ∙ ap (λ (n : ℕ). c.push-in-Tuple.new.self.items ++ vuint n) c.len.ensures)
    (c.in_ok-write_objects-in-Tuple.ensures ∙ ap (λ (xs : List Constant). c.write_vuint.new.out.items ++ flat_map (object_bytes (c.args.levels - 1)) xs) c.as_slice.ensures)
    ∙ ap (λ (z : List ℕ). c.args.out.now.items ++ z) (sym (tuple_written c.args.levels c.args.object.now items c.requires c.in-Tuple.is))
