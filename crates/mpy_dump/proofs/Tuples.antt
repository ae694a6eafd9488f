-- What is written for a tuple, by its items.
use Rattle.std.proofs.Common.{◌≡◌, ℕ, List, ◌++◌, codes, length, map, sym, ap, ◌∙◌}
use Rattle.std.proofs.lemmas.List.{length-map}
use Rattle.mpy_tree.specs.declared.module.Constant.{Constant}
use Rattle.mpy_tree.specs.declared.module.Constant.TheOpen.{Constant-F}
use Rattle.mpy_tree.specs.declared.module.Constant.TheVariants as constants
use Rattle.mpy_tree.specs.declared.module.Constant.TheFolds.{fold-roll-Constant}
use Rattle.mpy_dump.specs.Numbered.{numbered}
use Rattle.mpy_dump.specs.Objects.{object_step, object_text, item_text, closing}
use Rattle.mpy_dump.proofs.Putting.{numbered-map}

abbrev pub item_at : ℕ → Constant → List ℕ
item_at place item = item_text place (object_text item)

abbrev pub tuple_text : List Constant → List ℕ
tuple_text items = codes "(" ++ (numbered item_at 0 items ++ closing (length items))

pub object_Tuple : (items : List Constant) → object_text (constants.Tuple items) ≡ tuple_text items
object_Tuple items =
    ap object_text (sym (constants.rolls-Tuple items)) ∙ (fold-roll-Constant (List ℕ) object_step (Constant-F.Tuple items)
    ∙ (ap (λ (z : List ℕ). codes "(" ++ (z ++ closing (length (map object_text items)))) (numbered-map item_text object_text 0 items)
    ∙ ap (λ (n : ℕ). codes "(" ++ (numbered item_at 0 items ++ closing n)) (length-map items object_text)))
