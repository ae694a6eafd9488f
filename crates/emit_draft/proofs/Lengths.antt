-- The wide length of a draft, line by line.
use Rattle.std.proofs.Common.{◌≡◌, ◌≤◌, ◌<◌, ℕ, suc, ◌+◌, List, ◌∷◌, length, map, drop, get_or, sym, ap, ◌∙◌, arith, add-one}
use Rattle.std.specs.Prelude.{min}
use Rattle.std.proofs.Math.Seq.{drop-cons}
use Rattle.std.proofs.lemmas.List.{drop_all}
use Rattle.emit_draft.specs.declared.draft.DraftLine.{DraftLine}
use Rattle.emit_draft.specs.Draft.{Labels}
use Rattle.emit_draft.specs.Emits.{item_at, line_at}
use Rattle.emit_draft.specs.Wide.{wide_item, wide_length}

abbrev pub top : ℕ
top = 18446744073709551615

abbrev pub wide_at : Labels → List DraftLine → ℕ
wide_at labels lines = wide_length (map (line_at labels) lines)

pub record Measured (all rest : List DraftLine) (size : ℕ) : Type 0 where
  pub few : size ≤ top
  pub at : (labels : Labels) → min (wide_at labels all) top ≡ min (size + wide_at labels rest) top

pub none_measured : (all : List DraftLine) → Measured all all 0
none_measured all = record { few = omega arith; at = λ labels. let n = wide_at labels all in omega arith }

step : (all size a b next : ℕ) → min all top ≡ min (size + (a + b)) top → next ≡ min (size + a) top → min all top ≡ min (next + b) top
step all size a b next e f = omega arith

pub one_measured : (lines all : List DraftLine) (i : ℕ) (line : DraftLine) (size own next : ℕ) → Measured all (drop i lines) size → i < length lines → line ≡ get_or lines i line
    → ((labels : Labels) → own ≡ wide_item (item_at labels line.item)) → next ≡ min (size + own) top → Measured all (drop (i + 1) lines) next
one_measured lines all i line size own next m l is wide e = record {
  few = omega (arith, e);
  at = λ labels.
      let here : drop i lines ≡ line ∷ drop (i + 1) lines = drop-cons lines i line l ∙ ap (λ z. z ∷ drop (suc i) lines) (sym is) ∙ ap (λ n. line ∷ drop n lines) (sym (add-one i)) in
      let before = m.at labels ∙ ap (λ z. min (size + wide_at labels z) top) here in
      step (wide_at labels all) size (wide_item (item_at labels line.item)) (wide_at labels (drop (i + 1) lines)) next before (e ∙ ap (λ n. min (size + n) top) (wide labels));
}

whole : (all size : ℕ) → size ≤ top → min all top ≡ min (size + 0) top → size ≡ min all top
whole all size h e = omega arith

pub all_measured : (lines all : List DraftLine) (i size : ℕ) → Measured all (drop i lines) size → length lines ≤ i → (labels : Labels) → size ≡ min (wide_at labels all) top
all_measured lines all i size m l labels = whole (wide_at labels all) size m.few (m.at labels ∙ ap (λ z. min (size + wide_at labels z) top) (drop_all i lines l))
