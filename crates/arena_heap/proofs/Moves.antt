-- An object whose region moves behind all cells, whatever its kind.
use Rattle.std.proofs.Common.{ℕ, ◌+◌, ◌-◌, ◌<◌, ◌≡◌, List, ◌++◌, length, Option, Some, None, set, replicate, refl, sym, ◌∙◌, ap, subst, inl, inr, arith, length-append}
use Rattle.std.proofs.lemmas.List.{get_or_append_left, get_or-append_right}
use Rattle.std.proofs.lemmas.Bool.{cases_lt}
use Rattle.arena_heap.specs.declared.cells.Cell.{Cell}
use Rattle.arena_heap.specs.Values.{ArenaObject}
use Rattle.arena_heap.specs.Cells.{blank, head_of, heads, first, size, byte_size, byte_first, Full, part, read, In, texts_in, Links, Holds}
use Rattle.arena_heap.proofs.KeyTexts.{texts_same}
use Rattle.arena_heap.proofs.Frame.{holds_used, holds_head, heads_past}

pub holds_moved : {cells : List Cell} {bytes : List ℕ} {obs : List (Option ArenaObject)} {keys : Option ℕ} → Holds keys cells bytes obs → (n : ℕ) (c : Cell) (qs : List Cell) → n < length cells
    → (heads cells n ≡ blank → ⊥) → ((k : ℕ) → heads qs k ≡ blank) → head_of c ≡ c → Full c → byte_first n c + byte_size c ≡ 0
    → first n c ≡ length cells → size c ≡ length qs → ((below : ℕ) → keys ≡ Some below → Links (texts_in cells bytes) below c (cells ++ qs))
    → part bytes (byte_first n c) (byte_size c) ≡ texts_in cells bytes n
    → Holds keys (set (cells ++ qs) n c) bytes (set (obs ++ replicate (length qs) None) n (read n c (cells ++ qs) bytes))
holds_moved {cells} {bytes} {obs} {keys} h n c qs low live plain head full nobytes start sz links text =
    let cells1 : List Cell = cells ++ qs in
    let l1 : length cells1 ≡ length cells + length qs = length-append cells qs in
    let h1 : Holds keys cells1 bytes (obs ++ replicate (length qs) None) = holds_used h qs plain in
    let same : (m : ℕ) → heads cells1 m ≡ heads cells m = λ m. elim (cases_lt m (length cells)) [
      | inl lt ↦ ap head_of (get_or_append_left cells qs blank m lt)
      | inr ge ↦ ap head_of (get_or-append_right cells qs (length cells) m blank refl ge) ∙ (plain (m - length cells) ∙ sym (heads_past cells m ge))
    ] in
    let below : (m x : ℕ) → In (first m (heads cells1 m)) (size (heads cells1 m)) x → x < length cells =
    λ m x i. let j : In (first m (heads cells m)) (size (heads cells m)) x = subst (λ (d : Cell). In (first m d) (size d) x) (same m) i in omega (arith, h.kept.cells_apart.inside m, j.high) in
    let texts : texts_in cells1 bytes ≡ texts_in cells bytes = texts_same cells cells1 bytes same in
    holds_head h1 n c (omega arith) (record {
      head = head;
      inside = omega arith;
      byte_inside = omega arith;
      free = λ m x i j. absurd (omega (arith, i.low, below m x j));
      byte_free = λ m x i j. absurd (omega (arith, i.low, i.high));
      mine = λ m i. live (sym (same n) ∙ h1.kept.plain m n i);
      outside = λ i. omega (arith, i.low);
      plain = λ x i. same x ∙ heads_past cells x (omega (arith, i.low));
      full = full;
    })
    (record {
      links = λ b q. subst (λ (t : ℕ → List ℕ). Links t b c cells1) (sym texts) (links b q);
      text = λ b q lt. text ∙ ap (λ (t : ℕ → List ℕ). t n) (sym texts);
    })
