-- Instructions with their lines.
use Rattle.std.proofs.Common.{◌≡◌, ℕ, List, [], ◌∷◌, length, map, refl, ap, ◌∙◌, arith}
use Rattle.mpy_tree.specs.Resolved.{Resolved, ResolvedLine, lines_of}

-- they are told by both
abbrev line_with : Resolved → ℕ → ResolvedLine
line_with item line = record { item = item; line = line }

pub same_lines : (xs ys : List ResolvedLine) → map (λ (l : ResolvedLine). l.item) xs ≡ map (λ (l : ResolvedLine). l.item) ys → map (λ (l : ResolvedLine). l.line) xs ≡ map (λ (l : ResolvedLine). l.line) ys → xs ≡ ys
same_lines [] [] items lines = refl
same_lines [] (y ∷ ys) items lines = absurd cc
same_lines (x ∷ xs) [] items lines = absurd cc
same_lines (x ∷ xs) (y ∷ ys) items lines =
    let item : x.item ≡ y.item = cc in
    let line : x.line ≡ y.line = cc in
    let heads : x ≡ y = ap (λ z. line_with z x.line) item ∙ ap (line_with y.item) line in
    let other_items : map (λ (l : ResolvedLine). l.item) xs ≡ map (λ (l : ResolvedLine). l.item) ys = cc in
    let other_lines : map (λ (l : ResolvedLine). l.line) xs ≡ map (λ (l : ResolvedLine). l.line) ys = cc in
    let tails : xs ≡ ys = same_lines xs ys other_items other_lines in
    cc

-- and made of both
pub items_in : (items : List Resolved) (lines : List ℕ) → length lines ≡ length items → map (λ (l : ResolvedLine). l.item) (lines_of items lines) ≡ items
items_in [] lines e = refl
items_in (item ∷ items) [] e = absurd (omega (arith, e))
items_in (item ∷ items) (line ∷ lines) e = ap (λ (z : List Resolved). item ∷ z) (items_in items lines (omega (arith, e)))

pub numbers_in : (items : List Resolved) (lines : List ℕ) → length lines ≡ length items → map (λ (l : ResolvedLine). l.line) (lines_of items lines) ≡ lines
numbers_in [] [] e = refl
numbers_in [] (line ∷ lines) e = absurd (omega (arith, e))
numbers_in (item ∷ items) [] e = refl
numbers_in (item ∷ items) (line ∷ lines) e = ap (λ (z : List ℕ). line ∷ z) (numbers_in items lines (omega (arith, e)))
