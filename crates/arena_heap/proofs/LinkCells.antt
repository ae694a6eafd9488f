-- What is written at the links of a dict's cells.
use Rattle.std.proofs.Common.{ℕ, suc, ◌+◌, ◌*◌, ◌<◌, ◌≤◌, ◌≡◌, ◌≢◌, List, length, get_or, set, refl, sym, ◌∙◌, ap, subst, inl, inr, arith, length-set, get_or-set_same, get_or-set_other}
use Rattle.std.proofs.Math.Path.{ap₂}
use Rattle.std.proofs.lemmas.List.{get_or_default}
use Rattle.std.proofs.lemmas.Bool.{cases_eq}
use Rattle.arena_heap.specs.declared.cells.Cell.{Cell}
use Rattle.arena_heap.specs.Links.{bucket_of}
use Rattle.arena_heap.specs.Cells.{blank, value_of, head_of, heads, part, pair_in, first_link, next_link, bucket_in, first_in, next_in, AreLinked, In, Relinked}
use Rattle.arena_heap.proofs.Regions.{length-part, get_or-part}
use Rattle.arena_heap.proofs.ListCells.{part-set}
use Rattle.arena_heap.proofs.Chains.{chained_more, chained_none, chained_same}

-- one cell of links is written
module _ (ps : List Cell) (room at : ℕ) (x : Cell) (whole : length ps ≡ 3 * room) (lt : at < room) where
  here : get_or (set ps (3 * at + 2) x) (3 * at + 2) blank ≡ x
  here = get_or-set_same ps (3 * at + 2) x blank (omega arith)

  other : (k : ℕ) → k ≢ at → get_or (set ps (3 * at + 2) x) (3 * k + 2) blank ≡ get_or ps (3 * k + 2) blank
  other k ne = get_or-set_other ps (3 * at + 2) (3 * k + 2) x blank (λ q. ne (omega arith))

  pub key_same : (k : ℕ) → get_or (set ps (3 * at + 2) x) (3 * k) blank ≡ get_or ps (3 * k) blank
  key_same k = get_or-set_other ps (3 * at + 2) (3 * k) x blank (λ q. omega arith)

  pub pair_same : (k : ℕ) → pair_in (set ps (3 * at + 2) x) k ≡ pair_in ps k
  pair_same k = ap₂ (λ (c d : Cell). (value_of c, value_of d)) (key_same k) (get_or-set_other ps (3 * at + 2) (3 * k + 1) x blank (λ q. omega arith))

  pub first_here : first_in (set ps (3 * at + 2) x) at ≡ first_link x
  first_here = ap first_link here

  pub next_here : next_in (set ps (3 * at + 2) x) at ≡ next_link x
  next_here = ap next_link here

  pub first_other : (k : ℕ) → k ≢ at → first_in (set ps (3 * at + 2) x) k ≡ first_in ps k
  first_other k ne = ap first_link (other k ne)

  pub next_other : (k : ℕ) → k ≢ at → next_in (set ps (3 * at + 2) x) k ≡ next_in ps k
  next_other k ne = ap next_link (other k ne)

  -- the first link stays, or the next one
  pub first_kept : first_link x ≡ first_in ps at → (k : ℕ) → first_in (set ps (3 * at + 2) x) k ≡ first_in ps k
  first_kept e k = elim (cases_eq k at) [
    | inl q ↦ subst (λ j. first_in (set ps (3 * at + 2) x) j ≡ first_in ps j) (sym q) (first_here ∙ e)
    | inr ne ↦ first_other k ne
  ]

  pub next_kept : next_link x ≡ next_in ps at → (k : ℕ) → next_in (set ps (3 * at + 2) x) k ≡ next_in ps k
  next_kept e k = elim (cases_eq k at) [
    | inl q ↦ subst (λ j. next_in (set ps (3 * at + 2) x) j ≡ next_in ps j) (sym q) (next_here ∙ e)
    | inr ne ↦ next_other k ne
  ]

-- a pair is linked
pub linked_more : (texts : ℕ → List ℕ) (ps : List Cell) (room at bucket : ℕ) (x y : Cell) → length ps ≡ 3 * room → at < room → bucket < room → AreLinked texts ps room at
    → bucket ≡ bucket_in texts ps room at → first_link x ≡ first_in ps at → next_link x ≡ first_in ps bucket
    → first_link y ≡ at + 1 → next_link y ≡ next_in (set ps (3 * at + 2) x) bucket
    → AreLinked texts (set (set ps (3 * at + 2) x) (3 * bucket + 2) y) room (at + 1)
linked_more texts ps room at bucket x y whole lt within linked e fx nx fy ny =
    let ps1 : List Cell = set ps (3 * at + 2) x in
    let ps2 : List Cell = set ps1 (3 * bucket + 2) y in
    let l1 : length ps1 ≡ 3 * room = length-set ps (3 * at + 2) x ∙ whole in
    let bs : (k : ℕ) → bucket_in texts ps2 room k ≡ bucket_in texts ps room k =
    λ k. ap (λ (c : Cell). bucket_of texts room (value_of c)) (key_same ps1 room bucket y l1 within k ∙ key_same ps room at x whole lt k) in
    let own : bucket_in texts ps2 room at ≡ bucket = bs at ∙ sym e in
    let fs : (k : ℕ) → first_in ps1 k ≡ first_in ps k = first_kept ps room at x whole lt fx in
    let ns : (k : ℕ) → next_in ps2 k ≡ next_in ps1 k = next_kept ps1 room bucket y l1 within ny in
    let step : at + 1 ≡ suc at = omega arith in
    subst (AreLinked texts ps2 room) (sym step)
    (chained_more (bucket_in texts ps room) (first_in ps) (next_in ps) (bucket_in texts ps2 room) (first_in ps2) (next_in ps2) room at linked
    (λ k h. bs k) (subst (λ j. j < room) (sym own) within)
    (λ k h. ns k ∙ next_other ps room at x whole lt k (λ q. omega arith))
    (ns at ∙ (next_here ps room at x whole lt ∙ (nx ∙ ap (first_in ps) (sym own))))
    (ap (first_in ps2) own ∙ (first_here ps1 room bucket y l1 within ∙ (fy ∙ step)))
    (λ k h ne. first_other ps1 room bucket y l1 within k (λ q. ne (q ∙ sym own)) ∙ fs k))

-- no links are read where the first links are 0
pub linked_none : (texts : ℕ → List ℕ) (ps : List Cell) (room : ℕ) → ((bucket : ℕ) → bucket < room → first_in ps bucket ≡ 0) → AreLinked texts ps room 0
linked_none texts ps room none = chained_none (bucket_in texts ps room) (first_in ps) (next_in ps) room none

pub relinked_not : (start room : ℕ) (cells : List Cell) → Relinked start room cells cells
relinked_not start room cells = record { same_length = refl; same_heads = λ c. refl; outside = λ c d i. refl; pairs = λ at lt. refl }

pub relinked_twice : (start room : ℕ) (cells cells1 cells2 : List Cell) → Relinked start room cells cells1 → Relinked start room cells1 cells2 → Relinked start room cells cells2
relinked_twice start room cells cells1 cells2 p q =
    record {
      same_length = q.same_length ∙ p.same_length;
      same_heads = λ c. q.same_heads c ∙ p.same_heads c;
      outside = λ c d i. q.outside c d i ∙ p.outside c d i;
      pairs = λ at lt. q.pairs at lt ∙ p.pairs at lt;
    }

-- the part after a write at a link
pub part_linked : (cells : List Cell) (start room at i : ℕ) (x : Cell) → at < room → i ≡ start + (3 * at + 2)
    → part (set cells i x) start (3 * room) ≡ set (part cells start (3 * room)) (3 * at + 2) x
part_linked cells start room at i x lt e =
    ap (λ j. part (set cells j x) start (3 * room)) e ∙ part-set cells start (3 * room) (3 * at + 2) x (omega arith)

pub relinked_set : (cells : List Cell) (start room at i : ℕ) (x : Cell) → start + 3 * room ≤ length cells → at < room → i ≡ start + (3 * at + 2)
    → head_of x ≡ blank → heads cells i ≡ blank → Relinked start room cells (set cells i x)
relinked_set cells start room at i x inside lt e plain was =
    let ps : List Cell = part cells start (3 * room) in
    record {
      same_length = length-set cells i x;
      same_heads = λ c. elim (cases_eq c i) [
        | inl q ↦ subst (λ j. heads (set cells i x) j ≡ heads cells j) (sym q) (ap head_of (get_or-set_same cells i x blank (omega arith)) ∙ (plain ∙ sym was))
        | inr ne ↦ ap head_of (get_or-set_other cells i c x blank ne)
      ];
      outside = λ c d no. get_or-set_other cells i c x d (λ q. no (record { low = omega arith; high = omega arith }));
      pairs = λ k h. ap (λ (qs : List Cell). pair_in qs k) (part_linked cells start room at i x lt e)
          ∙ pair_same ps room at x (length-part cells start (3 * room) inside) lt k;
    }

-- a value that is put in a pair changes no link
pub linked_stored : (texts : ℕ → List ℕ) (ps : List Cell) (room len i : ℕ) (x : Cell) → AreLinked texts ps room len → AreLinked texts (set ps (3 * i + 1) x) room len
linked_stored texts ps room len i x linked =
    let qs : List Cell = set ps (3 * i + 1) x in
    chained_same (bucket_in texts ps room) (first_in ps) (next_in ps) (bucket_in texts qs room) (first_in qs) (next_in qs) room len linked
    (λ k h. ap (λ (c : Cell). bucket_of texts room (value_of c)) (get_or-set_other ps (3 * i + 1) (3 * k) x blank (λ q. omega arith)))
    (λ k h. ap first_link (get_or-set_other ps (3 * i + 1) (3 * k + 2) x blank (λ q. omega arith)))
    (λ k h. ap next_link (get_or-set_other ps (3 * i + 1) (3 * k + 2) x blank (λ q. omega arith)))

-- nor does a key that is put behind the pairs
pub linked_keyed : (texts : ℕ → List ℕ) (ps : List Cell) (room len : ℕ) (x : Cell) → AreLinked texts ps room len → AreLinked texts (set ps (3 * len) x) room len
linked_keyed texts ps room len x linked =
    let qs : List Cell = set ps (3 * len) x in
    chained_same (bucket_in texts ps room) (first_in ps) (next_in ps) (bucket_in texts qs room) (first_in qs) (next_in qs) room len linked
    (λ k h. ap (λ (c : Cell). bucket_of texts room (value_of c)) (get_or-set_other ps (3 * len) (3 * k) x blank (λ q. omega arith)))
    (λ k h. ap first_link (get_or-set_other ps (3 * len) (3 * k + 2) x blank (λ q. omega arith)))
    (λ k h. ap next_link (get_or-set_other ps (3 * len) (3 * k + 2) x blank (λ q. omega arith)))

-- a cell of a dict that was read
read_at : (cells : List Cell) (start room at k j : ℕ) (x : Cell) → start + 3 * room ≤ length cells → at < room → k < 3 → j ≡ start + (3 * at + k) → x ≡ get_or cells j x
    → x ≡ get_or (part cells start (3 * room)) (3 * at + k) blank
read_at cells start room at k j x inside lt small ej ex =
    ex ∙ (get_or_default cells j x blank (omega arith)
    ∙ (ap (λ i. get_or cells i blank) ej ∙ sym (get_or-part cells start (3 * room) (3 * at + k) blank (omega arith))))

-- a pair is put in front of its bucket: its own cell x is written from the cells that were read, and then the cell y of the bucket
module _ (texts : ℕ → List ℕ) (cells : List Cell) (start room at bucket key own front : ℕ) (key_cell own_cell front_cell x y_cell y : Cell)
    (inside : start + 3 * room ≤ length cells) (lt : at < room) (within : bucket < room)
    (plain : (c : ℕ) → In start (3 * room) c → heads cells c ≡ blank)
    (e_key : key ≡ start + (3 * at + 0)) (e_own : own ≡ start + (3 * at + 2)) (e_front : front ≡ start + (3 * bucket + 2))
    (r_key : key_cell ≡ get_or cells key key_cell) (r_own : own_cell ≡ get_or cells own own_cell) (r_front : front_cell ≡ get_or cells front front_cell)
    (r_y : y_cell ≡ get_or (set cells own x) front y_cell)
    (bucket_is : bucket ≡ bucket_of texts room (value_of key_cell)) (plain_x : head_of x ≡ blank) (plain_y : head_of y ≡ blank)
    (first_x : first_link x ≡ first_link own_cell) (next_x : next_link x ≡ first_link front_cell)
    (first_y : first_link y ≡ at + 1) (next_y : next_link y ≡ next_link y_cell)
  where
    abbrev ps : List Cell
    ps = part cells start (3 * room)

    one_written : Relinked start room cells (set cells own x)
    one_written = relinked_set cells start room at own x inside lt e_own plain_x (plain own (record { low = omega arith; high = omega arith }))

    pub link_relinked : Relinked start room cells (set (set cells own x) front y)
    link_relinked =
        let one = one_written in
        let l = one.same_length in
        relinked_twice start room cells (set cells own x) (set (set cells own x) front y) one
        (relinked_set (set cells own x) start room bucket front y (omega arith) within e_front plain_y
        (one.same_heads front ∙ plain front (record { low = omega arith; high = omega arith })))

    pub link_linked : AreLinked texts (part cells start (3 * room)) room at → AreLinked texts (part (set (set cells own x) front y) start (3 * room)) room (at + 1)
    link_linked linked =
        let whole : length ps ≡ 3 * room = length-part cells start (3 * room) inside in
        let l : length (set cells own x) ≡ length cells = length-set cells own x in
        let first_part : part (set cells own x) start (3 * room) ≡ set ps (3 * at + 2) x = part_linked cells start room at own x lt e_own in
        let parts : part (set (set cells own x) front y) start (3 * room) ≡ set (set ps (3 * at + 2) x) (3 * bucket + 2) y =
        part_linked (set cells own x) start room bucket front y within e_front ∙ ap (λ (qs : List Cell). set qs (3 * bucket + 2) y) first_part in
        subst (λ (qs : List Cell). AreLinked texts qs room (at + 1)) (sym parts)
        (linked_more texts ps room at bucket x y whole lt within linked
        (bucket_is ∙ ap (λ (c : Cell). bucket_of texts room (value_of c)) (read_at cells start room at 0 key key_cell inside lt (omega arith) e_key r_key ∙ ap (λ j. get_or ps j blank) (omega arith)))
        (first_x ∙ ap first_link (read_at cells start room at 2 own own_cell inside lt (omega arith) e_own r_own))
        (next_x ∙ ap first_link (read_at cells start room bucket 2 front front_cell inside within (omega arith) e_front r_front))
        first_y
        (next_y ∙ (ap next_link (read_at (set cells own x) start room bucket 2 front y_cell (omega arith) within (omega arith) e_front r_y)
        ∙ ap (λ (qs : List Cell). next_link (get_or qs (3 * bucket + 2) blank)) first_part)))

-- all first links below a place are taken out
pub record Unlinked (start room below : ℕ) (cells : List Cell) : Type 0 where
  pub none : (bucket : ℕ) → bucket < below → first_in (part cells start (3 * room)) bucket ≡ 0

pub unlinked_more : (cells : List Cell) (start room at i : ℕ) (x : Cell) → start + 3 * room ≤ length cells → at < room → i ≡ start + (3 * at + 2) → first_link x ≡ 0
    → Unlinked start room at cells → Unlinked start room (at + 1) (set cells i x)
unlinked_more cells start room at i x inside lt e zero_x was =
    let ps : List Cell = part cells start (3 * room) in
    let whole : length ps ≡ 3 * room = length-part cells start (3 * room) inside in
    let parts : part (set cells i x) start (3 * room) ≡ set ps (3 * at + 2) x = part_linked cells start room at i x lt e in
    record {
      none = λ k hk. ap (λ (qs : List Cell). first_in qs k) parts ∙ elim (cases_eq k at) [
        | inl q ↦ subst (λ j. first_in (set ps (3 * at + 2) x) j ≡ 0) (sym q) (first_here ps room at x whole lt ∙ zero_x)
        | inr ne ↦ first_other ps room at x whole lt k ne ∙ was.none k (omega (arith, ne))
      ];
    }
