-- The pieces of faults' texts.
use Rattle.std.proofs.Common.{◌≡◌, ℕ, ◌+◌, ◌^◌, ◌<◌, ◌≤◌, List, [], ◌++◌, length, Option, sym, subst, ◌∙◌, arith, length-append}
use Rattle.std.specs.Fmt.{decimal}
use Rattle.std.proofs.lemmas.Fmt.{length-decimal-le}
use Rattle.prim_walks.specs.mpy_base.World.{Heap}
use Rattle.prim_walks.specs.arena_heap.declared.value.Value.{Value}
use Rattle.prim_walks.specs.arena_heap.declared.value.StrNo.{StrNo}
use Rattle.prim_walks.specs.arena_heap.declared.value.ConstNo.{ConstNo}
use Rattle.prim_walks.specs.py_primitives.Faults.{fault_text}
use Rattle.prim_faults.specs.declared.fault.Fault.{Fault}
use Rattle.prim_faults.specs.declared.piece.Piece.{Piece}
use Rattle.prim_faults.specs.Faults.{plain_fault, name_in}
use Rattle.prim_faults.specs.Pieces.{IsWordingOf, wording_text}

pub by_fault : (fault known : Fault) (pieces : List Piece) (text : List ℕ → List ℕ) → fault ≡ known → ((name : List ℕ) → wording_text name pieces ≡ text name)
    → ((texts : StrNo → Option (List ℕ)) (tuples : ConstNo → Option (List Value)) (heap : Heap Value ℕ) → text (name_in texts tuples heap known) ≡ fault_text (plain_fault texts tuples heap known))
    → IsWordingOf fault pieces
by_fault fault known pieces text is spelled same =
    subst (λ (f : Fault). IsWordingOf f pieces) (sym is) (λ texts tuples heap. spelled (name_in texts tuples heap known) ∙ same texts tuples heap)

small_decimal : (n : ℕ) → n < 2 ^ 32 → length (decimal n) ≤ 10
small_decimal n lt = length-decimal-le 10 n (omega arith) (omega arith) (omega arith)

pub counted_few : (first last name : List ℕ) (n : ℕ) → length first + length last ≤ 64 → n < 2 ^ 32 → length (first ++ (decimal n ++ (last ++ []))) ≤ 512 + length name
counted_few first last name n short lt =
    omega (arith, length-append first (decimal n ++ (last ++ [])), length-append (decimal n) (last ++ []), length-append last [], small_decimal n lt)

pub given_few : (first middle last name : List ℕ) (n given : ℕ) → length first + length middle + length last ≤ 128 → n < 2 ^ 32 → given < 2 ^ 32
    → length (first ++ (decimal n ++ (middle ++ (decimal given ++ (last ++ []))))) ≤ 512 + length name
given_few first middle last name n given short lt lt' =
    omega (
      arith,
      length-append first (decimal n ++ (middle ++ (decimal given ++ (last ++ [])))),
      length-append (decimal n) (middle ++ (decimal given ++ (last ++ []))),
      length-append middle (decimal given ++ (last ++ [])),
      length-append (decimal given) (last ++ []),
      length-append last [],
      small_decimal n lt,
      small_decimal given lt',
    )
