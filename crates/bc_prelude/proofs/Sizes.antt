-- What is read of a size field, by the chain in front of the bytes.
use Rattle.std.proofs.Common.{Result, Ok, Err, ◌≡◌, ◌↔◌, ℕ, ◌+◌, ◌<◌, ◌≤◌, List, ◌++◌, length, refl, ap, sym, subst, ◌∙◌, inl, inr, arith}
use Rattle.std.specs.Prelude.{IsErrOf}
use Rattle.bc_prelude.specs.declared.fault.PreludeFault.{PreludeFault}
use Rattle.bc_prelude.specs.declared.fault.PreludeFault.TheVariants as faults
use Rattle.bc_prelude.specs.Chain.{IsChain, HasNoEnd, number_of}
use Rattle.bc_prelude.specs.Size.{IsSize, SizeEnds, HasCells}
use Rattle.bc_prelude.proofs.Chains.{one_chain, has_end}

abbrev pub size_read : ℕ → ℕ → Result (ℕ × ℕ) PreludeFault
size_read size end = Ok (size, end)

abbrev pub size_refused : PreludeFault → Result (ℕ × ℕ) PreludeFault
size_refused fault = Err fault

-- the result says all of the bytes at a place that it has to
pub record SizeResult (bytes : List ℕ) (at : ℕ) (result : Result (ℕ × ℕ) PreludeFault) : Type 0 where
  pub only : (text rest : List ℕ) (size : ℕ) → IsSize text size → bytes ≡ text ++ rest → size ≤ length rest → result ≡ size_read size (at + length text)
  pub truncated : IsErrOf result faults.Truncated ↔ SizeEnds bytes
  pub outside : IsErrOf result faults.Outside ↔ HasCells bytes

same_size : (text : List ℕ) (m n : ℕ) → IsSize text m → IsSize text n → m ≡ n
same_size text m n i j = i.size_is ∙ sym j.size_is

same_parts : (bytes text rest t r : List ℕ) → IsChain text → bytes ≡ text ++ rest → IsChain t → bytes ≡ t ++ r → (t ≡ text) × (r ≡ rest)
same_parts bytes text rest t r chain e c f = one_chain t text r rest c chain (sym f ∙ e)

no_cells_in : (bytes text rest : List ℕ) (size : ℕ) → bytes ≡ text ++ rest → IsSize text size → HasCells bytes → ⊥
no_cells_in bytes text rest size e is p =
    let same = same_parts bytes text rest p.text p.rest is.chain e p.chain p.bytes_are in
    omega (arith, p.cells, ap (number_of 1 2) same.0, is.no_cells)

pub size_endless : (bytes : List ℕ) (at : ℕ) → HasNoEnd bytes → SizeResult bytes at (size_refused faults.Truncated)
size_endless bytes at none = record {
  only = λ text rest size is e _. absurd (has_end bytes text rest is.chain e none);
  truncated = (λ _. inl none, λ _. refl);
  outside = (λ e. absurd cc, λ p. absurd (has_end bytes p.text p.rest p.chain p.bytes_are none));
}

pub size_cells : (bytes text rest : List ℕ) (at : ℕ) → bytes ≡ text ++ rest → IsChain text → 0 < number_of 1 2 text → SizeResult bytes at (size_refused faults.Outside)
size_cells bytes text rest at e chain cells =
    let p : HasCells bytes = record { text = text; rest = rest; bytes_are = e; chain = chain; cells = cells } in
    record {
      only = λ t r size is f _. absurd (no_cells_in bytes t r size f is p);
      truncated = (
        λ e. absurd cc,
        λ ends. elim ends [
          | inl none ↦ absurd (has_end bytes text rest chain e none)
          | inr i ↦ absurd (no_cells_in bytes i.text i.rest i.size i.bytes_are i.is_size p)
        ],
      );
      outside = (λ _. p, λ _. refl);
    }

pub size_short : (bytes text rest : List ℕ) (size at : ℕ) → bytes ≡ text ++ rest → IsSize text size → length rest < size → SizeResult bytes at (size_refused faults.Truncated)
size_short bytes text rest size at e is short = record {
  only = λ t r n i f whole.
      let same = same_parts bytes text rest t r is.chain e i.chain f in
      let sizes = same_size text n size (subst (λ (z : List ℕ). IsSize z n) same.0 i) is in
      absurd (omega (arith, short, whole, sizes, ap length same.1));
  truncated = (
    λ _. inr (record { text = text; rest = rest; size = size; bytes_are = e; is_size = is; short = short }),
    λ _. refl,
  );
  outside = (λ e. absurd cc, λ p. absurd (no_cells_in bytes text rest size e is p));
}

pub size_found : (bytes text rest : List ℕ) (size at end : ℕ) → bytes ≡ text ++ rest → IsSize text size → size ≤ length rest → end ≡ length text → SizeResult bytes at (size_read size (at + end))
size_found bytes text rest size at end e is whole taken = record {
  only = λ t r n i f _.
      let same = same_parts bytes text rest t r is.chain e i.chain f in
      let sizes : size ≡ n = same_size text size n is (subst (λ (z : List ℕ). IsSize z n) same.0 i) in
      let ends : end ≡ length t = taken ∙ sym (ap length same.0) in
      cc;
  truncated = (
    λ e. absurd cc,
    λ ends. elim ends [
      | inl none ↦ absurd (has_end bytes text rest is.chain e none)
      | inr i ↦
          let same = same_parts bytes text rest i.text i.rest is.chain e i.is_size.chain i.bytes_are in
          let sizes = same_size text size i.size is (subst (λ (z : List ℕ). IsSize z i.size) same.0 i.is_size) in
          absurd (omega (arith, i.short, whole, sizes, ap length same.1))
    ],
  );
  outside = (λ e. absurd cc, λ p. absurd (no_cells_in bytes text rest size e is p));
}
