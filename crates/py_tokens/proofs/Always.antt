-- Each source has tokens or a first fault.
use Rattle.std.proofs.Common.{◌≡◌, ◌⊎◌, ℕ, zero, suc, ◌+◌, ◌≤◌, List, [], ◌∷◌, ◌++◌, length, Result, Ok, Err, inl, inr, refl, ap, arith, length-append}
use Rattle.mpy_base.specs.declared.source.SourceFault.{SourceFault}
use Rattle.mpy_base.specs.Fault.{too_long}
use Rattle.std.proofs.lemmas.Bool.{cases_lt}
use Rattle.mpy_base.specs.declared.limits.TheConstants.{MAX_SOURCE_BYTES}
use Rattle.py_tokens.specs.declared.token.Token.{Token}
use Rattle.py_tokens.specs.Lexeme.{Answer, IsFront}
use Rattle.py_tokens.specs.Lines.{Piece, Place, Tokens, tokens_of_pieces}
use Rattle.py_tokens.specs.Tokens.{fault_at, place_at, line_at, Stops, AreInFront, IsReading, IsTokens, IsFirstFault}
use Rattle.py_tokens.proofs.Runs.{Splits}
use Rattle.py_tokens.proofs.Answered.{front}

-- the pieces of the bytes from a place on, and where they stop
record Read (opt : ℕ) (source : List ℕ) (at : ℕ) (bytes : List ℕ) : Type 0 where
  pieces : List Piece
  end : ℕ
  rest : List ℕ
  stop : Result Place SourceFault
  are : AreInFront opt source at pieces end rest bytes
  stops : Stops opt source end rest stop

at_end : (opt : ℕ) (source : List ℕ) (at : ℕ) → Read opt source at []
at_end opt source at = record { pieces = []; end = at; rest = []; stop = Ok (place_at source at); are = (refl, refl); stops = (refl, refl) }

-- with what stands in front
read_with : (opt : ℕ) (source : List ℕ) (at : ℕ) (bytes : List ℕ) (answer : Answer) → IsFront opt bytes answer → Splits answer bytes
    → ((text behind : List ℕ) → bytes ≡ text ++ behind → 1 ≤ length text → Read opt source (at + length text) behind) → Read opt source at bytes
read_with opt source at bytes (Err its) is splits others =
    record { pieces = []; end = at; rest = bytes; stop = Err (fault_at source at its); are = (refl, refl); stops = (its, is, refl) }
read_with opt source at bytes (Ok found) is splits others =
    let r = others found.1 splits.0 splits.1 splits.2 in
    record {
      pieces = record { lexeme = found.0; text = found.1; at = at; line = line_at source at } ∷ r.pieces;
      end = r.end;
      rest = r.rest;
      stop = r.stop;
      are = (refl, refl, is, splits.0, splits.1, r.are);
      stops = r.stops;
    }

read : (n opt : ℕ) (source : List ℕ) (at : ℕ) (bytes : List ℕ) → length bytes ≤ n → Read opt source at bytes
read n opt source at [] few = at_end opt source at
read zero opt source at (b ∷ bs) few = absurd (omega arith)
read (suc n) opt source at (b ∷ bs) few =
    let f = front opt b bs in
    read_with opt source at (b ∷ bs) f.answer f.is f.splits (λ text behind parts some.
    read n opt source (at + length text) behind (omega (arith, few, some, ap length parts, length-append text behind)))

abbrev Tokened : ℕ → List ℕ → Type 0
Tokened opt source = ((list : List Token) × IsTokens opt source list) ⊎ ((fault : SourceFault) × IsFirstFault opt source fault)

answered : (opt : ℕ) (source : List ℕ) (answer : Tokens) → length source ≤ MAX_SOURCE_BYTES → IsReading opt source answer → Tokened opt source
answered opt source (Ok list) short reading = inl (list, record { short = short; reading = reading })
answered opt source (Err fault) short reading = inr (fault, inr (short, inl reading))

pub always : (opt : ℕ) (source : List ℕ) → Tokened opt source
always opt source = elim (cases_lt MAX_SOURCE_BYTES (length source)) [
  | inl long ↦ inr (too_long, inl (long, refl))
  | inr short ↦ (
      let r = read (length source) opt source 0 source (omega arith) in
      answered opt source (tokens_of_pieces r.pieces r.stop) short (record {
        pieces = r.pieces;
        end = r.end;
        rest = r.rest;
        stop = r.stop;
        pieces_are = r.are;
        stops = r.stops;
        answer_is = refl;
      }))
]
