use Rattle.std.proofs.Common.{ℕ, ◌-◌, List, length, drop, Some, None, subst, arith}
use Rattle.std.proofs.lemmas.List.{length-drop, take_all}
use Rattle.memchr.specs.Find.{FindsNeedle}
use Rattle.prim_str_methods.proofs.PieceSteps.{found_next, found_last}
use Rattle.prim_str_methods.proofs.pieces.next_between.Goals as goal

pub returns-in-Some : goal.returns-in-Some
returns-in-Some c =
    let bytes = c.args.bytes.now in
    let whole = take_all (length bytes - c.args.from) (drop c.args.from bytes) (omega (arith, length-drop c.args.from bytes)) in
    let found : FindsNeedle (drop c.args.from bytes) c.args.separator.now 0 (Some c.in-Some.at) = subst (λ (hay : List ℕ). FindsNeedle hay c.args.separator.now 0 (Some c.in-Some.at)) whole c.in-Some.ensures in
    let fits = found.1.fits in
    record {
      first = found_next c.args.separator.now bytes c.requires.separator c.args.from c.in-Some.at c.requires.within found;
      start = omega arith;
      end = omega (arith, fits, length-drop c.args.from bytes);
      further = omega (arith, c.requires.separator);
      few = omega (arith, fits, length-drop c.args.from bytes);
    }

pub returns-in-None : goal.returns-in-None
returns-in-None c =
    let bytes = c.args.bytes.now in
    let whole = take_all (length bytes - c.args.from) (drop c.args.from bytes) (omega (arith, length-drop c.args.from bytes)) in
    let found : FindsNeedle (drop c.args.from bytes) c.args.separator.now 0 None = subst (λ (hay : List ℕ). FindsNeedle hay c.args.separator.now 0 None) whole c.in-None.ensures in
    record {
      first = found_last c.args.separator.now bytes c.requires.separator c.args.from c.requires.within found;
      start = c.requires.within;
      end = omega arith;
      further = omega (arith, c.requires.within);
      few = omega arith;
    }
