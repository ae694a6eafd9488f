use Rattle.file_laws.proofs.Files.{Below, one, only}
use Rattle.file_laws.proofs.canonical.canonical_law.Goals as goal

pub returns : goal.returns
returns c =
    let b : Below = record { one_module = c.file_law.ensures.one_module; one_tree = c.resolving_law.ensures; one_file = c.write_law.ensures.one_file } in
    record {
      one = λ x y tree. one b x y tree;
      written = λ whole bytes written reads. record { whole = whole; reads = reads; written = written };
      only = λ whole bytes. only b whole bytes;
    }
