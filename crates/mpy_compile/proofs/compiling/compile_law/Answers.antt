use Rattle.mpy_compile.proofs.Laws.{Below, one, one_file, one_fault, not_both}
use Rattle.mpy_compile.proofs.compiling.compile_law.Goals as goal

pub returns : goal.returns
returns c =
    let b : Below = record {
      formed = c.asked_law.ensures.formed;
      faultless = c.asked_law.ensures.faultless;
      one = c.accepted_law.ensures.one;
      one_fault = c.accepted_law.ensures.one_fault;
      not_both = c.accepted_law.ensures.not_both;
      accepted = c.within_law.ensures;
      one_module = c.module_law.ensures.one;
      one_first = c.faults_law.ensures.one;
      none_first = c.faults_law.ensures.not_both;
      one_file = c.write_law.ensures.one_file;
      one_place = c.wide_law.ensures.one;
      none_long = c.wide_law.ensures.not_both;
    } in
    record {
      one = λ level source stored m n. one b level source stored m n;
      one_file = λ level source stored x y. one_file b level source stored x y;
      one_fault = λ level source stored f g. one_fault b level source stored f g;
      not_both = λ level source stored bytes fault. not_both b level source stored bytes fault;
    }
