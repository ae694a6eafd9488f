use Rattle.board_files.proofs.Stopping.{untouched_stops}
use Rattle.board_files.proofs.running.run_board.Goals as goal

pub returns-in-Err-clause-short : goal.returns-in-Err-clause-short
returns-in-Err-clause-short g c = λ e p is. untouched_stops p c.args.plan.now (g.F.Folder.files c.args.folder.now)
