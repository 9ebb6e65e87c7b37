use Rattle.board_bench.proofs.shared.+halves.Given as goal

abbrev pub decreases-join+arg2 : goal.decreases-join+arg2
decreases-join+arg2 g l = l.rest

abbrev pub decreases-join+arg3 : goal.decreases-join+arg3
decreases-join+arg3 g l = l.half

abbrev pub decreases-work_all : goal.decreases-work_all
decreases-work_all g l = l.threads
