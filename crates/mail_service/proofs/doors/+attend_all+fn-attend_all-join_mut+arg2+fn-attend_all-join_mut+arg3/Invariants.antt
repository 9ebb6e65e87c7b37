use Rattle.std.proofs.Common.{length}
use Rattle.mail_service.proofs.doors.+attend_all+fn-attend_all-join_mut+arg2+fn-attend_all-join_mut+arg3.Given as goal

abbrev pub decreases-attend_all : goal.decreases-attend_all
decreases-attend_all g l = length l.entrances.now

abbrev pub decreases-join_mut+arg2 : goal.decreases-join_mut+arg2
decreases-join_mut+arg2 g l = length l.front.now

abbrev pub decreases-join_mut+arg3 : goal.decreases-join_mut+arg3
decreases-join_mut+arg3 g l = length l.back.now
