use Rattle.std.proofs.Common.{subst, map, ap, ◌∙◌}
use Rattle.yard_stores.specs.Taken.{TellsAll}
use Rattle.mail_service.specs.Entrances.{marked, taken_in}
use Rattle.mail_service.proofs.service.keep.Goals as goal

pub returns-clause-served : goal.returns-clause-served
returns-clause-served g c = record {
  after = c.attend_service-doors.new.entrances.items;
  taken_is = c.taken_in-taken.ensures ∙ ap taken_in c.deref.ensures.value;
  later = c.attend_service-doors.ensures.later;
  ends = c.attend_service-doors.ensures.end;
  closed = subst (λ v. TellsAll (g.Y.Yard.closed c.args.yard.now) (g.Y.Yard.closed c.shut_all.new.yard) (map marked v.items)) c.replace.ensures.value c.shut_all.ensures.closed;
}
