use Rattle.std.proofs.Common.{◌≡◌, [], refl, sym, subst, ◌∙◌}
use Rattle.yard_stores.specs.Taken.{TellsAll}
use Rattle.mail_service.specs.Entrances.{marked}
use Rattle.std.proofs.Common.{map}
use Rattle.mail_service.specs.Services.{RunsTo}
use Rattle.mail_service.proofs.Shutting.{with_none}
use Rattle.mail_service.proofs.Running.{same_doors, refused_runs}
use Rattle.mail_service.proofs.service.open_service.Goals as goal

pub returns-in_default-clause-refused : goal.returns-in_default-clause-refused
returns-in_default-clause-refused g c = record { before = []; after = []; opened = with_none _; later = tt; closed = refl; ends = tt }

pub returns-in-Err-clause-refused : goal.returns-in-Err-clause-refused
returns-in-Err-clause-refused g c = record {
  before = c.open_doors.new.entrances.items;
  after = c.open_doors.new.entrances.items;
  opened = c.shut_all.ensures.opened ∙ c.open_doors.ensures.opened;
  later = same_doors g.Y.Door.Door.quiets g.Y.Door.Door.faults c.open_doors.new.entrances.items;
  closed = subst (λ o. TellsAll o (g.Y.Yard.closed c.shut_all.new.yard) (map marked c.open_doors.new.entrances.items)) c.open_doors.ensures.closed c.shut_all.ensures.closed;
  ends = subst (λ e. RunsTo g.Y.Door.Door.left g.Y.Door.Door.quiets g.Y.Door.Door.faults c.args.ports.now e c.open_doors.new.entrances.items c.open_doors.new.entrances.items) (sym c.unopened.ensures)
      (refused_runs g.Y.Door.Door.left g.Y.Door.Door.quiets g.Y.Door.Door.faults c.args.ports.now c.in-Err.refusal c.open_doors.new.entrances.items c.open_doors.new.entrances.items);
}
