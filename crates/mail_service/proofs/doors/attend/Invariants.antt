use Rattle.mail_service.specs.Entrances.{IsLater, Knocks}
use Rattle.mail_service.proofs.doors.attend.Given as goal

-- what is to be said of the calls so far
abbrev pub invariant-loop : goal.invariant-loop
invariant-loop g l = record {
  next : (goal.iterator-loop g).can_next l.iterator';
  finite : (goal.iterator-loop g).is_finite l.iterator';
  later : IsLater g.G.Door.quiets g.G.Door.faults l.fn.entrance l.entrance;
  knocks : Knocks g.G.Door.left g.G.Door.quiets g.G.Door.faults l.end l.fn.entrance l.entrance;
}
