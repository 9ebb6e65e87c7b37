use Rattle.shown_members.proofs.Shows.{settled_shown}
use Rattle.shown_members.proofs.laws.settled_is_shown.Goals as goal

pub returns : goal.returns
returns c = λ w g shows. (λ n node disk up h e. shows.installed n node disk up h e, λ h member m settled. settled_shown w g shows h member m settled)
