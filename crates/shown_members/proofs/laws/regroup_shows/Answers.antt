use Rattle.shown_members.proofs.Regrouped.{regroup_shows as law}
use Rattle.shown_members.proofs.laws.regroup_shows.Goals as goal

pub returns : goal.returns
returns c = λ plan tells old new n epoch members stands low room regroups. law plan tells old new n epoch members stands low room regroups
