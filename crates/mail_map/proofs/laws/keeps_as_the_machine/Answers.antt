use Rattle.mail_map.proofs.Keeping.{if_stays, only_if_stays}
use Rattle.mail_map.proofs.laws.keeps_as_the_machine.Goals as goal

pub returns : goal.returns
returns c = λ own node membership n boot user. (λ t. if_stays own node membership n boot user t, λ k. only_if_stays own node membership n boot user k)
