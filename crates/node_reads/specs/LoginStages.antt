-- How far a login has come, as the machine sees it.
use Rattle.object_model.specs.Letters as plain
use Rattle.login_model.specs.Readings as model
use Rattle.node_reads.specs.declared.login.Denial.{Denial}
use Rattle.node_reads.specs.declared.login.Denial.TheVariants as denial
use Rattle.node_reads.specs.declared.login.LoginStage.{LoginStage}
use Rattle.node_reads.specs.declared.login.LoginStage.TheVariants as login

abbrev pub denial_seen : Denial → plain.LoginWord
denial_seen (denial.Wrong stamp) = plain.LoginWord.Wrong stamp
denial_seen (denial.InUse by) = plain.LoginWord.InUse by
denial_seen denial.NoProfile = plain.LoginWord.NoProfile

abbrev pub login_stage_seen : LoginStage → model.LoginStage
login_stage_seen login.AsksManager = model.LoginStage.AsksManager
login_stage_seen (login.IsDenied denied) = model.LoginStage.IsDenied (denial_seen denied)
login_stage_seen (login.AsksNodes lists) = model.LoginStage.AsksNodes lists.named lists.waiting lists.told
login_stage_seen login.HasFailed = model.LoginStage.HasFailed
