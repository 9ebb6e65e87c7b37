use Rattle.mail_map.proofs.Latest.{latest_stands}
use Rattle.mail_map.proofs.laws.the_latest_row_stands.Goals as goal

pub returns : goal.returns
returns c = λ rows n boot user. latest_stands rows n boot user
