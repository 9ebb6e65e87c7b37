-- How a table is told from another.
use Rattle.std.specs.Coded.{Coded}
use Rattle.std.specs.FinMap as fin
use Rattle.mail_model.specs.Identity.{State}
use Rattle.object_model.specs.Keys.{key_cmp}
use Rattle.mail_base.specs.ObjectCodes.{key_code, state_code}

abbrev pub table_code : Coded (fin.FinMap key_cmp State)
table_code = fin.code key_code state_code
