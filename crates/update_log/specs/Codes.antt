-- Logs as codes, by which the tool compares two values of a model: that of `UpdateLog` needs them (`Coded`).
use Rattle.std.specs.Prelude.{ℕ, refl}
use Rattle.std.specs.Coded.{Coded, code_by, coded×, coded_ℕ}
use Rattle.std.specs.FinMap as fin
use Rattle.mail_model.specs.Identity.{State}
use Rattle.object_model.specs.Keys.{key_cmp}
use Rattle.object_model.specs.UpdateLog.{Logged}
use Rattle.mail_base.specs.ObjectCodes.{key_code, state_code}

abbrev pub logged_code : Coded Logged
logged_code = code_by (State × ℕ) (coded× state_code coded_ℕ) (λ l. (l.state, l.remaining)) (λ p. record { state = p.0; remaining = p.1 }) (λ _. refl)

abbrev pub log_code : Coded (fin.FinMap key_cmp Logged)
log_code = fin.code key_code logged_code
