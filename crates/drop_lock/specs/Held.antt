-- The map of locks as the code keeps it.
use Rattle.std.specs.Prelude.{ℕ, refl}
use Rattle.std.specs.Coded.{Coded, code_by, coded×, coded_ℕ, coded_list}
use Rattle.std.specs.FinMap as map
use Rattle.object_model.specs.Letters.{Number}
use Rattle.object_model.specs.Locks.{Held}

abbrev pub number_code : Coded Number
number_code = code_by (ℕ × (ℕ × ℕ)) (coded× coded_ℕ (coded× coded_ℕ coded_ℕ)) (λ n. (n.node, (n.boot, n.seq))) (λ q. record { node = q.0; boot = q.1.0; seq = q.1.1 }) (λ _. refl)

abbrev pub held_code : Coded Held
held_code = map.code (coded_list coded_ℕ) number_code
