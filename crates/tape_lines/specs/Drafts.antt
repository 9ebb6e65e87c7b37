-- How a draft is told from another.
use Rattle.std.specs.Prelude.{ℕ, List, Option, refl}
use Rattle.std.specs.Coded.{Coded, code_by, coded×, coded_ℕ, coded_list, coded_option}
use Rattle.mail_model.specs.Plan.{Users}
use Rattle.mail_model.specs.Tape.{Draft}
use Rattle.mail_base.specs.Codes.{users_code}

-- a draft is stored as the pairs of its fields
abbrev pub draft_code : Coded Draft
draft_code = code_by (Option ℕ × (Option (ℕ × ℕ) × (Option ℕ × (Users × Option (List ℕ)))))
    (coded× (coded_option coded_ℕ) (coded× (coded_option (coded× coded_ℕ coded_ℕ)) (coded× (coded_option coded_ℕ) (coded× users_code (coded_option (coded_list coded_ℕ))))))
    (λ d. (d.nodes, (d.copies, (d.buckets, (d.users, d.postmaster)))))
    (λ q. record { nodes = q.0; copies = q.1.0; buckets = q.1.1.0; users = q.1.1.1.0; postmaster = q.1.1.1.1 })
    (λ _. refl)
