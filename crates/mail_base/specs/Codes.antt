-- How a plan is told from another, and an id.
use Rattle.std.specs.Prelude.{ℕ, List, refl}
use Rattle.std.specs.Coded.{Coded, code_by, coded×, coded_ℕ, coded_list}
use Rattle.std.specs.FinMap as map
use Rattle.mail_model.specs.Identity.{Id}
use Rattle.mail_model.specs.Plan.{Plan, Users}

abbrev pub users_code : Coded Users
users_code = map.code (coded_list coded_ℕ) (coded_list coded_ℕ)

-- a plan is stored as the pairs of its fields
abbrev pub plan_code : Coded Plan
plan_code = code_by (ℕ × (ℕ × (ℕ × (ℕ × (Users × List ℕ)))))
    (coded× coded_ℕ (coded× coded_ℕ (coded× coded_ℕ (coded× coded_ℕ (coded× users_code (coded_list coded_ℕ))))))
    (λ p. (p.nodes, (p.copies, (p.confirm, (p.buckets, (p.users, p.postmaster))))))
    (λ q. record { nodes = q.0; copies = q.1.0; confirm = q.1.1.0; buckets = q.1.1.1.0; users = q.1.1.1.1.0; postmaster = q.1.1.1.1.1 })
    (λ _. refl)

-- an id is stored as the pairs of its parts
abbrev pub id_code : Coded Id
id_code = code_by (ℕ × (ℕ × ℕ))
    (coded× coded_ℕ (coded× coded_ℕ coded_ℕ))
    (λ i. (i.node, (i.boot, i.seq)))
    (λ q. record { node = q.0; boot = q.1.0; seq = q.1.1 })
    (λ _. refl)
