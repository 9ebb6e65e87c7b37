use Rattle.std.proofs.Common.{◌≡◌, ◌||◌, ◌&&◌, ℕ, Some, drop, nat_eq}
use Rattle.std.specs.List.{list_any}
use Rattle.object_model.specs.Sets.{has}
use Rattle.object_model.specs.Letters.{Member}
use Rattle.maps_model.specs.Cluster.{is_full}
use Rattle.mail_map.specs.Rows.{row_of_teller}
use Rattle.mail_map.proofs.rows.named_in.Given as goal

abbrev pub invariant-loop-member : goal.invariant-loop-member
invariant-loop-member l = (n : ℕ) → (has l.named n || list_any (λ (member : Member). nat_eq n member.node && is_full (row_of_teller (Some l.rows) member.node member.boot)) (drop l.member-index l.members))
    ≡ list_any (λ (member : Member). nat_eq n member.node && is_full (row_of_teller (Some l.rows) member.node member.boot)) l.members
