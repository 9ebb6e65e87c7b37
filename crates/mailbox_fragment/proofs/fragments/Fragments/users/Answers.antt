use Rattle.std.proofs.Common.{ap, ◌∙◌, List, ℕ}
use Rattle.std.specs.Ordering.{nat_cmp, eq_by_cmp}
use Rattle.std.specs.Cmp.Lexicographic.{slice_cmp}
use Rattle.std.specs.List.{list_any}
use Rattle.mailbox_fragment.proofs.Full.{full_found}
use Rattle.mailbox_fragment.proofs.fragments.Fragments.users.Goals as goal

pub returns : goal.returns
returns c = λ user. ap (λ (l : List (List ℕ)). list_any (eq_by_cmp (slice_cmp nat_cmp) user) l) c.in_ok-users.ensures.names ∙ full_found c.args.self.now.users c.full_users.ensures.ordered user
