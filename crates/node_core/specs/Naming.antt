-- The greatest number that a node knows of.
use Rattle.std.specs.Prelude.{ℕ, max, ◌&&◌, nat_eq, if◌then◌else◌}
use Rattle.mail_model.specs.Identity.{Id}

-- of messages: the number of this one counts where the node drew it in this boot
abbrev pub knowing_id : ℕ → ℕ → ℕ → Id → ℕ
knowing_id own boot drawn id = max drawn (if nat_eq id.node own && nat_eq id.boot boot then id.seq else 0)
