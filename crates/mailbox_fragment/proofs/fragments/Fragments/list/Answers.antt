use Rattle.std.proofs.Common.{sym, ap, ◌∙◌}
use Rattle.std.specs.Option.{option_copied}
use Rattle.mailbox_fragment.proofs.OneUser.{lists_none}
use Rattle.mailbox_fragment.proofs.fragments.Fragments.list.Goals as goal

pub returns-in-None : goal.returns-in-None
returns-in-None c =
    let nothing = lists_none c.new.result _ c.new.ensures (sym (ap option_copied c.in-None.is) ∙ c.get.ensures.value) in
    record { in_order = nothing.0; those = nothing.1 }
