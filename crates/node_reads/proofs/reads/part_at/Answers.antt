use Rattle.std.proofs.Common.{[], sym, ap, ◌∙◌, subst, refl}
use Rattle.std.specs.Option.{option_copied_mut, IsSome}
use Rattle.mail_base.specs.Bodies.{part_seen}
use Rattle.object_model.specs.Letters.Body.{FetchTold}
use Rattle.node_reads.specs.Tickets.{ticket_told}
use Rattle.node_reads.specs.Tables.{seen}
use Rattle.node_reads.proofs.Changes.{changed, unchanged}
use Rattle.node_reads.proofs.reads.part_at.Goals as goal

pub returns-in-Some : goal.returns-in-Some
returns-in-Some c = λ u mine.
    let found = sym (ap option_copied_mut c.in-Some.is) ∙ c.get_mut.ensures.value in
    changed (ticket_told u c.args.from mine (FetchTold (part_seen c.args.part))) _ _ c.args.seq _ c.hear_part.new.self [] found (c.hear_part.ensures u mine) ((c.get_mut.follows.holds c.hear_part.new.self).3 (subst IsSome found refl)).0

pub returns-in-None : goal.returns-in-None
returns-in-None c = λ u mine.
    unchanged (ticket_told u c.args.from mine (FetchTold (part_seen c.args.part))) _ c.args.seq (sym (ap option_copied_mut c.in-None.is) ∙ c.get_mut.ensures.value)
    ∙ ap (λ m. record { reads = seen m.entries; out = [] }) (sym c.get_mut.follows.holds-at-none)
