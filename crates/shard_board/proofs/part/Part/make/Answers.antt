use Rattle.std.proofs.Common.{refl, sym, ap, ◌∙◌, ◌∷◌, ◌++◌, []}
use Rattle.node_store.specs.Disks.{view_of}
use Rattle.shard_board.specs.Pages.{is_known_over}
use Rattle.shard_board.specs.declared.page.Page.{Page}
use Rattle.shard_board.proofs.Known.{page_keeps}
use Rattle.shard_board.proofs.part.Part.make.Goals as goal

pub returns-clause-keeps : goal.returns-clause-keeps
returns-clause-keeps g c =
    let page : Page g.row.D.Denot = record { before = c.of-before.result; after = c.of-after.result; blind = c.of-blind.result } in
    page_keeps (view_of g.D.Disk.seen g.D.Disk.faults g.D.Disk.clock) c.args.self.now _ page
    (c.push_reserved.ensures.items ∙ ap (λ pages. pages ++ page ∷ []) c.reserve.ensures.items) refl c.act-out.ensures.plan c.act-out.ensures.ready
    (λ known. c.act-out.ensures.sound
    (sym (ap (λ b. is_known_over g.D.Disk.seen b c.args.self.now.world) (c.of-blind.ensures ∙ c.is_blind-blind.ensures ∙ ap (λ plan. g.T.Deed.blind c.args.deed plan.nodes) (c.behind-self.view_is ∙ c.plan.ensures)))
    ∙ sym (ap (λ w. is_known_over g.D.Disk.seen c.of-blind.result.value w) c.of-before.ensures) ∙ known))
