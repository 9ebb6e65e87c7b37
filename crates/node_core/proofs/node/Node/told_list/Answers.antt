use Rattle.std.proofs.Common.{List, sym, ap, subst, ◌∙◌}
use Rattle.object_model.specs.Letters.{ToldItem}
use Rattle.login_model.specs.Facts.{IsToldList}
use Rattle.node_core.specs.Listing.{copies_for}
use Rattle.node_core.proofs.Listing.{is_listing}
use Rattle.node_core.proofs.node.Node.told_list.Goals as goal

pub returns : goal.returns
returns c =
    let user = c.args.user.now in
    let found = c.in_ok-items.items.items in
    λ records k. subst (λ (l : List ToldItem). IsToldList user records l) (sym c.from_vec.ensures)
    (is_listing user records c.in_ok-ids.ids found c.put_in_order.new.items.items k.fit (c.in_ok-ids.ensures records k)
    (c.in_ok-items.ensures records k ∙ ap (copies_for user records) c.as_slice.ensures) c.put_in_order.ensures.same c.put_in_order.ensures.in_order)
