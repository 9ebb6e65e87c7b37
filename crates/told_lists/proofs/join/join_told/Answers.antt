use Rattle.std.proofs.Common.{◌≡◌, List, map, sym, ap, subst, ◌∙◌}
use Rattle.std.specs.List.Sorted.{IsPermutation}
use Rattle.std.proofs.lemmas.Result.{IfOk-weaker}
use Rattle.mail_base.specs.declared.item.Item.{Item}
use Rattle.login_model.specs.Listing.{IsMergeOfTold}
use Rattle.told_lists.specs.Joining.{login_item, runs_of}
use Rattle.told_lists.proofs.Listed.{is_merge}
use Rattle.told_lists.proofs.join.join_told.Goals as goal

pub returns : goal.returns
returns c =
    let told = c.args.told.now in
    let sorted = c.sort_by_id.new.items.items in
    let final = c.sort_by_stamp.new.items.items in
    let moved = subst (λ (l : List Item). IsPermutation l sorted) c.in_ok-all.ensures c.sort_by_id.ensures.same in
    let again = subst (λ (l : List Item). IsPermutation l final) (c.in_ok-joined.ensures ∙ ap runs_of c.deref.ensures.value) c.sort_by_stamp.ensures.same in
    IfOk-weaker c.items_of.result _ _
    (λ items is. subst (λ (l : List Item). IsMergeOfTold told (map login_item l)) (sym (is ∙ c.deref-2.ensures.value))
    (is_merge told sorted final c.are_of_nodes.ensures moved c.sort_by_id.ensures.in_order again c.sort_by_stamp.ensures.in_order))
    c.items_of.ensures
