use Rattle.std.proofs.Common.{◌≡◌, ◌<◌, ◌++◌, ◌∷◌, [], List, ℕ, length, length-append, sym, ap, ◌∙◌, arith, ◌+◌}
use Rattle.std.proofs.lemmas.Map.Iter.{rest_more}
use Rattle.std.specs.Map.Iter.{deref}
use Rattle.user_map.specs.Managers.{is_managed_by}
use Rattle.map_rebuild.proofs.Sets.{due_more}
use Rattle.map_rebuild.proofs.marks.due_in.Goals as goal

pub loop-user-preserved-in_ok-push : goal.loop-user-preserved-in_ok-push
loop-user-preserved-in_ok-push c =
    let added : c.push.new.self ≡ c.loop-user.users ++ c.in-Some.user.now ∷ [] = c.in_ok-push.ensures.ok ∙ ap (λ (u : List ℕ). c.loop-user.users ++ u ∷ []) c.in_ok-copy.ensures in
    let other = c.if-len-most.false in
    let room : length c.loop-user.users < c.args.most = omega (arith, c.loop-user.invariant.few, c.len.ensures, other) in
    let next = rest_more deref _ _ _ c.in-Some.user c.in-Some.is c.next.ensures.steps in
    let more : length c.push.new.self ≡ length c.loop-user.users + 1 = ap length added ∙ length-append c.loop-user.users (c.in-Some.user.now ∷ []) in
    record {
      found = due_more (is_managed_by c.args.map.now c.args.to) c.args.most c.loop-user.users c.push.new.self c.in-Some.user.now c.loop-user.user-iterator c.next.new.self _
          next (sym c.manages.ensures ∙ c.if-manages.true) added room c.loop-user.invariant.found;
      few = omega (arith, more, room);
    }
