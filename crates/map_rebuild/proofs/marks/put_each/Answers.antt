use Rattle.std.proofs.Common.{◌||◌, List, ℕ, drop, ap, ◌∙◌, ◌+◌, arith}
use Rattle.map_rebuild.specs.Users.{has_user}
use Rattle.map_rebuild.proofs.Sets.{put_next, kept_others, at_item}
use Rattle.map_rebuild.proofs.marks.put_each.Goals as goal

pub returns-in_err-put-clause-others : goal.returns-in_err-put-clause-others
returns-in_err-put-clause-others c = kept_others (has_user c.args.marked.now.keys) (has_user c.put.new.marked.keys) c.args.users.now c.loop-user.user-index
    (λ q. ap (λ (ks : List (List ℕ)). has_user ks q || has_user (drop c.loop-user.user-index c.args.users.now) q) c.in_err-put.ensures.err ∙ c.loop-user.invariant.all q)

pub loop-user-preserved : goal.loop-user-preserved
loop-user-preserved c = record {
  all = put_next (has_user c.loop-user.marked.keys) (has_user c.put.new.marked.keys) (drop c.loop-user.user-index c.args.users.now) (drop (c.loop-user.user-index + 1) c.args.users.now) c.user-item.result
      (λ q. has_user c.args.marked.now.keys q || has_user c.args.users.now q) (at_item c.args.users.now c.loop-user.user-index c.user-item.result c.loop-user-test.true c.user-item.is) c.in_ok-put.ensures.ok c.loop-user.invariant.all;
  more = omega (arith, c.loop-user.invariant.more, c.put.ensures.more);
  few = omega (arith, c.loop-user.invariant.few, c.put.ensures.few);
}
