use Rattle.std.proofs.Common.{◌≡◌, ◌<◌, ◌++◌, ◌∷◌, [], length, length-append, sym, ap, ◌∙◌, arith, ◌+◌}
use Rattle.std.proofs.lemmas.Map.Iter.{rest_more}
use Rattle.std.specs.Map.Iter.{deref_pair}
use Rattle.mail_base.specs.declared.key.Key.{Key}
use Rattle.update_log.proofs.Finds.{due_more}
use Rattle.update_log.proofs.log.due_in.Goals as goal

pub loop-key-preserved-in_ok-push : goal.loop-key-preserved-in_ok-push
loop-key-preserved-in_ok-push c =
    let added : c.push.new.self.items ≡ c.loop-key.keys.items ++ c.in-Some.key.now ∷ [] = c.in_ok-push.ensures.items ∙ ap (λ (k : Key). c.loop-key.keys.items ++ k ∷ []) c.in_ok-copy.ensures in
    let other = c.if-len-most.false in
    let counted = c.loop-key.keys.ok.0 in
    let room : length c.loop-key.keys.items < c.args.most = omega (arith, c.loop-key.invariant.few, counted, c.len.ensures, other) in
    let next = rest_more deref_pair _ _ _ (c.in-Some.key, c.in-Some.entry) c.in-Some.is c.next.ensures.steps in
    let more : length c.push.new.self.items ≡ length c.loop-key.keys.items + 1 = ap length added ∙ length-append c.loop-key.keys.items (c.in-Some.key.now ∷ []) in
    record {
      found = due_more c.args.to c.args.most c.loop-key.keys.items c.push.new.self.items c.in-Some.key.now c.in-Some.entry.now c.loop-key.key-iterator c.next.new.self _
          next (sym c.owes.ensures ∙ c.if-owes.true) added room c.loop-key.invariant.found;
      few = omega (arith, more, room);
    }
