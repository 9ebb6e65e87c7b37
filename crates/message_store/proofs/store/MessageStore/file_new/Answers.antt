use Rattle.std.specs.Ordering.{eq_by_cmp}
use Rattle.mail_base.specs.Orders.{id_cmp}
use Rattle.message_store.proofs.Messages.{put_twice}
use Rattle.message_store.proofs.store.MessageStore.file_new.Goals as goal

pub returns-in-Ok-clause-noted : goal.returns-in-Ok-clause-noted
returns-in-Ok-clause-noted g c =
    let put = c.in-Ok.ensures.put in
    (put.0, put.1, put.2, λ other. put_twice (eq_by_cmp id_cmp c.args.id other) put.0 _ _ _ _ _ (put.3 other) (c.in_ok-put.ensures.put other) c.requires.new)
