use Rattle.std.proofs.Common.{◌++◌, ap, sym, ◌∙◌}
use Rattle.mail_model.specs.Record.{key_octets}
use Rattle.mail_base.specs.declared.key.Key.{Key}
use Rattle.mail_base.specs.Seen.{key_seen}
use Rattle.record_form.proofs.Pieces.{three_more}
use Rattle.record_form.proofs.writing.add_key.Goals as goal

pub returns-in_ok-add_id-in-Message : goal.returns-in_ok-add_id-in-Message
returns-in_ok-add_id-in-Message c =
    three_more _ _ _ _ _ _ _ c.in_ok-push-in-Message.ensures.items c.in_ok-add_name-in-Message.ensures c.in_ok-add_id-in-Message.ensures
    ∙ ap (λ (k : Key). c.args.out.now.items ++ key_octets (key_seen k)) (sym c.in-Message.is)
