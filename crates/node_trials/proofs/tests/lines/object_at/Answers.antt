use Rattle.std.proofs.Common.{sym, subst}
use Rattle.mail_model.specs.Identity.{State}
use Rattle.mail_model.specs.Identity.Key.{Profile, Message}
use Rattle.mail_model.specs.Grammar.{IsObject}
use Rattle.node_trials.proofs.tests.lines.object_at.Goals as goal

pub returns-then-at-eq120 : goal.returns-then-at-eq120
returns-then-at-eq120 c =
    subst (λ (s : State). IsObject (Profile c.in_ok-ann.ann) s) (sym c.new-state.ensures) (record {
      key_fits = c.is_name.ensures;
      state_fits = record { value = c.is_fit.ensures; stamp = c.stamp_at-stamp.ensures; targets = (c.targets_at-targets.ensures.some, c.targets_at-targets.ensures.bound) };
      kind = tt;
    })

pub returns-then-at-eq103 : goal.returns-then-at-eq103
returns-then-at-eq103 c =
    subst (λ (s : State). IsObject (Message c.in_ok-ann.ann c.id_at-id.result) s) (sym c.new.ensures) (record {
      key_fits = (c.is_name.ensures, c.is_id.ensures);
      state_fits = record { value = tt; stamp = c.stamp_at-stamp.ensures; targets = (c.targets_at-targets.ensures.some, c.targets_at-targets.ensures.bound) };
      kind = tt;
    })

pub returns : goal.returns
returns c =
    subst (λ (s : State). IsObject (Message c.in_ok-ann.ann c.id_at-id.result) s) (sym c.new-2.ensures) (record {
      key_fits = (c.is_name.ensures, c.is_id.ensures);
      state_fits = record { value = tt; stamp = c.stamp_at-stamp.ensures; targets = (c.targets_at-targets.ensures.some, c.targets_at-targets.ensures.bound) };
      kind = tt;
    })
