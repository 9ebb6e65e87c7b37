use Rattle.std.proofs.Common.{◌∙◌, ap, ℕ, [], ◌∷◌}
use Rattle.std.specs.Int.{to_be_bytes, w16}
use Rattle.mail_model.specs.Identity.{State}
use Rattle.mail_model.specs.Record.{rank_of, secret_octets}
use Rattle.record_form.specs.Reading.{stamp_octets}
use Rattle.record_form.proofs.Pieces.{four_are}
use Rattle.record_form.proofs.writing.add_state.Goals as goal

pub returns : goal.returns
returns c = four_are _ _ _ _ _ _ _ _ _ (rank_of c.args.state.now.value ∷ []) (stamp_octets c.args.state.now.stamp) (to_be_bytes w16 c.args.state.now.targets) (secret_octets c.args.state.now.value)
    c.in_ok-push.ensures.items c.in_ok-add_stamp.ensures c.in_ok-extend_from_slice.ensures.items c.in_ok-add_secret_of.ensures
    (ap (λ (n : ℕ). n ∷ []) (c.rank_of.ensures ∙ ap (λ (s : State). rank_of s.value) c.state.view_is))
    (ap (λ (s : State). stamp_octets s.stamp) c.state.view_is)
    (c.to_be_bytes.ensures ∙ ap (to_be_bytes w16) (c.mask.ensures ∙ ap (λ (s : State). s.targets) c.state.view_is))
    (ap (λ (s : State). secret_octets s.value) c.state.view_is)
