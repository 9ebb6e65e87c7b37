use Rattle.std.proofs.Common.{◌∙◌, ap, [], ◌∷◌}
use Rattle.std.specs.Int.{to_be_bytes, w32, w64}
use Rattle.mail_model.specs.Identity.{Stamp}
use Rattle.record_form.proofs.Pieces.{three_are}
use Rattle.record_form.proofs.writing.add_stamp.Goals as goal

pub returns : goal.returns
returns c = three_are _ _ _ _ _ _ _ (to_be_bytes w64 c.args.stamp.count) (to_be_bytes w32 c.args.stamp.boot) (c.args.stamp.node ∷ [])
    c.in_ok-extend_from_slice.ensures.items c.in_ok-extend_from_slice-2.ensures.items c.in_ok-push.ensures.items
    (c.to_be_bytes.ensures ∙ ap (λ (s : Stamp). to_be_bytes w64 s.count) c.stamp.view_is)
    (c.to_be_bytes-2.ensures ∙ ap (λ (s : Stamp). to_be_bytes w32 s.boot) c.stamp.view_is)
    (ap (λ (s : Stamp). s.node ∷ []) c.stamp.view_is)
