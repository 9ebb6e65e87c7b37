use Rattle.std.proofs.Common.{◌∙◌, ap, ℕ, [], ◌∷◌}
use Rattle.std.specs.Int.{to_be_bytes, w32, w64}
use Rattle.record_form.proofs.Pieces.{three_are}
use Rattle.record_form.proofs.writing.add_id.Goals as goal

pub returns : goal.returns
returns c = three_are _ _ _ _ _ _ _ (c.args.id.node ∷ []) (to_be_bytes w32 c.args.id.boot) (to_be_bytes w64 c.args.id.seq)
    c.in_ok-push.ensures.items c.in_ok-extend_from_slice.ensures.items c.in_ok-extend_from_slice-2.ensures.items
    (ap (λ (n : ℕ). n ∷ []) (c.number.ensures.number ∙ c.node.ensures))
    (c.to_be_bytes.ensures ∙ ap (to_be_bytes w32) c.boot.ensures.boot)
    (c.to_be_bytes-2.ensures ∙ ap (to_be_bytes w64) c.seq.ensures.seq)
