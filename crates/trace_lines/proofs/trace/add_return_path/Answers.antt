use Rattle.std.proofs.Common.{◌∙◌, ap, sym, List, ℕ, [], ◌∷◌, ◌++◌, codes, append_assoc}
use Rattle.trace_lines.proofs.Pieces.{three_more}
use Rattle.trace_lines.proofs.trace.add_return_path.Goals as goal

pub returns : goal.returns
returns c =
    three_more _ _ _ _ _ _ _ c.in_ok-extend_from_slice.ensures.items c.in_ok-extend_from_slice-2.ensures.items c.in_ok-extend_from_slice-3.ensures.items
    ∙ ap (λ (l : List ℕ). c.args.out.now.items ++ l) (sym (append_assoc (codes "Return-Path: <" ++ c.args.sender.now) (62 ∷ []) (13 ∷ 10 ∷ [])))
