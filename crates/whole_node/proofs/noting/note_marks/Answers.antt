use Rattle.std.proofs.Common.{◌≡◌, List, ◌+◌, ◌∷◌, ◌∙◌, ap, sym, subst, map, drop}
use Rattle.std.proofs.lemmas.List.{drop_more}
use Rattle.object_model.specs.Letters.{DeletionMark}
use Rattle.whole_node.specs.Noting.{NotesCopies}
use Rattle.whole_node.proofs.noting.note_marks.Goals as goal

pub loop-mark-preserved : goal.loop-mark-preserved
loop-mark-preserved c =
    let marks = c.args.marks.now in
    let mark = c.mark-item.result in
    let rest = drop (c.loop-mark.mark-index + 1) marks in
    let is : drop c.loop-mark.mark-index marks ≡ mark ∷ rest = drop_more marks c.loop-mark.mark-index mark c.loop-mark-test.true ∙ ap (λ (m : DeletionMark). m ∷ rest) (sym c.mark-item.is) in
    λ records keeps final notes. c.loop-mark.invariant records keeps final
    (subst (λ (l : List DeletionMark). NotesCopies records (map (λ mark. (c.args.user.now, mark.id)) l) c.loop-mark.maps final) (sym is) (c.note_mark.new.maps, c.in_ok-note_mark.ensures records keeps, notes))
