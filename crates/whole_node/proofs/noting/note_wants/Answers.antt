use Rattle.std.proofs.Common.{◌≡◌, List, ◌+◌, ◌∷◌, ◌∙◌, ap, sym, subst, drop, length, [], arith}
use Rattle.std.specs.Prelude.{flat_map}
use Rattle.std.proofs.lemmas.List.{drop_more}
use Rattle.cluster_model.specs.Cluster.{Want}
use Rattle.whole_node.specs.Noting.{NotesCopies, copies_confirmed}
use Rattle.whole_node.proofs.Noted.{notes_both}
use Rattle.whole_node.proofs.noting.note_wants.Goals as goal

pub loop-want-preserved : goal.loop-want-preserved
loop-want-preserved c =
    let wants = c.args.wants.now in
    let want = c.want-item.result in
    let own = c.args.own in
    let rest = drop (c.loop-want.want-index + 1) wants in
    let is : drop c.loop-want.want-index wants ≡ want ∷ rest = drop_more wants c.loop-want.want-index want c.loop-want-test.true ∙ ap (λ (w : Want). w ∷ rest) (sym c.want-item.is) in
    λ records keeps final notes. c.loop-want.invariant records keeps final
    (subst (λ (l : List Want). NotesCopies records (flat_map (copies_confirmed own) l) c.loop-want.maps final) (sym is)
    (notes_both records (copies_confirmed own want) (flat_map (copies_confirmed own) rest) c.loop-want.maps c.note_want.new.maps final (c.in_ok-note_want.ensures records keeps) notes))
