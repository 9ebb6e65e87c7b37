use Rattle.std.proofs.Common.{◌≡◌, ℕ, List, ◌+◌, ◌∷◌, ◌∙◌, ap, sym, subst, map, drop}
use Rattle.std.proofs.lemmas.List.{drop_more}
use Rattle.whole_node.specs.Noting.{NotesCopies}
use Rattle.whole_node.proofs.noting.note_users.Goals as goal

pub loop-user-preserved : goal.loop-user-preserved
loop-user-preserved c =
    let users = c.args.users.now in
    let user = c.user-item.result in
    let rest = drop (c.loop-user.user-index + 1) users in
    let is : drop c.loop-user.user-index users ≡ user ∷ rest = drop_more users c.loop-user.user-index user c.loop-user-test.true ∙ ap (λ (u : List ℕ). u ∷ rest) (sym c.user-item.is) in
    λ records keeps final notes. c.loop-user.invariant records keeps final
    (subst (λ (l : List (List ℕ)). NotesCopies records (map (λ user. (user, c.args.id)) l) c.loop-user.maps final) (sym is) (c.note_copy.new.maps, c.in_ok-note_copy.ensures records keeps, notes))
