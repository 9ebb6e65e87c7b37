use Rattle.std.proofs.Common.{◌||◌, ◌&&◌, not, List, ℕ, ap, ◌∙◌}
use Rattle.map_rebuild.specs.Users.{has_user}
use Rattle.map_rebuild.proofs.Sets.{fresh_adds, taken_back}
use Rattle.map_rebuild.proofs.marks.put_all.Goals as goal

pub returns-in-Ok-clause-all : goal.returns-in-Ok-clause-all
returns-in-Ok-clause-all c = λ q.
    c.in-Ok.ensures.all q
    ∙ ap (λ (l : List (List ℕ)). has_user c.args.marked.now.keys q || has_user l q) (c.deref.ensures.value ∙ c.in_ok-fresh.ensures.those)
    ∙ fresh_adds (has_user c.args.marked.now.keys) c.args.users.now q

pub returns-clause-err : goal.returns-clause-err
returns-clause-err c =
    taken_back (has_user c.args.marked.now.keys) (has_user c.put_each.new.marked.keys) (has_user c.take_each.new.marked.keys) c.args.users.now
    (λ q none. c.in-Err.ensures.others q (ap (λ (l : List (List ℕ)). has_user l q) (c.deref.ensures.value ∙ c.in_ok-fresh.ensures.those) ∙ none))
    (λ q. c.take_each.ensures q ∙ ap (λ (l : List (List ℕ)). has_user c.put_each.new.marked.keys q && not (has_user l q)) (c.deref-in-Err.ensures.value ∙ c.in_ok-fresh.ensures.those))
