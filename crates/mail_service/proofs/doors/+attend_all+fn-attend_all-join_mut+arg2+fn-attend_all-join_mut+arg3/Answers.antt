use Rattle.std.proofs.Common.{rules, ◌≡◌, ◌++◌, subst, sym}
use Rattle.mail_service.specs.Entrances.{AllMet, IsLater, AllEndSo, worse}
use Rattle.mail_service.proofs.Pairs.{all_joined, end_joined}
use Rattle.mail_service.proofs.doors.+attend_all+fn-attend_all-join_mut+arg2+fn-attend_all-join_mut+arg3.Goals as goal

pub returns-clause-later : goal.returns-clause-later
returns-clause-later g t c =
    let front : AllMet (IsLater g.G.Door.quiets g.G.Door.faults) c.split_at_mut-front.result.0.now c.front-1.given.0 = search rules in
    let back : AllMet (IsLater g.G.Door.quiets g.G.Door.faults) c.split_at_mut-front.result.1.now c.back-1.given.0 = search rules in
    let whole : c.split_at_mut-front.result.0.now ++ c.split_at_mut-front.result.1.now ≡ c.args.entrances.now = search rules in
    subst (λ all. AllMet (IsLater g.G.Door.quiets g.G.Door.faults) all (c.front-1.given.0 ++ c.back-1.given.0)) whole (all_joined _ _ _ _ _ front back)

pub returns-clause-end : goal.returns-clause-end
returns-clause-end g t c =
    let front : AllMet (IsLater g.G.Door.quiets g.G.Door.faults) c.split_at_mut-front.result.0.now c.front-1.given.0 = search rules in
    let first : AllEndSo g.G.Door.left g.G.Door.quiets g.G.Door.faults c.join_mut-first.result.0 c.split_at_mut-front.result.0.now c.front-1.given.0 = search rules in
    let second : AllEndSo g.G.Door.left g.G.Door.quiets g.G.Door.faults c.join_mut-first.result.1 c.split_at_mut-front.result.1.now c.back-1.given.0 = search rules in
    let whole : c.split_at_mut-front.result.0.now ++ c.split_at_mut-front.result.1.now ≡ c.args.entrances.now = search rules in
    subst (λ end. AllEndSo g.G.Door.left g.G.Door.quiets g.G.Door.faults end c.args.entrances.now (c.front-1.given.0 ++ c.back-1.given.0)) (sym c.worse.ensures)
    (subst (λ all. AllEndSo g.G.Door.left g.G.Door.quiets g.G.Door.faults (worse c.join_mut-first.result.0 c.join_mut-first.result.1) all (c.front-1.given.0 ++ c.back-1.given.0)) whole
    (end_joined g.G.Door.left g.G.Door.quiets g.G.Door.faults c.join_mut-first.result.0 c.join_mut-first.result.1 _ _ _ _ front first second))
