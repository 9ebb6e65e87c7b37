-- The laws.
use Rattle.std.proofs.Common.{inl, inr, ⊎_elim, ℕ, List, [], ◌∷◌, ◌++◌, flat_map, refl, sym, subst}
use Rattle.object_model.specs.Lists.{Among}
use Rattle.object_model.specs.Letters.{Number}
use Rattle.session_model.specs.Calls.{Call, Answer}
use Rattle.joint_world.specs.World.{mail_world_of}
use Rattle.session_model.specs.Logs.{Answered}
use Rattle.session_model.specs.Books.{AmongAnswers}
use Rattle.cluster_owes.specs.Outcomes.{Outcome, asked_by_outcome, answered_by_outcome}
use Rattle.cluster_owes.specs.Outcomes.Outcome.{Answers}
use Rattle.cluster_owes.specs.Laws.{ClusterOwes, AnswersFit}
use Rattle.cluster_owes.proofs.Chain.{known_last}
use Rattle.cluster_owes.proofs.Owing.{one_content, all_standing, owes_stored, owes_deletions, owes_listings, owes_parts, owes_book}

pub cluster_owes : ClusterOwes
cluster_owes plan tells map lines stores disks outcomes last some few managers makes sessions held are counted =
    let all = known_last plan tells lines map some few managers outcomes last sessions makes in
    let w = mail_world_of last in
    let known = all.1.known in
    let asked = flat_map asked_by_outcome outcomes in
    let answered = flat_map answered_by_outcome outcomes in
    record {
      holds = are;
      one_content = one_content plan tells lines asked answered all.0 w known stores disks held are counted;
      acks = known.told;
      confirmers = (all_standing plan tells lines asked answered all.0 w known stores disks held are counted).confirmers;
      stored = owes_stored plan tells lines asked answered all.0 w known stores disks held are counted;
      deletions = owes_deletions plan tells lines asked answered all.0 w known stores disks held are counted;
      listings = owes_listings plan tells lines asked answered all.0 w known stores disks held are counted;
      parts = owes_parts plan tells lines asked answered all.0 w known stores disks held are counted;
      books = owes_book plan tells lines asked answered all.0 w known stores disks held are counted;
    }

-- an answer of one of the steps is one of all
among_behind : (one : Answered) (front back : List Answered) → AmongAnswers one back → AmongAnswers one (front ++ back)
among_behind one [] back m = m
among_behind one (first ∷ front) back m = inr (among_behind one front back m)

among_front : (one : Answered) (front back : List Answered) → AmongAnswers one front → AmongAnswers one (front ++ back)
among_front one [] back m = absurd m
among_front one (first ∷ front) back m = ⊎_elim (λ e. inl e) (λ later. inr (among_front one front back later)) m

answer_among : (outcomes : List Outcome) (k : ℕ) (asked : Call) (ticket : Number) (given : Answer) → Among (Answers k asked ticket given) outcomes
    → AmongAnswers (record { session = k; call = asked; answer = given }) (flat_map answered_by_outcome outcomes)
answer_among [] k asked ticket given m = absurd m
answer_among (outcome ∷ outcomes) k asked ticket given m = ⊎_elim
    (λ same. among_front (record { session = k; call = asked; answer = given }) (answered_by_outcome outcome) (flat_map answered_by_outcome outcomes)
    (subst (λ (o : Outcome). AmongAnswers (record { session = k; call = asked; answer = given }) (answered_by_outcome o)) (sym same) (inl refl)))
    (λ later. among_behind (record { session = k; call = asked; answer = given }) (answered_by_outcome outcome) (flat_map answered_by_outcome outcomes) (answer_among outcomes k asked ticket given later))
    m

pub answers_fit : AnswersFit
answers_fit plan tells map lines outcomes last some few managers makes sessions k asked ticket given m =
    let all = known_last plan tells lines map some few managers outcomes last sessions makes in
    (all.1.known.answers (record { session = k; call = asked; answer = given }) (answer_among outcomes k asked ticket given m)).0
