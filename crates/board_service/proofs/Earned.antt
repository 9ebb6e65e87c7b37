-- What the passes of a service came to know.
use Rattle.std.proofs.Common.{◌≡◌, ◌+◌, ℕ, Bool, cond, List, [], ◌∷◌, ◌++◌, Option, Some, None, refl, sym, ap, ◌∙◌, subst, arith}
use Rattle.std.specs.Prelude.{min}
use Rattle.mail_model.specs.Book.{BookEntry}
use Rattle.mail_model.specs.Plan.{Plan}
use Rattle.node_store.specs.Disks.{View}
use Rattle.cluster_world.specs.declared.world.World.{World}
use Rattle.mail_service.specs.declared.backend.Line.{Line}
use Rattle.turnstile.specs.Passes.{own_entries as own_pages, joined_entries as joined_pages}
use Rattle.shard_board.specs.declared.board.Board.{Board}
use Rattle.shard_board.specs.declared.board.BoardPass.{BoardPass}
use Rattle.shard_board.specs.Boards.{IsPassOf, IsNewBoard, IsSplitOf, TakesInPass, ClosesWith, first_world, own_entries, joined_entries}
use Rattle.shard_board.proofs.Paged.{pass_tells}
use Rattle.board_desk.specs.Desks.{told_entries}
use Rattle.board_service.specs.declared.pass.ServicePass.{ServicePass}
use Rattle.board_service.specs.Disks.{EachTells}
use Rattle.board_service.specs.Visits.{Visit, WasServed, IsStill, ComesOf, IsEarned, AllEarned}
use Rattle.board_service.specs.Passes.{most, IsServicePass, StaysPass, GoesStill}
use Rattle.board_service.specs.Serving.{Serves, visit_of}
use Rattle.board_service.specs.Served.{HasServed}
use Rattle.board_service.proofs.Still.{still_same, still_both}

-- counts that stay at their greatest
one_more : (served visits next : ℕ) → served ≡ min visits most → next ≡ min (served + 1) most → next ≡ min (visits + 1) most
one_more served visits next is then = omega (arith, is, then)

both_counted : (a b m n next : ℕ) → a ≡ min m most → b ≡ min n most → next ≡ min (a + b) most → next ≡ min (m + n) most
both_counted a b m n next p q then = omega (arith, p, q, then)

-- where each disk tells what it holds, a pass tells its own entries
told_is : {D F C : Type 0} (seen : D → Option (List ℕ)) → EachTells seen → (pass : BoardPass D F C) → told_entries seen pass ≡ Some (own_entries pass)
told_is seen each pass = ap (λ (tells : Bool). cond tells (Some (own_entries pass)) None) (pass_tells seen pass each).0

module _ (plan : Plan) where
  comes_on : (visits : List Visit) (old new : Option (List BookEntry)) → IsStill old new → ComesOf plan visits old → ComesOf plan visits new
  comes_on [] old new still comes = still_both (Some []) old new comes still
  comes_on (visit ∷ earlier) old new still (last, served, before) = (still_both visit.told1 old new last still, served, before)

module _ {D : Type 0} (seen : D → Option (List ℕ)) (plan : Plan) where
  earned_on : (old new : List BookEntry) (count : ℕ) → (EachTells seen → IsStill (Some old) (Some new)) → IsEarned seen plan old count → IsEarned seen plan new count
  earned_on old new count still was = record {
    visits = was.visits;
    count_is = was.count_is;
    served = was.served;
    comes = λ each. comes_on plan was.visits (Some old) (Some new) (still each) (was.comes each);
  }

  -- the first of the lists went on
  first_on : (old new : List BookEntry) (more : List (List BookEntry)) (count : ℕ) → (EachTells seen → IsStill (Some old) (Some new)) → AllEarned seen plan (old ∷ more) count
      → AllEarned seen plan (new ∷ more) count
  first_on old new more count still (here, rest, sum, was, others) = (here, rest, sum, earned_on old new here still was, others)

  -- and one connection more came to know it
  visit_more : (visit : Visit) (old new : List BookEntry) (joined : List (List BookEntry)) (count : ℕ) → WasServed plan visit
      → (EachTells seen → (visits : List Visit) → ComesOf plan visits (Some old) → ComesOf plan (visit ∷ visits) (Some new)) → AllEarned seen plan (old ∷ joined) count
      → AllEarned seen plan (new ∷ joined) (count + 1)
  visit_more visit old new joined count served comes (here, rest, sum, is, others) = (
    here + 1,
    rest,
    omega (arith, sum),
    record { visits = visit ∷ is.visits; count_is = omega (arith, is.count_is); served = (served, is.served); comes = λ each. comes each is.visits (is.comes each) },
    others,
  )

  -- a pass that has done nothing
  nothing_earned : AllEarned seen plan ([] ∷ []) 0
  nothing_earned = (0, 0, refl, record { visits = []; count_is = refl; served = tt; comes = λ each. still_same (Some []) }, refl)

  all_earned : (front more : List (List BookEntry)) (m n : ℕ) → AllEarned seen plan front m → AllEarned seen plan more n → AllEarned seen plan (front ++ more) (m + n)
  all_earned [] more m n none b = subst (λ k. AllEarned seen plan more k) (omega (arith, none)) b
  all_earned (entries ∷ front) more m n (here, rest, sum, is, others) b = (here, rest + n, omega (arith, sum), is, all_earned front more rest n others b)

  -- it is so of lists that are the same
  same_earned : (own own' : List BookEntry) (joined joined' : List (List BookEntry)) (count : ℕ) → own' ≡ own → joined' ≡ joined → AllEarned seen plan (own ∷ joined) count
      → AllEarned seen plan (own' ∷ joined') count
  same_earned own own' joined joined' count p q earned = subst (λ (l : List BookEntry). AllEarned seen plan (l ∷ joined') count) (sym p)
      (subst (λ (ls : List (List BookEntry)). AllEarned seen plan (own ∷ ls) count) (sym q) earned)

module _ {D F C : Type 0} (on : View D) (board : Board D F C) (plan : Plan) where
  -- it went on, and nothing was acknowledged or struck
  pub service_goes : (old new : ServicePass D F C) → IsServicePass on board plan old → GoesStill on board old.board new.board → new.served ≡ old.served → IsServicePass on board plan new
  service_goes old new was goes same = record {
    belongs = goes.stays.belongs;
    visits = was.visits;
    served_is = same ∙ was.served_is;
    earned = same_earned on.seen plan (own_entries new.board) (own_entries new.board) (joined_entries old.board) (joined_entries new.board) was.visits refl goes.stays.joined_is
        (first_on on.seen plan (own_entries old.board) (own_entries new.board) (joined_entries old.board) was.visits goes.still was.earned);
  }

  -- a connection was served in its name
  pub service_serves : (old new : ServicePass D F C) (line : Line) (left0 left1 held0 held1 : Option (List ℕ)) → IsServicePass on board plan old → StaysPass on board old.board new.board
      → Serves on.seen plan old.board line left0 left1 held0 held1 new.board → new.served ≡ min (old.served + 1) most → IsServicePass on board plan new
  service_serves old new line left0 left1 held0 held1 was stays (ended, served) counts = record {
    belongs = stays.belongs;
    visits = was.visits + 1;
    served_is = one_more old.served was.visits new.served was.served_is counts;
    earned = same_earned on.seen plan (own_entries new.board) (own_entries new.board) (joined_entries old.board) (joined_entries new.board) (was.visits + 1) refl stays.joined_is
        (visit_more on.seen plan (visit_of on.seen old.board line ended left0 left1 held0 held1 new.board) (own_entries old.board) (own_entries new.board) (joined_entries old.board) was.visits served
        (λ each visits comes. (
          subst (λ told. IsStill (told_entries on.seen new.board) told) (told_is on.seen each new.board) (still_same (told_entries on.seen new.board)),
          served,
          subst (ComesOf plan visits) (sym (told_is on.seen each old.board)) comes,
        )) was.earned);
  }

  pub service_splits : (part : ℕ) (old new other : ServicePass D F C) → IsServicePass on board plan old → IsPassOf on board new.board × IsPassOf on board other.board
      → IsSplitOf board part old.board new.board other.board → new.served ≡ old.served → other.served ≡ 0 → IsServicePass on board plan new × IsServicePass on board plan other
  service_splits part old new other was belong split same none = (
    record {
      belongs = belong.0;
      visits = was.visits;
      served_is = same ∙ was.served_is;
      earned = same_earned on.seen plan (own_entries old.board) (own_entries new.board) (joined_entries old.board) (joined_entries new.board) was.visits split.own_is.0 split.joined_is.0 was.earned;
    },
    record {
      belongs = belong.1;
      visits = 0;
      served_is = none;
      earned = same_earned on.seen plan [] (own_entries other.board) [] (joined_entries other.board) 0 split.own_is.1 split.joined_is.1 (nothing_earned on.seen plan);
    },
  )

  pub service_joins : (old other new : ServicePass D F C) → IsServicePass on board plan old → IsServicePass on board plan other → IsPassOf on board new.board
      → TakesInPass board old.board other.board new.board → new.served ≡ min (old.served + other.served) most → IsServicePass on board plan new
  service_joins old other new was beside belongs takes counts = record {
    belongs = belongs;
    visits = was.visits + beside.visits;
    served_is = both_counted old.served other.served was.visits beside.visits new.served was.served_is beside.served_is counts;
    earned = same_earned on.seen plan (own_entries old.board) (own_entries new.board) (joined_entries old.board ++ own_entries other.board ∷ joined_entries other.board) (joined_entries new.board)
        (was.visits + beside.visits) takes.own_is takes.joined_is
        (all_earned on.seen plan (own_entries old.board ∷ joined_entries old.board) (own_entries other.board ∷ joined_entries other.board) was.visits beside.visits was.earned beside.earned);
  }

  -- the first pass of a board
  pub service_begins : (world : World D) (passes : ℕ) (pass : ServicePass D F C) → IsNewBoard on world passes board pass.board → pass.served ≡ 0
      → IsServicePass on board plan pass
  service_begins world passes pass made none = record {
    belongs = made.belongs;
    visits = 0;
    served_is = none;
    earned = same_earned on.seen plan [] (own_entries pass.board) [] (joined_entries pass.board) 0 made.own_is made.joined_is (nothing_earned on.seen plan);
  }

  -- and the last
  abbrev pub service_ends : (pass : ServicePass D F C) (world : World D) → (was : IsServicePass on board plan pass) → ClosesWith on board pass.board world → HasServed on plan (first_world board) world
  service_ends pass world was closed = record {
    plan_is = closed.plan;
    ready = closed.ready;
    pages = own_pages pass.board.lower ∷ joined_pages pass.board.lower;
    sound = closed.sound;
    shares = closed.shares;
    count = was.visits;
    earned = was.earned;
  }
