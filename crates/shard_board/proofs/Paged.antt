-- Books and their pages: what a turn, a split, a join and the end of a board say of the book.
use Rattle.std.proofs.Common.{◌≡◌, ℕ, Bool, true, false, ◌&&◌, cond, List, [], ◌∷◌, ◌++◌, map, length, drop, Option, refl, sym, ap, ◌∙◌, subst, append-nil, append_assoc, arith}
use Rattle.std.specs.Prelude.{nat_le, is_some}
use Rattle.std.specs.List.{list_all}
use Rattle.std.proofs.lemmas.Bool.{and_parts}
use Rattle.std.proofs.lemmas.List.Folds.{list_all-append}
use Rattle.std.proofs.Math.Seq.{drop-append_seam}
use Rattle.std.proofs.lemmas.List.{map-append, flat_map_more}
use Rattle.std.proofs.lemmas.Grind.{flat_map-append}
use Rattle.mail_model.specs.Book.{BookEntry}
use Rattle.node_store.specs.Disks.{View}
use Rattle.cluster_world.specs.Books.{IsLongerBook}
use Rattle.cluster_world.specs.Worlds.{plan_of, book_of, CanMakeSteps}
use Rattle.cluster_world.specs.declared.world.World.{World}
use Rattle.desk_model.specs.Tallies.{no_counts}
use Rattle.shard_board.specs.Worlds.{IsSoundWorld}
use Rattle.turnstile.specs.Lists.{weight, longer}
use Rattle.turnstile.specs.Shares.{AreShares}
use Rattle.turnstile.specs.Rule.{GivesBack}
use Rattle.turnstile.specs.Passes.{IsTurn, IsNewTurnstile, IsSplit, TakesIn, seen_by, joined_entries as joined_in, own_entries as own_in}
use Rattle.shard_board.specs.declared.page.Page.{Page}
use Rattle.shard_board.specs.declared.part.Part.{Part}
use Rattle.shard_board.specs.declared.board.Board.{Board}
use Rattle.shard_board.specs.declared.board.BoardPass.{BoardPass}
use Rattle.shard_board.specs.Pages.{entries_on, all_on, is_known_over, is_known, are_known}
use Rattle.shard_board.specs.Parts.{pages_of, opening_of, front_known, KeepsPart, AddsKnown}
use Rattle.shard_board.specs.Tallies.{counts_of_both}
use Rattle.shard_board.proofs.Keeping.{known_over}
use Rattle.shard_board.proofs.Spread.{spread_shares}
use Rattle.shard_board.proofs.Weighing.{failing, light, all_light, all_pass}
use Rattle.shard_board.specs.Boards.{first_part, first_world, opening_book, own_entries, joined_entries, seen_book, steps_seen, made_known, IsNewBoard, IsTurnOf, IsSplitOf, TakesInPass, ClosesWith, PassTells}

-- a page more has what the deed added
pub page_more : {D : Type 0} (opening : List BookEntry) (pages : List (Page D)) (page : Page D) (old new : World D) → book_of old ≡ opening ++ all_on pages → page.before.value ≡ old → page.after.value ≡ new
    → IsLongerBook (book_of old) (book_of new) → book_of new ≡ opening ++ all_on (pages ++ page ∷ [])
page_more opening pages page old new was found left (added, grew) =
    let on_page : entries_on page ≡ added = ap (λ w. drop (length (book_of w)) (book_of page.after.value)) found ∙ ap (drop (length (book_of old))) (ap book_of left ∙ grew) ∙ drop-append_seam (book_of old) added in
    grew ∙ ap (λ b. b ++ added) was ∙ ap (λ more. (opening ++ all_on pages) ++ more) (sym on_page) ∙ flat_map_more entries_on opening pages page

more_on : {D : Type 0} (xs ys : List (Page D)) → all_on (xs ++ ys) ≡ all_on xs ++ all_on ys
more_on xs ys = flat_map-append entries_on xs ys

-- which of two lists is the longer is told by their lengths
one_of : {D : Type 0} (b : Bool) (front : List BookEntry) (xs ys : List (Page D)) → front ++ all_on (cond b ys xs) ≡ cond b (front ++ all_on ys) (front ++ all_on xs)
one_of true front xs ys = refl
one_of false front xs ys = refl

known_of : {D : Type 0} (seen : D → Option (List ℕ)) (b : Bool) (xs ys : List (Page D)) → are_known seen (cond b ys xs) ≡ cond b (are_known seen ys) (are_known seen xs)
known_of seen true xs ys = refl
known_of seen false xs ys = refl

-- the page behind others is known, where all are
last_known : {D : Type 0} (seen : D → Option (List ℕ)) (pages : List (Page D)) (page : Page D) → are_known seen (pages ++ page ∷ []) ≡ true → is_known seen page ≡ true
last_known seen pages page known =
    let both = and_parts (are_known seen pages) (are_known seen (page ∷ [])) (sym (list_all-append (λ one. is_known seen one) pages (page ∷ [])) ∙ known) in
    (and_parts (is_known seen page) true both.1).0

turned_round : (a b c : Bool) → ((a && b) && c) ≡ (b && (a && c))
turned_round true true c = refl
turned_round true false c = refl
turned_round false true c = refl
turned_round false false c = refl

and_assoc : (a b c : Bool) → (a && (b && c)) ≡ ((a && b) && c)
and_assoc true b c = refl
and_assoc false b c = refl

-- own pages more
made_more : {D : Type 0} (seen : D → Option (List ℕ)) (own added : List (Page D)) (joined : List (List (Page D)))
    → (are_known seen (own ++ added) && list_all (λ pages. are_known seen pages) joined) ≡ (are_known seen added && (are_known seen own && list_all (λ pages. are_known seen pages) joined))
made_more seen own added joined =
    ap (λ b. b && list_all (λ pages. are_known seen pages) joined) (list_all-append (λ page. is_known seen page) own added)
    ∙ turned_round (are_known seen own) (are_known seen added) (list_all (λ pages. are_known seen pages) joined)

-- where each disk tells, all pages are known
pub all_known : {D : Type 0} (seen : D → Option (List ℕ)) → ((disk : D) → is_some (seen disk) ≡ true) → (pages : List (Page D)) → are_known seen pages ≡ true
all_known seen each [] = refl
all_known seen each (page ∷ pages) = rw (known_over seen each page.blind.value page.before.value) (all_known seen each pages)

lists_known : {D : Type 0} (seen : D → Option (List ℕ)) → ((disk : D) → is_some (seen disk) ≡ true) → (lists : List (List (Page D))) → list_all (λ pages. are_known seen pages) lists ≡ true
lists_known seen each [] = refl
lists_known seen each (pages ∷ lists) = rw (all_known seen each pages) (lists_known seen each lists)

pub pass_tells : {D F C : Type 0} (seen : D → Option (List ℕ)) (pass : BoardPass D F C) → PassTells seen pass
pass_tells seen pass each = (
  all_known seen each (seen_by pass.lower),
  rw (all_known seen each (own_in pass.lower)) (lists_known seen each (joined_in pass.lower)),
)

module _ {D F C : Type 0} (on : View D) where
  -- a deed has one page
  module _ (old new : Part D F C) (page : Page D) (blind : Bool) (blind_is : page.blind.value ≡ blind) (found : page.before.value ≡ old.world) (paged : pages_of new ≡ pages_of old ++ page ∷ []) where
    known_so : is_known_over on.seen blind old.world ≡ is_known on.seen page
    known_so = ap (λ b. is_known_over on.seen b old.world) (sym blind_is) ∙ ap (λ w. is_known_over on.seen page.blind.value w) (sym found)

    pub page_keeps : plan_of new.world ≡ plan_of old.world → CanMakeSteps on.seen new.world → opening_of new ≡ opening_of old
        → (is_known_over on.seen blind old.world ≡ true → IsSoundWorld on old.world → IsSoundWorld on new.world) → KeepsPart on old new
    page_keeps plan ready opening sound = record {
      plan = plan;
      ready = λ was. ready;
      opening = opening;
      grows = (page ∷ [], paged);
      sound = λ known s. sound (known_so ∙ last_known on.seen (pages_of old) page (ap (are_known on.seen) (sym paged) ∙ known)) s;
    }

    pub page_known : blind ≡ true → AddsKnown on.seen old new
    page_known so = (page ∷ [], paged, ap (λ b. b && true) (sym known_so ∙ ap (λ b. is_known_over on.seen b old.world) so))

  -- that the clock was read changes nothing of what stays
  pub past_clock : (old read new : Part D F C) → KeepsPart on read new → read.world ≡ old.world → opening_of read ≡ opening_of old → pages_of read ≡ pages_of old → KeepsPart on old new
  past_clock old read new k world opening pages = record {
    plan = subst (λ (w : World D). plan_of new.world ≡ plan_of w) world k.plan;
    ready = subst (λ (w : World D). CanMakeSteps on.seen w → CanMakeSteps on.seen new.world) world k.ready;
    opening = k.opening ∙ opening;
    grows = (k.grows.0, k.grows.1 ∙ ap (λ xs. xs ++ k.grows.0) pages);
    sound = subst (λ (w : World D). are_known on.seen (pages_of new) ≡ true → IsSoundWorld on w → IsSoundWorld on new.world) world k.sound;
  }

  pub none_added : (old new : Part D F C) → new ≡ old → AddsKnown on.seen old new
  none_added old new same = ([], ap pages_of same ∙ sym (append-nil (pages_of old)), refl)

  pub both_added : (a b c : Part D F C) → AddsKnown on.seen a b → AddsKnown on.seen b c → AddsKnown on.seen a c
  both_added a b c (xs, p, k) (ys, q, l) = (
    xs ++ ys,
    q ∙ ap (λ pages. pages ++ ys) p ∙ append_assoc (pages_of a) xs ys,
    list_all-append (λ page. is_known on.seen page) xs ys ∙ ap (λ b. b && are_known on.seen ys) k ∙ l,
  )

  -- one turn at the lock is one turn of the board
  pub turned : {A : Type 0} (did : Part D F C → A → Part D F C → Type 0) (board : Board D F C) (before after : BoardPass D F C) (answer : A) → after.tally ≡ before.tally
      → IsSoundWorld on (first_world board) → IsTurn pages_of (KeepsPart on) did board.turnstile before.lower after.lower answer → IsTurnOf on did board before after answer
  turned did board before after answer same first t =
      let front : List BookEntry = opening_of (first_part board) in
      let old_book : book_of t.old.world ≡ front ++ all_on (pages_of t.old) = t.old.bound ∙ ap (λ f. f ++ all_on (pages_of t.old)) t.kept.0.opening in
      let new_book : book_of t.new.world ≡ front ++ all_on (pages_of t.new) = t.new.bound ∙ ap (λ f. f ++ all_on (pages_of t.new)) t.kept.1.opening in
      record {
        old = t.old;
        new = t.new;
        added = all_on t.added;
        work = t.work;
        later = (
          all_on t.later.0,
          old_book ∙ ap (λ pages. front ++ all_on pages) t.later.1 ∙ ap (λ more. front ++ more) (more_on (seen_by before.lower) t.later.0)
              ∙ sym (append_assoc front (all_on (seen_by before.lower)) (all_on t.later.0)),
        );
        grows = new_book ∙ ap (λ pages. front ++ all_on pages) t.grows ∙ ap (λ more. front ++ more) (more_on (pages_of t.old) t.added)
            ∙ sym (append_assoc front (all_on (pages_of t.old)) (all_on t.added)) ∙ ap (λ b. b ++ all_on t.added) (sym old_book);
        plans = (t.kept.0.plan, t.kept.1.plan);
        ready = (t.kept.0.ready first.ready, t.kept.1.ready first.ready);
        told = λ tells.
            let new_known : are_known on.seen (pages_of t.new) ≡ true = ap (are_known on.seen) (sym t.seen_is) ∙ tells in
            let old_known = front_known on.seen (pages_of t.old) (pages_of t.new) (t.added, t.grows) new_known in
            record {
              told = front_known on.seen (seen_by before.lower) (pages_of t.old) t.later old_known;
              old_sound = t.kept.0.sound old_known first;
              new_sound = t.kept.1.sound new_known first;
            };
        pages = t.added;
        paged = t.grows;
        made_is = ap (λ own. are_known on.seen own && list_all (λ pages. are_known on.seen pages) (joined_in after.lower)) t.own_is
            ∙ ap (λ joined. are_known on.seen (own_in before.lower ++ t.added) && list_all (λ pages. are_known on.seen pages) joined) t.joined_is
            ∙ made_more on.seen (own_in before.lower) t.added (joined_in before.lower);
        seen_is = ap (λ pages. front ++ all_on pages) t.seen_is ∙ sym new_book;
        own_is = ap all_on t.own_is ∙ more_on (own_in before.lower) t.added;
        joined_is = ap (map all_on) t.joined_is;
        quota_is = t.quota_is;
        tally_is = same;
      }

  pub longer_seen : (board : Board D F C) (before other after : BoardPass D F C) → seen_by after.lower ≡ longer (seen_by before.lower) (seen_by other.lower)
      → seen_book board after ≡ cond (nat_le (steps_seen before) (steps_seen other)) (seen_book board other) (seen_book board before)
  longer_seen board before other after is = ap (λ pages. opening_of (first_part board) ++ all_on pages) is
      ∙ one_of (nat_le (steps_seen before) (steps_seen other)) (opening_of (first_part board)) (seen_by before.lower) (seen_by other.lower)

pub joined_more : {D : Type 0} (xs : List (List (Page D))) (own : List (Page D)) (ys : List (List (Page D))) → map all_on (xs ++ own ∷ ys) ≡ map all_on xs ++ all_on own ∷ map all_on ys
joined_more xs own ys = map-append all_on xs (own ∷ ys)

module _ {D F C : Type 0} where
  -- a pass hands on a part of its quota
  pub split_so : (board : Board D F C) (part : ℕ) (before after new : BoardPass D F C) → IsSplit part before.lower after.lower new.lower → after.tally ≡ before.tally → new.tally ≡ no_counts
      → IsSplitOf board part before after new
  split_so board part before after new s same none = record {
    quotas = s.quotas;
    seen_is = (ap (λ pages. opening_of (first_part board) ++ all_on pages) s.seen_is.0, ap (λ pages. opening_of (first_part board) ++ all_on pages) s.seen_is.1);
    own_is = (ap all_on s.own_is.0, ap all_on s.own_is.1);
    joined_is = (ap (map all_on) s.joined_is.0, ap (map all_on) s.joined_is.1);
    tells_is = λ seen. (ap (are_known seen) s.seen_is.0, ap (are_known seen) s.seen_is.1);
    made_is = λ seen. (made_same seen after before s.own_is.0 s.joined_is.0, made_none seen new s.own_is.1 s.joined_is.1);
    tallies = (same, none);
  }
    where
      made_same : (seen : D → Option (List ℕ)) (x y : BoardPass D F C) → own_in x.lower ≡ own_in y.lower → joined_in x.lower ≡ joined_in y.lower → made_known seen x ≡ made_known seen y
      made_same seen x y own joined = ap (λ pages. are_known seen pages && list_all (λ l. are_known seen l) (joined_in x.lower)) own
          ∙ ap (λ lists. are_known seen (own_in y.lower) && list_all (λ l. are_known seen l) lists) joined

      made_none : (seen : D → Option (List ℕ)) (x : BoardPass D F C) → own_in x.lower ≡ [] → joined_in x.lower ≡ [] → made_known seen x ≡ true
      made_none seen x own joined = ap (λ pages. are_known seen pages && list_all (λ l. are_known seen l) (joined_in x.lower)) own
          ∙ ap (λ lists. list_all (λ l. are_known seen l) lists) joined

  -- a pass takes in another
  pub joins_so : (board : Board D F C) (before other after : BoardPass D F C) → TakesIn before.lower other.lower after.lower → after.tally ≡ counts_of_both before.tally other.tally
      → TakesInPass board before other after
  joins_so board before other after j counts = record {
    quota_is = j.quota_is;
    seen_is = ap (λ pages. opening_of (first_part board) ++ all_on pages) j.seen_is
        ∙ one_of (nat_le (steps_seen before) (steps_seen other)) (opening_of (first_part board)) (seen_by before.lower) (seen_by other.lower);
    own_is = ap all_on j.own_is;
    joined_is = ap (map all_on) j.joined_is ∙ joined_more (joined_in before.lower) (own_in other.lower) (joined_in other.lower);
    tells_is = λ seen. ap (are_known seen) j.seen_is ∙ known_of seen (nat_le (steps_seen before) (steps_seen other)) (seen_by before.lower) (seen_by other.lower);
    made_is = λ seen. ap (λ pages. are_known seen pages && list_all (λ l. are_known seen l) (joined_in after.lower)) j.own_is
        ∙ ap (λ lists. are_known seen (own_in before.lower) && list_all (λ l. are_known seen l) lists) j.joined_is
        ∙ ap (λ b. are_known seen (own_in before.lower) && b) (list_all-append (λ l. are_known seen l) (joined_in before.lower) (own_in other.lower ∷ joined_in other.lower))
        ∙ and_assoc (are_known seen (own_in before.lower)) (list_all (λ l. are_known seen l) (joined_in before.lower)) (list_all (λ l. are_known seen l) (own_in other.lower ∷ joined_in other.lower));
    tally_is = counts;
  }

  -- a new board, whose part has no pages
  pub new_so : (on : View D) (world : World D) (passes : ℕ) (board : Board D F C) (pass : BoardPass D F C) (part : Part D F C) → IsNewTurnstile pages_of (KeepsPart on) part passes board.turnstile pass.lower
      → part.world ≡ world → pages_of part ≡ [] → IsSoundWorld on world → pass.tally ≡ no_counts → IsNewBoard on world passes board pass
  new_so on world passes board pass part n is none sound counts =
      let same : first_part board ≡ part = n.first_value_is in
      let no_pages : pages_of (first_part board) ≡ [] = ap pages_of same ∙ none in
      let seen_none : seen_by pass.lower ≡ [] = n.seen_is ∙ none in
      let world_is : first_world board ≡ world = ap (λ (p : Part D F C). p.world) same ∙ is in
      record {
        belongs = (n.belongs, subst (IsSoundWorld on) (sym world_is) sound, no_pages);
        world_is = world_is;
        passes_is = (n.passes_is, n.quota_is);
        seen_is = ap (λ pages. opening_of (first_part board) ++ all_on pages) (n.seen_is ∙ ap pages_of (sym same)) ∙ sym (first_part board).bound ∙ ap book_of world_is;
        own_is = ap all_on n.own_is;
        joined_is = ap (map all_on) n.joined_is;
        known = (
          ap (are_known on.seen) seen_none,
          ap (λ pages. are_known on.seen pages && list_all (λ l. are_known on.seen l) (joined_in pass.lower)) n.own_is ∙ ap (λ lists. list_all (λ l. are_known on.seen l) lists) n.joined_is,
        );
        tally_is = counts;
      }

module _ {D F C : Type 0} (on : View D) where
  -- what the lock gives back is the world of the board
  pub closed : (board : Board D F C) (pass : BoardPass D F C) (part : Part D F C) → IsSoundWorld on (first_world board) → pages_of (first_part board) ≡ []
      → GivesBack pages_of (KeepsPart on) (first_part board) pass.lower.seat.me.0 part → ClosesWith on board pass part.world
  closed board pass part first none g =
      let front : List BookEntry = opening_of (first_part board) in
      let book : book_of part.world ≡ front ++ all_on (pages_of part) = part.bound ∙ ap (λ f. f ++ all_on (pages_of part)) g.same.opening in
      let known : made_known on.seen pass ≡ true → are_known on.seen (pages_of part) ≡ true = λ made.
      let passes : Page D → Bool = λ page. is_known on.seen page in
      let both = and_parts (are_known on.seen (own_in pass.lower)) (list_all (λ pages. are_known on.seen pages) (joined_in pass.lower)) made in
      let nothing : weight (failing passes) (pages_of (first_part board)) ≡ 0 = ap (weight (failing passes)) none in
      all_pass passes (pages_of part) (omega (arith, g.whole (failing passes), nothing, light passes (own_in pass.lower) both.0, all_light passes (joined_in pass.lower) both.1)) in
      record {
        plan = g.same.plan;
        ready = g.same.ready first.ready;
        told = λ made. front_known on.seen (seen_by pass.lower) (pages_of part) g.seen (known made);
        sound = λ made. g.same.sound (known made) first;
        seen = (
          all_on g.seen.0,
          book ∙ ap (λ pages. front ++ all_on pages) g.seen.1 ∙ ap (λ more. front ++ more) (more_on (seen_by pass.lower) g.seen.0)
              ∙ sym (append_assoc front (all_on (seen_by pass.lower)) (all_on g.seen.0)),
        );
        shares = subst (λ b. AreShares (opening_book board) (own_entries pass ∷ joined_entries pass) b) (sym book)
            (subst (λ o. AreShares o (own_entries pass ∷ joined_entries pass) (front ++ all_on (pages_of part))) (sym (first_part board).bound)
            (spread_shares entries_on front (pages_of (first_part board)) (pages_of part) (own_in pass.lower ∷ joined_in pass.lower) g.shares));
      }
