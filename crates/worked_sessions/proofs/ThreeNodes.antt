-- A tape of three nodes that meets every premise.
use Rattle.std.proofs.Common.{◌≡◌, inl, inr, ℕ, zero, suc, true, List, [], ◌∷◌, ◌++◌, map, flat_map, All, Some, refl, sym, ap, subst, arith, codes, slice_get}
use Rattle.std.proofs.lemmas.List.Elements.{All-nil, All-cons}
use Rattle.std.proofs.lemmas.Option.{none-some}
use Rattle.mail_model.specs.Identity.{Id, Stamp, Value}
use Rattle.mail_model.specs.Identity.Key.{Message}
use Rattle.mail_model.specs.Identity.Value.{Here, Gone}
use Rattle.mail_model.specs.Grammar.{IsRecord}
use Rattle.mail_model.specs.Record.{Record, IsJournal, IsAmongRecords, SaysHere, HoldsOctets, payloads_of}
use Rattle.mail_model.specs.Record.Record.{Boot, Octets, Stated}
use Rattle.mail_model.specs.Listing.{octets_in}
use Rattle.mail_model.specs.Book.{copies_acked}
use Rattle.mail_model.specs.Stored.{Ack}
use Rattle.mail_model.specs.Site.{nth_id, nth_stamp}
use Rattle.mail_model.specs.Smtp.{greeting_text, helo_text, stored_text}
use Rattle.mail_model.specs.PopReplies.{one_line}
use Rattle.mail_model.specs.Session.{silent}
use Rattle.mail_model.specs.Tape.Protocol.{Smtp}
use Rattle.mail_model.specs.Tape.Order.{Open, Moves}
use Rattle.mail_model.specs.Tape.ClusterOrder.{Post, Again}
use Rattle.mail_model.specs.Transcript.Entry.{Said}
use Rattle.session_model.specs.Calls.Call.{Deliver, Login, Fetch, Strike}
use Rattle.session_model.specs.Talk.TalkState.{Mailing}
use Rattle.session_model.specs.Copies.{OnNode, OnEnough, KeepsCopy, OneContent}
use Rattle.session_model.specs.Facts.{IsGoneIn, ack_of}
use Rattle.session_model.specs.Events.{event_entries}
use Rattle.session_model.specs.Events.ClusterEvent.{WasHeard}
use Rattle.session_model.specs.Acts.{Act}
use Rattle.session_model.specs.Acts.Act.{Opens, Makes}
use Rattle.session_model.specs.Turns.{Waits}
use Rattle.session_model.specs.Turns.Turn.{Hearing as Hears_on, Asking}
use Rattle.session_model.specs.Run.{IsHandled, AreHandled, IsDriven}
use Rattle.session_model.specs.Run.Stop.{BehindLine, Denied, SinkFailed}
use Rattle.session_model.specs.Books.{IsAsBooked}
use Rattle.session_model.specs.Owes.{Owes}
use Rattle.session_model.proofs.Kept.{owed_is_kept}
use Rattle.worked_sessions.specs.OneMessage.{small_mail, small_octets, small_answered, greeted, waiting, at_open, at_helo, at_mail, at_rcpt, at_data, at_subject, at_gap, at_hello, at_wait, at_stored, text_acts, tells_stored}
use Rattle.worked_sessions.specs.ThreeNodes.{ThreeNodesKept, three_nodes, heard_in_vain, waits_first, posted_lines, posted_acts, posted_made, posted_entries, copy_record, node_records, node_store, three_disks, posted_book, posted_asked}
use Rattle.worked_sessions.proofs.Lines.{idle_line, nobody, only_one, never_waits, helo, mail, rcpt, data_line, subject, gap, hello, waits_line, heard_line}
use Rattle.worked_sessions.proofs.OneMessage.{stored, id_fits, octets_fit, one_octets, only_delivery}

-- `open` at one of three nodes
pub opens_at_1 : IsHandled three_nodes [] [] (codes "open smtp 1") (Opens Smtp 1 (greeting_text 1) ∷ []) ((Said 1 (greeting_text 1) ∷ []) ∷ []) (at_open ∷ [])
opens_at_1 = record {
  last = Asking 1;
  begun = record {
    order = Open Smtp 1;
    spelled = refl;
    accepted = refl;
    first = Opens Smtp 1 (greeting_text 1);
    said = Said 1 (greeting_text 1) ∷ [];
    next = Asking 1;
    mid = at_open ∷ [];
    starts = (1, refl, refl, refl);
    acted = (refl, refl);
    more = [];
    others = [];
    goes = (refl, refl);
    acts_are = refl;
    outputs_are = refl;
  };
  done = (1, refl, nobody at_open (never_waits at_open (Mailing silent) refl));
}

-- the last answer comes, and the session is told
stored_line : (been : List Act)
    → IsHandled three_nodes been (at_wait ∷ []) (codes "post 5") (Makes (Post 5) (WasHeard 5) ∷ tells_stored ∷ []) (event_entries (WasHeard 5) ∷ (Said 1 stored_text ∷ []) ∷ []) (at_stored ∷ [])
stored_line been = record {
  last = Hears_on 1 1;
  begun = record {
    order = Moves (Post 5);
    spelled = refl;
    accepted = refl;
    first = Makes (Post 5) (WasHeard 5);
    said = event_entries (WasHeard 5);
    next = Asking 1;
    mid = at_wait ∷ [];
    starts = (WasHeard 5, refl, refl, refl);
    acted = (refl, refl);
    more = tells_stored ∷ [];
    others = (Said 1 stored_text ∷ []) ∷ [];
    goes = (
      Hears_on 1 1,
      at_stored ∷ [],
      (1, refl, only_one Waits at_wait (Mailing greeted, Deliver small_mail, refl), refl),
      (at_wait, at_stored, one_line stored_text, refl, (at_data.whole, waiting, Mailing greeted, refl, refl, refl, refl, refl), refl, refl),
      (refl, refl),
    );
    acts_are = refl;
    outputs_are = refl;
  };
  done = (1, (refl, idle_line, refl), nobody at_stored (never_waits at_stored (Mailing greeted) refl));
}

driven : IsDriven three_nodes BehindLine posted_lines [] posted_acts [] posted_made posted_entries (at_stored ∷ [])
driven = record {
  outputs =
      ((Said 1 (greeting_text 1) ∷ []) ∷ []) ∷ ([] ∷ (Said 1 (helo_text 1) ∷ []) ∷ []) ∷ ([] ∷ (Said 1 (codes "250 sender ok") ∷ []) ∷ []) ∷ ([] ∷ (Said 1 (codes "250 recipient ok") ∷ []) ∷ [])
      ∷ ([] ∷ (Said 1 (codes "354 end with a line that is a single period") ∷ []) ∷ []) ∷ ([] ∷ []) ∷ ([] ∷ []) ∷ ([] ∷ [])
      ∷ ([] ∷ [] ∷ [] ∷ [])
      ∷ (event_entries (WasHeard 1) ∷ [] ∷ []) ∷ (event_entries (WasHeard 1) ∷ [] ∷ []) ∷ (event_entries (WasHeard 3) ∷ [] ∷ []) ∷ (event_entries (WasHeard 4) ∷ [] ∷ [])
      ∷ (event_entries (WasHeard 2) ∷ [] ∷ []) ∷ (event_entries (WasHeard 5) ∷ (Said 1 stored_text ∷ []) ∷ []) ∷ [];
  mid = at_stored ∷ [];
  are = (
    at_open ∷ [],
    opens_at_1,
    (
      at_helo ∷ [],
      helo 3 _,
      (
        at_mail ∷ [],
        mail 3 _,
        (
          at_rcpt ∷ [],
          rcpt 3 _,
          (
            at_data ∷ [],
            data_line 3 _,
            (at_subject ∷ [], subject 3 _, (at_gap ∷ [], gap 3 _, (at_hello ∷ [], hello 3 _, (at_wait ∷ [], waits_line 3 _, letters)))),
          ),
        ),
      ),
    ),
  );
  tail = [];
  extra = [];
  off = (refl, refl, refl, λ is. absurd (let never : BehindLine ≡ SinkFailed = is in cc), λ is. absurd (let never : BehindLine ≡ Denied = is in cc));
  written = refl;
  steps = refl;
}
  where
    letters : AreHandled three_nodes (flat_map (λ a. a) (text_acts ++ waits_first ∷ [])) (at_wait ∷ [])
        (codes "again 1" ∷ codes "again 1" ∷ codes "post 3" ∷ codes "post 4" ∷ codes "post 2" ∷ codes "post 5" ∷ [])
        (heard_in_vain (Again 1) 1 ∷ heard_in_vain (Again 1) 1 ∷ heard_in_vain (Post 3) 3 ∷ heard_in_vain (Post 4) 4 ∷ heard_in_vain (Post 2) 2 ∷ (Makes (Post 5) (WasHeard 5) ∷ tells_stored ∷ []) ∷ [])
        ((event_entries (WasHeard 1) ∷ [] ∷ []) ∷ (event_entries (WasHeard 1) ∷ [] ∷ []) ∷ (event_entries (WasHeard 3) ∷ [] ∷ []) ∷ (event_entries (WasHeard 4) ∷ [] ∷ [])
        ∷ (event_entries (WasHeard 2) ∷ [] ∷ []) ∷ (event_entries (WasHeard 5) ∷ (Said 1 stored_text ∷ []) ∷ []) ∷ [])
        (at_stored ∷ [])
    letters = (
      at_wait ∷ [],
      heard_line 3 _ (codes "again 1") (Again 1) 1 refl refl refl,
      (
        at_wait ∷ [],
        heard_line 3 _ (codes "again 1") (Again 1) 1 refl refl refl,
        (
          at_wait ∷ [],
          heard_line 3 _ (codes "post 3") (Post 3) 3 refl refl refl,
          (
            at_wait ∷ [],
            heard_line 3 _ (codes "post 4") (Post 4) 4 refl refl refl,
            (at_wait ∷ [], heard_line 3 _ (codes "post 2") (Post 2) 2 refl refl refl, (at_stored ∷ [], stored_line _, refl)),
          ),
        ),
      ),
    )

-- the nodes

grammar : All IsRecord node_records
grammar =
    All-cons IsRecord (Boot 1) (Octets (nth_id 1) small_octets ∷ copy_record ∷ []) (omega arith, omega arith)
    (All-cons IsRecord (Octets (nth_id 1) small_octets) (copy_record ∷ []) id_fits
    (All-cons IsRecord copy_record [] (record {
      key_fits = (record { name = refl; in_lower = refl }, id_fits);
      state_fits = record { value = tt; stamp = record { count = omega arith; boot = omega arith; node = omega arith }; targets = (omega arith, omega arith) };
      kind = tt;
    }) (All-nil IsRecord)))

holds : (node : ℕ) → IsJournal node (node_store node) (payloads_of node_records)
holds node = record { gate = 0; others = []; whole = refl; closed = λ is. absurd (omega (arith, is)); short = (omega arith, (octets_fit, (omega arith, tt))) }

abbrev value_in : Record → Value
value_in (Stated key state) = state.value
value_in other = Here

not_gone : (user : List ℕ) (id : Id) (stamp : Stamp) (targets : ℕ) → IsAmongRecords (Stated (Message user id) (record { value = Gone; stamp = stamp; targets = targets })) node_records → ⊥
not_gone user id stamp targets (inl is) = cc
not_gone user id stamp targets (inr (inl is)) = cc
not_gone user id stamp targets (inr (inr (inl is))) = let never : Here ≡ Gone = ap value_in is in cc
not_gone user id stamp targets (inr (inr (inr is))) = is

-- no disk says that a copy is gone
none_gone : (n : ℕ) (user : List ℕ) (id : Id) → IsGoneIn three_disks n user id → ⊥
none_gone n user id (records, at, gone) = not_gone user id gone.stamp gone.targets (subst (IsAmongRecords _) (sym (same n at)) gone.gone)
  where
    same : (i : ℕ) → slice_get three_disks i ≡ Some records → node_records ≡ records
    same zero there = cc
    same (suc zero) there = cc
    same (suc (suc zero)) there = cc
    same (suc (suc (suc i))) there = absurd (none-some records there)

says_here : SaysHere (Message (codes "alice") (nth_id 1)) node_records
says_here = record { stamp = nth_stamp 1; targets = 7; here = inr (inr (inl refl)); not_gone = not_gone (codes "alice") (nth_id 1) }

has_octets : HoldsOctets (nth_id 1) small_octets node_records
has_octets = inr (λ other is. absurd (let never : Boot 1 ≡ Octets (nth_id 1) other = is in cc), inl refl)

-- each disk has these records
each_disk : (n : ℕ) (records : List Record) → slice_get three_disks n ≡ Some records → node_records ≡ records
each_disk zero records there = cc
each_disk (suc zero) records there = cc
each_disk (suc (suc zero)) records there = cc
each_disk (suc (suc (suc n))) records there = absurd (none-some records there)

one_content : OneContent (λ id. octets_in id node_records) three_disks
one_content n records id octets at inside =
    let is = one_octets 7 id octets (subst (IsAmongRecords (Octets id octets)) (sym (each_disk n records at)) inside) in
    let same_id : nth_id 1 ≡ id = cc is in
    let same : small_octets ≡ octets = cc is in
    subst (λ (i : Id). octets_in i node_records ≡ Some octets) same_id (ap Some same)

-- what is so of the records of each node is so on all three, which are enough
on_all : (so : List Record → Type 0) → so node_records → OnEnough three_nodes three_disks so (1 ∷ 2 ∷ 3 ∷ [])
on_all so is = record {
  are = record { rising = (omega arith, omega arith, (omega arith, omega arith, (omega arith, omega arith, tt))); enough = omega arith };
  each =
      All-cons (OnNode three_disks so) 1 (2 ∷ 3 ∷ []) (node_records, refl, is)
      (All-cons (OnNode three_disks so) 2 (3 ∷ []) (node_records, refl, is)
      (All-cons (OnNode three_disks so) 3 [] (node_records, refl, is) (All-nil (OnNode three_disks so))));
}

abbrev posted_ack : Ack
posted_ack = ack_of 1 (record { mail = small_mail; id = nth_id 1 })

owes : Owes three_nodes true (posted_lines ++ []) (map (λ node. Some (node_store node)) (1 ∷ 2 ∷ 3 ∷ [])) three_disks (λ (id : Id). octets_in id node_records) posted_asked small_answered posted_book
owes = record {
  holds = (grammar, holds 1, (grammar, holds 2, (grammar, holds 3, tt)));
  one_content = one_content;
  acks = posted_ack ∷ [];
  confirmers = (1 ∷ 2 ∷ 3 ∷ []) ∷ [];
  stored = record {
    are = refl;
    stand = (
      record {
        at_node = refl;
        at_clock = inl refl;
        copies = All-cons (λ (user : List ℕ). OnEnough three_nodes three_disks (KeepsCopy posted_ack user) (1 ∷ 2 ∷ 3 ∷ [])) (codes "alice") []
            (on_all (KeepsCopy posted_ack (codes "alice")) (inl (says_here, (small_octets, stored, has_octets)))) (All-nil _);
      },
      tt,
    );
    other_ids = (tt, tt);
  };
  deletions = record {
    asks = λ n user id gone. absurd (none_gone n user id gone);
    gone = λ k user ids id among within. absurd (let never = only_delivery k (Strike user ids) _ among in cc);
    once = λ k user given items among. absurd (let never = only_delivery k (Login user given) _ among in cc);
    named = λ k user given items among. absurd (let never = only_delivery k (Login user given) _ among in cc);
  };
  listings = λ k user given items among. absurd (let never = only_delivery k (Login user given) _ among in cc);
  parts = λ told. record {
    sizes = λ k user given items among. absurd (let never = only_delivery k (Login user given) _ among in cc);
    parts = λ k user id part among. absurd (let never = only_delivery k (Fetch user id) _ among in cc);
  };
  books = record {
    is_book = record {
      struck = refl;
      dropped = refl;
      acked = (
        copies_acked (nth_id 1) 0 small_octets 7 (codes "alice" ∷ []),
        [],
        refl,
        record { octets = small_octets; at_clock = inl refl; stored = stored; each_once = λ i j d before within. absurd (omega (arith, before, within)); are = refl },
        (refl, refl),
      );
    };
    stand = (
      All-cons (λ (user : List ℕ). OnEnough three_nodes three_disks (IsAsBooked posted_book posted_ack user) (1 ∷ 2 ∷ 3 ∷ [])) (codes "alice") []
          (on_all (IsAsBooked posted_book posted_ack (codes "alice")) (inl (says_here, (small_octets, stored, has_octets)))) (All-nil _),
      refl,
    );
    dropped = tt;
  };
}

pub three_nodes_kept : ThreeNodesKept
three_nodes_kept = record {
  driven = driven;
  kept = owed_is_kept three_nodes true BehindLine posted_lines [] posted_acts [] posted_made posted_entries [] (at_stored ∷ []) (map (λ node. Some (node_store node)) (1 ∷ 2 ∷ 3 ∷ [])) three_disks
      (λ (id : Id). octets_in id node_records) posted_asked posted_book driven tt refl owes;
}
