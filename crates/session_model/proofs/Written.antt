-- Each entry that acts write is one line of the transcript: no octet of it is an LF.
use Rattle.std.proofs.Common.{⊎_elim, ℕ, true, false, List, [], ◌∷◌, ◌++◌, map, flat_map, All, Option, Some, None, refl, sym, subst, codes}
use Rattle.std.proofs.lemmas.List.{map-append}
use Rattle.std.proofs.lemmas.List.Elements.{All-nil, All-cons, All-head, All-tail, All-append}
use Rattle.std.specs.Fmt.{decimal}
use Rattle.mail_model.specs.Identity.{EpochId}
use Rattle.mail_model.specs.Lines.{HasNoLf}
use Rattle.mail_model.specs.Plan.{Plan}
use Rattle.mail_model.specs.Transcript.{Entry, Why, why_word, entry_line, said_lines, closed_event, all_of}
use Rattle.mail_model.specs.Transcript.Entry.{Said, Event}
use Rattle.mail_model.specs.Transcript.Why.{WhileDown, Stale, Old, NotPromised, NotMember, Late}
use Rattle.mail_model.proofs.OneLine.{IsNoLf, by_test, decimal_no_lf, name_no_lf, said_line, event_line, closed_line}
use Rattle.session_model.specs.Sessions.{Session}
use Rattle.session_model.specs.Acts.{Act, Acted, ActedAll, closing}
use Rattle.session_model.specs.Sums.{BookSum}
use Rattle.session_model.specs.Events.{ClusterEvent, event_entries, fault_event, epoch_text, node_words, formed_text, maps_text, sum_text}
use Rattle.session_model.specs.Events.ClusterEvent.{WentDown, CameUp, WasLost, WasHeard, WasThrown, WasDropped, HasFlowed, HasSent, HasWidened, HasGrouped, HasFormed, HasSettled, WasAbsent, HasMapped, HasTicked, HasSummed, HasFaulted}
use Rattle.session_model.specs.Acts.Act.{Opens, Does, Faults, StillWaits, Leaves, Makes, Abandons}
use Rattle.session_model.specs.Run.{Stop}
use Rattle.session_model.specs.Run.Stop.{BehindLine, Denied, SinkFailed, OutOfMemory}
use Rattle.session_model.specs.Runs.{DrivenWritesLines}
use Rattle.session_model.proofs.Acts.{closing_is}
use Rattle.session_model.proofs.Driven.{Wrote, WroteAll, WrotePart, all_parts, driven_written}
use Rattle.session_model.proofs.Events.{NamesUser}
use Rattle.session_model.proofs.InOrder.{IsWorded}

-- entries of which each is one line
abbrev AreLines : List Entry → Type 0
AreLines entries = All HasNoLf (map entry_line entries)

no_lines : AreLines []
no_lines = All-nil HasNoLf

one_more : (entry : Entry) (entries : List Entry) → HasNoLf (entry_line entry) → AreLines entries → AreLines (entry ∷ entries)
one_more entry entries one more = All-cons HasNoLf (entry_line entry) (map entry_line entries) one more

both : (entries more : List Entry) → AreLines entries → AreLines more → AreLines (entries ++ more)
both entries more first later = subst (All HasNoLf) (sym (map-append entry_line entries more)) (All-append HasNoLf (map entry_line entries) (map entry_line more) first later)

-- a prefix of them
front_of : (entries more : List Entry) → AreLines (entries ++ more) → AreLines entries
front_of [] more all = no_lines
front_of (entry ∷ entries) more all =
    one_more entry entries (All-head HasNoLf (entry_line entry) (map entry_line (entries ++ more)) all)
    (front_of entries more (All-tail HasNoLf (entry_line entry) (map entry_line (entries ++ more)) all))

reply_lines : (k : ℕ) (lines : List (List ℕ)) → AreLines (said_lines k lines)
reply_lines k [] = no_lines
reply_lines k (line ∷ lines) = one_more (Said k line) (said_lines k lines) (said_line k line) (reply_lines k lines)

-- an event of one text
event_of : (text : List ℕ) → HasNoLf text → AreLines (Event text ∷ [])
event_of text has = one_more (Event text) [] (event_line text has) no_lines

-- a word before a number, or behind it
before_number : (word : List ℕ) (n : ℕ) → HasNoLf word → HasNoLf (word ++ decimal n)
before_number word n has = All-append IsNoLf word (decimal n) has (decimal_no_lf n)

behind_number : (n : ℕ) (word : List ℕ) → HasNoLf word → HasNoLf (decimal n ++ word)
behind_number n word has = All-append IsNoLf (decimal n) word (decimal_no_lf n) has

-- what there is of a node
of_node : (n : ℕ) (word : List ℕ) → HasNoLf word → HasNoLf (codes "node " ++ decimal n ++ word)
of_node n word has = All-append IsNoLf (codes "node " ++ decimal n) word (before_number (codes "node ") n (by_test (codes "node ") refl)) has

faulted : (node : ℕ) → AreLines (fault_event node ∷ [])
faulted node = event_of (codes "fault " ++ decimal node) (before_number (codes "fault ") node (by_test (codes "fault ") refl))

-- a word and a number more
more_number : (front word : List ℕ) (n : ℕ) → HasNoLf front → HasNoLf word → HasNoLf (front ++ word ++ decimal n)
more_number front word n has of_word = All-append IsNoLf (front ++ word) (decimal n) (All-append IsNoLf front word has of_word) (decimal_no_lf n)

sum_line : (sum : BookSum) → HasNoLf (sum_text sum)
sum_line sum =
    more_number (codes "sum acked " ++ decimal sum.acked ++ codes " struck " ++ decimal sum.struck ++ codes " dropped " ++ decimal sum.dropped) (codes " lost ") sum.lost
    (more_number (codes "sum acked " ++ decimal sum.acked ++ codes " struck " ++ decimal sum.struck) (codes " dropped ") sum.dropped
    (more_number (codes "sum acked " ++ decimal sum.acked) (codes " struck ") sum.struck (before_number (codes "sum acked ") sum.acked (by_test (codes "sum acked ") refl))
    (by_test (codes " struck ") refl)) (by_test (codes " dropped ") refl)) (by_test (codes " lost ") refl)

epoch_line : (epoch : EpochId) → HasNoLf (epoch_text epoch)
epoch_line epoch = more_number (decimal epoch.count) (codes ".") epoch.node (decimal_no_lf epoch.count) (by_test (codes ".") refl)

node_line : (nodes : List ℕ) → HasNoLf (node_words nodes)
node_line [] = All-nil IsNoLf
node_line (node ∷ nodes) = All-append IsNoLf (codes " " ++ decimal node) (node_words nodes) (before_number (codes " ") node (by_test (codes " ") refl)) (node_line nodes)

formed_line : (epoch : EpochId) (members : List ℕ) → HasNoLf (formed_text epoch members)
formed_line epoch members =
    All-append IsNoLf (codes "epoch " ++ epoch_text epoch ++ codes " members") (node_words members)
    (All-append IsNoLf (codes "epoch " ++ epoch_text epoch) (codes " members")
    (All-append IsNoLf (codes "epoch ") (epoch_text epoch) (by_test (codes "epoch ") refl) (epoch_line epoch)) (by_test (codes " members") refl))
    (node_line members)

maps_line : (user : List ℕ) (told : Option (ℕ × List ℕ)) → HasNoLf user → HasNoLf (maps_text user told)
maps_line user None has =
    All-append IsNoLf (codes "maps " ++ user) (codes " none") (All-append IsNoLf (codes "maps ") user (by_test (codes "maps ") refl) has) (by_test (codes " none") refl)
maps_line user (Some told) has =
    All-append IsNoLf (codes "maps " ++ user ++ codes " at " ++ decimal told.0 ++ codes ":") (node_words told.1)
    (All-append IsNoLf (codes "maps " ++ user ++ codes " at " ++ decimal told.0) (codes ":")
    (more_number (codes "maps " ++ user) (codes " at ") told.0 (All-append IsNoLf (codes "maps ") user (by_test (codes "maps ") refl) has) (by_test (codes " at ") refl))
    (by_test (codes ":") refl)) (node_line told.1)

words : (why : Why) → HasNoLf (why_word why)
words WhileDown = by_test (codes "down") refl
words Stale = by_test (codes "stale") refl
words Old = by_test (codes "old") refl
words NotPromised = by_test (codes "not-promised") refl
words NotMember = by_test (codes "not-member") refl
words Late = by_test (codes "late") refl

event_lines : (event : ClusterEvent) → NamesUser event → AreLines (event_entries event)
event_lines (WentDown node) named = event_of _ (of_node node (codes " down") (by_test (codes " down") refl))
event_lines (CameUp node boot) named = event_of _ (All-append IsNoLf (codes "node " ++ decimal node ++ codes " up ") (decimal boot) (of_node node (codes " up ") (by_test (codes " up ") refl)) (decimal_no_lf boot))
event_lines (WasLost node) named = event_of _ (of_node node (codes " lost") (by_test (codes " lost") refl))
event_lines (WasHeard letter) named = event_of _ (behind_number letter (codes " heard") (by_test (codes " heard") refl))
event_lines (WasThrown letter why) named =
    event_of _ (All-append IsNoLf (decimal letter ++ codes " thrown ") (why_word why) (behind_number letter (codes " thrown ") (by_test (codes " thrown ") refl)) (words why))
event_lines (WasDropped letter) named = no_lines
event_lines HasFlowed named = event_of (codes "flowed") (by_test (codes "flowed") refl)
event_lines (HasSent count) named = event_of _ (before_number (codes "sent ") count (by_test (codes "sent ") refl))
event_lines (HasWidened true) named = event_of (codes "widened") (by_test (codes "widened") refl)
event_lines (HasWidened false) named = event_of (codes "not widened") (by_test (codes "not widened") refl)
event_lines (HasGrouped epoch) named = event_of _ (All-append IsNoLf (codes "group ") (epoch_text epoch) (by_test (codes "group ") refl) (epoch_line epoch))
event_lines (HasFormed epoch members) named = event_of _ (formed_line epoch members)
event_lines HasSettled named = event_of (codes "settled") (by_test (codes "settled") refl)
event_lines (WasAbsent member) named = event_of _ (before_number (codes "not-all-up ") member (by_test (codes "not-all-up ") refl))
event_lines (HasMapped user told) named = event_of (maps_text user told) (maps_line user told (name_no_lf user named))
event_lines HasTicked named = no_lines
event_lines (HasSummed sum) named = event_of (sum_text sum) (sum_line sum)
event_lines (HasFaulted node) named = faulted node

-- one act
acted_lines : (plan : Plan) (old new : List Session) (act : Act) (entries : List Entry) → IsWorded act → Acted plan old act entries new → AreLines entries
acted_lines plan old new (Opens protocol node greeting) entries worded (says, is) = subst AreLines (sym says) (reply_lines _ (greeting ∷ []))
acted_lines plan old new (Faults node) entries worded (says, is) =
    subst AreLines (sym says) (faulted node)
acted_lines plan old new (StillWaits k) entries worded (says, is) = subst AreLines (sym says) no_lines
acted_lines plan old new (Leaves k user) entries worded (says, is) = subst AreLines (sym says) no_lines
acted_lines plan old new (Makes order event) entries worded (says, is) = subst AreLines (sym says) (event_lines event worded)
acted_lines plan old new (Abandons k) entries worded (says, is) = subst AreLines (sym says) no_lines
acted_lines plan old new (Does k deed) entries worded (before, behind, said, at, did, says, is) =
    subst AreLines (sym says) (both (said_lines k said) (closing k deed behind.standing) (reply_lines k said) (⊎_elim
    (λ none. subst AreLines (sym none) no_lines)
    (λ one. subst AreLines (sym one) (one_more (closed_event k) [] (closed_line k) no_lines)) (closing_is k deed behind.standing)))

-- all acts
all_lines : (plan : Plan) (old new : List Session) (acts : List Act) (outputs : List (List Entry)) → All IsWorded acts → ActedAll plan old acts outputs new → AreLines (all_of outputs)
all_lines plan old new [] [] worded done = no_lines
all_lines plan old new (act ∷ acts) (entries ∷ outputs) worded (mid, acted, done) =
    both entries (all_of outputs) (acted_lines plan old mid act entries (All-head IsWorded act acts worded) acted) (all_lines plan mid new acts outputs (All-tail IsWorded act acts worded) done)
all_lines plan old new [] (entries ∷ outputs) worded done = absurd done
all_lines plan old new (act ∷ acts) [] worded done = absurd done

module _ (plan : Plan) (acts : List Act) (entries : List Entry) (last : List Session) (worded : All IsWorded acts) where
  whole_lines : WroteAll plan acts entries last → AreLines entries
  whole_lines wrote = subst AreLines (sym wrote.written) (all_lines plan [] last acts wrote.outputs worded wrote.done)

  part_lines : WrotePart plan acts entries last → AreLines entries
  part_lines wrote =
      let end = wrote.end in
      let parts = all_parts end.been (end.act ∷ []) (subst (All IsWorded) end.are worded) in
      subst AreLines (sym wrote.written) (both (all_of wrote.before) wrote.front (all_lines plan [] end.mid end.been wrote.before parts.0 end.done)
      (front_of wrote.front wrote.missing (subst AreLines wrote.cut (acted_lines plan end.mid last end.act wrote.says (All-head IsWorded end.act [] parts.1) end.acted))))

  wrote_lines : (stop : Stop) → Wrote plan stop acts entries last → AreLines entries
  wrote_lines BehindLine wrote = whole_lines wrote
  wrote_lines Denied wrote = whole_lines wrote
  wrote_lines SinkFailed wrote = ⊎_elim whole_lines part_lines wrote
  wrote_lines OutOfMemory wrote = ⊎_elim whole_lines part_lines wrote

pub driven_writes_lines : DrivenWritesLines
driven_writes_lines plan stop handled left acts others made entries last driven =
    let written = driven_written plan stop handled left acts others made entries last driven in
    wrote_lines plan (flat_map (λ a. a) (acts ++ others)) entries last written.worded stop written.wrote
