-- What a journal is while a record is written after its closed gate, and once that gate is open.
use Rattle.std.proofs.Common.{◌≡◌, ◌≢◌, ◌⊎◌, inl, inr, ⊎_elim, IfSome, MatchOption, get_or, ℕ, ◌+◌, ◌<◌, ◌≤◌, ◌^◌, List, [], ◌∷◌, ◌++◌, length, take, drop, Option, Some, None, Result, Ok, Err, refl, sym, ap, subst, ◌∙◌, arith, append_assoc, length-append, flat_map}
use Rattle.std.proofs.lemmas.List.{take_at, drop_at, take-append-drop, drop_more, length-take-le}
use Rattle.std.proofs.lemmas.Bool.{cases_eq}
use Rattle.std.specs.Int.{to_be_bytes, w32}
use Rattle.std.proofs.lemmas.List.Concat.{flat_map-append}
use Rattle.std.proofs.lemmas.Grind.{common_steps}
use Rattle.io_edge.specs.Octets.{Holds, Torn, WritesAt}
use Rattle.io_edge.proofs.Torn.{torn_by}
use Rattle.mail_model.specs.Record.{IsJournal, journal_of, header_of, framed, AreShort}
use Rattle.disk_journal.specs.Journal.{EndsAt, TellsJournal, Gated, HoldsEither, HasGate, behind_gate}

-- a closed gate stands at `end`, and after it these octets
pub record Behind (node : ℕ) (held : List ℕ) (payloads : List (List ℕ)) (end : ℕ) (octets : List ℕ) : Type 0 where
  pub gate : ℕ
  pub rest : List ℕ
  pub whole : held ≡ journal_of node payloads ++ gate ∷ (octets ++ rest)
  pub closed : gate ≢ 0xA5
  pub short : AreShort payloads
  pub at_gate : end ≡ length (journal_of node payloads)

-- the octets through the gate
through_gate : (front : List ℕ) (gate : ℕ) (others : List ℕ) (end : ℕ) → end ≡ length front → take (end + 1) (front ++ gate ∷ others) ≡ front ++ gate ∷ []
through_gate front gate others end e =
    ap (λ (l : List ℕ). take (end + 1) l) (sym (append_assoc front (gate ∷ []) others))
    ∙ take_at (front ++ gate ∷ []) others (end + 1) (length-append front (gate ∷ []) ∙ (let k : length front + 1 ≡ end + 1 = omega arith in k))

-- a failed write after the gate leaves the journal
pub still_closed : (node end n : ℕ) (payloads : List (List ℕ)) (held new : List ℕ) → EndsAt node held payloads end → Torn (end + 1) n held new → IsJournal node new payloads
still_closed node end n payloads held new stands torn =
    let front = journal_of node payloads in
    let gate = stands.journal.gate in
    let same : take (end + 1) new ≡ front ++ gate ∷ [] = torn.before ∙ ap (λ (l : List ℕ). take (end + 1) l) stands.journal.whole ∙ through_gate front gate stands.journal.others end stands.at_gate in
    let split : new ≡ (front ++ gate ∷ []) ++ drop (end + 1) new = sym (take-append-drop (end + 1) new) ∙ ap (λ (l : List ℕ). l ++ drop (end + 1) new) same in
    record {
      gate = gate;
      others = drop (end + 1) new;
      whole = split ∙ append_assoc front (gate ∷ []) (drop (end + 1) new);
      closed = stands.journal.closed;
      short = stands.journal.short;
    }

-- a write after the gate that was done
pub written_behind : (node end : ℕ) (payloads : List (List ℕ)) (octets held new : List ℕ) → EndsAt node held payloads end → Holds held (end + 1) octets new → Behind node new payloads end octets
written_behind node end payloads octets held new stands holds =
    let front = journal_of node payloads in
    let gate = stands.journal.gate in
    let rest = drop (end + 1 + length octets) held in
    let same : take (end + 1) held ≡ front ++ gate ∷ [] = ap (λ (l : List ℕ). take (end + 1) l) stands.journal.whole ∙ through_gate front gate stands.journal.others end stands.at_gate in
    record {
      gate = gate;
      rest = rest;
      whole = holds ∙ ap (λ (l : List ℕ). l ++ octets ++ rest) same ∙ append_assoc (front ++ gate ∷ []) octets rest ∙ append_assoc front (gate ∷ []) (octets ++ rest);
      closed = stands.journal.closed;
      short = stands.journal.short;
      at_gate = stands.at_gate;
    }

are_short-append : (payloads : List (List ℕ)) (payload : List ℕ) → AreShort payloads → length payload < 2 ^ 32 → AreShort (payloads ++ payload ∷ [])
are_short-append [] payload short small = (small, tt)
are_short-append (first ∷ payloads) payload short small = (short.0, are_short-append payloads payload short.1 small)

-- one payload more
journal_of-append : (node : ℕ) (payloads : List (List ℕ)) (payload : List ℕ) → journal_of node (payloads ++ payload ∷ []) ≡ journal_of node payloads ++ framed payload
journal_of-append node payloads payload =
    ap (λ (l : List ℕ). header_of node ++ l) (flat_map-append framed payloads (payload ∷ []) ∙ grind (arith, common_steps))
    ∙ sym (append_assoc (header_of node) (flat_map framed payloads) (framed payload))

regroup : (front lens payload rest : List ℕ) → front ++ 0xA5 ∷ ((lens ++ payload ++ 0 ∷ []) ++ rest) ≡ (front ++ (0xA5 ∷ lens ++ payload)) ++ 0 ∷ rest
regroup front lens payload rest = simp append_assoc

-- after an open gate the record counts
opened : (node : ℕ) (payloads : List (List ℕ)) (payload rest : List ℕ)
    → journal_of node payloads ++ 0xA5 ∷ (behind_gate payload ++ rest) ≡ journal_of node (payloads ++ payload ∷ []) ++ 0 ∷ rest
opened node payloads payload rest =
    regroup (journal_of node payloads) (to_be_bytes w32 (length payload)) payload rest
    ∙ ap (λ (l : List ℕ). l ++ 0 ∷ rest) (sym (journal_of-append node payloads payload))

-- the record counts where the gate is open
open_journal : (node : ℕ) (payloads : List (List ℕ)) (payload octets rest new : List ℕ) → AreShort payloads → length payload < 2 ^ 32
    → octets ≡ behind_gate payload → new ≡ journal_of node payloads ++ 0xA5 ∷ (octets ++ rest) → IsJournal node new (payloads ++ payload ∷ [])
open_journal node payloads payload octets rest new short small e whole = record {
  gate = 0;
  others = rest;
  whole = whole ∙ ap (λ (l : List ℕ). journal_of node payloads ++ 0xA5 ∷ (l ++ rest)) e ∙ opened node payloads payload rest;
  closed = λ (h : 0 ≡ 0xA5). absurd (omega arith);
  short = are_short-append payloads payload short small;
}

length-behind_gate : (payload : List ℕ) → length (behind_gate payload) ≡ length (framed payload)
length-behind_gate payload = omega (arith, length-append payload (0 ∷ []))

length-opened : (node end : ℕ) (payloads : List (List ℕ)) (payload octets : List ℕ) → octets ≡ behind_gate payload → end ≡ length (journal_of node payloads)
    → end + length octets ≡ length (journal_of node (payloads ++ payload ∷ []))
length-opened node end payloads payload octets e at_gate =
    let more = length-append (journal_of node payloads) (framed payload) in
    let same : length octets ≡ length (framed payload) = ap length e ∙ length-behind_gate payload in
    let sum : end + length octets ≡ length (journal_of node payloads) + length (framed payload) = cc in
    sum ∙ sym more ∙ ap length (sym (journal_of-append node payloads payload))

-- what stands before the gate, and after it
before_gate : (node end : ℕ) (payloads : List (List ℕ)) (octets held : List ℕ) → (b : Behind node held payloads end octets) → take end held ≡ journal_of node payloads
before_gate node end payloads octets held b = ap (λ (l : List ℕ). take end l) b.whole ∙ take_at (journal_of node payloads) (b.gate ∷ (octets ++ b.rest)) end (sym b.at_gate)

after_gate : (node end : ℕ) (payloads : List (List ℕ)) (octets held : List ℕ) → (b : Behind node held payloads end octets) → drop (end + 1) held ≡ octets ++ b.rest
after_gate node end payloads octets held b =
    let front = journal_of node payloads in
    let through = front ++ b.gate ∷ [] in
    let size : length through ≡ end + 1 = omega (arith, length-append front (b.gate ∷ []), b.at_gate) in
    ap (λ (l : List ℕ). drop (end + 1) l) (b.whole ∙ sym (append_assoc front (b.gate ∷ []) (octets ++ b.rest)))
    ∙ drop_at through (octets ++ b.rest) (end + 1) size

-- the gate was opened
pub gate_opened : (node end : ℕ) (payloads : List (List ℕ)) (payload octets held new : List ℕ) → Behind node held payloads end octets → octets ≡ behind_gate payload → length payload < 2 ^ 32
    → Holds held end (0xA5 ∷ []) new → EndsAt node new (payloads ++ payload ∷ []) (end + length octets)
gate_opened node end payloads payload octets held new b e small holds =
    let front = journal_of node payloads in
    let parts : new ≡ front ++ 0xA5 ∷ [] ++ (octets ++ b.rest) = holds
    ∙ ap (λ (l : List ℕ). l ++ 0xA5 ∷ [] ++ drop (end + 1) held) (before_gate node end payloads octets held b)
    ∙ ap (λ (l : List ℕ). front ++ 0xA5 ∷ [] ++ l) (after_gate node end payloads octets held b) in
    record {
      journal = open_journal node payloads payload octets b.rest new b.short small e (parts ∙ append_assoc front (0xA5 ∷ []) (octets ++ b.rest));
      at_gate = length-opened node end payloads payload octets e b.at_gate;
    }

-- what stands after a write of the gate that may have failed: any octet in it, and the rest as it was
torn_whole : (node end : ℕ) (payloads : List (List ℕ)) (octets held new : List ℕ) (b : Behind node held payloads end octets) → Torn end 1 held new
    → new ≡ journal_of node payloads ++ get_or new end 0 ∷ (octets ++ b.rest)
torn_whole node end payloads octets held new b torn =
    let front = journal_of node payloads in
    let found = get_or new end 0 in
    let long : end < length held = omega (arith, ap length b.whole, length-append front (b.gate ∷ (octets ++ b.rest)), b.at_gate) in
    let within : end < length new = omega (arith, torn.no_shorter) in
    sym (take-append-drop end new)
    ∙ ap (λ (l : List ℕ). l ++ drop end new) (torn.before ∙ before_gate node end payloads octets held b)
    ∙ ap (λ (l : List ℕ). front ++ l) (drop_more new end 0 within)
    ∙ ap (λ (l : List ℕ). front ++ found ∷ l) (torn.after ∙ after_gate node end payloads octets held b)

-- the record counts where the gate is open
pub torn_open : (node end : ℕ) (payloads : List (List ℕ)) (payload octets held new : List ℕ) → Behind node held payloads end octets → octets ≡ behind_gate payload → length payload < 2 ^ 32
    → Torn end 1 held new → get_or new end 0 ≡ 0xA5 → IsJournal node new (payloads ++ payload ∷ [])
torn_open node end payloads payload octets held new b e small torn is =
    open_journal node payloads payload octets b.rest new b.short small e
    (torn_whole node end payloads octets held new b torn ∙ ap (λ (x : ℕ). journal_of node payloads ++ x ∷ (octets ++ b.rest)) is)

-- and it does not where the gate is closed
pub torn_closed : (node end : ℕ) (payloads : List (List ℕ)) (octets held new : List ℕ) → Behind node held payloads end octets → Torn end 1 held new
    → (get_or new end 0 ≡ 0xA5 → ⊥) → IsJournal node new payloads
torn_closed node end payloads octets held new b torn closed =
    record { gate = get_or new end 0; others = octets ++ b.rest; whole = torn_whole node end payloads octets held new b torn; closed = closed; short = b.short }

-- any octet may stand in the gate after a write of it that failed
pub gate_torn : (node end : ℕ) (payloads : List (List ℕ)) (payload octets held new : List ℕ) → Behind node held payloads end octets → octets ≡ behind_gate payload → length payload < 2 ^ 32
    → Torn end 1 held new → IsJournal node new payloads ⊎ IsJournal node new (payloads ++ payload ∷ [])
gate_torn node end payloads payload octets held new b e small torn = ⊎_elim
    (λ (is : get_or new end 0 ≡ 0xA5). inr (torn_open node end payloads payload octets held new b e small torn is))
    (λ (closed : get_or new end 0 ≡ 0xA5 → ⊥). inl (torn_closed node end payloads octets held new b torn closed))
    (cases_eq (get_or new end 0) 0xA5)

-- the first write failed
pub first_failed : (old new : Option (List ℕ)) (node end n : ℕ) (payloads : List (List ℕ)) (payload : List ℕ) → TellsJournal old node payloads end
    → MatchOption old (new ≡ None) (λ held. (now : List ℕ) × (new ≡ Some now) × Torn (end + 1) n held now) → HoldsEither new node payloads payload
first_failed None new node end n payloads payload stands written =
    subst (λ (o : Option (List ℕ)). HoldsEither o node payloads payload) (sym written) tt
first_failed (Some held) new node end n payloads payload stands written =
    subst (λ (o : Option (List ℕ)). HoldsEither o node payloads payload) (sym written.1)
    (inl (still_closed node end n payloads held written.0 stands written.2))

gate_written : {E : Type 0} (result : Result (Unit {0}) E) (new : Option (List ℕ)) (node end : ℕ) (payloads : List (List ℕ)) (payload octets mid : List ℕ)
    → Behind node mid payloads end octets → octets ≡ behind_gate payload → length payload < 2 ^ 32
    → WritesAt (Some mid) new result end (0xA5 ∷ []) → Gated result new node payloads payload (end + length octets)
gate_written (Ok _) new node end payloads payload octets mid b e small written =
    subst (λ (o : Option (List ℕ)). TellsJournal o node (payloads ++ payload ∷ []) (end + length octets)) (sym written.1)
    (gate_opened node end payloads payload octets mid written.0 b e small written.2)
gate_written (Err _) new node end payloads payload octets mid b e small written =
    subst (λ (o : Option (List ℕ)). HoldsEither o node payloads payload) (sym written.1)
    (gate_torn node end payloads payload octets mid written.0 b e small written.2)

-- a disk that tells nothing goes on telling nothing
untold_stays : {E : Type 0} (result : Result (Unit {0}) E) (new : Option (List ℕ)) (at : ℕ) → WritesAt None new result at (0xA5 ∷ []) → new ≡ None
untold_stays (Ok _) new at written = written
untold_stays (Err _) new at written = written

untold_gated : {E : Type 0} (result : Result (Unit {0}) E) (new : Option (List ℕ)) (node end : ℕ) (payloads : List (List ℕ)) (payload octets : List ℕ)
    → new ≡ None → Gated result new node payloads payload (end + length octets)
untold_gated (Ok _) new node end payloads payload octets untold =
    subst (λ (o : Option (List ℕ)). TellsJournal o node (payloads ++ payload ∷ []) (end + length octets)) (sym untold) tt
untold_gated (Err _) new node end payloads payload octets untold = subst (λ (o : Option (List ℕ)). HoldsEither o node payloads payload) (sym untold) tt

-- both writes were made, and the second may have failed
both_written : {E : Type 0} (result : Result (Unit {0}) E) (old mid new : Option (List ℕ)) (node end : ℕ) (payloads : List (List ℕ)) (payload octets : List ℕ)
    → TellsJournal old node payloads end → octets ≡ behind_gate payload → length payload < 2 ^ 32
    → MatchOption old (mid ≡ None) (λ held. (now : List ℕ) × (mid ≡ Some now) × Holds held (end + 1) octets now)
    → WritesAt mid new result end (0xA5 ∷ []) → Gated result new node payloads payload (end + length octets)
both_written result None mid new node end payloads payload octets stands e small first second =
    untold_gated result new node end payloads payload octets (untold_stays result new end (subst (λ (o : Option (List ℕ)). WritesAt o new result end (0xA5 ∷ [])) first second))
both_written result (Some held) mid new node end payloads payload octets stands e small first second =
    gate_written result new node end payloads payload octets first.0 (written_behind node end payloads octets held first.0 stands first.2) e small
    (subst (λ (o : Option (List ℕ)). WritesAt o new result end (0xA5 ∷ [])) first.1 second)

-- an empty disk on which the header and a closed gate were written
pub created : (old new : Option (List ℕ)) (node : ℕ) (octets : List ℕ) → IfSome old (λ held. held ≡ []) → octets ≡ header_of node ++ 0 ∷ []
    → MatchOption old (new ≡ None) (λ held. (now : List ℕ) × (new ≡ Some now) × Holds held 0 octets now) → TellsJournal new node [] 16 × HasGate new 16
created None new node octets empty e written = subst (λ (o : Option (List ℕ)). TellsJournal o node [] 16 × HasGate o 16) (sym written) (tt, tt)
created (Some held) new node octets empty e written =
    let whole : written.0 ≡ journal_of node [] ++ 0 ∷ [] = grind (arith, common_steps) in
    subst (λ (o : Option (List ℕ)). TellsJournal o node [] 16 × HasGate o 16) (sym written.1) (
      record { journal = record { gate = 0; others = []; whole = whole; closed = λ (h : 0 ≡ 0xA5). absurd (omega arith); short = tt }; at_gate = refl },
      omega (arith, ap length whole),
    )

-- the next gate stands after the record
gate_stands : (end : ℕ) (octets held mid new : List ℕ) → end < length held → Holds held (end + 1) octets mid → Holds mid end (0xA5 ∷ []) new → end + length octets < length new
gate_stands end octets held mid new long first second =
    let size = ap length first ∙ length-append (take (end + 1) held ++ octets) (drop (end + 1 + length octets) held) in
    let reached : end + 1 + length octets ≤ length mid = omega (arith, size, length-append (take (end + 1) held) octets, length-take-le (end + 1) held (omega (arith, long))) in
    omega (arith, reached, (torn_by end (0xA5 ∷ []) mid new (omega (arith, reached)) second).no_shorter)

pub gate_behind : (old mid new : Option (List ℕ)) (end : ℕ) (octets : List ℕ) → HasGate old end
    → MatchOption old (mid ≡ None) (λ held. (now : List ℕ) × (mid ≡ Some now) × Holds held (end + 1) octets now)
    → MatchOption mid (new ≡ None) (λ held. (now : List ℕ) × (new ≡ Some now) × Holds held end (0xA5 ∷ []) now)
    → HasGate new (end + length octets)
gate_behind None mid new end octets gate first second =
    let untold : new ≡ None = subst (λ (o : Option (List ℕ)). MatchOption o (new ≡ None) (λ held. (now : List ℕ) × (new ≡ Some now) × Holds held end (0xA5 ∷ []) now)) first second in
    subst (λ (o : Option (List ℕ)). HasGate o (end + length octets)) (sym untold) tt
gate_behind (Some held) mid new end octets gate first second =
    let then = subst (λ (o : Option (List ℕ)). MatchOption o (new ≡ None) (λ h. (now : List ℕ) × (new ≡ Some now) × Holds h end (0xA5 ∷ []) now)) first.1 second in
    subst (λ (o : Option (List ℕ)). HasGate o (end + length octets)) (sym then.1) (gate_stands end octets held first.0 then.0 gate first.2 then.2)

-- the second write failed
pub second_failed : (old mid new : Option (List ℕ)) (node end : ℕ) (payloads : List (List ℕ)) (payload octets : List ℕ) → TellsJournal old node payloads end → octets ≡ behind_gate payload
    → length payload < 2 ^ 32 → MatchOption old (mid ≡ None) (λ held. (now : List ℕ) × (mid ≡ Some now) × Holds held (end + 1) octets now)
    → MatchOption mid (new ≡ None) (λ held. (now : List ℕ) × (new ≡ Some now) × Torn end 1 held now) → HoldsEither new node payloads payload
second_failed old mid new node end payloads payload octets stands e small first second =
    both_written {E = Unit {0}} (Err tt) old mid new node end payloads payload octets stands e small first second

-- both writes were made
pub both_made : (old mid new : Option (List ℕ)) (node end : ℕ) (payloads : List (List ℕ)) (payload octets : List ℕ) → TellsJournal old node payloads end → octets ≡ behind_gate payload
    → length payload < 2 ^ 32 → MatchOption old (mid ≡ None) (λ held. (now : List ℕ) × (mid ≡ Some now) × Holds held (end + 1) octets now)
    → MatchOption mid (new ≡ None) (λ held. (now : List ℕ) × (new ≡ Some now) × Holds held end (0xA5 ∷ []) now) → TellsJournal new node (payloads ++ payload ∷ []) (end + length octets)
both_made old mid new node end payloads payload octets stands e small first second =
    both_written {E = Unit {0}} (Ok tt) old mid new node end payloads payload octets stands e small first second
