-- A map of tickets in which one was put, changed or taken out.
use Rattle.std.proofs.Common.{◌≡◌, ℕ, List, cond, Bool, true, false, Option, Some, None, refl, sym, ap, ◌∙◌}
use Rattle.std.specs.FinMap as fin
use Rattle.std.specs.FinMap.{get-remove, get_tied, same_map}
use Rattle.std.specs.BTreeMap.{is_at}
use Rattle.std.specs.Ordering.{nat_cmp, eq_by_cmp}
use Rattle.std.specs.Cmp.{nat_cmp_total, Equal-is}
use Rattle.std.proofs.lemmas.Map.Lookups.{exact_unsigned}
use Rattle.object_model.specs.Letters.{Body}
use Rattle.object_model.specs.Mishaps.{MishapKind}
use Rattle.cluster_model.specs.Cluster.{Ticket, Tickets}
use Rattle.cluster_model.specs.Rules.{told_ticket}
use Rattle.node_tickets.specs.Standing.{seen, tickets_told, befell_in, ticket_taken_out, failed_ticket}
use Rattle.node_tickets.proofs.Maps as maps

abbrev at_key : List (ℕ × Ticket) → ℕ → Option Ticket
at_key es seq = maps.at_key nat_cmp_total exact_unsigned es seq

pub got : (es : List (ℕ × Ticket)) (seq : ℕ) (r : Option Ticket) → r ≡ at_key es seq → r ≡ fin.get (seen es) seq
got es seq r found = maps.map_found nat_cmp_total exact_unsigned es (seen es) seq r refl found

pub was_put : (es fs : List (ℕ × Ticket)) (seq : ℕ) (new : Ticket) → ((q : ℕ) → at_key fs q ≡ cond (is_at (nat_cmp seq) q) (Some new) (at_key es q)) → seen fs ≡ fin.insert (seen es) seq new
was_put es fs seq new up = maps.map_put nat_cmp_total exact_unsigned es fs (seen es) seq new refl up

pub told_written : (es fs : List (ℕ × Ticket)) (seq : ℕ) (body : Body) (from : ℕ) (old new : Ticket) → Some old ≡ at_key es seq → new ≡ told_ticket body from old
    → ((q : ℕ) → at_key fs q ≡ cond (is_at (nat_cmp seq) q) (Some new) (at_key es q)) → seen fs ≡ tickets_told body from seq (fin.get (seen es) seq) (seen es)
told_written es fs seq body from old new found is up =
    was_put es fs seq new up ∙ ap (fin.insert (seen es) seq) is ∙ ap (λ t. tickets_told body from seq t (seen es)) (got es seq (Some old) found)

pub told_none : (es : List (ℕ × Ticket)) (seq : ℕ) (body : Body) (from : ℕ) → None ≡ at_key es seq → seen es ≡ tickets_told body from seq (fin.get (seen es) seq) (seen es)
told_none es seq body from none = ap (λ t. tickets_told body from seq t (seen es)) (got es seq None none)

pub befell_written : (es fs : List (ℕ × Ticket)) (seq : ℕ) (kind : MishapKind) (at : ℕ) (old new : Ticket) → Some old ≡ at_key es seq → new ≡ failed_ticket kind at old
    → ((q : ℕ) → at_key fs q ≡ cond (is_at (nat_cmp seq) q) (Some new) (at_key es q)) → seen fs ≡ befell_in kind at seq (fin.get (seen es) seq) (seen es)
befell_written es fs seq kind at old new found is up =
    was_put es fs seq new up ∙ ap (fin.insert (seen es) seq) is ∙ ap (λ t. befell_in kind at seq t (seen es)) (got es seq (Some old) found)

pub befell_none : (es : List (ℕ × Ticket)) (seq : ℕ) (kind : MishapKind) (at : ℕ) → None ≡ at_key es seq → seen es ≡ befell_in kind at seq (fin.get (seen es) seq) (seen es)
befell_none es seq kind at none = ap (λ t. befell_in kind at seq t (seen es)) (got es seq None none)

-- to take out what is not there changes nothing
pub taken : (m : Tickets) (seq : ℕ) → fin.remove m seq ≡ ticket_taken_out seq (fin.get m seq) m
taken m seq = by (fin.get m seq) refl
  where
    by : (t : Option Ticket) → fin.get m seq ≡ t → fin.remove m seq ≡ ticket_taken_out seq t m
    by None none = same_map nat_cmp_total exact_unsigned _ _ (λ q. get-remove nat_cmp_total m seq q ∙ at (eq_by_cmp nat_cmp q seq) q refl)
      where
        at : (b : Bool) (q : ℕ) → eq_by_cmp nat_cmp q seq ≡ b → cond b None (fin.get m q) ≡ fin.get m q
        at false q e = refl
        at true q e = sym none ∙ get_tied nat_cmp_total m q seq ((Equal-is (nat_cmp q seq)).0 e)
    by (Some t) some = refl

pub was_taken : (es fs : List (ℕ × Ticket)) (seq : ℕ) → ((q : ℕ) → at_key fs q ≡ cond (is_at (nat_cmp seq) q) None (at_key es q)) → seen fs ≡ ticket_taken_out seq (fin.get (seen es) seq) (seen es)
was_taken es fs seq up = maps.map_removed nat_cmp_total exact_unsigned es fs (seen es) seq refl up ∙ taken (seen es) seq
