-- A map of tickets in which one was put, changed or taken out, and the machine's node with it.
use Rattle.std.proofs.Common.{◌≡◌, ℕ, List, [], cond, Bool, true, false, Option, Some, None, refl, sym, ap, ◌∙◌}
use Rattle.std.specs.FinMap as fin
use Rattle.std.specs.FinMap.{get-remove, get_tied, same_map}
use Rattle.std.specs.BTreeMap.{is_at}
use Rattle.std.specs.Map.{lookup}
use Rattle.std.specs.Ordering.{nat_cmp, eq_by_cmp}
use Rattle.std.specs.Cmp.{nat_cmp_total, Equal-is}
use Rattle.std.proofs.lemmas.Map.Lookups.{exact_unsigned}
use Rattle.mail_base.proofs.Maps.{get_by_lookup, one_set, one_unset}
use Rattle.object_model.specs.Letters.{Letter}
use Rattle.login_model.specs.Readings.{ReadTicket, Reads}
use Rattle.node_reads.specs.Tickets.{taken_if_stands, TicketDid, did_if_stands}
use Rattle.node_reads.specs.Tables.{seen}

abbrev at_key : List (ℕ × ReadTicket) → ℕ → Option ReadTicket
at_key es seq = lookup (is_at (nat_cmp seq)) es

pub got : (es : List (ℕ × ReadTicket)) (seq : ℕ) (r : Option ReadTicket) → r ≡ at_key es seq → r ≡ fin.get (seen es) seq
got es seq r found = found ∙ sym (get_by_lookup nat_cmp nat_cmp_total es seq)

pub was_put : (es fs : List (ℕ × ReadTicket)) (seq : ℕ) (new : ReadTicket) → ((q : ℕ) → at_key fs q ≡ cond (is_at (nat_cmp seq) q) (Some new) (at_key es q)) → seen fs ≡ fin.insert (seen es) seq new
was_put es fs seq new up = one_set nat_cmp nat_cmp_total exact_unsigned es fs seq new up

-- to take out what is not there changes nothing
taken : (m : Reads) (seq : ℕ) → fin.remove m seq ≡ taken_if_stands m seq (fin.get m seq)
taken m seq = by (fin.get m seq) refl
  where
    by : (t : Option ReadTicket) → fin.get m seq ≡ t → fin.remove m seq ≡ taken_if_stands m seq t
    by None none = same_map nat_cmp_total exact_unsigned _ _ (λ q. get-remove nat_cmp_total m seq q ∙ at (eq_by_cmp nat_cmp q seq) q refl)
      where
        at : (b : Bool) (q : ℕ) → eq_by_cmp nat_cmp q seq ≡ b → cond b None (fin.get m q) ≡ fin.get m q
        at false q e = refl
        at true q e = sym none ∙ get_tied nat_cmp_total m q seq ((Equal-is (nat_cmp q seq)).0 e)
    by (Some t) some = refl

pub was_taken : (es fs : List (ℕ × ReadTicket)) (seq : ℕ) → ((q : ℕ) → at_key fs q ≡ cond (is_at (nat_cmp seq) q) None (at_key es q)) → seen fs ≡ taken_if_stands (seen es) seq (fin.get (seen es) seq)
was_taken es fs seq up = one_unset nat_cmp nat_cmp_total exact_unsigned es fs seq up ∙ taken (seen es) seq

-- a ticket that stands was changed by a rule
pub changed : (rule : ReadTicket → TicketDid) (es fs : List (ℕ × ReadTicket)) (seq : ℕ) (old new : ReadTicket) (out : List Letter) → Some old ≡ at_key es seq → record { ticket = new; out = out } ≡ rule old
    → ((q : ℕ) → at_key fs q ≡ cond (is_at (nat_cmp seq) q) (Some new) (at_key es q)) → did_if_stands rule (seen es) seq (fin.get (seen es) seq) ≡ record { reads = seen fs; out = out }
changed rule es fs seq old new out found did up =
    ap (did_if_stands rule (seen es) seq) (sym (got es seq (Some old) found))
    ∙ ap (λ (d : TicketDid). record { reads = fin.insert (seen es) seq d.ticket; out = d.out }) (sym did)
    ∙ ap (λ (m : Reads). record { reads = m; out = out }) (sym (was_put es fs seq new up))

-- and none stands
pub unchanged : (rule : ReadTicket → TicketDid) (es : List (ℕ × ReadTicket)) (seq : ℕ) → None ≡ at_key es seq → did_if_stands rule (seen es) seq (fin.get (seen es) seq) ≡ record { reads = seen es; out = [] }
unchanged rule es seq none = ap (did_if_stands rule (seen es) seq) (sym (got es seq None none))

pub same_entries : (es fs : List (ℕ × ReadTicket)) (seq : ℕ) (old new : ReadTicket) → Some old ≡ at_key es seq → new ≡ old → ((q : ℕ) → at_key fs q ≡ cond (is_at (nat_cmp seq) q) (Some new) (at_key es q)) → seen fs ≡ seen es
same_entries es fs seq old new found same up = same_map nat_cmp_total exact_unsigned _ _ (λ q. get_by_lookup nat_cmp nat_cmp_total fs q ∙ up q ∙ at (is_at (nat_cmp seq) q) q refl ∙ sym (get_by_lookup nat_cmp nat_cmp_total es q))
  where
    at : (b : Bool) (q : ℕ) → is_at (nat_cmp seq) q ≡ b → cond b (Some new) (at_key es q) ≡ at_key es q
    at false q e = refl
    at true q e = ap Some same ∙ found ∙ ap (at_key es) (exact_unsigned seq q ((Equal-is (nat_cmp seq q)).0 e))
