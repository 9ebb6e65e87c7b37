-- What one more record at the end makes of what a start finds.
use Rattle.std.proofs.Common.{◌≡◌, ℕ, ◌∷◌, List, [], ◌++◌, refl, sym, ap, ◌∙◌, append_assoc, append-nil}
use Rattle.std.specs.Prelude.{max, nat_eq, ◌&&◌, if◌then◌else◌}
use Rattle.std.proofs.Math.Nat.{max-zero}
use Rattle.mail_model.specs.Identity.{EpochId}
use Rattle.mail_model.specs.Identity.Key.{Profile, Message}
use Rattle.mail_model.specs.Record.{Record}
use Rattle.mail_model.specs.Record.Record.{Boot, Promise, Octets, Stated, Retired}
use Rattle.object_model.specs.States.{join_with}
use Rattle.object_model.specs.Said.{said}
use Rattle.object_model.specs.UpdateLog.{Log, retired}
use Rattle.std.specs.FinMap as fin
use Rattle.cluster_model.specs.Claims.{boot_after}
use Rattle.cluster_model.specs.Rules.{greatest_named}
use Rattle.cluster_model.specs.Starts.{greatest_count_on, drawn_on, log_after, owed_state, recovered}
use Rattle.cluster_model.proofs.StoreSteps.{boot_both}
use Rattle.whole_model.specs.Whole.{promise_after}
use Rattle.whole_model.proofs.Following.{promise_both}
use Rattle.node_store.specs.Recovers.{id_named, number_for, boot_found, promise_found, count_found, drawn_found, Recovers, BootsChangeNothing, PromisesChangeNothing}
use Rattle.node_store.specs.declared.recovered.Recovered.{Recovered}

count_both : (count : ℕ) (records more : List Record) → greatest_count_on count (records ++ more) ≡ greatest_count_on (greatest_count_on count records) more
count_both count [] more = refl
count_both count (Boot boot ∷ records) more = count_both count records more
count_both count (Promise epoch ∷ records) more = count_both count records more
count_both count (Octets id octets ∷ records) more = count_both count records more
count_both count (Stated key state ∷ records) more = count_both (max count state.stamp.count) records more
count_both count (Retired key state ∷ records) more = count_both count records more

drawn_both : (own boot drawn : ℕ) (records more : List Record) → drawn_on own boot drawn (records ++ more) ≡ drawn_on own boot (drawn_on own boot drawn records) more
drawn_both own boot drawn [] more = refl
drawn_both own boot drawn (Boot other ∷ records) more = drawn_both own boot drawn records more
drawn_both own boot drawn (Promise epoch ∷ records) more = drawn_both own boot drawn records more
drawn_both own boot drawn (Octets id octets ∷ records) more = drawn_both own boot (max drawn (if nat_eq id.node own && nat_eq id.boot boot then id.seq else 0)) records more
drawn_both own boot drawn (Stated key state ∷ records) more = drawn_both own boot (max drawn (greatest_named own boot key)) records more
drawn_both own boot drawn (Retired key state ∷ records) more = drawn_both own boot (max drawn (greatest_named own boot key)) records more

-- the number of the id that the record names
drawn_one : (own boot drawn : ℕ) (one : Record) → max drawn (number_for own boot (id_named one)) ≡ drawn_on own boot drawn (one ∷ [])
drawn_one own boot drawn (Boot other) = max-zero drawn
drawn_one own boot drawn (Promise epoch) = max-zero drawn
drawn_one own boot drawn (Octets id octets) = refl
drawn_one own boot drawn (Stated (Profile user) state) = refl
drawn_one own boot drawn (Stated (Message user id) state) = refl
drawn_one own boot drawn (Retired (Profile user) state) = refl
drawn_one own boot drawn (Retired (Message user id) state) = refl

pub recovers_more : (own : ℕ) (old new : Recovered) (one : Record) → boot_found new ≡ boot_after (boot_found old) (one ∷ []) → promise_found new ≡ promise_after (promise_found old) (one ∷ [])
    → count_found new ≡ greatest_count_on (count_found old) (one ∷ [])
    → ((boot : ℕ) → drawn_found new boot ≡ max (drawn_found old boot) (number_for own boot (id_named one)))
    → (records : List Record) → Recovers own records old → Recovers own (records ++ one ∷ []) new
recovers_more own old new one boot promise count drawn records r = record {
  boot = boot ∙ ap (λ (b : ℕ). boot_after b (one ∷ [])) r.boot ∙ sym (boot_both 0 records (one ∷ []));
  promise = promise ∙ ap (λ (e : EpochId). promise_after e (one ∷ [])) r.promise ∙ sym (promise_both _ records (one ∷ []));
  count = count ∙ ap (λ (n : ℕ). greatest_count_on n (one ∷ [])) r.count ∙ sym (count_both 0 records (one ∷ []));
  drawn = λ b. drawn b ∙ drawn_one own b (drawn_found old b) one ∙ ap (λ (n : ℕ). drawn_on own b n (one ∷ [])) (r.drawn b) ∙ sym (drawn_both own b 0 records (one ∷ []));
}

log_both : (own : ℕ) (seen : List Record) (log : Log) (records more : List Record) → log_after own seen log (records ++ more) ≡ log_after own (seen ++ records) (log_after own seen log records) more
log_both own seen log [] more = ap (λ (s : List Record). log_after own s log more) (sym (append-nil seen))
log_both own seen log (Stated key state ∷ records) more =
    let after = owed_state own key (join_with (said key seen) state) log in
    log_both own (seen ++ Stated key state ∷ []) after records more
    ∙ ap (λ (s : List Record). log_after own s (log_after own (seen ++ Stated key state ∷ []) after records) more) (append_assoc seen (Stated key state ∷ []) records)
log_both own seen log (Retired key state ∷ records) more =
    let after = retired key state log in
    log_both own (seen ++ Retired key state ∷ []) after records more
    ∙ ap (λ (s : List Record). log_after own s (log_after own (seen ++ Retired key state ∷ []) after records) more) (append_assoc seen (Retired key state ∷ []) records)
log_both own seen log (Boot boot ∷ records) more =
    log_both own (seen ++ Boot boot ∷ []) log records more
    ∙ ap (λ (s : List Record). log_after own s (log_after own (seen ++ Boot boot ∷ []) log records) more) (append_assoc seen (Boot boot ∷ []) records)
log_both own seen log (Promise epoch ∷ records) more =
    log_both own (seen ++ Promise epoch ∷ []) log records more
    ∙ ap (λ (s : List Record). log_after own s (log_after own (seen ++ Promise epoch ∷ []) log records) more) (append_assoc seen (Promise epoch ∷ []) records)
log_both own seen log (Octets id octets ∷ records) more =
    log_both own (seen ++ Octets id octets ∷ []) log records more
    ∙ ap (λ (s : List Record). log_after own s (log_after own (seen ++ Octets id octets ∷ []) log records) more) (append_assoc seen (Octets id octets ∷ []) records)

pub log_more : (own : ℕ) (records : List Record) (one : Record) → recovered own (records ++ one ∷ []) ≡ log_after own records (recovered own records) (one ∷ [])
log_more own records one = log_both own [] fin.empty records (one ∷ [])

pub boots_change_nothing : BootsChangeNothing
boots_change_nothing own boot records = (
  log_more own records (Boot boot),
  boot_both 0 records (Boot boot ∷ []),
  count_both 0 records (Boot boot ∷ []),
  λ other. drawn_both own other 0 records (Boot boot ∷ []),
  promise_both _ records (Boot boot ∷ []),
)

pub promises_change_nothing : PromisesChangeNothing
promises_change_nothing own epoch records = (
  log_more own records (Promise epoch),
  boot_both 0 records (Promise epoch ∷ []),
  promise_both _ records (Promise epoch ∷ []),
  count_both 0 records (Promise epoch ∷ []),
  λ other. drawn_both own other 0 records (Promise epoch ∷ []),
)
