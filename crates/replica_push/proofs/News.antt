-- A state that adds nothing.
use Rattle.std.proofs.Common.{◌≡◌, Bool, true, false, not, cond, Option, Some, None, refl, sym, ap, ◌∙◌}
use Rattle.std.specs.FinMap as fin
use Rattle.mail_model.specs.Identity.{Key, State}
use Rattle.object_model.specs.States.{joined, join_with, is_same_state}
use Rattle.object_model.proofs.StateLaws.{state_is}
use Rattle.mail_base.proofs.KeyWrites.{written_again}
use Rattle.object_table.specs.Tables.{Table, taken}
use Rattle.replica_push.specs.Pushes.{news_of}

same_join : (held state : State) → news_of (Some held) state ≡ None → joined held state ≡ held
same_join held state none = by (is_same_state (joined held state) held) refl none
  where
    by : (b : Bool) → is_same_state (joined held state) held ≡ b → cond (not b) (Some (joined held state)) None ≡ None → joined held state ≡ held
    by true e h = state_is (joined held state) held e
    by false e h = absurd (cc h)

-- leaves the table as it was
pub no_news : (m : Table) (k : Key) (state : State) → news_of (fin.get m k) state ≡ None → m ≡ taken k state m
no_news m k state none = by (fin.get m k) refl none
  where
    by : (held : Option State) → fin.get m k ≡ held → news_of held state ≡ None → m ≡ fin.insert m k (join_with held state)
    by None e h = absurd (cc h)
    by (Some held) e h = sym (ap (fin.insert m k) (same_join held state h) ∙ written_again m k held e)
