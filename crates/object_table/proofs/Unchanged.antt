-- A state that adds nothing leaves the table as it was.
use Rattle.std.proofs.Common.{◌≡◌, Bool, true, false, not, cond, Option, Some, None, refl, sym, ap, ◌∙◌}
use Rattle.std.specs.FinMap as fin
use Rattle.mail_model.specs.Identity.{Key, State}
use Rattle.object_model.specs.States.{joined, join_with, is_same_state}
use Rattle.object_model.proofs.StateLaws.{state_is}
use Rattle.object_table.specs.declared.table.Taken.{Taken}
use Rattle.object_table.specs.declared.table.Taken.TheVariants.{Newer, Same, Older}
use Rattle.object_table.specs.Tables.{Table, taken}
use Rattle.object_table.specs.Outcomes.{outcome, outcome_of}
use Rattle.mail_base.proofs.KeyWrites.{written_again}

nothing_new : (held state : State) → (outcome_of held state ≡ Newer → ⊥) → joined held state ≡ held
nothing_new held state not_newer = by (is_same_state (joined held state) held) refl
  where
    by : (b : Bool) → is_same_state (joined held state) held ≡ b → joined held state ≡ held
    by true e = state_is (joined held state) held e
    by false e = absurd (not_newer (ap (λ b. cond (not b) Newer (cond (is_same_state held state) Same Older)) e))

pub unchanged : (m : Table) (k : Key) (state : State) (became : Taken) → became ≡ outcome (fin.get m k) state → (became ≡ Newer → ⊥) → m ≡ taken k state m
unchanged m k state became is not_newer = by (fin.get m k) refl
  where
    by : (held : Option State) → fin.get m k ≡ held → m ≡ fin.insert m k (join_with held state)
    by None e = absurd (not_newer (is ∙ ap (λ h. outcome h state) e))
    by (Some held) e = sym (ap (fin.insert m k) (nothing_new held state (λ newer. not_newer (is ∙ ap (λ h. outcome h state) e ∙ newer))) ∙ written_again m k held e)
