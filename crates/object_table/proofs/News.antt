-- When a state adds something to the one that is held.
use Rattle.std.proofs.Common.{◌≡◌, Bool, true, false, not, sym, ap, subst, ◌∙◌, true≢false, cond}
use Rattle.std.proofs.lemmas.Bool.{false_from_ne_true}
use Rattle.mail_model.specs.Identity.{State}
use Rattle.object_model.specs.States.{is_below, joined, is_same_state}
use Rattle.object_model.proofs.StateLaws.{state_is, not_below_self}

-- a state above the one that is held makes another of it
pub above_is_news : (held state : State) → is_below held state ≡ true → not (is_same_state (joined held state) held) ≡ true
above_is_news held state above = ap not (false_from_ne_true (is_same_state (joined held state) held) (λ same. true≢false (sym (below_join same) ∙ not_below_self held)))
  where
    reads : is_below held (joined held state) ≡ true
    reads = by (is_below held state) above
      where
        by : (b : Bool) → b ≡ true → is_below held (record { value = (cond b state held).value; stamp = (cond b state held).stamp; targets = (joined held state).targets }) ≡ true
        by true e = above
        by false e = absurd (true≢false (sym e))

    below_join : is_same_state (joined held state) held ≡ true → is_below held held ≡ true
    below_join same = subst (λ (s : State). is_below held s ≡ true) (state_is (joined held state) held same) reads
