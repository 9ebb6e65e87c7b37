use Rattle.std.proofs.Common.{◌++◌, ℕ, List, [], ◌∷◌, Option, Some, refl, sym, ap, ◌∙◌, subst}
use Rattle.std.specs.Prelude.{slice_set}
use Rattle.std.proofs.lemmas.Option.{slice_get_read}
use Rattle.session_model.specs.Sessions.{Session}
use Rattle.session_model.specs.Talk.{down_line}
use Rattle.drive_tape.specs.Talks.{Converse, Sits}
use Rattle.drive_tape.specs.declared.talker.Talker.{Talker}
use Rattle.drive_tape.proofs.Talks.{matches_at, sit_none, converse_set, set_same}
use Rattle.drive_tape.proofs.Moving.{fell_ended, any_plan}
use Rattle.drive_tape.proofs.sessions.Sessions.fall.Goals as goal

pub returns-then-has_ended-clause-fell : goal.returns-then-has_ended-clause-fell
returns-then-has_ended-clause-fell c sessions plain all here =
    let was = slice_get_read _ _ _ _ refl c.requires.within c.index_mut-2.ensures.value ∙ ap Some (sym c.take.ensures.value ∙ c.in-Some.is) in
    let ended = c.if-has_ended.ensures plain (matches_at _ sessions c.args.place _ plain all was here) in (
      ended,
      record {
        says = c.requires.empty;
        talks = subst (λ (l : List Session). Converse (slice_set c.args.self.now.talkers.items c.args.place c.take.new.self) l) (set_same sessions c.args.place plain here)
            (converse_set _ sessions c.args.place c.take.new.self plain all (subst (λ (t : Option Talker). Sits t plain) (sym c.take.ensures.after) ended));
        count = refl;
      },
    )

pub returns-in_ok-node_down-in-Some-clause-fell : goal.returns-in_ok-node_down-in-Some-clause-fell
returns-in_ok-node_down-in-Some-clause-fell c sessions plain all here =
    let was = slice_get_read _ _ _ _ refl c.requires.within c.index_mut-2.ensures.value ∙ ap Some (sym c.take.ensures.value ∙ c.in-Some.is) in
    let matches = matches_at _ sessions c.args.place _ plain all was here in
    let on = c.if-has_ended.ensures plain matches in
    let fell = c.in_ok-node_down-in-Some.ensures.fell in
    let f = fell.2 plain matches on in
    record {
      on = on;
      after = f.after;
      did = f.did;
      says = fell.1 ∙ ap (λ (l : List ℕ). l ++ fell.0) c.requires.empty ∙ f.says;
      line = f.line;
      talks = converse_set _ sessions c.args.place c.take.new.self f.after all
          (subst (λ (t : Option Talker). Sits t f.after) (sym c.take.ensures.after) (fell_ended any_plan plain (down_line plain.protocol plain.node ∷ []) f.after (f.did any_plan)));
      count = c.saturating_sub-self.ensures;
    }

pub returns-in-None-clause-fell : goal.returns-in-None-clause-fell
returns-in-None-clause-fell c sessions plain all here =
    let was = slice_get_read _ _ _ _ refl c.requires.within c.index_mut-2.ensures.value ∙ ap Some (sym c.take.ensures.value ∙ c.in-None.is) in
    (sit_none _ sessions c.args.place plain all was here, record { says = c.requires.empty; talks = subst (λ (l : List (Option Talker)). Converse l sessions) (sym (set_same c.args.self.now.talkers.items c.args.place c.take.new.self (was ∙ ap Some (sym c.take.ensures.after)))) all; count = refl })
