use Rattle.std.proofs.Common.{◌++◌, ℕ, List, Some, refl, ap, ◌∙◌, arith}
use Rattle.std.proofs.lemmas.Option.{slice_get_read}
use Rattle.drive_tape.proofs.Talks.{matches_at, sit_none, set_here, on_not_ended}
use Rattle.drive_tape.proofs.Moving.{seated, waits_on, left_set, left_was}
use Rattle.drive_tape.proofs.sessions.Sessions.reply.Goals as goal

pub returns-in-None-clause-replied : goal.returns-in-None-clause-replied
returns-in-None-clause-replied c sessions plain state call reply all here waits is =
    let was = slice_get_read _ _ _ _ refl c.requires.within c.index_mut.ensures.value in
    absurd (on_not_ended plain.standing (waits_on plain state call waits) (sit_none _ sessions c.args.place plain all (was ∙ ap Some c.in-None.is) here))

pub returns-clause-replied : goal.returns-clause-replied
returns-clause-replied c sessions plain state call reply all here waits is =
    let there = slice_get_read _ _ _ _ refl c.requires.within c.index_mut.ensures.value ∙ ap Some c.in-Some.is in
    let moved = c.in_ok-reply-in-Some.ensures.replied in
    let out = moved.1 ∙ ap (λ (l : List ℕ). l ++ moved.0) c.requires.empty in
    let h = moved.2 plain state call reply (matches_at _ sessions c.args.place _ plain all there here) waits is in
    let goes = c.after.ensures.goes_on sessions h.after c.reply.new.self (set_here c.args.self.now.talkers.items c.args.place (Some c.reply.new.self) c.requires.within) h.goes_on
    (seated _ sessions c.args.place _ c.reply.new.self plain h.after all there here h.goes_on) in
    record { call = h.call; reply = h.reply; after = h.after; did = h.did; says = out ∙ h.says; lines = h.lines; talks = goes.0; goes_on = goes.1 }

pub returns-clause-less : goal.returns-clause-less
returns-clause-less c =
    let there = slice_get_read _ _ _ _ refl c.requires.within c.index_mut.ensures.value ∙ ap Some c.in-Some.is in
    let now = left_set c.args.self.now.talkers.items c.args.place c.reply.new.self c.requires.within in
    let was = left_was c.args.self.now.talkers.items c.args.place c.in-Some.talker there in
    omega (arith, c.after.ensures.less, now, was, c.in_ok-reply-in-Some.ensures.less)
