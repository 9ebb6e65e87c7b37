use Rattle.std.proofs.Common.{◌++◌, ℕ, List, Option, Some, refl, sym, ap, ◌∙◌, subst, arith}
use Rattle.std.proofs.lemmas.Option.{slice_get_read}
use Rattle.drive_tape.specs.Talks.{Converse}
use Rattle.drive_tape.specs.declared.talker.Talker.{Talker}
use Rattle.drive_tape.proofs.Talks.{matches_at, sit_none, set_here, set_same, asks_waits}
use Rattle.drive_tape.proofs.Moving.{seated, stays, waits_on, left_set, left_was}
use Rattle.drive_tape.proofs.sessions.Sessions.next.Goals as goal

pub returns-in-None-clause-moved : goal.returns-in-None-clause-moved
returns-in-None-clause-moved c sessions plain all here =
    let was = slice_get_read _ _ _ _ refl c.requires.within c.index_mut.ensures.value in (
      sit_none _ sessions c.args.place plain all (was ∙ ap Some c.in-None.is) here,
      record { says = c.requires.empty; talks = subst (λ (l : List (Option Talker)). Converse l sessions) (sym (set_same c.args.self.now.talkers.items c.args.place c.index_mut.result.now was)) all; count = refl },
    )

pub returns-in-Said-clause-moved : goal.returns-in-Said-clause-moved
returns-in-Said-clause-moved c sessions plain all here =
    let there = slice_get_read _ _ _ _ refl c.requires.within c.index_mut.ensures.value ∙ ap Some c.in-Some.is in
    let moved = rw c.in-Said.is at c.in_ok-did-in-Some.ensures.moved in
    let out = moved.1 ∙ ap (λ (l : List ℕ). l ++ moved.0) c.requires.empty in
    let h = moved.2 plain (matches_at _ sessions c.args.place _ plain all there here) in
    let goes = c.after.ensures.goes_on sessions h.after c.next.new.self (set_here c.args.self.now.talkers.items c.args.place (Some c.next.new.self) c.requires.within) h.goes_on
    (seated _ sessions c.args.place _ c.next.new.self plain h.after all there here h.goes_on) in
    record { one = h.one; after = h.after; did = h.did; asks = h.asks; says = out ∙ h.says; lines = h.lines; talks = goes.0; goes_on = goes.1 }

pub returns-in-Said-clause-less : goal.returns-in-Said-clause-less
returns-in-Said-clause-less c =
    let there = slice_get_read _ _ _ _ refl c.requires.within c.index_mut.ensures.value ∙ ap Some c.in-Some.is in
    let less = rw c.in-Said.is at c.in_ok-did-in-Some.ensures.less in
    let now = left_set c.args.self.now.talkers.items c.args.place c.next.new.self c.requires.within in
    let was = left_was c.args.self.now.talkers.items c.args.place c.in-Some.talker there in
    let strictly = less.0 tt in
    ((λ busy. omega (arith, c.after.ensures.less, now, was, strictly)), omega (arith, c.after.ensures.less, now, was, less.1))

pub returns-in-Begin-clause-moved : goal.returns-in-Begin-clause-moved
returns-in-Begin-clause-moved c sessions plain all here =
    let there = slice_get_read _ _ _ _ refl c.requires.within c.index_mut.ensures.value ∙ ap Some c.in-Some.is in
    let moved = rw c.in-Begin.is at c.in_ok-did-in-Some.ensures.moved in
    let out = moved.1 ∙ ap (λ (l : List ℕ). l ++ moved.0) c.requires.empty in
    let h = moved.2 plain (matches_at _ sessions c.args.place _ plain all there here) in
    let waits = asks_waits c.args.plan.now plain h.2.one h.2.one.reply h.2.after h.0 h.2.did h.2.asks in (
      h.0,
      h.1,
      record {
        one = h.2.one;
        after = h.2.after;
        did = h.2.did;
        asks = h.2.asks;
        says = out ∙ h.2.says;
        lines = h.2.lines;
        talks = seated _ sessions c.args.place _ c.next.new.self plain h.2.after all there here h.2.goes_on;
        goes_on = (waits_on h.2.after waits.0 h.0 waits.1, refl);
      },
    )

pub returns-in-Begin-clause-less : goal.returns-in-Begin-clause-less
returns-in-Begin-clause-less c =
    let there = slice_get_read _ _ _ _ refl c.requires.within c.index_mut.ensures.value ∙ ap Some c.in-Some.is in
    let less = rw c.in-Begin.is at c.in_ok-did-in-Some.ensures.less in
    let now = left_set c.args.self.now.talkers.items c.args.place c.next.new.self c.requires.within in
    let was = left_was c.args.self.now.talkers.items c.args.place c.in-Some.talker there in
    let strictly = less.0 tt in
    ((λ busy. omega (arith, now, was, strictly)), omega (arith, now, was, less.1))

pub returns-in-Wait-clause-moved : goal.returns-in-Wait-clause-moved
returns-in-Wait-clause-moved c sessions plain all here =
    let there = slice_get_read _ _ _ _ refl c.requires.within c.index_mut.ensures.value ∙ ap Some c.in-Some.is in
    let moved = rw c.in-Wait.is at c.in_ok-did-in-Some.ensures.moved in
    let out = moved.1 ∙ ap (λ (l : List ℕ). l ++ moved.0) c.requires.empty in
    let h = moved.2 plain (matches_at _ sessions c.args.place _ plain all there here) in
    (h.0, record { says = out ∙ h.1; talks = stays _ sessions c.args.place _ c.next.new.self plain all there here h.2; count = refl })

pub returns-in-Wait-clause-less : goal.returns-in-Wait-clause-less
returns-in-Wait-clause-less c =
    let there = slice_get_read _ _ _ _ refl c.requires.within c.index_mut.ensures.value ∙ ap Some c.in-Some.is in
    let less = rw c.in-Wait.is at c.in_ok-did-in-Some.ensures.less in
    let now = left_set c.args.self.now.talkers.items c.args.place c.next.new.self c.requires.within in
    let was = left_was c.args.self.now.talkers.items c.args.place c.in-Some.talker there in
    ((λ busy. absurd busy), omega (arith, now, was, less.1))

pub returns-in-Idle-clause-moved : goal.returns-in-Idle-clause-moved
returns-in-Idle-clause-moved c sessions plain all here =
    let there = slice_get_read _ _ _ _ refl c.requires.within c.index_mut.ensures.value ∙ ap Some c.in-Some.is in
    let moved = rw c.in-Idle.is at c.in_ok-did-in-Some.ensures.moved in
    let out = moved.1 ∙ ap (λ (l : List ℕ). l ++ moved.0) c.requires.empty in
    let h = moved.2 plain (matches_at _ sessions c.args.place _ plain all there here) in
    (h.0, record { says = out ∙ h.1; talks = stays _ sessions c.args.place _ c.next.new.self plain all there here h.2; count = refl })

pub returns-in-Idle-clause-less : goal.returns-in-Idle-clause-less
returns-in-Idle-clause-less c =
    let there = slice_get_read _ _ _ _ refl c.requires.within c.index_mut.ensures.value ∙ ap Some c.in-Some.is in
    let less = rw c.in-Idle.is at c.in_ok-did-in-Some.ensures.less in
    let now = left_set c.args.self.now.talkers.items c.args.place c.next.new.self c.requires.within in
    let was = left_was c.args.self.now.talkers.items c.args.place c.in-Some.talker there in
    ((λ busy. absurd busy), omega (arith, now, was, less.1))

pub returns-in-End-clause-moved : goal.returns-in-End-clause-moved
returns-in-End-clause-moved c sessions plain all here =
    let there = slice_get_read _ _ _ _ refl c.requires.within c.index_mut.ensures.value ∙ ap Some c.in-Some.is in
    let moved = rw c.in-End.is at c.in_ok-did-in-Some.ensures.moved in
    let out = moved.1 ∙ ap (λ (l : List ℕ). l ++ moved.0) c.requires.empty in
    let h = moved.2 plain (matches_at _ sessions c.args.place _ plain all there here) in
    (h.0, record { says = out ∙ h.1; talks = stays _ sessions c.args.place _ c.next.new.self plain all there here h.2; count = refl })

pub returns-in-End-clause-less : goal.returns-in-End-clause-less
returns-in-End-clause-less c =
    let there = slice_get_read _ _ _ _ refl c.requires.within c.index_mut.ensures.value ∙ ap Some c.in-Some.is in
    let less = rw c.in-End.is at c.in_ok-did-in-Some.ensures.less in
    let now = left_set c.args.self.now.talkers.items c.args.place c.next.new.self c.requires.within in
    let was = left_was c.args.self.now.talkers.items c.args.place c.in-Some.talker there in
    ((λ busy. absurd busy), omega (arith, now, was, less.1))
