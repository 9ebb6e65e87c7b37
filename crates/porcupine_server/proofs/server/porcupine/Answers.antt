use Rattle.std.proofs.Common.{inl, inr, arith}
use Rattle.porcupine_server.proofs.Tasks.{by_none, by_drive, by_storm, by_check, by_serve, by_cases, no_storm, no_check, no_serve, no_driven, no_refused, write_faults}
use Rattle.porcupine_server.proofs.server.porcupine.Goals as goal

pub returns-clause-promises : goal.returns-clause-promises
returns-clause-promises g c drive = (by_drive _ _ _ _ _ _ c.answer_words.ensures.by_task drive).promises

pub returns-clause-transcript_follows : goal.returns-clause-transcript_follows
returns-clause-transcript_follows g c drive = (by_drive _ _ _ _ _ _ c.answer_words.ensures.by_task drive).transcript_follows

pub returns-clause-words_refused : goal.returns-clause-words_refused
returns-clause-words_refused g c none = let refused = by_none _ _ _ _ _ _ c.answer_words.ensures.by_task none in (refused.one, refused.untouched)

pub returns-clause-words_told : goal.returns-clause-words_told
returns-clause-words_told g c none = (by_none _ _ _ _ _ _ c.answer_words.ensures.by_task none).told

pub returns-clause-words_taken : goal.returns-clause-words_taken
returns-clause-words_taken g c is = by_cases _ _ _ _ _ _ _ c.answer_words.ensures.by_task (λ none _. none) (λ _ drive. absurd (drive.not_words is))
    (λ number size _ storm. absurd (no_storm _ _ number size _ 1 storm.storm is (λ e. omega (arith, e)) (λ e. omega (arith, e)) (λ e. omega (arith, e))))
    (λ file _ check. absurd (no_check _ 1 check.some_status is (λ e. omega (arith, e)) (λ e. omega (arith, e)) (λ e. omega (arith, e)) (λ e. omega (arith, e)) (λ e. omega (arith, e))))
    (λ file _ serve. absurd (no_serve _ serve.some_status is))

pub returns-clause-storm : goal.returns-clause-storm
returns-clause-storm g c number size is = let storm = by_storm _ _ _ _ _ _ number size c.answer_words.ensures.by_task is in (storm.storm, storm.untouched)

pub returns-clause-check : goal.returns-clause-check
returns-clause-check g c file is = let check = by_check _ _ _ _ _ _ file c.answer_words.ensures.by_task is in (check.checks, check.untouched)

pub returns-clause-plan_fault : goal.returns-clause-plan_fault
returns-clause-plan_fault g c is = by_cases _ _ _ _ _ _ _ c.answer_words.ensures.by_task (λ _ refused. absurd (no_refused _ _ refused.one is (λ e. omega (arith, e)))) (λ _ drive. absurd (drive.not_plan is))
    (λ number size _ storm. absurd (no_storm _ _ number size _ 2 storm.storm is (λ e. omega (arith, e)) (λ e. omega (arith, e)) (λ e. omega (arith, e))))
    (λ file asks check. (file, inl asks, check.plan_fault is))
    (λ file asks serve. (file, inr asks, serve.plan_fault is))

pub returns-clause-read_fault : goal.returns-clause-read_fault
returns-clause-read_fault g c is = by_cases _ _ _ _ _ _ _ c.answer_words.ensures.by_task (λ _ refused. absurd (no_refused _ _ refused.one is (λ e. omega (arith, e)))) (λ asks drive. inl (asks, drive.read_fault is))
    (λ number size _ storm. absurd (no_storm _ _ number size _ 4 storm.storm is (λ e. omega (arith, e)) (λ e. omega (arith, e)) (λ e. omega (arith, e))))
    (λ file asks check. inr (inl (file, asks, check.read_fault is)))
    (λ file asks serve. inr (inr (file, asks, serve.read_fault is)))

pub returns-clause-write_fault : goal.returns-clause-write_fault
returns-clause-write_fault g c is = write_faults _ _ _ _ _ _ _ _ _ _ _ _ c.answer_words.ensures.by_task is

pub returns-clause-store_fault : goal.returns-clause-store_fault
returns-clause-store_fault g c is = by_cases _ _ _ _ _ _ _ c.answer_words.ensures.by_task (λ _ refused. absurd (no_refused _ _ refused.one is (λ e. omega (arith, e)))) (λ asks drive. (inl asks, drive.store_fault is))
    (λ number size _ storm. absurd (no_storm _ _ number size _ 6 storm.storm is (λ e. omega (arith, e)) (λ e. omega (arith, e)) (λ e. omega (arith, e))))
    (λ file _ check. absurd (no_check _ 6 check.some_status is (λ e. omega (arith, e)) (λ e. omega (arith, e)) (λ e. omega (arith, e)) (λ e. omega (arith, e)) (λ e. omega (arith, e))))
    (λ file asks serve. (inr (file, asks), serve.store_fault is))

pub returns-clause-served : goal.returns-clause-served
returns-clause-served g c file is = (by_serve _ _ _ _ _ _ file c.answer_words.ensures.by_task is).served

pub returns-clause-stopped : goal.returns-clause-stopped
returns-clause-stopped g c file is = (by_serve _ _ _ _ _ _ file c.answer_words.ensures.by_task is).stopped

pub returns-clause-ended_early : goal.returns-clause-ended_early
returns-clause-ended_early g c file is = (by_serve _ _ _ _ _ _ file c.answer_words.ensures.by_task is).early

pub returns-clause-door_fault : goal.returns-clause-door_fault
returns-clause-door_fault g c is = by_cases _ _ _ _ _ _ _ c.answer_words.ensures.by_task (λ _ refused. absurd (no_refused _ _ refused.one is (λ e. omega (arith, e)))) (λ _ drive. absurd (no_driven _ _ _ _ _ drive.transcript_follows is))
    (λ number size _ storm. absurd (no_storm _ _ number size _ 8 storm.storm is (λ e. omega (arith, e)) (λ e. omega (arith, e)) (λ e. omega (arith, e))))
    (λ file _ check. absurd (no_check _ 8 check.some_status is (λ e. omega (arith, e)) (λ e. omega (arith, e)) (λ e. omega (arith, e)) (λ e. omega (arith, e)) (λ e. omega (arith, e))))
    (λ file asks serve. (file, asks, serve.door_fault is))

pub returns-clause-serve_complete : goal.returns-clause-serve_complete
returns-clause-serve_complete g c file octets console is = (by_serve _ _ _ _ _ _ file c.answer_words.ensures.by_task is).complete octets console

pub returns-clause-complete : goal.returns-clause-complete
returns-clause-complete g c drive = (by_drive _ _ _ _ _ _ c.answer_words.ensures.by_task drive).complete

pub returns-clause-storm_complete : goal.returns-clause-storm_complete
returns-clause-storm_complete g c number size is = (by_storm _ _ _ _ _ _ number size c.answer_words.ensures.by_task is).complete

pub returns-clause-check_complete : goal.returns-clause-check_complete
returns-clause-check_complete g c file octets is = (by_check _ _ _ _ _ _ file c.answer_words.ensures.by_task is).complete octets
