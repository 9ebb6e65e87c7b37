-- The acts of a tape keep each session's talk, and the transcript shows it, cut anywhere.
use Rattle.std.proofs.Common.{◌≡◌, ◌≢◌, ◌⊎◌, inl, inr, ⊎_elim, ◌+◌, ◌-◌, ℕ, zero, suc, List, [], ◌∷◌, ◌++◌, length, map, flat_map, Option, Some, None, refl, sym, ap, ap₂, ◌∙◌, subst, arith, append_assoc, append-nil, slice_get, slice_set}
use Rattle.std.proofs.lemmas.List.{map-append}
use Rattle.std.proofs.lemmas.List.Concat.{flat_map-append}
use Rattle.std.proofs.lemmas.Option.{none-some, slice_get_past}
use Rattle.std.proofs.lemmas.Bool.{cases_eq}
use Rattle.mail_model.specs.Plan.{Plan}
use Rattle.mail_model.specs.Tape.{Protocol}
use Rattle.mail_model.specs.Transcript.{Entry}
use Rattle.mail_model.specs.Transcript.{closed_event}
use Rattle.mail_model.specs.Transcript.{said_lines, all_of}
use Rattle.mail_model.specs.Shown.{lines_to}
use Rattle.mail_model.proofs.Sessions.{get_set, get_set_other, map_set, get_push, get_push_other, by_number, fed_other}
use Rattle.mail_model.proofs.ShownLists.{lines_both, own_lines, other_lines}
use Rattle.session_model.specs.Talk.{Standing}
use Rattle.session_model.specs.Talk.Standing.{Hearing, Waiting, EndedByQuit, EndedDown, EndedClosed}
use Rattle.session_model.specs.Sessions.{Session, session_at}
use Rattle.session_model.specs.Acts.{Act, Deed, Acted, ActedAll, opened_session, replace, closing, opened_by, fed_by_act}
use Rattle.session_model.specs.Acts.Act.{Opens, Does, Faults, StillWaits, Leaves, Makes, Abandons}
use Rattle.session_model.specs.Acts.Deed.{IsFed, Hears, IsAnswered, IsGivenUp, Falls, Closes}
use Rattle.session_model.proofs.Moves.{begins}
use Rattle.session_model.proofs.Events.{event_says_none}
use Rattle.session_model.specs.Spoken.{Speaks}
use Rattle.session_model.proofs.Did.{did_speaks, did_kind, did_feed}

-- sessions by their numbers

-- number n + 1 is set at place n
placed : (sessions : List Session) (n : ℕ) (session : Session) → replace sessions (suc n) session ≡ slice_set sessions n session
placed sessions n session = let e : suc n - 1 ≡ n = omega arith in ap (λ (i : ℕ). slice_set sessions i session) e

module _ (sessions : List Session) where
  -- the one that was replaced
  pub replaced : (k : ℕ) (old new : Session) → session_at sessions k ≡ Some old → session_at (replace sessions k new) k ≡ Some new
  replaced zero old new is = absurd (none-some old is)
  replaced (suc n) old new is =
      by_number (replace sessions (suc n) new) n ∙ ap (λ (l : List Session). slice_get l n) (placed sessions n new)
      ∙ get_set sessions n old new (sym (by_number sessions n) ∙ is)

  -- and each other
  pub replaced_other : (k j : ℕ) (old new : Session) → session_at sessions k ≡ Some old → j ≢ k → session_at (replace sessions k new) j ≡ session_at sessions j
  replaced_other zero j old new is other = absurd (none-some old is)
  replaced_other (suc n) zero old new is other = refl
  replaced_other (suc n) (suc m) old new is other =
      by_number (replace sessions (suc n) new) m ∙ ap (λ (l : List Session). slice_get l m) (placed sessions n new)
      ∙ get_set_other sessions n m new (λ e. other (ap suc e)) ∙ sym (by_number sessions m)

  -- what f cannot tell from it
  pub map_replaced : {X : Type 0} (f : Session → X) (k : ℕ) (old new : Session) → session_at sessions k ≡ Some old → f new ≡ f old → map f (replace sessions k new) ≡ map f sessions
  map_replaced f zero old new is same = absurd (none-some old is)
  map_replaced f (suc n) old new is same = ap (map f) (placed sessions n new) ∙ map_set f sessions n old new (sym (by_number sessions n) ∙ is) same

  -- the one that was opened
  pub pushed : (new : Session) → session_at (sessions ++ new ∷ []) (length sessions + 1) ≡ Some new
  pushed new =
      let e : length sessions + 1 ≡ suc (length sessions) = omega arith in
      ap (session_at (sessions ++ new ∷ [])) e ∙ by_number (sessions ++ new ∷ []) (length sessions) ∙ get_push sessions new

  -- and each other
  pub pushed_other : (new : Session) (j : ℕ) → j ≢ length sessions + 1 → session_at (sessions ++ new ∷ []) j ≡ session_at sessions j
  pushed_other new zero other = refl
  pushed_other new (suc m) other =
      by_number (sessions ++ new ∷ []) m ∙ get_push_other sessions new m (λ e. other (omega (arith, e))) ∙ sym (by_number sessions m)

  -- after the last there is none
  pub none_behind : session_at sessions (length sessions + 1) ≡ None
  none_behind =
      let e : length sessions + 1 ≡ suc (length sessions) = omega arith in
      ap (session_at sessions) e ∙ by_number sessions (length sessions) ∙ slice_get_past sessions (length sessions) (omega arith)

-- what acts write for a session

-- the end of a session is an event, or it does not end
pub closing_is : (k : ℕ) (deed : Deed) (standing : Standing) → (closing k deed standing ≡ []) ⊎ (closing k deed standing ≡ closed_event k ∷ [])
closing_is k Closes standing = inl refl
closing_is k (IsFed octets) (Hearing state) = inl refl
closing_is k (IsFed octets) (Waiting told call) = inl refl
closing_is k (IsFed octets) EndedByQuit = inr refl
closing_is k (IsFed octets) EndedDown = inr refl
closing_is k (IsFed octets) EndedClosed = inl refl
closing_is k (Hears one) (Hearing state) = inl refl
closing_is k (Hears one) (Waiting told call) = inl refl
closing_is k (Hears one) EndedByQuit = inr refl
closing_is k (Hears one) EndedDown = inr refl
closing_is k (Hears one) EndedClosed = inl refl
closing_is k (IsAnswered asks answer reply) (Hearing state) = inl refl
closing_is k (IsAnswered asks answer reply) (Waiting told call) = inl refl
closing_is k (IsAnswered asks answer reply) EndedByQuit = inr refl
closing_is k (IsAnswered asks answer reply) EndedDown = inr refl
closing_is k (IsAnswered asks answer reply) EndedClosed = inl refl
closing_is k (IsGivenUp asks reply) (Hearing state) = inl refl
closing_is k (IsGivenUp asks reply) (Waiting told call) = inl refl
closing_is k (IsGivenUp asks reply) EndedByQuit = inr refl
closing_is k (IsGivenUp asks reply) EndedDown = inr refl
closing_is k (IsGivenUp asks reply) EndedClosed = inl refl
closing_is k Falls (Hearing state) = inl refl
closing_is k Falls (Waiting told call) = inl refl
closing_is k Falls EndedByQuit = inr refl
closing_is k Falls EndedDown = inr refl
closing_is k Falls EndedClosed = inl refl

closing_silent : (j k : ℕ) (deed : Deed) (standing : Standing) → lines_to j (closing k deed standing) ≡ []
closing_silent j k deed standing = ⊎_elim (λ none. ap (lines_to j) none) (λ one. ap (lines_to j) one) (closing_is k deed standing)

-- what session k says
pub does_own : (k : ℕ) (said : List (List ℕ)) (deed : Deed) (standing : Standing) → lines_to k (said_lines k said ++ closing k deed standing) ≡ said
does_own k said deed standing =
    lines_both k (said_lines k said) (closing k deed standing) ∙ ap₂ ◌++◌ (own_lines k said) (closing_silent k k deed standing) ∙ append-nil said

-- no other does
pub does_other : (k j : ℕ) (said : List (List ℕ)) (deed : Deed) (standing : Standing) → j ≢ k → lines_to j (said_lines k said ++ closing k deed standing) ≡ []
does_other k j said deed standing other =
    lines_both j (said_lines k said) (closing k deed standing) ∙ ap₂ ◌++◌ (other_lines k j said other) (closing_silent j k deed standing)

-- nor is it fed
pub feed_other : (k j : ℕ) (deed : Deed) → j ≢ k → fed_by_act j (Does k deed) ≡ []
feed_other k j (IsFed octets) other = fed_other k j octets other
feed_other k j (Hears one) other = refl
feed_other k j (IsAnswered call answer reply) other = refl
feed_other k j (IsGivenUp call reply) other = refl
feed_other k j Falls other = refl
feed_other k j Closes other = refl

-- what is kept

-- a session, or none, by what acts fed it and by its lines
abbrev pub Spoken : Plan → List ℕ → List (List ℕ) → Option Session → Type 0
Spoken plan octets lines None = (octets ≡ []) × (lines ≡ [])
Spoken plan octets lines (Some session) =
    (greeting : List ℕ) × (said : List (List ℕ)) × (lines ≡ greeting ∷ said) × Speaks plan said session × (session.octets ≡ octets)

-- in other words
spoken_so : (plan : Plan) (octets octets_now : List ℕ) (lines lines_now : List (List ℕ)) (session now : Option Session) → octets_now ≡ octets → lines_now ≡ lines → now ≡ session
    → Spoken plan octets lines session → Spoken plan octets_now lines_now now
spoken_so plan octets octets_now lines lines_now session now o l s spoken =
    subst (λ (x : List ℕ). Spoken plan x lines_now now) (sym o)
    (subst (λ (x : List (List ℕ)). Spoken plan octets x now) (sym l)
    (subst (λ (x : Option Session). Spoken plan octets lines x) (sym s) spoken))

-- the kind of a session
abbrev pub kind_of : Session → Protocol × ℕ
kind_of session = (session.protocol, session.node)

-- all sessions after these acts
pub record Kept (plan : Plan) (acts : List Act) (entries : List Entry) (sessions : List Session) : Type 0 where
  pub kinds : flat_map opened_by acts ≡ map kind_of sessions
  pub each : (k : ℕ) → Spoken plan (flat_map (fed_by_act k) acts) (lines_to k entries) (session_at sessions k)

-- what one act more does to a list that acts make
pub act_push : {X : Type 0} (f : Act → List X) (acts : List Act) (act : Act) → flat_map f (acts ++ act ∷ []) ≡ flat_map f acts ++ f act
act_push f acts act = flat_map-append f acts (act ∷ []) ∙ ap (λ l. flat_map f acts ++ l) (append-nil (f act))

-- nothing was done
pub at_first : (plan : Plan) → Kept plan [] [] []
at_first plan = record { kinds = refl; each = λ k. none k }
  where
    none : (k : ℕ) → Spoken plan [] [] (session_at [] k)
    none zero = (refl, refl)
    none (suc n) = spoken_so plan [] [] [] [] None (session_at [] (suc n)) refl refl (by_number [] n) (refl, refl)

-- a session was opened now
pub opened_now : (plan : Plan) (protocol : Protocol) (node : ℕ) → Speaks plan [] (opened_session protocol node)
opened_now plan protocol node = record { talk = begins plan node protocol; none = refl; lines = refl }

module _ (plan : Plan) (acts : List Act) (entries : List Entry) (old : List Session) (kept : Kept plan acts entries old) where
  -- what a session that an act leaves alone is
  alone : (act : Act) (more : List Entry) (new : List Session) (j : ℕ) → fed_by_act j act ≡ [] → lines_to j more ≡ [] → session_at new j ≡ session_at old j
      → Spoken plan (flat_map (fed_by_act j) (acts ++ act ∷ [])) (lines_to j (entries ++ more)) (session_at new j)
  alone act more new j no_feed no_lines same = spoken_so plan (flat_map (fed_by_act j) acts) _ (lines_to j entries) _ (session_at old j) (session_at new j)
      (act_push (fed_by_act j) acts act ∙ ap (λ (l : List ℕ). flat_map (fed_by_act j) acts ++ l) no_feed ∙ append-nil (flat_map (fed_by_act j) acts))
      (lines_both j entries more ∙ ap (λ (l : List (List ℕ)). lines_to j entries ++ l) no_lines ∙ append-nil (lines_to j entries)) same (kept.each j)

  -- an act that leaves all sessions alone
  keeps_all : (act : Act) (more : List Entry) (new : List Session) → opened_by act ≡ [] → ((j : ℕ) → fed_by_act j act ≡ []) → ((j : ℕ) → lines_to j more ≡ []) → new ≡ old
      → Kept plan (acts ++ act ∷ []) (entries ++ more) new
  keeps_all act more new no_open no_feed no_lines is = record {
    kinds = act_push opened_by acts act ∙ ap (λ (l : List (Protocol × ℕ)). flat_map opened_by acts ++ l) no_open ∙ append-nil (flat_map opened_by acts) ∙ kept.kinds ∙ ap (map kind_of) (sym is);
    each = λ j. alone act more new j (no_feed j) (no_lines j) (ap (λ (l : List Session). session_at l j) is);
  }

  -- whatever act
  pub acted_keeps : (act : Act) (more : List Entry) (new : List Session) → Acted plan old act more new → Kept plan (acts ++ act ∷ []) (entries ++ more) new
  acted_keeps (Opens protocol node greeting) more new (says, is) = record {
    kinds = act_push opened_by acts (Opens protocol node greeting) ∙ ap (λ (l : List (Protocol × ℕ)). l ++ (protocol, node) ∷ []) kept.kinds
        ∙ sym (map-append kind_of old (opened_session protocol node ∷ [])) ∙ ap (map kind_of) (sym is);
    each = λ j. ⊎_elim (λ same. here j same) (λ other.
        alone (Opens protocol node greeting) more new j refl
        (ap (lines_to j) says ∙ other_lines (length old + 1) j (greeting ∷ []) other)
        (ap (λ (l : List Session). session_at l j) is ∙ pushed_other old (opened_session protocol node) j other)) (cases_eq j (length old + 1));
  }
    where
      here : (j : ℕ) → j ≡ length old + 1 → Spoken plan (flat_map (fed_by_act j) (acts ++ Opens protocol node greeting ∷ [])) (lines_to j (entries ++ more)) (session_at new j)
      here j same =
          let before : Spoken plan (flat_map (fed_by_act j) acts) (lines_to j entries) None =
          subst (Spoken plan (flat_map (fed_by_act j) acts) (lines_to j entries)) (ap (session_at old) same ∙ none_behind old) (kept.each j) in
          spoken_so plan [] _ (greeting ∷ []) _ (Some (opened_session protocol node)) (session_at new j)
          (act_push (fed_by_act j) acts (Opens protocol node greeting) ∙ ap (λ (l : List ℕ). l ++ []) before.0)
          (lines_both j entries more ∙ ap₂ ◌++◌ before.1 (ap (lines_to j) says ∙ ap (λ (n : ℕ). lines_to j (said_lines n (greeting ∷ []))) (sym same) ∙ own_lines j (greeting ∷ [])))
          (ap (λ (l : List Session). session_at l j) is ∙ ap (session_at (old ++ opened_session protocol node ∷ [])) same ∙ pushed old (opened_session protocol node))
          (greeting, [], refl, opened_now plan protocol node, refl)
  acted_keeps (Faults node) more new (says, is) = keeps_all (Faults node) more new refl (λ j. refl) (λ j. ap (lines_to j) says) is
  acted_keeps (StillWaits k) more new (says, is) = keeps_all (StillWaits k) more new refl (λ j. refl) (λ j. ap (lines_to j) says) is
  acted_keeps (Leaves k user) more new (says, is) = keeps_all (Leaves k user) more new refl (λ j. refl) (λ j. ap (lines_to j) says) is
  acted_keeps (Makes order event) more new (says, is) = keeps_all (Makes order event) more new refl (λ j. refl) (λ j. ap (lines_to j) says ∙ event_says_none j event) is
  acted_keeps (Abandons k) more new (says, is) = keeps_all (Abandons k) more new refl (λ j. refl) (λ j. ap (lines_to j) says) is
  acted_keeps (Does k deed) more new (before, behind, said, at, did, says, is) = record {
    kinds = act_push opened_by acts (Does k deed) ∙ append-nil (flat_map opened_by acts) ∙ kept.kinds
        ∙ sym (map_replaced old kind_of k before behind at (ap₂ (λ (p : Protocol) (n : ℕ). (p, n)) kind.0 kind.1)) ∙ ap (map kind_of) (sym is);
    each = λ j. ⊎_elim (λ same. here j same) (λ other.
        alone (Does k deed) more new j (feed_other k j deed other) (ap (lines_to j) says ∙ does_other k j said deed behind.standing other)
        (ap (λ (l : List Session). session_at l j) is ∙ replaced_other old k j before behind at other)) (cases_eq j k);
  }
    where
      kind : (behind.protocol ≡ before.protocol) × (behind.node ≡ before.node)
      kind = did_kind plan said before behind deed did

      here : (j : ℕ) → j ≡ k → Spoken plan (flat_map (fed_by_act j) (acts ++ Does k deed ∷ [])) (lines_to j (entries ++ more)) (session_at new j)
      here j same = subst (λ (n : ℕ). Spoken plan (flat_map (fed_by_act n) (acts ++ Does k deed ∷ [])) (lines_to n (entries ++ more)) (session_at new n)) (sym same) own
        where
          own : Spoken plan (flat_map (fed_by_act k) (acts ++ Does k deed ∷ [])) (lines_to k (entries ++ more)) (session_at new k)
          own =
              let was = subst (Spoken plan (flat_map (fed_by_act k) acts) (lines_to k entries)) at (kept.each k) in
              spoken_so plan (flat_map (fed_by_act k) acts ++ fed_by_act k (Does k deed)) _ (was.0 ∷ (was.1 ++ said)) _ (Some behind) (session_at new k)
              (act_push (fed_by_act k) acts (Does k deed))
              (lines_both k entries more ∙ ap₂ ◌++◌ was.2 (ap (lines_to k) says ∙ does_own k said deed behind.standing))
              (ap (λ (l : List Session). session_at l k) is ∙ replaced old k before behind at) (
                was.0,
                was.1 ++ said,
                refl,
                did_speaks plan was.1 said before behind deed was.3 did,
                did_feed plan said before behind deed did k ∙ ap (λ (l : List ℕ). l ++ fed_by_act k (Does k deed)) was.4,
              )

-- all acts
pub acts_keep : (plan : Plan) (been acts : List Act) (entries : List Entry) (old last : List Session) (outputs : List (List Entry)) → Kept plan been entries old
    → ActedAll plan old acts outputs last → Kept plan (been ++ acts) (entries ++ all_of outputs) last
acts_keep plan been [] entries old last [] kept done =
    subst (Kept plan (been ++ []) (entries ++ [])) (sym done)
    (subst (λ (l : List Act). Kept plan l (entries ++ []) old) (sym (append-nil been)) (subst (λ (l : List Entry). Kept plan been l old) (sym (append-nil entries)) kept))
acts_keep plan been (act ∷ acts) entries old last [] kept done = absurd done
acts_keep plan been [] entries old last (more ∷ outputs) kept done = absurd done
acts_keep plan been (act ∷ acts) entries old last (more ∷ outputs) kept (mid, acted, done) =
    subst (λ (l : List Act). Kept plan l (entries ++ all_of (more ∷ outputs)) last) (append_assoc been (act ∷ []) acts)
    (subst (λ (l : List Entry). Kept plan ((been ++ act ∷ []) ++ acts) l last) (append_assoc entries more (all_of outputs))
    (acts_keep plan (been ++ act ∷ []) acts (entries ++ more) mid last outputs (acted_keeps plan been entries old kept act more mid acted) done))
