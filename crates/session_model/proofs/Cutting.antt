-- The transcript is cut anywhere in what the last act writes.
use Rattle.std.proofs.Common.{◌≡◌, ◌⊎◌, ⊎_elim, ◌+◌, ℕ, List, [], ◌∷◌, ◌++◌, length, map, drop, flat_map, Option, Some, None, refl, sym, ap, ap₂, ◌∙◌, subst, append-nil}
use Rattle.std.proofs.lemmas.Option.{none-some}
use Rattle.std.proofs.lemmas.Bool.{cases_eq}
use Rattle.mail_model.specs.Plan.{Plan}
use Rattle.mail_model.specs.Tape.{Protocol}
use Rattle.mail_model.specs.Transcript.{Entry}
use Rattle.mail_model.specs.Transcript.{said_lines, all_of}
use Rattle.mail_model.specs.Shown.{lines_to}
use Rattle.mail_model.proofs.ShownLists.{lines_both, own_lines, other_lines}
use Rattle.mail_model.proofs.ShownCuts.{no_part, front_of_one}
use Rattle.session_model.specs.Sessions.{Session, session_at}
use Rattle.session_model.specs.Acts.{Act, Acted, IsParted, opened_session, replace, opened_by, fed_by_act}
use Rattle.session_model.specs.Calls.{Call, Answer}
use Rattle.session_model.specs.Logs.{IsLogged, calls_of, answers_of, asked_by, answered_by, asked_in, answered_in}
use Rattle.session_model.specs.Runs.{ActsAreShown}
use Rattle.session_model.proofs.Logs.{Logged, AreLogged, all_logged, acted_logged, none_logged, logged_whole}
use Rattle.session_model.specs.Acts.Act.{Opens, Does, Faults, StillWaits, Leaves, Makes, Abandons}
use Rattle.session_model.proofs.Events.{event_says_none}
use Rattle.session_model.proofs.Did.{IsShown, whole_shown, unparted, did_cut, did_kind, did_feed}
use Rattle.session_model.proofs.Acts.{Spoken, Kept, kind_of, at_first, act_push, acted_keeps, opened_now, replaced, replaced_other, map_replaced, pushed, pushed_other, none_behind, does_own, does_other, feed_other}

-- a session, or none, by what acts fed it and by those of its lines that were written
abbrev pub Shown : Plan → List ℕ → List (List ℕ) → Option Session → Type 0
Shown plan octets lines None = (octets ≡ []) × (lines ≡ [])
Shown plan octets lines (Some session) = IsShown plan (drop 1 lines) session × (session.octets ≡ octets)

-- in other words
shown_so : (plan : Plan) (octets octets_now : List ℕ) (lines lines_now : List (List ℕ)) (session now : Option Session) → octets_now ≡ octets → lines_now ≡ lines → now ≡ session
    → Shown plan octets lines session → Shown plan octets_now lines_now now
shown_so plan octets octets_now lines lines_now session now o l s shown =
    subst (λ (x : List ℕ). Shown plan x lines_now now) (sym o)
    (subst (λ (x : List (List ℕ)). Shown plan octets x now) (sym l)
    (subst (λ (x : Option Session). Shown plan octets lines x) (sym s) shown))

-- where all was written
pub spoken_shown : (plan : Plan) (octets : List ℕ) (lines : List (List ℕ)) (session : Option Session) → Spoken plan octets lines session → Shown plan octets lines session
spoken_shown plan octets lines None spoken = spoken
spoken_shown plan octets lines (Some session) (greeting, said, are, speaks, fed) =
    (subst (λ (l : List (List ℕ)). IsShown plan (drop 1 l) session) (sym are) (whole_shown plan said session speaks), fed)

-- All sessions as the transcript shows them, which was cut in what the last act writes.
record IsCutOff (plan : Plan) (acts : List Act) (entries : List Entry) (last : List Session) : Type 0 where
  pub sessions : List Session
  pub kinds : flat_map opened_by acts ≡ map kind_of sessions
  pub each : (k : ℕ) → Shown plan (flat_map (fed_by_act k) acts) (lines_to k entries) (session_at sessions k)
  pub same_number : (k : ℕ) → session_at sessions k ≡ None → session_at last k ≡ None
  pub parted : (k : ℕ) (session : Session) → session_at sessions k ≡ Some session → (whole : Session) × (session_at last k ≡ Some whole) × IsParted whole session

-- sessions that are parted in no way
none_parted : (last : List Session) (k : ℕ) (session : Session) → session_at last k ≡ Some session → (whole : Session) × (session_at last k ≡ Some whole) × IsParted whole session
none_parted last k session at = (session, at, unparted session)

module _ (plan : Plan) (acts : List Act) (entries : List Entry) (old : List Session) (kept : Kept plan acts entries old) (front missing : List Entry) where
  -- what a session that an act leaves alone is
  left_alone : (act : Act) (more : List Entry) (new : List Session) (j : ℕ) → more ≡ front ++ missing → fed_by_act j act ≡ [] → lines_to j more ≡ [] → session_at new j ≡ session_at old j
      → Shown plan (flat_map (fed_by_act j) (acts ++ act ∷ [])) (lines_to j (entries ++ front)) (session_at new j)
  left_alone act more new j cut no_feed no_lines same =
      let none : lines_to j front ≡ [] = no_part (lines_to j front) (lines_to j missing) (sym (lines_both j front missing) ∙ ap (lines_to j) (sym cut) ∙ no_lines) in
      shown_so plan (flat_map (fed_by_act j) acts) _ (lines_to j entries) _ (session_at old j) (session_at new j)
      (act_push (fed_by_act j) acts act ∙ ap (λ (l : List ℕ). flat_map (fed_by_act j) acts ++ l) no_feed ∙ append-nil (flat_map (fed_by_act j) acts))
      (lines_both j entries front ∙ ap (λ (l : List (List ℕ)). lines_to j entries ++ l) none ∙ append-nil (lines_to j entries)) same
      (spoken_shown plan (flat_map (fed_by_act j) acts) (lines_to j entries) (session_at old j) (kept.each j))

  -- a greeting, or none
  greeted : (protocol : Protocol) (node : ℕ) (greeting : List ℕ) (lines : List (List ℕ)) → (lines ≡ []) ⊎ (lines ≡ greeting ∷ []) → Shown plan [] lines (Some (opened_session protocol node))
  greeted protocol node greeting lines few =
      let none : drop 1 lines ≡ [] = ⊎_elim (λ e. ap (drop 1) e) (λ e. ap (drop 1) e) few in
      (subst (λ (l : List (List ℕ)). IsShown plan l (opened_session protocol node)) (sym none) (whole_shown plan [] (opened_session protocol node) (opened_now plan protocol node)), refl)

  -- an act that leaves all sessions alone
  all_alone : (act : Act) (more : List Entry) (new : List Session) → Acted plan old act more new → more ≡ front ++ missing → ((j : ℕ) → fed_by_act j act ≡ []) → ((j : ℕ) → lines_to j more ≡ [])
      → new ≡ old → IsCutOff plan (acts ++ act ∷ []) (entries ++ front) new
  all_alone act more new acted cut no_feed no_lines is = record {
    sessions = new;
    kinds = (acted_keeps plan acts entries old kept act more new acted).kinds;
    each = λ j. left_alone act more new j cut (no_feed j) (no_lines j) (ap (λ (l : List Session). session_at l j) is);
    same_number = λ j none. none;
    parted = none_parted new;
  }

  -- whatever act
  acted_cut : (act : Act) (more : List Entry) (new : List Session) → Acted plan old act more new → more ≡ front ++ missing → IsCutOff plan (acts ++ act ∷ []) (entries ++ front) new
  acted_cut (Opens protocol node greeting) more new (says, is) cut = record {
    sessions = new;
    kinds = (acted_keeps plan acts entries old kept (Opens protocol node greeting) more new (says, is)).kinds;
    each = λ j. ⊎_elim (λ same. here j same) (λ other.
        left_alone (Opens protocol node greeting) more new j cut refl
        (ap (lines_to j) says ∙ other_lines (length old + 1) j (greeting ∷ []) other)
        (ap (λ (l : List Session). session_at l j) is ∙ pushed_other old (opened_session protocol node) j other)) (cases_eq j (length old + 1));
    same_number = λ j none. none;
    parted = none_parted new;
  }
    where
      here : (j : ℕ) → j ≡ length old + 1 → Shown plan (flat_map (fed_by_act j) (acts ++ Opens protocol node greeting ∷ [])) (lines_to j (entries ++ front)) (session_at new j)
      here j same =
          let before : Spoken plan (flat_map (fed_by_act j) acts) (lines_to j entries) None =
          subst (Spoken plan (flat_map (fed_by_act j) acts) (lines_to j entries)) (ap (session_at old) same ∙ none_behind old) (kept.each j) in
          let all : lines_to j front ++ lines_to j missing ≡ greeting ∷ [] =
          sym (lines_both j front missing) ∙ ap (lines_to j) (sym cut ∙ says) ∙ ap (λ (n : ℕ). lines_to j (said_lines n (greeting ∷ []))) (sym same) ∙ own_lines j (greeting ∷ []) in
          shown_so plan [] _ (lines_to j front) _ (Some (opened_session protocol node)) (session_at new j)
          (act_push (fed_by_act j) acts (Opens protocol node greeting) ∙ ap (λ (l : List ℕ). l ++ []) before.0)
          (lines_both j entries front ∙ ap (λ (l : List (List ℕ)). l ++ lines_to j front) before.1)
          (ap (λ (l : List Session). session_at l j) is ∙ ap (session_at (old ++ opened_session protocol node ∷ [])) same ∙ pushed old (opened_session protocol node))
          (greeted protocol node greeting (lines_to j front) (front_of_one greeting (lines_to j front) (lines_to j missing) (sym all)))
  acted_cut (Faults node) more new (says, is) cut = all_alone (Faults node) more new (says, is) cut (λ j. refl) (λ j. ap (lines_to j) says) is
  acted_cut (StillWaits k) more new (says, is) cut = all_alone (StillWaits k) more new (says, is) cut (λ j. refl) (λ j. ap (lines_to j) says) is
  acted_cut (Leaves k user) more new (says, is) cut = all_alone (Leaves k user) more new (says, is) cut (λ j. refl) (λ j. ap (lines_to j) says) is
  acted_cut (Makes order event) more new (says, is) cut = all_alone (Makes order event) more new (says, is) cut (λ j. refl) (λ j. ap (lines_to j) says ∙ event_says_none j event) is
  acted_cut (Abandons k) more new (says, is) cut = all_alone (Abandons k) more new (says, is) cut (λ j. refl) (λ j. ap (lines_to j) says) is
  acted_cut (Does k deed) more new (before, behind, said, at, did, says, is) cut = record {
    sessions = replace old k session;
    kinds = act_push opened_by acts (Does k deed) ∙ append-nil (flat_map opened_by acts) ∙ kept.kinds
        ∙ sym (map_replaced old kind_of k before session at (ap kind_of done.1.same ∙ ap₂ (λ (p : Protocol) (n : ℕ). (p, n)) kind.0 kind.1));
    each = λ j. ⊎_elim (λ same. subst (λ (n : ℕ). Shown plan (flat_map (fed_by_act n) (acts ++ Does k deed ∷ [])) (lines_to n (entries ++ front)) (session_at (replace old k session) n)) (sym same) own)
        (λ other. left_alone (Does k deed) more (replace old k session) j cut (feed_other k j deed other) (ap (lines_to j) says ∙ does_other k j said deed behind.standing other)
        (replaced_other old k j before session at other)) (cases_eq j k);
    same_number = λ j none. ⊎_elim
        (λ same. absurd (none-some session (sym none ∙ ap (session_at (replace old k session)) same ∙ replaced old k before session at)))
        (λ other. ap (λ (l : List Session). session_at l j) is ∙ replaced_other old k j before behind at other ∙ sym (replaced_other old k j before session at other) ∙ none)
        (cases_eq j k);
    parted = λ j one there. ⊎_elim
        (λ same.
        let both : Some session ≡ Some one = sym (replaced old k before session at) ∙ ap (session_at (replace old k session)) (sym same) ∙ there in
        let one_is : session ≡ one = cc in (
          behind,
          ap (λ (l : List Session). session_at l j) is ∙ ap (session_at (replace old k behind)) same ∙ replaced old k before behind at,
          subst (IsParted behind) one_is done.1,
        ))
        (λ other. (
          one,
          ap (λ (l : List Session). session_at l j) is ∙ replaced_other old k j before behind at other ∙ sym (replaced_other old k j before session at other) ∙ there,
          unparted one,
        )) (cases_eq j k);
  }
    where
      was : Spoken plan (flat_map (fed_by_act k) acts) (lines_to k entries) (Some before)
      was = subst (Spoken plan (flat_map (fed_by_act k) acts) (lines_to k entries)) at (kept.each k)

      lines_cut : said ≡ lines_to k front ++ lines_to k missing
      lines_cut = sym (does_own k said deed behind.standing) ∙ ap (lines_to k) (sym says ∙ cut) ∙ lines_both k front missing

      done : (session : Session) × IsParted behind session × IsShown plan (was.1 ++ lines_to k front) session
      done = did_cut plan was.1 said (lines_to k front) (lines_to k missing) before behind deed was.3 did lines_cut

      session : Session
      session = done.0

      kind : (behind.protocol ≡ before.protocol) × (behind.node ≡ before.node)
      kind = did_kind plan said before behind deed did

      own : Shown plan (flat_map (fed_by_act k) (acts ++ Does k deed ∷ [])) (lines_to k (entries ++ front)) (session_at (replace old k session) k)
      own = shown_so plan (flat_map (fed_by_act k) acts ++ fed_by_act k (Does k deed)) _ (was.0 ∷ (was.1 ++ lines_to k front)) _ (Some session) (session_at (replace old k session) k)
          (act_push (fed_by_act k) acts (Does k deed)) (lines_both k entries front ∙ ap (λ (l : List (List ℕ)). l ++ lines_to k front) was.2) (replaced old k before session at)
          (done.2, ap (λ (s : Session). s.octets) done.1.same ∙ did_feed plan said before behind deed did k ∙ ap (λ (l : List ℕ). l ++ fed_by_act k (Does k deed)) was.4)

-- what was asked and answered in a session, whichever lines of it were written
module _ (plan : Plan) (calls : List Call) (answers : List (Call × Answer)) (last : Option Session) (logged : Logged calls answers last) where
  none_so : last ≡ None → IsLogged calls answers None
  none_so none = subst (Logged calls answers) none logged

  parted_so : (session whole : Session) → last ≡ Some whole → whole.others ≡ [] → IsParted whole session → IsLogged calls answers (Some session)
  parted_so session whole at none parted =
      let all = logged_whole calls answers whole none (subst (Logged calls answers) at logged) in
      (all.0 ∙ ap calls_of (sym parted.exchanges), all.1 ∙ ap answers_of (sym parted.exchanges))

pub acts_are_shown : ActsAreShown
acts_are_shown plan lines acts act outputs entries front missing mid last done acted cut acts_of = (
  off.sessions,
  record {
    are = record {
      kinds = acts_of.opens ∙ off.kinds;
      each = λ k session at.
          let shown : Shown plan (flat_map (fed_by_act k) (acts ++ act ∷ [])) (lines_to k (all_of outputs ++ front)) (Some session) =
          subst (Shown plan (flat_map (fed_by_act k) (acts ++ act ∷ [])) (lines_to k (all_of outputs ++ front))) at (off.each k) in
          record { talk = shown.0.talk; fed = shown.1 ∙ sym (acts_of.feeds k); gets = shown.0.gets };
    };
    logged = λ k. by_session k (session_at off.sessions k) refl;
  },
  off.parted,
)
  where
    before : Kept plan acts (all_of outputs) mid × AreLogged acts mid
    before = all_logged plan [] acts [] [] mid outputs (at_first plan) none_logged done

    off : IsCutOff plan (acts ++ act ∷ []) (all_of outputs ++ front) last
    off = acted_cut plan acts (all_of outputs) mid before.0 front missing act entries last acted cut

    kept : Kept plan (acts ++ act ∷ []) (all_of outputs ++ entries) last
    kept = acted_keeps plan acts (all_of outputs) mid before.0 act entries last acted

    logged : AreLogged (acts ++ act ∷ []) last
    logged = acted_logged plan acts (all_of outputs) mid before.0 before.1 act entries last acted

    by_session : (k : ℕ) (session : Option Session) → session_at off.sessions k ≡ session
        → IsLogged (asked_in k (flat_map asked_by (acts ++ act ∷ []))) (answered_in k (flat_map answered_by (acts ++ act ∷ []))) (session_at off.sessions k)
    by_session k None none =
        subst (IsLogged (asked_in k (flat_map asked_by (acts ++ act ∷ []))) (answered_in k (flat_map answered_by (acts ++ act ∷ [])))) (sym none)
        (none_so plan _ _ (session_at last k) (logged k) (off.same_number k none))
    by_session k (Some session) at =
        let whole = off.parted k session at in
        let spoken : Spoken plan (flat_map (fed_by_act k) (acts ++ act ∷ [])) (lines_to k (all_of outputs ++ entries)) (Some whole.0) =
        subst (Spoken plan (flat_map (fed_by_act k) (acts ++ act ∷ [])) (lines_to k (all_of outputs ++ entries))) whole.1 (kept.each k) in
        subst (IsLogged (asked_in k (flat_map asked_by (acts ++ act ∷ []))) (answered_in k (flat_map answered_by (acts ++ act ∷ [])))) (sym at)
        (parted_so plan _ _ (session_at last k) (logged k) session whole.0 whole.1 spoken.3.none whole.2)
