-- What a session shows that names a user, proves it, and asks for the ids of all messages.
use Rattle.std.proofs.Common.{◌≡◌, ℕ, Bool, true, false, List, [], ◌∷◌, Option, Some, None, refl, sym, ap, ◌∙◌, subst, arith, codes, if◌then◌else◌}
use Rattle.std.specs.Prelude.{Ok}
use Rattle.mail_model.specs.Names.{lower}
use Rattle.mail_model.specs.Plan.{Plan, is_user}
use Rattle.mail_model.specs.Session.{is_long_line}
use Rattle.mail_model.specs.Session.Unit.{Line}
use Rattle.mail_model.specs.Pop.{pop_command_of}
use Rattle.mail_model.specs.Pop.Command.{User, Pass, Uidl}
use Rattle.mail_model.specs.PopReplies.{Item, ListingSlot, one_line, id_line, listing_reply, listed_slots}
use Rattle.mail_model.specs.Maildrop.{LineOutcome, command_outcome, named_by, named_in, pass_outcome, says_line, entered_text, wrong_text}
use Rattle.mail_model.specs.Maildrop.Given.{BySecret}
use Rattle.mail_model.specs.Maildrop.Stage.{Authorization, Transaction}
use Rattle.session_model.specs.Calls.{Answer}
use Rattle.session_model.specs.Calls.Call.{Login}
use Rattle.session_model.specs.Calls.Answer.{Stored, Listed, Wrong, InUse, NoProfile, Part, GoneAlready, Dropped, Failed}
use Rattle.session_model.specs.Talk.{Lead, TalkState, Exchange, Standing, IsNext, IsLed, Awaits, TalkGoes, line_lead, lead_of, stands, stands_by, standing_asked, heard}
use Rattle.session_model.specs.Talk.TalkState.{Entering, Reading}
use Rattle.session_model.specs.Talk.Standing.{Hearing}

-- the first octet of a reply
abbrev first_octet : List (List ℕ) → ℕ
first_octet [] = 0
first_octet ([] ∷ more) = 0
first_octet ((x ∷ xs) ∷ more) = x

-- a reply that begins with `-` lets nobody in
refused : {reply : List (List ℕ)} → (text : List ℕ) → first_octet (one_line text) ≡ 45 → reply ≡ one_line text → reply ≡ one_line entered_text → ⊥
refused text minus a b = clash (ap first_octet (sym a ∙ b))
  where
    clash : first_octet (one_line text) ≡ 43 → ⊥
    clash e = omega (arith, minus, e)

-- nor does no reply
not_empty : {reply : List (List ℕ)} → reply ≡ [] → reply ≡ one_line entered_text → ⊥
not_empty a b = clash (ap first_octet (sym a ∙ b))
  where
    clash : ◌≡◌ {A = ℕ} 0 43 → ⊥
    clash e = omega (arith, e)

-- an exchange whose unit is this line
abbrev with_line : List ℕ → Exchange → Exchange
with_line line one = record { unit = Line line; call = one.call; answer = one.answer; reply = one.reply }

as_line : (one : Exchange) (line : List ℕ) → one.unit ≡ Line line → with_line line one ≡ one
as_line one line e = λ i. record { unit = sym e i; call = one.call; answer = one.answer; reply = one.reply }

-- what a line leads to, whether it is too long or not
abbrev outcome_if : Bool → LineOutcome → LineOutcome
outcome_if long outcome = if long then says_line (codes "-ERR line too long") else outcome

-- a line that names a user, before the login
named_stands : (plan : Plan) (node : ℕ) (x : Option (List ℕ)) (one : Exchange) (line name : List ℕ) → one.unit ≡ Line line → pop_command_of line ≡ Ok (User name)
    → stands_by plan node (Entering x) one ≡ Hearing (Entering (named_in line))
named_stands plan node x one line name e command = subst (λ (o : Exchange). stands_by plan node (Entering x) o ≡ Hearing (Entering (named_in line))) (as_line one line e) (by (is_long_line line))
  where
    by : (b : Bool) → stands plan (Entering x) (with_line line one) (line_lead [] (outcome_if b (command_outcome plan (Authorization x) (pop_command_of line)))) ≡ Hearing (Entering (named_in line))
    by true = refl
    by false =
        subst (λ r. stands plan (Entering x) (with_line line one) (line_lead [] (command_outcome plan (Authorization x) r)) ≡ Hearing (Entering (named_in line))) (sym command) refl

-- it asks nothing
named_asks : (plan : Plan) (node : ℕ) (x : Option (List ℕ)) (one : Exchange) (line name : List ℕ) → pop_command_of line ≡ Ok (User name)
    → IsLed (lead_of plan node (Entering x) (Line line)) one → one.call ≡ None
named_asks plan node x one line name command led = by (is_long_line line) led
  where
    by : (b : Bool) → IsLed (line_lead [] (outcome_if b (command_outcome plan (Authorization x) (pop_command_of line)))) one → one.call ≡ None
    by true l = l.0
    by false l = says (subst (λ r. IsLed (line_lead [] (command_outcome plan (Authorization x) r)) one) command l)
      where
        says : IsLed (Lead.Says (one_line (codes "+OK send PASS"))) one → one.call ≡ None
        says m = m.0

-- whom it names
named_is : (line name user : List ℕ) → pop_command_of line ≡ Ok (User name) → named_in line ≡ Some user → user ≡ lower name
named_is line name user command e = by (is_long_line line) e
  where
    same : Some (lower name) ≡ Some user → user ≡ lower name
    same p = cc

    by : (b : Bool) → (if b then None else named_by (pop_command_of line)) ≡ Some user → user ≡ lower name
    by true p = absurd (cc p)
    by false p = same (subst (λ r. named_by r ≡ Some user) command p)

-- A login that was answered `+OK maildrop open` was answered with a listing.
record WasLetIn (plan : Plan) (node : ℕ) (x : Option (List ℕ)) (secret : List ℕ) (one : Exchange) : Type 0 where
  user : List ℕ
  named : x ≡ Some user
  items : List Item
  asked : one.call ≡ Some (Login user (BySecret secret))
  told : one.answer ≡ Some (Listed items)
  stands : stands_by plan node (Entering x) one ≡ Hearing (Reading user (listed_slots items))

module _ (plan : Plan) (node : ℕ) (x : Option (List ℕ)) (one : Exchange) (line secret : List ℕ) (command : pop_command_of line ≡ Ok (Pass secret)) (entered : one.reply ≡ one_line entered_text) where
  lead_is : (b : Bool) → is_long_line line ≡ b → lead_of plan node (Entering x) (Line line) ≡ line_lead [] (outcome_if b (pass_outcome plan x secret))
  lead_is b e = (λ i. line_lead [] (outcome_if (e i) (command_outcome plan (Authorization x) (pop_command_of line))))
      ∙ (λ i. line_lead [] (outcome_if b (command_outcome plan (Authorization x) (command i))))

  -- by the answer
  told_in : (user : List ℕ) → x ≡ Some user → one.call ≡ Some (Login user (BySecret secret)) → (a : Option Answer) → one.answer ≡ a → Awaits (Line line) (Login user (BySecret secret)) a one.reply
      → lead_of plan node (Entering x) (Line line) ≡ Lead.Asks (Login user (BySecret secret)) → WasLetIn plan node x secret (with_line line one)
  told_in user named asks None f reply_is lead = absurd (not_empty reply_is entered)
  told_in user named asks (Some (Listed items)) f reply_is lead = record {
    user = user;
    named = named;
    items = items;
    asked = asks;
    told = f;
    stands = (λ i. stands plan (Entering x) (with_line line one) (lead i)) ∙ (λ i. standing_asked (heard plan (Entering x) (Line line) []) (Login user (BySecret secret)) (f i));
  }
  told_in user named asks (Some Wrong) f reply_is lead = absurd (refused _ refl reply_is entered)
  told_in user named asks (Some InUse) f reply_is lead = absurd (refused _ refl reply_is entered)
  told_in user named asks (Some NoProfile) f reply_is lead = absurd (refused _ refl reply_is entered)
  told_in user named asks (Some Failed) f reply_is lead = absurd (refused _ refl reply_is entered)
  told_in user named asks (Some (Stored id)) f reply_is lead = absurd reply_is
  told_in user named asks (Some (Part octets)) f reply_is lead = absurd reply_is
  told_in user named asks (Some GoneAlready) f reply_is lead = absurd reply_is
  told_in user named asks (Some Dropped) f reply_is lead = absurd reply_is

  -- by what the line leads to
  asked_in : (user : List ℕ) → x ≡ Some user → IsLed (lead_of plan node (Entering x) (Line line)) (with_line line one) → (b : Bool)
      → lead_of plan node (Entering x) (Line line) ≡ line_lead [] (if b then LineOutcome.AsksLogin user (BySecret secret) else says_line wrong_text) → WasLetIn plan node x secret (with_line line one)
  asked_in user named led true lead =
      let l : IsLed (Lead.Asks (Login user (BySecret secret))) (with_line line one) = subst (λ q. IsLed q (with_line line one)) lead led in
      told_in user named l.0 one.answer refl l.1 lead
  asked_in user named led false lead =
      let l : IsLed (Lead.Says (one_line wrong_text)) (with_line line one) = subst (λ q. IsLed q (with_line line one)) lead led in
      absurd (refused _ refl l.2 entered)

  passes_in : IsLed (lead_of plan node (Entering x) (Line line)) (with_line line one) → (y : Option (List ℕ)) → x ≡ y
      → lead_of plan node (Entering x) (Line line) ≡ line_lead [] (pass_outcome plan y secret) → WasLetIn plan node x secret (with_line line one)
  passes_in led None e lead =
      let l : IsLed (Lead.Says (one_line (codes "-ERR bad order"))) (with_line line one) = subst (λ q. IsLed q (with_line line one)) lead led in
      absurd (refused _ refl l.2 entered)
  passes_in led (Some user) e lead = asked_in user e led (is_user plan user) lead

  let_in : IsLed (lead_of plan node (Entering x) (Line line)) (with_line line one) → WasLetIn plan node x secret (with_line line one)
  let_in led = by (is_long_line line) refl
    where
      by : (b : Bool) → is_long_line line ≡ b → WasLetIn plan node x secret (with_line line one)
      by true e =
          let l : IsLed (Lead.Says (one_line (codes "-ERR line too long"))) (with_line line one) = subst (λ q. IsLed q (with_line line one)) (lead_is true e) led in
          absurd (refused _ refl l.2 entered)
      by false e = passes_in led x refl (lead_is false e)

-- UIDL without a number asks nothing, and shows the id of each message
uidl_shows : (plan : Plan) (node : ℕ) (user : List ℕ) (slots : List ListingSlot) (one : Exchange) (line : List ℕ) → pop_command_of line ≡ Ok (Uidl None) → is_long_line line ≡ false
    → IsLed (lead_of plan node (Reading user slots) (Line line)) one → (one.call ≡ None) × (one.reply ≡ listing_reply (codes "+OK unique ids") id_line slots)
uidl_shows plan node user slots one line command short led =
    let l : IsLed (Lead.Says (listing_reply (codes "+OK unique ids") id_line slots)) one = subst (λ q. IsLed q one) lead led in
    (l.0, l.2)
  where
    lead : lead_of plan node (Reading user slots) (Line line) ≡ Lead.Says (listing_reply (codes "+OK unique ids") id_line slots)
    lead = (λ i. line_lead user (outcome_if (short i) (command_outcome plan (Transaction slots) (pop_command_of line))))
        ∙ (λ i. line_lead user (command_outcome plan (Transaction slots) (command i)))

-- what an exchange with this line was led by
led_by : (plan : Plan) (node : ℕ) (state : TalkState) (left more : List ℕ) (one : Exchange) (line : List ℕ) → one.unit ≡ Line line → IsNext plan node state left one more
    → IsLed (lead_of plan node state (Line line)) (with_line line one)
led_by plan node state left more one line e next = subst (λ (o : Exchange). IsLed (lead_of plan node state o.unit) o) (sym (as_line one line e)) next.led

-- What three exchanges show that name a user, let it in, and ask for the ids: the login alone asks a node, and UIDL shows what the login listed.
pub record ListsFresh (user secret : List ℕ) (named proved asked : Exchange) : Type 0 where
  pub items : List Item
  pub none_named : named.call ≡ None
  pub asks : proved.call ≡ Some (Login user (BySecret secret))
  pub told : proved.answer ≡ Some (Listed items)
  pub none_asked : asked.call ≡ None
  pub shows : asked.reply ≡ listing_reply (codes "+OK unique ids") id_line (listed_slots items)

module _ (plan : Plan) (node : ℕ) (octets : List ℕ) (named proved asked : Exchange) (before : Standing) (rest : List ℕ)
    (goes : TalkGoes plan node (Hearing (Entering None)) octets (named ∷ proved ∷ asked ∷ []) before rest)
    (naming proving asking name secret : List ℕ) (first : named.unit ≡ Line naming) (second : proved.unit ≡ Line proving) (third : asked.unit ≡ Line asking)
    (names : pop_command_of naming ≡ Ok (User name)) (passes : pop_command_of proving ≡ Ok (Pass secret)) (lists : pop_command_of asking ≡ Ok (Uidl None)) (short : is_long_line asking ≡ false)
    (entered : proved.reply ≡ one_line entered_text) where
  behind_name : (left : List ℕ) × TalkGoes plan node (Hearing (Entering (named_in naming))) left (proved ∷ asked ∷ []) before rest
  behind_name = (goes.0, subst (λ s. TalkGoes plan node s goes.0 (proved ∷ asked ∷ []) before rest) (named_stands plan node None named naming name first names) goes.2)

  entering : WasLetIn plan node (named_in naming) secret (with_line proving proved)
  entering = let g = behind_name.1 in
      let_in plan node (named_in naming) proved proving secret passes entered (led_by plan node (Entering (named_in naming)) behind_name.0 g.0 proved proving second g.1)

  pub lists_fresh : ListsFresh (lower name) secret named proved asked
  lists_fresh =
      let g = behind_name.1 in
      let stands_as : stands_by plan node (Entering (named_in naming)) proved ≡ Hearing (Reading entering.user (listed_slots entering.items)) =
      subst (λ (o : Exchange). stands_by plan node (Entering (named_in naming)) o ≡ Hearing (Reading entering.user (listed_slots entering.items))) (as_line proved proving second) entering.stands in
      let h : TalkGoes plan node (Hearing (Reading entering.user (listed_slots entering.items))) g.0 (asked ∷ []) before rest = subst (λ s. TalkGoes plan node s g.0 (asked ∷ []) before rest) stands_as g.2 in
      let uidl = uidl_shows plan node entering.user (listed_slots entering.items) (with_line asking asked) asking lists short
      (led_by plan node (Reading entering.user (listed_slots entering.items)) g.0 h.0 asked asking third h.1) in
      record {
        items = entering.items;
        none_named = named_asks plan node None (with_line naming named) naming name names (led_by plan node (Entering None) octets goes.0 named naming first goes.1);
        asks = subst (λ u. proved.call ≡ Some (Login u (BySecret secret))) (named_is naming name entering.user names entering.named) entering.asked;
        told = entering.told;
        none_asked = uidl.0;
        shows = uidl.1;
      }
