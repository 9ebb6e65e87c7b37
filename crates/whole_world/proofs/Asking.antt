-- The first half of a round: each other node is asked, and those that are up answer.
use Rattle.std.proofs.Common.{◌≡◌, ◌≢◌, inl, inr, ⊎_elim, ℕ, suc, ◌+◌, ◌≤◌, ◌<◌, Bool, false, List, [], ◌∷◌, ◌++◌, append-nil, append_assoc, map, length, Option, Some, None, refl, sym, ap, ◌∙◌, subst, arith, if◌then◌else◌}
use Rattle.mail_model.specs.Identity.{EpochId, no_epoch}
use Rattle.mail_model.specs.Plan.{Plan}
use Rattle.object_model.specs.Lists.{Among}
use Rattle.object_model.specs.Letters.{Claim, Membership, Letter}
use Rattle.object_model.specs.Letters.Body.{Group, Join, Install}
use Rattle.object_model.proofs.Lists.{among_either}
use Rattle.cluster_model.specs.Thrown.Why.{Old}
use Rattle.cluster_model.specs.Room.{Flight}
use Rattle.maps_model.specs.Cluster as maps
use Rattle.maps_model.specs.Epochs.{IsBefore, IsAtMost}
use Rattle.maps_model.specs.Rules as maps_rules
use Rattle.maps_model.specs.Rules.HearsGroup.{Rises, Again, Old as OldGroup}
use Rattle.whole_world.specs.World.{World}
use Rattle.whole_world.specs.Thrown.{is_before}
use Rattle.whole_world.specs.Steps.{Said}
use Rattle.whole_world.specs.Makes.{said_of}
use Rattle.whole_world.specs.Regroup.{PostsEach, ThrownOld, maps_at, HasRoomFor}
use Rattle.whole_world.proofs.Before.{before_true}
use Rattle.whole_world.proofs.Viewing.{numbered, AreLight, AreLightFlights, put_all, IsOfRounds, Posted, posted}
use Rattle.whole_world.proofs.Viewing.Posted.{NotUp, Reached}

-- letters of the rounds
pub group_of : (from to : ℕ) (epoch : EpochId) → IsOfRounds (maps_rules.letter_to from (Group epoch) to)
group_of from to epoch = record { body = tt; fresh = by; answers = refl; ticket = refl }
  where
    by : (installed : Option Membership) → Rattle.cluster_model.specs.Thrown.is_stale (maps_rules.letter_to from (Group epoch) to) installed ≡ false
    by None = refl
    by (Some g) = refl

pub join_of : (from to : ℕ) (epoch promise : EpochId) (boot : ℕ) (was : EpochId) (claims : List Claim) → IsOfRounds (maps_rules.letter_to from (Join epoch promise boot was claims) to)
join_of from to epoch promise boot was claims = record { body = tt; fresh = by; answers = refl; ticket = refl }
  where
    by : (installed : Option Membership) → Rattle.cluster_model.specs.Thrown.is_stale (maps_rules.letter_to from (Join epoch promise boot was claims) to) installed ≡ false
    by None = refl
    by (Some g) = refl

pub install_of : (from to : ℕ) (g : Membership) → IsOfRounds (maps_rules.letter_to from (Install g) to)
install_of from to g = record { body = tt; fresh = by; answers = refl; ticket = refl }
  where
    by : (installed : Option Membership) → Rattle.cluster_model.specs.Thrown.is_stale (maps_rules.letter_to from (Install g) to) installed ≡ false
    by None = refl
    by (Some h) = refl

-- numbers of flights
pub numbers_above : (k : ℕ) (letters : List Letter) (f : Flight) → Among f (numbered k letters) → k < f.number
numbers_above k (letter ∷ letters) f m = ⊎_elim
    (λ e. subst (λ (x : Flight). k < x.number) e (above k))
    (λ more. omega (arith, numbers_above (k + 1) letters f more))
    m
  where
    above : (k : ℕ) → k < k + 1
    above k = omega arith
numbers_above k [] f m = absurd m

pub numbered_both : (k : ℕ) (xs ys : List Letter) → numbered k (xs ++ ys) ≡ numbered k xs ++ numbered (k + length xs) ys
numbered_both k [] ys = ap (λ j. numbered j ys) (none k)
  where
    none : (k : ℕ) → k ≡ k + 0
    none k = omega arith
numbered_both k (x ∷ xs) ys = ap (λ (l : List Flight). record { number = k + 1; letter = x } ∷ l) (numbered_both (k + 1) xs ys ∙ ap (λ j. numbered (k + 1) xs ++ numbered j ys) (sums k (length xs)))
  where
    sums : (k n : ℕ) → (k + 1) + n ≡ k + suc n
    sums k n = omega arith

pub numbered_length : (k : ℕ) (xs : List Letter) → length (numbered k xs) ≡ length xs
numbered_length k [] = refl
numbered_length k (x ∷ xs) = ap suc (numbered_length (k + 1) xs)

pub numbered_light : (k : ℕ) (xs : List Letter) → AreLight xs → AreLightFlights (numbered k xs)
numbered_light k [] light f m = absurd m
numbered_light k (x ∷ xs) light f m = ⊎_elim
    (λ e. subst (λ (y : Flight). Rattle.cluster_model.specs.Room.message_octets y.letter.body ≡ 0) e (light x (inl refl)))
    (λ more. numbered_light (k + 1) xs (λ l n. light l (inr n)) f more)
    m

pub letters_length : (xs ys : List Letter) → length (xs ++ ys) ≡ length xs + length ys
letters_length [] ys = none (length ys)
  where
    none : (a : ℕ) → a ≡ 0 + a
    none a = omega arith
letters_length (x ∷ xs) ys = ap suc (letters_length xs ys) ∙ one (length xs) (length ys)
  where
    one : (a b : ℕ) → suc (a + b) ≡ suc a + b
    one a b = omega arith

abbrev pub Views : Type 0
Views = ℕ → Option maps.Node

module _ (n : ℕ) (epoch : EpochId) where
  -- what a node that is asked becomes, and what it answers
  pub data Answered (r : ℕ) (before after : Option maps.Node) (answer : List Letter) (said : Said) : Type 0 where
    Silent : before ≡ None → after ≡ None → answer ≡ [] → Answered r before after answer said
    Promises : (x y : maps.Node) → before ≡ Some x → after ≡ Some y → y.boot ≡ x.boot → y.installed ≡ x.installed → y.promise ≡ epoch → IsAtMost x.promise epoch
        → (was : EpochId) (claims : List Claim) → answer ≡ maps_rules.letter_to r (Join epoch epoch x.boot was claims) n ∷ [] → Answered r before after answer said
    TooOld : (x : maps.Node) → before ≡ Some x → after ≡ Some x → IsBefore epoch x.promise → said ≡ ThrownOld
        → answer ≡ maps_rules.letter_to r (Join epoch x.promise x.boot no_epoch []) n ∷ [] → Answered r before after answer said

  answers_by : (r : ℕ) (x : maps.Node) (disk : maps.Disk) (did : maps_rules.Reaction) (said : Said) (after : Option maps.Node) → maps_rules.HearsGroup r x disk n epoch did
      → said ≡ said_of (if is_before epoch x.promise then Some Old else None) → after ≡ Some did.node → Answered r (Some x) after did.out said
  answers_by r x disk did said after (Rises below e) says is = Promises x did.node refl is (ap (λ (d : maps_rules.Reaction). d.node.boot) e) (ap (λ (d : maps_rules.Reaction). d.node.installed) e)
      (ap (λ (d : maps_rules.Reaction). d.node.promise) e) (inl below) (maps.epoch_of x) (maps_rules.claims_in r x.installed) (ap (λ (d : maps_rules.Reaction). d.out) e)
  answers_by r x disk did said after (Again same e) says is = Promises x did.node refl is (ap (λ (d : maps_rules.Reaction). d.node.boot) e) (ap (λ (d : maps_rules.Reaction). d.node.installed) e)
      (ap (λ (d : maps_rules.Reaction). d.node.promise) e ∙ sym same) (inr (sym same)) (maps.epoch_of x) (maps_rules.claims_in r x.installed)
      (ap (λ (d : maps_rules.Reaction). d.out) e ∙ ap (λ p. maps_rules.letter_to r (Join epoch p x.boot (maps.epoch_of x) (maps_rules.claims_in r x.installed)) n ∷ []) (sym same))
  answers_by r x disk did said after (OldGroup above e) says is = TooOld x refl (is ∙ ap (λ (d : maps_rules.Reaction). Some d.node) e) above
      (says ∙ ap (λ b. said_of (if b then Some Old else None)) (before_true epoch x.promise above)) (ap (λ (d : maps_rules.Reaction). d.out) e)

  -- one after another
  pub data Asks : Views → List ℕ → List Said → Views → List Letter → Type 0 where
    NoneLeft : (v w : Views) → ((q : ℕ) → w q ≡ v q) → Asks v [] [] w []
    AsksOne : (v mid w : Views) (r : ℕ) (rs : List ℕ) (said : Said) (saids : List Said) (answer letters : List Letter) → Answered r (v r) (mid r) answer said → ((q : ℕ) → q ≢ r → mid q ≡ v q)
        → Asks mid rs saids w letters → Asks v (r ∷ rs) (said ∷ saids) w (answer ++ letters)

  abbrev pub asking : List ℕ → List Letter
  asking rs = map (maps_rules.letter_to n (Group epoch)) rs

  asking_light : (rs : List ℕ) → AreLight (asking rs)
  asking_light [] l m = absurd m
  asking_light (r ∷ rs) l m = ⊎_elim (λ e. subst (λ (x : Letter). Rattle.cluster_model.specs.Room.message_octets x.body ≡ 0) e refl) (λ more. asking_light rs l more) m

  asking_length : (rs : List ℕ) → length (asking rs) ≡ length rs
  asking_length [] = refl
  asking_length (r ∷ rs) = ap suc (asking_length rs)

  -- how the world stands while the nodes are asked: those that are left, and the answers that came
  pub record Standing (base : List Flight) (start : ℕ) (rs : List ℕ) (got : List Letter) (w : World) : Type 0 where
    pub flying : w.flying ≡ base ++ (numbered start (asking rs) ++ numbered (start + length rs) got)
    pub sent : w.sent ≡ (start + length rs) + length got
    pub light : AreLight got

  pub record AskedAll (base : List Flight) (bound : ℕ) (rs : List ℕ) (got : List Letter) (saids : List Said) (w new : World) : Type 0 where
    pub letters : List Letter
    pub asks : Asks (maps_at w) rs saids (maps_at new) letters
    pub flying : new.flying ≡ base ++ numbered bound (got ++ letters)
    pub sent : new.sent ≡ bound + length (got ++ letters)
    pub light : AreLight (got ++ letters)
    pub few : length letters ≤ length rs

  answer_light : (r : ℕ) (before after : Option maps.Node) (answer : List Letter) (said : Said) → Answered r before after answer said → AreLight answer × (length answer ≤ 1)
  answer_light r before after answer said (Silent a b e) = subst (λ (l : List Letter). AreLight l × (length l ≤ 1)) (sym e) ((λ l m. absurd m), omega arith)
  answer_light r before after answer said (Promises x y a b c d f g was claims e) = subst (λ (l : List Letter). AreLight l × (length l ≤ 1)) (sym e)
      ((λ l m. ⊎_elim (λ h. subst (λ (k : Letter). Rattle.cluster_model.specs.Room.message_octets k.body ≡ 0) h refl) (λ none. absurd none) m), omega arith)
  answer_light r before after answer said (TooOld x a b c d e) = subst (λ (l : List Letter). AreLight l × (length l ≤ 1)) (sym e)
      ((λ l m. ⊎_elim (λ h. subst (λ (k : Letter). Rattle.cluster_model.specs.Room.message_octets k.body ≡ 0) h refl) (λ none. absurd none) m), omega arith)

  both_light : (xs ys : List Letter) → AreLight xs → AreLight ys → AreLight (xs ++ ys)
  both_light xs ys p q l m = ⊎_elim (λ a. p l a) (λ b. q l b) (among_either l xs ys m)

  module _ (plan : Plan) (tells : Bool) (base : List Flight) (count : ℕ) (room : HasRoomFor count base) where
    -- one node is asked
    record AskedOne (start r : ℕ) (rs : List ℕ) (got : List Letter) (said : Said) (w mid : World) : Type 0 where
      answer : List Letter
      answered : Answered r (maps_at w r) (maps_at mid r) answer said
      others : (q : ℕ) → q ≢ r → maps_at mid q ≡ maps_at w q
      stands : Standing base (start + 1) rs (got ++ answer) mid

    asks_one : (start r : ℕ) (rs : List ℕ) (got : List Letter) (said : Said) (w mid : World) → ((f : Flight) → Among f base → f.number ≤ start) → Standing base start (r ∷ rs) got w
        → length (r ∷ rs) + length got ≤ count → Posted w (base ++ (numbered (start + 1) (asking rs) ++ numbered (start + length (r ∷ rs)) got)) (maps_rules.letter_to n (Group epoch) r) said mid
        → AskedOne start r rs got said w mid
    asks_one start r rs got said w mid low s few (NotUp none says flying sent views) = record {
      answer = [];
      answered = Silent none (views r ∙ none) refl;
      others = λ q apart. views q;
      stands = record {
        flying = flying ∙ ap (λ (l : List Flight). base ++ (numbered (start + 1) (asking rs) ++ l)) (λ i. numbered (sums start (length rs) i) (sym (nothing got) i));
        sent = sent ∙ s.sent ∙ (λ i. sums start (length rs) i + length (sym (nothing got) i));
        light = subst AreLight (sym (nothing got)) s.light;
      };
    }
      where
        nothing : (xs : List Letter) → xs ++ [] ≡ xs
        nothing xs = append-nil xs

        sums : (k m : ℕ) → k + suc m ≡ (k + 1) + m
        sums k m = omega arith
    asks_one start r rs got said w mid low s few (Reached x disk did here h says now others putting flying sent flew numbers) =
        let answered : Answered r (maps_at w r) (maps_at mid r) did.out said = subst (λ o. Answered r o (maps_at mid r) did.out said) (sym here) (answers_by r x disk did said (maps_at mid r) h says now) in
        let light = answer_light r (maps_at w r) (maps_at mid r) did.out said answered in
        let waiting : List Flight = numbered (start + 1) (asking rs) ++ numbered (start + length (r ∷ rs)) got in
        let put_is = put_all count base did.out waiting putting flying room
        (lights (numbered (start + 1) (asking rs)) (numbered (start + length (r ∷ rs)) got) (numbered_light (start + 1) (asking rs) (asking_light rs)) (numbered_light (start + length (r ∷ rs)) got s.light))
        light.0
        (enough (length waiting) (length did.out) (length rs) (length got) count (lengths (numbered (start + 1) (asking rs)) (numbered (start + length (r ∷ rs)) got) (length rs) (length got)
        (numbered_length (start + 1) (asking rs) ∙ asking_length rs) (numbered_length (start + length (r ∷ rs)) got)) light.1 few) in
        record {
          answer = did.out;
          answered = answered;
          others = others;
          stands = record {
            flying = flew ∙ put_is.flying ∙ (λ i. flying i ++ numbered (number_is i) did.out) ∙ append_assoc base waiting (numbered ((start + length (r ∷ rs)) + length got) did.out)
                ∙ ap (λ (l : List Flight). base ++ l) (append_assoc (numbered (start + 1) (asking rs)) (numbered (start + length (r ∷ rs)) got) (numbered ((start + length (r ∷ rs)) + length got) did.out)
                ∙ ap (λ (l : List Flight). numbered (start + 1) (asking rs) ++ l) (sym (numbered_both (start + length (r ∷ rs)) got did.out) ∙ ap (λ k. numbered k (got ++ did.out)) (sums start (length rs))));
            sent = numbers ∙ put_is.sent ∙ ap (λ k. k + length did.out) number_is ∙ totals start (length rs) (length got) (length did.out) (length (got ++ did.out)) (letters_length got did.out);
            light = both_light got did.out s.light light.0;
          };
        }
      where
        number_is : putting.sent ≡ (start + length (r ∷ rs)) + length got
        number_is = sent ∙ s.sent

        lights : (xs ys : List Flight) → AreLightFlights xs → AreLightFlights ys → AreLightFlights (xs ++ ys)
        lights xs ys p q f m = ⊎_elim (λ a. p f a) (λ b. q f b) (among_either f xs ys m)

        lengths : (xs ys : List Flight) (a b : ℕ) → length xs ≡ a → length ys ≡ b → length (xs ++ ys) ≡ a + b
        lengths xs ys a b p q = Rattle.whole_world.proofs.Viewing.length_both xs ys ∙ (λ i. p i + q i)

        enough : (waiting out rs got count : ℕ) → waiting ≡ rs + got → out ≤ 1 → suc rs + got ≤ count → waiting + out ≤ count
        enough waiting out rs got count e o f = omega (arith, e, o, f)

        sums : (k m : ℕ) → k + suc m ≡ (k + 1) + m
        sums k m = omega arith

        totals : (k m g o both : ℕ) → both ≡ g + o → ((k + suc m) + g) + o ≡ ((k + 1) + m) + both
        totals k m g o both e = omega (arith, e)

    -- and all of them
    pub asks_all : (start : ℕ) (rs : List ℕ) (got : List Letter) (saids : List Said) (w new : World) → ((f : Flight) → Among f base → f.number ≤ start) → Standing base start rs got w
        → length rs + length got ≤ count → length saids ≡ length rs → PostsEach plan tells w start saids new → AskedAll base (start + length rs) rs got saids w new
    asks_all start [] got [] w new low s few same e = record {
      letters = [];
      asks = NoneLeft (maps_at w) (maps_at new) (λ q. ap (λ (x : World). maps_at x q) e);
      flying = ap (λ (x : World). x.flying) e ∙ s.flying ∙ ap (λ (l : List Letter). base ++ numbered (start + 0) l) (sym (append-nil got));
      sent = ap (λ (x : World). x.sent) e ∙ s.sent ∙ ap (λ (l : List Letter). (start + 0) + length l) (sym (append-nil got));
      light = subst AreLight (sym (append-nil got)) s.light;
      few = omega arith;
    }
    asks_all start [] got (said ∷ saids) w new low s few same e = absurd (cc same)
    asks_all start (r ∷ rs) got [] w new low s few same e = absurd (cc same)
    asks_all start (r ∷ rs) got (said ∷ saids) w new low s few same (mid, made, fine, rest) =
        let one = asks_one start r rs got said w mid low s few
        (posted plan tells w mid (start + 1) (maps_rules.letter_to n (Group epoch) r) base (numbered (start + 1) (asking rs) ++ numbered (start + length (r ∷ rs)) got) s.flying
        (λ f m e. lower f.number start (low f m) e)
        (λ f m e. ⊎_elim
        (λ a. higher f.number start (numbers_above (start + 1) (asking rs) f a) e)
        (λ b. later f.number start (length rs) (numbers_above (start + length (r ∷ rs)) got f b) e)
        (among_either f (numbered (start + 1) (asking rs)) (numbered (start + length (r ∷ rs)) got) m))
        (group_of n r epoch) said made fine) in
        let light = answer_light r (maps_at w r) (maps_at mid r) one.answer said one.answered in
        let more = asks_all (start + 1) rs (got ++ one.answer) saids mid new (λ f m. omega (arith, low f m)) one.stands
        (bound (length rs) (length got) (length one.answer) (length (got ++ one.answer)) count (letters_length got one.answer) light.1 few) (sames same) rest in
        record {
          letters = one.answer ++ more.letters;
          asks = AsksOne (maps_at w) (maps_at mid) (maps_at new) r rs said saids one.answer more.letters one.answered one.others more.asks;
          flying = more.flying ∙ (λ i. base ++ numbered (sums start (length rs) i) (append_assoc got one.answer more.letters i));
          sent = more.sent ∙ (λ i. sums start (length rs) i + length (append_assoc got one.answer more.letters i));
          light = subst AreLight (append_assoc got one.answer more.letters) more.light;
          few = subst (λ k. k ≤ suc (length rs)) (sym (letters_length one.answer more.letters)) (omega (arith, light.1, more.few));
        }
      where
        lower : (a b : ℕ) → a ≤ b → a ≡ b + 1 → ⊥
        lower a b p e = omega (arith, p, e)

        higher : (a b : ℕ) → b + 1 < a → a ≡ b + 1 → ⊥
        higher a b p e = omega (arith, p, e)

        later : (a b c : ℕ) → b + suc c < a → a ≡ b + 1 → ⊥
        later a b c p e = omega (arith, p, e)

        bound : (rs got out both count : ℕ) → both ≡ got + out → out ≤ 1 → suc rs + got ≤ count → rs + both ≤ count
        bound rs got out both count e o f = omega (arith, e, o, f)

        sames : suc (length saids) ≡ suc (length rs) → length saids ≡ length rs
        sames e = cc

        sums : (k m : ℕ) → (k + 1) + m ≡ k + suc m
        sums k m = omega arith
