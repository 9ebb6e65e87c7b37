-- A reply that is written after a later call was answered.
use Rattle.std.proofs.Common.{inl, inr, ◌≡◌, ◌++◌, ◌∷◌, ℕ, List, [], Some, None, sym, ap, ◌∙◌, length, length-append, get_or, arith}
use Rattle.std.specs.Prelude.{flat_map}
use Rattle.mail_model.specs.Lines.{sent_line}
use Rattle.session_model.specs.Calls.{Answer}
use Rattle.session_model.specs.Talk.{Exchange, replies}
use Rattle.session_gate.specs.InTime.{FirstAnswered}
use Rattle.session_gate.specs.Late.{LateRepliesAreRefused}

no_answer : (a : Answer) → None ≡ Some a → ⊥
no_answer a is = cc

module _ (greeting line : List ℕ) (more : List (List ℕ)) (one other : Exchange) (a b : Answer) (first : one.answer ≡ Some a) (second : other.answer ≡ Some b) (reply : one.reply ≡ line ∷ more) where
  by_split : (written late : List Exchange) → one ∷ other ∷ [] ≡ written ++ late → FirstAnswered late → (rest : List ℕ) → sent_line greeting ≡ (sent_line greeting ++ flat_map sent_line (replies written)) ++ rest → ⊥
  by_split [] (x ∷ y ∷ late) are none rest begins = no_answer b (sym none.0 ∙ ap (λ (l : List Exchange). (get_or l 1 other).answer) (sym are) ∙ second)
  by_split [] [] are none rest begins = absurd (let e = ap length are in omega arith)
  by_split [] (x ∷ []) are none rest begins = absurd (let e = ap length are in omega arith)
  by_split (x ∷ written) late are none rest begins =
      let head : x ≡ one = ap (λ (l : List Exchange). get_or l 0 one) (sym are) in
      let says : x.reply ≡ line ∷ more = ap (λ (e : Exchange). e.reply) head ∙ reply in
      let whole : sent_line greeting ≡ (sent_line greeting ++ flat_map sent_line ((line ∷ more) ++ replies written)) ++ rest = begins
      ∙ ap (λ (r : List (List ℕ)). (sent_line greeting ++ flat_map sent_line (r ++ replies written)) ++ rest) says in
      let e = ap length whole in
      let l1 = length-append (sent_line greeting ++ flat_map sent_line ((line ∷ more) ++ replies written)) rest in
      let l2 = length-append (sent_line greeting) (flat_map sent_line ((line ∷ more) ++ replies written)) in
      let l3 = length-append (sent_line line) (flat_map sent_line (more ++ replies written)) in
      let l4 = length-append line (13 ∷ 10 ∷ []) in
      absurd (omega (arith, e, l1, l2, l3, l4))

pub late_replies_are_refused : LateRepliesAreRefused
late_replies_are_refused greeting line more one other a b first second reply (inl none) = no_answer a (sym none.0 ∙ first)
late_replies_are_refused greeting line more one other a b first second reply (inr w) = by_split greeting line more one other a b first second reply w.written w.late w.are w.first w.rest w.begins
