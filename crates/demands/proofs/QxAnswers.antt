-- The answers to the packets of a request, compared byte by byte. Assumes nothing.
use Prim.Native.Nat.{ℕ, suc, ◌<◌}
use mathlib.Core.Bool.{true, false, cond, or-true}
use mathlib.Core.Path.{◌≡◌, refl, ap, ◌∙◌}
use mathlib.Core.List.{List, [], ◌∷◌, ◌++◌, map, flatten}
use native.Mathlib.Omega.{arith}
use borrow.Author.Tests.{lt-ltb, eq-eqb}
use lib.Dec.{eqb}
use Rattle.std.specs.Prelude.{Some, None, Ok, Err}
use lib.ListN.{length, get_or, length-take, length-append, length-drop}
use Rattle.lists.specs.Lists.{same, laid_over}
use Rattle.lists.proofs.Same.{same_self, not_same}
use Rattle.bursts.specs.Bursts.{bursts_up_to, bursts_in}
use Rattle.settings.specs.Settings.{settings, all_allowed, within}
use Rattle.models.specs.Models.{filled}
use Rattle.codes.specs.Found.{found_from}
use Rattle.packet.specs.declared.MonitorId.{MonitorId}
use Rattle.packet.specs.Answered.{is_heard}
use Rattle.packet.specs.Spoiled.{Spoiling, changed, lost, added, spoiled, Spoils}
use Rattle.xor.specs.Xor.{◌⊕◌, xor_all}
use Rattle.xor.proofs.Laws.{summed-zero, one-changed}
use Rattle.requests.specs.declared.Request.{Request}
use Rattle.requests.specs.Request.{is_request, is_taken}
use Rattle.qx.specs.Message.{message, qx_packet, qx_answer}
use Rattle.qx.specs.Asked as asked
use Rattle.qx.specs.declared.Reply.{Reply}
use Rattle.qx.specs.Replies.{Answer, wrong, value_says, said_to, replies_to, is_wrong, is_ack, any_wrong, first_other, joined, answers_all, heard_in, heard_by}
use Rattle.qx.specs.Translation.{packets_for, packets_in, translated_over}
use Rattle.demands.proofs.Qx.{wanted, data_is, Fits, written, qx_numbers, taken, refused_data}
use Rattle.demands.specs.Scenes.{list_of}
use Rattle.demands.proofs.Scenes.{told-again, stops}
use Rattle.demands.specs.Qx.{number_for, packets_of, answer_to, value_to, says_to, each_to, Reads, NoneAsked, AnswerNumbers, Joined, ReadBack, SpoiledAnswer, Examples004}
use Rattle.std.proofs.lemmas.Grind.{common_steps}

fit_length : (id : MonitorId) (cs : List ℕ) (ps : List (List ℕ)) → Fits id cs ps → length cs ≡ length ps
fit_length id [] [] f = refl
fit_length id [] (p ∷ ps) f = elim f [ ]
fit_length id (c ∷ cs) [] f = elim f [ ]
fit_length id (c ∷ cs) (p ∷ ps) f = ap suc (fit_length id cs ps f.2)

one-said : (id : MonitorId) (c : ℕ) (p x : List ℕ) → get_or p 1 0 ≡ id.0 → get_or p 7 0 ≡ c → said_to id c x ≡ says_to p x
unfolding said_to value_says qx_answer message
one-said id c p x ei ec = rw (ei, ec)

each-said : (id : MonitorId) (cs : List ℕ) (ps xs : List (List ℕ)) → Fits id cs ps → replies_to id cs xs ≡ each_to says_to ps xs
unfolding replies_to
each-said id [] [] xs f = refl
each-said id [] (p ∷ ps) xs f = elim f [ ]
each-said id (c ∷ cs) [] xs f = elim f [ ]
each-said id (c ∷ cs) (p ∷ ps) [] f = refl
each-said id (c ∷ cs) (p ∷ ps) (x ∷ xs) f = grind (arith, common_steps, each-said id cs ps xs f.2, one-said)

module _ (r : Request) (z : number_for 40 r ≡ 0) where
  asked_codes : asked.codes_for (asked.asked_of r) ≡ map (λ d. get_or d 0 0) (wanted r)
  unfolding asked.codes_for
  asked_codes = let t = taken 40 r z in rw (data_is r t.request, t.carried)

  -- a list of answers that is not cut
  heard-whole : (xs : List (List ℕ)) → heard_in r.id (map (λ d. get_or d 0 0) (wanted r)) (record { whole = xs; cut = false })
      ≡ cond (eqb (length xs) (length (packets_of r))) (Some (joined (each_to says_to (packets_of r) xs))) None
  unfolding heard_in answers_all
  heard-whole xs = grind (arith, common_steps, written, fit_length, wanted, packets_of, lt-ltb, each-said)

  heard_of : (xs : List (List ℕ)) → heard_by r (list_of xs) ≡ cond (eqb (length xs) (length (packets_of r))) (Some (joined (each_to says_to (packets_of r) xs))) None
  unfolding heard_by
  heard_of xs = rw (asked_codes, told-again xs) (heard-whole xs)

  heard-cut : (list : List ℕ) → (bursts_in list).cut ≡ true → heard_by r list ≡ None
  unfolding heard_by heard_in answers_all
  heard-cut list c = grind (arith, common_steps)

  -- as many as there are packets
  heard_all : (xs : List (List ℕ)) → length xs ≡ length (packets_of r) → heard_by r (list_of xs) ≡ Some (joined (each_to says_to (packets_of r) xs))
  heard_all xs n = heard_of xs ∙ rw (eq-eqb _ _ n)

pub reads : Reads
reads r xs z = grind (arith, common_steps, heard_of, heard-cut, list_of, stops)

pub none_asked : NoneAsked
unfolding heard_by heard_in asked.codes_for
none_asked r bytes ne = rw (refused_data r (λ z. ne (qx_numbers 40 r ∙ z)))

pub answer_numbers : AnswerNumbers
answer_numbers v = (refl, refl, refl, refl, refl)

-- an ACK is what it is
ack_is : (c : Answer) → cond (is_ack c) (Ok Reply.Ack) c ≡ c
ack_is (Ok Reply.Ack) = refl
ack_is (Ok Reply.Nack) = refl
ack_is (Ok Reply.Nav) = refl
ack_is (Ok (Reply.Report v)) = refl
ack_is (Err e) = refl

pub joined_is : Joined
unfolding joined any_wrong first_other
joined_is a b c = grind (arith, common_steps)

-- the panel's own answer
own_said : (p : List ℕ) (v : ℕ) → says_to p (answer_to p v) ≡ value_to p v
own_said p v = rw (same_self (answer_to p v))

own_each : (ps : List (List ℕ)) (vs : List ℕ) → each_to says_to ps (each_to answer_to ps vs) ≡ each_to value_to ps vs
own_each [] vs = refl
own_each (p ∷ ps) [] = refl
own_each (p ∷ ps) (v ∷ vs) = grind (arith, common_steps, own_each ps vs, own_said)

each_many : (ps : List (List ℕ)) (vs : List ℕ) → length vs ≡ length ps → length (each_to answer_to ps vs) ≡ length ps
each_many [] vs n = refl
each_many (p ∷ ps) [] n = n
each_many (p ∷ ps) (v ∷ vs) n = ap suc (each_many ps vs (omega arith))

pub read_back : ReadBack
read_back r vs z n = grind (arith, common_steps, heard_all, each_to, answer_to, packets_of, each_many, own_each)

-- the sum of an answer is 0, so that no other byte may stand in one place
answer-sum : (p : List ℕ) (v : ℕ) → xor_all (answer_to p v) ≡ 0
answer-sum p v = summed-zero (0x21 ∷ get_or p 1 0 ∷ 0 ∷ 0 ∷ 4 ∷ 1 ∷ get_or p 7 0 ∷ v ∷ [])

spoiled-other : (s : Spoiling) (p : List ℕ) (v w : ℕ) → Spoils s (answer_to p v) → spoiled s (answer_to p v) ≡ answer_to p w → ⊥
unfolding spoiled Spoils
spoiled-other (changed i u) p v w (h, other) e = other (one-changed (answer_to p v) i u h (answer-sum p v) (ap xor_all e ∙ answer-sum p w))
spoiled-other (lost i) p v w h e = omega (arith, simp (length-append, length-take, length-drop) at (ap length e))
spoiled-other (added i u) p v w h e = omega (arith, simp (length-append, length-take, length-drop) at (ap length e))

spoiled-said : (s : Spoiling) (p : List ℕ) (v : ℕ) → Spoils s (answer_to p v) → says_to p (spoiled s (answer_to p v)) ≡ wrong
spoiled-said s p v h = rw (not_same _ _ (spoiled-other s p v (get_or (spoiled s (answer_to p v)) 7 0) h))

-- one that is wrong is enough
one_wrong : (ps before : List (List ℕ)) (x : List ℕ) (after : List (List ℕ)) → length before < length ps → says_to (get_or ps (length before) []) x ≡ wrong
    → any_wrong (each_to says_to ps (before ++ x ∷ after)) ≡ true
unfolding any_wrong
one_wrong [] before x after h e = absurd (omega arith)
one_wrong (p ∷ ps) [] x after h e = rw e
one_wrong (p ∷ ps) (b ∷ before) x after h e = rw (one_wrong ps before x after (omega arith) e) (or-true (is_wrong (says_to p b)))

pub spoiled-answer : SpoiledAnswer
unfolding joined
spoiled-answer r before after v s z h n = grind (arith, common_steps, packets_of, answer_to, length-append, heard_all, one_wrong, spoiled-said)

pub examples_004 : Examples004
unfolding translated_over packets_in packets_for qx_packet laid_over flatten heard_by heard_in answers_all asked.codes_for asked.asked_of asked.asked_by asked.picture_of asked.is_carried asked.data_for is_request is_taken found_from settings all_allowed within filled bursts_in bursts_up_to replies_to said_to value_says joined any_wrong first_other qx_answer message same is_heard xor_all ◌⊕◌
examples_004 = (refl, refl, refl, refl, refl, refl, refl, refl)
