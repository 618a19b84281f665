-- What the answers to a request's packets say. 004, 2.4 and 3.2.2; 02, A13.
use Rattle.std.specs.Prelude.{ℕ, Bool, true, false, not, cond, ◌&&◌, ◌||◌, List, [], ◌∷◌, length, get_or, ltb, eqb, Option, Some, None, Result, Ok, Err}
use Rattle.lists.specs.Lists.{same}
use Rattle.bursts.specs.Bursts.{Bursts, bursts_in}
use Rattle.packet.specs.declared.MonitorId.{MonitorId}
use Rattle.requests.specs.declared.Request.{Request}
use Rattle.qx.specs.declared.Reply.{Reply}
use Rattle.qx.specs.declared.NoAnswer.{NoAnswer}
use Rattle.qx.specs.Message.{qx_answer}
use Rattle.qx.specs.Asked.{asked_of, codes_for, power_get}

-- what an answer says, or that it is none
abbrev pub Answer : Type 0
Answer = Result Reply NoAnswer

-- an answer that is none is refused, and 0 stands for all others
abbrev pub reply_number : Answer → ℕ
reply_number (Ok r) = 0
reply_number (Err none) = 35

abbrev pub wrong : Answer
wrong = Err record {}

-- 3 and 4 in answer to any command code, 1 and 2 to the get of power, 0 to a set
unfoldable pub value_says : ℕ → ℕ → Answer
value_says code v = cond (eqb v 3) (Ok Reply.Nack)
    (cond (eqb v 4) (Ok Reply.Nav)
    (cond (eqb code power_get) (cond (eqb v 1 || eqb v 2) (Ok (Reply.Report v)) wrong) (cond (eqb v 0) (Ok Reply.Ack) wrong)))

-- an answer is, byte by byte, the message of the panel that was asked, with the command code of its own packet and a value
unfoldable pub said_to : MonitorId → ℕ → List ℕ → Answer
said_to id code answer = let v = get_or answer 7 0 in cond (same answer (qx_answer id (code ∷ v ∷ []))) (value_says code v) wrong

-- each answer to the command code of its own packet
unfoldable pub replies_to : MonitorId → List ℕ → List (List ℕ) → List Answer
replies_to id [] answers = []
replies_to id (code ∷ codes) [] = []
replies_to id (code ∷ codes) (answer ∷ answers) = said_to id code answer ∷ replies_to id codes answers

abbrev pub is_wrong : Answer → Bool
is_wrong r = not (eqb (reply_number r) 0)

abbrev pub is_ack : Answer → Bool
is_ack (Ok Reply.Ack) = true
is_ack (Ok Reply.Nack) = false
is_ack (Ok Reply.Nav) = false
is_ack (Ok (Reply.Report v)) = false
is_ack (Err e) = false

unfoldable pub any_wrong : List Answer → Bool
any_wrong [] = false
any_wrong (r ∷ rs) = is_wrong r || any_wrong rs

-- ACK where all are
unfoldable pub first_other : List Answer → Answer
first_other [] = Ok Reply.Ack
first_other (r ∷ rs) = cond (is_ack r) (first_other rs) r

-- 35 if any is 35, ACK if all are ACK, else the first that is not
unfoldable pub joined : List Answer → Answer
joined rs = cond (any_wrong rs) wrong (first_other rs)

-- an answer to each packet, and none cut short
unfoldable pub answers_all : List ℕ → Bursts → Bool
answers_all codes list = not list.cut && eqb (length list.whole) (length codes)

-- what a panel says in a list of answers to packets with these command codes
unfoldable pub heard_in : MonitorId → List ℕ → Bursts → Option Answer
heard_in id codes list = cond (ltb 0 (length codes) && answers_all codes list) (Some (joined (replies_to id codes list.whole))) None

-- the answers stand one behind the other, each behind its length
unfoldable pub heard_by : Request → List ℕ → Option Answer
heard_by r bytes = heard_in r.id (codes_for (asked_of r)) (bursts_in bytes)
